-- Tickets that are kept: a ticket that a run was answered with is shown by the later runs of its client, in place of the
-- secret or the signature that it stands for (TPM 2.0 Part 3, PolicyTicket), up to its deadline and until the next Reset.
use Rattle.std.specs.Prelude.{ℕ, ◌==◌, ◌&&◌, Bool, false, not, nat_le, List, [], ◌++◌, map}
use Rattle.std.specs.List.{filter}
use Rattle.std.specs.Option.{option_map_or}
use Rattle.tpol_base.specs.Handle.{is_index}
use Rattle.tpol_driver.specs.declared.tickets.HeldTicket.{HeldTicket}
use Rattle.tpol_goal.specs.Entities.{entity_of_name}
use Rattle.tpol_name.specs.declared.entries.DirEntry.{DirEntry}
use Rattle.tpol_name.specs.declared.sight.Sight.{Sight}
use Rattle.tpol_perform.specs.declared.tickets.Kept.{Kept}
use Rattle.tpol_perform.specs.Performance.{PerformanceState}
use Rattle.tpol_prepare.specs.declared.manner.Way.{Way}
use Rattle.tpol_prepare.specs.declared.manner.Way.TheVariants.{Blind, Sighted, WithTickets}

-- ---- what is kept

-- that of PolicySecret on an index; the Name of an index changes when it is first written, and a ticket is for a Name
abbrev pub is_of_index : List DirEntry → HeldTicket → Bool
is_of_index directory ticket = not ticket.signed && option_map_or is_index (entity_of_name directory ticket.key) false

-- those of a client's run that are kept, of the tickets that it has earned
abbrev pub kept_of : List DirEntry → ℕ → List HeldTicket → List Kept
kept_of directory client earned =
    map (λ ticket. record { client = client; ticket = ticket })
    (filter (λ ticket. not (is_of_index directory ticket)) earned)

-- a run of this client is over, however it ended: the tickets that it has earned go behind those kept before
abbrev pub with_kept : List DirEntry → ℕ → List HeldTicket → PerformanceState → PerformanceState
with_kept directory client earned p = record p { kept = p.kept ++ kept_of directory client earned }

-- ---- what is shown

-- of this client, answered since the last Reset, with a deadline that has not passed
abbrev pub is_usable : ℕ → Sight → Kept → Bool
is_usable client sight kept =
    kept.client == client && (kept.ticket.reset_count == sight.reset_count && nat_le sight.time kept.ticket.deadline)

-- the tickets that this client can use on what the machine shows, in the order of keeping
abbrev pub tickets_for : ℕ → Sight → List Kept → List HeldTicket
tickets_for client sight kept = map (λ entry. entry.ticket) (filter (is_usable client sight) kept)

-- those that a run is given when it begins, by how runs are driven
abbrev pub tickets_given : Way → ℕ → Sight → List Kept → List HeldTicket
tickets_given Sighted client sight kept = []
tickets_given Blind client sight kept = []
tickets_given WithTickets client sight kept = tickets_for client sight kept
