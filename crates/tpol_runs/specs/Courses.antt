-- What a run does next, and what a reply makes of it.
use Rattle.std.specs.Prelude.{ℕ, List, [], ◌++◌, map, Option, Some, None}
use Rattle.std.specs.List.{fold}
use Rattle.tpol_driver.specs.declared.blind_plan.BlindPlan.{BlindPlan}
use Rattle.tpol_driver.specs.declared.plan.Plan.{Plan}
use Rattle.tpol_driver.specs.declared.tickets.HeldTicket.{HeldTicket}
use Rattle.tpol_driver.specs.Blind as blind
use Rattle.tpol_driver.specs.Blind.{BlindDrive, BlindStanding, blind_hears, blind_sends}
use Rattle.tpol_driver.specs.Driving.{Drive, Sends, Ends, Standing, Starting, Over, hears, sends}
use Rattle.tpol_runs.specs.declared.after.After.{After}
use Rattle.tpol_runs.specs.declared.after.After.TheVariants as afters
use Rattle.tpol_runs.specs.declared.ended.Ended.{Ended}
use Rattle.tpol_runs.specs.declared.ended.Ended.TheVariants as ends
use Rattle.tpol_runs.specs.declared.sent.Sent.{Sent}
use Rattle.tpol_runs.specs.Earned.{earned_at}
use Rattle.tpol_runs.specs.Underway.{Blind, Driven, Driver, Sighted, Underway}
use Rattle.tpol_wire.specs.declared.command.Command.{Command}
use Rattle.tpol_wire.specs.Commands.{spelling}

-- before the first command: on one path, and on the paths of the policy of this name
abbrev pub begun : ℕ → ℕ → Plan → Underway
begun client locality plan = record {
  client = client;
  locality = locality;
  driver = Sighted (record { plan = plan; standing = Starting; earned = [] });
}

abbrev pub begun_blind : ℕ → ℕ → List ℕ → BlindPlan → Underway
begun_blind client locality policy plan =
    record { client = client; locality = locality; driver = Blind policy (record { plan = plan; standing = blind.Starting }) }

-- ---- the next command

abbrev pub command_in : Drive → Option Command
command_in (Sends command) = Some command
command_in (Ends end) = None

abbrev pub blind_command_in : BlindDrive → Option Command
blind_command_in (blind.Sends command) = Some command
blind_command_in (blind.Ends end) = None

-- what is over sends nothing
abbrev pub command_of : Driver → Option Command
command_of (Sighted driven) = command_in (sends driven.plan driven.standing)
command_of (Blind policy driving) = blind_command_in (blind_sends driving.plan driving.standing)

abbrev pub sent_in : Underway → Option Command → Option Sent
sent_in run None = None
sent_in run (Some command) =
    Some (record { client = run.client; locality = run.locality; buffer = spelling command })

abbrev pub sent_by : Underway → Option Sent
sent_by run = sent_in run (command_of run.driver)

abbrev pub next_of : Option Underway → Option Sent
next_of None = None
next_of (Some run) = sent_by run

-- ---- the reply

-- where a driver on one path stands behind a reply that comes at this reset count of the machine
abbrev pub driven_on : Driven → ℕ → List ℕ → Driven
driven_on driven reset_count reply = record {
  plan = driven.plan;
  standing = hears driven.plan driven.standing reply;
  earned = driven.earned ++ earned_at driven.plan driven.standing reset_count reply;
}

-- where the driver stands behind it
abbrev pub heard_of : Driver → ℕ → List ℕ → Driver
heard_of (Sighted driven) reset_count reply = Sighted (driven_on driven reset_count reply)
heard_of (Blind policy driving) reset_count reply =
    Blind policy (record { plan = driving.plan; standing = blind_hears driving.plan driving.standing reply })

-- the end of a run, where its driver is at its end
abbrev pub sighted_end : List HeldTicket → Standing → Option Ended
sighted_end earned (Over end) = Some (ends.Sighted end earned)
sighted_end earned _ = None

abbrev pub blind_end : List ℕ → BlindStanding → Option Ended
blind_end policy (blind.Over end) = Some (ends.Blind policy end)
blind_end policy _ = None

abbrev pub end_of : Driver → Option Ended
end_of (Sighted driven) = sighted_end driven.earned driven.standing
end_of (Blind policy driving) = blind_end policy driving.standing

abbrev pub goes_or_ends : Underway → Driver → Option Ended → After
goes_or_ends run driver None =
    afters.Goes (record { client = run.client; locality = run.locality; driver = driver })
goes_or_ends run driver (Some ended) = afters.Ends ended

-- the run where its driver stands here; at the driver's end it is over
abbrev pub stands_at : Underway → Driver → After
stands_at run driver = goes_or_ends run driver (end_of driver)

abbrev pub run_after : Underway → ℕ → List ℕ → After
run_after run reset_count reply = stands_at run (heard_of run.driver reset_count reply)

-- what was over hears nothing
abbrev pub heard_by : Option Underway → ℕ → List ℕ → Option After
heard_by None reset_count reply = None
heard_by (Some run) reset_count reply = Some (run_after run reset_count reply)

-- the end, where the reply led to it
abbrev pub end_told : Option After → Option Ended
end_told None = None
end_told (Some (afters.Goes run)) = None
end_told (Some (afters.Ends ended)) = Some ended

-- the run, where it goes on
abbrev pub goes_on : Option After → Option Underway
goes_on None = None
goes_on (Some (afters.Goes run)) = Some run
goes_on (Some (afters.Ends ended)) = None

-- ---- all replies, each with the reset count at which it comes

abbrev pub underway_at : Underway → Driver → Option Underway
underway_at run driver = goes_on (Some (stands_at run driver))

abbrev pub bytes_of : List (ℕ × List ℕ) → List (List ℕ)
bytes_of replies = map (λ reply. reply.1) replies

abbrev pub after_replies : Option Underway → List (ℕ × List ℕ) → Option Underway
after_replies run replies = fold (λ now reply. goes_on (heard_by now reply.0 reply.1)) run replies
