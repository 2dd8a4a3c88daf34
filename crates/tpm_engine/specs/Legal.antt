-- What a machine answers, told by its journal: the answers over the views, and the journals that machines
-- have.
use Rattle.std.specs.Prelude.{◌≡◌, ℕ, List, [], ◌∷◌, Option, ⊤}
use Rattle.tpol_name.specs.declared.setup.Setup.{Setup}
use Rattle.tpm_engine.specs.declared.event.Event.{Event}
use Rattle.tpm_engine.specs.declared.event.Event.TheVariants as events
use Rattle.tpm_engine.specs.declared.opened.Opened.{Opened}
use Rattle.tpm_engine.specs.Answers.{answer, opened_of}
use Rattle.tpm_engine.specs.Events.{Answered}
use Rattle.tpm_engine.specs.Tables.{TableState}
use Rattle.tpm_engine.specs.Views.{next_number, view_of}

-- the answer to the bytes of a client at this locality, after these events
abbrev pub answer_to : Setup → List Event → ℕ → List ℕ → Answered
answer_to setup past locality buffer = answer (view_of setup past) (next_number past) locality buffer

-- and what a policy session opens by them, if one does
abbrev pub opened_to : Setup → List Event → ℕ → List ℕ → Option Opened
opened_to setup past locality buffer = opened_of (view_of setup past) (next_number past) locality buffer

-- an event has the answer that the events before it tell; a change of the surroundings has none
abbrev pub IsAnswered : Setup → List Event → Event → Type 0
IsAnswered setup past (events.Command client locality buffer reply outcome) =
    answer_to setup past locality buffer ≡ record { reply = reply; outcome = outcome }
IsAnswered setup past (events.Time ms) = ⊤
IsAnswered setup past (events.Presence on) = ⊤
IsAnswered setup past events.Reset = ⊤

-- each event of a journal has its answer
unfoldable pub IsLegal : Setup → List Event → Type 0
IsLegal setup [] = ⊤
IsLegal setup (event ∷ past) = IsAnswered setup past event × IsLegal setup past

-- what holds of a machine: its tables are those that the views tell, and its journal is legal
pub record IsMachine (setup : Setup) (past : List Event) (kept : TableState) : Type 0 where
  pub tables : kept ≡ view_of setup past
  pub legal : IsLegal setup past
