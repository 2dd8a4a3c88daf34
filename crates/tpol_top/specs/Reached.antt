-- How far a run comes before it asks the shelf.
use Rattle.std.specs.Prelude.{ℕ, ⊤, List, IsOk}
use Rattle.tpol_front.specs.Reached as front
use Rattle.tpol_prepare.specs.Scenario.{IsSceneFor}
use Rattle.tpol_steps.specs.ReadStep.{read_step}
use Rattle.tpol_top.specs.declared.request.Request.{Request}
use Rattle.tpol_top.specs.declared.request.Request.TheVariants.{Check, Perform, Generate}
use Rattle.tpol_top.specs.Commands.{policy_commands}
use Rattle.tpol_top.specs.Words.{request_of}

-- the bytes are the document that a command reads: a scene that begins no more runs than may be driven so, or a
-- policy; a certificate is looked at last
abbrev pub IsDocumentFor : Request → List ℕ → Type 0
IsDocumentFor (Check name scene) input = ⊤
IsDocumentFor (Perform manner) input = IsSceneFor manner input
IsDocumentFor (Generate ors order) input = ⊥
IsDocumentFor request input = IsOk (read_step input)

-- the same of the command that the words are, where they are not too large
abbrev pub IsReadableOf : List (List ℕ) → List ℕ → Type 0
IsReadableOf words input = front.IsReadableOf policy_commands IsDocumentFor (request_of words) input
