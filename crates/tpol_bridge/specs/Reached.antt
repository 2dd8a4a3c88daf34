-- How far a run comes before it asks the shelf.
use Rattle.std.specs.Prelude.{ℕ, List, IsOk}
use Rattle.tpol_bridge.specs.Commands.{bridge_commands}
use Rattle.tpol_bridge.specs.Exports.{export_step}
use Rattle.tpol_bridge.specs.Words.{request_of}
use Rattle.tpol_bridge.specs.declared.request.Request.{Request}
use Rattle.tpol_bridge.specs.declared.request.Request.TheVariants.{Who}
use Rattle.tpol_front.specs.Reached as front
use Rattle.tpol_prepare.specs.Scenario.{IsSceneFor}
use Rattle.tpol_prepare.specs.declared.manner.Manner.TheVariants.{Run}
use Rattle.tpol_prepare.specs.declared.manner.Way.TheVariants.{Sighted}

-- the bytes are the document that a command reads: a scene, or an export that says a policy
abbrev pub IsDocumentFor : Request → List ℕ → Type 0
IsDocumentFor Who input = IsSceneFor (Run Sighted) input
IsDocumentFor request input = IsOk (export_step input)

-- the same of what the words are, where they are a command, of bytes that are not too large
abbrev pub IsReadableOf : List (List ℕ) → List ℕ → Type 0
IsReadableOf words input = front.IsReadableOf bridge_commands IsDocumentFor (request_of words) input
