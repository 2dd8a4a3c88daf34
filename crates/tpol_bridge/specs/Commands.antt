-- What each command does with what was read of the source.
use Rattle.std.specs.Prelude.{ℕ, List}
use Rattle.tpol_base.specs.declared.document.Document.{Document}
use Rattle.tpol_bridge.specs.Adopt.{adopt_step}
use Rattle.tpol_bridge.specs.Differences.{differences_step}
use Rattle.tpol_bridge.specs.Digests.{digests_step}
use Rattle.tpol_bridge.specs.FapiText.{fapi_text_step}
use Rattle.tpol_bridge.specs.Steps.{steps_step}
use Rattle.tpol_bridge.specs.Words.{reads_source_for, request_of, uses_shelf_for}
use Rattle.tpol_bridge.specs.declared.request.Request.{Request}
use Rattle.tpol_bridge.specs.declared.request.Request.TheVariants.{Adopt, Differences, Digests, Export, Steps, Who}
use Rattle.tpol_front.specs.Commands.{Commands}
use Rattle.tpol_steps.specs.declared.answer.Answer.{Answer}
use Rattle.tpol_steps.specs.Steps.{Step}
use Rattle.tpol_who.specs.Who.{who_step}

-- one equation a command
abbrev pub request_step : Request → List ℕ → List Document → Step Answer
request_step Adopt input all = adopt_step input
request_step Export input all = fapi_text_step input
request_step Differences input all = differences_step input
request_step (Digests scene) input all = digests_step scene input all
request_step (Steps position scene) input all = steps_step position scene input all
request_step Who input all = who_step input all

-- the shelf's documents afterwards, which no command changes
abbrev pub documents_after : Request → List ℕ → List Document → List Document
documents_after request input all = all

-- the commands of the program
abbrev pub bridge_commands : Commands Request
bridge_commands = record {
  command_of = request_of;
  reads = reads_source_for;
  uses = uses_shelf_for;
  step = request_step;
  documents_after = documents_after;
}
