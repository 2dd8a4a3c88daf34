-- What each command does with what was read of the source.
use Rattle.std.specs.Prelude.{ℕ, List}
use Rattle.tpol_base.specs.declared.document.Document.{Document}
use Rattle.tpol_front.specs.Commands.{Commands}
use Rattle.tpol_top.specs.declared.request.Request.{Request}
use Rattle.tpol_top.specs.declared.request.Request.TheVariants.{Compile, Paths, Lint, Canon, Import, Check, Perform, Generate}
use Rattle.tpol_steps.specs.declared.answer.Answer.{Answer}
use Rattle.tpol_top.specs.Canon.{canon_step}
use Rattle.tpol_top.specs.Check.{check_step}
use Rattle.tpol_top.specs.Compile.{compile_step}
use Rattle.tpol_generate.specs.Generate.{generate_step}
use Rattle.tpol_top.specs.Import.{documents_after_import, import_step}
use Rattle.tpol_top.specs.Paths.{paths_step}
use Rattle.tpol_top.specs.declared.paths.PathView.TheVariants as views
use Rattle.tpol_perform.specs.Script.{perform_step}
use Rattle.tpol_steps.specs.Steps.{Step}
use Rattle.tpol_top.specs.Words.{reads_source_for, request_of, uses_shelf_for}

-- one equation a command
abbrev pub request_step : Request → List ℕ → List Document → Step Answer
request_step (Compile scene) input all = compile_step scene input all
request_step (Paths scene) input all = paths_step views.All scene input all
request_step (Lint scene) input all = paths_step views.Dead scene input all
request_step Canon input all = canon_step input
request_step (Import name) input all = import_step name input
request_step (Check name scene) input all = check_step name scene input all
request_step (Perform manner) input all = perform_step manner input all
request_step (Generate ors order) input all = generate_step ors order

-- the shelf's documents afterwards; `import` alone changes them
abbrev pub documents_after : Request → List ℕ → List Document → List Document
documents_after (Compile scene) input all = all
documents_after (Paths scene) input all = all
documents_after (Lint scene) input all = all
documents_after Canon input all = all
documents_after (Import name) input all = documents_after_import name input all
documents_after (Check name scene) input all = all
documents_after (Perform manner) input all = all
documents_after (Generate ors order) input all = all

-- the commands of the program
abbrev pub policy_commands : Commands Request
policy_commands = record {
  command_of = request_of;
  reads = reads_source_for;
  uses = uses_shelf_for;
  step = request_step;
  documents_after = documents_after;
}
