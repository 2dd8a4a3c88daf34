-- The step that reads the document in the source.
use Rattle.std.specs.Prelude.{ℕ, List, [], ◌∷◌, Option, Some, None, Ok, Err}
use Rattle.serde_json.specs.Data.{Data}
use Rattle.tpol_json.specs.declared.place.Place.{Place}
use Rattle.tpol_json.specs.Document.{document_of}
use Rattle.tpol_read.specs.Documents.{policy_faults, policy_of}
use Rattle.tpol_members.specs.Faults.{Fault, Found}
use Rattle.tpol_steps.specs.declared.answer.Answer.{Answer}
use Rattle.tpol_steps.specs.Refusals.{bad_policy, policy_kind_name, policy_not_json}
use Rattle.tpol_steps.specs.Steps.{Step}
use Rattle.tpol_tree.specs.declared.policy.Policy.{Policy}

-- the answer of a fault
abbrev pub policy_refusal : Fault → Answer
policy_refusal fault = bad_policy (policy_kind_name fault.0) None fault.1

-- what the document says, unless there is a fault: then the first one ends the run
abbrev pub unless_refused : List Fault → Found (Policy × List Place) → Step (Policy × List Place)
unless_refused [] (Ok found) = Ok found
unless_refused [] (Err fault) = Err (policy_refusal fault)
unless_refused (fault ∷ faults) found = Err (policy_refusal fault)

abbrev pub read_document : Option Data → Step (Policy × List Place)
read_document None = Err (policy_not_json None)
read_document (Some d) = unless_refused (policy_faults d) (policy_of d)

-- the policy that the bytes are the document of, with its notes
unfoldable pub read_step : List ℕ → Step (Policy × List Place)
read_step input = read_document (document_of input)
