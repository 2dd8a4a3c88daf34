-- The step that loads the store of the shelf.
use Rattle.std.specs.Prelude.{List, codes, Some, Ok, Err}
use Rattle.tpol_base.specs.declared.document.Document.{Document}
use Rattle.tpol_store.specs.Loading.{Loading, Refusal, TooMany, TooLarge, NotJson, Bad, store_of}
use Rattle.tpol_store.specs.Stores.{NamedPolicy}
use Rattle.tpol_steps.specs.declared.answer.Answer.{Answer}
use Rattle.tpol_steps.specs.declared.answer.Verdict.TheVariants as verdicts
use Rattle.tpol_steps.specs.Answer.{one_line}
use Rattle.tpol_steps.specs.Refusals.{bad_policy, policy_kind_name, policy_not_json, too_large_in}
use Rattle.tpol_steps.specs.Steps.{Step}

-- the answer of a shelf that has no store
abbrev pub store_refusal : Refusal → Answer
store_refusal TooMany = one_line (codes "error TooLarge documents") verdicts.TooLarge
store_refusal (TooLarge name) = too_large_in name
store_refusal (NotJson name) = policy_not_json (Some name)
store_refusal (Bad name fault) = bad_policy (policy_kind_name fault.0) (Some name) fault.1

abbrev pub unless_refused : Loading (List NamedPolicy) → Step (List NamedPolicy)
unless_refused (Ok store) = Ok store
unless_refused (Err refusal) = Err (store_refusal refusal)

-- the documents of the shelf
unfoldable pub store_step : List Document → Step (List NamedPolicy)
store_step all = unless_refused (store_of all)
