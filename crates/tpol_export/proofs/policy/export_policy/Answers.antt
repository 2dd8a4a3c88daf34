use Rattle.std.proofs.Common.{◌≡◌, ◌∙◌, List, ℕ, false, Result, Ok, Err, Some, None, ap, sym}
use Rattle.std.specs.Prelude.{IfOk}
use Rattle.serde_json.specs.View.{view}
use Rattle.serde_json.specs.Written.{compact_text, has_float}
use Rattle.tpol_base.specs.declared.no_memory.NoMemory.{NoMemory}
use Rattle.tpol_write.proofs.Floats.{policy_none}
use Rattle.tpol_export.proofs.SpelledFloats.{spelling_none}
use Rattle.tpol_export.proofs.policy.export_policy.Goals as goal
use Rattle.tpol_export.specs.Spelling.{policy_spelling, spelled}
use Rattle.tpol_export.specs.Text.{export_text}
use Rattle.tpol_export.specs.declared.rules.Part.TheVariants.{Document}
use Rattle.tpol_json.specs.Document.{document_of}
use Rattle.tpol_write.specs.Canonical.{policy_value}

copied : (P : List ℕ → Type 0) (r : Result (List ℕ) NoMemory) (source : List ℕ) → IfOk r (λ bytes. bytes ≡ source) → P source → IfOk r P
copied P (Ok bytes) source is holds = rw is holds
copied P (Err e) source is holds = tt

pub returns-in-Ok : goal.returns-in-Ok
returns-in-Ok c =
    let p = c.args.policy.now in
    let law = c.canonical_values_stand.ensures c.requires.0 p c.requires.1 c.requires.2 in
    let is : document_of c.as_slice.result.now ≡ Some (policy_value p) = ap document_of c.as_slice.ensures ∙ c.in_ok-canonical.ensures.reads law.1 in
    let same : Some (view c.in-Ok.value) ≡ Some (policy_value p) = sym c.in-Ok.ensures.value ∙ is in
    let value : view c.in-Ok.value ≡ policy_value p = cc in
    let spelling : view c.in_ok-spelled-in-Ok.field-0 ≡ policy_spelling p = c.in_ok-spelled-in-Ok.ensures.exact ∙ ap spelled value in
    let none : has_float (view c.in_ok-spelled-in-Ok.field-0) ≡ false = ap has_float spelling ∙ spelling_none Document (policy_value p) (policy_none p) in
    record {
      text = copied (λ t. t ≡ export_text p) c.from_slice.result c.as_bytes.result.now c.from_slice.ensures
          (c.as_bytes.ensures.value ∙ c.as_str.ensures.value ∙ c.in_ok-text-in-Ok.ensures.text none ∙ ap compact_text spelling);
    }

pub unreachable-requires : goal.unreachable-requires
unreachable-requires c =
    let p = c.args.policy.now in
    let law = c.canonical_values_stand.ensures c.requires.0 p c.requires.1 c.requires.2 in
    let is : document_of c.as_slice.result.now ≡ Some (policy_value p) = ap document_of c.as_slice.ensures ∙ c.in_ok-canonical.ensures.reads law.1 in
    let none : document_of c.as_slice.result.now ≡ None = c.parse.ensures.refused (c.in-Err-NotJson.is ∙ ap Err c.in-Err-NotJson.field-0-is) in
    cc
