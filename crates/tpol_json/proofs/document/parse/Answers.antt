use Rattle.std.proofs.Common.{◌≡◌, Option, None, Bool, true, false, if◌then◌else◌, refl, sym, ◌∙◌, true≢false}
use Rattle.std.proofs.lemmas.Str.{IsUtf8-from_is_utf8, is_utf8-from_IsUtf8}
use Rattle.std.specs.Str.{is_utf8}
use Rattle.serde_json.specs.Data.{Data}
use Rattle.serde_json.specs.Read.{read}
use Rattle.tpol_json.proofs.document.parse.Goals as goal

-- a text that is read nowhere
none-if : (b : Bool) (d : Option Data) → (b ≡ true → d ≡ None) → (if b then d else None) ≡ None
none-if true d none = none refl
none-if false d none = refl

pub returns-in-Ok-clause-value : goal.returns-in-Ok-clause-value
returns-in-Ok-clause-value c =
    let utf8 = is_utf8-from_IsUtf8 c.args.bytes.now c.in-Ok.ensures.ok.0 in
    rw utf8 c.in-Ok.ensures.ok.1

pub returns-else-is_memory-clause-refused : goal.returns-else-is_memory-clause-refused
returns-else-is_memory-clause-refused c = λ _. none-if (is_utf8 c.args.bytes.now) (read c.args.bytes.now) (λ utf8. c.in-Err.ensures.err (λ memory. absurd (true≢false (sym (c.is_memory.ensures.1 memory) ∙ c.if-is_memory.false))) (IsUtf8-from_is_utf8 c.args.bytes.now utf8))
