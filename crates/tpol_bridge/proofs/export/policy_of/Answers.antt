use Rattle.std.proofs.Common.{◌≡◌, true, Some, ap, ◌∙◌}
use Rattle.std.proofs.lemmas.Str.{is_utf8-from_IsUtf8}
use Rattle.std.specs.Str.{is_utf8}
use Rattle.serde_json.specs.Read.{read}
use Rattle.serde_json.specs.View.{view}
use Rattle.tpol_adopt.specs.Normal.{normal}
use Rattle.tpol_bridge.proofs.ReadFirst.{text_read}
use Rattle.tpol_json.specs.Document.{document_of}
use Rattle.tpol_bridge.proofs.export.policy_of.Goals as goal

pub returns-clause-answer : goal.returns-clause-answer
returns-clause-answer c =
    let d = normal (view c.args.document.now) in
    let text = c.as_bytes.result.now in
    let utf8 : is_utf8 text ≡ true = is_utf8-from_IsUtf8 text c.as_bytes.ensures.utf8 in
    let whole : read text ≡ Some d = ap read (c.as_bytes.ensures.value ∙ c.as_str.ensures.value) ∙ c.in_ok-text.ensures in
    let document : document_of text ≡ Some d = rw utf8 whole in
    rw (text_read text d document) at c.read_document.ensures.answer
