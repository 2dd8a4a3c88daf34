use Rattle.std.proofs.Common.{◌≡◌, ◌≤◌, ◌++◌, ◌∙◌, ap, subst, Some}
use Rattle.std.specs.Str.{IsUtf8}
use Rattle.json.specs.Lex.{tokens}
use Rattle.json.specs.Print.{print}
use Rattle.serde_json.proofs.Texts.{print-outline}
use Rattle.tpol_json.specs.Document.{document_of}
use Rattle.tpol_write.specs.Canonical.{policy_value}
use Rattle.tpol_write.specs.Drafts.{tokens_of}
use Rattle.tpol_write.specs.Laws.{StandsAlone}
use Rattle.tpol_write.specs.Levels.{levels_of_elements}
use Rattle.tpol_write.proofs.Depths.{policy_depth}
use Rattle.tpol_write.proofs.Printed.{document_is}
use Rattle.tpol_write.proofs.Stands.{stands}
use Rattle.tpol_write.proofs.policy.write_policy_in.Goals as goal

written : (c : goal.After-into_blob) → c.write_document.new.draft ≡ tokens_of (policy_value c.args.policy.now)
written c =
    let whole = tokens_of (policy_value c.args.policy.now) in
    c.in_ok-write_document.ensures.tokens.is ∙ ap (λ ts. ts ++ whole) c.new-draft.ensures

document : (c : goal.After-into_blob) → levels_of_elements c.args.policy.now.elements ≤ 16 → document_of c.into_blob.result ≡ Some (policy_value c.args.policy.now)
document c few =
    let p = c.args.policy.now in
    let same = written c in
    ap document_of (c.into_blob.ensures.text ∙ ap print same)
    ∙ document_is (policy_value p) (subst (λ ts. tokens (print ts) ≡ ts) same c.into_blob.ensures.reads) (subst (λ ts. IsUtf8 (print ts)) same c.into_blob.ensures.utf8)
    c.in_ok-write_document.ensures.reads (policy_depth p few)

pub returns-clause-text : goal.returns-clause-text
returns-clause-text c = c.into_blob.ensures.text ∙ ap print (written c) ∙ print-outline (policy_value c.args.policy.now)

pub returns-clause-reads : goal.returns-clause-reads
returns-clause-reads c = document c

pub returns-clause-stands : goal.returns-clause-stands
returns-clause-stands c =
    let p = c.args.policy.now in
    let alone : StandsAlone c.into_blob.result p = λ d notes says.
    let law = stands d p notes says in
    (policy_value p, document c law.1, law.0) in
    alone
