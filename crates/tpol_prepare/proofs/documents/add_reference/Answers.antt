use Rattle.std.proofs.Common.{◌∙◌, sym, subst}
use Rattle.std.proofs.lemmas.List.Elements.{All-push}
use Rattle.std.specs.Option.{option_copied}
use Rattle.std.specs.Prelude.{All}
use Rattle.tpol_store.specs.Stores.{policies_of}
use Rattle.tpol_prepare.proofs.FilledNames.{document_added}
use Rattle.tpol_steps.specs.Filled.{IsReadyDocument}
use Rattle.tpol_prepare.proofs.documents.add_reference.Goals as goal

pub returns-clause-answer : goal.returns-clause-answer
returns-clause-answer c =
    document_added (policies_of c.args.store.now) (option_copied c.args.sight) c.args.documents.now c.as_slice.result.now c.push.new.self
    c.args.reference.now c.as_str.result.now c.in_ok-document.document
    c.as_slice.ensures c.as_str.ensures (sym c.is_filled.ensures ∙ c.if-is_filled.false) c.in_ok-document.ensures.answer c.in_ok-push.ensures.ok

pub returns-clause-ready : goal.returns-clause-ready
returns-clause-ready c = λ readable before.
    subst (All IsReadyDocument) (sym c.in_ok-push.ensures.ok)
    (All-push IsReadyDocument c.args.documents.now c.in_ok-document.document before (c.in_ok-document.ensures.ready readable))
