use Rattle.std.proofs.Common.{◌≡◌, ℕ, ◌<◌, List, length, get_or, All, subst, sym, arith}
use Rattle.std.proofs.lemmas.Grind.{common_steps}
use Rattle.std.proofs.lemmas.List.Concat.{flat_map-append}
use Rattle.tpol_store.specs.Stores.{IsReadable}
use Rattle.tpol_store.proofs.store.Store.compiled_approvals.Goals as goal

one_of : {X : Type 0} (P : X → Type 0) (xs ys : List X) (i : ℕ) (x : X) → xs ≡ ys → i < length xs → x ≡ get_or xs i x → All P ys → P x
one_of P xs ys i x same within is all = subst P (sym is) (subst (All P) (sym same) all i x within)

pub loop-document-preserved : goal.loop-document-preserved
loop-document-preserved c = record {
  documents = grind (arith, common_steps, flat_map-append);
  form = λ readable. c.in_ok-push_compiled.ensures.form (one_of IsReadable _ _ _ _ c.documents-document-items.ensures.documents c.loop-document-test.true c.document-item.is readable) (c.loop-document.invariant.form readable);
  bounded = λ readable. c.in_ok-push_compiled.ensures.bounded (one_of IsReadable _ _ _ _ c.documents-document-items.ensures.documents c.loop-document-test.true c.document-item.is readable) (c.loop-document.invariant.bounded readable);
}
