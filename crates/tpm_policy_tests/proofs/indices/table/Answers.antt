use Rattle.std.proofs.Common.{◌≡◌, nat_eq, [], ◌∷◌, ◌++◌, map, refl, sym, ap, subst, ◌∙◌}
use Rattle.std.specs.List.{IsDistinct}
use Rattle.tpm_nv.proofs.FillLemmas.{handle_of}
use Rattle.tpm_policy_tests.proofs.indices.table.Goals as goal

pub new-requires-clause-handles : goal.new-requires-clause-handles
unfolding IsDistinct
new-requires-clause-handles c =
    let first = c.in_ok-index.field-0 in
    let second = c.in_ok-index-2.field-0 in
    let both = c.in_ok-push-2.ensures.ok ∙ ap (λ found. found ++ second ∷ []) (c.in_ok-push.ensures.ok ∙ ap (λ found. found ++ first ∷ []) c.new-indices.ensures) in
    let handles : map handle_of c.push-2.new.self ≡ 1 ∷ 2 ∷ [] =
    ap (map handle_of) both ∙ (λ i. c.in_ok-index.ensures.handle i ∷ c.in_ok-index-2.ensures.handle i ∷ []) in
    subst (IsDistinct nat_eq) (sym handles) ((refl, tt), (tt, tt))
