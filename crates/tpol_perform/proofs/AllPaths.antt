-- All paths of a policy, one after another.
use Rattle.std.proofs.Common.{◌≡◌, ℕ, ◌+◌, ◌-◌, ◌∙◌, sym, ap, List, [], ◌∷◌, ◌++◌, take, Some, slice_get, arith}
use Rattle.std.proofs.lemmas.List.{take_more}
use Rattle.std.proofs.lemmas.Option.{get_or_from_slice_get, slice_get_within}
use Rattle.tpol_tree.specs.declared.path.Path.{Path}

-- one path more
pub taken_step : (paths taken : List Path) (index : ℕ) (path : Path) → taken ≡ take index paths → slice_get paths (index + 1 - 1) ≡ Some path → taken ++ path ∷ [] ≡ take (index + 1) paths
taken_step paths taken index path so there =
    let e : index + 1 - 1 ≡ index = omega arith in
    let at : slice_get paths index ≡ Some path = ap (slice_get paths) (sym e) ∙ there in
    ap (λ l. l ++ path ∷ []) so
    ∙ ap (λ (x : Path). take index paths ++ x ∷ []) (sym (get_or_from_slice_get paths index path path at))
    ∙ sym (take_more paths index path (slice_get_within paths index path at))
