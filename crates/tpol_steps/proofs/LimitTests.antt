-- What the limits of paths ask, as tests.
use Rattle.std.proofs.Common.{◌≡◌, ◌<◌, Bool, true, false, List, length, Any, refl}
use Rattle.std.proofs.lemmas.Bool.Decides.{Decides-ltb}
use Rattle.std.proofs.lemmas.List.Folds.{Any-from_list_any, list_any-from_Any}
use Rattle.std.specs.List.{list_any}
use Rattle.tpol_steps.specs.Limits.{is_too_long}
use Rattle.tpol_tree.specs.declared.path.Path.{Path}

-- some path is too long
pub any_too_long : (paths : List Path) → Any (λ path. 512 < length path.moves) paths → list_any is_too_long paths ≡ true
any_too_long paths found =
    list_any-from_Any is_too_long paths (found.0, found.1, found.2, found.3, (Decides-ltb 512 (length found.1.moves)).1 found.4)

false_by_refusal : (test : Bool) → (test ≡ true → ⊥) → test ≡ false
false_by_refusal true refused = absurd (refused refl)
false_by_refusal false refused = refl

-- no path is too long
pub none_too_long : (paths : List Path) → (Any (λ path. 512 < length path.moves) paths → ⊥) → list_any is_too_long paths ≡ false
none_too_long paths none =
    false_by_refusal (list_any is_too_long paths) (λ e.
    let found = Any-from_list_any is_too_long paths e in
    none (found.0, found.1, found.2, found.3, (Decides-ltb 512 (length found.1.moves)).0 found.4))
