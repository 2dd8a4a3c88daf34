-- Names of which nothing is escaped.
use Rattle.std.proofs.Common.{◌≡◌, ℕ, List, [], ◌∷◌, ◌++◌, true, ◌==◌, refl, ap}
use Rattle.std.proofs.lemmas.Bool.{and_parts, eqb-false, ltb-false, not-true, or_parts}
use Rattle.std.specs.List.{list_all}
use Rattle.json.specs.Print.{escape, quoted}
use Rattle.json.specs.Run.{is_plain, is_stop}
use Rattle.json.proofs.Printed.Strings.{escape_byte_plain}

plain_escape : (name : List ℕ) → list_all is_plain name ≡ true → escape name ≡ name
plain_escape [] plain = refl
plain_escape (x ∷ rest) plain =
    let both = and_parts (is_plain x) (list_all is_plain rest) plain in
    let none = or_parts _ _ (not-true (is_stop x) both.0) in
    let tests = or_parts (x == 34) _ none.0 in
    let others = plain_escape rest both.1 in
    λ i. escape_byte_plain x (eqb-false x 34 tests.0) (eqb-false x 92 tests.1) (ltb-false x 32 none.1) i ++ others i

-- such a name is written as it is
pub plain_quoted : (name : List ℕ) → list_all is_plain name ≡ true → quoted name ≡ 34 ∷ (name ++ 34 ∷ [])
plain_quoted name plain = ap (λ n. 34 ∷ (n ++ 34 ∷ [])) (plain_escape name plain)
