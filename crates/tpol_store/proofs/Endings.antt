-- What stands before the ending of a name.
use Rattle.std.proofs.Common.{◌≡◌, refl, sym, Bor, arith, true, false}
use Rattle.std.specs.Prelude.{ℕ, List, codes, Option, Some, None, MatchOption, option_map}
use Rattle.std.specs.Str.Pattern.{FindsTextSuffix, StripsSuffix}
use Rattle.std.proofs.lemmas.Str.Pattern.{ends_text}
use Rattle.tpol_store.specs.FileNames.{without_ending}

pub stripped : (file : List ℕ) (r : Option (Bor (List ℕ))) → MatchOption r (FindsTextSuffix (codes ".json") file None) (λ x. StripsSuffix (FindsTextSuffix (codes ".json")) file x.now) → option_map (λ name. name.now) r ≡ without_ending file
stripped file None lacks = rw (sym (ends_text false (codes ".json") file lacks)) refl
stripped file (Some x) (n, finds, taken, long) =
    rw (sym (ends_text true (codes ".json") file (n, finds, omega (arith, long), rw finds.0 finds.2)), taken, finds.0) refl
