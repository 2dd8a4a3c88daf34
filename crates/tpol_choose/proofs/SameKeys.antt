-- Keys that are the same.
use Rattle.std.proofs.Common.{◌≡◌, ℕ, List, true, bytes_eq, refl, sym, ap, ◌∙◌}
use Rattle.std.proofs.lemmas.Slice.Eq.{bytes_eq-Decides}
use Rattle.tpol_choose.specs.Keys.{is_same_block}
use Rattle.tpol_hash.specs.Hmac.{block_key}

-- they have the same block
pub same_key : (a b : List ℕ) → bytes_eq a b ≡ true → is_same_block a b ≡ true
same_key a b same =
    ap (λ k. bytes_eq (block_key a) (block_key k)) (sym ((bytes_eq-Decides a b).0 same))
    ∙ (bytes_eq-Decides (block_key a) (block_key a)).1 refl
