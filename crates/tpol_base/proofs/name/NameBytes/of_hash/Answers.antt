use Rattle.std.proofs.Common.{ℕ, List, ◌∷◌, append-nil, ap, ◌∙◌, take, take_all, arith}
use Rattle.tpol_base.proofs.name.NameBytes.of_hash.Goals as goal

pub returns : goal.returns
returns c =
    let copied = c.copy_from_slice.new.self in
    ap (λ (xs : List ℕ). 0 ∷ 11 ∷ xs)
    (ap (take 32) (append-nil copied) ∙ take_all 32 copied (omega (arith, c.copy_from_slice.ensures.len)) ∙ c.copy_from_slice.ensures.after)
