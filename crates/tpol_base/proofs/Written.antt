-- What is told of a writer's bytes, over several writes.
use Rattle.std.proofs.Common.{◌≡◌, ℕ, ◌+◌, ◌-◌, List, ◌++◌, length, take, drop, take_all, subst, sym, ap, ◌∙◌, arith, length-drop}
use Rattle.std.proofs.KnownBytes.{Appends-trans}
use Rattle.std.proofs.Math.Seq.{take-add}
use Rattle.std.specs.Prelude.{Option}
use Rattle.std.specs.Io.KnownBytes.{Appends}

-- what a slice from place n on holds
slice_rest : (bytes : List ℕ) (n : ℕ) → take (length bytes - n) (drop n bytes) ≡ drop n bytes
slice_rest bytes n = take_all (length bytes - n) (drop n bytes) (omega (arith, length-drop n bytes))

-- the first n bytes, and then the first m of those from place n on, are the first n + m
pub first_parts : (a b c : Option (List ℕ)) (bytes : List ℕ) (n m : ℕ) → Appends a b (take n bytes) → Appends b c (take m (take (length bytes - n) (drop n bytes))) → Appends a c (take (n + m) bytes)
first_parts a b c bytes n m first second =
    subst (Appends a c) (ap (λ rest. take n bytes ++ take m rest) (slice_rest bytes n) ∙ sym (take-add n m bytes)) (Appends-trans a b c _ _ first second)
