-- Bytes that were added one after another.
use Rattle.std.proofs.Common.{◌≡◌, ◌++◌, ◌∙◌, ℕ, List, ap, append_assoc}

pub joined_three : (o a b c first second : List ℕ) → first ≡ o ++ a → second ≡ first ++ b → second ++ c ≡ o ++ (a ++ (b ++ c))
joined_three o a b c first second p q = ap (λ l. l ++ c) (q ∙ ap (λ l. l ++ b) p) ∙ simp append_assoc

pub joined_four : (o a b c d first second third : List ℕ) → first ≡ o ++ a → second ≡ first ++ b → third ≡ second ++ c → third ++ d ≡ o ++ (a ++ (b ++ (c ++ d)))
joined_four o a b c d first second third p q r =
    let all : third ≡ ((o ++ a) ++ b) ++ c = r ∙ ap (λ l. l ++ c) (q ∙ ap (λ l. l ++ b) p) in
    ap (λ l. l ++ d) all ∙ simp append_assoc
