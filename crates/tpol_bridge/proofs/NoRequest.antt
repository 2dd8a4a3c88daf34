-- Lists of words of a length that no command has.
use Rattle.std.proofs.Common.{◌≡◌, ℕ, ◌≤◌, List, [], ◌∷◌, length, None, refl, arith}
use Rattle.tpol_bridge.specs.Words.{request_of}

-- more than four words
pub no_command-five : (words : List (List ℕ)) → 5 ≤ length words → request_of words ≡ None
no_command-five [] least = absurd (omega arith)
no_command-five (a ∷ []) least = absurd (omega arith)
no_command-five (a ∷ b ∷ []) least = absurd (omega arith)
no_command-five (a ∷ b ∷ c ∷ []) least = absurd (omega arith)
no_command-five (a ∷ b ∷ c ∷ d ∷ []) least = absurd (omega arith)
no_command-five (a ∷ b ∷ c ∷ d ∷ e ∷ rest) least = refl
