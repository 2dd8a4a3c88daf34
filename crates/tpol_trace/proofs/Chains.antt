-- Moves in a row, from the last one back.
use Rattle.std.proofs.Common.{◌≡◌, ℕ, List, [], ◌∷◌, ◌++◌, inl, inr, refl, sym, ap, ◌∙◌, subst, append_assoc}
use Rattle.std.specs.Prelude.{◌⊎◌}
use Rattle.std.specs.List.{AllByRecursion}
use Rattle.tpol_base.specs.declared.digest.Digest32.{Digest32}
use Rattle.tpol_tree.specs.declared.path.Move.{Move}
use Rattle.tpol_digest.specs.Digest.{zero_digest, digest_after, digest_from, digest_of_moves}
use Rattle.tpol_digest.specs.Inputs.{strings_of, inputs_of_moves}
use Rattle.tpol_digest.specs.Sound.{Meets, IsSoundFrom, IsSound}
use Rattle.tpol_digest.specs.Update.{update_of}
use Rattle.tpol_digest.proofs.Meeting.{digest_from-append}
use Rattle.tpol_trace.proofs.Strings.{each_left, each_right}

-- moves with their last one
pub record HasLast (moves : List Move) : Type 0 where
  pub front : List Move
  pub last : Move
  pub is : moves ≡ front ++ last ∷ []

more_before : (act : Move) (moves : List Move) → (moves ≡ []) ⊎ HasLast moves → (act ∷ moves ≡ []) ⊎ HasLast (act ∷ moves)
more_before act moves (inl e) = inr (record { front = []; last = act; is = ap (λ (l : List Move). act ∷ l) e })
more_before act moves (inr l) =
    inr (record { front = act ∷ l.front; last = l.last; is = ap (λ (m : List Move). act ∷ m) l.is })

pub last_of : (moves : List Move) → (moves ≡ []) ⊎ HasLast moves
last_of [] = inl refl
last_of (act ∷ rest) = more_before act rest (last_of rest)

pub digest_of_last : (front : List Move) (last : Move) → digest_of_moves (front ++ last ∷ []) ≡ digest_after last (digest_of_moves front)
digest_of_last front last = digest_from-append zero_digest front (last ∷ [])

inputs-append : (d : Digest32) (xs ys : List Move) → inputs_of_moves d (xs ++ ys) ≡ inputs_of_moves d xs ++ inputs_of_moves (digest_from d xs) ys
inputs-append d [] ys = refl
inputs-append d (x ∷ xs) ys =
    ap (λ l. strings_of (update_of x) d ++ l) (inputs-append (digest_after x d) xs ys)
    ∙ sym (append_assoc (strings_of (update_of x) d) (inputs_of_moves (digest_after x d) xs) (inputs_of_moves (digest_from (digest_after x d) xs) ys))

sound_front : (d : Digest32) (xs ys : List Move) → IsSoundFrom d (xs ++ ys) → IsSoundFrom d xs
sound_front d [] ys h = tt
sound_front d (x ∷ xs) ys h = (h.0, sound_front (digest_after x d) xs ys h.1)

sound_last : (d : Digest32) (xs : List Move) (last : Move) → IsSoundFrom d (xs ++ last ∷ []) → Meets (digest_from d xs) last
sound_last d [] last h = h.0
sound_last d (x ∷ xs) last h = sound_last (digest_after x d) xs last h.1

-- each string that is hashed for moves is of a kind
abbrev pub AreHashed : (List ℕ → Type 0) → List Move → Type 0
AreHashed In moves = AllByRecursion In (inputs_of_moves zero_digest moves)

-- sound moves with strings of a kind
pub record AreHeld (In : List ℕ → Type 0) (moves : List Move) : Type 0 where
  pub sound : IsSound moves
  pub hashed : AreHashed In moves

module _ (In : List ℕ → Type 0) where
  pub hashed_front : (xs ys : List Move) → AreHashed In (xs ++ ys) → AreHashed In xs
  hashed_front xs ys h =
      each_left In (inputs_of_moves zero_digest xs) (inputs_of_moves (digest_of_moves xs) ys) (subst (AllByRecursion In) (inputs-append zero_digest xs ys) h)

  pub hashed_last : (xs : List Move) (last : Move) → AreHashed In (xs ++ last ∷ []) → AreHashed In xs × AllByRecursion In (strings_of (update_of last) (digest_of_moves xs))
  hashed_last xs last h = (
    hashed_front xs (last ∷ []) h,
    each_left In (strings_of (update_of last) (digest_of_moves xs)) [] (each_right In (inputs_of_moves zero_digest xs) (inputs_of_moves (digest_of_moves xs) (last ∷ [])) (subst (AllByRecursion In) (inputs-append zero_digest xs (last ∷ [])) h)),
  )

  pub held_front : (xs ys : List Move) → AreHeld In (xs ++ ys) → AreHeld In xs
  held_front xs ys h = record { sound = sound_front zero_digest xs ys h.sound; hashed = hashed_front xs ys h.hashed }

  pub held_last : (xs : List Move) (last : Move) → AreHeld In (xs ++ last ∷ []) → Meets (digest_of_moves xs) last
  held_last xs last h = sound_last zero_digest xs last h.sound
