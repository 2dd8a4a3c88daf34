-- Readings of two values where the second says what the first says, with fewer notes.
use Rattle.std.proofs.Common.{◌≡◌, Bool, true, false, Ok, Err, refl, sym, subst, if◌then◌else◌}
use Rattle.tpol_base.specs.Answers.{◌>>=◌}
use Rattle.tpol_members.specs.Faults.{Found}
use Rattle.tpol_members.specs.Walks.{still}
use Rattle.tpol_members.specs.declared.walk.Walk.{Walk}
use Rattle.tpol_adopt.specs.Laws.{IsSublist}

-- a walk that has some of another's notes and goes on alike
pub record IsThinner (fewer walk : Walk) : Type 0 where
  pub left : fewer.left ≡ walk.left
  pub notes : IsSublist fewer.notes walk.notes

-- what is found is found again
abbrev pub Follows : {A : Type 0} → Found A → Found A → Type 0
Follows (Ok x) again = again ≡ Ok x
Follows (Err fault) again = Unit {0}

abbrev pub KeepsIn : {A : Type 0} → A × Walk → Found (A × Walk) → Type 0
KeepsIn found (Ok again) = (again.0 ≡ found.0) × IsThinner again.1 found.1
KeepsIn found (Err fault) = ⊥

-- the same with a walk
abbrev pub Keeps : {A : Type 0} → Found (A × Walk) → Found (A × Walk) → Type 0
Keeps (Ok found) again = KeepsIn found again
Keeps (Err fault) again = Unit {0}

module _ {A : Type 0} where
  pub follows_same : (found again : Found A) → again ≡ found → Follows found again
  follows_same (Ok x) again is = is
  follows_same (Err fault) again is = tt {0}

  pub still_keeps : (found again : Found A) (fewer walk : Walk) → Follows found again → IsThinner fewer walk → Keeps (still found walk) (still again fewer)
  still_keeps (Ok x) again fewer walk is thinner = subst (λ r. Keeps (Ok (x, walk)) (still r fewer)) (sym is) (refl, thinner)
  still_keeps (Err fault) again fewer walk is thinner = tt {0}

  pub keeps_if : (test : Bool) (one other : Found (A × Walk)) (again other' : Found (A × Walk)) → (test ≡ true → Keeps one again) → (test ≡ false → Keeps other other') → Keeps (if test then one else other) (if test then again else other')
  keeps_if true one other again other' is isnt = is refl
  keeps_if false one other again other' is isnt = isnt refl

module _ {A B : Type 0} where
  pub follows_then : (found again : Found A) (next next' : A → Found B) → Follows found again → ((x : A) → found ≡ Ok x → Follows (next x) (next' x)) → Follows (found >>= next) (again >>= next')
  follows_then (Ok x) again next next' is go = subst (λ r. Follows (next x) (r >>= next')) (sym is) (go x refl)
  follows_then (Err fault) again next next' is go = tt {0}

  -- a step that leaves the walk alone
  pub keeps_after : (found again : Found A) (next next' : A → Found (B × Walk)) → Follows found again → ((x : A) → found ≡ Ok x → Keeps (next x) (next' x)) → Keeps (found >>= next) (again >>= next')
  keeps_after (Ok x) again next next' is go = subst (λ r. Keeps (next x) (r >>= next')) (sym is) (go x refl)
  keeps_after (Err fault) again next next' is go = tt {0}

  -- a step with a walk
  pub keeps_then : (found again : Found (A × Walk)) (next next' : A × Walk → Found (B × Walk)) → Keeps found again
      → ((x : A) (fewer walk : Walk) → IsThinner fewer walk → Keeps (next (x, walk)) (next' (x, fewer))) → Keeps (found >>= next) (again >>= next')
  keeps_then (Ok found) (Ok again) next next' is go =
      subst (λ x. Keeps (next found) (next' (x, again.1))) (sym is.0) (go found.0 again.1 found.1 is.1)
  keeps_then (Ok found) (Err fault) next next' is go = absurd is
  keeps_then (Err fault) again next next' is go = tt {0}
