-- One of several members, each of which is spelled otherwise or not.
use Rattle.std.proofs.Common.{◌≡◌, ℕ, zero, suc, List, [], ◌∷◌, drop, Option, Some, None, option_map, is_some, Ok, Err, refl, sym, ap, ◌∙◌, subst, if◌then◌else◌}
use Rattle.serde_json.specs.Data.{Data}
use Rattle.serde_json.specs.Find.{get}
use Rattle.tpol_base.specs.Answers.{◌>>=◌}
use Rattle.tpol_json.specs.Places.{at_member}
use Rattle.tpol_json.specs.Reading.{bad}
use Rattle.tpol_json.specs.declared.place.Place.{Place}
use Rattle.tpol_members.specs.declared.fault.PolicyKind.TheVariants.{Twice}
use Rattle.tpol_members.specs.Faults.{Fault, Found}
use Rattle.tpol_members.specs.Members.{first_from, first_of, none_of, one_of, there_or, without}
use Rattle.tpol_members.specs.declared.walk.Walk.{Walk}
use Rattle.tpol_adopt.proofs.Keeping.{Keeps, follows_same, keeps_after, keeps_then}

-- These members of the second value are those of the first, each spelled by `f` at its position.
abbrev pub AreMapped : (ℕ → Data → Data) → Data → Data → ℕ → List (List ℕ) → Type 0
AreMapped f d d' position [] = Unit {0}
AreMapped f d d' position (name ∷ names) =
    (get name d' ≡ option_map (f position) (get name d)) × AreMapped f d d' (suc position) names

-- the member that comes first, and the same spelled by `f`
abbrev AreFirst : (ℕ → Data → Data) → Found (ℕ × Data × List ℕ) → Found (ℕ × Data × List ℕ) → Type 0
AreFirst f (Ok first) again = again ≡ Ok (first.0, f first.0 first.1, first.2)
AreFirst f (Err fault) again = again ≡ Err fault

module _ (f : ℕ → Data → Data) (d d' : Data) where
  is_some-map : (g : Data → Data) (o : Option Data) → is_some (option_map g o) ≡ is_some o
  is_some-map g None = refl
  is_some-map g (Some e) = refl

  without_at : (position : ℕ) (name : List ℕ) (names : List (List ℕ)) (place : Place) → get name d' ≡ option_map (f position) (get name d) → without names d' place ≡ without names d place
      → without (name ∷ names) d' place ≡ without (name ∷ names) d place
  without_at position name names place is later =
      ap (λ b. if b then bad Twice (at_member place name) else without names d' place) (ap is_some is ∙ is_some-map (f position) (get name d))
      ∙ ap (λ r. if is_some (get name d) then bad Twice (at_member place name) else r) later

  without-mapped : (position : ℕ) (names : List (List ℕ)) (place : Place) → AreMapped f d d' position names → without names d' place ≡ without names d place
  without-mapped position [] place are = refl
  without-mapped position (name ∷ names) place are =
      without_at position name names place are.0 (without-mapped (suc position) names place are.1)

  without-dropped : (n position : ℕ) (names : List (List ℕ)) (place : Place) → AreMapped f d d' position names → without (drop n names) d' place ≡ without (drop n names) d place
  without-dropped zero position names place are = without-mapped position names place are
  without-dropped (suc n) position [] place are = refl
  without-dropped (suc n) position (name ∷ names) place are = without-dropped n (suc position) names place are.1

  first_at : (o : Option Data) (position : ℕ) (name : List ℕ) (later again : Found (ℕ × Data × List ℕ)) → AreFirst f later again → AreFirst f (there_or o position name later) (there_or (option_map (f position) o) position name again)
  first_at None position name later again is = is
  first_at (Some e) position name later again is = refl

  first-mapped : (position : ℕ) (names : List (List ℕ)) (missing : Fault) → AreMapped f d d' position names → AreFirst f (first_from position names missing d) (first_from position names missing d')
  first-mapped position [] missing are = refl
  first-mapped position (name ∷ names) missing are =
      subst (λ o. AreFirst f (first_from position (name ∷ names) missing d) (there_or o position name (first_from (suc position) names missing d'))) (sym are.0)
      (first_at (get name d) position name _ _ (first-mapped (suc position) names missing are.1))

  module _ {A : Type 0} (read again : ℕ → Data → Place → Found (A × Walk)) (all : (position : ℕ) (e : Data) (at : Place) → Keeps (read position e at) (again position (f position e) at)) where
    rest_keeps : (names : List (List ℕ)) (place : Place) → AreMapped f d d' 0 names → (first first' : Found (ℕ × Data × List ℕ)) → AreFirst f first first'
        → Keeps (first >>= λ first. read first.0 first.1 (at_member place first.2) >>= λ x. without (drop (suc first.0) names) d place >>= λ alone. Ok x)
        (first' >>= λ first. again first.0 first.1 (at_member place first.2) >>= λ x. without (drop (suc first.0) names) d' place >>= λ alone. Ok x)
    rest_keeps names place are (Err fault) first' is = tt {0}
    rest_keeps names place are (Ok first) first' is =
        subst (λ r. Keeps (read first.0 first.1 (at_member place first.2) >>= λ x. without (drop (suc first.0) names) d place >>= λ alone. Ok x)
        (r >>= λ first. again first.0 first.1 (at_member place first.2) >>= λ x. without (drop (suc first.0) names) d' place >>= λ alone. Ok x))
        (sym is)
        (keeps_then (read first.0 first.1 (at_member place first.2)) (again first.0 (f first.0 first.1) (at_member place first.2)) _ _ (all first.0 first.1 (at_member place first.2))
        (λ x fewer walk thinner.
        keeps_after (without (drop (suc first.0) names) d place) (without (drop (suc first.0) names) d' place) _ _
        (follows_same _ _ (without-dropped (suc first.0) 0 names place are)) (λ alone same. (refl, thinner))))

    pub one_of-keeps : (names : List (List ℕ)) (place : Place) → AreMapped f d d' 0 names → Keeps (one_of names read d place) (one_of names again d' place)
    one_of-keeps names place are =
        rest_keeps names place are (first_of names d place) (first_of names d' place) (first-mapped 0 names (none_of names place) are)

-- the same members are read alike
first-same : (d d' : Data) (position : ℕ) (names : List (List ℕ)) (missing : Fault) → AreMapped (λ _ e. e) d d' position names → first_from position names missing d' ≡ first_from position names missing d
first-same d d' position [] missing are = refl
first-same d d' position (name ∷ names) missing are =
    ap (λ o. there_or o position name (first_from (suc position) names missing d')) (are.0 ∙ same (get name d))
    ∙ ap (there_or (get name d) position name) (first-same d d' (suc position) names missing are.1)
  where
    same : (o : Option Data) → option_map (λ (e : Data). e) o ≡ o
    same None = refl
    same (Some e) = refl

pub one_of-same : {A : Type 0} (read : ℕ → Data → Place → Found A) (d d' : Data) (names : List (List ℕ)) (place : Place) → AreMapped (λ _ e. e) d d' 0 names → one_of names read d' place ≡ one_of names read d place
one_of-same {A} read d d' names place are =
    ap (λ first. first >>= λ first. read first.0 first.1 (at_member place first.2) >>= λ x. without (drop (suc first.0) names) d' place >>= λ alone. Ok x) (first-same d d' 0 names (none_of names place) are)
    ∙ rest (first_of names d place)
  where
    rest : (first : Found (ℕ × Data × List ℕ))
        → (first >>= λ first. read first.0 first.1 (at_member place first.2) >>= λ x. without (drop (suc first.0) names) d' place >>= λ alone. Ok x)
        ≡ (first >>= λ first. read first.0 first.1 (at_member place first.2) >>= λ x. without (drop (suc first.0) names) d place >>= λ alone. Ok x)
    rest (Err fault) = refl
    rest (Ok first) =
        ap (λ r. read first.0 first.1 (at_member place first.2) >>= λ x. r >>= λ alone. Ok x) (without-dropped (λ _ e. e) d d' (suc first.0) 0 names place are)
