-- One of several members read back, where it alone is there.
use Rattle.std.proofs.Common.{◌≡◌, ℕ, suc, ◌+◌, List, [], ◌∷◌, ◌++◌, length, drop, Option, Some, None, is_some, Ok, refl, ap, ◌∙◌, arith, if◌then◌else◌}
use Rattle.serde_json.specs.Data.{Data}
use Rattle.serde_json.specs.Find.{get}
use Rattle.tpol_json.specs.Places.{at_member}
use Rattle.tpol_json.specs.declared.place.Place.{Place}
use Rattle.tpol_members.specs.Faults.{Fault, Found}
use Rattle.tpol_json.specs.Reading.{bad}
use Rattle.tpol_members.specs.Members.{first_from, first_of, none_of, one_of, there_or, without}
use Rattle.tpol_members.specs.declared.fault.PolicyKind.TheVariants.{Twice}
use Rattle.tpol_write.proofs.BytesBack.{bound}

-- none of these members is there
abbrev pub NoneThere : List (List ℕ) → Data → Type 0
NoneThere [] d = Unit {0}
NoneThere (name ∷ names) d = (get name d ≡ None) × NoneThere names d

without-none : (names : List (List ℕ)) (d : Data) (place : Place) → NoneThere names d → without names d place ≡ Ok tt
without-none [] d place none = refl
without-none (name ∷ names) d place none =
    ap (λ (there : Option Data). if is_some there then bad Twice (at_member place name) else without names d place) none.0
    ∙ without-none names d place none.1

-- the first that is there stands behind these, of which none is
first_from-back : (before after : List (List ℕ)) (name : List ℕ) (position : ℕ) (missing : Fault) (d e : Data) → NoneThere before d → get name d ≡ Some e → first_from position (before ++ name ∷ after) missing d ≡ Ok (position + length before, e, name)
first_from-back [] after name position missing d e none is =
    let here : position ≡ position + 0 = omega arith in
    ap (λ (there : Option Data). there_or there position name (first_from (suc position) after missing d)) is
    ∙ ap (λ (n : ℕ). Ok (n, e, name)) here
first_from-back (other ∷ before) after name position missing d e none is =
    let further : suc position + length before ≡ position + suc (length before) = omega arith in
    ap (λ (there : Option Data). there_or there position other (first_from (suc position) (before ++ name ∷ after) missing d)) none.0
    ∙ first_from-back before after name (suc position) missing d e none.1 is
    ∙ ap (λ (n : ℕ). Ok (n, e, name)) further

first_of-back : (before after : List (List ℕ)) (name : List ℕ) (d e : Data) (place : Place) → NoneThere before d → get name d ≡ Some e → first_of (before ++ name ∷ after) d place ≡ Ok (length before, e, name)
first_of-back before after name d e place none is =
    let there : 0 + length before ≡ length before = omega arith in
    first_from-back before after name 0 (none_of (before ++ name ∷ after) place) d e none is
    ∙ ap (λ (n : ℕ). Ok (n, e, name)) there

drop-past : (before after : List (List ℕ)) (name : List ℕ) → drop (suc (length before)) (before ++ name ∷ after) ≡ after
drop-past [] after name = refl
drop-past (other ∷ before) after name = drop-past before after name

-- the one that is there says what is read, by its position
pub one_of-back : {A : Type 0} (before after : List (List ℕ)) (name : List ℕ) (read : ℕ → Data → Place → Found A) (d e : Data) (place : Place) (x : A) → NoneThere before d → get name d ≡ Some e → NoneThere after d → read (length before) e (at_member place name) ≡ Ok x → one_of (before ++ name ∷ after) read d place ≡ Ok x
one_of-back before after name read d e place x none is alone says =
    bound (first_of (before ++ name ∷ after) d place) (length before, e, name) _ (Ok x) (first_of-back before after name d e place none is)
    (bound (read (length before) e (at_member place name)) x _ (Ok x) says
    (bound (without (drop (suc (length before)) (before ++ name ∷ after)) d place) tt _ (Ok x)
    (ap (λ (names : List (List ℕ)). without names d place) (drop-past before after name) ∙ without-none after d place alone) refl))
