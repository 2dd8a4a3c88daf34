-- Readings one after the other.
use Rattle.std.proofs.Common.{◌≡◌, List, ℕ, ap, refl}
use Rattle.std.specs.Prelude.{Option, Some, None}
use Rattle.serde_json.specs.Data.{Data}
use Rattle.serde_json.specs.Find.{get}
use Rattle.tpol_base.specs.Answers.{FailsWith, ◌>>=◌}
use Rattle.tpol_json.specs.Places.{at_member}
use Rattle.tpol_json.specs.declared.place.Place.{Place}
use Rattle.tpol_entities.specs.Faults.{Fault, Found}
use Rattle.tpol_entities.specs.Members.{needed, read_needed}

-- what refuses the first refuses the whole
pub refused_then : {A B : Type 0} (fault : Option Fault) (r : Found A) (next : A → Found B) → FailsWith fault r → FailsWith fault (r >>= next)
refused_then None r next h = tt
refused_then (Some fault) r next h = ap (λ q. q >>= next) h

-- a member that is read, and then looked at where it stands
there_then : {A B : Type 0} (read : Data → Place → Found A) (next : A → Place → Found B) (there : Option Data) (at : Place)
    → read_needed (λ e p. read e p >>= λ x. next x p) there at ≡ (read_needed read there at >>= λ x. next x at)
there_then read next None at = refl
there_then read next (Some e) at = refl

-- the same by the name of the member
pub needed_then : {A B : Type 0} (read : Data → Place → Found A) (next : A → Place → Found B) (name : List ℕ) (d : Data) (place : Place)
    → needed (λ e p. read e p >>= λ x. next x p) name d place ≡ (needed read name d place >>= λ x. next x (at_member place name))
needed_then read next name d place = there_then read next (get name d) (at_member place name)
