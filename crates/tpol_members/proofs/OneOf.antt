-- What holds of all that one of several members may say.
use Rattle.std.proofs.Common.{ℕ, suc, List, drop}
use Rattle.serde_json.specs.Data.{Data}
use Rattle.tpol_json.proofs.AllFound.{AllFound, all_after, all_then}
use Rattle.tpol_json.specs.Places.{at_member}
use Rattle.tpol_json.specs.declared.place.Place.{Place}
use Rattle.tpol_members.specs.Faults.{Found}
use Rattle.tpol_members.specs.Members.{first_of, one_of, without}

-- where it holds of what each of them says
pub all_of : {A : Type 0} (P : A → Type 0) (names : List (List ℕ)) (read : ℕ → Data → Place → Found A) (d : Data) (place : Place) → ((position : ℕ) (e : Data) (at : Place) → AllFound P (read position e at)) → AllFound P (one_of names read d place)
all_of P names read d place all =
    all_after P (first_of names d place) _
    (λ first. all_then P P (read first.0 first.1 (at_member place first.2)) _ (all first.0 first.1 (at_member place first.2))
    (λ x is. all_after P (without (drop (suc first.0) names) d place) _ (λ _. is)))
