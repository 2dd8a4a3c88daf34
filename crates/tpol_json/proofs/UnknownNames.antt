-- The unknown members of an object, by the list of its names.
use Rattle.std.proofs.Common.{◌≡◌, ℕ, List, [], ◌∷◌, map, String, string_bytes, refl, ap, if◌then◌else◌}
use Rattle.std.specs.declared.alloc.Global.{Global}
use Rattle.serde_json.specs.View.{members_view}
use Rattle.serde_json.specs.declared.value.Value.{Value}
use Rattle.tpol_json.specs.declared.place.Place.{Place}
use Rattle.tpol_json.specs.Places.{at_member}
use Rattle.tpol_json.specs.Members.{is_among, unknown_of}

-- the places of those of these names that are none of the known ones
abbrev pub unknown_names : List (List ℕ) → List (String Global) → Place → List Place
unknown_names known [] place = []
unknown_names known (name ∷ names) place =
    if is_among (string_bytes name) known then unknown_names known names place
    else at_member place (string_bytes name) ∷ unknown_names known names place

pub unknown_of-members_view : (known : List (List ℕ)) (entries : List (String Global × Value)) (place : Place) → unknown_of known (members_view entries) place ≡ unknown_names known (map (λ m. m.0) entries) place
unknown_of-members_view known [] place = refl
unknown_of-members_view known (m ∷ ms) place =
    ap (λ rest. if is_among (string_bytes m.0) known then rest else at_member place (string_bytes m.0) ∷ rest) (unknown_of-members_view known ms place)

pub ruleset view_names = (unknown_of-members_view)
