-- What canonical text writes reads back.
use Rattle.std.specs.Prelude.{◌≡◌, ℕ, ◌-◌, ◌^◌, ◌≤◌, ℤ, pos, ◌≤ℤ◌, List, [], Ok}
use Rattle.hex.specs.Hex.{IsBytes}
use Rattle.serde_json.specs.Data.{Data}
use Rattle.tpol_json.specs.declared.place.Place.{Place}
use Rattle.tpol_json.specs.Bytes.{bytes_in}
use Rattle.tpol_json.specs.Numbers.{number_in}
use Rattle.tpol_read.specs.Documents.{StandsForPolicy, ReadsAsPolicy}
use Rattle.tpol_tree.specs.Erased.{erased_policy}
use Rattle.tpol_tree.specs.declared.policy.Policy.{Policy}
use Rattle.tpol_write.specs.Canonical.{policy_value}
use Rattle.tpol_write.specs.Levels.{levels_of_elements}
use Rattle.tpol_write.specs.Objects.{hex_text, integer}

-- bytes read back from their hexadecimal text
abbrev pub BytesReadBack : Type 0
BytesReadBack = (bytes : List ℕ) (place : Place) → IsBytes bytes → bytes_in (hex_text bytes) place ≡ Ok bytes

-- a number of 64 bits with a sign reads back wherever it lies within the limits
abbrev pub NumbersReadBack : Type 0
NumbersReadBack = (least greatest n : ℤ) (place : Place) → least ≤ℤ n → n ≤ℤ greatest → n ≤ℤ pos (2 ^ 63 - 1)
    → number_in least greatest (integer n) place ≡ Ok n

-- a policy that any document stands for is what its canonical value stands for, without a note; at most sixteen of
-- its ORs stand inside one another
abbrev pub CanonicalValuesStand : Type 0
CanonicalValuesStand = (d : Data) (policy : Policy) (notes : List Place) → StandsForPolicy d (erased_policy policy) notes
    → StandsForPolicy (policy_value policy) (erased_policy policy) [] × (levels_of_elements policy.elements ≤ 16)

-- the text stands for the policy, without a note, if any document does
abbrev pub StandsAlone : List ℕ → Policy → Type 0
StandsAlone text policy = (d : Data) (notes : List Place) → StandsForPolicy d (erased_policy policy) notes
    → ReadsAsPolicy text (erased_policy policy) []
