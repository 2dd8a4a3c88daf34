-- Authorizations by asymmetric keys, which are left out: one can only fit an AUTHORIZE that the profile refuses.
use Rattle.std.specs.Prelude.{ℕ, suc, Bool, false, not, ◌&&◌, ◌||◌, List, [], ◌∷◌, ◌++◌, codes, Option, Some, None, option_and_then, unwrap_or, if◌then◌else◌}
use Rattle.std.specs.Ordering.{nat_cmp, match_ordering}
use Rattle.std.specs.Cmp.Lexicographic.{slice_cmp}
use Rattle.serde_json.specs.Data.{Data, null, boolean, number, string, array, object, Items, no_items, item, Members, no_members, member}
use Rattle.serde_json.specs.Find.{get, as_array, as_str}
use Rattle.tpol_json.specs.Places.{root, at_member, at_item}
use Rattle.tpol_json.specs.Words.{same_word}
use Rattle.tpol_json.specs.declared.place.Place.{Place}
use Rattle.tpol_adopt.specs.Words.{has, says}

-- what a public area is within its wrappers, if it has any
unfoldable mutual
  pub innermost : Data → Data
  innermost null = null
  innermost (boolean b) = boolean b
  innermost (number n) = number n
  innermost (string s) = string s
  innermost (array ds) = array ds
  innermost (object ms) = innermost_member (object ms) ms

  pub innermost_member : Data → Members → Data
  innermost_member whole no_members = whole
  innermost_member whole (member name d ms) =
      match_ordering (slice_cmp nat_cmp (codes "publicArea") name) (innermost_member whole ms) (innermost d) (innermost_member whole ms)

abbrev pub is_asymmetric_key : Option Data → Bool
is_asymmetric_key None = false
is_asymmetric_key (Some d) =
    says (codes "type") (codes "RSA") (innermost d) || says (codes "type") (codes "ECC") (innermost d)

-- the public area of an authorization's key
abbrev pub approving_key : Data → Option Data
approving_key d = if has (codes "keyPublic") d then get (codes "keyPublic") d else get (codes "key") d

abbrev pub is_index_type : Option (List ℕ) → Bool
is_index_type None = false
is_index_type (Some text) = same_word text [] (codes "nv")

-- an authorization by an index; its type is read in any case
abbrev pub is_by_index : Data → Bool
is_by_index d = is_index_type (option_and_then as_str (get (codes "type") d))

-- An authorization by a key that is RSA or ECC. One by an index has no key, whatever `keyPEM` stands in it.
unfoldable pub is_asymmetric : Data → Bool
is_asymmetric d =
    says (codes "type") (codes "pem") d
    || ((has (codes "keyPEM") d && not (is_by_index d)) || (is_asymmetric_key (approving_key d) && says (codes "type") (codes "tpm") d))

-- where the authorizations of a document stand
abbrev pub approvals_place : Place
approvals_place = at_member root (codes "policyAuthorizations")

-- the place of the authorization at this position, if it is left out
abbrev pub dropped_at : ℕ → Data → List Place
dropped_at index d = if is_asymmetric d then at_item approvals_place index ∷ [] else []

-- the places of those that are left out, from this index on
unfoldable pub dropped_from : ℕ → Items → List Place
dropped_from index no_items = []
dropped_from index (item d ds) = dropped_at index d ++ dropped_from (suc index) ds

-- the authorizations of a document
abbrev pub approvals_of : Data → Items
approvals_of d = unwrap_or (option_and_then as_array (get (codes "policyAuthorizations") d)) no_items

-- the places of the authorizations of a document that are left out, in reading order
unfoldable pub dropped : Data → List Place
dropped d = dropped_from 0 (approvals_of d)
