-- The digests that an export has itself.
use Rattle.std.specs.Prelude.{List, [], ◌∷◌, ◌++◌, codes, Bool, false, is_some, Option, Some, None, option_and_then, unwrap_or, if◌then◌else◌, ⊤}
use Rattle.std.specs.Result.{result_ok}
use Rattle.serde_json.specs.Data.{Data, Items, no_items, item}
use Rattle.serde_json.specs.Find.{as_array, at, get}
use Rattle.tpol_base.specs.declared.digest.Digest32.{Digest32}
use Rattle.tpol_json.specs.declared.place.Place.{Place}
use Rattle.tpol_json.specs.declared.place.PlaceStep.{PlaceStep}
use Rattle.tpol_json.specs.declared.place.PlaceStep.TheVariants.{Member, Item}
use Rattle.tpol_json.specs.Places.{root}
use Rattle.tpol_json.specs.Values.{digest_in}
use Rattle.tpol_json.specs.Words.{word_in}

abbrev pub one_step : PlaceStep → Data → Option Data
one_step (Member name) d = get name d
one_step (Item index) d = at index d

-- what stands so many steps within a value
abbrev pub within : List PlaceStep → Data → Option Data
within [] d = Some d
within (step ∷ steps) d = option_and_then (within steps) (one_step step d)

-- what stands at a place of a document
abbrev pub found_at : Place → Data → Option Data
found_at place d = within place.steps d

-- the word for SHA-256
abbrev pub sha256_word : Data → Option ⊤
sha256_word d = word_in (codes "TPM2_ALG_") ((codes "SHA256", tt) ∷ []) d

-- whether a hash is SHA-256
abbrev pub is_sha256 : Option Data → Bool
is_sha256 None = false
is_sha256 (Some d) = is_some (sha256_word d)

-- 32 bytes as documents write them
abbrev pub digest_of_text : Option Data → Option Digest32
digest_of_text None = None
digest_of_text (Some d) = result_ok (digest_in d root)

-- the digest that an item of `policyDigests` tells, if it is of SHA-256 and tells one
abbrev pub own_digest : Data → Option Digest32
own_digest d = if is_sha256 (get (codes "hashAlg") d) then digest_of_text (get (codes "digest") d) else None

abbrev pub list_of : Option Digest32 → List Digest32
list_of None = []
list_of (Some digest) = digest ∷ []

-- the digests that items tell
abbrev pub own_digests_in : Items → List Digest32
own_digests_in no_items = []
own_digests_in (item d ds) = list_of (own_digest d) ++ own_digests_in ds

-- the items of an element's member `policyDigests`, if it is a list
abbrev pub digests_member : Data → Option Items
digests_member element = option_and_then as_array (get (codes "policyDigests") element)

-- the SHA-256 digests that a document tells of the element at a place
unfoldable pub own_digests : Place → Data → List Digest32
own_digests place d = own_digests_in (unwrap_or (option_and_then digests_member (found_at place d)) no_items)
