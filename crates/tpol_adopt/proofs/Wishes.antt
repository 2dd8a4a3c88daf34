-- Keys, indices, entities, parents and PCRs say the same in their new spelling.
use Rattle.std.proofs.Common.{ℕ, zero, suc, List, [], ◌∷◌, Option, Some, None, codes, refl}
use Rattle.serde_json.specs.Data.{Data, Items, no_items, item}
use Rattle.serde_json.specs.Find.{as_array}
use Rattle.tpol_json.specs.Places.{at_item}
use Rattle.tpol_json.specs.declared.place.Place.{Place}
use Rattle.tpol_members.specs.Members.{object_in}
use Rattle.tpol_members.specs.Pcrs.{PcrList, bank_in, bank_member, bank_or_list, only_bank, pcr_member, pcr_value_in, pcr_values_from, pcrs_at, pcrs_in, select_member, value_member, wish_of_values, with_value}
use Rattle.tpol_members.specs.declared.walk.Walk.{Walk}
use Rattle.tpol_elements.specs.Publics.{index_public_in, object_public_in}
use Rattle.tpol_elements.specs.Wishes.{index_at, index_in, key_at, key_in, parent_at, parent_in}
use Rattle.tpol_adopt.specs.Normal.{normal_as}
use Rattle.tpol_adopt.specs.declared.rules.Part.TheVariants.{IndexPublic, KeyPublic}
use Rattle.tpol_adopt.proofs.Keeping.{IsThinner, Keeps, follows_same, keeps_after, keeps_then, still_keeps}
use Rattle.tpol_adopt.proofs.Notes.{noted-same}
use Rattle.tpol_adopt.proofs.OneOf.{AreMapped, one_of-keeps}
use Rattle.tpol_adopt.proofs.Publics.{index_public-again, index_public-keeps, object_public-again, object_public-keeps}

abbrev pub index_names : List (List ℕ)
index_names = codes "nvPath" ∷ codes "nvPublic" ∷ []

abbrev pub key_names : List ℕ → List (List ℕ)
key_names third = codes "keyPath" ∷ codes "keyPublic" ∷ third ∷ []

abbrev pub parent_names : List (List ℕ)
parent_names = codes "newParentPath" ∷ codes "newParentPublic" ∷ codes "newParentName" ∷ []

abbrev pub pcr_names : List (List ℕ)
pcr_names = codes "pcrs" ∷ codes "currentPCRs" ∷ codes "currentPCRandBanks" ∷ []

-- every member stays
abbrev pub stays : ℕ → Data → Data
stays position d = d

-- a path stays, and a public area has its spelling
abbrev pub index_spelling : ℕ → Data → Data
index_spelling zero d = d
index_spelling (suc position) d = normal_as IndexPublic d

abbrev pub key_spelling : ℕ → Data → Data
key_spelling zero d = d
key_spelling (suc zero) d = normal_as KeyPublic d
key_spelling (suc (suc position)) d = d

-- an authorization's key, of either name
abbrev pub approving_spelling : ℕ → Data → Data
approving_spelling zero d = d
approving_spelling (suc position) d = normal_as KeyPublic d

module _ (fewer walk : Walk) (thinner : IsThinner fewer walk) where
  index_at-keeps : (position : ℕ) (e : Data) (at : Place) → Keeps (index_at walk position e at) (index_at fewer position (index_spelling position e) at)
  unfolding index_at
  index_at-keeps zero e at = still_keeps _ _ fewer walk (follows_same _ _ refl) thinner
  index_at-keeps (suc position) e at = keeps_then (index_public_in e at walk) _ _ _ (index_public-keeps e at fewer walk thinner) (λ x fewer' walk' thinner'. (refl, thinner'))

  index_at-again : (position : ℕ) (e : Data) (at : Place) → Keeps (index_at walk position e at) (index_at fewer position e at)
  unfolding index_at
  index_at-again zero e at = still_keeps _ _ fewer walk (follows_same _ _ refl) thinner
  index_at-again (suc position) e at = keeps_then (index_public_in e at walk) _ _ _ (index_public-again e at fewer walk thinner) (λ x fewer' walk' thinner'. (refl, thinner'))

  key_public-keeps : (position : ℕ) (e : Data) (at : Place) → Keeps (key_at walk (suc position) e at) (key_at fewer (suc position) (normal_as KeyPublic e) at)
  unfolding key_at
  key_public-keeps position e at = keeps_then (object_public_in e at walk) _ _ _ (object_public-keeps e at fewer walk thinner) (λ x fewer' walk' thinner'. (refl, thinner'))

  key_at-again : (position : ℕ) (e : Data) (at : Place) → Keeps (key_at walk position e at) (key_at fewer position e at)
  unfolding key_at
  key_at-again zero e at = still_keeps _ _ fewer walk (follows_same _ _ refl) thinner
  key_at-again (suc position) e at = keeps_then (object_public_in e at walk) _ _ _ (object_public-again e at fewer walk thinner) (λ x fewer' walk' thinner'. (refl, thinner'))

  key_at-keeps : (position : ℕ) (e : Data) (at : Place) → Keeps (key_at walk position e at) (key_at fewer position (key_spelling position e) at)
  key_at-keeps zero e at = key_at-again zero e at
  key_at-keeps (suc zero) e at = key_public-keeps zero e at
  key_at-keeps (suc (suc position)) e at = key_at-again (suc (suc position)) e at

  approving_at-keeps : (position : ℕ) (e : Data) (at : Place) → Keeps (key_at walk position e at) (key_at fewer position (approving_spelling position e) at)
  approving_at-keeps zero e at = key_at-again zero e at
  approving_at-keeps (suc position) e at = key_public-keeps position e at

  parent_at-again : (position : ℕ) (e : Data) (at : Place) → Keeps (parent_at walk position e at) (parent_at fewer position e at)
  unfolding parent_at
  parent_at-again zero e at = still_keeps _ _ fewer walk (follows_same _ _ refl) thinner
  parent_at-again (suc zero) e at = keeps_then (object_public_in e at walk) _ _ _ (object_public-again e at fewer walk thinner) (λ x fewer' walk' thinner'. (refl, thinner'))
  parent_at-again (suc (suc position)) e at = still_keeps _ _ fewer walk (follows_same _ _ refl) thinner

  parent_public-keeps : (e : Data) (at : Place) → Keeps (parent_at walk 1 e at) (parent_at fewer 1 (normal_as KeyPublic e) at)
  unfolding parent_at
  parent_public-keeps e at = keeps_then (object_public_in e at walk) _ _ _ (object_public-keeps e at fewer walk thinner) (λ x fewer' walk' thinner'. (refl, thinner'))

  parent_at-keeps : (position : ℕ) (e : Data) (at : Place) → Keeps (parent_at walk position e at) (parent_at fewer position (key_spelling position e) at)
  parent_at-keeps zero e at = parent_at-again zero e at
  parent_at-keeps (suc zero) e at = parent_public-keeps e at
  parent_at-keeps (suc (suc position)) e at = parent_at-again (suc (suc position)) e at

  module _ (d d' : Data) (place : Place) where
    pub index_in-keeps : AreMapped index_spelling d d' 0 index_names → Keeps (index_in d place walk) (index_in d' place fewer)
    unfolding index_in
    index_in-keeps are = one_of-keeps index_spelling d d' (index_at walk) (index_at fewer) index_at-keeps index_names place are

    pub index_in-again : AreMapped stays d d' 0 index_names → Keeps (index_in d place walk) (index_in d' place fewer)
    unfolding index_in
    index_in-again are = one_of-keeps stays d d' (index_at walk) (index_at fewer) index_at-again index_names place are

    pub key_in-keeps : (third : List ℕ) → AreMapped key_spelling d d' 0 (key_names third) → Keeps (key_in third d place walk) (key_in third d' place fewer)
    unfolding key_in
    key_in-keeps third are = one_of-keeps key_spelling d d' (key_at walk) (key_at fewer) key_at-keeps (key_names third) place are

    pub approving_in-keeps : (third : List ℕ) → AreMapped approving_spelling d d' 0 (key_names third) → Keeps (key_in third d place walk) (key_in third d' place fewer)
    unfolding key_in
    approving_in-keeps third are = one_of-keeps approving_spelling d d' (key_at walk) (key_at fewer) approving_at-keeps (key_names third) place are

    pub parent_in-keeps : AreMapped key_spelling d d' 0 parent_names → Keeps (parent_in d place walk) (parent_in d' place fewer)
    unfolding parent_in
    parent_in-keeps are = one_of-keeps key_spelling d d' (parent_at walk) (parent_at fewer) parent_at-keeps parent_names place are

    pub parent_in-again : AreMapped stays d d' 0 parent_names → Keeps (parent_in d place walk) (parent_in d' place fewer)
    unfolding parent_in
    parent_in-again are = one_of-keeps stays d d' (parent_at walk) (parent_at fewer) parent_at-again parent_names place are

-- ---- PCRs

pcr_value-again : (values : PcrList) (d : Data) (place : Place) (fewer walk : Walk) → IsThinner fewer walk → Keeps (pcr_value_in values d place walk) (pcr_value_in values d place fewer)
unfolding pcr_value_in
pcr_value-again values d place fewer walk thinner =
    keeps_after (object_in d place) _ _ _ (follows_same _ _ refl)
    (λ _ _. keeps_after (pcr_member values d place) _ _ _ (follows_same _ _ refl)
    (λ _ _. keeps_after (bank_member (codes "hashAlg") d place) _ _ _ (follows_same _ _ refl)
    (λ _ _. keeps_after (value_member d place) _ _ _ (follows_same _ _ refl)
    (λ _ _. (refl, noted-same (codes "pcr" ∷ codes "hashAlg" ∷ codes "digest" ∷ []) d place fewer walk thinner)))))

pcr_values-again : (values : PcrList) (index : ℕ) (ds : Items) (place : Place) (fewer walk : Walk) → IsThinner fewer walk → Keeps (pcr_values_from values index ds place walk) (pcr_values_from values index ds place fewer)
pcr_values-again values index no_items place fewer walk thinner = (refl, thinner)
pcr_values-again values index (item d ds) place fewer walk thinner =
    keeps_then (pcr_value_in values d (at_item place index) walk) _ _ _ (pcr_value-again values d (at_item place index) fewer walk thinner)
    (λ x fewer' walk' thinner'. pcr_values-again (with_value values x.0 x.1) (suc index) ds place fewer' walk' thinner')

wish-again : (items : Option Items) (place : Place) (fewer walk : Walk) → IsThinner fewer walk → Keeps (wish_of_values items place walk) (wish_of_values items place fewer)
wish-again None place fewer walk thinner = tt {0}
wish-again (Some ds) place fewer walk thinner =
    keeps_then (pcr_values_from [] 0 ds place walk) _ _ _ (pcr_values-again [] 0 ds place fewer walk thinner) (λ x fewer' walk' thinner'. (refl, thinner'))

bank-again : (d : Data) (place : Place) (fewer walk : Walk) → IsThinner fewer walk → Keeps (bank_in walk d place) (bank_in fewer d place)
unfolding bank_in
bank-again d place fewer walk thinner =
    keeps_after (object_in d place) _ _ _ (follows_same _ _ refl)
    (λ _ _. keeps_after (bank_member (codes "hash") d place) _ _ _ (follows_same _ _ refl)
    (λ _ _. keeps_after (select_member d place) _ _ _ (follows_same _ _ refl)
    (λ _ _. (refl, noted-same (codes "hash" ∷ codes "pcrSelect" ∷ []) d place fewer walk thinner))))

only_bank-again : (ds : Items) (place : Place) (fewer walk : Walk) → IsThinner fewer walk → Keeps (only_bank walk ds place) (only_bank fewer ds place)
only_bank-again no_items place fewer walk thinner = tt {0}
only_bank-again (item d no_items) place fewer walk thinner = bank-again d (at_item place 0) fewer walk thinner
only_bank-again (item d (item other ds)) place fewer walk thinner = tt {0}

bank_or_list-again : (items : Option Items) (d : Data) (place : Place) (fewer walk : Walk) → IsThinner fewer walk → Keeps (bank_or_list items walk d place) (bank_or_list items fewer d place)
bank_or_list-again None d place fewer walk thinner = bank-again d place fewer walk thinner
bank_or_list-again (Some ds) d place fewer walk thinner = only_bank-again ds place fewer walk thinner

pcrs_at-again : (fewer walk : Walk) → IsThinner fewer walk → (position : ℕ) (d : Data) (place : Place) → Keeps (pcrs_at walk position d place) (pcrs_at fewer position d place)
unfolding pcrs_at
pcrs_at-again fewer walk thinner zero d place = wish-again (as_array d) place fewer walk thinner
pcrs_at-again fewer walk thinner (suc zero) d place = still_keeps _ _ fewer walk (follows_same _ _ refl) thinner
pcrs_at-again fewer walk thinner (suc (suc position)) d place = bank_or_list-again (as_array d) d place fewer walk thinner

pub pcrs_in-again : (d d' : Data) (place : Place) (fewer walk : Walk) → IsThinner fewer walk → AreMapped stays d d' 0 pcr_names → Keeps (pcrs_in d place walk) (pcrs_in d' place fewer)
unfolding pcrs_in
pcrs_in-again d d' place fewer walk thinner are = one_of-keeps stays d d' (pcrs_at walk) (pcrs_at fewer) (pcrs_at-again fewer walk thinner) pcr_names place are
