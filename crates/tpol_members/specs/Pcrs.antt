-- The PCRs of a POLICYPCR.
use Rattle.std.specs.Prelude.{ℕ, zero, suc, ◌^◌, ◌==◌, nat_lt, bit_or, List, [], ◌∷◌, codes, length, position, unwrap_or, insert, Option, Some, None, Ok, Bool, if◌then◌else◌, ⊤}
use Rattle.std.specs.List.{list_any}
use Rattle.serde_json.specs.Data.{Data, Items, no_items, item}
use Rattle.serde_json.specs.Find.{as_array}
use Rattle.tpol_base.specs.declared.digest.Digest32.{Digest32}
use Rattle.tpol_json.specs.declared.place.Place.{Place}
use Rattle.tpol_json.specs.Places.{at_item}
use Rattle.tpol_members.specs.declared.fault.PolicyKind.TheVariants.{WrongKind, BadNumber, Twice}
use Rattle.tpol_members.specs.declared.walk.Walk.{Walk}
use Rattle.tpol_tree.specs.declared.wishes.PcrWish.{PcrWish}
use Rattle.tpol_tree.specs.declared.wishes.PcrWish.TheVariants.{Values, Current}
use Rattle.tpol_members.specs.Algorithms.{hash_in}
use Rattle.tpol_base.specs.Answers.{◌>>=◌}
use Rattle.tpol_members.specs.Faults.{Found}
use Rattle.tpol_json.specs.Reading.{bad}
use Rattle.tpol_members.specs.Members.{object_in, needed, noted, one_of}
use Rattle.tpol_members.specs.Values.{digest_in, unsigned_in}
use Rattle.tpol_members.specs.Walks.{Reading, still}

-- PCRs with their values
abbrev pub PcrList : Type 0
PcrList = List (ℕ × Digest32)

abbrev pub has_value : PcrList → ℕ → Bool
has_value values pcr = list_any (λ value. value.0 == pcr) values

-- the values with one more, before the first of a greater PCR
unfoldable pub with_value : PcrList → ℕ → Digest32 → PcrList
with_value values pcr digest = insert values (unwrap_or (position (λ value. nat_lt pcr value.0) values) (length values)) (pcr, digest)

-- a PCR that has no value yet
abbrev pub new_pcr_in : PcrList → Data → Place → Found ℕ
new_pcr_in values d place =
    unsigned_in 0 31 d place >>= λ pcr. if has_value values pcr then bad Twice place else Ok pcr

unfoldable pub pcr_member : PcrList → Data → Place → Found ℕ
pcr_member values = needed (new_pcr_in values) (codes "pcr")

unfoldable pub bank_member : List ℕ → Data → Place → Found ⊤
bank_member name = needed hash_in name

unfoldable pub value_member : Data → Place → Found Digest32
value_member = needed digest_in (codes "digest")

-- an item of `pcrs`, beside the values before it
unfoldable pub pcr_value_in : PcrList → Data → Place → Reading (ℕ × Digest32)
pcr_value_in values d place walk = do
  is_object ← object_in d place
  pcr ← pcr_member values d place
  bank ← bank_member (codes "hashAlg") d place
  digest ← value_member d place
  Ok ((pcr, digest), noted (codes "pcr" ∷ codes "hashAlg" ∷ codes "digest" ∷ []) d place walk)

-- the values of a list from this index on, put among those before it
abbrev pub pcr_values_from : PcrList → ℕ → Items → Place → Reading PcrList
pcr_values_from values index no_items place walk = Ok (values, walk)
pcr_values_from values index (item d ds) place walk =
    pcr_value_in values d (at_item place index) walk >>= λ found. pcr_values_from (with_value values found.0.0 found.0.1) (suc index) ds place found.1

abbrev pub wish_of_values : Option Items → Place → Walk → Found (PcrWish × Walk)
wish_of_values None place walk = bad WrongKind place
wish_of_values (Some ds) place walk = pcr_values_from [] 0 ds place walk >>= λ found. Ok (Values found.0, found.1)

-- a list of PCRs with their values
abbrev pub pcr_values_in : Walk → Data → Place → Found (PcrWish × Walk)
pcr_values_in walk d place = wish_of_values (as_array d) place walk

-- a PCR as its bit
abbrev pub pcr_bit : Data → Place → Found ℕ
pcr_bit d place = unsigned_in 0 31 d place >>= λ pcr. Ok (2 ^ pcr)

abbrev pub mask_from : ℕ → ℕ → Items → Place → Found ℕ
mask_from mask index no_items place = Ok mask
mask_from mask index (item d ds) place =
    pcr_bit d (at_item place index) >>= λ bit. mask_from (bit_or mask bit) (suc index) ds place

abbrev pub mask_of_list : Option Items → Place → Found ℕ
mask_of_list None place = bad WrongKind place
mask_of_list (Some ds) place = mask_from 0 0 ds place

-- a list of PCRs, 0 to 31, as a mask with bit n for PCR n
abbrev pub mask_in : Data → Place → Found ℕ
mask_in d place = mask_of_list (as_array d) place

-- current PCRs, without a bank
abbrev pub current_pcrs_in : Data → Place → Found PcrWish
current_pcrs_in d place = mask_in d place >>= λ mask. Ok (Current mask)

unfoldable pub select_member : Data → Place → Found ℕ
select_member = needed mask_in (codes "pcrSelect")

-- a bank with its current PCRs
unfoldable pub bank_in : Walk → Data → Place → Found (PcrWish × Walk)
bank_in walk d place = do
  is_object ← object_in d place
  bank ← bank_member (codes "hash") d place
  mask ← select_member d place
  Ok (Current mask, noted (codes "hash" ∷ codes "pcrSelect" ∷ []) d place walk)

abbrev pub only_bank : Walk → Items → Place → Found (PcrWish × Walk)
only_bank walk no_items place = bad BadNumber place
only_bank walk (item d no_items) place = bank_in walk d (at_item place 0)
only_bank walk (item d (item other ds)) place = bad BadNumber place

abbrev pub bank_or_list : Option Items → Walk → Data → Place → Found (PcrWish × Walk)
bank_or_list None walk d place = bank_in walk d place
bank_or_list (Some ds) walk d place = only_bank walk ds place

-- a bank, or a list of one
abbrev pub banks_in : Walk → Data → Place → Found (PcrWish × Walk)
banks_in walk d place = bank_or_list (as_array d) walk d place

-- PCRs with their values first, then current PCRs, and then banks of them
unfoldable pub pcrs_at : Walk → ℕ → Data → Place → Found (PcrWish × Walk)
pcrs_at walk zero d place = pcr_values_in walk d place
pcrs_at walk (suc zero) d place = still (current_pcrs_in d place) walk
pcrs_at walk (suc (suc position)) d place = banks_in walk d place

-- one of `pcrs`, `currentPCRs` and `currentPCRandBanks`
unfoldable pub pcrs_in : Data → Place → Reading PcrWish
pcrs_in d place walk = one_of (codes "pcrs" ∷ codes "currentPCRs" ∷ codes "currentPCRandBanks" ∷ []) (pcrs_at walk) d place
