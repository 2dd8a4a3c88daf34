-- A new PCR put among rising ones leaves them rising, so each list of PCR values that is read rises.
use Rattle.std.proofs.Common.{◌≡◌, ℕ, zero, suc, ◌+◌, ◌<◌, ◌≤◌, ◌==◌, nat_lt, Bool, true, false, not, cond, List, [], ◌∷◌, length, map, codes, Option, Some, None, Ok, refl, sym, ap, subst, ◌∙◌, arith, unwrap_or, insert, position, one-add, ◌≢◌, ◌||◌, if◌then◌else◌}
use Rattle.std.specs.List.{position_or_len, slice_index}
use Rattle.std.specs.List.Sorted.{IsStrictlyIncreasing}
use Rattle.std.proofs.lemmas.Bool.{ltb-true, ltb-false, eqb-false}
use Rattle.std.proofs.lemmas.List.Sums.{prefix_len-le-length}
use Rattle.serde_json.specs.Data.{Data, Items, no_items, item}
use Rattle.serde_json.specs.Find.{get, as_array}
use Rattle.tpol_base.specs.declared.digest.Digest32.{Digest32}
use Rattle.tpol_json.specs.Places.{at_member, at_item}
use Rattle.tpol_json.specs.declared.place.Place.{Place}
use Rattle.tpol_members.proofs.OneOf.{all_of}
use Rattle.tpol_members.proofs.Limits.{all_still, mask-fits, Is32}
use Rattle.tpol_json.proofs.AllFound.{AllFound, all_after, all_then, needed-fits}
use Rattle.tpol_read.specs.RisingPcrs.{IsRising}
use Rattle.tpol_tree.specs.Bounds.{PcrsHaveBounds}
use Rattle.tpol_json.specs.Reading.{bad}
use Rattle.tpol_members.specs.Members.{object_in, read_needed}
use Rattle.tpol_members.specs.Values.{unsigned_in}
use Rattle.tpol_members.specs.Pcrs.{PcrList, has_value, with_value, new_pcr_in, pcr_member, bank_member, value_member, pcr_value_in, pcr_values_from, wish_of_values, mask_in, current_pcrs_in, select_member, bank_in, only_bank, bank_or_list, pcrs_at, pcrs_in}
use Rattle.tpol_members.specs.declared.fault.PolicyKind.TheVariants.{Missing, Twice}
use Rattle.tpol_members.specs.declared.walk.Walk.{Walk}
use Rattle.tpol_tree.specs.declared.wishes.PcrWish.{PcrWish}

-- ---- putting a value in

-- the first of a greater PCR is there, or all values are before it
placed : (values : PcrList) (test : (ℕ × Digest32) → Bool) → unwrap_or (position test values) (length values) ≡ position_or_len test values
placed values test = either (nat_lt (position_or_len test values) (length values)) refl
  where
    either : (within : Bool) → nat_lt (position_or_len test values) (length values) ≡ within → unwrap_or (cond within (Some (position_or_len test values)) None) (length values) ≡ position_or_len test values
    either true is = refl
    either false is =
        let low : length values ≤ position_or_len test values = ltb-false (position_or_len test values) (length values) is in
        let high : position_or_len test values ≤ length values = prefix_len-le-length (λ x. not (test x)) values in
        omega arith

-- one more value, put in step by step
abbrev pub put_value : PcrList → ℕ → Digest32 → PcrList
put_value [] pcr digest = (pcr, digest) ∷ []
put_value (value ∷ values) pcr digest = cond (nat_lt pcr value.0) ((pcr, digest) ∷ value ∷ values) (value ∷ put_value values pcr digest)

put_step : (test : Bool) (value : ℕ × Digest32) (values : PcrList) (index : ℕ) (new : ℕ × Digest32) (rest : PcrList) → insert values index new ≡ rest → insert (value ∷ values) (cond (not test) (1 + index) 0) new ≡ cond test (new ∷ value ∷ values) (value ∷ rest)
put_step true value values index new rest e = refl
put_step false value values index new rest e = ap (λ i. insert (value ∷ values) i new) (one-add index) ∙ ap (λ r. value ∷ r) e

put_value-is : (values : PcrList) (pcr : ℕ) (digest : Digest32) → insert values (position_or_len (λ value. nat_lt pcr value.0) values) (pcr, digest) ≡ put_value values pcr digest
put_value-is [] pcr digest = refl
put_value-is (value ∷ values) pcr digest =
    put_step (nat_lt pcr value.0) value values (position_or_len (λ v. nat_lt pcr v.0) values) (pcr, digest) (put_value values pcr digest) (put_value-is values pcr digest)

pub with_value-is : (values : PcrList) (pcr : ℕ) (digest : Digest32) → with_value values pcr digest ≡ put_value values pcr digest
unfolding with_value
with_value-is values pcr digest =
    ap (λ i. insert values i (pcr, digest)) (placed values (λ value. nat_lt pcr value.0)) ∙ put_value-is values pcr digest

pub first_no : (x y : Bool) → (x || y) ≡ false → x ≡ false
first_no true y neither = neither
first_no false y neither = refl

pub second_no : (x y : Bool) → (x || y) ≡ false → y ≡ false
second_no true y neither = cc neither
second_no false y neither = neither

-- ---- rising order

-- from this PCR on, in rising order
abbrev RisesFrom : ℕ → PcrList → Type 0
RisesFrom low [] = Unit {0}
RisesFrom low (value ∷ values) = (low ≤ value.0) × RisesFrom (suc value.0) values

rises_step : (test : Bool) (low pcr : ℕ) (digest : Digest32) (value : ℕ × Digest32) (values rest : PcrList) → nat_lt pcr value.0 ≡ test → RisesFrom low (value ∷ values) → low ≤ pcr → (value.0 == pcr) ≡ false → (suc value.0 ≤ pcr → RisesFrom (suc value.0) rest) → RisesFrom low (cond test ((pcr, digest) ∷ value ∷ values) (value ∷ rest))
rises_step true low pcr digest value values rest is rises from other later =
    (from, (ltb-true pcr value.0 is, rises.1))
rises_step false low pcr digest value values rest is rises from other later =
    let before : value.0 ≤ pcr = ltb-false pcr value.0 is in
    let apart : value.0 ≢ pcr = eqb-false value.0 pcr other in
    (rises.0, later (omega arith))

put_value-rises : (low : ℕ) (values : PcrList) (pcr : ℕ) (digest : Digest32) → RisesFrom low values → low ≤ pcr → has_value values pcr ≡ false → RisesFrom low (put_value values pcr digest)
put_value-rises low [] pcr digest rises from new = (from, tt)
put_value-rises low (value ∷ values) pcr digest rises from new =
    rises_step (nat_lt pcr value.0) low pcr digest value values (put_value values pcr digest) refl rises from (first_no (value.0 == pcr) (has_value values pcr) new)
    (λ later. put_value-rises (suc value.0) values pcr digest rises.1 later (second_no (value.0 == pcr) (has_value values pcr) new))

with_value-rises : (values : PcrList) (pcr : ℕ) (digest : Digest32) → RisesFrom 0 values → has_value values pcr ≡ false → RisesFrom 0 (with_value values pcr digest)
with_value-rises values pcr digest rises new =
    subst (RisesFrom 0) (sym (with_value-is values pcr digest)) (put_value-rises 0 values pcr digest rises (omega arith) new)

first_rises : (low : ℕ) (value : ℕ × Digest32) (values : PcrList) → RisesFrom low (value ∷ values) → low ≤ value.0
first_rises low value values rises = rises.0

rest_rises : (low : ℕ) (value : ℕ × Digest32) (values : PcrList) → RisesFrom low (value ∷ values) → RisesFrom (suc value.0) values
rest_rises low value values rises = rises.1

-- each PCR is less than the next one
rises-increasing : (low : ℕ) (values : PcrList) → RisesFrom low values → IsStrictlyIncreasing (map (λ value. value.0) values)
rises-increasing low [] rises k within = absurd (omega arith)
rises-increasing low (value ∷ []) rises k within = absurd (omega arith)
rises-increasing low (value ∷ next ∷ values) rises zero within =
    first_rises (suc value.0) next values (rest_rises low value (next ∷ values) rises)
rises-increasing low (value ∷ next ∷ values) rises (suc k) within =
    let numbers : List ℕ = map (λ v. v.0) (value ∷ next ∷ values) in
    let Less : ℕ → Type 0 = λ later. slice_index numbers (suc k) < slice_index numbers later in
    let same : suc (k + 1) ≡ suc k + 1 = omega arith in
    subst Less same (rises-increasing (suc value.0) (next ∷ values) (rest_rises low value (next ∷ values) rises) k (omega arith))

-- ---- reading

-- a PCR that has no value yet
abbrev IsNew : PcrList → ℕ → Type 0
IsNew values pcr = has_value values pcr ≡ false

new_or_bad : (values : PcrList) (pcr : ℕ) (place : Place) (has : Bool) → has_value values pcr ≡ has → AllFound (IsNew values) (if has then bad Twice place else Ok pcr)
new_or_bad values pcr place true is = tt {0}
new_or_bad values pcr place false is = is

member-new : (values : PcrList) (member : Option Data) (place : Place) → AllFound (IsNew values) (read_needed (new_pcr_in values) member place)
member-new values None place = tt {0}
member-new values (Some d) place =
    all_after (IsNew values) (unsigned_in 0 31 d place) _ (λ pcr. new_or_bad values pcr place (has_value values pcr) refl)

-- the same of a PCR with its value
abbrev BringsNew : PcrList → (ℕ × Digest32) × Walk → Type 0
BringsNew values found = IsNew values found.0.0

pcr_value-new : (values : PcrList) (d : Data) (place : Place) (walk : Walk) → AllFound (BringsNew values) (pcr_value_in values d place walk)
unfolding pcr_value_in pcr_member
pcr_value-new values d place walk =
    all_after (BringsNew values) (object_in d place) _
    (λ _. all_then (IsNew values) (BringsNew values) (pcr_member values d place) _ (member-new values (get (codes "pcr") d) (at_member place (codes "pcr")))
    (λ pcr new. all_after (BringsNew values) (bank_member (codes "hashAlg") d place) _
    (λ _. all_after (BringsNew values) (value_member d place) _ (λ _. new))))

abbrev ValuesRise : PcrList × Walk → Type 0
ValuesRise found = RisesFrom 0 found.0

pcr_values-rise : (values : PcrList) (index : ℕ) (ds : Items) (place : Place) (walk : Walk) → RisesFrom 0 values → AllFound ValuesRise (pcr_values_from values index ds place walk)
pcr_values-rise values index no_items place walk rises = rises
pcr_values-rise values index (item d ds) place walk rises =
    all_then (BringsNew values) ValuesRise (pcr_value_in values d (at_item place index) walk) _ (pcr_value-new values d (at_item place index) walk)
    (λ found new. pcr_values-rise (with_value values found.0.0 found.0.1) (suc index) ds place found.1 (with_value-rises values found.0.0 found.0.1 rises new))

-- PCRs that are asked for: their values rise, or they are a set of 32 bits
abbrev pub IsGoodWish : PcrWish → Type 0
IsGoodWish wish = IsRising wish × PcrsHaveBounds wish

abbrev pub WishRises : PcrWish × Walk → Type 0
WishRises found = IsGoodWish found.0

wish_of_values-rises : (list : Option Items) (place : Place) (walk : Walk) → AllFound WishRises (wish_of_values list place walk)
wish_of_values-rises None place walk = tt {0}
wish_of_values-rises (Some ds) place walk =
    all_then ValuesRise WishRises (pcr_values_from [] 0 ds place walk) _ (pcr_values-rise [] 0 ds place walk tt)
    (λ found rises. (rises-increasing 0 found.0 rises, tt {0}))

current_pcrs-rise : (d : Data) (place : Place) → AllFound IsGoodWish (current_pcrs_in d place)
current_pcrs-rise d place = all_then Is32 IsGoodWish (mask_in d place) _ (mask-fits d place) (λ mask small. (tt {0}, small))

select-fits : (d : Data) (place : Place) → AllFound Is32 (select_member d place)
unfolding select_member
select-fits d place = needed-fits Is32 Missing mask_in (get (codes "pcrSelect") d) (at_member place (codes "pcrSelect")) mask-fits

bank-rises : (walk : Walk) (d : Data) (place : Place) → AllFound WishRises (bank_in walk d place)
unfolding bank_in
bank-rises walk d place =
    all_after WishRises (object_in d place) _
    (λ _. all_after WishRises (bank_member (codes "hash") d place) _
    (λ _. all_then Is32 WishRises (select_member d place) _ (select-fits d place) (λ mask small. (tt {0}, small))))

only_bank-rises : (walk : Walk) (ds : Items) (place : Place) → AllFound WishRises (only_bank walk ds place)
only_bank-rises walk no_items place = tt {0}
only_bank-rises walk (item d no_items) place = bank-rises walk d (at_item place 0)
only_bank-rises walk (item d (item other ds)) place = tt {0}

banks-rise : (list : Option Items) (walk : Walk) (d : Data) (place : Place) → AllFound WishRises (bank_or_list list walk d place)
banks-rise None walk d place = bank-rises walk d place
banks-rise (Some ds) walk d place = only_bank-rises walk ds place

pcrs_at-rise : (walk : Walk) (position : ℕ) (d : Data) (place : Place) → AllFound WishRises (pcrs_at walk position d place)
unfolding pcrs_at
pcrs_at-rise walk zero d place = wish_of_values-rises (as_array d) place walk
pcrs_at-rise walk (suc zero) d place = all_still IsGoodWish (current_pcrs_in d place) walk (current_pcrs-rise d place)
pcrs_at-rise walk (suc (suc position)) d place = banks-rise (as_array d) walk d place

-- the PCRs that a document writes
pub pcrs-rise : (d : Data) (place : Place) (walk : Walk) → AllFound WishRises (pcrs_in d place walk)
unfolding pcrs_in
pcrs-rise d place walk =
    all_of WishRises (codes "pcrs" ∷ codes "currentPCRs" ∷ codes "currentPCRandBanks" ∷ []) (pcrs_at walk) d place (pcrs_at-rise walk)
