-- The localities and the PCRs that canonical text writes read back.
use Rattle.std.proofs.Common.{◌≡◌, ℕ, zero, suc, ◌+◌, ◌-◌, ◌*◌, ◌%◌, ◌^◌, ◌<◌, ◌≤◌, ◌==◌, nat_lt, bit_or, bit_and, Bool, true, false, cond, List, [], ◌∷◌, ◌++◌, map, codes, Option, Some, None, Ok, refl, sym, ap, subst, ◌∙◌, arith, append_assoc, append-nil, mod-eq_of_lt, ◌≢◌, ◌||◌, if◌then◌else◌}
use Rattle.std.specs.Int.{bit_at}
use Rattle.std.specs.List.{range_with_len}
use Rattle.std.specs.Prelude.{filter}
use Rattle.std.proofs.lemmas.Bool.{ltb-true, ltb-false, le-ltb, eqb-false, ne_eqb}
use Rattle.std.proofs.lemmas.Nat.{or_disjoint, pow_pos, mod-pow-add, mod_below}
use Rattle.std.proofs.lemmas.Nat.Bits.{and_pow, bit_at_above, bit_at-lt}
use Rattle.serde_json.specs.Data.{Data, Items, no_items, item}
use Rattle.serde_json.specs.Find.{get, as_array}
use Rattle.serde_json.specs.View.{items_of}
use Rattle.tpol_base.specs.declared.digest.Digest32.{Digest32}
use Rattle.tpol_base.specs.Answers.{◌>>=◌}
use Rattle.tpol_base.specs.Pcr.{is_in_mask, pcrs_of_mask}
use Rattle.tpol_members.proofs.OneOf.{all_of}
use Rattle.tpol_members.proofs.Limits.{Is32, digest-fits, localities-fits, mask-fits, unsigned-fits}
use Rattle.tpol_json.proofs.Limits.{FitsDigest}
use Rattle.tpol_tree.specs.Bounds.{LocalityHasBounds}
use Rattle.tpol_write.proofs.BytesBack.{bound, unsigned-back, digest-back}
use Rattle.tpol_write.proofs.OneBack.{one_of-back}
use Rattle.tpol_write.proofs.WishesBack.{Leaving, all_still}
use Rattle.tpol_json.specs.Places.{at_member, at_item}
use Rattle.tpol_json.specs.declared.place.Place.{Place}
use Rattle.tpol_json.proofs.AllFound.{AllFound, all_after, all_then, all_map, needed-fits}
use Rattle.tpol_read.proofs.PcrOrder.{put_value, with_value-is, first_no, second_no}
use Rattle.tpol_members.specs.Values.{digest_in, unsigned_in}
use Rattle.tpol_members.specs.Faults.{Found}
use Rattle.tpol_json.specs.Reading.{bad}
use Rattle.tpol_members.specs.Members.{object_in, noted}
use Rattle.tpol_members.specs.Localities.{locality_in}
use Rattle.tpol_members.specs.Pcrs.{PcrList, has_value, with_value, new_pcr_in, pcr_member, bank_member, value_member, pcr_value_in, pcr_values_from, wish_of_values, pcr_bit, mask_from, mask_in, current_pcrs_in, select_member, bank_in, only_bank, bank_or_list, pcrs_at, pcrs_in}
use Rattle.tpol_members.specs.Walks.{still}
use Rattle.tpol_members.specs.declared.fault.PolicyKind.TheVariants.{Missing, Twice}
use Rattle.tpol_members.specs.declared.walk.Walk.{Walk}
use Rattle.tpol_tree.specs.declared.wishes.PcrWish.{PcrWish}
use Rattle.tpol_tree.specs.declared.wishes.PcrWish.TheVariants.{Values, Current}
use Rattle.tpol_write.specs.Elements.{typed}
use Rattle.tpol_write.specs.Objects.{natural, list_of}
use Rattle.tpol_write.specs.Wishes.{pcr_value, pcrs_member}
use Rattle.tpol_json.specs.Words.{find_word}

-- ---- localities

-- the localities that a document writes read back from their number
pub localities_back : (d : Data) (place : Place) → AllFound (λ n. (other : Place) → locality_in (natural n) other ≡ Ok n) (locality_in d place)
localities_back d place =
    all_map LocalityHasBounds (λ n. (other : Place) → locality_in (natural n) other ≡ Ok n) (locality_in d place) (localities-fits d place)
    (λ n fits other. let small : n ≤ 2 ^ 63 - 1 = omega (arith, fits.1) in unsigned-back 1 31 n other fits.0 fits.1 small)

-- ---- PCRs with their values, in rising order

-- from this PCR on, in rising order, each with 32 bytes
abbrev Rising : ℕ → PcrList → Type 0
Rising low [] = Unit {0}
Rising low (value ∷ values) = (low ≤ value.0) × (value.0 ≤ 31) × FitsDigest value.1 × Rising (suc value.0) values

rising_step : (test : Bool) (low pcr : ℕ) (digest : Digest32) (value : ℕ × Digest32) (values rest : PcrList) → nat_lt pcr value.0 ≡ test → Rising low (value ∷ values) → low ≤ pcr → pcr ≤ 31 → FitsDigest digest → (value.0 == pcr) ≡ false → (suc value.0 ≤ pcr → Rising (suc value.0) rest) → Rising low (cond test ((pcr, digest) ∷ value ∷ values) (value ∷ rest))
rising_step true low pcr digest value values rest is rising from most fits other later =
    (from, most, fits, (ltb-true pcr value.0 is, rising.1, rising.2, rising.3))
rising_step false low pcr digest value values rest is rising from most fits other later =
    let before : value.0 ≤ pcr = ltb-false pcr value.0 is in
    let apart : value.0 ≢ pcr = eqb-false value.0 pcr other in
    (rising.0, rising.1, rising.2, later (omega arith))

put_value-rising : (low : ℕ) (values : PcrList) (pcr : ℕ) (digest : Digest32) → Rising low values → low ≤ pcr → pcr ≤ 31 → FitsDigest digest → has_value values pcr ≡ false → Rising low (put_value values pcr digest)
put_value-rising low [] pcr digest rising from most fits new = (from, most, fits, tt)
put_value-rising low (value ∷ values) pcr digest rising from most fits new =
    rising_step (nat_lt pcr value.0) low pcr digest value values (put_value values pcr digest) refl rising from most fits (first_no (value.0 == pcr) (has_value values pcr) new)
    (λ later. put_value-rising (suc value.0) values pcr digest rising.3 later most fits (second_no (value.0 == pcr) (has_value values pcr) new))

with_value-rising : (values : PcrList) (pcr : ℕ) (digest : Digest32) → Rising 0 values → pcr ≤ 31 → FitsDigest digest → has_value values pcr ≡ false → Rising 0 (with_value values pcr digest)
with_value-rising values pcr digest rising most fits new =
    subst (Rising 0) (sym (with_value-is values pcr digest)) (put_value-rising 0 values pcr digest rising (omega arith) most fits new)

-- ---- reading PCRs with their values

-- a PCR that has no value yet
abbrev NewPcr : PcrList → ℕ → Type 0
NewPcr values pcr = (pcr ≤ 31) × (has_value values pcr ≡ false)

new_or_bad : (values : PcrList) (pcr : ℕ) (place : Place) (has : Bool) → has_value values pcr ≡ has → pcr ≤ 31 → AllFound (NewPcr values) (if has then bad Twice place else Ok pcr)
new_or_bad values pcr place true is most = tt {0}
new_or_bad values pcr place false is most = (most, is)

new_pcr-fits : (values : PcrList) (d : Data) (place : Place) → AllFound (NewPcr values) (new_pcr_in values d place)
new_pcr-fits values d place =
    all_then (λ pcr. (0 ≤ pcr) × (pcr ≤ 31)) (NewPcr values) (unsigned_in 0 31 d place) _ (unsigned-fits 0 31 d place)
    (λ pcr limits. new_or_bad values pcr place (has_value values pcr) refl limits.1)

-- a value beside those before it, and no element was counted
abbrev NewValue : PcrList → Walk → (ℕ × Digest32) × Walk → Type 0
NewValue values walk found = (found.1.left ≡ walk.left) × NewPcr values found.0.0 × FitsDigest found.0.1

pcr_value-fits : (values : PcrList) (d : Data) (place : Place) (walk : Walk) → AllFound (NewValue values walk) (pcr_value_in values d place walk)
unfolding pcr_value_in pcr_member value_member noted
pcr_value-fits values d place walk =
    all_after (NewValue values walk) (object_in d place) _
    (λ is_object. all_then (NewPcr values) (NewValue values walk) (pcr_member values d place) _ (needed-fits (NewPcr values) Missing (new_pcr_in values) (get (codes "pcr") d) (at_member place (codes "pcr")) (new_pcr-fits values))
    (λ pcr new. all_after (NewValue values walk) (bank_member (codes "hashAlg") d place) _
    (λ bank. all_then FitsDigest (NewValue values walk) (value_member d place) _ (needed-fits FitsDigest Missing digest_in (get (codes "digest") d) (at_member place (codes "digest")) digest-fits)
    (λ digest fits. (refl, new, fits)))))

-- values in rising order, and no element was counted
abbrev AllValues : ℕ → PcrList × Walk → Type 0
AllValues left found = (found.1.left ≡ left) × Rising 0 found.0

pcr_values-fits : (left : ℕ) (values : PcrList) (index : ℕ) (ds : Items) (place : Place) (walk : Walk) → walk.left ≡ left → Rising 0 values → AllFound (AllValues left) (pcr_values_from values index ds place walk)
pcr_values-fits left values index no_items place walk counted rising = (counted, rising)
pcr_values-fits left values index (item d ds) place walk counted rising =
    all_then (NewValue values walk) (AllValues left) (pcr_value_in values d (at_item place index) walk) _ (pcr_value-fits values d (at_item place index) walk)
    (λ found new. pcr_values-fits left (with_value values found.0.0 found.0.1) (suc index) ds place found.1 (new.0 ∙ counted)
    (with_value-rising values found.0.0 found.0.1 rising new.1.0 new.2 new.1.1))

-- ---- reading them back

-- a value with its PCR reads back beside those before it
pcr_member-back : (values : PcrList) (value : ℕ × Digest32) (place : Place) → NewPcr values value.0 → pcr_member values (pcr_value value) place ≡ Ok value.0
unfolding pcr_member
pcr_member-back values value place new =
    let at = at_member place (codes "pcr") in
    let small : value.0 ≤ 2 ^ 63 - 1 = omega (arith, new.0) in
    bound (unsigned_in 0 31 (natural value.0) at) value.0 (λ pcr. if has_value values pcr then bad Twice at else Ok pcr) (Ok value.0) (unsigned-back 0 31 value.0 at (omega arith) new.0 small)
    (ap (λ has. if has then bad Twice at else Ok value.0) new.1)

bank_member-back : (value : ℕ × Digest32) (place : Place) → bank_member (codes "hashAlg") (pcr_value value) place ≡ Ok tt
unfolding bank_member find_word
bank_member-back value place = refl

value_member-back : (value : ℕ × Digest32) (place : Place) → FitsDigest value.1 → value_member (pcr_value value) place ≡ Ok value.1
unfolding value_member
value_member-back value place fits = digest-back value.1 (at_member place (codes "digest")) fits

-- all members of a value are known
none_noted : (value : ℕ × Digest32) (place : Place) (walk : Walk) → noted (codes "pcr" ∷ codes "hashAlg" ∷ codes "digest" ∷ []) (pcr_value value) place walk ≡ walk
unfolding noted
none_noted value place walk = ap (λ notes. record walk { notes = notes }) (append-nil walk.notes)

pcr_value-back : (values : PcrList) (value : ℕ × Digest32) (place : Place) (walk : Walk) → NewPcr values value.0 → FitsDigest value.1 → pcr_value_in values (pcr_value value) place walk ≡ Ok (value, walk)
unfolding pcr_value_in
pcr_value-back values value place walk new fits =
    rw (pcr_member-back values value place new, bank_member-back value place, value_member-back value place fits, none_noted value place walk)

-- all before this PCR
abbrev AllBelow : ℕ → PcrList → Type 0
AllBelow low [] = Unit {0}
AllBelow low (value ∷ values) = (value.0 < low) × AllBelow low values

none_has : (low : ℕ) (values : PcrList) (pcr : ℕ) → AllBelow low values → low ≤ pcr → has_value values pcr ≡ false
none_has low [] pcr before from = refl
none_has low (value ∷ values) pcr before from =
    let apart : value.0 ≢ pcr = omega (arith, before.0) in
    ap (λ b. b || has_value values pcr) (ne_eqb value.0 pcr apart) ∙ none_has low values pcr before.1 from

put_last : (low : ℕ) (values : PcrList) (pcr : ℕ) (digest : Digest32) → AllBelow low values → low ≤ pcr → put_value values pcr digest ≡ values ++ (pcr, digest) ∷ []
put_last low [] pcr digest before from = refl
put_last low (value ∷ values) pcr digest before from =
    let less : value.0 ≤ pcr = omega (arith, before.0) in
    ap (λ b. cond b ((pcr, digest) ∷ value ∷ values) (value ∷ put_value values pcr digest)) (le-ltb pcr value.0 less)
    ∙ ap (λ vs. value ∷ vs) (put_last low values pcr digest before.1 from)

below_more : (low : ℕ) (values : PcrList) (new : ℕ × Digest32) → AllBelow low values → low ≤ new.0 → AllBelow (suc new.0) (values ++ new ∷ [])
below_more low [] new before from = (omega arith, tt)
below_more low (value ∷ values) new before from = (omega (arith, before.0, from), below_more low values new before.1 from)

values-back : (low : ℕ) (before after : PcrList) (index : ℕ) (place : Place) (walk : Walk) → AllBelow low before → Rising low after → pcr_values_from before index (items_of (map pcr_value after)) place walk ≡ Ok (before ++ after, walk)
values-back low before [] index place walk below rising = ap (λ vs. Ok (vs, walk)) (sym (append-nil before))
values-back low before (value ∷ values) index place walk below rising =
    let new = none_has low before value.0 below rising.0 in
    let put : with_value before value.0 value.1 ≡ before ++ value ∷ [] = with_value-is before value.0 value.1 ∙ put_last low before value.0 value.1 below rising.0 in
    bound (pcr_value_in before (pcr_value value) (at_item place index) walk) (value, walk) _ (Ok (before ++ value ∷ values, walk)) (pcr_value-back before value (at_item place index) walk (rising.1, new) rising.2)
    (ap (λ vs. pcr_values_from vs (suc index) (items_of (map pcr_value values)) place walk) put
    ∙ values-back (suc value.0) (before ++ value ∷ []) values (suc index) place walk (below_more low before value below rising.0) rising.3
    ∙ ap (λ vs. Ok (vs, walk)) (append_assoc before (value ∷ []) values))

-- ---- masks

-- the mask with the bits of these PCRs
abbrev with_bits : ℕ → List ℕ → ℕ
with_bits mask [] = mask
with_bits mask (pcr ∷ pcrs) = with_bits (bit_or mask (2 ^ pcr)) pcrs

-- each is a PCR
abbrev AllPcrs : List ℕ → Type 0
AllPcrs [] = Unit {0}
AllPcrs (pcr ∷ pcrs) = (pcr ≤ 31) × AllPcrs pcrs

one_fits : (test : Bool) (pcr : ℕ) (pcrs : List ℕ) → pcr ≤ 31 → AllPcrs pcrs → AllPcrs (cond test (pcr ∷ pcrs) pcrs)
one_fits true pcr pcrs most all = (most, all)
one_fits false pcr pcrs most all = all

-- the PCRs of a mask from `first` on, so many of them
abbrev pcrs_from : ℕ → ℕ → ℕ → List ℕ
pcrs_from mask first count = filter (is_in_mask mask) (range_with_len first count)

pcrs_from-fits : (mask first count : ℕ) → first + count ≤ 32 → AllPcrs (pcrs_from mask first count)
pcrs_from-fits mask first zero most = tt {0}
pcrs_from-fits mask first (suc count) most =
    one_fits (is_in_mask mask first) first (pcrs_from mask (first + 1) count) (omega arith) (pcrs_from-fits mask (first + 1) count (omega arith))

low_bits : (mask count : ℕ) → mask % 2 ^ (count + 1) ≡ bit_at mask count * 2 ^ count + mask % 2 ^ count
low_bits mask count =
    let more : count + 1 ≡ 1 + count = omega arith in
    ap (λ n. mask % 2 ^ n) more ∙ mod-pow-add mask 1 count

-- one more bit above all others
put_bit : (mask place bit : ℕ) (rest : List ℕ) → mask < 2 ^ place → bit < 2 → with_bits mask (cond (bit == 1) (place ∷ rest) rest) ≡ with_bits (bit * 2 ^ place + mask) rest
put_bit mask place zero rest small least =
    let same : mask ≡ 0 * 2 ^ place + mask = omega arith in
    ap (λ m. with_bits m rest) same
put_bit mask place (suc zero) rest small least =
    let none : bit_at mask place ≡ 0 = bit_at_above mask place place small (omega arith) in
    let apart : bit_and mask (2 ^ place) ≡ 0 = and_pow mask place ∙ ap (λ b. b * 2 ^ place) none ∙ omega arith in
    let more : bit_or mask (2 ^ place) ≡ 1 * 2 ^ place + mask = or_disjoint mask (2 ^ place) apart ∙ omega arith in
    ap (λ m. with_bits m rest) more
put_bit mask place (suc (suc bit)) rest small least = absurd (omega arith)

-- the PCRs from one on put their bits above the lower ones
bits_from : (mask first count : ℕ) → with_bits (mask % 2 ^ first) (pcrs_from mask first count) ≡ mask % 2 ^ (first + count)
bits_from mask first zero =
    let same : first ≡ first + 0 = omega arith in
    ap (λ n. mask % 2 ^ n) same
bits_from mask first (suc count) =
    let rest = pcrs_from mask (first + 1) count in
    let more : first + 1 + count ≡ first + suc count = omega arith in
    put_bit (mask % 2 ^ first) first (bit_at mask first) rest (mod_below mask (2 ^ first) (pow_pos first)) (bit_at-lt mask first)
    ∙ ap (λ m. with_bits m rest) (sym (low_bits mask first))
    ∙ bits_from mask (first + 1) count
    ∙ ap (λ n. mask % 2 ^ n) more

pcr_bit-back : (pcr : ℕ) (place : Place) → pcr ≤ 31 → pcr_bit (natural pcr) place ≡ Ok (2 ^ pcr)
pcr_bit-back pcr place most =
    let small : pcr ≤ 2 ^ 63 - 1 = omega arith in
    bound (unsigned_in 0 31 (natural pcr) place) pcr (λ n. Ok (2 ^ n)) (Ok (2 ^ pcr)) (unsigned-back 0 31 pcr place (omega arith) most small) refl

mask_from-back : (mask index : ℕ) (pcrs : List ℕ) (place : Place) → AllPcrs pcrs → mask_from mask index (items_of (map natural pcrs)) place ≡ Ok (with_bits mask pcrs)
mask_from-back mask index [] place all = refl
mask_from-back mask index (pcr ∷ pcrs) place all =
    bound (pcr_bit (natural pcr) (at_item place index)) (2 ^ pcr) (λ bit. mask_from (bit_or mask bit) (suc index) (items_of (map natural pcrs)) place) (Ok (with_bits mask (pcr ∷ pcrs))) (pcr_bit-back pcr (at_item place index) all.0)
    (mask_from-back (bit_or mask (2 ^ pcr)) (suc index) pcrs place all.1)

-- as many PCRs of a mask read back as that many of its bits
pcrs_from-back : (mask count : ℕ) (place : Place) → count ≤ 32 → mask_in (list_of (map natural (pcrs_from mask 0 count))) place ≡ Ok (mask % 2 ^ count)
pcrs_from-back mask count place most =
    let none : 0 ≡ mask % 2 ^ 0 = omega arith in
    let all : 0 + count ≡ count = omega arith in
    let fits : 0 + count ≤ 32 = omega arith in
    mask_from-back 0 0 (pcrs_from mask 0 count) place (pcrs_from-fits mask 0 count fits)
    ∙ ap Ok (ap (λ m. with_bits m (pcrs_from mask 0 count)) none ∙ bits_from mask 0 count ∙ ap (λ n. mask % 2 ^ n) all)

pcrs_of_mask-is : (mask : ℕ) → pcrs_of_mask mask ≡ pcrs_from mask 0 32
unfolding pcrs_of_mask
pcrs_of_mask-is mask = refl

mask-back : (mask : ℕ) (place : Place) → Is32 mask → mask_in (list_of (map natural (pcrs_of_mask mask))) place ≡ Ok mask
mask-back mask place is =
    ap (λ pcrs. mask_in (list_of (map natural pcrs)) place) (pcrs_of_mask-is mask)
    ∙ pcrs_from-back mask 32 place (omega arith)
    ∙ ap Ok (mod-eq_of_lt is)

-- ---- PCRs

-- PCRs that read back
abbrev FitsPcrs : PcrWish → Type 0
FitsPcrs (Values values) = Rising 0 values
FitsPcrs (Current mask) = Is32 mask

wish_of_values-fits : (list : Option Items) (place : Place) (walk : Walk) → AllFound (Leaving FitsPcrs walk) (wish_of_values list place walk)
wish_of_values-fits None place walk = tt {0}
wish_of_values-fits (Some ds) place walk =
    all_then (AllValues walk.left) (Leaving FitsPcrs walk) (pcr_values_from [] 0 ds place walk) _ (pcr_values-fits walk.left [] 0 ds place walk refl tt)
    (λ found all. all)

current_pcrs-fits : (d : Data) (place : Place) → AllFound FitsPcrs (current_pcrs_in d place)
current_pcrs-fits d place = all_then Is32 FitsPcrs (mask_in d place) _ (mask-fits d place) (λ mask is. is)

bank-fits : (walk : Walk) (d : Data) (place : Place) → AllFound (Leaving FitsPcrs walk) (bank_in walk d place)
unfolding bank_in select_member noted
bank-fits walk d place =
    all_after (Leaving FitsPcrs walk) (object_in d place) _
    (λ is_object. all_after (Leaving FitsPcrs walk) (bank_member (codes "hash") d place) _
    (λ bank. all_then Is32 (Leaving FitsPcrs walk) (select_member d place) _ (needed-fits Is32 Missing mask_in (get (codes "pcrSelect") d) (at_member place (codes "pcrSelect")) mask-fits)
    (λ mask is. (refl, is))))

only_bank-fits : (walk : Walk) (ds : Items) (place : Place) → AllFound (Leaving FitsPcrs walk) (only_bank walk ds place)
only_bank-fits walk no_items place = tt {0}
only_bank-fits walk (item d no_items) place = bank-fits walk d (at_item place 0)
only_bank-fits walk (item d (item other ds)) place = tt {0}

banks-fits : (list : Option Items) (walk : Walk) (d : Data) (place : Place) → AllFound (Leaving FitsPcrs walk) (bank_or_list list walk d place)
banks-fits None walk d place = bank-fits walk d place
banks-fits (Some ds) walk d place = only_bank-fits walk ds place

pcrs_at-fits : (walk : Walk) (position : ℕ) (d : Data) (place : Place) → AllFound (Leaving FitsPcrs walk) (pcrs_at walk position d place)
unfolding pcrs_at
pcrs_at-fits walk zero d place = wish_of_values-fits (as_array d) place walk
pcrs_at-fits walk (suc zero) d place = all_still FitsPcrs (current_pcrs_in d place) walk (current_pcrs-fits d place)
pcrs_at-fits walk (suc (suc position)) d place = banks-fits (as_array d) walk d place

wish-fits : (d : Data) (place : Place) (walk : Walk) → AllFound (Leaving FitsPcrs walk) (pcrs_in d place walk)
unfolding pcrs_in
wish-fits d place walk =
    all_of (Leaving FitsPcrs walk) (codes "pcrs" ∷ codes "currentPCRs" ∷ codes "currentPCRandBanks" ∷ []) (pcrs_at walk) d place (pcrs_at-fits walk)

wish-back : (wish : PcrWish) (place : Place) (walk : Walk) → FitsPcrs wish → pcrs_in (typed (codes "POLICYPCR") (pcrs_member wish ∷ [])) place walk ≡ Ok (wish, walk)
unfolding pcrs_in pcrs_at
wish-back (Values values) place walk rising =
    let at = at_member place (codes "pcrs") in
    one_of-back [] (codes "currentPCRs" ∷ codes "currentPCRandBanks" ∷ []) (codes "pcrs") (pcrs_at walk) (typed (codes "POLICYPCR") (pcrs_member (Values values) ∷ [])) (list_of (map pcr_value values)) place (Values values, walk) tt refl (refl, (refl, tt))
    (bound (pcr_values_from [] 0 (items_of (map pcr_value values)) at walk) (values, walk) (λ found. Ok (Values found.0, found.1)) (Ok (Values values, walk)) (values-back 0 [] values 0 at walk tt rising) refl)
wish-back (Current mask) place walk is =
    one_of-back (codes "pcrs" ∷ []) (codes "currentPCRandBanks" ∷ []) (codes "currentPCRs") (pcrs_at walk) (typed (codes "POLICYPCR") (pcrs_member (Current mask) ∷ [])) (list_of (map natural (pcrs_of_mask mask))) place (Current mask, walk) (refl, tt) refl (refl, tt)
    (ap (λ (found : Found ℕ). still (found >>= λ m. Ok (Current m)) walk) (mask-back mask (at_member place (codes "currentPCRs")) is))

-- the PCRs that a document writes read back from the one member that canonical text writes of them, which leaves no note
pub pcrs_back : (d : Data) (place : Place) (walk : Walk) → AllFound (λ found. (found.1.left ≡ walk.left) × ((other : Place) (before : Walk) → pcrs_in (typed (codes "POLICYPCR") (pcrs_member found.0 ∷ [])) other before ≡ Ok (found.0, before))) (pcrs_in d place walk)
pcrs_back d place walk =
    all_map (Leaving FitsPcrs walk) _ (pcrs_in d place walk) (wish-fits d place walk)
    (λ found fits. (fits.0, λ other before. wish-back found.0 other before fits.1))
