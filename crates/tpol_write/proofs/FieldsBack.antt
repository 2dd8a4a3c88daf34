-- The members that several rows have read back.
use Rattle.std.proofs.Common.{◌≡◌, ℕ, ◌≤◌, ◌^◌, ◌-◌, ◌&&◌, Bool, true, false, ℤ, pos, List, [], codes, Option, Some, None, Ok, refl, ap, ◌∙◌, arith, if◌then◌else◌}
use Rattle.serde_json.specs.Data.{Data, boolean, string}
use Rattle.serde_json.specs.Find.{get}
use Rattle.tpol_base.specs.Name.{name_of_bytes}
use Rattle.tpol_base.specs.declared.compare.Compare.{Compare}
use Rattle.tpol_base.specs.declared.digest.Digest32.{Digest32}
use Rattle.tpol_base.specs.declared.name.Name.{Name}
use Rattle.tpol_base.specs.declared.name.Name.TheVariants.{Empty}
use Rattle.tpol_members.proofs.Limits.{FitsOffset, FitsRef, digest-fits}
use Rattle.tpol_json.proofs.Limits.{FitsDigest, IsSigned32}
use Rattle.tpol_write.proofs.BytesBack.{as_member, bound, up_to-back, digest-back, signed-back, unsigned-back, read_bytes-back}
use Rattle.tpol_write.proofs.PublicsBack.{name_back}
use Rattle.tpol_write.proofs.WishesBack.{NameBack}
use Rattle.tpol_write.proofs.WordsBack.{operation_back}
use Rattle.tpol_json.specs.Bytes.{bytes_in}
use Rattle.tpol_json.specs.Places.{at_member}
use Rattle.tpol_json.specs.declared.place.Place.{Place}
use Rattle.tpol_json.proofs.AllFound.{AllFound, all_then, optional-fits}
use Rattle.tpol_json.specs.Values.{name_or_bad}
use Rattle.tpol_members.specs.Values.{bytes_up_to, digest_in, name_in, is_empty_name, unsigned_in, signed_in, truth_in}
use Rattle.tpol_members.specs.Operations.{operation_in}
use Rattle.tpol_members.specs.Faults.{Found, read_as}
use Rattle.tpol_json.specs.Reading.{bad}
use Rattle.tpol_members.specs.Fields.{policy_ref_in, some_digest_in, cp_hash_in, expiration_in, operand_in, offset_in, operation_member_in}
use Rattle.tpol_members.specs.Members.{read_needed}
use Rattle.tpol_elements.specs.Rows.{include_member, object_member, included_object, written_member}
use Rattle.tpol_members.specs.declared.fault.PolicyKind.TheVariants.{Missing}
use Rattle.tpol_base.specs.Compare.{name_of_compare}
use Rattle.tpol_write.specs.Objects.{hex_text, natural, integer}
use Rattle.tpol_write.specs.Wishes.{name_value}
use Rattle.tpol_json.specs.Members.{read_optional}

-- ---- members that have to be there, and members that may be left out

pub needed-back : {A : Type 0} (read : Data → Place → Found A) (member : Option Data) (d : Data) (x : A) (place : Place) → member ≡ Some d → read d place ≡ Ok x → read_needed read member place ≡ Ok x
needed-back read member d x place e f = ap (λ m. read_needed read m place) e ∙ f

pub optional-back : {A : Type 0} (read : Data → Place → Found A) (default : A) (member : Option Data) (d : Data) (x : A) (place : Place) → member ≡ Some d → read d place ≡ Ok x → read_optional read default member place ≡ Ok x
optional-back read default member d x place e f = ap (λ m. read_optional read default m place) e ∙ f

-- ---- policyRef, cpHashA and expiration

pub policy_ref-back : (policy_ref : List ℕ) (d : Data) (place : Place) → get (codes "policyRef") d ≡ Some (hex_text policy_ref) → FitsRef policy_ref → policy_ref_in d place ≡ Ok policy_ref
unfolding policy_ref_in
policy_ref-back policy_ref d place has fits =
    optional-back (bytes_up_to 64) [] (get (codes "policyRef") d) (hex_text policy_ref) policy_ref (at_member place (codes "policyRef")) has (up_to-back 64 policy_ref (at_member place (codes "policyRef")) fits)

abbrev pub FitsCpHash : Option Digest32 → Type 0
FitsCpHash None = Unit {0}
FitsCpHash (Some digest) = FitsDigest digest

pub cp_hash-fits : (d : Data) (place : Place) → AllFound FitsCpHash (cp_hash_in d place)
unfolding cp_hash_in
cp_hash-fits d place =
    optional-fits FitsCpHash some_digest_in None (get (codes "cpHashA") d) (at_member place (codes "cpHashA")) (tt {0})
    (λ e p. all_then FitsDigest FitsCpHash (digest_in e p) _ (digest-fits e p) (λ digest fits. fits))

abbrev pub HasCpHash : Option Digest32 → Data → Type 0
HasCpHash None d = get (codes "cpHashA") d ≡ None
HasCpHash (Some digest) d = get (codes "cpHashA") d ≡ Some (hex_text digest.bytes)

pub cp_hash-back : (cp_hash : Option Digest32) (d : Data) (place : Place) → HasCpHash cp_hash d → FitsCpHash cp_hash → cp_hash_in d place ≡ Ok cp_hash
unfolding cp_hash_in
cp_hash-back None d place has fits = ap (λ m. read_optional some_digest_in None m (at_member place (codes "cpHashA"))) has
cp_hash-back (Some digest) d place has fits =
    let at = at_member place (codes "cpHashA") in
    optional-back some_digest_in None (get (codes "cpHashA") d) (hex_text digest.bytes) (Some digest) at has
    (bound (digest_in (hex_text digest.bytes) at) digest (λ x. Ok (Some x)) (Ok (Some digest)) (digest-back digest at fits) refl)

pub expiration-back : (expiration : ℤ) (d : Data) (place : Place) → get (codes "expiration") d ≡ Some (integer expiration) → IsSigned32 expiration → expiration_in d place ≡ Ok expiration
unfolding expiration_in
expiration-back expiration d place has fits =
    let at = at_member place (codes "expiration") in
    optional-back signed_in (pos 0) (get (codes "expiration") d) (integer expiration) expiration at has (signed-back expiration at fits)

-- ---- comparisons

pub operand-back : (operand : List ℕ) (d : Data) (place : Place) → get (codes "operandB") d ≡ Some (hex_text operand) → FitsRef operand → operand_in d place ≡ Ok operand
unfolding operand_in
operand-back operand d place has fits =
    let at = at_member place (codes "operandB") in
    needed-back (bytes_up_to 64) (get (codes "operandB") d) (hex_text operand) operand at has (up_to-back 64 operand at fits)

pub offset-back : (offset : ℕ) (d : Data) (place : Place) → get (codes "offset") d ≡ Some (natural offset) → FitsOffset offset → offset_in d place ≡ Ok offset
unfolding offset_in
offset-back offset d place has fits =
    let at = at_member place (codes "offset") in
    let small : offset ≤ 2 ^ 63 - 1 = omega (arith, fits.1) in
    optional-back (unsigned_in 0 65535) 0 (get (codes "offset") d) (natural offset) offset at has (unsigned-back 0 65535 offset at fits.0 fits.1 small)

pub operation-back : (operation : Compare) (d : Data) (place : Place) → get (codes "operation") d ≡ Some (string (name_of_compare operation)) → operation_member_in d place ≡ Ok operation
unfolding operation_member_in
operation-back operation d place has =
    let at = at_member place (codes "operation") in
    optional-back operation_in _ (get (codes "operation") d) (string (name_of_compare operation)) operation at has (operation_back operation at)

-- ---- truth values

pub include-back : (include : Bool) (d : Data) (place : Place) → get (codes "includeObject") d ≡ Some (boolean include) → include_member d place ≡ Ok include
unfolding include_member
include-back include d place has = ap (λ m. read_optional truth_in false m (at_member place (codes "includeObject"))) has

pub written-back : (written : Bool) (d : Data) (place : Place) → get (codes "writtenSet") d ≡ Some (boolean written) → written_member d place ≡ Ok written
unfolding written_member
written-back written d place has = ap (λ m. read_optional truth_in true m (at_member place (codes "writtenSet"))) has

-- ---- the Name of the object of a duplication

-- a Name that reads back, and that is there where it counts
abbrev pub FitsObject : Bool → Name → Type 0
FitsObject include object = NameBack object × ((is_empty_name object && include) ≡ false)

empty_back : NameBack Empty
empty_back place =
    ap read_as (bound (as_member (bytes_in (hex_text []) place)) [] (λ bytes. name_or_bad (name_of_bytes bytes) place) (Ok Empty) (read_bytes-back [] place (λ i. omega arith)) refl)

object_member-fits : (d : Data) (place : Place) → AllFound NameBack (object_member d place)
unfolding object_member
object_member-fits d place = optional-fits NameBack name_in Empty (get (codes "objectName") d) (at_member place (codes "objectName")) empty_back name_back

tested : (include : Bool) (object : Name) (place : Place) (lacks : Bool) → (is_empty_name object && include) ≡ lacks → NameBack object → AllFound (FitsObject include) (if lacks then bad Missing place else Ok object)
tested include object place true is back = tt {0}
tested include object place false is back = (back, is)

pub object-fits : (include : Bool) (d : Data) (place : Place) → AllFound (FitsObject include) (included_object include d place)
unfolding included_object
object-fits include d place =
    all_then NameBack (FitsObject include) (object_member d place) _ (object_member-fits d place)
    (λ object back. tested include object (at_member place (codes "objectName")) (is_empty_name object && include) refl back)

pub object-back : (include : Bool) (object : Name) (d : Data) (place : Place) → get (codes "objectName") d ≡ Some (name_value object) → FitsObject include object → included_object include d place ≡ Ok object
unfolding included_object object_member
object-back include object d place has fits =
    let at = at_member place (codes "objectName") in
    bound (read_optional name_in Empty (get (codes "objectName") d) at) object (λ n. if is_empty_name n && include then bad Missing at else Ok n) (Ok object)
    (optional-back name_in Empty (get (codes "objectName") d) (name_value object) object at has (fits.0 at))
    (ap (λ lacks. if lacks then bad Missing at else Ok object) fits.1)
