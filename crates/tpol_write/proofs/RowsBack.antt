-- The rows of the elements that hold no other elements: what canonical text writes of them reads back, without a note.
use Rattle.std.proofs.Common.{◌≡◌, ℕ, Bool, ℤ, List, [], ◌++◌, codes, Option, Some, None, Ok, refl, ap, ◌∙◌, append-nil}
use Rattle.serde_json.specs.Data.{Data, boolean, string}
use Rattle.serde_json.specs.Find.{get}
use Rattle.tpol_base.specs.declared.compare.Compare.{Compare}
use Rattle.tpol_base.specs.declared.digest.Digest32.{Digest32}
use Rattle.tpol_base.specs.declared.name.Name.{Name}
use Rattle.tpol_members.proofs.Limits.{FitsOffset, FitsRef, digest-fits, expiration-fits, offset-fits, operand-fits, policy_ref-fits}
use Rattle.tpol_json.proofs.Limits.{FitsDigest, IsSigned32}
use Rattle.tpol_write.proofs.BytesBack.{bound, digest-back}
use Rattle.tpol_write.proofs.FieldsBack.{needed-back, policy_ref-back, FitsCpHash, HasCpHash, cp_hash-fits, cp_hash-back, expiration-back, operand-back, offset-back, operation-back, include-back, written-back, FitsObject, object-fits, object-back}
use Rattle.tpol_write.proofs.PcrsBack.{localities_back, pcrs_back}
use Rattle.tpol_write.proofs.WishesBack.{Leaving, all_still, FitsKey, HasKey, key-fits, key-back, FitsIndex, HasIndex, index-fits, index-back, FitsEntity, HasEntity, entity-fits, entity-back, FitsParent, HasParent, parent-fits, parent-back, FitsNames, HasNames, names-fits, names-back}
use Rattle.tpol_write.proofs.WordsBack.{code_back}
use Rattle.tpol_json.specs.Places.{at_member}
use Rattle.tpol_json.specs.declared.place.Place.{Place}
use Rattle.tpol_json.proofs.AllFound.{AllFound, all_after, all_then, needed-fits}
use Rattle.tpol_read.specs.Elements.{element_by, element_of_type, element_type_in, leaf_element}
use Rattle.tpol_members.specs.Values.{digest_in}
use Rattle.tpol_members.specs.Faults.{Found}
use Rattle.tpol_members.specs.Fields.{policy_ref_in, cp_hash_in, expiration_in, operand_in, offset_in, operation_member_in}
use Rattle.tpol_members.specs.Members.{needed, object_in, noted}
use Rattle.tpol_members.specs.Localities.{locality_in}
use Rattle.tpol_members.specs.Operations.{code_in}
use Rattle.tpol_members.specs.declared.fault.PolicyKind.TheVariants.{Missing}
use Rattle.tpol_members.specs.Pcrs.{pcrs_in}
use Rattle.tpol_elements.specs.Rows.{leaf_row, pcr_row, nv_row, secret_row, signed_row, authorize_row, authorize_nv_row, locality_member, locality_row, command_code_row, cp_hash_row, name_hash_row, counter_timer_row, duplication_row, nv_written_row, without_pem, include_member, included_object, written_member}
use Rattle.tpol_elements.specs.Types.{type_in, leaf_members}
use Rattle.tpol_members.specs.Walks.{Reading, still}
use Rattle.tpol_elements.specs.Wishes.{key_in, index_in, entity_in, parent_in, names_in}
use Rattle.tpol_json.specs.Words.{find_word}
use Rattle.tpol_elements.specs.declared.types.ElementType.TheVariants.{Leaf}
use Rattle.tpol_elements.specs.declared.types.LeafType.{LeafType}
use Rattle.tpol_elements.specs.declared.types.LeafType.TheVariants as types
use Rattle.tpol_members.specs.declared.walk.Walk.{Walk}
use Rattle.tpol_tree.specs.declared.policy.Branches.{Branches}
use Rattle.tpol_tree.specs.declared.policy.Element.{Element}
use Rattle.tpol_tree.specs.declared.policy.Element.TheVariants.{Pcr, Nv, Secret, Signed, Authorize, AuthorizeNv, Locality, CommandCode, CpHash, NameHash, CounterTimer, Duplication, NvWritten, AuthValue, Password, PhysicalPresence}
use Rattle.tpol_tree.specs.declared.wishes.EntityWish.{EntityWish}
use Rattle.tpol_tree.specs.declared.wishes.EntityWish.TheVariants as entity
use Rattle.tpol_tree.specs.declared.wishes.IndexWish.{IndexWish}
use Rattle.tpol_tree.specs.declared.wishes.IndexWish.TheVariants as index
use Rattle.tpol_tree.specs.declared.wishes.KeyWish.{KeyWish}
use Rattle.tpol_tree.specs.declared.wishes.KeyWish.TheVariants as key
use Rattle.tpol_tree.specs.declared.wishes.NamesWish.{NamesWish}
use Rattle.tpol_tree.specs.declared.wishes.NamesWish.TheVariants as names
use Rattle.tpol_tree.specs.declared.wishes.ParentWish.{ParentWish}
use Rattle.tpol_tree.specs.declared.wishes.ParentWish.TheVariants as parent
use Rattle.tpol_tree.specs.declared.wishes.PcrWish.{PcrWish}
use Rattle.tpol_tree.specs.declared.wishes.PcrWish.TheVariants.{Values, Current}
use Rattle.tpol_write.specs.Elements.{element_value}
use Rattle.tpol_write.specs.Levels.{levels_of_element}
use Rattle.tpol_write.specs.Names.{code_text}
use Rattle.tpol_write.specs.Objects.{hex_text, natural, integer}
use Rattle.tpol_write.specs.Wishes.{name_value}
use Rattle.tpol_base.specs.Compare.{name_of_compare}
use Rattle.tpol_json.specs.Members.{unknown}

-- ---- an element that reads back

-- an element that holds no others reads back as it is, whatever ORs there may be, and leaves the walk as it was
abbrev pub LeafBack : Element → Type 0
LeafBack e = (levels_of_element e ≡ 0) × ((or : Data → Place → Reading Branches) (place : Place) (walk : Walk) → element_by or (element_value e) place walk ≡ Ok (e, walk))

-- an object whose members are all known leaves no note
pub noted-none : (known : List (List ℕ)) (d : Data) (place : Place) (walk : Walk) → unknown known d place ≡ [] → noted known d place walk ≡ walk
unfolding noted
noted-none known d place walk none =
    let P : List Place → Walk = λ notes. record walk { notes = notes } in
    ap (λ more. P (walk.notes ++ more)) none ∙ ap P (append-nil walk.notes)

-- a value has this type, and no member that is not of that type's row
abbrev HasType : LeafType → List ℕ → Data → Type 0
HasType leaf name d = (get (codes "type") d ≡ Some (string name)) × ((place : Place) → unknown (leaf_members leaf) d place ≡ [])

abbrev IsType : LeafType → List ℕ → Type 0
IsType leaf name = (place : Place) → type_in (string name) place ≡ Ok (Leaf leaf)

leaf_back : (leaf : LeafType) (name : List ℕ) (d : Data) (e : Element) (or : Data → Place → Reading Branches) (place : Place) (walk : Walk) → object_in d place ≡ Ok tt → IsType leaf name → HasType leaf name d → leaf_row leaf d place walk ≡ Ok (e, walk) → element_by or d place walk ≡ Ok (e, walk)
unfolding element_by element_of_type element_type_in leaf_element
leaf_back leaf name d e or place walk is_object is_type has row =
    let type : element_type_in d place ≡ Ok (Leaf leaf) =
    bound (object_in d place) tt (λ _. needed type_in (codes "type") d place) (Ok (Leaf leaf)) is_object
    (needed-back type_in (get (codes "type") d) (string name) (Leaf leaf) (at_member place (codes "type")) has.0 (is_type (at_member place (codes "type")))) in
    bound (element_type_in d place) (Leaf leaf) (λ t. element_of_type or t d place walk) (Ok (e, walk)) type
    (bound (leaf_row leaf d place walk) (e, walk) (λ found. Ok (found.0, noted (leaf_members leaf) d place found.1)) (Ok (e, walk)) row
    (ap (λ w. Ok (e, w)) (noted-none (leaf_members leaf) d place walk (has.1 place))))

still-back : {A : Type 0} (found : Found A) (x : A) (walk : Walk) → found ≡ Ok x → still found walk ≡ Ok (x, walk)
still-back found x walk e = ap (λ r. still r walk) e

-- ---- the names of types

pcr_type : IsType types.Pcr (codes "POLICYPCR")
unfolding type_in find_word
pcr_type place = refl

nv_type : IsType types.Nv (codes "POLICYNV")
unfolding type_in find_word
nv_type place = refl

secret_type : IsType types.Secret (codes "POLICYSECRET")
unfolding type_in find_word
secret_type place = refl

signed_type : IsType types.Signed (codes "POLICYSIGNED")
unfolding type_in find_word
signed_type place = refl

authorize_type : IsType types.Authorize (codes "POLICYAUTHORIZE")
unfolding type_in find_word
authorize_type place = refl

authorize_nv_type : IsType types.AuthorizeNv (codes "POLICYAUTHORIZENV")
unfolding type_in find_word
authorize_nv_type place = refl

locality_type : IsType types.Locality (codes "POLICYLOCALITY")
unfolding type_in find_word
locality_type place = refl

command_code_type : IsType types.CommandCode (codes "POLICYCOMMANDCODE")
unfolding type_in find_word
command_code_type place = refl

cp_hash_type : IsType types.CpHash (codes "POLICYCPHASH")
unfolding type_in find_word
cp_hash_type place = refl

name_hash_type : IsType types.NameHash (codes "POLICYNAMEHASH")
unfolding type_in find_word
name_hash_type place = refl

counter_timer_type : IsType types.CounterTimer (codes "POLICYCOUNTERTIMER")
unfolding type_in find_word
counter_timer_type place = refl

duplication_type : IsType types.DuplicationSelect (codes "POLICYDUPLICATIONSELECT")
unfolding type_in find_word
duplication_type place = refl

nv_written_type : IsType types.NvWritten (codes "POLICYNVWRITTEN")
unfolding type_in find_word
nv_written_type place = refl

auth_value_type : IsType types.AuthValue (codes "POLICYAUTHVALUE")
unfolding type_in find_word
auth_value_type place = refl

password_type : IsType types.Password (codes "POLICYPASSWORD")
unfolding type_in find_word
password_type place = refl

presence_type : IsType types.PhysicalPresence (codes "POLICYPHYSICALPRESENCE")
unfolding type_in find_word
presence_type place = refl

-- ---- POLICYPCR

abbrev PcrsBack : PcrWish → Type 0
PcrsBack pcrs = (place : Place) (walk : Walk) → pcrs_in (element_value (Pcr pcrs)) place walk ≡ Ok (pcrs, walk)

pcr_has : (pcrs : PcrWish) → HasType types.Pcr (codes "POLICYPCR") (element_value (Pcr pcrs))
pcr_has (Values values) = (refl, λ place. refl)
pcr_has (Current mask) = (refl, λ place. refl)

pcr_back : (pcrs : PcrWish) → PcrsBack pcrs → LeafBack (Pcr pcrs)
unfolding pcr_row
pcr_back pcrs back = (
  refl,
  λ or place walk.
      let d = element_value (Pcr pcrs) in
      leaf_back types.Pcr (codes "POLICYPCR") d (Pcr pcrs) or place walk refl pcr_type (pcr_has pcrs)
      (bound (pcrs_in d place walk) (pcrs, walk) (λ found. Ok (Pcr found.0, found.1)) (Ok (Pcr pcrs, walk)) (back place walk) refl),
)

pcr_all : (d : Data) (place : Place) (walk : Walk) → AllFound (Leaving LeafBack walk) (pcr_row d place walk)
unfolding pcr_row
pcr_all d place walk = all_then (Leaving PcrsBack walk) (Leaving LeafBack walk) (pcrs_in d place walk) _ (pcrs_back d place walk) (λ found back. (back.0, pcr_back found.0 back.1))

-- ---- POLICYNV

nv_has : (i : IndexWish) (operand : List ℕ) (offset : ℕ) (operation : Compare) →
    let d = element_value (Nv i operand offset operation) in
    HasType types.Nv (codes "POLICYNV") d × HasIndex i d × (get (codes "operandB") d ≡ Some (hex_text operand)) × (get (codes "offset") d ≡ Some (natural offset)) × (get (codes "operation") d ≡ Some (string (name_of_compare operation)))
nv_has (index.Path path) operand offset operation = ((refl, λ place. refl), (refl, refl), refl, refl, refl)
nv_has (index.Public area) operand offset operation = ((refl, λ place. refl), (refl, refl), refl, refl, refl)

nv_back : (i : IndexWish) (operand : List ℕ) (offset : ℕ) (operation : Compare) → FitsIndex i → FitsRef operand → FitsOffset offset → LeafBack (Nv i operand offset operation)
unfolding nv_row
nv_back i operand offset operation fits_index fits_operand fits_offset = (
  refl,
  λ or place walk.
      let e = Nv i operand offset operation in
      let d = element_value e in
      let has = nv_has i operand offset operation in
      leaf_back types.Nv (codes "POLICYNV") d e or place walk refl nv_type has.0
      (bound (index_in d place walk) (i, walk) _ (Ok (e, walk)) (index-back i d place walk fits_index has.1)
      (bound (operand_in d place) operand _ (Ok (e, walk)) (operand-back operand d place has.2 fits_operand)
      (bound (offset_in d place) offset _ (Ok (e, walk)) (offset-back offset d place has.3 fits_offset)
      (bound (operation_member_in d place) operation _ (Ok (e, walk)) (operation-back operation d place has.4) refl)))),
)

nv_all : (d : Data) (place : Place) (walk : Walk) → AllFound (Leaving LeafBack walk) (nv_row d place walk)
unfolding nv_row
nv_all d place walk =
    all_then (Leaving FitsIndex walk) (Leaving LeafBack walk) (index_in d place walk) _ (index-fits d place walk)
    (λ i fits_index. all_then FitsRef (Leaving LeafBack walk) (operand_in d place) _ (operand-fits d place)
    (λ operand fits_operand. all_then FitsOffset (Leaving LeafBack walk) (offset_in d place) _ (offset-fits d place)
    (λ offset fits_offset. all_after (Leaving LeafBack walk) (operation_member_in d place) _
    (λ operation. (fits_index.0, nv_back i.0 operand offset operation fits_index.1 fits_operand fits_offset)))))

-- ---- POLICYSECRET

secret_has : (e : EntityWish) (policy_ref : List ℕ) (cp_hash : Option Digest32) (expiration : ℤ) →
    let d = element_value (Secret e policy_ref cp_hash expiration) in
    HasType types.Secret (codes "POLICYSECRET") d × HasEntity e d × (get (codes "policyRef") d ≡ Some (hex_text policy_ref)) × HasCpHash cp_hash d × (get (codes "expiration") d ≡ Some (integer expiration))
secret_has (entity.Path path) policy_ref None expiration = ((refl, λ place. refl), (refl, refl), refl, refl, refl)
secret_has (entity.Path path) policy_ref (Some digest) expiration = ((refl, λ place. refl), (refl, refl), refl, refl, refl)
secret_has (entity.Named name) policy_ref None expiration = ((refl, λ place. refl), (refl, refl), refl, refl, refl)
secret_has (entity.Named name) policy_ref (Some digest) expiration = ((refl, λ place. refl), (refl, refl), refl, refl, refl)

secret_back : (e : EntityWish) (policy_ref : List ℕ) (cp_hash : Option Digest32) (expiration : ℤ) → FitsEntity e → FitsRef policy_ref → FitsCpHash cp_hash → IsSigned32 expiration → LeafBack (Secret e policy_ref cp_hash expiration)
unfolding secret_row
secret_back e policy_ref cp_hash expiration fits_entity fits_ref fits_cp_hash fits_expiration = (
  refl,
  λ or place walk.
      let secret = Secret e policy_ref cp_hash expiration in
      let d = element_value secret in
      let has = secret_has e policy_ref cp_hash expiration in
      leaf_back types.Secret (codes "POLICYSECRET") d secret or place walk refl secret_type has.0
      (still-back (secret_row d place) secret walk
      (bound (entity_in d place) e _ (Ok secret) (entity-back e d place fits_entity has.1)
      (bound (policy_ref_in d place) policy_ref _ (Ok secret) (policy_ref-back policy_ref d place has.2 fits_ref)
      (bound (cp_hash_in d place) cp_hash _ (Ok secret) (cp_hash-back cp_hash d place has.3 fits_cp_hash)
      (bound (expiration_in d place) expiration _ (Ok secret) (expiration-back expiration d place has.4 fits_expiration) refl))))),
)

secret_all : (d : Data) (place : Place) (walk : Walk) → AllFound (Leaving LeafBack walk) (still (secret_row d place) walk)
unfolding secret_row
secret_all d place walk =
    all_still LeafBack (secret_row d place) walk
    (all_then FitsEntity LeafBack (entity_in d place) _ (entity-fits d place)
    (λ e fits_entity. all_then FitsRef LeafBack (policy_ref_in d place) _ (policy_ref-fits d place)
    (λ policy_ref fits_ref. all_then FitsCpHash LeafBack (cp_hash_in d place) _ (cp_hash-fits d place)
    (λ cp_hash fits_cp_hash. all_then IsSigned32 LeafBack (expiration_in d place) _ (expiration-fits d place)
    (λ expiration fits_expiration. secret_back e policy_ref cp_hash expiration fits_entity fits_ref fits_cp_hash fits_expiration)))))

-- ---- POLICYSIGNED

signed_has : (k : KeyWish) (policy_ref : List ℕ) (cp_hash : Option Digest32) (expiration : ℤ) →
    let d = element_value (Signed k policy_ref cp_hash expiration) in
    HasType types.Signed (codes "POLICYSIGNED") d × (get (codes "keyPEM") d ≡ None) × HasKey (codes "publicKey") k d × (get (codes "policyRef") d ≡ Some (hex_text policy_ref)) × HasCpHash cp_hash d × (get (codes "expiration") d ≡ Some (integer expiration))
signed_has (key.Path path) policy_ref None expiration = ((refl, λ place. refl), refl, (refl, refl, refl), refl, refl, refl)
signed_has (key.Path path) policy_ref (Some digest) expiration = ((refl, λ place. refl), refl, (refl, refl, refl), refl, refl, refl)
signed_has (key.Public area) policy_ref None expiration = ((refl, λ place. refl), refl, (refl, refl, refl), refl, refl, refl)
signed_has (key.Public area) policy_ref (Some digest) expiration = ((refl, λ place. refl), refl, (refl, refl, refl), refl, refl, refl)

pub pem-none : (d : Data) (place : Place) → get (codes "keyPEM") d ≡ None → without_pem d place ≡ Ok tt
unfolding without_pem
pem-none d place none = rw none

signed_back : (k : KeyWish) (policy_ref : List ℕ) (cp_hash : Option Digest32) (expiration : ℤ) → FitsKey k → FitsRef policy_ref → FitsCpHash cp_hash → IsSigned32 expiration → LeafBack (Signed k policy_ref cp_hash expiration)
unfolding signed_row
signed_back k policy_ref cp_hash expiration fits_key fits_ref fits_cp_hash fits_expiration = (
  refl,
  λ or place walk.
      let signed = Signed k policy_ref cp_hash expiration in
      let d = element_value signed in
      let has = signed_has k policy_ref cp_hash expiration in
      leaf_back types.Signed (codes "POLICYSIGNED") d signed or place walk refl signed_type has.0
      (bound (without_pem d place) tt _ (Ok (signed, walk)) (pem-none d place has.1)
      (bound (key_in (codes "publicKey") d place walk) (k, walk) _ (Ok (signed, walk)) (key-back (codes "publicKey") k d place walk fits_key has.2)
      (bound (policy_ref_in d place) policy_ref _ (Ok (signed, walk)) (policy_ref-back policy_ref d place has.3 fits_ref)
      (bound (cp_hash_in d place) cp_hash _ (Ok (signed, walk)) (cp_hash-back cp_hash d place has.4 fits_cp_hash)
      (bound (expiration_in d place) expiration _ (Ok (signed, walk)) (expiration-back expiration d place has.5 fits_expiration) refl))))),
)

signed_all : (d : Data) (place : Place) (walk : Walk) → AllFound (Leaving LeafBack walk) (signed_row d place walk)
unfolding signed_row
signed_all d place walk =
    all_after (Leaving LeafBack walk) (without_pem d place) _
    (λ _. all_then (Leaving FitsKey walk) (Leaving LeafBack walk) (key_in (codes "publicKey") d place walk) _ (key-fits (codes "publicKey") d place walk)
    (λ k fits_key. all_then FitsRef (Leaving LeafBack walk) (policy_ref_in d place) _ (policy_ref-fits d place)
    (λ policy_ref fits_ref. all_then FitsCpHash (Leaving LeafBack walk) (cp_hash_in d place) _ (cp_hash-fits d place)
    (λ cp_hash fits_cp_hash. all_then IsSigned32 (Leaving LeafBack walk) (expiration_in d place) _ (expiration-fits d place)
    (λ expiration fits_expiration. (fits_key.0, signed_back k.0 policy_ref cp_hash expiration fits_key.1 fits_ref fits_cp_hash fits_expiration))))))

-- ---- POLICYAUTHORIZE

authorize_has : (k : KeyWish) (policy_ref : List ℕ) →
    let d = element_value (Authorize k policy_ref) in
    HasType types.Authorize (codes "POLICYAUTHORIZE") d × (get (codes "keyPEM") d ≡ None) × HasKey (codes "publicKey") k d × (get (codes "policyRef") d ≡ Some (hex_text policy_ref))
authorize_has (key.Path path) policy_ref = ((refl, λ place. refl), refl, (refl, refl, refl), refl)
authorize_has (key.Public area) policy_ref = ((refl, λ place. refl), refl, (refl, refl, refl), refl)

authorize_back : (k : KeyWish) (policy_ref : List ℕ) → FitsKey k → FitsRef policy_ref → LeafBack (Authorize k policy_ref)
unfolding authorize_row
authorize_back k policy_ref fits_key fits_ref = (
  refl,
  λ or place walk.
      let e = Authorize k policy_ref in
      let d = element_value e in
      let has = authorize_has k policy_ref in
      leaf_back types.Authorize (codes "POLICYAUTHORIZE") d e or place walk refl authorize_type has.0
      (bound (without_pem d place) tt _ (Ok (e, walk)) (pem-none d place has.1)
      (bound (key_in (codes "publicKey") d place walk) (k, walk) _ (Ok (e, walk)) (key-back (codes "publicKey") k d place walk fits_key has.2)
      (bound (policy_ref_in d place) policy_ref _ (Ok (e, walk)) (policy_ref-back policy_ref d place has.3 fits_ref) refl))),
)

authorize_all : (d : Data) (place : Place) (walk : Walk) → AllFound (Leaving LeafBack walk) (authorize_row d place walk)
unfolding authorize_row
authorize_all d place walk =
    all_after (Leaving LeafBack walk) (without_pem d place) _
    (λ _. all_then (Leaving FitsKey walk) (Leaving LeafBack walk) (key_in (codes "publicKey") d place walk) _ (key-fits (codes "publicKey") d place walk)
    (λ k fits_key. all_then FitsRef (Leaving LeafBack walk) (policy_ref_in d place) _ (policy_ref-fits d place)
    (λ policy_ref fits_ref. (fits_key.0, authorize_back k.0 policy_ref fits_key.1 fits_ref))))

-- ---- POLICYAUTHORIZENV

authorize_nv_has : (i : IndexWish) → HasType types.AuthorizeNv (codes "POLICYAUTHORIZENV") (element_value (AuthorizeNv i)) × HasIndex i (element_value (AuthorizeNv i))
authorize_nv_has (index.Path path) = ((refl, λ place. refl), (refl, refl))
authorize_nv_has (index.Public area) = ((refl, λ place. refl), (refl, refl))

authorize_nv_back : (i : IndexWish) → FitsIndex i → LeafBack (AuthorizeNv i)
unfolding authorize_nv_row
authorize_nv_back i fits_index = (
  refl,
  λ or place walk.
      let d = element_value (AuthorizeNv i) in
      let has = authorize_nv_has i in
      leaf_back types.AuthorizeNv (codes "POLICYAUTHORIZENV") d (AuthorizeNv i) or place walk refl authorize_nv_type has.0
      (bound (index_in d place walk) (i, walk) _ (Ok (AuthorizeNv i, walk)) (index-back i d place walk fits_index has.1) refl),
)

authorize_nv_all : (d : Data) (place : Place) (walk : Walk) → AllFound (Leaving LeafBack walk) (authorize_nv_row d place walk)
unfolding authorize_nv_row
authorize_nv_all d place walk =
    all_then (Leaving FitsIndex walk) (Leaving LeafBack walk) (index_in d place walk) _ (index-fits d place walk)
    (λ i fits_index. (fits_index.0, authorize_nv_back i.0 fits_index.1))

-- ---- POLICYLOCALITY

locality_back : (x : ℕ) → ((place : Place) → locality_in (natural x) place ≡ Ok x) → LeafBack (Locality x)
unfolding locality_row locality_member
locality_back x back = (
  refl,
  λ or place walk.
      let d = element_value (Locality x) in
      leaf_back types.Locality (codes "POLICYLOCALITY") d (Locality x) or place walk refl locality_type (refl, λ place. refl)
      (still-back (locality_row d place) (Locality x) walk
      (bound (needed locality_in (codes "locality") d place) x _ (Ok (Locality x))
      (needed-back locality_in (get (codes "locality") d) (natural x) x (at_member place (codes "locality")) refl (back (at_member place (codes "locality")))) refl)),
)

locality_all : (d : Data) (place : Place) (walk : Walk) → AllFound (Leaving LeafBack walk) (still (locality_row d place) walk)
unfolding locality_row locality_member
locality_all d place walk =
    let P : ℕ → Type 0 = λ n. (other : Place) → locality_in (natural n) other ≡ Ok n in
    all_still LeafBack (locality_row d place) walk
    (all_then P LeafBack (needed locality_in (codes "locality") d place) _ (needed-fits P Missing locality_in (get (codes "locality") d) (at_member place (codes "locality")) localities_back) locality_back)

-- ---- POLICYCOMMANDCODE

command_code_back : (x : ℕ) → ((place : Place) → code_in (string (code_text x)) place ≡ Ok x) → LeafBack (CommandCode x)
unfolding command_code_row
command_code_back x back = (
  refl,
  λ or place walk.
      let d = element_value (CommandCode x) in
      leaf_back types.CommandCode (codes "POLICYCOMMANDCODE") d (CommandCode x) or place walk refl command_code_type (refl, λ place. refl)
      (still-back (command_code_row d place) (CommandCode x) walk
      (bound (needed code_in (codes "code") d place) x _ (Ok (CommandCode x))
      (needed-back code_in (get (codes "code") d) (string (code_text x)) x (at_member place (codes "code")) refl (back (at_member place (codes "code")))) refl)),
)

command_code_all : (d : Data) (place : Place) (walk : Walk) → AllFound (Leaving LeafBack walk) (still (command_code_row d place) walk)
unfolding command_code_row
command_code_all d place walk =
    let P : ℕ → Type 0 = λ code. (other : Place) → code_in (string (code_text code)) other ≡ Ok code in
    all_still LeafBack (command_code_row d place) walk
    (all_then P LeafBack (needed code_in (codes "code") d place) _ (needed-fits P Missing code_in (get (codes "code") d) (at_member place (codes "code")) code_back) command_code_back)

-- ---- POLICYCPHASH

cp_hash_back : (x : Digest32) → FitsDigest x → LeafBack (CpHash x)
unfolding cp_hash_row
cp_hash_back x back = (
  refl,
  λ or place walk.
      let d = element_value (CpHash x) in
      leaf_back types.CpHash (codes "POLICYCPHASH") d (CpHash x) or place walk refl cp_hash_type (refl, λ place. refl)
      (still-back (cp_hash_row d place) (CpHash x) walk
      (bound (needed digest_in (codes "cpHash") d place) x _ (Ok (CpHash x))
      (needed-back digest_in (get (codes "cpHash") d) (hex_text x.bytes) x (at_member place (codes "cpHash")) refl (digest-back x (at_member place (codes "cpHash")) back)) refl)),
)

cp_hash_all : (d : Data) (place : Place) (walk : Walk) → AllFound (Leaving LeafBack walk) (still (cp_hash_row d place) walk)
unfolding cp_hash_row
cp_hash_all d place walk =
    all_still LeafBack (cp_hash_row d place) walk
    (all_then FitsDigest LeafBack (needed digest_in (codes "cpHash") d place) _ (needed-fits FitsDigest Missing digest_in (get (codes "cpHash") d) (at_member place (codes "cpHash")) digest-fits) cp_hash_back)

-- ---- POLICYNAMEHASH

name_hash_has : (n : NamesWish) → HasType types.NameHash (codes "POLICYNAMEHASH") (element_value (NameHash n)) × HasNames n (element_value (NameHash n))
name_hash_has (names.Digest digest) = ((refl, λ place. refl), (refl, refl, refl))
name_hash_has (names.Names list) = ((refl, λ place. refl), (refl, refl, refl))
name_hash_has (names.Paths paths) = ((refl, λ place. refl), (refl, refl, refl))

name_hash_back : (n : NamesWish) → FitsNames n → LeafBack (NameHash n)
unfolding name_hash_row
name_hash_back n fits = (
  refl,
  λ or place walk.
      let d = element_value (NameHash n) in
      let has = name_hash_has n in
      leaf_back types.NameHash (codes "POLICYNAMEHASH") d (NameHash n) or place walk refl name_hash_type has.0
      (still-back (name_hash_row d place) (NameHash n) walk
      (bound (names_in d place) n _ (Ok (NameHash n)) (names-back n d place fits has.1) refl)),
)

name_hash_all : (d : Data) (place : Place) (walk : Walk) → AllFound (Leaving LeafBack walk) (still (name_hash_row d place) walk)
unfolding name_hash_row
name_hash_all d place walk = all_still LeafBack (name_hash_row d place) walk (all_then FitsNames LeafBack (names_in d place) _ (names-fits d place) name_hash_back)

-- ---- POLICYCOUNTERTIMER

counter_timer_back : (operand : List ℕ) (offset : ℕ) (operation : Compare) → FitsRef operand → FitsOffset offset → LeafBack (CounterTimer operand offset operation)
unfolding counter_timer_row
counter_timer_back operand offset operation fits_operand fits_offset = (
  refl,
  λ or place walk.
      let e = CounterTimer operand offset operation in
      let d = element_value e in
      leaf_back types.CounterTimer (codes "POLICYCOUNTERTIMER") d e or place walk refl counter_timer_type (refl, λ place. refl)
      (still-back (counter_timer_row d place) e walk
      (bound (operand_in d place) operand _ (Ok e) (operand-back operand d place refl fits_operand)
      (bound (offset_in d place) offset _ (Ok e) (offset-back offset d place refl fits_offset)
      (bound (operation_member_in d place) operation _ (Ok e) (operation-back operation d place refl) refl)))),
)

counter_timer_all : (d : Data) (place : Place) (walk : Walk) → AllFound (Leaving LeafBack walk) (still (counter_timer_row d place) walk)
unfolding counter_timer_row
counter_timer_all d place walk =
    all_still LeafBack (counter_timer_row d place) walk
    (all_then FitsRef LeafBack (operand_in d place) _ (operand-fits d place)
    (λ operand fits_operand. all_then FitsOffset LeafBack (offset_in d place) _ (offset-fits d place)
    (λ offset fits_offset. all_after LeafBack (operation_member_in d place) _
    (λ operation. counter_timer_back operand offset operation fits_operand fits_offset))))

-- ---- POLICYDUPLICATIONSELECT

duplication_has : (object : Name) (p : ParentWish) (include : Bool) →
    let d = element_value (Duplication object p include) in
    HasType types.DuplicationSelect (codes "POLICYDUPLICATIONSELECT") d × HasParent p d × (get (codes "includeObject") d ≡ Some (boolean include)) × (get (codes "objectName") d ≡ Some (name_value object))
duplication_has object (parent.Path path) include = ((refl, λ place. refl), (refl, refl, refl), refl, refl)
duplication_has object (parent.Public area) include = ((refl, λ place. refl), (refl, refl, refl), refl, refl)
duplication_has object (parent.Named name) include = ((refl, λ place. refl), (refl, refl, refl), refl, refl)

duplication_back : (object : Name) (p : ParentWish) (include : Bool) → FitsParent p → FitsObject include object → LeafBack (Duplication object p include)
unfolding duplication_row
duplication_back object p include fits_parent fits_object = (
  refl,
  λ or place walk.
      let e = Duplication object p include in
      let d = element_value e in
      let has = duplication_has object p include in
      leaf_back types.DuplicationSelect (codes "POLICYDUPLICATIONSELECT") d e or place walk refl duplication_type has.0
      (bound (parent_in d place walk) (p, walk) _ (Ok (e, walk)) (parent-back p d place walk fits_parent has.1)
      (bound (include_member d place) include _ (Ok (e, walk)) (include-back include d place has.2)
      (bound (included_object include d place) object _ (Ok (e, walk)) (object-back include object d place has.3 fits_object) refl))),
)

duplication_all : (d : Data) (place : Place) (walk : Walk) → AllFound (Leaving LeafBack walk) (duplication_row d place walk)
unfolding duplication_row
duplication_all d place walk =
    all_then (Leaving FitsParent walk) (Leaving LeafBack walk) (parent_in d place walk) _ (parent-fits d place walk)
    (λ p fits_parent. all_after (Leaving LeafBack walk) (include_member d place) _
    (λ include. all_then (FitsObject include) (Leaving LeafBack walk) (included_object include d place) _ (object-fits include d place)
    (λ object fits_object. (fits_parent.0, duplication_back object p.0 include fits_parent.1 fits_object))))

-- ---- POLICYNVWRITTEN

nv_written_back : (written : Bool) → LeafBack (NvWritten written)
unfolding nv_written_row
nv_written_back written = (
  refl,
  λ or place walk.
      let d = element_value (NvWritten written) in
      leaf_back types.NvWritten (codes "POLICYNVWRITTEN") d (NvWritten written) or place walk refl nv_written_type (refl, λ place. refl)
      (still-back (nv_written_row d place) (NvWritten written) walk
      (bound (written_member d place) written _ (Ok (NvWritten written)) (written-back written d place refl) refl)),
)

nv_written_all : (d : Data) (place : Place) (walk : Walk) → AllFound (Leaving LeafBack walk) (still (nv_written_row d place) walk)
unfolding nv_written_row
nv_written_all d place walk = all_still LeafBack (nv_written_row d place) walk (all_after LeafBack (written_member d place) _ nv_written_back)

-- ---- all of them

auth_value_back : LeafBack AuthValue
auth_value_back = (refl, λ or place walk. leaf_back types.AuthValue (codes "POLICYAUTHVALUE") (element_value AuthValue) AuthValue or place walk refl auth_value_type (refl, λ place. refl) refl)

password_back : LeafBack Password
password_back = (refl, λ or place walk. leaf_back types.Password (codes "POLICYPASSWORD") (element_value Password) Password or place walk refl password_type (refl, λ place. refl) refl)

presence_back : LeafBack PhysicalPresence
presence_back = (refl, λ or place walk. leaf_back types.PhysicalPresence (codes "POLICYPHYSICALPRESENCE") (element_value PhysicalPresence) PhysicalPresence or place walk refl presence_type (refl, λ place. refl) refl)

-- what a row says reads back
pub leaf_all : (leaf : LeafType) (d : Data) (place : Place) (walk : Walk) → AllFound (Leaving LeafBack walk) (leaf_row leaf d place walk)
leaf_all types.Pcr d place walk = pcr_all d place walk
leaf_all types.Nv d place walk = nv_all d place walk
leaf_all types.Secret d place walk = secret_all d place walk
leaf_all types.Signed d place walk = signed_all d place walk
leaf_all types.Authorize d place walk = authorize_all d place walk
leaf_all types.AuthorizeNv d place walk = authorize_nv_all d place walk
leaf_all types.Locality d place walk = locality_all d place walk
leaf_all types.CommandCode d place walk = command_code_all d place walk
leaf_all types.CpHash d place walk = cp_hash_all d place walk
leaf_all types.NameHash d place walk = name_hash_all d place walk
leaf_all types.CounterTimer d place walk = counter_timer_all d place walk
leaf_all types.DuplicationSelect d place walk = duplication_all d place walk
leaf_all types.NvWritten d place walk = nv_written_all d place walk
leaf_all types.AuthValue d place walk = (refl, auth_value_back)
leaf_all types.Password d place walk = (refl, password_back)
leaf_all types.PhysicalPresence d place walk = (refl, presence_back)
