-- What elements with keys, entities and parents say in FAPI's spelling.
use Rattle.std.proofs.Common.{◌≡◌, ℕ, ℤ, Bool, true, false, List, [], ◌∷◌, Option, Some, None, Ok, Err, codes, refl, sym, ap, ◌∙◌, subst, arith, length, if◌then◌else◌}
use Rattle.hex.specs.Hex.{encode_with, decode_pairs}
use Rattle.serde_json.specs.Data.{Data, string}
use Rattle.tpol_adopt.proofs.Keeping.{Follows, follows_then, follows_same}
use Rattle.tpol_adopt.specs.Normal.{normal_as, normal_members}
use Rattle.tpol_adopt.specs.Rules.{member_rule, new_scheme, type_of}
use Rattle.tpol_adopt.specs.declared.rules.Part.TheVariants.{KeyPublic as AdoptedKey}
use Rattle.tpol_base.specs.Answers.{◌>>=◌}
use Rattle.tpol_base.specs.declared.digest.Digest32.{Digest32}
use Rattle.tpol_base.specs.declared.name.Name.{Name}
use Rattle.tpol_base.specs.declared.name.Name.TheVariants.{Handle}
use Rattle.tpol_base.specs.Handle.{rh_owner, rh_endorsement, rh_lockout}
use Rattle.tpol_name.specs.Entities.{hierarchy_at}
use Rattle.tpol_name.specs.Paths.{is_same_path}
use Rattle.tpol_export.specs.Named.{by_handle, named_entity, named_element}
use Rattle.tpol_elements.specs.Rows.{secret_row, duplication_row, include_member, included_object, object_member}
use Rattle.tpol_elements.specs.Types.{type_in, leaf_members}
use Rattle.tpol_elements.specs.declared.types.LeafType.TheVariants as types
use Rattle.tpol_elements.specs.Wishes.{entity_in, entity_at, parent_in, parent_at}
use Rattle.tpol_export.proofs.Leaves.{Stays, again, adopted_element}
use Rattle.tpol_export.proofs.Areas.{key-back}
use Rattle.tpol_export.proofs.Placed.{key-wrapped, wrapped_key}
use Rattle.tpol_export.specs.Rules.{member_rule as spelling_rule, more_entries, new_name}
use Rattle.tpol_export.specs.Spelling.{spelled_as, spelled_members}
use Rattle.tpol_export.specs.Values.{edited, hierarchy_in}
use Rattle.tpol_export.specs.declared.rules.Part.TheVariants.{Element as SpelledElement, KeyPublic}
use Rattle.tpol_json.specs.Places.{at_member}
use Rattle.tpol_json.specs.Reading.{ReadAs}
use Rattle.tpol_json.specs.Words.{find_word}
use Rattle.tpol_json.specs.declared.place.Place.{Place}
use Rattle.tpol_members.specs.Faults.{Found}
use Rattle.tpol_members.specs.Fields.{policy_ref_in, cp_hash_in, expiration_in}
use Rattle.tpol_members.specs.Values.{full_name_in}
use Rattle.tpol_members.specs.Members.{noted}
use Rattle.tpol_members.specs.Walks.{Reading, still}
use Rattle.tpol_members.specs.declared.walk.Walk.{Walk}
use Rattle.tpol_read.specs.Elements.{element_by, element_of_type, element_type_in, leaf_element}
use Rattle.tpol_tree.specs.declared.policy.Branches.{Branches}
use Rattle.tpol_tree.specs.declared.policy.Element.{Element}
use Rattle.tpol_tree.specs.declared.policy.Element.TheVariants.{Secret, Signed, Authorize, Duplication}
use Rattle.tpol_tree.specs.declared.wishes.EntityWish.{EntityWish}
use Rattle.tpol_tree.specs.declared.wishes.EntityWish.TheVariants as entity
use Rattle.tpol_tree.specs.declared.wishes.KeyWish.{KeyWish}
use Rattle.tpol_tree.specs.declared.wishes.KeyWish.TheVariants as key
use Rattle.tpol_tree.specs.declared.wishes.ObjectPublicText.{ObjectPublicText}
use Rattle.tpol_tree.specs.declared.wishes.ParentWish.{ParentWish}
use Rattle.tpol_tree.specs.declared.wishes.ParentWish.TheVariants as parent
use Rattle.tpol_write.specs.Elements.{element_value, typed, signing_members}
use Rattle.tpol_write.specs.Objects.{hex_text, object_of}
use Rattle.tpol_write.specs.Wishes.{name_value, object_public_value}

-- a reading goes on from what was found
pub bound : {K A B : Type 0} (found : ReadAs K A) (x : A) (next : A → ReadAs K B) (y : ReadAs K B) → found ≡ Ok x → next x ≡ y → (found >>= next) ≡ y
bound found x next y e f = ap (λ r. r >>= next) e ∙ f

-- ---- keys

signed_value : Data → List ℕ → Option Digest32 → ℤ → Data
signed_value area policy_ref cp_hash expiration = typed (codes "POLICYSIGNED") ((codes "keyPublic", area) ∷ signing_members policy_ref cp_hash expiration)

adopted_key : ObjectPublicText → Data
adopted_key area = normal_as AdoptedKey (spelled_as KeyPublic (object_public_value area))

signed-again : (area : ObjectPublicText) (policy_ref : List ℕ) (expiration : ℤ) → again (Signed (key.Public area) policy_ref None expiration) ≡ signed_value (adopted_key area) policy_ref None expiration
unfolding signed_value adopted_key hierarchy_in spelled_as spelled_members spelling_rule new_name more_entries normal_as normal_members member_rule new_scheme type_of type_in find_word
signed-again area policy_ref expiration = refl

signed_hash-again : (area : ObjectPublicText) (policy_ref bytes : List ℕ) (whole : length bytes ≡ 32) (expiration : ℤ) →
    let cp_hash : Option Digest32 = Some (record { bytes = bytes; whole = whole }) in
    again (Signed (key.Public area) policy_ref cp_hash expiration) ≡ signed_value (adopted_key area) policy_ref cp_hash expiration
unfolding signed_value adopted_key encode_with hierarchy_in spelled_as spelled_members spelling_rule new_name more_entries normal_as normal_members member_rule new_scheme type_of type_in find_word
signed_hash-again area policy_ref [] whole expiration = absurd (omega (arith, whole))
signed_hash-again area policy_ref (b ∷ bytes) whole expiration = refl

signed_path_hash-again : (path policy_ref bytes : List ℕ) (whole : length bytes ≡ 32) (expiration : ℤ) →
    let e : Element = Signed (key.Path path) policy_ref (Some (record { bytes = bytes; whole = whole })) expiration in
    again e ≡ element_value e
unfolding encode_with hierarchy_in spelled_as spelled_members spelling_rule new_name more_entries normal_as normal_members member_rule new_scheme type_of type_in find_word
signed_path_hash-again path policy_ref [] whole expiration = absurd (omega (arith, whole))
signed_path_hash-again path policy_ref (b ∷ bytes) whole expiration = refl

key-is : (area : ObjectPublicText) → adopted_key area ≡ object_public_value area
unfolding adopted_key
key-is area = key-back area

signed-is : (area : ObjectPublicText) (policy_ref : List ℕ) (cp_hash : Option Digest32) (expiration : ℤ) → signed_value (adopted_key area) policy_ref cp_hash expiration ≡ element_value (Signed (key.Public area) policy_ref cp_hash expiration)
unfolding signed_value
signed-is area policy_ref cp_hash expiration = ap (λ v. signed_value v policy_ref cp_hash expiration) (key-is area)

pub signed-same : (k : KeyWish) (policy_ref : List ℕ) (cp_hash : Option Digest32) (expiration : ℤ) → again (Signed k policy_ref cp_hash expiration) ≡ element_value (Signed k policy_ref cp_hash expiration)
unfolding hierarchy_in spelled_as spelled_members spelling_rule new_name more_entries normal_as normal_members member_rule new_scheme type_of type_in find_word
signed-same (key.Path path) policy_ref None expiration = refl
signed-same (key.Path path) policy_ref (Some digest) expiration = signed_path_hash-again path policy_ref digest.bytes digest.whole expiration
signed-same (key.Public area) policy_ref None expiration = signed-again area policy_ref expiration ∙ signed-is area policy_ref None expiration
signed-same (key.Public area) policy_ref (Some digest) expiration = signed_hash-again area policy_ref digest.bytes digest.whole expiration ∙ signed-is area policy_ref (Some digest) expiration

authorize_value : Data → List ℕ → Data
authorize_value area policy_ref = typed (codes "POLICYAUTHORIZE") ((codes "keyPublic", area) ∷ (codes "policyRef", hex_text policy_ref) ∷ [])

authorize-again : (area : ObjectPublicText) (policy_ref : List ℕ) → again (Authorize (key.Public area) policy_ref) ≡ authorize_value (adopted_key area) policy_ref
unfolding authorize_value adopted_key hierarchy_in spelled_as spelled_members spelling_rule new_name more_entries normal_as normal_members member_rule new_scheme type_of type_in find_word
authorize-again area policy_ref = refl

authorize-is : (area : ObjectPublicText) (policy_ref : List ℕ) → authorize_value (adopted_key area) policy_ref ≡ element_value (Authorize (key.Public area) policy_ref)
unfolding authorize_value
authorize-is area policy_ref = ap (λ v. authorize_value v policy_ref) (key-is area)

pub authorize-same : (k : KeyWish) (policy_ref : List ℕ) → again (Authorize k policy_ref) ≡ element_value (Authorize k policy_ref)
unfolding hierarchy_in spelled_as spelled_members spelling_rule new_name more_entries normal_as normal_members member_rule new_scheme type_of type_in find_word
authorize-same (key.Path path) policy_ref = refl
authorize-same (key.Public area) policy_ref = authorize-again area policy_ref ∙ authorize-is area policy_ref

-- ---- parents

yes_no : Bool → Data
yes_no true = string (codes "YES")
yes_no false = string (codes "NO")

dup_value : Data → Bool → Name → Data
dup_value area include name = typed (codes "POLICYDUPLICATIONSELECT") ((codes "newParentPublic", area) ∷ (codes "includeObject", yes_no include) ∷ (codes "objectName", name_value name) ∷ [])

key_wrapper : Data → Data
key_wrapper area = object_of ((codes "publicArea", area) ∷ [])

dup-again : (area : ObjectPublicText) (include : Bool) (name : Name) → again (Duplication name (parent.Public area) include) ≡ dup_value (key_wrapper (adopted_key area)) include name
unfolding dup_value key_wrapper yes_no adopted_key edited hierarchy_in spelled_as spelled_members spelling_rule new_name more_entries normal_as normal_members member_rule new_scheme type_of type_in find_word
dup-again area true name = refl
dup-again area false name = refl

dup-read : (area : ObjectPublicText) (include : Bool) (name : Name) (or : Data → Place → Reading Branches) (place : Place) (walk : Walk)
    → Follows (element_by or (element_value (Duplication name (parent.Public area) include)) place walk) (element_by or (dup_value (wrapped_key area) include name) place walk)
unfolding dup_value yes_no element_by element_type_in element_of_type leaf_element type_in find_word noted duplication_row parent_in parent_at include_member included_object object_member
dup-read area true name or place walk =
    follows_then _ _ _ _ (follows_then _ _ _ _ (follows_then _ _ _ _ (follows_then _ _ _ _ (key-wrapped area (at_member place (codes "newParentPublic")) walk) (λ x _. refl)) (λ x _. refl))
    (λ x _. follows_same _ _ refl)) (λ x _. refl)
dup-read area false name or place walk =
    follows_then _ _ _ _ (follows_then _ _ _ _ (follows_then _ _ _ _ (follows_then _ _ _ _ (key-wrapped area (at_member place (codes "newParentPublic")) walk) (λ x _. refl)) (λ x _. refl))
    (λ x _. follows_same _ _ refl)) (λ x _. refl)

dup-is : (area : ObjectPublicText) (include : Bool) (name : Name) → dup_value (key_wrapper (adopted_key area)) include name ≡ dup_value (wrapped_key area) include name
unfolding key_wrapper
dup-is area include name = ap (λ v. dup_value (key_wrapper v) include name) (key-is area)

dup-plain : (name : Name) (p : ParentWish) (include : Bool) → ((area : ObjectPublicText) → p ≡ parent.Public area → ⊥) → Stays (Duplication name p include)
unfolding edited hierarchy_in spelled_as spelled_members spelling_rule new_name more_entries normal_as normal_members member_rule new_scheme type_of type_in find_word element_by element_type_in element_of_type leaf_element noted duplication_row parent_in include_member included_object object_member
dup-plain name (parent.Path path) true other or place walk = follows_same _ _ refl
dup-plain name (parent.Path path) false other or place walk = follows_same _ _ refl
dup-plain name (parent.Public area) include other or place walk = absurd (other area refl)
dup-plain name (parent.Named parent) true other or place walk = follows_same _ _ refl
dup-plain name (parent.Named parent) false other or place walk = follows_same _ _ refl

pub dup-stays : (name : Name) (p : ParentWish) (include : Bool) → Stays (Duplication name p include)
dup-stays name (parent.Path path) include = dup-plain name (parent.Path path) include (λ area is. cc)
dup-stays name (parent.Named n) include = dup-plain name (parent.Named n) include (λ area is. cc)
dup-stays name (parent.Public area) include = λ or place walk.
    subst (λ d. Follows (element_by or (element_value (Duplication name (parent.Public area) include)) place walk) (element_by or d place walk))
    (sym (dup-again area include name ∙ dup-is area include name)) (dup-read area include name or place walk)

-- ---- entities

secret-spelled : (path policy_ref : List ℕ) (cp_hash : Option Digest32) (expiration : ℤ) (o : Option ℕ) → hierarchy_in (string path) ≡ o → spelled_as SpelledElement (element_value (Secret (entity.Path path) policy_ref cp_hash expiration)) ≡ element_value (Secret (by_handle o path) policy_ref cp_hash expiration)
unfolding edited spelled_as spelled_members spelling_rule new_name more_entries normal_as normal_members member_rule new_scheme type_of type_in find_word
secret-spelled path policy_ref None expiration None is = rw is refl
secret-spelled path policy_ref (Some digest) expiration None is = rw is refl
secret-spelled path policy_ref None expiration (Some handle) is = rw is refl
secret-spelled path policy_ref (Some digest) expiration (Some handle) is = rw is refl

named-spelled : (name : Name) (policy_ref : List ℕ) (cp_hash : Option Digest32) (expiration : ℤ) → spelled_as SpelledElement (element_value (Secret (entity.Named name) policy_ref cp_hash expiration)) ≡ element_value (Secret (entity.Named name) policy_ref cp_hash expiration)
unfolding edited hierarchy_in spelled_as spelled_members spelling_rule new_name more_entries normal_as normal_members member_rule new_scheme type_of type_in find_word
named-spelled name policy_ref None expiration = refl
named-spelled name policy_ref (Some digest) expiration = refl

spelled-is : (e : EntityWish) (policy_ref : List ℕ) (cp_hash : Option Digest32) (expiration : ℤ) → spelled_as SpelledElement (element_value (Secret e policy_ref cp_hash expiration)) ≡ element_value (Secret (named_entity e) policy_ref cp_hash expiration)
unfolding hierarchy_in
spelled-is (entity.Path path) policy_ref cp_hash expiration = secret-spelled path policy_ref cp_hash expiration (hierarchy_at path) refl
spelled-is (entity.Named name) policy_ref cp_hash expiration = named-spelled name policy_ref cp_hash expiration

secret_hash-adopted : (e : EntityWish) (policy_ref bytes : List ℕ) (whole : length bytes ≡ 32) (expiration : ℤ) →
    let d : Data = element_value (Secret e policy_ref (Some (record { bytes = bytes; whole = whole })) expiration) in
    adopted_element d ≡ d
unfolding encode_with spelled_as spelled_members spelling_rule new_name more_entries normal_as normal_members member_rule new_scheme type_of type_in find_word
secret_hash-adopted e policy_ref [] whole expiration = absurd (omega (arith, whole))
secret_hash-adopted (entity.Path path) policy_ref (b ∷ bytes) whole expiration = refl
secret_hash-adopted (entity.Named name) policy_ref (b ∷ bytes) whole expiration = refl

secret-adopted : (e : EntityWish) (policy_ref : List ℕ) (cp_hash : Option Digest32) (expiration : ℤ) → adopted_element (element_value (Secret e policy_ref cp_hash expiration)) ≡ element_value (Secret e policy_ref cp_hash expiration)
unfolding spelled_as spelled_members spelling_rule new_name more_entries normal_as normal_members member_rule new_scheme type_of type_in find_word
secret-adopted (entity.Path path) policy_ref None expiration = refl
secret-adopted (entity.Named name) policy_ref None expiration = refl
secret-adopted e policy_ref (Some digest) expiration = secret_hash-adopted e policy_ref digest.bytes digest.whole expiration

pub secret-again : (e : EntityWish) (policy_ref : List ℕ) (cp_hash : Option Digest32) (expiration : ℤ) → again (Secret e policy_ref cp_hash expiration) ≡ element_value (named_element (Secret e policy_ref cp_hash expiration))
secret-again e policy_ref cp_hash expiration =
    ap adopted_element (spelled-is e policy_ref cp_hash expiration) ∙ secret-adopted (named_entity e) policy_ref cp_hash expiration

-- the handle of a hierarchy is read as a Name
abbrev ReadsHandle : ℕ → Type 0
ReadsHandle handle = (place : Place) → full_name_in (name_value (Handle handle)) place ≡ Ok (Handle handle)

owner-reads : ReadsHandle rh_owner
unfolding encode_with decode_pairs
owner-reads place = refl

endorsement-reads : ReadsHandle rh_endorsement
unfolding encode_with decode_pairs
endorsement-reads place = refl

lockout-reads : ReadsHandle rh_lockout
unfolding encode_with decode_pairs
lockout-reads place = refl

one_of_three : (owner endorsement lockout : Bool) (handle : ℕ) → (if owner then Some rh_owner else (if endorsement then Some rh_endorsement else (if lockout then Some rh_lockout else None))) ≡ Some handle → ReadsHandle handle
one_of_three true endorsement lockout handle is = let same : rh_owner ≡ handle = cc in subst ReadsHandle same owner-reads
one_of_three false true lockout handle is = let same : rh_endorsement ≡ handle = cc in subst ReadsHandle same endorsement-reads
one_of_three false false true handle is = let same : rh_lockout ≡ handle = cc in subst ReadsHandle same lockout-reads
one_of_three false false false handle is = cc

-- the same element of another entity
renamed : Name → Element → Element
renamed name (Secret e policy_ref cp_hash expiration) = Secret (entity.Named name) policy_ref cp_hash expiration
renamed name e = e

found_renamed : Name → Found (Element × Walk) → Found (Element × Walk)
found_renamed name (Ok x) = Ok (renamed name x.0, x.1)
found_renamed name (Err fault) = Err fault

secret_by : EntityWish → Found (List ℕ) → Found (Option Digest32) → Found ℤ → Walk → (Walk → Walk) → Found (Element × Walk)
secret_by e policy_ref cp_hash expiration walk note =
    still (policy_ref >>= λ r. cp_hash >>= λ c. expiration >>= λ x. Ok (Secret e r c x)) walk >>= λ found. Ok (found.0, note found.1)

by-renamed : (path : List ℕ) (name : Name) (policy_ref : Found (List ℕ)) (cp_hash : Found (Option Digest32)) (expiration : Found ℤ) (walk : Walk) (note : Walk → Walk) → found_renamed name (secret_by (entity.Path path) policy_ref cp_hash expiration walk note) ≡ secret_by (entity.Named name) policy_ref cp_hash expiration walk note
unfolding secret_by found_renamed renamed
by-renamed path name (Ok r) (Ok c) (Ok x) walk note = refl
by-renamed path name (Ok r) (Ok c) (Err fault) walk note = refl
by-renamed path name (Ok r) (Err fault) expiration walk note = refl
by-renamed path name (Err fault) cp_hash expiration walk note = refl

-- ---- what is said

-- an element that reads as itself reads in FAPI's spelling as itself, with hierarchies by their handles
abbrev pub Says : Element → Type 0
Says e = (or : Data → Place → Reading Branches) (place : Place) (walk w : Walk) → element_by or (element_value e) place walk ≡ Ok (e, w) → element_by or (again e) place walk ≡ Ok (named_element e, w)

pub stays_says : (e : Element) → Stays e → named_element e ≡ e → Says e
stays_says e stays is or place walk w says =
    subst (λ r. Follows r (element_by or (again e) place walk)) says (stays or place walk) ∙ ap (λ x. Ok (x, w)) (sym is)

path-read : (path policy_ref : List ℕ) (cp_hash : Option Digest32) (expiration : ℤ) (or : Data → Place → Reading Branches) (place : Place) (walk : Walk) →
    let v : Data = element_value (Secret (entity.Path path) policy_ref cp_hash expiration) in
    element_by or v place walk ≡ secret_by (entity.Path path) (policy_ref_in v place) (cp_hash_in v place) (expiration_in v place) walk (noted (leaf_members types.Secret) v place)
unfolding secret_by element_by element_type_in element_of_type leaf_element type_in find_word secret_row entity_in entity_at
path-read path policy_ref None expiration or place walk = refl
path-read path policy_ref (Some digest) expiration or place walk = refl

named-read : (path policy_ref : List ℕ) (cp_hash : Option Digest32) (expiration : ℤ) (handle : ℕ) → ReadsHandle handle → (or : Data → Place → Reading Branches) (place : Place) (walk : Walk) →
    let v : Data = element_value (Secret (entity.Path path) policy_ref cp_hash expiration) in
    element_by or (element_value (Secret (entity.Named (Handle handle)) policy_ref cp_hash expiration)) place walk
    ≡ secret_by (entity.Named (Handle handle)) (policy_ref_in v place) (cp_hash_in v place) (expiration_in v place) walk (noted (leaf_members types.Secret) v place)
unfolding secret_by element_by element_type_in element_of_type leaf_element type_in find_word noted secret_row entity_in entity_at policy_ref_in cp_hash_in expiration_in
named-read path policy_ref None expiration handle reads or place walk =
    ap (λ r. still r walk >>= λ found. Ok (found.0, noted (leaf_members types.Secret) (element_value (Secret (entity.Path path) policy_ref None expiration)) place found.1))
    (bound _ _ _ _ (bound _ _ _ _ (bound _ _ _ _ (reads (at_member place (codes "objectName"))) refl) refl) refl)
named-read path policy_ref (Some digest) expiration handle reads or place walk =
    ap (λ r. still r walk >>= λ found. Ok (found.0, noted (leaf_members types.Secret) (element_value (Secret (entity.Path path) policy_ref (Some digest) expiration)) place found.1))
    (bound _ _ _ _ (bound _ _ _ _ (bound _ _ _ _ (reads (at_member place (codes "objectName"))) refl) refl) refl)

handle-says : (path policy_ref : List ℕ) (cp_hash : Option Digest32) (expiration : ℤ) (handle : ℕ) → ReadsHandle handle → (or : Data → Place → Reading Branches) (place : Place) (walk w : Walk)
    → element_by or (element_value (Secret (entity.Path path) policy_ref cp_hash expiration)) place walk ≡ Ok (Secret (entity.Path path) policy_ref cp_hash expiration, w)
    → element_by or (element_value (Secret (entity.Named (Handle handle)) policy_ref cp_hash expiration)) place walk ≡ Ok (Secret (entity.Named (Handle handle)) policy_ref cp_hash expiration, w)
unfolding found_renamed renamed
handle-says path policy_ref cp_hash expiration handle reads or place walk w says =
    let v : Data = element_value (Secret (entity.Path path) policy_ref cp_hash expiration) in
    named-read path policy_ref cp_hash expiration handle reads or place walk
    ∙ sym (by-renamed path (Handle handle) (policy_ref_in v place) (cp_hash_in v place) (expiration_in v place) walk (noted (leaf_members types.Secret) v place))
    ∙ ap (found_renamed (Handle handle)) (sym (path-read path policy_ref cp_hash expiration or place walk) ∙ says)

by_hierarchy : (path policy_ref : List ℕ) (cp_hash : Option Digest32) (expiration : ℤ) (o : Option ℕ) → ((handle : ℕ) → o ≡ Some handle → ReadsHandle handle) → (or : Data → Place → Reading Branches) (place : Place) (walk w : Walk)
    → element_by or (element_value (Secret (entity.Path path) policy_ref cp_hash expiration)) place walk ≡ Ok (Secret (entity.Path path) policy_ref cp_hash expiration, w)
    → element_by or (element_value (Secret (by_handle o path) policy_ref cp_hash expiration)) place walk ≡ Ok (Secret (by_handle o path) policy_ref cp_hash expiration, w)
by_hierarchy path policy_ref cp_hash expiration None reads or place walk w says = says
by_hierarchy path policy_ref cp_hash expiration (Some handle) reads or place walk w says = handle-says path policy_ref cp_hash expiration handle (reads handle refl) or place walk w says

pub secret-says : (e : EntityWish) (policy_ref : List ℕ) (cp_hash : Option Digest32) (expiration : ℤ) → Says (Secret e policy_ref cp_hash expiration)
secret-says (entity.Path path) policy_ref cp_hash expiration or place walk w says =
    ap (λ d. element_by or d place walk) (secret-again (entity.Path path) policy_ref cp_hash expiration)
    ∙ by_hierarchy path policy_ref cp_hash expiration (hierarchy_at path) (λ handle is. one_of_three (is_same_path (codes "HS") path) (is_same_path (codes "HE") path) (is_same_path (codes "LOCKOUT") path) handle is) or place walk w says
secret-says (entity.Named name) policy_ref cp_hash expiration or place walk w says =
    ap (λ d. element_by or d place walk) (secret-again (entity.Named name) policy_ref cp_hash expiration) ∙ says
