-- What elements that hold no others say in FAPI's spelling.
use Rattle.std.proofs.Common.{◌≡◌, ℕ, Bool, true, false, List, [], ◌∷◌, Ok, Err, codes, refl, sym, ap, ◌∙◌, subst}
use Rattle.serde_json.specs.Data.{Data, string}
use Rattle.tpol_adopt.proofs.Keeping.{Follows, follows_then, follows_same}
use Rattle.tpol_adopt.proofs.Singles.{code-follows}
use Rattle.tpol_adopt.specs.Edits.{edited as adopted}
use Rattle.tpol_adopt.specs.Normal.{normal_as, normal_members}
use Rattle.tpol_adopt.specs.Rules.{member_rule, new_scheme, type_of}
use Rattle.tpol_adopt.specs.declared.edits.Edit.TheVariants.{Number as AdoptedNumber, Code}
use Rattle.tpol_adopt.specs.declared.flags.Flags.TheVariants.{OfLocality}
use Rattle.tpol_adopt.specs.declared.rules.Part.TheVariants.{Element as AdoptedElement, IndexPublic as AdoptedIndex}
use Rattle.tpol_base.specs.declared.compare.Compare.{Compare}
use Rattle.tpol_base.specs.declared.digest.Digest32.{Digest32}
use Rattle.tpol_elements.specs.Rows.{nv_row, authorize_nv_row, command_code_row, nv_written_row, written_member}
use Rattle.tpol_elements.specs.Types.{type_in}
use Rattle.tpol_elements.specs.Wishes.{index_in, index_at}
use Rattle.tpol_export.proofs.Areas.{flags-back, index-back}
use Rattle.tpol_export.proofs.Placed.{index-wrapped, wrapped_index}
use Rattle.tpol_export.specs.Rules.{member_rule as spelling_rule, more_entries, new_name}
use Rattle.tpol_export.specs.Spelling.{spelled_as, spelled_members}
use Rattle.tpol_export.specs.Values.{edited, hierarchy_in}
use Rattle.tpol_export.specs.declared.rules.Part.TheVariants.{Element as SpelledElement, IndexPublic}
use Rattle.tpol_export.specs.declared.values.Edit.TheVariants.{Number}
use Rattle.tpol_json.specs.Places.{at_member}
use Rattle.tpol_json.specs.Words.{find_word}
use Rattle.tpol_json.specs.declared.place.Place.{Place}
use Rattle.tpol_members.specs.Faults.{Found}
use Rattle.tpol_members.specs.Fields.{operand_in, offset_in, operation_member_in}
use Rattle.tpol_members.specs.Members.{noted}
use Rattle.tpol_members.specs.Walks.{Reading, still}
use Rattle.tpol_members.specs.declared.walk.Walk.{Walk}
use Rattle.tpol_read.specs.Elements.{element_by, element_of_type, element_type_in, leaf_element}
use Rattle.tpol_tree.specs.declared.policy.Branches.{Branches}
use Rattle.tpol_tree.specs.declared.policy.Element.{Element}
use Rattle.tpol_tree.specs.declared.policy.Element.TheVariants.{Pcr, Nv, AuthorizeNv, Locality, CommandCode, CpHash, NameHash, CounterTimer, NvWritten, AuthValue, Password, PhysicalPresence}
use Rattle.tpol_tree.specs.declared.wishes.IndexWish.{IndexWish}
use Rattle.tpol_tree.specs.declared.wishes.IndexWish.TheVariants as index
use Rattle.tpol_tree.specs.declared.wishes.NamesWish.{NamesWish}
use Rattle.tpol_tree.specs.declared.wishes.NamesWish.TheVariants as names
use Rattle.tpol_tree.specs.declared.wishes.NvPublicText.{NvPublicText}
use Rattle.tpol_tree.specs.declared.wishes.PcrWish.{PcrWish}
use Rattle.tpol_tree.specs.declared.wishes.PcrWish.TheVariants.{Values, Current}
use Rattle.tpol_write.specs.Elements.{element_value, typed, comparison_members}
use Rattle.tpol_write.specs.Names.{code_text}
use Rattle.tpol_write.specs.Objects.{natural, object_of}
use Rattle.tpol_write.specs.Wishes.{nv_public_value}

-- an element that was spelled as FAPI does, as it is adopted
abbrev pub adopted_element : Data → Data
adopted_element d = normal_as (AdoptedElement (type_of d)) d

abbrev pub again : Element → Data
again e = adopted_element (spelled_as SpelledElement (element_value e))

-- what an element says is said by the adopted one
abbrev pub Stays : Element → Type 0
Stays e = (or : Data → Place → Reading Branches) (place : Place) (walk : Walk) → Follows (element_by or (element_value e) place walk) (element_by or (again e) place walk)

pub same_value : (e : Element) → again e ≡ element_value e → Stays e
same_value e is or place walk = follows_same _ _ (ap (λ d. element_by or d place walk) is)

pub still-follows : {A : Type 0} (found other : Found A) (walk : Walk) → Follows found other → Follows (still found walk) (still other walk)
still-follows (Ok x) other walk is = ap (λ r. still r walk) is
still-follows (Err fault) other walk is = tt {0}

-- ---- elements whose adopted value is the canonical one

pub pcr-same : (pcrs : PcrWish) → again (Pcr pcrs) ≡ element_value (Pcr pcrs)
unfolding spelled_as spelled_members spelling_rule new_name more_entries hierarchy_in normal_as normal_members member_rule new_scheme type_of type_in find_word
pcr-same (Values values) = refl
pcr-same (Current mask) = refl

pub names-same : (n : NamesWish) → again (NameHash n) ≡ element_value (NameHash n)
unfolding spelled_as spelled_members spelling_rule new_name more_entries hierarchy_in normal_as normal_members member_rule new_scheme type_of type_in find_word
names-same (names.Digest digest) = refl
names-same (names.Names list) = refl
names-same (names.Paths paths) = refl

pub cp_hash-same : (digest : Digest32) → again (CpHash digest) ≡ element_value (CpHash digest)
unfolding spelled_as spelled_members spelling_rule new_name more_entries hierarchy_in normal_as normal_members member_rule new_scheme type_of type_in find_word
cp_hash-same digest = refl

pub timer-same : (operand : List ℕ) (offset : ℕ) (operation : Compare) → again (CounterTimer operand offset operation) ≡ element_value (CounterTimer operand offset operation)
unfolding spelled_as spelled_members spelling_rule new_name more_entries hierarchy_in normal_as normal_members member_rule new_scheme type_of type_in find_word
timer-same operand offset operation = refl

pub auth_value-same : again AuthValue ≡ element_value AuthValue
unfolding spelled_as spelled_members spelling_rule new_name more_entries hierarchy_in normal_as normal_members member_rule new_scheme type_of type_in find_word
auth_value-same = refl

pub password-same : again Password ≡ element_value Password
unfolding spelled_as spelled_members spelling_rule new_name more_entries hierarchy_in normal_as normal_members member_rule new_scheme type_of type_in find_word
password-same = refl

pub presence-same : again PhysicalPresence ≡ element_value PhysicalPresence
unfolding spelled_as spelled_members spelling_rule new_name more_entries hierarchy_in normal_as normal_members member_rule new_scheme type_of type_in find_word
presence-same = refl

locality_value : Data → Data
locality_value d = typed (codes "POLICYLOCALITY") ((codes "locality", d) ∷ [])

locality-again : (n : ℕ) → again (Locality n) ≡ locality_value (adopted (AdoptedNumber OfLocality) (edited (Number OfLocality) (natural n)))
unfolding locality_value spelled_as spelled_members spelling_rule new_name more_entries hierarchy_in normal_as normal_members member_rule new_scheme type_of type_in find_word
locality-again n = refl

pub locality-same : (n : ℕ) → again (Locality n) ≡ element_value (Locality n)
unfolding locality_value
locality-same n = locality-again n ∙ ap locality_value (flags-back OfLocality n)

-- ---- codes

code_value : Data → Data
code_value d = typed (codes "POLICYCOMMANDCODE") ((codes "code", d) ∷ [])

code-again : (code : ℕ) → again (CommandCode code) ≡ code_value (adopted Code (string (code_text code)))
unfolding code_value spelled_as spelled_members spelling_rule new_name more_entries hierarchy_in normal_as normal_members member_rule new_scheme type_of type_in find_word
code-again code = refl

code-read : (code : ℕ) (or : Data → Place → Reading Branches) (place : Place) (walk : Walk) → Follows (element_by or (element_value (CommandCode code)) place walk) (element_by or (code_value (adopted Code (string (code_text code)))) place walk)
unfolding code_value element_by element_type_in element_of_type leaf_element type_in find_word noted command_code_row
code-read code or place walk =
    follows_then _ _ _ _ (still-follows _ _ walk (follows_then _ _ _ _ (code-follows (string (code_text code)) (at_member place (codes "code"))) (λ c _. refl))) (λ found _. refl)

pub code-stays : (code : ℕ) → Stays (CommandCode code)
code-stays code or place walk =
    subst (λ d. Follows (element_by or (element_value (CommandCode code)) place walk) (element_by or d place walk)) (sym (code-again code)) (code-read code or place walk)

-- ---- truth values

pub written-stays : (written : Bool) → Stays (NvWritten written)
unfolding spelled_as spelled_members spelling_rule new_name more_entries hierarchy_in edited normal_as normal_members member_rule new_scheme type_of type_in find_word element_by element_type_in element_of_type leaf_element noted nv_written_row written_member
written-stays true or place walk = refl
written-stays false or place walk = refl

-- ---- indices

nv_value : Data → List ℕ → ℕ → Compare → Data
nv_value area operand offset operation = typed (codes "POLICYNV") ((codes "nvPublic", area) ∷ comparison_members operand offset operation)

wrapper : Data → Data
wrapper area = object_of ((codes "nvPublic", area) ∷ [])

nv-again : (area : NvPublicText) (operand : List ℕ) (offset : ℕ) (operation : Compare) → again (Nv (index.Public area) operand offset operation) ≡ nv_value (wrapper (normal_as AdoptedIndex (spelled_as IndexPublic (nv_public_value area)))) operand offset operation
unfolding nv_value wrapper spelled_as spelled_members spelling_rule new_name more_entries hierarchy_in normal_as normal_members member_rule new_scheme type_of type_in find_word
nv-again area operand offset operation = refl

nv-read : (area : NvPublicText) (operand : List ℕ) (offset : ℕ) (operation : Compare) (or : Data → Place → Reading Branches) (place : Place) (walk : Walk)
    → Follows (element_by or (element_value (Nv (index.Public area) operand offset operation)) place walk) (element_by or (nv_value (wrapped_index area) operand offset operation) place walk)
unfolding nv_value element_by element_type_in element_of_type leaf_element type_in find_word noted nv_row index_in index_at operand_in offset_in operation_member_in
nv-read area operand offset operation or place walk =
    follows_then _ _ _ _ (follows_then _ _ _ _ (follows_then _ _ _ _ (follows_then _ _ _ _ (index-wrapped area (at_member place (codes "nvPublic")) walk) (λ x _. refl)) (λ x _. refl))
    (λ x _. follows_same _ _ refl)) (λ x _. refl)

pub nv-stays : (i : IndexWish) (operand : List ℕ) (offset : ℕ) (operation : Compare) → Stays (Nv i operand offset operation)
unfolding wrapper spelled_as spelled_members spelling_rule new_name more_entries hierarchy_in normal_as normal_members member_rule new_scheme type_of type_in find_word
nv-stays (index.Path path) operand offset operation or place walk = follows_same _ _ refl
nv-stays (index.Public area) operand offset operation or place walk =
    subst (λ d. Follows (element_by or (element_value (Nv (index.Public area) operand offset operation)) place walk) (element_by or d place walk))
    (sym (nv-again area operand offset operation ∙ ap (λ v. nv_value (wrapper v) operand offset operation) (index-back area))) (nv-read area operand offset operation or place walk)

authorize_nv_value : Data → Data
authorize_nv_value area = typed (codes "POLICYAUTHORIZENV") ((codes "nvPublic", area) ∷ [])

authorize_nv-again : (area : NvPublicText) → again (AuthorizeNv (index.Public area)) ≡ authorize_nv_value (wrapper (normal_as AdoptedIndex (spelled_as IndexPublic (nv_public_value area))))
unfolding authorize_nv_value wrapper spelled_as spelled_members spelling_rule new_name more_entries hierarchy_in normal_as normal_members member_rule new_scheme type_of type_in find_word
authorize_nv-again area = refl

authorize_nv-read : (area : NvPublicText) (or : Data → Place → Reading Branches) (place : Place) (walk : Walk)
    → Follows (element_by or (element_value (AuthorizeNv (index.Public area))) place walk) (element_by or (authorize_nv_value (wrapped_index area)) place walk)
unfolding authorize_nv_value element_by element_type_in element_of_type leaf_element type_in find_word noted authorize_nv_row index_in index_at
authorize_nv-read area or place walk =
    follows_then _ _ _ _ (follows_then _ _ _ _ (follows_then _ _ _ _ (follows_then _ _ _ _ (index-wrapped area (at_member place (codes "nvPublic")) walk) (λ x _. refl)) (λ x _. refl))
    (λ x _. refl)) (λ x _. refl)

pub authorize_nv-stays : (i : IndexWish) → Stays (AuthorizeNv i)
unfolding wrapper spelled_as spelled_members spelling_rule new_name more_entries hierarchy_in normal_as normal_members member_rule new_scheme type_of type_in find_word
authorize_nv-stays (index.Path path) or place walk = follows_same _ _ refl
authorize_nv-stays (index.Public area) or place walk =
    subst (λ d. Follows (element_by or (element_value (AuthorizeNv (index.Public area))) place walk) (element_by or d place walk))
    (sym (authorize_nv-again area ∙ ap (λ v. authorize_nv_value (wrapper v)) (index-back area))) (authorize_nv-read area or place walk)
