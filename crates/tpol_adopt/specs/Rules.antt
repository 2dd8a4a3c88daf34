-- What becomes of each member of an exported document, and of each item of its lists.
use Rattle.std.specs.Prelude.{ℕ, Bool, true, false, not, ◌&&◌, List, [], ◌∷◌, codes, Option, Some, None, is_some, option_and_then, unwrap_or, Ok, Err, if◌then◌else◌}
use Rattle.std.specs.Str.{bytes_eq}
use Rattle.serde_json.specs.Data.{Data}
use Rattle.serde_json.specs.Find.{get, as_object, as_str}
use Rattle.tpol_json.specs.Numbers.{after_0x}
use Rattle.tpol_json.specs.Places.{root}
use Rattle.tpol_elements.specs.Types.{type_in}
use Rattle.tpol_elements.specs.declared.types.ElementType.{ElementType}
use Rattle.tpol_elements.specs.declared.types.ElementType.TheVariants.{Or, Leaf, Unsupported}
use Rattle.tpol_elements.specs.declared.types.LeafType.TheVariants as leaf
use Rattle.tpol_members.specs.Faults.{Found}
use Rattle.tpol_adopt.specs.Dropped.{is_asymmetric}
use Rattle.tpol_adopt.specs.Edits.{inner_scheme}
use Rattle.tpol_adopt.specs.Words.{has, is_word}
use Rattle.tpol_adopt.specs.declared.edits.Edit.TheVariants.{Number, Code, Signature}
use Rattle.tpol_adopt.specs.declared.flags.Flags.TheVariants.{OfIndex, OfObject, OfLocality}
use Rattle.tpol_adopt.specs.declared.rules.Part.{Part}
use Rattle.tpol_adopt.specs.declared.rules.Part.TheVariants.{Document, Elements, Element, Branches, Branch, IndexPublic, KeyPublic, Approvals, Approval}
use Rattle.tpol_adopt.specs.declared.rules.Rule.{Rule}
use Rattle.tpol_adopt.specs.declared.rules.Rule.TheVariants.{Same, LeftOut, Inner, Edited}

abbrev pub found : {A : Type 0} → Found A → Option A
found (Ok x) = Some x
found (Err fault) = None

-- the type of an element, if it names one
unfoldable pub type_of : Data → Option ElementType
type_of d = option_and_then (λ type. found (type_in type root)) (get (codes "type") d)

-- names of members with their rules
abbrev pub Rows : Type 0
Rows = List (List ℕ × Rule)

-- the rule of the first row of that name; a member in no row stays as it is
abbrev pub rule_in : Rows → List ℕ → Rule
rule_in [] name = Same
rule_in (row ∷ rows) name = if bytes_eq name row.0 then row.1 else rule_in rows name

abbrev pub left_out_where : Bool → Rule
left_out_where true = LeftOut
left_out_where false = Same

-- whether the member is the empty text
abbrev pub is_empty : List ℕ → Data → Bool
is_empty name d = is_word [] (option_and_then as_str (get name d))

-- whether there is a text that says any bytes: it is not empty, nor `0x` alone
abbrev pub has_bytes : Option (List ℕ) → Bool
has_bytes None = false
has_bytes (Some text) = not (bytes_eq (unwrap_or (after_0x text) text) [])

-- whether the member is an object
abbrev pub has_object : List ℕ → Data → Bool
has_object name d = is_some (option_and_then as_object (get name d))

-- the two members of SECRET and SIGNED that FAPI writes even where they are empty, and then these rows
abbrev pub run_rows : Data → Rows → Rows
run_rows d rows =
    (codes "cpHashA", left_out_where (is_empty (codes "cpHashA") d))
    ∷ (codes "nonceTPM", left_out_where (is_empty (codes "nonceTPM") d)) ∷ rows

-- the key of SIGNED and AUTHORIZE, with what FAPI writes of a PEM key that is not there
abbrev pub key_rows : Data → Rows
key_rows d =
    (codes "keyPublic", Inner KeyPublic)
    ∷ (codes "keyPEMhashAlg", left_out_where (not (has (codes "keyPEM") d)))
    ∷ (codes "rsaScheme", left_out_where (not (has (codes "keyPEM") d)))
    ∷ (codes "publicKeyHint", left_out_where (not (has (codes "keyPEM") d))) ∷ []

-- FAPI goes by a parent's Name where it has one, beside which stands the parent's public area
abbrev pub is_parent_named : Data → Bool
is_parent_named d =
    not (has (codes "newParentPath") d) && has_bytes (option_and_then as_str (get (codes "newParentName") d))

abbrev pub parent_rule : Bool → Rule
parent_rule true = LeftOut
parent_rule false = Inner KeyPublic

-- the members of an element of this type
abbrev pub element_rows : Option ElementType → Data → Rows
element_rows (Some Or) d = (codes "branches", Inner Branches) ∷ []
element_rows (Some (Leaf leaf.Nv)) d =
    (codes "nvIndex", left_out_where (has_object (codes "nvPublic") d)) ∷ (codes "nvPublic", Inner IndexPublic) ∷ []
element_rows (Some (Leaf leaf.Secret)) d = run_rows d []
element_rows (Some (Leaf leaf.Signed)) d = run_rows d (key_rows d)
element_rows (Some (Leaf leaf.Authorize)) d =
    (codes "keyName", left_out_where (has (codes "keyPublic") d)) ∷ key_rows d
element_rows (Some (Leaf leaf.AuthorizeNv)) d = (codes "nvPublic", Inner IndexPublic) ∷ []
element_rows (Some (Leaf leaf.Locality)) d = (codes "locality", Edited (Number OfLocality)) ∷ []
element_rows (Some (Leaf leaf.CommandCode)) d = (codes "code", Edited Code) ∷ []
element_rows (Some (Leaf leaf.DuplicationSelect)) d = (codes "newParentPublic", parent_rule (is_parent_named d)) ∷ []
element_rows (Some (Leaf leaf.Pcr)) d = []
element_rows (Some (Leaf leaf.CpHash)) d = []
element_rows (Some (Leaf leaf.NameHash)) d = []
element_rows (Some (Leaf leaf.CounterTimer)) d = []
element_rows (Some (Leaf leaf.NvWritten)) d = []
element_rows (Some (Leaf leaf.AuthValue)) d = []
element_rows (Some (Leaf leaf.Password)) d = []
element_rows (Some (Leaf leaf.PhysicalPresence)) d = []
element_rows (Some Unsupported) d = []
element_rows None d = []

-- a public area within a wrapper that has its size, or a public area itself
abbrev pub wrapper_rows : Bool → List ℕ → Part → Rows → Rows
wrapper_rows true wrapper part rows = (codes "size", LeftOut) ∷ (wrapper, Inner part) ∷ []
wrapper_rows false wrapper part rows = rows

-- the members of an object
abbrev pub rows_of : Part → Data → Rows
rows_of Document d = (codes "policy", Inner Elements) ∷ (codes "policyAuthorizations", Inner Approvals) ∷ []
rows_of (Element type) d = (codes "policyDigests", LeftOut) ∷ element_rows type d
rows_of Branch d = (codes "policyDigests", LeftOut) ∷ (codes "policy", Inner Elements) ∷ []
rows_of IndexPublic d =
    wrapper_rows (has (codes "nvPublic") d) (codes "nvPublic") IndexPublic
    ((codes "attributes", Edited (Number OfIndex)) ∷ [])
rows_of KeyPublic d =
    wrapper_rows (has (codes "publicArea") d) (codes "publicArea") KeyPublic
    ((codes "objectAttributes", Edited (Number OfObject))
    ∷ (codes "parameters", left_out_where (is_some (inner_scheme d))) ∷ [])
rows_of Approval d =
    (codes "key", Inner KeyPublic) ∷ (codes "keyPublic", Inner KeyPublic) ∷ (codes "signature", Edited Signature) ∷ []
rows_of Elements d = []
rows_of Branches d = []
rows_of Approvals d = []

-- what becomes of a member of that name of an object
unfoldable pub member_rule : Part → Data → List ℕ → Rule
member_rule part d name = rule_in (rows_of part d) name

-- what becomes of an item of a list
unfoldable pub item_rule : Part → Data → Rule
item_rule Elements d = Inner (Element (type_of d))
item_rule Branches d = Inner Branch
item_rule Approvals d = if is_asymmetric d then LeftOut else Inner Approval
item_rule Document d = Same
item_rule (Element type) d = Same
item_rule Branch d = Same
item_rule IndexPublic d = Same
item_rule KeyPublic d = Same
item_rule Approval d = Same

-- the scheme that an object gets in the place of its parameters
unfoldable pub new_scheme : Part → Data → Option (List ℕ)
new_scheme KeyPublic d = if has (codes "publicArea") d then None else inner_scheme d
new_scheme Document d = None
new_scheme Elements d = None
new_scheme (Element type) d = None
new_scheme Branches d = None
new_scheme Branch d = None
new_scheme IndexPublic d = None
new_scheme Approvals d = None
new_scheme Approval d = None
