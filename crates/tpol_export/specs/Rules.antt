-- What each member of a policy's canonical value is called in FAPI's spelling, and what it becomes.
use Rattle.std.specs.Prelude.{ℕ, List, [], ◌∷◌, codes, Option, Some, None, option_and_then, if◌then◌else◌}
use Rattle.std.specs.Str.{bytes_eq}
use Rattle.serde_json.specs.Data.{Data}
use Rattle.serde_json.specs.Find.{get}
use Rattle.tpol_adopt.specs.Words.{says}
use Rattle.tpol_adopt.specs.declared.flags.Flags.TheVariants.{OfIndex, OfObject, OfLocality}
use Rattle.tpol_export.specs.Values.{hierarchy_in}
use Rattle.tpol_export.specs.declared.rules.Part.{Part}
use Rattle.tpol_export.specs.declared.rules.Part.TheVariants.{Document, Elements, Element, Branches, Branch, IndexPublic, KeyPublic, Approvals, Approval}
use Rattle.tpol_export.specs.declared.rules.Rule.{Rule}
use Rattle.tpol_export.specs.declared.rules.Rule.TheVariants.{Same, Inner, Wrapped, Edited}
use Rattle.tpol_export.specs.declared.values.Edit.TheVariants.{Number, Truth, Scheme, Signature, Hierarchy}
use Rattle.tpol_write.specs.Objects.{Entry}

-- names of members with their rules
abbrev pub Rows : Type 0
Rows = List (List ℕ × Rule)

-- the rule of the first row of that name; a member in no row stays as it is
abbrev pub rule_in : Rows → List ℕ → Rule
rule_in [] name = Same
rule_in (row ∷ rows) name = if bytes_eq name row.0 then row.1 else rule_in rows name

abbrev pub rows_of : Part → Rows
rows_of Document = (codes "policy", Inner Elements) ∷ (codes "policyAuthorizations", Inner Approvals) ∷ []
rows_of Element =
    (codes "branches", Inner Branches) ∷ (codes "nvPublic", Wrapped IndexPublic) ∷ (codes "keyPublic", Inner KeyPublic)
    ∷ (codes "newParentPublic", Wrapped KeyPublic) ∷ (codes "includeObject", Edited Truth)
    ∷ (codes "writtenSet", Edited Truth) ∷ (codes "locality", Edited (Number OfLocality))
    ∷ (codes "objectPath", Edited Hierarchy) ∷ []
rows_of Branch = (codes "policy", Inner Elements) ∷ []
rows_of IndexPublic = (codes "attributes", Edited (Number OfIndex)) ∷ []
rows_of KeyPublic = (codes "objectAttributes", Edited (Number OfObject)) ∷ (codes "scheme", Edited Scheme) ∷ []
rows_of Approval = (codes "keyPublic", Inner KeyPublic) ∷ (codes "signature", Edited Signature) ∷ []
rows_of Elements = []
rows_of Branches = []
rows_of Approvals = []

-- what becomes of a member of that name of an object
unfoldable pub member_rule : Part → List ℕ → Rule
member_rule part name = rule_in (rows_of part) name

-- what becomes of an item of a list
unfoldable pub item_rule : Part → Rule
item_rule Elements = Inner Element
item_rule Branches = Inner Branch
item_rule Approvals = Inner Approval
item_rule Document = Same
item_rule Element = Same
item_rule Branch = Same
item_rule IndexPublic = Same
item_rule KeyPublic = Same
item_rule Approval = Same

abbrev pub where_named : List ℕ → List ℕ → List ℕ → List ℕ
where_named old new name = if bytes_eq name old then new else name

-- a path that names a hierarchy is no path for FAPI
abbrev pub entity_name : Option ℕ → List ℕ → List ℕ
entity_name None name = name
entity_name (Some handle) name = where_named (codes "objectPath") (codes "objectName") name

-- what a member of that name of an object is called
unfoldable pub new_name : Part → Data → List ℕ → List ℕ
new_name Element d name = entity_name (option_and_then hierarchy_in (get (codes "objectPath") d)) name
new_name KeyPublic d name = where_named (codes "scheme") (codes "parameters") name
new_name Approval d name = where_named (codes "keyPublic") (codes "key") name
new_name Document d name = name
new_name Elements d name = name
new_name Branches d name = name
new_name Branch d name = name
new_name IndexPublic d name = name
new_name Approvals d name = name

-- what a public area stands in
abbrev pub wrapper_of : Part → List ℕ
wrapper_of IndexPublic = codes "nvPublic"
wrapper_of _ = codes "publicArea"

abbrev pub index_entries : Option Data → List Entry
index_entries None = []
index_entries (Some d) = (codes "nvIndex", d) ∷ []

-- in a POLICYNV, FAPI wants the index's handle beside its public area
unfoldable pub more_entries : Part → Data → List Entry
more_entries Element d =
    if says (codes "type") (codes "POLICYNV") d
    then index_entries (option_and_then (get (codes "nvIndex")) (get (codes "nvPublic") d)) else []
more_entries _ d = []
