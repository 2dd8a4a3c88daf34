-- The types of elements, and the members that each has.
use Rattle.std.specs.Prelude.{ℕ, List, [], ◌∷◌, codes}
use Rattle.serde_json.specs.Data.{Data}
use Rattle.tpol_json.specs.declared.place.Place.{Place}
use Rattle.tpol_members.specs.declared.fault.PolicyKind.TheVariants as kinds
use Rattle.tpol_elements.specs.declared.types.ElementType.{ElementType}
use Rattle.tpol_elements.specs.declared.types.ElementType.TheVariants.{Or, Leaf, Unsupported}
use Rattle.tpol_elements.specs.declared.types.LeafType.{LeafType}
use Rattle.tpol_elements.specs.declared.types.LeafType.TheVariants.{Pcr, Nv, Secret, Signed, Authorize, AuthorizeNv, Locality, CommandCode, CpHash, NameHash, CounterTimer, DuplicationSelect, NvWritten, AuthValue, Password, PhysicalPresence}
use Rattle.tpol_members.specs.Faults.{Found}
use Rattle.tpol_members.specs.Words.{only_word}

abbrev pub element_types : List (List ℕ × ElementType)
element_types =
    (codes "OR", Or) ∷ (codes "PCR", Leaf Pcr) ∷ (codes "NV", Leaf Nv) ∷ (codes "SECRET", Leaf Secret)
    ∷ (codes "SIGNED", Leaf Signed) ∷ (codes "AUTHORIZE", Leaf Authorize) ∷ (codes "AUTHORIZENV", Leaf AuthorizeNv)
    ∷ (codes "LOCALITY", Leaf Locality) ∷ (codes "COMMANDCODE", Leaf CommandCode) ∷ (codes "CPHASH", Leaf CpHash)
    ∷ (codes "NAMEHASH", Leaf NameHash) ∷ (codes "COUNTERTIMER", Leaf CounterTimer)
    ∷ (codes "DUPLICATIONSELECT", Leaf DuplicationSelect) ∷ (codes "NVWRITTEN", Leaf NvWritten)
    ∷ (codes "AUTHVALUE", Leaf AuthValue) ∷ (codes "PASSWORD", Leaf Password)
    ∷ (codes "PHYSICALPRESENCE", Leaf PhysicalPresence) ∷ (codes "TEMPLATE", Unsupported) ∷ (codes "ACTION", Unsupported)
    ∷ []

-- a type's name, in any case, with or without `POLICY` in front
unfoldable pub type_in : Data → Place → Found ElementType
type_in = only_word (codes "POLICY") element_types kinds.UnknownType

-- the members of the row of an element that holds no other elements
abbrev pub leaf_members : LeafType → List (List ℕ)
leaf_members Pcr = codes "type" ∷ codes "pcrs" ∷ codes "currentPCRs" ∷ codes "currentPCRandBanks" ∷ []
leaf_members Nv =
    codes "type" ∷ codes "nvPath" ∷ codes "nvPublic" ∷ codes "operandB" ∷ codes "offset" ∷ codes "operation" ∷ []
leaf_members Secret =
    codes "type" ∷ codes "objectPath" ∷ codes "objectName" ∷ codes "policyRef" ∷ codes "cpHashA" ∷ codes "expiration" ∷ []
leaf_members Signed =
    codes "type" ∷ codes "keyPath" ∷ codes "keyPublic" ∷ codes "publicKey" ∷ codes "policyRef" ∷ codes "cpHashA"
    ∷ codes "expiration" ∷ []
leaf_members Authorize =
    codes "type" ∷ codes "keyPath" ∷ codes "keyPublic" ∷ codes "publicKey" ∷ codes "policyRef" ∷ codes "approvedPolicy" ∷ []
leaf_members AuthorizeNv = codes "type" ∷ codes "nvPath" ∷ codes "nvPublic" ∷ []
leaf_members Locality = codes "type" ∷ codes "locality" ∷ []
leaf_members CommandCode = codes "type" ∷ codes "code" ∷ []
leaf_members CpHash = codes "type" ∷ codes "cpHash" ∷ []
leaf_members NameHash = codes "type" ∷ codes "nameHash" ∷ codes "objectNames" ∷ codes "namePaths" ∷ []
leaf_members CounterTimer = codes "type" ∷ codes "operandB" ∷ codes "offset" ∷ codes "operation" ∷ []
leaf_members DuplicationSelect =
    codes "type" ∷ codes "newParentPath" ∷ codes "newParentPublic" ∷ codes "newParentName" ∷ codes "includeObject"
    ∷ codes "objectName" ∷ []
leaf_members NvWritten = codes "type" ∷ codes "writtenSet" ∷ []
leaf_members AuthValue = codes "type" ∷ []
leaf_members Password = codes "type" ∷ []
leaf_members PhysicalPresence = codes "type" ∷ []
