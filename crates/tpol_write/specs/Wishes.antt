-- How canonical text writes keys, indices, entities, parents, Names and PCRs.
use Rattle.std.specs.Prelude.{ℕ, List, [], ◌∷◌, codes, map, Option, Some, None, Bool, true, false}
use Rattle.serde_json.specs.Data.{Data, string}
use Rattle.tpol_base.specs.declared.digest.Digest32.{Digest32}
use Rattle.tpol_base.specs.declared.name.Name.{Name}
use Rattle.tpol_base.specs.Name.{name_bytes}
use Rattle.tpol_base.specs.Pcr.{pcrs_of_mask}
use Rattle.tpol_tree.specs.declared.wishes.ObjectPublicText.{ObjectPublicText}
use Rattle.tpol_tree.specs.declared.wishes.NvPublicText.{NvPublicText}
use Rattle.tpol_tree.specs.declared.wishes.KeyWish.{KeyWish}
use Rattle.tpol_tree.specs.declared.wishes.KeyWish.TheVariants as key
use Rattle.tpol_tree.specs.declared.wishes.IndexWish.{IndexWish}
use Rattle.tpol_tree.specs.declared.wishes.IndexWish.TheVariants as index
use Rattle.tpol_tree.specs.declared.wishes.EntityWish.{EntityWish}
use Rattle.tpol_tree.specs.declared.wishes.EntityWish.TheVariants as entity
use Rattle.tpol_tree.specs.declared.wishes.ParentWish.{ParentWish}
use Rattle.tpol_tree.specs.declared.wishes.ParentWish.TheVariants as parent
use Rattle.tpol_tree.specs.declared.wishes.NamesWish.{NamesWish}
use Rattle.tpol_tree.specs.declared.wishes.NamesWish.TheVariants as names
use Rattle.tpol_tree.specs.declared.wishes.PcrWish.{PcrWish}
use Rattle.tpol_tree.specs.declared.wishes.PcrWish.TheVariants.{Values, Current}
use Rattle.tpol_write.specs.Objects.{Entry, object_of, hex_text, natural, list_of}

abbrev pub scheme_name : Bool → List ℕ
scheme_name true = codes "HMAC"
scheme_name false = codes "NULL"

-- TPM 2.0 Part 2, TPMT_PUBLIC
abbrev pub object_public_value : ObjectPublicText → Data
object_public_value area = object_of (
    (codes "type", string (codes "KEYEDHASH")) ∷ (codes "nameAlg", string (codes "SHA256"))
    ∷ (codes "objectAttributes", natural area.attributes) ∷ (codes "authPolicy", hex_text area.auth_policy)
    ∷ (codes "scheme", string (scheme_name area.hmac)) ∷ (codes "unique", hex_text area.unique) ∷ [])

-- TPM 2.0 Part 2, TPMS_NV_PUBLIC
abbrev pub nv_public_value : NvPublicText → Data
nv_public_value area = object_of (
    (codes "nvIndex", natural area.index) ∷ (codes "nameAlg", string (codes "SHA256"))
    ∷ (codes "attributes", natural area.attributes) ∷ (codes "authPolicy", hex_text area.auth_policy)
    ∷ (codes "dataSize", natural area.size) ∷ [])

abbrev pub name_value : Name → Data
name_value name = hex_text (name_bytes name)

abbrev pub key_member : KeyWish → Entry
key_member (key.Path path) = (codes "keyPath", string path)
key_member (key.Public area) = (codes "keyPublic", object_public_value area)

abbrev pub index_member : IndexWish → Entry
index_member (index.Path path) = (codes "nvPath", string path)
index_member (index.Public area) = (codes "nvPublic", nv_public_value area)

abbrev pub entity_member : EntityWish → Entry
entity_member (entity.Path path) = (codes "objectPath", string path)
entity_member (entity.Named name) = (codes "objectName", name_value name)

abbrev pub parent_member : ParentWish → Entry
parent_member (parent.Path path) = (codes "newParentPath", string path)
parent_member (parent.Public area) = (codes "newParentPublic", object_public_value area)
parent_member (parent.Named name) = (codes "newParentName", name_value name)

abbrev pub names_member : NamesWish → Entry
names_member (names.Digest digest) = (codes "nameHash", hex_text digest.bytes)
names_member (names.Names list) = (codes "objectNames", list_of (map name_value list))
names_member (names.Paths paths) = (codes "namePaths", list_of (map string paths))

-- a PCR with its value
abbrev pub pcr_value : (ℕ × Digest32) → Data
pcr_value value = object_of (
    (codes "pcr", natural value.0) ∷ (codes "hashAlg", string (codes "SHA256"))
    ∷ (codes "digest", hex_text value.1.bytes) ∷ [])

abbrev pub pcrs_member : PcrWish → Entry
pcrs_member (Values values) = (codes "pcrs", list_of (map pcr_value values))
pcrs_member (Current mask) = (codes "currentPCRs", list_of (map natural (pcrs_of_mask mask)))

-- `cpHashA` is written where it is there
abbrev pub cp_hash_members : Option Digest32 → List Entry
cp_hash_members None = []
cp_hash_members (Some digest) = (codes "cpHashA", hex_text digest.bytes) ∷ []
