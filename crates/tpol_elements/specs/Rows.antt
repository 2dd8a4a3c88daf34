-- The rows of the elements that hold no other elements: what an element's own members say, in reading order.
use Rattle.std.specs.Prelude.{ℕ, ◌&&◌, codes, is_some, Ok, Bool, true, false, if◌then◌else◌, ⊤}
use Rattle.serde_json.specs.Data.{Data}
use Rattle.serde_json.specs.Find.{get}
use Rattle.tpol_base.specs.declared.name.Name.{Name}
use Rattle.tpol_base.specs.declared.name.Name.TheVariants.{Empty}
use Rattle.tpol_json.specs.declared.place.Place.{Place}
use Rattle.tpol_json.specs.Places.{at_member}
use Rattle.tpol_tree.specs.declared.policy.Element.{Element}
use Rattle.tpol_tree.specs.declared.policy.Element.TheVariants.{Pcr, Nv, Secret, Signed, Authorize, AuthorizeNv, Locality, CommandCode, CpHash, NameHash, CounterTimer, Duplication, NvWritten, AuthValue, Password, PhysicalPresence}
use Rattle.tpol_members.specs.declared.fault.PolicyKind.TheVariants.{Missing, AsymmetricKey}
use Rattle.tpol_elements.specs.declared.types.LeafType.{LeafType}
use Rattle.tpol_elements.specs.declared.types.LeafType.TheVariants as types
use Rattle.tpol_members.specs.Localities.{locality_in}
use Rattle.tpol_members.specs.Operations.{code_in}
use Rattle.tpol_base.specs.Answers.{◌>>=◌}
use Rattle.tpol_members.specs.Faults.{Found}
use Rattle.tpol_json.specs.Reading.{bad}
use Rattle.tpol_members.specs.Fields.{policy_ref_in, cp_hash_in, expiration_in, operand_in, offset_in, operation_member_in}
use Rattle.tpol_json.specs.Members.{optional}
use Rattle.tpol_members.specs.Members.{needed}
use Rattle.tpol_members.specs.Values.{digest_in, name_in, is_empty_name, truth_in}
use Rattle.tpol_members.specs.Pcrs.{pcrs_in}
use Rattle.tpol_members.specs.Walks.{Reading, still}
use Rattle.tpol_elements.specs.Wishes.{key_in, index_in, entity_in, parent_in, names_in}

-- `keyPEM` holds an asymmetric key
unfoldable pub without_pem : Data → Place → Found ⊤
without_pem d place =
    if is_some (get (codes "keyPEM") d) then bad AsymmetricKey (at_member place (codes "keyPEM")) else Ok tt

unfoldable pub pcr_row : Data → Place → Reading Element
pcr_row d place walk = do
  pcrs ← pcrs_in d place walk
  Ok (Pcr pcrs.0, pcrs.1)

unfoldable pub nv_row : Data → Place → Reading Element
nv_row d place walk = do
  index ← index_in d place walk
  operand ← operand_in d place
  offset ← offset_in d place
  operation ← operation_member_in d place
  Ok (Nv index.0 operand offset operation, index.1)

unfoldable pub secret_row : Data → Place → Found Element
secret_row d place = do
  entity ← entity_in d place
  policy_ref ← policy_ref_in d place
  cp_hash ← cp_hash_in d place
  expiration ← expiration_in d place
  Ok (Secret entity policy_ref cp_hash expiration)

unfoldable pub signed_row : Data → Place → Reading Element
signed_row d place walk = do
  no_pem ← without_pem d place
  key ← key_in (codes "publicKey") d place walk
  policy_ref ← policy_ref_in d place
  cp_hash ← cp_hash_in d place
  expiration ← expiration_in d place
  Ok (Signed key.0 policy_ref cp_hash expiration, key.1)

unfoldable pub authorize_row : Data → Place → Reading Element
authorize_row d place walk = do
  no_pem ← without_pem d place
  key ← key_in (codes "publicKey") d place walk
  policy_ref ← policy_ref_in d place
  Ok (Authorize key.0 policy_ref, key.1)

unfoldable pub authorize_nv_row : Data → Place → Reading Element
authorize_nv_row d place walk = do
  index ← index_in d place walk
  Ok (AuthorizeNv index.0, index.1)

unfoldable pub locality_member : Data → Place → Found ℕ
locality_member = needed locality_in (codes "locality")

unfoldable pub locality_row : Data → Place → Found Element
locality_row d place = locality_member d place >>= λ localities. Ok (Locality localities)

unfoldable pub command_code_row : Data → Place → Found Element
command_code_row d place = needed code_in (codes "code") d place >>= λ code. Ok (CommandCode code)

unfoldable pub cp_hash_row : Data → Place → Found Element
cp_hash_row d place = needed digest_in (codes "cpHash") d place >>= λ digest. Ok (CpHash digest)

unfoldable pub name_hash_row : Data → Place → Found Element
name_hash_row d place = names_in d place >>= λ names. Ok (NameHash names)

unfoldable pub counter_timer_row : Data → Place → Found Element
counter_timer_row d place = do
  operand ← operand_in d place
  offset ← offset_in d place
  operation ← operation_member_in d place
  Ok (CounterTimer operand offset operation)

-- whether the object's Name counts too; it does not where the member is left out
unfoldable pub include_member : Data → Place → Found Bool
include_member = optional truth_in false (codes "includeObject")

unfoldable pub object_member : Data → Place → Found Name
object_member = optional name_in Empty (codes "objectName")

-- the object's Name, which is needed where it counts
unfoldable pub included_object : Bool → Data → Place → Found Name
included_object include d place = object_member d place >>= λ object.
    if is_empty_name object && include then bad Missing (at_member place (codes "objectName")) else Ok object

unfoldable pub duplication_row : Data → Place → Reading Element
duplication_row d place walk = do
  parent ← parent_in d place walk
  include ← include_member d place
  object ← included_object include d place
  Ok (Duplication object parent.0 include, parent.1)

unfoldable pub written_member : Data → Place → Found Bool
written_member = optional truth_in true (codes "writtenSet")

unfoldable pub nv_written_row : Data → Place → Found Element
nv_written_row d place = written_member d place >>= λ written. Ok (NvWritten written)

-- the row of an element's type
abbrev pub leaf_row : LeafType → Data → Place → Reading Element
leaf_row types.Pcr d place walk = pcr_row d place walk
leaf_row types.Nv d place walk = nv_row d place walk
leaf_row types.Secret d place walk = still (secret_row d place) walk
leaf_row types.Signed d place walk = signed_row d place walk
leaf_row types.Authorize d place walk = authorize_row d place walk
leaf_row types.AuthorizeNv d place walk = authorize_nv_row d place walk
leaf_row types.Locality d place walk = still (locality_row d place) walk
leaf_row types.CommandCode d place walk = still (command_code_row d place) walk
leaf_row types.CpHash d place walk = still (cp_hash_row d place) walk
leaf_row types.NameHash d place walk = still (name_hash_row d place) walk
leaf_row types.CounterTimer d place walk = still (counter_timer_row d place) walk
leaf_row types.DuplicationSelect d place walk = duplication_row d place walk
leaf_row types.NvWritten d place walk = still (nv_written_row d place) walk
leaf_row types.AuthValue d place walk = Ok (AuthValue, walk)
leaf_row types.Password d place walk = Ok (Password, walk)
leaf_row types.PhysicalPresence d place walk = Ok (PhysicalPresence, walk)
