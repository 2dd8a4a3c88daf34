-- What the definitions say of some values.
use Rattle.std.specs.Prelude.{◌≡◌, [], ◌∷◌, codes, true, false, Some, Ok, refl}
use Rattle.serde_json.specs.Data.{null, number, string, unsigned}
use Rattle.tpol_base.specs.Handle.{rh_owner}
use Rattle.tpol_base.specs.PolicyName.{without_folder}
use Rattle.tpol_json.specs.Places.{root}
use Rattle.tpol_entities.specs.Entities.{no_entities, has_path, bytes_or_name, index_attributes_in}
use Rattle.tpol_json.specs.Reading.{bad}
use Rattle.tpol_entities.specs.Targets.{handle_at, target_in}
use Rattle.tpol_base.specs.TrailingZeros.{without_trailing_zeros}
use Rattle.tpol_entities.specs.declared.fault.SceneKind.TheVariants.{Twice, BadState, NoSuchPath}
use Rattle.tpol_entities.specs.declared.targets.Target.TheVariants.{Entity, Object}

-- zero bytes at the end are taken away, those before are not
pub zeros : without_trailing_zeros (1 ∷ 0 ∷ 2 ∷ 0 ∷ 0 ∷ []) ≡ 1 ∷ 0 ∷ 2 ∷ []
unfolding without_trailing_zeros
zeros = refl

pub name_in_folder : without_folder (codes "/policy/disk") ≡ codes "disk"
name_in_folder = refl

pub name_alone : without_folder (codes "policy/disk") ≡ codes "policy/disk"
name_alone = refl

-- the paths of the hierarchies are taken, with or without a profile in front
pub owner_path : has_path no_entities (codes "/P_RSA2048/HS") ≡ true
unfolding has_path
owner_path = refl

pub free_path : has_path no_entities (codes "/HS/SRK") ≡ false
unfolding has_path
free_path = refl

-- a counter is an index of a scene, a PIN index is not, nor one that says that it is written
pub counter : index_attributes_in (number (unsigned 0x10)) root ≡ Ok 0x10
unfolding index_attributes_in
counter = refl

pub pin : index_attributes_in (number (unsigned 0x80)) root ≡ bad BadState root
unfolding index_attributes_in
pin = refl

pub written : index_attributes_in (number (unsigned 0x20000000)) root ≡ bad BadState root
unfolding index_attributes_in
written = refl

-- `policy` beside `authPolicy`, whatever it is
pub both : bytes_or_name (Some []) (Some null) root ≡ bad Twice root
both = refl

-- a hierarchy may have a value, but no key
pub value_of_owner : target_in no_entities Entity (string (codes "/P_RSA2048/HS")) root ≡ Ok rh_owner
unfolding handle_at
value_of_owner = refl

pub no_key_of_owner : target_in no_entities Object (string (codes "HS")) root ≡ bad NoSuchPath root
unfolding handle_at
no_key_of_owner = refl
