-- The entities that clients and goals name by their paths.
use Rattle.std.specs.Prelude.{ℕ, List, Option, Some, None, option_map, Ok}
use Rattle.std.specs.Option.{option_or}
use Rattle.serde_json.specs.Data.{Data}
use Rattle.tpol_base.specs.Answers.{◌>>=◌}
use Rattle.tpol_json.specs.declared.place.Place.{Place}
use Rattle.tpol_name.specs.Entities.{hierarchy_at, index_at, object_at}
use Rattle.tpol_entities.specs.declared.entities.Entities.{Entities}
use Rattle.tpol_entities.specs.declared.targets.Target.{Target}
use Rattle.tpol_entities.specs.declared.targets.Target.TheVariants.{Entity, Object, Index}
use Rattle.tpol_entities.specs.declared.fault.SceneKind.TheVariants.{NoSuchPath}
use Rattle.tpol_entities.specs.Faults.{Found}
use Rattle.tpol_json.specs.Reading.{bad}
use Rattle.tpol_entities.specs.Values.{text_in}

-- the handle of the object, or of the index, that has this path
abbrev pub object_handle_at : Entities → List ℕ → Option ℕ
object_handle_at entities path = option_map (λ object. object.handle) (object_at entities.objects path)

abbrev pub index_handle_at : Entities → List ℕ → Option ℕ
index_handle_at entities path = option_map (λ index. index.public.index) (index_at entities.indices path)

-- the handle of what has this path: a hierarchy, an object or an index; an object; an index
unfoldable pub handle_at : Entities → Target → List ℕ → Option ℕ
handle_at entities Entity path =
    option_or (hierarchy_at path) (option_or (object_handle_at entities path) (index_handle_at entities path))
handle_at entities Object path = object_handle_at entities path
handle_at entities Index path = index_handle_at entities path

abbrev pub handle_or_bad : Option ℕ → Place → Found ℕ
handle_or_bad None place = bad NoSuchPath place
handle_or_bad (Some handle) place = Ok handle

-- the path of such an entity, for its handle
abbrev pub target_in : Entities → Target → Data → Place → Found ℕ
target_in entities target d place = text_in d place >>= λ path. handle_or_bad (handle_at entities target path) place
