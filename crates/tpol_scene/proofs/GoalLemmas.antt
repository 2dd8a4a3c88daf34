-- What the goals of a scene meet.
use Rattle.std.proofs.Common.{◌≡◌, ℕ, suc, ◌^◌, ◌≤◌, ◌<◌, Bool, true, false, cond, List, [], ◌∷◌, length, map, refl, arith, inl, inr}
use Rattle.std.specs.Prelude.{◌⊎◌, ⊤, Contains, Option, Some, None, IfSome, find, option_map, codes}
use Rattle.serde_json.specs.Data.{Data}
use Rattle.tpol_base.specs.Handle.{rh_null}
use Rattle.tpol_goal.specs.declared.goal.Goal.{Goal}
use Rattle.tpol_goal.specs.Goals.{HasShortOffset, IsGoal, IsGoalAmong}
use Rattle.tpol_json.proofs.AllFound.{AllFound, all_map, all_then}
use Rattle.tpol_json.specs.declared.place.Place.{Place}
use Rattle.tpol_name.specs.Paths.{is_same_path}
use Rattle.tpol_name.specs.declared.entries.IndexEntry.{IndexEntry}
use Rattle.tpol_name.specs.declared.entries.ObjectEntry.{ObjectEntry}
use Rattle.tpol_json.specs.Members.{optional}
use Rattle.tpol_entities.specs.Members.{needed}
use Rattle.tpol_entities.specs.Targets.{handle_at, handle_or_bad, target_in}
use Rattle.tpol_entities.specs.Values.{object_in, text_in, unsigned_in, bytes_up_to}
use Rattle.tpol_entities.specs.declared.entities.Entities.{Entities}
use Rattle.tpol_entities.specs.declared.targets.Target.{Target}
use Rattle.tpol_entities.specs.declared.targets.Target.TheVariants.{Entity, Object, Index}
use Rattle.tpol_entities.proofs.ValueLemmas.{any_ok, needed_ok, optional_ok, short_ok, unsigned_ok}
use Rattle.tpol_scene.specs.Goals.{duplicate_in, goal_by, goal_command_in, goal_in, hmac_in, nv_read_in, nv_write_in, offset_in, path_target}
use Rattle.tpol_scene.specs.declared.goals.GoalCommand.{GoalCommand}
use Rattle.tpol_scene.specs.declared.goals.GoalCommand.TheVariants.{Unseal, Hmac, NvRead, NvWrite, NvIncrement, Duplicate}

-- ---- what is found is there

behind-first : {K : Type 0} (x : K) (xs : List K) (k : K) → Contains xs k → Contains (x ∷ xs) k
behind-first x xs k h = (suc h.0, omega (arith, h.1), h.2)

first-there : {K : Type 0} (x : K) (xs : List K) → Contains (x ∷ xs) x
first-there x xs = (0, omega arith, refl)

by_first : {X : Type 0} (key : X → ℕ) (passes : Bool) (x : X) (xs : List X) (rest : Option X) → IfSome (option_map key rest) (Contains (map key xs))
    → IfSome (option_map key (cond passes (Some x) rest)) (Contains (map key (x ∷ xs)))
by_first key true x xs rest h = first-there (key x) (map key xs)
by_first key false x xs None h = tt
by_first key false x xs (Some y) h = behind-first (key x) (map key xs) (key y) h

found-there : {X : Type 0} (key : X → ℕ) (p : X → Bool) (xs : List X) → IfSome (option_map key (find p xs)) (Contains (map key xs))
found-there key p [] = tt
found-there key p (x ∷ xs) = by_first key (p x) x xs (find p xs) (found-there key p xs)

abbrev pub objects_of : Entities → List ℕ
objects_of entities = map (λ (o : ObjectEntry). o.handle) entities.objects

abbrev pub indices_of : Entities → List ℕ
indices_of entities = map (λ (i : IndexEntry). i.public.index) entities.indices

handle_ok : (P : ℕ → Type 0) (found : Option ℕ) (place : Place) → IfSome found P → AllFound P (handle_or_bad found place)
handle_ok P None place h = tt
handle_ok P (Some handle) place h = h

object_there : (entities : Entities) (path : List ℕ) → IfSome (handle_at entities Object path) (Contains (objects_of entities))
unfolding handle_at
object_there entities path = found-there (λ (o : ObjectEntry). o.handle) (λ object. is_same_path object.path path) entities.objects

index_there : (entities : Entities) (path : List ℕ) → IfSome (handle_at entities Index path) (Contains (indices_of entities))
unfolding handle_at
index_there entities path = found-there (λ (i : IndexEntry). i.public.index) (λ index. is_same_path index.path path) entities.indices

object_ok : (entities : Entities) (d : Data) (place : Place) → AllFound (Contains (objects_of entities)) (target_in entities Object d place)
object_ok entities d place =
    all_then (λ _. ⊤) (Contains (objects_of entities)) (text_in d place) _ (any_ok _)
    (λ path _. handle_ok (Contains (objects_of entities)) (handle_at entities Object path) place (object_there entities path))

index_ok : (entities : Entities) (d : Data) (place : Place) → AllFound (Contains (indices_of entities)) (target_in entities Index d place)
index_ok entities d place =
    all_then (λ _. ⊤) (Contains (indices_of entities)) (text_in d place) _ (any_ok _)
    (λ path _. handle_ok (Contains (indices_of entities)) (handle_at entities Index path) place (index_there entities path))

-- what a path names stands among the objects, or the indices, where one of them is wanted
abbrev IsNamed : Entities → Target → ℕ → Type 0
IsNamed entities Entity handle = ⊤
IsNamed entities Object handle = Contains (objects_of entities) handle
IsNamed entities Index handle = Contains (indices_of entities) handle

target_ok : (entities : Entities) (target : Target) (d : Data) (place : Place) → AllFound (IsNamed entities target) (target_in entities target d place)
target_ok entities Entity d place = any_ok _
target_ok entities Object d place = object_ok entities d place
target_ok entities Index d place = index_ok entities d place

-- ---- bounds

abbrev IsShort : List ℕ → Type 0
IsShort bytes = length bytes ≤ 1024

bytes_ok : (name : List ℕ) (d : Data) (place : Place) → AllFound IsShort (needed (bytes_up_to 1024) name d place)
bytes_ok name d place = needed_ok IsShort (bytes_up_to 1024) (short_ok 1024) name d place

abbrev IsSize : ℕ → Type 0
IsSize size = size ≤ 1024

size_of_value : (d : Data) (place : Place) → AllFound IsSize (unsigned_in 0 1024 d place)
size_of_value d place = all_map (λ n. (0 ≤ n) × (n ≤ 1024)) IsSize (unsigned_in 0 1024 d place) (unsigned_ok 0 1024 d place) (λ n fits. fits.1)

size_ok : (d : Data) (place : Place) → AllFound IsSize (needed (unsigned_in 0 1024) (codes "size") d place)
size_ok d place = needed_ok IsSize (unsigned_in 0 1024) size_of_value (codes "size") d place

abbrev IsOffset : ℕ → Type 0
IsOffset offset = offset < 2 ^ 16

offset_of_value : (d : Data) (place : Place) → AllFound IsOffset (unsigned_in 0 65535 d place)
offset_of_value d place =
    all_map (λ n. (0 ≤ n) × (n ≤ 65535)) IsOffset (unsigned_in 0 65535 d place) (unsigned_ok 0 65535 d place) (λ n fits. omega (arith, fits.1))

offset_ok : (d : Data) (place : Place) → AllFound IsOffset (offset_in d place)
offset_ok d place = optional_ok IsOffset (unsigned_in 0 65535) 0 (omega arith) offset_of_value (codes "offset") d place

-- ---- goals

pub record GoalFits (objects indices : List ℕ) (goal : Goal) : Type 0 where
  pub fits : IsGoal goal
  pub offset : HasShortOffset goal
  pub among : IsGoalAmong objects indices goal

abbrev pub FitsEntities : Entities → Goal → Type 0
FitsEntities entities goal = GoalFits (objects_of entities) (indices_of entities) goal

hmac_ok : (entities : Entities) (key : ℕ) → Contains (objects_of entities) key → (d : Data) (place : Place) → AllFound (FitsEntities entities) (hmac_in key d place)
unfolding hmac_in
hmac_ok entities key there d place =
    all_then IsShort (FitsEntities entities) (needed (bytes_up_to 1024) (codes "buffer") d place) _ (bytes_ok (codes "buffer") d place) (λ buffer short.
    record { fits = short; offset = tt; among = there })

nv_read_ok : (entities : Entities) (index : ℕ) → Contains (indices_of entities) index → (d : Data) (place : Place) → AllFound (FitsEntities entities) (nv_read_in index d place)
unfolding nv_read_in
nv_read_ok entities index there d place =
    all_then IsSize (FitsEntities entities) (needed (unsigned_in 0 1024) (codes "size") d place) _ (size_ok d place) (λ size small.
    all_then IsOffset (FitsEntities entities) (offset_in d place) _ (offset_ok d place) (λ offset less.
    record { fits = small; offset = less; among = there }))

nv_write_ok : (entities : Entities) (index : ℕ) → Contains (indices_of entities) index → (d : Data) (place : Place) → AllFound (FitsEntities entities) (nv_write_in index d place)
unfolding nv_write_in
nv_write_ok entities index there d place =
    all_then IsShort (FitsEntities entities) (needed (bytes_up_to 1024) (codes "bytes") d place) _ (bytes_ok (codes "bytes") d place) (λ bytes short.
    all_then IsOffset (FitsEntities entities) (offset_in d place) _ (offset_ok d place) (λ offset less.
    record { fits = short; offset = less; among = there }))

abbrev IsParent : Entities → ℕ → Type 0
IsParent entities parent = (parent ≡ rh_null) ⊎ Contains (objects_of entities) parent

parent_there : (entities : Entities) (d : Data) (place : Place) → AllFound (IsParent entities) (target_in entities Object d place)
parent_there entities d place = all_map (Contains (objects_of entities)) (IsParent entities) (target_in entities Object d place) (object_ok entities d place) (λ parent there. inr there)

duplicate_ok : (entities : Entities) (object : ℕ) → Contains (objects_of entities) object → (d : Data) (place : Place) → AllFound (FitsEntities entities) (duplicate_in entities object d place)
unfolding duplicate_in
duplicate_ok entities object there d place =
    all_then (IsParent entities) (FitsEntities entities) (optional (target_in entities Object) rh_null (codes "parent") d place) _
    (optional_ok (IsParent entities) (target_in entities Object) rh_null (inl refl) (parent_there entities) (codes "parent") d place) (λ parent is_parent.
    record { fits = tt; offset = tt; among = (there, is_parent) })

by_command_ok : (command : GoalCommand) (entities : Entities) (handle : ℕ) → IsNamed entities (path_target command) handle → (d : Data) (place : Place)
    → AllFound (FitsEntities entities) (goal_by command entities handle d place)
unfolding goal_by
by_command_ok Unseal entities object there d place = record { fits = tt; offset = tt; among = there }
by_command_ok Hmac entities key there d place = hmac_ok entities key there d place
by_command_ok NvRead entities index there d place = nv_read_ok entities index there d place
by_command_ok NvWrite entities index there d place = nv_write_ok entities index there d place
by_command_ok NvIncrement entities index there d place = record { fits = tt; offset = tt; among = there }
by_command_ok Duplicate entities object there d place = duplicate_ok entities object there d place

pub goal_ok : (entities : Entities) (d : Data) (place : Place) → AllFound (FitsEntities entities) (goal_in entities d place)
unfolding goal_in
goal_ok entities d place =
    all_then (λ _. ⊤) (FitsEntities entities) (object_in d place) _ (any_ok _) (λ is_object _.
    all_then (λ _. ⊤) (FitsEntities entities) (needed goal_command_in (codes "command") d place) _ (any_ok _) (λ command _.
    all_then (IsNamed entities (path_target command)) (FitsEntities entities) (needed (target_in entities (path_target command)) (codes "path") d place) _
    (needed_ok (IsNamed entities (path_target command)) (target_in entities (path_target command)) (target_ok entities (path_target command)) (codes "path") d place) (λ handle there.
    by_command_ok command entities handle there d place)))
