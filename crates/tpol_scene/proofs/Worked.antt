-- What the definitions say of some values.
use Rattle.std.specs.Prelude.{◌≡◌, ℕ, List, [], ◌∷◌, codes, Ok, refl}
use Rattle.serde_json.specs.Data.{Data, Members, null, number, string, array, object, unsigned, no_items, item, no_members, member}
use Rattle.tpol_json.specs.Members.{items_from}
use Rattle.tpol_json.specs.Places.{root, at_member, at_item}
use Rattle.tpol_json.specs.Words.{find_word}
use Rattle.tpol_entities.specs.Entities.{heading_in, entity_in}
use Rattle.tpol_json.specs.Reading.{bad}
use Rattle.tpol_entities.specs.Lists.{item_faults, items_kept}
use Rattle.tpol_entities.specs.declared.fault.SceneKind.TheVariants.{Missing, WrongKind, BadNumber, NoSuchClient, NoSuchRun, UnknownKind}
use Rattle.tpol_scene.specs.Clients.{client_in}
use Rattle.tpol_scene.specs.Goals.{goal_command_in}
use Rattle.tpol_scene.specs.Scenes.{authorities_in, times_in, scene_faults}
use Rattle.tpol_scene.specs.Scripts.{begin_in, event_by, event_in, event_kind_in, turn_in}
use Rattle.tpol_scene.specs.declared.goals.GoalCommand.TheVariants.{NvRead}

-- `{}` has no fault
pub empty : scene_faults (object no_members) ≡ []
unfolding scene_faults authorities_in times_in
empty = refl

-- `{"presence":2,"safe":null}`: `safe` is read first
pub two_members : scene_faults (object (member (codes "presence") (number (unsigned 2)) (member (codes "safe") null no_members)))
    ≡ (WrongKind, at_member root (codes "safe")) ∷ (BadNumber, at_member root (codes "presence")) ∷ []
unfolding scene_faults authorities_in times_in
two_members = refl

-- `{"entities":[0,{}]}`
pub two_entities : scene_faults (object (member (codes "entities") (array (item (number (unsigned 0)) (item (object no_members) no_items))) no_members))
    ≡ (WrongKind, at_item (at_member root (codes "entities")) 0) ∷ (Missing, at_member (at_item (at_member root (codes "entities")) 1) (codes "kind")) ∷ []
unfolding scene_faults authorities_in times_in item_faults items_from entity_in heading_in
two_entities = refl

-- the commands of goals are free in case and prefix, and the kinds of events are exact
pub goal_word : goal_command_in (string (codes "tpm2_cc_NV_READ")) root ≡ Ok NvRead
unfolding find_word
goal_word = refl

pub other_command : goal_command_in (string (codes "Sign")) root ≡ bad UnknownKind root
unfolding find_word
other_command = refl

pub other_event : event_kind_in (string (codes "Reset")) root ≡ bad UnknownKind root
other_event = refl

-- an object with one list
abbrev list_of : List ℕ → Data → Data → Members → Data
list_of name first second behind = object (member name (array (item first (item second no_items))) behind)

-- `{"script":[{"event":"turn","run":1},{"event":"time"}]}`
pub two_events :
    scene_faults (list_of (codes "script")
    (object (member (codes "event") (string (codes "turn")) (member (codes "run") (number (unsigned 1)) no_members)))
    (object (member (codes "event") (string (codes "time")) no_members)) no_members)
    ≡ (NoSuchRun, at_member (at_item (at_member root (codes "script")) 0) (codes "run"))
    ∷ (Missing, at_member (at_item (at_member root (codes "script")) 1) (codes "ms")) ∷ []
unfolding scene_faults authorities_in times_in item_faults items_kept items_from event_in event_by turn_in
two_events = refl

-- `{"clients":[{"client":1,"keys":0},{"client":1}],"script":[{"event":"begin","run":1,"client":2},{"event":"reset"}]}`:
-- a client at fault is none of the listed ones
pub two_clients :
    scene_faults (list_of (codes "clients")
    (object (member (codes "client") (number (unsigned 1)) (member (codes "keys") (number (unsigned 0)) no_members)))
    (object (member (codes "client") (number (unsigned 1)) no_members))
    (member (codes "script") (array (item
    (object (member (codes "client") (number (unsigned 2)) (member (codes "event") (string (codes "begin")) (member (codes "run") (number (unsigned 1)) no_members))))
    (item (object (member (codes "event") (string (codes "reset")) no_members)) no_items))) no_members))
    ≡ (WrongKind, at_member (at_item (at_member root (codes "clients")) 0) (codes "keys"))
    ∷ (NoSuchClient, at_member (at_item (at_member root (codes "script")) 0) (codes "client")) ∷ []
unfolding scene_faults authorities_in times_in item_faults items_kept items_from client_in event_in event_by begin_in
two_clients = refl
