-- The script of a scene: its events in order.
use Rattle.std.specs.Prelude.{ℕ, Bool, ◌==◌, List, [], ◌∷◌, ◌++◌, length, codes, Option, Some, None, Ok, if◌then◌else◌}
use Rattle.std.specs.List.{flat_map, list_any}
use Rattle.std.specs.Str.{bytes_eq}
use Rattle.serde_json.specs.Data.{Data}
use Rattle.tpol_base.specs.Answers.{◌>>=◌}
use Rattle.tpol_json.specs.Values.{any_bytes, is_within_limit}
use Rattle.tpol_json.specs.declared.place.Place.{Place}
use Rattle.tpol_entities.specs.declared.fault.SceneKind.TheVariants.{NoSuchRun, Twice, UnknownKind}
use Rattle.tpol_entities.specs.Entities.{policy_name_in}
use Rattle.tpol_entities.specs.Faults.{Found, read_as}
use Rattle.tpol_json.specs.Reading.{bad}
use Rattle.tpol_entities.specs.Lists.{ItemReading, list_in}
use Rattle.tpol_json.specs.Members.{optional}
use Rattle.tpol_entities.specs.Members.{needed}
use Rattle.tpol_entities.specs.Values.{object_in, text_in, truth_in, unsigned_in, u32_in}
use Rattle.tpol_scene.specs.declared.cast.Cast.{Cast}
use Rattle.tpol_scene.specs.declared.events.EventKind.{EventKind}
use Rattle.tpol_scene.specs.declared.events.EventKind.TheVariants as kinds
use Rattle.tpol_scene.specs.declared.script.ScriptEvent.{ScriptEvent}
use Rattle.tpol_scene.specs.declared.script.ScriptEvent.TheVariants.{Command, Begin, Turn, Time, Presence, Reset}
use Rattle.tpol_scene.specs.declared.script.ScriptFront.{ScriptFront}
use Rattle.tpol_scene.specs.Clients.{listed_client_in}
use Rattle.tpol_scene.specs.Goals.{goal_in}

-- ---- the kinds of events

-- one of the words `command`, `begin`, `turn`, `time`, `presence` and `reset`, exactly
abbrev pub event_of_word : List ℕ → Place → Found EventKind
event_of_word word place =
    if bytes_eq word (codes "command") then Ok kinds.Command else
    (if bytes_eq word (codes "begin") then Ok kinds.Begin else
    (if bytes_eq word (codes "turn") then Ok kinds.Turn else
    (if bytes_eq word (codes "time") then Ok kinds.Time else
    (if bytes_eq word (codes "presence") then Ok kinds.Presence else
    (if bytes_eq word (codes "reset") then Ok kinds.Reset else bad UnknownKind place)))))

abbrev pub event_kind_in : Data → Place → Found EventKind
event_kind_in d place = text_in d place >>= λ word. event_of_word word place

-- ---- runs

-- the run that an event begins
abbrev pub begun_run : ScriptEvent → List ℕ
begun_run (Command client locality buffer) = []
begun_run (Begin run client locality policy place goal) = run ∷ []
begun_run (Turn run times) = []
begun_run (Time ms) = []
begun_run (Presence on) = []
begun_run Reset = []

-- the runs that events begin, in order
abbrev pub begun_runs : List ScriptEvent → List ℕ
begun_runs events = flat_map begun_run events

-- no event, and one event more
abbrev pub no_events : ScriptFront
no_events = record { events = []; runs = [] }

abbrev pub with_event : ScriptFront → ScriptEvent → ScriptFront
with_event front event = record { events = front.events ++ event ∷ []; runs = front.runs ++ begun_run event }

abbrev pub is_begun : List ℕ → ℕ → Bool
is_begun runs run = list_any (λ begun. begun == run) runs

-- the number of a run
abbrev pub run_in : Data → Place → Found ℕ
run_in d place = unsigned_in 1 65535 d place

-- the number of a run that was not begun before
abbrev pub new_run_in : List ℕ → Data → Place → Found ℕ
new_run_in runs d place = do
  run ← run_in d place
  if is_begun runs run then bad Twice place else Ok run

-- the number of a run that was begun before
abbrev pub begun_run_in : List ℕ → Data → Place → Found ℕ
begun_run_in runs d place = do
  run ← run_in d place
  if is_begun runs run then Ok run else bad NoSuchRun place

-- ---- the events

abbrev pub locality_in : Data → Place → Found ℕ
locality_in d place = optional (unsigned_in 0 4) 0 (codes "locality") d place

-- bytes of any number
abbrev pub buffer_in : Data → Place → Found (List ℕ)
buffer_in d place = read_as (any_bytes d place)

-- a client, which need not be listed, sends a command
unfoldable pub command_in : Data → Place → Found ScriptEvent
command_in d place = do
  client ← needed u32_in (codes "client") d place
  locality ← locality_in d place
  buffer ← needed buffer_in (codes "bytes") d place
  Ok (Command client locality buffer)

-- a client that is listed begins a run; there are at most 256
unfoldable pub begin_in : Cast → List ℕ → Data → Place → Found ScriptEvent
begin_in cast runs d place = do
  is_within ← read_as (is_within_limit 256 (length runs) place)
  run ← needed (new_run_in runs) (codes "run") d place
  client ← needed (listed_client_in cast.clients) (codes "client") d place
  locality ← locality_in d place
  policy ← needed policy_name_in (codes "policy") d place
  goal ← needed (goal_in cast.entities) (codes "goal") d place
  Ok (Begin run client locality policy.name policy.place goal)

-- so many commands
abbrev pub some_times_in : Data → Place → Found (Option ℕ)
some_times_in d place = unsigned_in 1 2000 d place >>= λ times. Ok (Some times)

-- a run goes on, for so many commands or to its end
unfoldable pub turn_in : List ℕ → Data → Place → Found ScriptEvent
turn_in runs d place = do
  run ← needed (begun_run_in runs) (codes "run") d place
  times ← optional some_times_in None (codes "times") d place
  Ok (Turn run times)

-- milliseconds pass
abbrev pub time_event_in : Data → Place → Found ScriptEvent
time_event_in d place = needed u32_in (codes "ms") d place >>= λ ms. Ok (Time ms)

-- somebody comes to the machine, or goes
abbrev pub presence_event_in : Data → Place → Found ScriptEvent
presence_event_in d place = needed truth_in (codes "on") d place >>= λ on. Ok (Presence on)

-- what stands in an event behind its kind; these runs were begun before
unfoldable pub event_by : EventKind → Cast → List ℕ → Data → Place → Found ScriptEvent
event_by kinds.Command cast runs d place = command_in d place
event_by kinds.Begin cast runs d place = begin_in cast runs d place
event_by kinds.Turn cast runs d place = turn_in runs d place
event_by kinds.Time cast runs d place = time_event_in d place
event_by kinds.Presence cast runs d place = presence_event_in d place
event_by kinds.Reset cast runs d place = Ok Reset

-- an item of `script`; one past the 4,096th is not read
unfoldable pub event_in : Cast → ItemReading ScriptFront
event_in cast front index d place = do
  is_within ← read_as (is_within_limit 4096 index place)
  is_object ← object_in d place
  kind ← needed event_kind_in (codes "event") d place
  event ← event_by kind cast front.runs d place
  Ok (with_event front event)

-- a list of events
abbrev pub script_in : Cast → Data → Place → Found ScriptFront
script_in cast = list_in (event_in cast) no_events
