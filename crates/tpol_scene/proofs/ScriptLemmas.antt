-- What the script of a scene meets.
use Rattle.std.proofs.Common.{◌≡◌, ℕ, suc, ◌+◌, ◌-◌, ◌^◌, ◌≤◌, ◌<◌, Bool, true, false, List, [], ◌∷◌, ◌++◌, append_assoc, append-nil, length, get_or, map, refl, sym, ap, subst, ◌∙◌, arith, length-append}
use Rattle.std.specs.Prelude.{⊤, Contains, Option, None, IfSome, ◌==◌, ◌||◌, codes}
use Rattle.std.specs.List.{list_any}
use Rattle.std.proofs.lemmas.Bool.{true≢false, eqb-true, eq-eqb}
use Rattle.std.proofs.lemmas.List.Concat.{flat_map-append}
use Rattle.std.proofs.lemmas.List.Folds.{list_any_at}
use Rattle.serde_json.specs.Data.{Data}
use Rattle.tpol_goal.specs.declared.grants.Grants.{Grants}
use Rattle.tpol_json.proofs.AllFound.{AllFound, all_map, all_then}
use Rattle.tpol_json.specs.Values.{is_within_limit}
use Rattle.tpol_json.specs.declared.place.Place.{Place}
use Rattle.tpol_entities.specs.Entities.{policy_name_in}
use Rattle.tpol_entities.specs.Faults.{read_as}
use Rattle.tpol_json.specs.Members.{optional}
use Rattle.tpol_entities.specs.Members.{needed}
use Rattle.tpol_entities.specs.Values.{object_in, truth_in, u32_in, unsigned_in}
use Rattle.tpol_entities.specs.declared.fault.SceneKind.TheVariants.{NoSuchClient, NoSuchRun, Twice}
use Rattle.tpol_entities.proofs.DistinctLemmas.{list_any-map}
use Rattle.tpol_entities.proofs.ValueLemmas.{any_ok, list_counted, needed_ok, optional_ok, refuted, tested, unsigned_ok}
use Rattle.tpol_scene.specs.Clients.{ClientList, is_client, listed_client_in}
use Rattle.tpol_scene.specs.Conditions.{AreEventsBehind, IsEventBehind}
use Rattle.tpol_scene.specs.Goals.{goal_in}
use Rattle.tpol_scene.specs.Scripts.{begin_in, begun_run, begun_run_in, begun_runs, buffer_in, command_in, event_by, event_in, event_kind_in, is_begun, locality_in, new_run_in, no_events, presence_event_in, run_in, script_in, some_times_in, time_event_in, turn_in, with_event}
use Rattle.tpol_scene.specs.declared.cast.Cast.{Cast}
use Rattle.tpol_scene.specs.declared.events.EventKind.{EventKind}
use Rattle.tpol_scene.specs.declared.events.EventKind.TheVariants as kinds
use Rattle.tpol_scene.specs.declared.script.ScriptEvent.{ScriptEvent}
use Rattle.tpol_scene.specs.declared.script.ScriptFront.{ScriptFront}
use Rattle.tpol_scene.proofs.ClientLemmas.{within}
use Rattle.tpol_scene.proofs.GoalLemmas.{FitsEntities, goal_ok, indices_of, objects_of}

-- ---- numbers in a list

contains-first : (x : ℕ) (xs : List ℕ) (k : ℕ) (here : Bool) → (x == k) ≡ here → (here || list_any (λ y. y == k) xs) ≡ true
    → (list_any (λ y. y == k) xs ≡ true → Contains xs k) → Contains (x ∷ xs) k
contains-first x xs k true is e behind = (0, omega arith, eqb-true x k is)
contains-first x xs k false is e behind = let h = behind e in (suc h.0, omega (arith, h.1), h.2)

contains-any : (xs : List ℕ) (k : ℕ) → list_any (λ y. y == k) xs ≡ true → Contains xs k
contains-any [] k e = absurd (true≢false (sym e))
contains-any (x ∷ xs) k e = contains-first x xs k (x == k) refl e (contains-any xs k)

contains-none : (xs : List ℕ) (k : ℕ) → list_any (λ y. y == k) xs ≡ false → Contains xs k → ⊥
contains-none xs k e h =
    let same : (get_or xs h.0 k == k) ≡ true = ap (λ y. y == k) h.2 ∙ eq-eqb k k refl in
    true≢false (sym (list_any_at (λ y. y == k) xs h.0 k h.1 same) ∙ e)

-- ---- one event more

-- what events name: the entities and the clients
abbrev clients_of : ClientList → List ℕ
clients_of clients = map (λ (c : ℕ × Grants). c.0) clients

abbrev pub StandsIn : Cast → List ℕ → ScriptEvent → Type 0
StandsIn cast runs event = IsEventBehind (objects_of cast.entities) (indices_of cast.entities) (clients_of cast.clients) runs event

abbrev pub StandIn : Cast → List ℕ → List ScriptEvent → Type 0
StandIn cast runs events = AreEventsBehind (objects_of cast.entities) (indices_of cast.entities) (clients_of cast.clients) runs events

stand-push : (cast : Cast) (runs : List ℕ) (events : List ScriptEvent) (event : ScriptEvent)
    → StandIn cast runs events → StandsIn cast (runs ++ begun_runs events) event → StandIn cast runs (events ++ event ∷ [])
unfolding AreEventsBehind
stand-push cast runs [] event all h =
    let P : List ℕ → Type 0 = λ l. StandsIn cast l event in
    (subst P (append-nil runs) h, tt)
stand-push cast runs (first ∷ events) event all h =
    let P : List ℕ → Type 0 = λ l. StandsIn cast l event in
    (all.0, stand-push cast (runs ++ begun_run first) events event all.1 (subst P (sym (append_assoc runs (begun_run first) (begun_runs events))) h))

runs-push : (events : List ScriptEvent) (event : ScriptEvent) → begun_runs (events ++ event ∷ []) ≡ begun_runs events ++ begun_run event
runs-push events event =
    flat_map-append begun_run events (event ∷ []) ∙ ap (λ (l : List ℕ). begun_runs events ++ l) (append-nil (begun_run event))

-- ---- the parts of events

abbrev IsLocality : ℕ → Type 0
IsLocality locality = locality ≤ 4

locality_of_value : (d : Data) (place : Place) → AllFound IsLocality (unsigned_in 0 4 d place)
locality_of_value d place = all_map (λ n. (0 ≤ n) × (n ≤ 4)) IsLocality (unsigned_in 0 4 d place) (unsigned_ok 0 4 d place) (λ n fits. fits.1)

locality_ok : (d : Data) (place : Place) → AllFound IsLocality (locality_in d place)
locality_ok d place = optional_ok IsLocality (unsigned_in 0 4) 0 (omega arith) locality_of_value (codes "locality") d place

record NewRun (runs : List ℕ) (run : ℕ) : Type 0 where
  pub least : 1 ≤ run
  pub greatest : run < 2 ^ 16
  pub new : Contains runs run → ⊥

new_run_of_value : (runs : List ℕ) (d : Data) (place : Place) → AllFound (NewRun runs) (new_run_in runs d place)
new_run_of_value runs d place =
    all_then (λ n. (1 ≤ n) × (n ≤ 65535)) (NewRun runs) (run_in d place) _ (unsigned_ok 1 65535 d place)
    (λ run fits. refuted (NewRun runs) (is_begun runs run) run Twice place (λ e. record { least = fits.0; greatest = omega (arith, fits.1); new = contains-none runs run e }))

new_run_ok : (runs : List ℕ) (d : Data) (place : Place) → AllFound (NewRun runs) (needed (new_run_in runs) (codes "run") d place)
new_run_ok runs d place = needed_ok (NewRun runs) (new_run_in runs) (new_run_of_value runs) (codes "run") d place

begun_run_of_value : (runs : List ℕ) (d : Data) (place : Place) → AllFound (Contains runs) (begun_run_in runs d place)
begun_run_of_value runs d place =
    all_then (λ _. ⊤) (Contains runs) (run_in d place) _ (any_ok _)
    (λ run _. tested (Contains runs) (is_begun runs run) run NoSuchRun place (contains-any runs run))

begun_run_ok : (runs : List ℕ) (d : Data) (place : Place) → AllFound (Contains runs) (needed (begun_run_in runs) (codes "run") d place)
begun_run_ok runs d place = needed_ok (Contains runs) (begun_run_in runs) (begun_run_of_value runs) (codes "run") d place

abbrev IsListed : ClientList → ℕ → Type 0
IsListed clients client = Contains (clients_of clients) client

listed_client_of_value : (clients : ClientList) (d : Data) (place : Place) → AllFound (IsListed clients) (listed_client_in clients d place)
listed_client_of_value clients d place =
    all_then (λ _. ⊤) (IsListed clients) (u32_in d place) _ (any_ok _)
    (λ client _. tested (IsListed clients) (is_client clients client) client NoSuchClient place
    (λ e. contains-any (clients_of clients) client (list_any-map (λ n. n == client) (λ (c : ℕ × Grants). c.0) clients ∙ e)))

listed_client_ok : (clients : ClientList) (d : Data) (place : Place) → AllFound (IsListed clients) (needed (listed_client_in clients) (codes "client") d place)
listed_client_ok clients d place = needed_ok (IsListed clients) (listed_client_in clients) (listed_client_of_value clients) (codes "client") d place

abbrev AreTimes : Option ℕ → Type 0
AreTimes times = IfSome times (λ n. (1 ≤ n) × (n ≤ 2000))

times_of_value : (d : Data) (place : Place) → AllFound AreTimes (some_times_in d place)
times_of_value d place =
    all_then (λ n. (1 ≤ n) × (n ≤ 2000)) AreTimes (unsigned_in 1 2000 d place) _ (unsigned_ok 1 2000 d place) (λ times fits. fits)

times_ok : (d : Data) (place : Place) → AllFound AreTimes (optional some_times_in None (codes "times") d place)
times_ok d place = optional_ok AreTimes some_times_in None tt times_of_value (codes "times") d place

abbrev IsMilliseconds : ℕ → Type 0
IsMilliseconds ms = ms < 2 ^ 32

ms_of_value : (d : Data) (place : Place) → AllFound IsMilliseconds (u32_in d place)
ms_of_value d place =
    all_map (λ n. (0 ≤ n) × (n ≤ 2 ^ 32 - 1)) IsMilliseconds (u32_in d place) (unsigned_ok 0 (2 ^ 32 - 1) d place) (λ n fits. omega (arith, fits.1))

-- ---- events

-- an event that stands behind these runs, which stay few
record EventFits (cast : Cast) (runs : List ℕ) (event : ScriptEvent) : Type 0 where
  pub stands : StandsIn cast runs event
  pub few : length runs + length (begun_run event) ≤ 256

command_ok : (cast : Cast) (runs : List ℕ) → length runs ≤ 256 → (d : Data) (place : Place) → AllFound (EventFits cast runs) (command_in d place)
unfolding command_in
command_ok cast runs few d place =
    all_then (λ _. ⊤) (EventFits cast runs) (needed u32_in (codes "client") d place) _ (any_ok _) (λ client _.
    all_then IsLocality (EventFits cast runs) (locality_in d place) _ (locality_ok d place) (λ locality is_locality.
    all_then (λ _. ⊤) (EventFits cast runs) (needed buffer_in (codes "bytes") d place) _ (any_ok _) (λ buffer _.
    record { stands = is_locality; few = omega (arith, few) })))

begin_ok : (cast : Cast) (runs : List ℕ) (d : Data) (place : Place) → AllFound (EventFits cast runs) (begin_in cast runs d place)
unfolding begin_in
begin_ok cast runs d place =
    all_then (λ _. length runs < 256) (EventFits cast runs) (read_as (is_within_limit 256 (length runs) place)) _ (within 256 (length runs) place) (λ is_within less.
    all_then (NewRun runs) (EventFits cast runs) (needed (new_run_in runs) (codes "run") d place) _ (new_run_ok runs d place) (λ run is_new.
    all_then (IsListed cast.clients) (EventFits cast runs) (needed (listed_client_in cast.clients) (codes "client") d place) _ (listed_client_ok cast.clients d place) (λ client listed.
    all_then IsLocality (EventFits cast runs) (locality_in d place) _ (locality_ok d place) (λ locality is_locality.
    all_then (λ _. ⊤) (EventFits cast runs) (needed policy_name_in (codes "policy") d place) _ (any_ok _) (λ policy _.
    all_then (FitsEntities cast.entities) (EventFits cast runs) (needed (goal_in cast.entities) (codes "goal") d place) _
    (needed_ok (FitsEntities cast.entities) (goal_in cast.entities) (goal_ok cast.entities) (codes "goal") d place) (λ goal goal_fits.
    record {
      stands = record {
        number = is_new.least;
        greatest = is_new.greatest;
        is_new = is_new.new;
        listed = listed;
        four_localities = is_locality;
        fits = goal_fits.fits;
        offset = goal_fits.offset;
        among = goal_fits.among;
      };
      few = omega (arith, less);
    }))))))

turn_ok : (cast : Cast) (runs : List ℕ) → length runs ≤ 256 → (d : Data) (place : Place) → AllFound (EventFits cast runs) (turn_in runs d place)
unfolding turn_in
turn_ok cast runs few d place =
    all_then (Contains runs) (EventFits cast runs) (needed (begun_run_in runs) (codes "run") d place) _ (begun_run_ok runs d place) (λ run begun.
    all_then AreTimes (EventFits cast runs) (optional some_times_in None (codes "times") d place) _ (times_ok d place) (λ times are_times.
    record { stands = (begun, are_times); few = omega (arith, few) }))

time_ok : (cast : Cast) (runs : List ℕ) → length runs ≤ 256 → (d : Data) (place : Place) → AllFound (EventFits cast runs) (time_event_in d place)
time_ok cast runs few d place =
    all_then IsMilliseconds (EventFits cast runs) (needed u32_in (codes "ms") d place) _
    (needed_ok IsMilliseconds u32_in ms_of_value (codes "ms") d place) (λ ms less. record { stands = less; few = omega (arith, few) })

presence_ok : (cast : Cast) (runs : List ℕ) → length runs ≤ 256 → (d : Data) (place : Place) → AllFound (EventFits cast runs) (presence_event_in d place)
presence_ok cast runs few d place =
    all_then (λ _. ⊤) (EventFits cast runs) (needed truth_in (codes "on") d place) _ (any_ok _) (λ on _. record { stands = tt; few = omega (arith, few) })

by_kind_ok : (kind : EventKind) (cast : Cast) (runs : List ℕ) → length runs ≤ 256 → (d : Data) (place : Place)
    → AllFound (EventFits cast runs) (event_by kind cast runs d place)
unfolding event_by
by_kind_ok kinds.Command cast runs few d place = command_ok cast runs few d place
by_kind_ok kinds.Begin cast runs few d place = begin_ok cast runs d place
by_kind_ok kinds.Turn cast runs few d place = turn_ok cast runs few d place
by_kind_ok kinds.Time cast runs few d place = time_ok cast runs few d place
by_kind_ok kinds.Presence cast runs few d place = presence_ok cast runs few d place
by_kind_ok kinds.Reset cast runs few d place = record { stands = tt; few = omega (arith, few) }

-- ---- scripts

-- so many events were read
pub record ScriptCounted (cast : Cast) (n : ℕ) (front : ScriptFront) : Type 0 where
  pub stand : StandIn cast [] front.events
  pub runs : front.runs ≡ begun_runs front.events
  pub few_runs : length front.runs ≤ 256
  pub count : length front.events ≡ n
  pub few : n ≤ 4096

event_more : (cast : Cast) (n : ℕ) (front : ScriptFront) (event : ScriptEvent) → n < 4096 → ScriptCounted cast n front → EventFits cast front.runs event
    → ScriptCounted cast (suc n) (with_event front event)
event_more cast n front event less counted fits =
    let P : List ℕ → Type 0 = λ runs. StandsIn cast runs event in
    record {
      stand = stand-push cast [] front.events event counted.stand (subst P counted.runs fits.stands);
      runs = ap (λ (runs : List ℕ). runs ++ begun_run event) counted.runs ∙ sym (runs-push front.events event);
      few_runs = omega (arith, fits.few, length-append front.runs (begun_run event));
      count = omega (arith, counted.count, length-append front.events (event ∷ []));
      few = omega arith;
    }

event_ok : (cast : Cast) (front : ScriptFront) (index : ℕ) (d : Data) (place : Place) → ScriptCounted cast index front
    → AllFound (ScriptCounted cast (suc index)) (event_in cast front index d place)
unfolding event_in
event_ok cast front index d place counted =
    let Q : ScriptFront → Type 0 = ScriptCounted cast (suc index) in
    all_then (λ _. index < 4096) Q (read_as (is_within_limit 4096 index place)) _ (within 4096 index place) (λ is_within less.
    all_then (λ _. ⊤) Q (object_in d place) _ (any_ok _) (λ is_object _.
    all_then (λ _. ⊤) Q (needed event_kind_in (codes "event") d place) _ (any_ok _) (λ kind _.
    all_then (EventFits cast front.runs) Q (event_by kind cast front.runs d place) _ (by_kind_ok kind cast front.runs counted.few_runs d place) (λ event fits.
    event_more cast index front event less counted fits))))

abbrev pub IsScriptOf : Cast → ScriptFront → Type 0
IsScriptOf cast front = (n : ℕ) × ScriptCounted cast n front

none_yet : (cast : Cast) → ScriptCounted cast 0 no_events
unfolding AreEventsBehind
none_yet cast = record { stand = tt; runs = refl; few_runs = omega arith; count = refl; few = omega arith }

pub script_ok : (cast : Cast) (d : Data) (place : Place) → AllFound (IsScriptOf cast) (optional (script_in cast) no_events (codes "script") d place)
script_ok cast d place =
    optional_ok (IsScriptOf cast) (script_in cast) no_events (0, none_yet cast)
    (λ e at. list_counted (ScriptCounted cast) (event_in cast) (event_ok cast) no_events (none_yet cast) e at) (codes "script") d place
