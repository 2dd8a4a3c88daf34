-- What the others leave alone, and the indices that a run's PolicySecret finds.
use Rattle.std.specs.Prelude.{◌≡◌, ◌⊎◌, ◌+◌, ℕ, ◌==◌, ◌||◌, Bool, true, false, List, [], ◌∷◌, Option, Some, None, IfSome, Result, Ok, Err, nat_eq, ⊤}
use Rattle.std.specs.List.{list_any}
use Rattle.std.specs.Option.{option_map_or}
use Rattle.tpol_driver.specs.Driving.{Closing, Drive, Ends, Moving, Over, Sends, Standing, Starting, sends}
use Rattle.tpol_name.specs.declared.entries.IndexEntry.{IndexEntry}
use Rattle.tpol_name.specs.Areas.{is_written}
use Rattle.tpol_wire.specs.declared.command.Command.{Command}
use Rattle.tpol_wire.specs.declared.command.Command.TheVariants as commands
use Rattle.tpol_wire.specs.Reading.{reading}
use Rattle.tpm_engine.specs.Calls.{Advance, Call, Execute, Reset, SetPresence}
use Rattle.tpm_engine.specs.Views.{indices_of}
use Rattle.tpm_nv.specs.Indices.{index_of}
use Rattle.tpol_wire.specs.Handles.{area_of, handles_of}
use Rattle.tpol_laws.specs.Acts.{Act, Course, Other, Run, Turn, after_act}

-- ---- commands that name a session

-- as a parameter
abbrev pub names_as_parameter : Command → ℕ → Bool
names_as_parameter (commands.FlushContext own) session = own == session
names_as_parameter (commands.ContextLoad sequence own digest) session = own == session
names_as_parameter _ session = false

-- to be authorized by it
abbrev pub is_authorized_by : Command → ℕ → Bool
is_authorized_by command session = option_map_or (λ area. area.session == session) (area_of command) false

-- among its handles, as a parameter, or to be authorized by it
abbrev pub names : Command → ℕ → Bool
names command session =
    list_any (nat_eq session) (handles_of command) || (names_as_parameter command session || is_authorized_by command session)

-- bytes that spell no command name none
abbrev pub names_in : Result Command ℕ → ℕ → Bool
names_in (Ok command) session = names command session
names_in (Err code) session = false

-- ---- nobody else names the run's session, and no Reset comes

-- the session of a run, from its start to its end
abbrev pub session_of : Standing → Option ℕ
session_of Starting = None
session_of (Moving session sent ticket done) = Some session.handle
session_of (Closing session end) = Some session
session_of (Over end) = None

-- while a run is on its path: its session, and how many of its moves are done
abbrev pub place_of : Standing → Option (ℕ × ℕ)
place_of Starting = None
place_of (Moving session sent ticket done) = Some (session.handle, done)
place_of (Closing session end) = None
place_of (Over end) = None

-- where it was, with an approval verified, or one move further
abbrev pub HasGoneOn : ℕ → ℕ → Option (ℕ × ℕ) → Type 0
HasGoneOn session done place = (place ≡ Some (session, done)) ⊎ (place ≡ Some (session, done + 1))

abbrev pub LeavesSession : Call → ℕ → Type 0
LeavesSession (Execute client locality buffer) session = names_in (reading buffer) session ≡ false
LeavesSession (Advance ms) session = ⊤
LeavesSession (SetPresence on) session = ⊤
LeavesSession Reset session = ⊥

abbrev pub LeavesAlone : Act → Standing → Type 0
LeavesAlone Turn at = ⊤
LeavesAlone (Other call) at = IfSome (session_of at) (LeavesSession call)

-- from where the run is, all along
unfoldable pub AreOthersApart : Run → List Act → Course → Type 0
AreOthersApart run [] course = ⊤
AreOthersApart run (act ∷ acts) course = LeavesAlone act course.standing × AreOthersApart run acts (after_act run course act)

-- ---- each index on which a PolicySecret of the run is executed is written at that moment

abbrev pub IsWrittenAt : List IndexEntry → ℕ → Type 0
IsWrittenAt indices handle = IfSome (index_of handle indices) (λ entry. is_written entry.public.attributes ≡ true)

abbrev pub AsksWritten : List IndexEntry → Command → Type 0
AsksWritten indices (commands.PolicySecret entity own auth nonce cp_hash policy_ref expiration) = IsWrittenAt indices entity
AsksWritten indices _ = ⊤

abbrev pub SendsOnWritten : List IndexEntry → Drive → Type 0
SendsOnWritten indices (Sends command) = AsksWritten indices command
SendsOnWritten indices (Ends end) = ⊤

abbrev pub TurnsOnWritten : Run → Act → Course → Type 0
TurnsOnWritten run Turn course = SendsOnWritten (indices_of run.setup course.past) (sends run.plan course.standing)
TurnsOnWritten run (Other call) course = ⊤

unfoldable pub AreSecretsOnWritten : Run → List Act → Course → Type 0
AreSecretsOnWritten run [] course = ⊤
AreSecretsOnWritten run (act ∷ acts) course = TurnsOnWritten run act course × AreSecretsOnWritten run acts (after_act run course act)
