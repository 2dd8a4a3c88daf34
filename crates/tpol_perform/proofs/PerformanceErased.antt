-- What a scene leads to, whichever memory its policies lie in.
use Rattle.std.proofs.Common.{◌≡◌, ◌∙◌, ap, refl, ℕ, zero, suc, ◌-◌, ◌==◌, Bool, true, false, if◌then◌else◌, List, [], ◌∷◌, map, find, reverse, slice_get, Option, Some, None}
use Rattle.std.specs.Option.{option_map}
use Rattle.std.specs.Str.{bytes_eq}
use Rattle.tpm_engine.specs.declared.opened.Opened.{Opened}
use Rattle.tpm_engine.specs.Legal.{answer_to, opened_to}
use Rattle.tpm_engine.specs.Sights.{sight_after}
use Rattle.tpol_cert.proofs.ChoicesErased.{certificate_erased}
use Rattle.tpol_choose.specs.Blocks.{chosen_path}
use Rattle.tpol_digest.proofs.Erasures.{paths_ignore_boxes}
use Rattle.tpol_digest.specs.Paths.{paths_of}
use Rattle.tpol_driver.specs.declared.tickets.HeldTicket.{HeldTicket}
use Rattle.tpol_name.specs.declared.sight.Sight.{Sight}
use Rattle.tpol_runs.specs.declared.ended.Ended.{Ended}
use Rattle.tpol_runs.specs.declared.ended.Ended.TheVariants as ended
use Rattle.tpol_runs.specs.declared.sent.Sent.{Sent}
use Rattle.tpol_runs.specs.Courses.{end_told, goes_on}
use Rattle.tpol_runs.specs.Runs.{with_run}
use Rattle.tpol_scene.specs.declared.script.ScriptEvent.{ScriptEvent}
use Rattle.tpol_scene.specs.declared.script.ScriptEvent.TheVariants.{Command, Begin, Turn, Time, Presence, Reset}
use Rattle.tpol_steps.specs.declared.answer.Verdict.TheVariants.{Done}
use Rattle.tpol_steps.specs.declared.filled.FilledDocument.{FilledDocument}
use Rattle.tpol_prepare.specs.declared.entities.CompiledEntity.{CompiledEntity}
use Rattle.tpol_perform.specs.declared.new_run.NewRun.{NewRun}
use Rattle.tpol_prepare.specs.declared.manner.Manner.{Manner}
use Rattle.tpol_prepare.specs.declared.manner.Way.{Way}
use Rattle.tpol_prepare.specs.declared.manner.Way.TheVariants.{Blind, Sighted, WithTickets}
use Rattle.tpol_prepare.specs.declared.scenario.Scenario.{Scenario}
use Rattle.tpol_prepare.specs.declared.scenario.StagedScene.{StagedScene}
use Rattle.tpol_perform.specs.Begin.{begun_along, begun_at, begun_by, begun_in_sight, begun_on, run_begun}
use Rattle.tpol_perform.specs.Blind.{begun_blindly, begun_by_plan, blind_plan, with_blind_end}
use Rattle.tpol_perform.specs.NewRuns.{new_run}
use Rattle.tpol_perform.specs.CommandsTold.{certificate_of_opening, command_told, commanded, opening_told, policy_opened, with_certificate, with_opening}
use Rattle.tpol_prepare.specs.Entities.{erased_entity}
use Rattle.tpol_steps.specs.Filled.{erased_filled}
use Rattle.tpol_perform.specs.Performance.{PerformanceState, number_in, start_of}
use Rattle.tpol_prepare.specs.Manner.{certifies, explains, way_of}
use Rattle.tpol_prepare.specs.Scenario.{erased_scenario, erased_staged, is_document, is_entity, paths_in, paths_named}
use Rattle.tpol_perform.specs.Script.{all_happened, happened, performance_answer, performed, turn_told}
use Rattle.tpol_perform.specs.Tickets.{tickets_given}
use Rattle.tpol_perform.specs.Turns.{heard_now, replied, sent, sent_now, turned, turned_and, turned_by, turned_on, turned_times, turned_to_end, turned_to_end_by, most_turns, with_end}
use Rattle.tpol_prepare.proofs.EntitiesErased.{reversed_erased}
use Rattle.tpol_perform.proofs.OpeningErased.{opening_of_erased}
use Rattle.tpol_trace.specs.declared.answer.Opening.{Opening}
use Rattle.tpol_trace.specs.declared.answer.Opening.TheVariants.{Branch, Clash, ZeroInput}
use Rattle.tpol_trace.specs.Openings.{opening_of}
use Rattle.tpol_tree.specs.ClosedErased.{erased, erased_document}
use Rattle.tpol_tree.specs.declared.closed.Closed.{Closed}
use Rattle.tpol_tree.specs.declared.facts.Fact.{Fact}
use Rattle.tpol_tree.specs.declared.path.ApprovedDoc.{ApprovedDoc}
use Rattle.tpol_tree.specs.declared.path.Path.{Path}

-- ---- openings

certificate_of_erased : (closed : Closed) (approvals : List ApprovedDoc) (opening : Option Opening) → certificate_of_opening (erased closed) (map erased_document approvals) opening ≡ certificate_of_opening closed approvals opening
certificate_of_erased closed approvals None = refl
certificate_of_erased closed approvals (Some (Branch position events)) = certificate_erased closed approvals position
certificate_of_erased closed approvals (Some (Clash first second)) = refl
certificate_of_erased closed approvals (Some (ZeroInput input)) = refl

opened_erased : (manner : Manner) (approvals : List ApprovedDoc) (event : ℕ) (facts : List Fact) (closed : Closed) (p : PerformanceState) → policy_opened manner (map erased_document approvals) event facts (Some (erased closed)) p ≡ policy_opened manner approvals event facts (Some closed) p
unfolding policy_opened
opened_erased manner approvals event facts closed p =
    let opening = opening_of closed approvals facts in
    let certificate = certificate_of_opening (erased closed) (map erased_document approvals) opening in
    ap (λ (found : Option Opening). with_certificate (certifies manner) event (certificate_of_opening (erased closed) (map erased_document approvals) found) (with_opening event (paths_of (erased closed) (map erased_document approvals)) found p)) (opening_of_erased closed approvals facts)
    ∙ (ap (λ (paths : List Path). with_certificate (certifies manner) event certificate (with_opening event paths opening p)) (paths_ignore_boxes closed approvals)
    ∙ ap (λ (bytes : Option (List ℕ)). with_certificate (certifies manner) event bytes (with_opening event (paths_of closed approvals) opening p)) (certificate_of_erased closed approvals opening))

entity_erased : (manner : Manner) (approvals : List ApprovedDoc) (event : ℕ) (facts : List Fact) (handle : ℕ) (p : PerformanceState) (entities : List CompiledEntity)
    → policy_opened manner (map erased_document approvals) event facts (option_map (λ entity. entity.document.closed) (find (is_entity handle) (map erased_entity entities))) p
    ≡ policy_opened manner approvals event facts (option_map (λ entity. entity.document.closed) (find (is_entity handle) entities)) p
unfolding policy_opened
entity_erased manner approvals event facts handle p [] = refl
entity_erased manner approvals event facts handle p (entity ∷ rest) =
    elim (entity.handle == handle) as (λ b. policy_opened manner (map erased_document approvals) event facts (option_map (λ (e : CompiledEntity). e.document.closed) (if b then Some (erased_entity entity) else find (is_entity handle) (map erased_entity rest))) p
    ≡ policy_opened manner approvals event facts (option_map (λ (e : CompiledEntity). e.document.closed) (if b then Some entity else find (is_entity handle) rest)) p) [
      | true ↦ opened_erased manner approvals event facts entity.document.closed p
      | false ↦ entity_erased manner approvals event facts handle p rest
    ]

told_erased : (told : Bool) (scenario : Scenario) (event : ℕ) (opened : Option Opened) (p : PerformanceState) → opening_told told (erased_scenario scenario) event opened p ≡ opening_told told scenario event opened p
told_erased false scenario event opened p = refl
told_erased true scenario event None p = refl
told_erased true scenario event (Some opened) p =
    ap (λ (l : List CompiledEntity). policy_opened scenario.manner (map erased_document scenario.approvals) event opened.facts (option_map (λ entity. entity.document.closed) (find (is_entity opened.entity) l)) p) (reversed_erased scenario.entities)
    ∙ entity_erased scenario.manner scenario.approvals event opened.facts opened.entity p (reverse scenario.entities)

-- ---- commands

commanded_erased : (scenario : Scenario) (client locality : ℕ) (buffer : List ℕ) (p : PerformanceState) → commanded (erased_scenario scenario) client locality buffer p ≡ commanded scenario client locality buffer p
unfolding commanded
commanded_erased scenario client locality buffer p =
    told_erased (explains scenario.manner) scenario (number_in p) (opened_to p.setup p.past locality buffer)
    (command_told client locality buffer (answer_to p.setup p.past locality buffer) p)

-- ---- ends

named_erased : (approvals : List ApprovedDoc) (name : List ℕ) (begun : List FilledDocument) → paths_in (map erased_document approvals) (find (is_document name) (map erased_filled begun)) ≡ paths_in approvals (find (is_document name) begun)
named_erased approvals name [] = refl
named_erased approvals name (document ∷ rest) =
    elim (bytes_eq document.name name) as (λ b. paths_in (map erased_document approvals) (if b then Some (erased_filled document) else find (is_document name) (map erased_filled rest))
    ≡ paths_in approvals (if b then Some document else find (is_document name) rest)) [
      | true ↦ paths_ignore_boxes document.closed approvals
      | false ↦ named_erased approvals name rest
    ]

pub paths_erased : (scenario : Scenario) (policy : List ℕ) → paths_named (erased_scenario scenario) policy ≡ paths_named scenario policy
unfolding paths_named
paths_erased scenario policy = named_erased scenario.approvals policy scenario.begun

end_erased : (scenario : Scenario) (client run : ℕ) (end : Option Ended) (p : PerformanceState) → with_end (erased_scenario scenario) client run end p ≡ with_end scenario client run end p
end_erased scenario client run None p = refl
end_erased scenario client run (Some (ended.Sighted end earned)) p = refl
end_erased scenario client run (Some (ended.Blind policy end)) p = ap (λ (paths : List Path). with_blind_end run paths end p) (paths_erased scenario policy)

replied_erased : (scenario : Scenario) (client run : ℕ) (reply : List ℕ) (p : PerformanceState) → replied (erased_scenario scenario) client run reply p ≡ replied scenario client run reply p
unfolding replied
replied_erased scenario client run reply p =
    end_erased scenario client run (end_told (heard_now run reply p)) (record p { runs = with_run p.runs run (goes_on (heard_now run reply p)) })

-- ---- turns

sent_erased : (scenario : Scenario) (run : ℕ) (command : Sent) (p : PerformanceState) → sent (erased_scenario scenario) run command p ≡ sent scenario run command p
unfolding sent
sent_erased scenario run command p =
    let reply = (answer_to p.setup p.past command.locality command.buffer).reply in
    ap (replied (erased_scenario scenario) command.client run reply) (commanded_erased scenario command.client command.locality command.buffer p)
    ∙ replied_erased scenario command.client run reply (commanded scenario command.client command.locality command.buffer p)

by_erased : (scenario : Scenario) (run : ℕ) (next : Option Sent) (p : PerformanceState) → turned_by (erased_scenario scenario) run next p ≡ turned_by scenario run next p
by_erased scenario run None p = refl
by_erased scenario run (Some command) p = sent_erased scenario run command p

turned_erased : (scenario : Scenario) (run : ℕ) (p : PerformanceState) → turned (erased_scenario scenario) run p ≡ turned scenario run p
unfolding turned
turned_erased scenario run p = by_erased scenario run (sent_now run p) p

times_erased : (scenario : Scenario) (run n : ℕ) (p : PerformanceState) → turned_times (erased_scenario scenario) run n p ≡ turned_times scenario run n p
unfolding turned_times
times_erased scenario run zero p = refl
times_erased scenario run (suc n) p =
    ap (turned_times (erased_scenario scenario) run n) (turned_erased scenario run p) ∙ times_erased scenario run n (turned scenario run p)

and_erased : (scenario : Scenario) (run : ℕ) (rest other : PerformanceState → PerformanceState) → ((q : PerformanceState) → rest q ≡ other q) → (next : Option Sent) (p : PerformanceState) → turned_and rest (erased_scenario scenario) run next p ≡ turned_and other scenario run next p
and_erased scenario run rest other same None p = refl
and_erased scenario run rest other same (Some command) p =
    ap rest (sent_erased scenario run command p) ∙ same (sent scenario run command p)

on_erased : (scenario : Scenario) (run n : ℕ) (p : PerformanceState) → turned_on (erased_scenario scenario) run n p ≡ turned_on scenario run n p
unfolding turned_on
on_erased scenario run zero p = refl
on_erased scenario run (suc n) p =
    and_erased scenario run (turned_on (erased_scenario scenario) run n) (turned_on scenario run n) (λ q. on_erased scenario run n q) (sent_now run p) p

to_end_erased : (scenario : Scenario) (run : ℕ) (next : Option Sent) (p : PerformanceState) → turned_to_end_by (erased_scenario scenario) run next p ≡ turned_to_end_by scenario run next p
to_end_erased scenario run None p = refl
to_end_erased scenario run (Some command) p =
    ap (turned_on (erased_scenario scenario) run most_turns) (sent_erased scenario run command p) ∙ on_erased scenario run most_turns (sent scenario run command p)

turn_erased : (scenario : Scenario) (run : ℕ) (times : Option ℕ) (p : PerformanceState) → turn_told (erased_scenario scenario) run times p ≡ turn_told scenario run times p
unfolding turned_to_end
turn_erased scenario run None p = to_end_erased scenario run (sent_now run p) p
turn_erased scenario run (Some times) p = times_erased scenario run times p

-- ---- runs that begin

along_erased : (scenario : Scenario) (tickets : List HeldTicket) (position : ℕ) (run : NewRun) (path : Option Path) (p : PerformanceState) → begun_along (erased_scenario scenario) tickets position run path p ≡ begun_along scenario tickets position run path p
along_erased scenario tickets position run None p = refl
along_erased scenario tickets position run (Some path) p = refl

at_erased : (scenario : Scenario) (sight : Sight) (paths : List Path) (run : NewRun) (chosen : Option ℕ) (p : PerformanceState) → begun_at (erased_scenario scenario) sight paths run chosen p ≡ begun_at scenario sight paths run chosen p
at_erased scenario sight paths run None p = refl
at_erased scenario sight paths run (Some position) p =
    along_erased scenario (tickets_given (way_of scenario.manner) run.client sight p.kept) position run (slice_get paths (position - 1)) p

sighted_erased : (scenario : Scenario) (policy : List ℕ) (run : NewRun) (p : PerformanceState) → begun_in_sight (erased_scenario scenario) policy run p ≡ begun_in_sight scenario policy run p
unfolding begun_in_sight begun_on
sighted_erased scenario policy run p =
    ap (λ (paths : List Path). begun_at (erased_scenario scenario) (sight_after p.setup p.past) paths run (chosen_path paths (sight_after p.setup p.past) run.grants run.goal run.locality) p) (paths_erased scenario policy)
    ∙ at_erased scenario (sight_after p.setup p.past) (paths_named scenario policy) run (chosen_path (paths_named scenario policy) (sight_after p.setup p.past) run.grants run.goal run.locality) p

blindly_erased : (scenario : Scenario) (policy : List ℕ) (run : NewRun) (p : PerformanceState) → begun_blindly (erased_scenario scenario) policy run p ≡ begun_blindly scenario policy run p
unfolding begun_blindly
blindly_erased scenario policy run p =
    ap (λ (paths : List Path). begun_by_plan policy run (blind_plan scenario paths run) p) (paths_erased scenario policy)

way_erased : (way : Way) (scenario : Scenario) (policy : List ℕ) (run : NewRun) (p : PerformanceState) → begun_by way (erased_scenario scenario) policy run p ≡ begun_by way scenario policy run p
way_erased Sighted scenario policy run p = sighted_erased scenario policy run p
way_erased Blind scenario policy run p = blindly_erased scenario policy run p
way_erased WithTickets scenario policy run p = sighted_erased scenario policy run p

begun_erased : (scenario : Scenario) (policy : List ℕ) (run : NewRun) (p : PerformanceState) → run_begun (erased_scenario scenario) policy run p ≡ run_begun scenario policy run p
unfolding run_begun
begun_erased scenario policy run p = way_erased (way_of scenario.manner) scenario policy run p

-- a run that begins, and goes to its end
pub run_erased : (scenario : Scenario) (policy : List ℕ) (run : NewRun) (number : ℕ) (p : PerformanceState) → turned_to_end (erased_scenario scenario) number (run_begun (erased_scenario scenario) policy run p) ≡ turned_to_end scenario number (run_begun scenario policy run p)
run_erased scenario policy run number p =
    ap (turned_to_end (erased_scenario scenario) number) (begun_erased scenario policy run p)
    ∙ turn_erased scenario number None (run_begun scenario policy run p)

-- ---- the script

pub happened_erased : (scenario : Scenario) (event : ScriptEvent) (p : PerformanceState) → happened (erased_scenario scenario) event p ≡ happened scenario event p
happened_erased scenario (Command client locality buffer) p = commanded_erased scenario client locality buffer p
happened_erased scenario (Begin run client locality policy place goal) p = begun_erased scenario policy (new_run scenario.clients run client locality goal) p
happened_erased scenario (Turn run times) p = turn_erased scenario run times p
happened_erased scenario (Time ms) p = refl
happened_erased scenario (Presence on) p = refl
happened_erased scenario Reset p = refl

all_erased : (scenario : Scenario) (script : List ScriptEvent) (p : PerformanceState) → all_happened (erased_scenario scenario) script p ≡ all_happened scenario script p
unfolding all_happened
all_erased scenario [] p = refl
all_erased scenario (event ∷ rest) p =
    ap (all_happened (erased_scenario scenario) rest) (happened_erased scenario event p) ∙ all_erased scenario rest (happened scenario event p)

pub performed_erased : (staged : StagedScene) → performed (erased_staged staged) ≡ performed staged
unfolding performed
performed_erased staged = all_erased staged.scenario staged.script (start_of staged.setup)

pub answer_erased : (staged : StagedScene) → performance_answer (erased_staged staged) ≡ performance_answer staged
answer_erased staged = ap (λ (p : PerformanceState). record { lines = p.lines; verdict = Done }) (performed_erased staged)
