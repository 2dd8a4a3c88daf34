-- The lines of a scene tell each event of its journal.
use Rattle.std.proofs.Common.{◌≡◌, ◌∙◌, ap, refl, sym, subst, ℕ, zero, suc, ◌+◌, ◌-◌, Bool, true, false, List, [], ◌∷◌, ◌++◌, append_assoc, length, slice_get, Option, Some, None, IfSome}
use Rattle.std.specs.Prelude.{⊤}
use Rattle.std.proofs.lemmas.List.{append-nil}
use Rattle.tpm_engine.specs.declared.event.Event.{Event}
use Rattle.tpm_engine.specs.declared.event.Event.TheVariants as events
use Rattle.tpm_engine.specs.declared.opened.Opened.{Opened}
use Rattle.tpm_engine.specs.Events.{event_of}
use Rattle.tpm_engine.specs.Legal.{IsAnswered, IsLegal, answer_to, opened_to}
use Rattle.tpm_engine.specs.Authorization.{authorized_handle}
use Rattle.tpm_engine.specs.Sights.{sight_after}
use Rattle.tpm_engine.specs.Views.{facts_of, next_number}
use Rattle.tpm_rules.specs.declared.outcome.Outcome.{Outcome}
use Rattle.tpol_choose.specs.declared.block.Block.{Block}
use Rattle.tpol_choose.specs.Blocks.{chosen_path, first_block}
use Rattle.tpol_digest.specs.Paths.{paths_of}
use Rattle.tpol_driver.specs.declared.blind_end.BlindEnd.{BlindEnd}
use Rattle.tpol_driver.specs.declared.blind_end.BlindEnd.TheVariants as blind_ends
use Rattle.tpol_driver.specs.declared.blind_end.Tried.{Tried}
use Rattle.tpol_driver.specs.declared.blind_plan.BlindPlan.{BlindPlan}
use Rattle.tpol_driver.specs.declared.end.End.TheVariants as ends
use Rattle.tpol_driver.specs.declared.tickets.HeldTicket.{HeldTicket}
use Rattle.tpol_driver.specs.Blind.{first_complete, none_tried}
use Rattle.tpol_lines.specs.Lines.{line_of}
use Rattle.tpol_lines.specs.BlockLine.{block_line}
use Rattle.tpol_lines.specs.CertLine.{certificate_line}
use Rattle.tpol_lines.specs.Events.{command_line, presence_line, reset_line, time_line}
use Rattle.tpol_lines.specs.OpeningLine.{opening_line}
use Rattle.tpol_lines.specs.Runs.{blind_line, chosen_line, end_line, nobranch_line, over_line}
use Rattle.tpol_lines.specs.TriedLine.{tried_line}
use Rattle.tpol_name.specs.declared.setup.Setup.{Setup}
use Rattle.tpol_name.specs.declared.sight.Sight.{Sight}
use Rattle.tpol_runs.specs.declared.ended.Ended.{Ended}
use Rattle.tpol_runs.specs.declared.ended.Ended.TheVariants as ended
use Rattle.tpol_runs.specs.declared.sent.Sent.{Sent}
use Rattle.tpol_runs.specs.Courses.{begun, begun_blind, end_told, goes_on}
use Rattle.tpol_runs.specs.Runs.{with_run}
use Rattle.tpol_runs.specs.Underway.{Underway}
use Rattle.tpol_scene.specs.declared.script.ScriptEvent.{ScriptEvent}
use Rattle.tpol_scene.specs.declared.script.ScriptEvent.TheVariants.{Command, Begin, Turn, Time, Presence, Reset}
use Rattle.tpol_perform.specs.declared.new_run.NewRun.{NewRun}
use Rattle.tpol_prepare.specs.declared.manner.Way.{Way}
use Rattle.tpol_prepare.specs.declared.manner.Way.TheVariants.{Blind, Sighted, WithTickets}
use Rattle.tpol_prepare.specs.declared.scenario.Scenario.{Scenario}
use Rattle.tpol_prepare.specs.declared.scenario.StagedScene.{StagedScene}
use Rattle.tpol_perform.specs.Begin.{begun_along, begun_at, begun_by, begun_in_sight, begun_nowhere, begun_on, plan_along, run_begun, with_block, with_blocks}
use Rattle.tpol_perform.specs.Blind.{begun_blindly, begun_by_plan, begun_on_tries, blind_plan, with_blind_end, with_nobranch, with_path, with_tries}
use Rattle.tpol_perform.specs.NewRuns.{new_run, with_new_run}
use Rattle.tpol_perform.specs.CommandsTold.{certificate_of_opening, command_told, commanded, opening_told, policy_opened, with_certificate, with_opening}
use Rattle.tpol_perform.specs.Explained.{IsCertifiedBehind, IsExplained, IsJudged, IsOpened, IsTold}
use Rattle.tpol_perform.specs.Performance.{PerformanceState, number_in, start_of, with_event, with_line}
use Rattle.tpol_prepare.specs.Manner.{certifies, explains, way_of}
use Rattle.tpol_prepare.specs.Scenario.{HavePolicies, paths_named, policy_of_entity}
use Rattle.tpol_perform.specs.Script.{all_happened, happened, performed, turn_told}
use Rattle.tpol_perform.specs.Tickets.{tickets_given, with_kept}
use Rattle.tpol_perform.specs.Turns.{heard_now, most_turns, replied, sent, sent_now, turned, turned_and, turned_by, turned_on, turned_times, turned_to_end, turned_to_end_by, with_end}
use Rattle.tpol_perform.proofs.OpenedTold.{AreOpenable, behind_more, command_is_told}
use Rattle.tpol_trace.specs.declared.answer.Opening.{Opening}
use Rattle.tpol_trace.specs.declared.answer.Opening.TheVariants.{Branch, Clash, ZeroInput}
use Rattle.tpol_trace.specs.Openings.{opening_of}
use Rattle.tpol_tree.specs.declared.closed.Closed.{Closed}
use Rattle.tpol_tree.specs.declared.facts.Fact.{Fact}
use Rattle.tpol_tree.specs.declared.path.ApprovedDoc.{ApprovedDoc}
use Rattle.tpol_tree.specs.declared.path.Path.{Path}
use Rattle.tpol_tree.specs.declared.path.PathStep.{PathStep}
use Rattle.tpol_wire.specs.declared.command.Command.{Command as CommandOf}

-- ---- lines grow

certified_more : (text : List ℕ) (event : ℕ) (closed : Closed) (approvals : List ApprovedDoc) (opening : Opening) (lines more : List (List ℕ))
    → IsCertifiedBehind text event closed approvals opening lines → IsCertifiedBehind text event closed approvals opening (lines ++ more)
certified_more text event closed approvals (Branch position events) lines more h =
    record { bytes = h.bytes; certifies = h.certifies; printed = behind_more text (certificate_line event h.bytes) lines more h.printed }
certified_more text event closed approvals (Clash first second) lines more h = tt
certified_more text event closed approvals (ZeroInput input) lines more h = tt

opened_more : (setup : Setup) (scenario : Scenario) (past : List Event) (facts : List Fact) (handle : ℕ) (policy : Option Closed) (text : List ℕ) (lines more : List (List ℕ))
    → IfSome policy (λ closed. IsOpened setup scenario past facts handle closed text lines)
    → IfSome policy (λ closed. IsOpened setup scenario past facts handle closed text (lines ++ more))
opened_more setup scenario past facts handle None text lines more h = tt
opened_more setup scenario past facts handle (Some closed) text lines more h = record {
  policy = h.policy;
  digest = h.digest;
  opening = h.opening;
  means = h.means;
  alive = h.alive;
  printed = behind_more text (opening_line (next_number past) (paths_of closed scenario.approvals) h.opening) lines more h.printed;
  certified = λ tells.
      certified_more (opening_line (next_number past) (paths_of closed scenario.approvals) h.opening) (next_number past) closed scenario.approvals h.opening lines more (h.certified tells);
  of_pcrs = h.of_pcrs;
  pcrs = h.pcrs;
}

judged_more : (setup : Setup) (scenario : Scenario) (past : List Event) (locality : ℕ) (command : CommandOf) (session : ℕ) (outcome : Outcome) (text : List ℕ) (lines more : List (List ℕ))
    → IsJudged setup scenario past locality command session outcome text lines → IsJudged setup scenario past locality command session outcome text (lines ++ more)
judged_more setup scenario past locality command session outcome text lines more h = record {
  authorizes = h.authorizes;
  serves = h.serves;
  opens = λ served. opened_more setup scenario past (facts_of setup past session) (authorized_handle command) (policy_of_entity scenario.entities (authorized_handle command)) text lines more (h.opens served);
}

told_more : (setup : Setup) (scenario : Scenario) (past : List Event) (event : Event) (lines more : List (List ℕ))
    → IsTold setup scenario lines past event → IsTold setup scenario (lines ++ more) past event
told_more setup scenario past (events.Command client locality buffer reply outcome) lines more h =
    λ command session asks. judged_more setup scenario past locality command session outcome (command_line (next_number past) client locality buffer reply outcome) lines more (h command session asks)
told_more setup scenario past (events.Time ms) lines more h = tt
told_more setup scenario past (events.Presence on) lines more h = tt
told_more setup scenario past events.Reset lines more h = tt

-- each event of a journal is told
AreTold : Setup → Scenario → List (List ℕ) → List Event → Type 0
AreTold setup scenario lines [] = ⊤
AreTold setup scenario lines (event ∷ past) = IsTold setup scenario lines past event × AreTold setup scenario lines past

all_more : (setup : Setup) (scenario : Scenario) (past : List Event) (lines more : List (List ℕ))
    → AreTold setup scenario lines past → AreTold setup scenario (lines ++ more) past
unfolding AreTold
all_more setup scenario [] lines more h = tt
all_more setup scenario (event ∷ past) lines more h =
    (told_more setup scenario past event lines more h.0, all_more setup scenario past lines more h.1)

-- each of them, wherever the journal is parted
told_at : (setup : Setup) (scenario : Scenario) (lines : List (List ℕ)) (later earlier : List Event) (event : Event)
    → AreTold setup scenario lines (later ++ event ∷ earlier) → IsTold setup scenario lines earlier event
unfolding AreTold
told_at setup scenario lines [] earlier event h = h.0
told_at setup scenario lines (first ∷ later) earlier event h = told_at setup scenario lines later earlier event h.1

-- ---- how far a scene was carried out

-- from this setup, by a legal journal, each event of which is told
record IsToldSoFar (setup : Setup) (scenario : Scenario) (p : PerformanceState) : Type 0 where
  starts : p.setup ≡ setup
  legal : IsLegal p.setup p.past
  each : AreTold p.setup scenario p.lines p.past

-- more lines than these, of the same journal
record IsFurther (p q : PerformanceState) : Type 0 where
  setup_same : q.setup ≡ p.setup
  past_same : q.past ≡ p.past
  more : List (List ℕ)
  grown : q.lines ≡ p.lines ++ more

module _ (setup : Setup) (scenario : Scenario) (tells : explains scenario.manner ≡ true) (policies : HavePolicies setup scenario.entities) (openable : AreOpenable scenario) (whole : length setup.pcrs ≡ 24) where
  abbrev Told : PerformanceState → Type 0
  Told p = IsToldSoFar setup scenario p

  at_start : Told (start_of setup)
  unfolding IsLegal AreTold
  at_start = record { starts = refl; legal = tt; each = tt }

  -- ---- lines

  with_text : (line : List ℕ) (p : PerformanceState) → Told p → Told (with_line line p)
  with_text line p h = record {
    starts = h.starts;
    legal = h.legal;
    each = all_more p.setup scenario p.past p.lines (line_of line ∷ []) h.each;
  }

  -- ---- events

  abbrev IsQuiet : Event → Type 0
  IsQuiet event = (past : List Event) (lines : List (List ℕ)) (s : Setup) → IsAnswered s past event × IsTold s scenario lines past event

  surroundings : (event : Event) (line : List ℕ) (p : PerformanceState) → IsQuiet event → Told p → Told (with_line line (with_event event p))
  unfolding IsLegal AreTold
  surroundings event line p quiet h = record {
    starts = h.starts;
    legal = ((quiet p.past [] p.setup).0, h.legal);
    each = ((quiet p.past (p.lines ++ line_of line ∷ []) p.setup).1, all_more p.setup scenario p.past p.lines (line_of line ∷ []) h.each);
  }

  no_further : (p : PerformanceState) → IsFurther p p
  no_further p = record { setup_same = refl; past_same = refl; more = []; grown = sym (append-nil p.lines) }

  line_further : (line : List ℕ) (p : PerformanceState) → IsFurther p (with_line line p)
  line_further line p = record { setup_same = refl; past_same = refl; more = line_of line ∷ []; grown = refl }

  further_then : (p q r : PerformanceState) → IsFurther p q → IsFurther q r → IsFurther p r
  further_then p q r h k = record {
    setup_same = k.setup_same ∙ h.setup_same;
    past_same = k.past_same ∙ h.past_same;
    more = h.more ++ k.more;
    grown = k.grown ∙ ap (λ (l : List (List ℕ)). l ++ k.more) h.grown ∙ append_assoc p.lines h.more k.more;
  }

  opening_further : (event : ℕ) (paths : List Path) (opening : Option Opening) (p : PerformanceState) → IsFurther p (with_opening event paths opening p)
  opening_further event paths None p = no_further p
  opening_further event paths (Some opening) p = line_further (opening_line event paths opening) p

  certificate_further : (certified : Bool) (event : ℕ) (bytes : Option (List ℕ)) (p : PerformanceState) → IsFurther p (with_certificate certified event bytes p)
  certificate_further false event bytes p = no_further p
  certificate_further true event None p = no_further p
  certificate_further true event (Some bytes) p = line_further (certificate_line event bytes) p

  policy_further : (event : ℕ) (facts : List Fact) (policy : Option Closed) (p : PerformanceState) → IsFurther p (policy_opened scenario.manner scenario.approvals event facts policy p)
  unfolding policy_opened
  policy_further event facts None p = no_further p
  policy_further event facts (Some closed) p =
      let opening = opening_of closed scenario.approvals facts in
      let q = with_opening event (paths_of closed scenario.approvals) opening p in
      let bytes = certificate_of_opening closed scenario.approvals opening in
      further_then p q (with_certificate (certifies scenario.manner) event bytes q)
      (opening_further event (paths_of closed scenario.approvals) opening p) (certificate_further (certifies scenario.manner) event bytes q)

  told_further : (event : ℕ) (opened : Option Opened) (p : PerformanceState) → IsFurther p (opening_told true scenario event opened p)
  told_further event None p = no_further p
  told_further event (Some opened) p = policy_further event opened.facts (policy_of_entity scenario.entities opened.entity) p

  command_told_so : (client locality : ℕ) (buffer : List ℕ) (p : PerformanceState) → Told p → Told (commanded scenario client locality buffer p)
  unfolding commanded IsLegal AreTold
  command_told_so client locality buffer p h =
      let answered = answer_to p.setup p.past locality buffer in
      let now = command_told client locality buffer answered p in
      let opened = opened_to p.setup p.past locality buffer in
      let q = opening_told true scenario (number_in p) opened now in
      let further : IsFurther now q = told_further (number_in p) opened now in
      let has : HavePolicies p.setup scenario.entities = subst (λ (s : Setup). HavePolicies s scenario.entities) (sym h.starts) policies in
      let event : IsTold p.setup scenario q.lines p.past (event_of client locality buffer answered) =
      command_is_told scenario p client locality buffer h.legal has openable (subst (λ (s : Setup). length s.pcrs ≡ 24) (sym h.starts) whole) in
      let before : AreTold p.setup scenario q.lines p.past =
      subst (λ (l : List (List ℕ)). AreTold p.setup scenario l p.past) (sym further.grown)
      (all_more p.setup scenario p.past now.lines further.more (all_more p.setup scenario p.past p.lines (line_of (command_line (number_in p) client locality buffer answered.reply answered.outcome) ∷ []) h.each)) in
      subst (λ b. Told (opening_told b scenario (number_in p) opened now)) (sym tells)
      (record {
        starts = further.setup_same ∙ h.starts;
        legal = legal_as p.setup (event_of client locality buffer answered ∷ p.past) q further.setup_same further.past_same (refl, h.legal);
        each = each_as p.setup (event_of client locality buffer answered ∷ p.past) q further.setup_same further.past_same (event, before);
      })
    where
      legal_as : (s : Setup) (past : List Event) (q : PerformanceState) → q.setup ≡ s → q.past ≡ past → IsLegal s past → IsLegal q.setup q.past
      legal_as s past q same there legal =
          subst (λ (x : Setup). IsLegal x q.past) (sym same) (subst (IsLegal s) (sym there) legal)

      each_as : (s : Setup) (past : List Event) (q : PerformanceState) → q.setup ≡ s → q.past ≡ past → AreTold s scenario q.lines past → AreTold q.setup scenario q.lines q.past
      each_as s past q same there each =
          subst (λ (x : Setup). AreTold x scenario q.lines q.past) (sym same) (subst (AreTold s scenario q.lines) (sym there) each)

  -- ---- turns

  -- what became of paths
  tries_so : (position : ℕ) (paths : List Path) (tries : List Tried) (p : PerformanceState) → Told p → Told (with_tries position paths tries p)
  unfolding with_tries
  tries_so position [] tries p h = h
  tries_so position (path ∷ paths) [] p h = h
  tries_so position (path ∷ paths) (tried ∷ tries) p h =
      tries_so (position + 1) paths tries (with_line (tried_line position path.steps tried) p) (with_text (tried_line position path.steps tried) p h)

  nobranch_so : (run : ℕ) (paths : List Path) (tries : List Tried) (p : PerformanceState) → Told p → Told (with_nobranch run paths tries p)
  nobranch_so run paths tries p h = tries_so 1 paths tries (with_line (nobranch_line run) p) (with_text (nobranch_line run) p h)

  path_so : (run position : ℕ) (path : Option Path) (p : PerformanceState) → Told p → Told (with_path run position path p)
  path_so run position None p h = h
  path_so run position (Some path) p h = with_text (chosen_line run position path.steps) p h

  blind_end_so : (run : ℕ) (paths : List Path) (end : BlindEnd) (p : PerformanceState) → Told p → Told (with_blind_end run paths end p)
  unfolding with_blind_end
  blind_end_so run paths (blind_ends.Served position bytes) p h =
      let path = slice_get paths (position - 1) in
      with_text (end_line run (ends.Served bytes)) (with_path run position path p) (path_so run position path p h)
  blind_end_so run paths (blind_ends.NoBranch tries) p h = nobranch_so run paths tries p h
  blind_end_so run paths (blind_ends.Denied at rc) p h = with_text (end_line run (ends.Denied at rc)) p h
  blind_end_so run paths (blind_ends.BadReply at) p h = with_text (end_line run (ends.BadReply at)) p h

  with_end_so : (client run : ℕ) (end : Option Ended) (p : PerformanceState) → Told p → Told (with_end scenario client run end p)
  with_end_so client run None p h = h
  with_end_so client run (Some (ended.Sighted end earned)) p h =
      with_text (end_line run end) (with_kept scenario.directory client earned p) (record { starts = h.starts; legal = h.legal; each = h.each })
  with_end_so client run (Some (ended.Blind policy end)) p h = blind_end_so run (paths_named scenario policy) end p h

  replied_so : (client run : ℕ) (reply : List ℕ) (p : PerformanceState) → Told p → Told (replied scenario client run reply p)
  unfolding replied
  replied_so client run reply p h =
      with_end_so client run (end_told (heard_now run reply p)) (record p { runs = with_run p.runs run (goes_on (heard_now run reply p)) })
      (record { starts = h.starts; legal = h.legal; each = h.each })

  sent_so : (run : ℕ) (command : Sent) (p : PerformanceState) → Told p → Told (sent scenario run command p)
  unfolding sent
  sent_so run command p h =
      replied_so command.client run (answer_to p.setup p.past command.locality command.buffer).reply (commanded scenario command.client command.locality command.buffer p)
      (command_told_so command.client command.locality command.buffer p h)

  turned_by_so : (run : ℕ) (next : Option Sent) (p : PerformanceState) → Told p → Told (turned_by scenario run next p)
  turned_by_so run None p h = with_text (over_line run) p h
  turned_by_so run (Some command) p h = sent_so run command p h

  turned_so : (run : ℕ) (p : PerformanceState) → Told p → Told (turned scenario run p)
  unfolding turned
  turned_so run p h = turned_by_so run (sent_now run p) p h

  times_so : (run n : ℕ) (p : PerformanceState) → Told p → Told (turned_times scenario run n p)
  unfolding turned_times
  times_so run zero p h = h
  times_so run (suc n) p h = times_so run n (turned scenario run p) (turned_so run p h)

  and_so : (rest : PerformanceState → PerformanceState) → ((q : PerformanceState) → Told q → Told (rest q)) → (run : ℕ) (next : Option Sent) (p : PerformanceState) → Told p → Told (turned_and rest scenario run next p)
  and_so rest later run None p h = h
  and_so rest later run (Some command) p h = later (sent scenario run command p) (sent_so run command p h)

  on_so : (run n : ℕ) (p : PerformanceState) → Told p → Told (turned_on scenario run n p)
  unfolding turned_on
  on_so run zero p h = h
  on_so run (suc n) p h = and_so (turned_on scenario run n) (on_so run n) run (sent_now run p) p h

  to_end_so : (run : ℕ) (next : Option Sent) (p : PerformanceState) → Told p → Told (turned_to_end_by scenario run next p)
  to_end_so run None p h = with_text (over_line run) p h
  to_end_so run (Some command) p h = on_so run most_turns (sent scenario run command p) (sent_so run command p h)

  turn_so : (run : ℕ) (times : Option ℕ) (p : PerformanceState) → Told p → Told (turn_told scenario run times p)
  unfolding turned_to_end
  turn_so run None p h = to_end_so run (sent_now run p) p h
  turn_so run (Some times) p h = times_so run times p h

  -- ---- runs that begin

  along_so : (tickets : List HeldTicket) (position : ℕ) (run : NewRun) (path : Option Path) (p : PerformanceState) → Told p → Told (begun_along scenario tickets position run path p)
  along_so tickets position run None p h = h
  along_so tickets position run (Some path) p h =
      with_text (chosen_line run.number position path.steps) (with_new_run run.number (Some (begun run.client run.locality (plan_along scenario tickets path run))) p) (record { starts = h.starts; legal = h.legal; each = h.each })

  block_so : (position : ℕ) (steps : List PathStep) (block : Option Block) (p : PerformanceState) → Told p → Told (with_block position steps block p)
  block_so position steps None p h = h
  block_so position steps (Some block) p h = with_text (block_line position steps block) p h

  blocks_so : (sight : Sight) (run : NewRun) (position : ℕ) (paths : List Path) (p : PerformanceState) → Told p → Told (with_blocks sight run position paths p)
  unfolding with_blocks
  blocks_so sight run position [] p h = h
  blocks_so sight run position (path ∷ rest) p h =
      blocks_so sight run (position + 1) rest
      (with_block position path.steps (first_block path sight run.grants run.goal run.locality) p)
      (block_so position path.steps (first_block path sight run.grants run.goal run.locality) p h)

  nowhere_so : (sight : Sight) (run : NewRun) (paths : List Path) (p : PerformanceState) → Told p → Told (begun_nowhere sight run paths p)
  unfolding begun_nowhere
  nowhere_so sight run paths p h =
      blocks_so sight run 1 paths (with_line (nobranch_line run.number) (with_new_run run.number None p))
      (with_text (nobranch_line run.number) (with_new_run run.number None p) (record { starts = h.starts; legal = h.legal; each = h.each }))

  at_so : (sight : Sight) (paths : List Path) (run : NewRun) (chosen : Option ℕ) (p : PerformanceState) → Told p → Told (begun_at scenario sight paths run chosen p)
  at_so sight paths run None p h = nowhere_so sight run paths p h
  at_so sight paths run (Some position) p h =
      along_so (tickets_given (way_of scenario.manner) run.client sight p.kept) position run (slice_get paths (position - 1)) p h

  sighted_so : (policy : List ℕ) (run : NewRun) (p : PerformanceState) → Told p → Told (begun_in_sight scenario policy run p)
  unfolding begun_in_sight begun_on
  sighted_so policy run p h =
      let sight = sight_after p.setup p.past in
      let paths = paths_named scenario policy in
      at_so sight paths run (chosen_path paths sight run.grants run.goal run.locality) p h

  on_tries_so : (number : ℕ) (run : Underway) (plan : BlindPlan) (first : Option ℕ) (p : PerformanceState) → Told p → Told (begun_on_tries number run plan first p)
  on_tries_so number run plan None p h =
      nobranch_so number plan.paths (none_tried plan) (with_new_run number None p) (record { starts = h.starts; legal = h.legal; each = h.each })
  on_tries_so number run plan (Some position) p h = record { starts = h.starts; legal = h.legal; each = h.each }

  by_plan_so : (policy : List ℕ) (run : NewRun) (plan : BlindPlan) (p : PerformanceState) → Told p → Told (begun_by_plan policy run plan p)
  by_plan_so policy run plan p h =
      on_tries_so run.number (begun_blind run.client run.locality policy plan) plan (first_complete plan) (with_line (blind_line run.number) p)
      (with_text (blind_line run.number) p h)

  blindly_so : (policy : List ℕ) (run : NewRun) (p : PerformanceState) → Told p → Told (begun_blindly scenario policy run p)
  unfolding begun_blindly
  blindly_so policy run p h = by_plan_so policy run (blind_plan scenario (paths_named scenario policy) run) p h

  by_so : (way : Way) (policy : List ℕ) (run : NewRun) (p : PerformanceState) → Told p → Told (begun_by way scenario policy run p)
  by_so Sighted policy run p h = sighted_so policy run p h
  by_so Blind policy run p h = blindly_so policy run p h
  by_so WithTickets policy run p h = sighted_so policy run p h

  begun_so : (policy : List ℕ) (run : NewRun) (p : PerformanceState) → Told p → Told (run_begun scenario policy run p)
  unfolding run_begun
  begun_so policy run p h = by_so (way_of scenario.manner) policy run p h

  -- ---- the script

  happened_so : (event : ScriptEvent) (p : PerformanceState) → Told p → Told (happened scenario event p)
  happened_so (Command client locality buffer) p h = command_told_so client locality buffer p h
  happened_so (Begin run client locality policy place goal) p h = begun_so policy (new_run scenario.clients run client locality goal) p h
  happened_so (Turn run times) p h = turn_so run times p h
  happened_so (Time ms) p h = surroundings (events.Time ms) (time_line (number_in p) ms) p (λ past lines s. (tt, tt)) h
  happened_so (Presence on) p h = surroundings (events.Presence on) (presence_line (number_in p) on) p (λ past lines s. (tt, tt)) h
  happened_so Reset p h = surroundings events.Reset (reset_line (number_in p)) p (λ past lines s. (tt, tt)) h

  all_so : (script : List ScriptEvent) (p : PerformanceState) → Told p → Told (all_happened scenario script p)
  unfolding all_happened
  all_so [] p h = h
  all_so (event ∷ rest) p h = all_so rest (happened scenario event p) (happened_so event p h)

  all_told : (script : List ScriptEvent) → IsToldSoFar setup scenario (all_happened scenario script (start_of setup))
  all_told script = all_so script (start_of setup) at_start

-- a scene that is carried out is explained by its lines
pub performed_explains : (staged : StagedScene) → explains staged.scenario.manner ≡ true → HavePolicies staged.setup staged.scenario.entities → AreOpenable staged.scenario
    → length staged.setup.pcrs ≡ 24 → IsExplained staged (performed staged).lines
unfolding performed
performed_explains staged tells policies openable whole =
    let end = all_happened staged.scenario staged.script (start_of staged.setup) in
    let told : IsToldSoFar staged.setup staged.scenario end = all_told staged.setup staged.scenario tells policies openable whole staged.script in
    let each : AreTold staged.setup staged.scenario end.lines end.past = subst (λ (s : Setup). AreTold s staged.scenario end.lines end.past) told.starts told.each in
    record {
      legal = subst (λ (s : Setup). IsLegal s end.past) told.starts told.legal;
      each = λ later earlier event parted. told_at staged.setup staged.scenario end.lines later earlier event
          (subst (AreTold staged.setup staged.scenario end.lines) parted each);
    }
