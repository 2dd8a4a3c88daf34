-- A command that a policy session opened is told: by the machine's laws, and by the line behind the command's.
use Rattle.std.proofs.Common.{◌≡◌, ◌≤◌, ◌∙◌, ap, refl, sym, subst, ℕ, Bool, true, false, List, [], ◌∷◌, ◌++◌, append_assoc, length, Option, Some, None, IfSome, IsSome}
use Rattle.std.proofs.lemmas.List.{append-nil}
use Rattle.std.specs.List.{AllByRecursion}
use Rattle.std.specs.Option.{option_and_then, option_map}
use Rattle.tpm_bindings.specs.Agreement.{Agree}
use Rattle.tpm_bindings.specs.Facts.{moves_of}
use Rattle.tpm_bindings.specs.State.{SessionState}
use Rattle.tpm_engine.proofs.Headline.{asked-of, authorizes, passes-broken, serves}
use Rattle.tpm_engine.proofs.Lookups.{live-view}
use Rattle.tpm_engine.proofs.Opening.{opened-pcrs, opened-policy}
use Rattle.tpm_engine.proofs.Stopping.{first-asked, found, judged}
use Rattle.tpm_engine.specs.declared.event.Event.{Event}
use Rattle.tpm_engine.specs.declared.opened.Opened.{Opened}
use Rattle.tpm_engine.specs.Answers.{first_stop, opened_by_reading, opened_of, opened_unless, opening_of as entity_opening, own_rule}
use Rattle.tpm_engine.specs.Authorization.{authorized_handle}
use Rattle.tpm_engine.specs.Events.{Answered, event_of}
use Rattle.tpm_engine.specs.Legal.{IsLegal, answer_to, opened_to}
use Rattle.tpm_engine.specs.Stops.{room_stop}
use Rattle.tpm_engine.specs.Uses.{AsksPolicySession, IsServed}
use Rattle.tpm_engine.specs.Views.{facts_of, next_number, pcrs_of, session_state, view_of}
use Rattle.tpm_rules.specs.Entity.{auth_policy_of}
use Rattle.tpm_session.specs.Slots.{state_at}
use Rattle.tpm_world.specs.Entities.{entity_at}
use Rattle.tpm_world.specs.World.{world_of}
use Rattle.tpol_base.specs.declared.digest.Digest32.{Digest32}
use Rattle.tpol_digest.specs.Digest.{digest_of_moves, policy_digest}
use Rattle.tpol_digest.specs.Paths.{paths_of}
use Rattle.tpol_digest.specs.Sound.{IsSound}
use Rattle.tpol_tree.specs.Facts.{moves_of as moves_of_facts}
use Rattle.tpol_cert.specs.Laws.{HasCertificate}
use Rattle.tpol_lines.specs.CertLine.{certificate_line}
use Rattle.tpol_lines.specs.Events.{command_line}
use Rattle.tpol_lines.specs.Lines.{line_of}
use Rattle.tpol_lines.specs.OpeningLine.{IsListed, opening_line}
use Rattle.tpol_lint.specs.Opened.{NamesNoDead}
use Rattle.tpol_name.specs.declared.setup.Setup.{Setup}
use Rattle.tpol_prepare.specs.declared.scenario.Scenario.{Scenario}
use Rattle.tpol_perform.specs.CommandsTold.{certificate_of_opening, command_told, opening_told, policy_opened, with_certificate, with_opening}
use Rattle.tpol_perform.specs.Explained.{IsCertifiedBehind, IsJudged, IsOpened, IsPrintedBehind, IsTold}
use Rattle.tpol_perform.specs.Performance.{PerformanceState, number_in}
use Rattle.tpol_perform.specs.Meeting.{MeetsPolicy}
use Rattle.tpol_prepare.specs.Manner.{certifies}
use Rattle.tpol_prepare.specs.Scenario.{HavePolicies, policy_of_entity}
use Rattle.tpol_perform.proofs.Chosen.{opening_listed}
use Rattle.tpol_perform.proofs.OpenedMeets.{opened_meets}
use Rattle.tpol_perform.proofs.PathPcrs.{HasDigests}
use Rattle.tpol_perform.proofs.PcrsAtUse.{pcrs-at-use, pcrs-length}
use Rattle.tpol_perform.proofs.AgreeingFacts.{facts-agree}
use Rattle.tpol_perform.proofs.SoundFacts.{facts-sound}
use Rattle.tpol_trace.proofs.Meaning.{opening_means}
use Rattle.tpol_trace.specs.declared.answer.Opening.{Opening}
use Rattle.tpol_trace.specs.declared.answer.Opening.TheVariants.{Branch, Clash, ZeroInput}
use Rattle.tpol_trace.specs.Openings.{opening_of}
use Rattle.tpol_tree.specs.declared.closed.Closed.{Closed}
use Rattle.tpol_tree.specs.declared.facts.Fact.{Fact}
use Rattle.tpol_tree.specs.declared.path.ApprovedDoc.{ApprovedDoc}
use Rattle.tpol_wire.specs.declared.command.Command.{Command}

-- ---- what is opened

-- facts that are sound and give the policy's digest open it, each PolicyPCR of its paths has the digest of its values,
-- facts that agree open it by no dead path, and each path has a certificate
pub record IsOpenable (approvals : List ApprovedDoc) (closed : Closed) : Type 0 where
  pub opens : (facts : List Fact) → IsSound (moves_of_facts facts) → digest_of_moves (moves_of_facts facts) ≡ policy_digest closed → IsSome (opening_of closed approvals facts)
  pub digests : AllByRecursion HasDigests (paths_of closed approvals)
  pub alive : (facts : List Fact) → Agree (moves_of facts) → IfSome (opening_of closed approvals facts) (NamesNoDead (paths_of closed approvals))
  pub certified : (position : ℕ) → 1 ≤ position → position ≤ length (paths_of closed approvals) → HasCertificate closed approvals position

abbrev pub AreOpenable : Scenario → Type 0
AreOpenable scenario = (handle : ℕ) → IfSome (policy_of_entity scenario.entities handle) (IsOpenable scenario.approvals)

-- what a command that is served through a session opens
module _ (setup : Setup) (past : List Event) (locality : ℕ) (buffer : List ℕ) (command : Command) (session : ℕ) where
  abbrev opened_with : List Fact → Opened
  opened_with facts = record { entity = authorized_handle command; facts = facts }

  abbrev opened_by : Opened
  opened_by = opened_with (facts_of setup past session)

  opens : AsksPolicySession setup past buffer command session → IsServed setup past locality command session
      → opened_to setup past locality buffer ≡ Some opened_by
  unfolding opened_of session_state
  opens asks served =
      let asked = asked-of setup past locality buffer command session asks in
      let room = room_stop (view_of setup past) command in
      let own = own_rule (view_of setup past) command in
      let none : first_stop (view_of setup past) locality command ≡ None =
      first-asked (view_of setup past) locality command session asked
      ∙ (ap (λ b. judged b room own) ((passes-broken setup past locality buffer command session asked).0 served.passes)
      ∙ (ap (λ r. judged None r own) served.room ∙ ap (λ o. judged None None o) served.rules)) in
      ap (λ read. opened_by_reading (view_of setup past) locality read) asks.reads
      ∙ (ap (λ first. opened_unless first (entity_opening (view_of setup past) command)) none
      ∙ (ap (option_map (λ (state : SessionState). opened_with state.facts))
      (ap (option_and_then (state_at (view_of setup past).sessions)) asks.authorizing ∙ asked.has_state)
      ∙ ap (λ (state : SessionState). Some (opened_with state.facts)) (live-view setup past session asked.state asked.has_state)))

-- ---- what is printed of it

pub behind_more : (first second : List ℕ) (lines more : List (List ℕ)) → IsPrintedBehind first second lines → IsPrintedBehind first second (lines ++ more)
behind_more first second lines more h = record {
  before = h.before;
  after = h.after ++ more;
  split =
      ap (λ (l : List (List ℕ)). l ++ more) h.split
      ∙ append_assoc h.before (line_of first ∷ line_of second ∷ h.after) more;
}

-- a certificate adds lines, if any
with_more : (certified : Bool) (event : ℕ) (bytes : Option (List ℕ)) (q : PerformanceState) → (more : List (List ℕ)) × ((with_certificate certified event bytes q).lines ≡ q.lines ++ more)
with_more false event bytes q = ([], sym (append-nil q.lines))
with_more true event None q = ([], sym (append-nil q.lines))
with_more true event (Some bytes) q = (line_of (certificate_line event bytes) ∷ [], refl)

module _ (scenario : Scenario) (p : PerformanceState) (client locality : ℕ) (buffer : List ℕ) (legal : IsLegal p.setup p.past) (policies : HavePolicies p.setup scenario.entities) (openable : AreOpenable scenario) (whole : length p.setup.pcrs ≡ 24) where
  abbrev answered : Answered
  answered = answer_to p.setup p.past locality buffer

  abbrev text : List ℕ
  text = command_line (next_number p.past) client locality buffer answered.reply answered.outcome

  -- behind the command's line
  abbrev told : PerformanceState
  told = command_told client locality buffer answered p

  -- and behind what is told of what it opened
  abbrev lines_with : Option Opened → List (List ℕ)
  lines_with opened = (opening_told true scenario (number_in p) opened told).lines

  module _ (command : Command) (session : ℕ) (asks : AsksPolicySession p.setup p.past buffer command session) where
    abbrev handle : ℕ
    handle = authorized_handle command

    abbrev facts : List Fact
    facts = facts_of p.setup p.past session

    abbrev opened : Opened
    opened = opened_by p.setup p.past locality buffer command session

    module _ (is : opened_to p.setup p.past locality buffer ≡ Some opened) where
      auth_policy : option_map auth_policy_of (entity_at (world_of p.setup) handle) ≡ Some (digest_of_moves (moves_of_facts facts)).bytes
      auth_policy = opened-policy p.setup p.past locality buffer opened is

      agree : Agree (moves_of facts)
      agree = facts-agree p.setup p.past legal session

      meets : MeetsPolicy scenario.entities opened
      meets = opened_meets p.setup scenario.entities opened policies (facts-sound p.setup p.past legal session) auth_policy

      abbrev line : Closed → Opening → List ℕ
      line closed value = opening_line (next_number p.past) (paths_of closed scenario.approvals) value

      abbrev opened_by_way : Closed → Option Opening → PerformanceState
      opened_by_way closed opening = with_opening (number_in p) (paths_of closed scenario.approvals) opening told

      -- with the line of the opening
      printed : (closed : Closed) (opening : Option Opening) (value : Opening) → opening ≡ Some value → IsPrintedBehind text (line closed value) (opened_by_way closed opening).lines
      printed closed opening value same = record {
        before = p.lines;
        after = [];
        split =
            ap (λ o. (opened_by_way closed o).lines) same
            ∙ append_assoc p.lines (line_of text ∷ []) (line_of (line closed value) ∷ []);
      }

      -- and with that of its certificate
      abbrev certified_lines : Bool → Closed → Option Opening → List (List ℕ)
      certified_lines certified closed opening =
          (with_certificate certified (number_in p) (certificate_of_opening closed scenario.approvals opening) (opened_by_way closed opening)).lines

      printed_still : (certified : Bool) (closed : Closed) (opening : Option Opening) (value : Opening) → opening ≡ Some value → IsPrintedBehind text (line closed value) (certified_lines certified closed opening)
      printed_still certified closed opening value same =
          let more = with_more certified (number_in p) (certificate_of_opening closed scenario.approvals opening) (opened_by_way closed opening) in
          subst (IsPrintedBehind text (line closed value)) (sym more.1)
          (behind_more text (line closed value) (opened_by_way closed opening).lines more.0 (printed closed opening value same))

      -- where it names a path
      behind_way : (closed : Closed) (value : Opening) → IsOpenable scenario.approvals closed → IsListed (paths_of closed scenario.approvals) value
          → IsCertifiedBehind (line closed value) (next_number p.past) closed scenario.approvals value (certified_lines true closed (Some value))
      behind_way closed (Branch position events) can listed =
          let has = can.certified position listed.0 listed.1 in
          let way = Branch position events in
          record {
            bytes = has.bytes;
            certifies = has.certifies;
            printed = record {
              before = told.lines;
              after = [];
              split =
                  ap (λ (bytes : Option (List ℕ)). (with_certificate true (number_in p) bytes (opened_by_way closed (Some way))).lines) has.spelled
                  ∙ append_assoc told.lines (line_of (line closed way) ∷ []) (line_of (certificate_line (next_number p.past) has.bytes) ∷ []);
            };
          }
      behind_way closed (Clash first second) can listed = tt
      behind_way closed (ZeroInput input) can listed = tt

      certified : (closed : Closed) (opening : Option Opening) (value : Opening) (tells : Bool) → opening ≡ Some value → tells ≡ true → IsOpenable scenario.approvals closed → IsListed (paths_of closed scenario.approvals) value
          → IsCertifiedBehind (line closed value) (next_number p.past) closed scenario.approvals value (certified_lines tells closed opening)
      certified closed opening value tells same is can listed =
          subst (λ b. IsCertifiedBehind (line closed value) (next_number p.past) closed scenario.approvals value (certified_lines b closed opening)) (sym is)
          (subst (λ o. IsCertifiedBehind (line closed value) (next_number p.past) closed scenario.approvals value (certified_lines true closed o)) (sym same) (behind_way closed value can listed))

      by_policy : (policy : Option Closed) → IfSome policy (λ closed. digest_of_moves (moves_of_facts facts) ≡ policy_digest closed) → IfSome policy (IsOpenable scenario.approvals)
          → IfSome policy (λ closed. IsOpened p.setup scenario p.past facts handle closed text (policy_opened scenario.manner scenario.approvals (number_in p) facts policy told).lines)
      unfolding policy_opened
      by_policy None digest can = tt
      by_policy (Some closed) digest can =
          let there = found (opening_of closed scenario.approvals facts) (can.opens facts meets.sound digest) in
          let means = opening_means closed scenario.approvals facts there.value there.is in
          record {
            policy = auth_policy ∙ ap (λ (d : Digest32). Some d.bytes) digest;
            digest = digest;
            opening = there.value;
            means = means;
            alive = subst (λ o. IfSome o (NamesNoDead (paths_of closed scenario.approvals))) there.is (can.alive facts agree);
            printed = printed_still (certifies scenario.manner) closed (opening_of closed scenario.approvals facts) there.value there.is;
            certified = λ tells.
                certified closed (opening_of closed scenario.approvals facts) there.value (certifies scenario.manner) there.is tells can
                (opening_listed closed scenario.approvals facts there.value means);
            of_pcrs = opened-pcrs p.setup p.past locality buffer opened is;
            pcrs = pcrs-at-use (pcrs_of p.setup p.past) (pcrs-length p.setup p.past whole) closed scenario.approvals facts there.value
                (opened-pcrs p.setup p.past locality buffer opened is) can.digests means;
          }

      is_opened : IfSome (policy_of_entity scenario.entities handle) (λ closed. IsOpened p.setup scenario p.past facts handle closed text (lines_with (Some opened)))
      is_opened = by_policy (policy_of_entity scenario.entities handle) meets.digest (openable handle)

    abbrev HasOpened : List (List ℕ) → Type 0
    HasOpened lines = IfSome (policy_of_entity scenario.entities handle) (λ closed. IsOpened p.setup scenario p.past facts handle closed text lines)

    is_judged : IsJudged p.setup scenario p.past locality command session answered.outcome text (lines_with (opened_to p.setup p.past locality buffer))
    is_judged = record {
      authorizes = authorizes p.setup p.past locality buffer command session asks;
      serves = serves p.setup p.past locality buffer command session asks;
      opens = λ served.
          let is = opens p.setup p.past locality buffer command session asks ((serves p.setup p.past locality buffer command session asks).0 served) in
          subst (λ o. HasOpened (lines_with o)) (sym is) (is_opened is);
    }

  pub command_is_told : IsTold p.setup scenario (lines_with (opened_to p.setup p.past locality buffer)) p.past (event_of client locality buffer answered)
  command_is_told command session asks = is_judged command session asks
