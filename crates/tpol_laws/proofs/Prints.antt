-- What the events of a script print, and that they leave a run of another number as it is.
use Rattle.std.proofs.Common.{◌≡◌, ℕ, zero, suc, ◌+◌, ◌-◌, ◌<◌, ◌^◌, Bool, true, false, cond, List, [], ◌∷◌, ◌++◌, All, Option, Some, None, nat_eq, refl, ap, sym, subst, ◌∙◌, append_assoc, slice_get}
use Rattle.std.specs.Prelude.{⊤, Contains, find}
use Rattle.std.specs.List.{AllByRecursion}
use Rattle.std.proofs.lemmas.Bool.{eq-eqb, eqb-true}
use Rattle.std.proofs.lemmas.List.{append-nil}
use Rattle.std.proofs.lemmas.List.Elements.{All-append, All-cons, All-nil, Contains-append_left, Contains-push}
use Rattle.tpol_driver.specs.declared.blind_end.BlindEnd.{BlindEnd}
use Rattle.tpol_driver.specs.declared.blind_end.BlindEnd.TheVariants as blind_ends
use Rattle.tpol_driver.specs.declared.blind_end.Tried.{Tried}
use Rattle.tpol_driver.specs.declared.blind_plan.BlindPlan.{BlindPlan}
use Rattle.tpol_driver.specs.declared.end.End.{End}
use Rattle.tpol_driver.specs.declared.end.End.TheVariants as ends
use Rattle.tpol_driver.specs.Blind.{first_complete, none_tried}
use Rattle.tpol_driver.specs.declared.tickets.HeldTicket.{HeldTicket}
use Rattle.tpol_lines.specs.BlockLine.{block_line}
use Rattle.tpol_lines.specs.CertLine.{certificate_line}
use Rattle.tpol_lines.specs.Events.{command_line, presence_line, reset_line, time_line}
use Rattle.tpol_lines.specs.Lines.{line_of}
use Rattle.tpol_lines.specs.OpeningLine.{opening_line}
use Rattle.tpol_lines.specs.Runs.{blind_line, chosen_line, end_line, nobranch_line, over_line}
use Rattle.tpol_lines.specs.TriedLine.{tried_line}
use Rattle.tpol_runs.specs.declared.ended.Ended.{Ended}
use Rattle.tpol_runs.specs.declared.ended.Ended.TheVariants as ended
use Rattle.tpol_runs.specs.declared.numbered.Numbered.{Numbered}
use Rattle.tpol_runs.specs.declared.sent.Sent.{Sent}
use Rattle.tpol_runs.specs.Courses.{end_told, goes_on}
use Rattle.tpol_runs.specs.Runs.{has_number, run_at, run_in, with_run}
use Rattle.tpol_runs.specs.Underway.{Underway}
use Rattle.tpol_choose.specs.declared.block.Block.{Block}
use Rattle.tpol_choose.specs.Blocks.{chosen_path, first_block}
use Rattle.tpol_digest.specs.Paths.{paths_of}
use Rattle.tpol_name.specs.declared.sight.Sight.{Sight}
use Rattle.tpol_perform.specs.declared.new_run.NewRun.{NewRun}
use Rattle.tpol_perform.specs.Begin.{begun_along, begun_at, begun_by, begun_in_sight, begun_nowhere, begun_on, plan_along, run_begun, with_block, with_blocks}
use Rattle.tpol_perform.specs.Blind.{begun_blindly, begun_by_plan, begun_on_tries, blind_plan, with_blind_end, with_nobranch, with_path, with_tries}
use Rattle.tpol_perform.specs.CommandsTold.{certificate_of_opening, command_told, commanded, entity_opened, opening_told, policy_opened, with_certificate, with_opening}
use Rattle.tpol_perform.specs.NewRuns.{new_run, with_new_run}
use Rattle.tpol_perform.specs.Performance.{PerformanceState, number_in, with_event, with_line}
use Rattle.tpol_perform.specs.Script.{all_happened, happened, turn_told}
use Rattle.tpol_perform.specs.Turns.{most_turns, sent, sent_now, replied, turned, turned_and, turned_by, turned_on, turned_times, turned_to_end, turned_to_end_by, with_end, heard_now}
use Rattle.tpol_perform.specs.declared.tickets.Kept.{Kept}
use Rattle.tpol_perform.specs.Tickets.{tickets_given, with_kept}
use Rattle.tpol_prepare.specs.declared.manner.Way.{Way}
use Rattle.tpol_prepare.specs.declared.manner.Way.TheVariants as ways
use Rattle.tpol_prepare.specs.declared.scenario.Scenario.{Scenario}
use Rattle.tpol_prepare.specs.Manner.{certifies, explains, way_of}
use Rattle.tpol_prepare.specs.Scenario.{paths_named, policy_of_entity}
use Rattle.tpol_runs.specs.Courses.{begun, begun_blind, next_of}
use Rattle.tpol_scene.specs.declared.script.ScriptEvent.{ScriptEvent}
use Rattle.tpol_scene.specs.declared.script.ScriptEvent.TheVariants.{Command, Begin, Turn, Time, Presence, Reset}
use Rattle.tpol_trace.specs.declared.answer.Opening.{Opening}
use Rattle.tpol_trace.specs.Openings.{opening_of}
use Rattle.tpol_tree.specs.declared.closed.Closed.{Closed}
use Rattle.tpol_tree.specs.declared.facts.Fact.{Fact}
use Rattle.tpol_tree.specs.declared.path.Path.{Path}
use Rattle.tpol_tree.specs.declared.path.PathStep.{PathStep}
use Rattle.tpm_engine.specs.declared.event.Event.{Event}
use Rattle.tpm_engine.specs.declared.event.Event.TheVariants as events
use Rattle.tpm_engine.specs.declared.opened.Opened.{Opened}
use Rattle.tpm_engine.specs.Events.{event_of}
use Rattle.tpm_engine.specs.Legal.{answer_to, opened_to}
use Rattle.tpm_engine.specs.Sights.{sight_after}
use Rattle.tpm_rules.specs.declared.outcome.Outcome.{Outcome}

-- from p to q: the setup, the run of this number and the lines stay, and these lines are added
pub record Spares (P : List ℕ → Type 0) (number : ℕ) (p q : PerformanceState) : Type 0 where
  pub setup : q.setup ≡ p.setup
  pub found : find (has_number number) q.runs ≡ find (has_number number) p.runs
  pub added : List (List ℕ)
  pub lines : q.lines ≡ p.lines ++ added
  pub each : All P added

module _ (P : List ℕ → Type 0) (number : ℕ) where
  pub spares-none : (p : PerformanceState) → Spares P number p p
  spares-none p = record { setup = refl; found = refl; added = []; lines = sym (append-nil p.lines); each = All-nil P }

  pub spares-then : (p q r : PerformanceState) → Spares P number p q → Spares P number q r → Spares P number p r
  spares-then p q r one other = record {
    setup = other.setup ∙ one.setup;
    found = other.found ∙ one.found;
    added = one.added ++ other.added;
    lines = other.lines ∙ ap (λ l. l ++ other.added) one.lines ∙ append_assoc p.lines one.added other.added;
    each = All-append P one.added other.added one.each other.each;
  }

  pub spares-line : (p : PerformanceState) (text : List ℕ) → P (line_of text) → Spares P number p (with_line text p)
  spares-line p text is = record { setup = refl; found = refl; added = line_of text ∷ []; lines = refl; each = All-cons P (line_of text) [] is (All-nil P) }

  pub spares-event : (p : PerformanceState) (event : Event) (text : List ℕ) → P (line_of text) → Spares P number p (with_line text (with_event event p))
  spares-event p event text is = record { setup = refl; found = refl; added = line_of text ∷ []; lines = refl; each = All-cons P (line_of text) [] is (All-nil P) }

  -- tickets are kept
  pub spares-kept : (p : PerformanceState) (kept : List Kept) → Spares P number p (record p { kept = kept })
  spares-kept p kept = record { setup = refl; found = refl; added = []; lines = sym (append-nil p.lines); each = All-nil P }

-- ---- events by the run that they name

abbrev pub IsOther : ℕ → ScriptEvent → Type 0
IsOther number (Begin run client locality policy place goal) = (nat_eq run number ≡ false) × (run < 2 ^ 16)
IsOther number (Turn run times) = (nat_eq run number ≡ false) × (run < 2 ^ 16)
IsOther number event = ⊤

-- behind the begin of this run others begin, and any run may have its turns
abbrev pub IsBehind : ℕ → ScriptEvent → Type 0
IsBehind number (Begin run client locality policy place goal) = (nat_eq run number ≡ false) × (run < 2 ^ 16)
IsBehind number (Turn run times) = run < 2 ^ 16
IsBehind number event = ⊤

-- ---- the run of a number among the runs

elsewhere-first : (b : Bool) (number other : ℕ) (entry : Numbered) (rest after : List Numbered) (run : Option Underway) → nat_eq other number ≡ false → b ≡ has_number other entry
    → find (has_number number) after ≡ find (has_number number) rest
    → find (has_number number) (cond b (record { number = entry.number; run = run } ∷ rest) (entry ∷ after)) ≡ find (has_number number) (entry ∷ rest)
elsewhere-first true number other entry rest after run apart is later =
    let same : entry.number ≡ other = eqb-true entry.number other (sym is) in
    let here : nat_eq entry.number number ≡ false = ap (λ n. nat_eq n number) same ∙ apart in
    ap (λ b. cond b (Some (record { number = entry.number; run = run })) (find (has_number number) rest)) here
    ∙ sym (ap (λ b. cond b (Some entry) (find (has_number number) rest)) here)
elsewhere-first false number other entry rest after run apart is later =
    ap (λ f. cond (has_number number entry) (Some entry) f) later

pub found-elsewhere : (runs : List Numbered) (number other : ℕ) (run : Option Underway) → nat_eq other number ≡ false
    → find (has_number number) (with_run runs other run) ≡ find (has_number number) runs
found-elsewhere [] number other run apart = refl
found-elsewhere (entry ∷ rest) number other run apart =
    elsewhere-first (has_number other entry) number other entry rest (with_run rest other run) run apart refl (found-elsewhere rest number other run apart)

there-first : (b : Bool) (number : ℕ) (entry : Numbered) (rest after : List Numbered) (old new : Option Underway) → b ≡ has_number number entry
    → cond b (Some entry) (find (has_number number) rest) ≡ Some (record { number = number; run = old })
    → (find (has_number number) rest ≡ Some (record { number = number; run = old }) → find (has_number number) after ≡ Some (record { number = number; run = new }))
    → find (has_number number) (cond b (record { number = entry.number; run = new } ∷ rest) (entry ∷ after)) ≡ Some (record { number = number; run = new })
there-first true number entry rest after old new is at later =
    let same : entry.number ≡ number = eqb-true entry.number number (sym is) in
    ap (λ b. cond b (Some (record { number = entry.number; run = new })) (find (has_number number) rest)) (sym is)
    ∙ ap (λ n. Some (record { number = n; run = new })) same
there-first false number entry rest after old new is at later =
    ap (λ b. cond b (Some entry) (find (has_number number) after)) (sym is) ∙ later at

pub found-there : (runs : List Numbered) (number : ℕ) (old new : Option Underway) → find (has_number number) runs ≡ Some (record { number = number; run = old })
    → find (has_number number) (with_run runs number new) ≡ Some (record { number = number; run = new })
found-there [] number old new at = absurd cc
found-there (entry ∷ rest) number old new at =
    there-first (has_number number entry) number entry rest (with_run rest number new) old new refl at (found-there rest number old new)

-- a run that begins with another number
pub found-beside : (runs : List Numbered) (number other : ℕ) (run : Option Underway) → nat_eq other number ≡ false
    → find (has_number number) (runs ++ record { number = other; run = run } ∷ []) ≡ find (has_number number) runs
found-beside [] number other run apart = ap (λ b. cond b (Some (record { number = other; run = run })) None) apart
found-beside (entry ∷ rest) number other run apart = ap (λ f. cond (has_number number entry) (Some entry) f) (found-beside rest number other run apart)

-- a run that begins with this number
begun-first : (b : Bool) (entry : Numbered) (found then : Option Numbered) (begun : Numbered) → cond b (Some entry) found ≡ None → (found ≡ None → then ≡ Some begun) → cond b (Some entry) then ≡ Some begun
begun-first true entry found then begun none later = absurd cc
begun-first false entry found then begun none later = later none

pub found-begun : (runs : List Numbered) (number : ℕ) (run : Option Underway) → find (has_number number) runs ≡ None
    → find (has_number number) (runs ++ record { number = number; run = run } ∷ []) ≡ Some (record { number = number; run = run })
found-begun [] number run none = ap (λ b. cond b (Some (record { number = number; run = run })) None) (eq-eqb number number refl)
found-begun (entry ∷ rest) number run none =
    begun-first (has_number number entry) entry (find (has_number number) rest) (find (has_number number) (rest ++ record { number = number; run = run } ∷ [])) (record { number = number; run = run }) none
    (found-begun rest number run)

-- ---- what is only printed

-- from p to q only these lines are added
pub record Prints (P : List ℕ → Type 0) (p q : PerformanceState) : Type 0 where
  pub setup : q.setup ≡ p.setup
  pub past : q.past ≡ p.past
  pub runs : q.runs ≡ p.runs
  pub kept : q.kept ≡ p.kept
  pub added : List (List ℕ)
  pub lines : q.lines ≡ p.lines ++ added
  pub each : All P added

module _ (P : List ℕ → Type 0) where
  pub prints-none : (p : PerformanceState) → Prints P p p
  prints-none p = record { setup = refl; past = refl; runs = refl; kept = refl; added = []; lines = sym (append-nil p.lines); each = All-nil P }

  pub prints-line : (p : PerformanceState) (text : List ℕ) → P (line_of text) → Prints P p (with_line text p)
  prints-line p text is = record { setup = refl; past = refl; runs = refl; kept = refl; added = line_of text ∷ []; lines = refl; each = All-cons P (line_of text) [] is (All-nil P) }

  pub prints-then : (p q r : PerformanceState) → Prints P p q → Prints P q r → Prints P p r
  prints-then p q r one other = record {
    setup = other.setup ∙ one.setup;
    past = other.past ∙ one.past;
    runs = other.runs ∙ one.runs;
    kept = other.kept ∙ one.kept;
    added = one.added ++ other.added;
    lines = other.lines ∙ ap (λ l. l ++ other.added) one.lines ∙ append_assoc p.lines one.added other.added;
    each = All-append P one.added other.added one.each other.each;
  }

  pub spares-printed : (number : ℕ) (p q : PerformanceState) → Prints P p q → Spares P number p q
  spares-printed number p q is = record {
    setup = is.setup;
    found = ap (find (has_number number)) is.runs;
    added = is.added;
    lines = is.lines;
    each = is.each;
  }

-- P allows each line of a report, but for the ends of this run
pub record Allows (P : List ℕ → Type 0) (number : ℕ) : Type 0 where
  pub command : (event client locality : ℕ) (buffer reply : List ℕ) (outcome : Outcome) → P (line_of (command_line event client locality buffer reply outcome))
  pub opening : (event : ℕ) (paths : List Path) (opening : Opening) → P (line_of (opening_line event paths opening))
  pub certificate : (event : ℕ) (bytes : List ℕ) → P (line_of (certificate_line event bytes))
  pub time : (event ms : ℕ) → P (line_of (time_line event ms))
  pub presence : (event : ℕ) (on : Bool) → P (line_of (presence_line event on))
  pub reset : (event : ℕ) → P (line_of (reset_line event))
  pub block : (position : ℕ) (steps : List PathStep) (block : Block) → P (line_of (block_line position steps block))
  pub chosen : (run position : ℕ) (steps : List PathStep) → P (line_of (chosen_line run position steps))
  pub nobranch : (run : ℕ) → P (line_of (nobranch_line run))
  pub blind : (run : ℕ) → P (line_of (blind_line run))
  pub tried : (position : ℕ) (steps : List PathStep) (tried : Tried) → P (line_of (tried_line position steps tried))
  pub over : (run : ℕ) → P (line_of (over_line run))
  pub ends : (run : ℕ) (end : End) → nat_eq run number ≡ false → run < 2 ^ 16 → P (line_of (end_line run end))

-- ---- blind runs

module _ (P : List ℕ → Type 0) (number : ℕ) (allows : Allows P number) where
  tries-printed : (position : ℕ) (paths : List Path) (tries : List Tried) (p : PerformanceState) → Prints P p (with_tries position paths tries p)
  unfolding with_tries
  tries-printed position [] tries p = prints-none P p
  tries-printed position (path ∷ paths) [] p = prints-none P p
  tries-printed position (path ∷ paths) (tried ∷ tries) p =
      let text = tried_line position path.steps tried in
      prints-then P p (with_line text p) (with_tries (position + 1) paths tries (with_line text p)) (prints-line P p text (allows.tried position path.steps tried)) (tries-printed (position + 1) paths tries (with_line text p))

  pub nobranch-printed : (run : ℕ) (paths : List Path) (tries : List Tried) (p : PerformanceState) → Prints P p (with_nobranch run paths tries p)
  nobranch-printed run paths tries p =
      prints-then P p (with_line (nobranch_line run) p) (with_nobranch run paths tries p) (prints-line P p (nobranch_line run) (allows.nobranch run)) (tries-printed 1 paths tries (with_line (nobranch_line run) p))

  pub path-printed : (run position : ℕ) (path : Option Path) (p : PerformanceState) → Prints P p (with_path run position path p)
  path-printed run position None p = prints-none P p
  path-printed run position (Some path) p = prints-line P p (chosen_line run position path.steps) (allows.chosen run position path.steps)

  -- the end of another run
  blind-end-printed : (other : ℕ) → nat_eq other number ≡ false → other < 2 ^ 16 → (paths : List Path) (end : BlindEnd) (p : PerformanceState) → Prints P p (with_blind_end other paths end p)
  unfolding with_blind_end
  blind-end-printed other apart small paths (blind_ends.Served position bytes) p =
      let path = slice_get paths (position - 1) in
      let text = end_line other (ends.Served bytes) in
      prints-then P p (with_path other position path p) (with_line text (with_path other position path p)) (path-printed other position path p)
      (prints-line P (with_path other position path p) text (allows.ends other (ends.Served bytes) apart small))
  blind-end-printed other apart small paths (blind_ends.NoBranch tries) p = nobranch-printed other paths tries p
  blind-end-printed other apart small paths (blind_ends.Denied at rc) p = prints-line P p (end_line other (ends.Denied at rc)) (allows.ends other (ends.Denied at rc) apart small)
  blind-end-printed other apart small paths (blind_ends.BadReply at) p = prints-line P p (end_line other (ends.BadReply at)) (allows.ends other (ends.BadReply at) apart small)

module _ (P : List ℕ → Type 0) (number : ℕ) (allows : Allows P number) (scenario : Scenario) where
  -- ---- commands

  opening-printed : (event : ℕ) (paths : List Path) (opening : Option Opening) (p : PerformanceState) → Prints P p (with_opening event paths opening p)
  opening-printed event paths None p = prints-none P p
  opening-printed event paths (Some opening) p = prints-line P p (opening_line event paths opening) (allows.opening event paths opening)

  certificate-printed : (certified : Bool) (event : ℕ) (bytes : Option (List ℕ)) (p : PerformanceState) → Prints P p (with_certificate certified event bytes p)
  certificate-printed false event bytes p = prints-none P p
  certificate-printed true event None p = prints-none P p
  certificate-printed true event (Some bytes) p = prints-line P p (certificate_line event bytes) (allows.certificate event bytes)

  policy-printed : (event : ℕ) (facts : List Fact) (closed : Option Closed) (p : PerformanceState) → Prints P p (policy_opened scenario.manner scenario.approvals event facts closed p)
  unfolding policy_opened
  policy-printed event facts None p = prints-none P p
  policy-printed event facts (Some closed) p =
      let opening = opening_of closed scenario.approvals facts in
      let q = with_opening event (paths_of closed scenario.approvals) opening p in
      let bytes = certificate_of_opening closed scenario.approvals opening in
      prints-then P p q (with_certificate (certifies scenario.manner) event bytes q)
      (opening-printed event (paths_of closed scenario.approvals) opening p) (certificate-printed (certifies scenario.manner) event bytes q)

  entity-printed : (event : ℕ) (opened : Option Opened) (p : PerformanceState) → Prints P p (entity_opened scenario event opened p)
  entity-printed event None p = prints-none P p
  entity-printed event (Some opened) p = policy-printed event opened.facts (policy_of_entity scenario.entities opened.entity) p

  told-printed : (told : Bool) (event : ℕ) (opened : Option Opened) (p : PerformanceState) → Prints P p (opening_told told scenario event opened p)
  told-printed false event opened p = prints-none P p
  told-printed true event opened p = entity-printed event opened p

  pub command-printed : (client locality : ℕ) (buffer : List ℕ) (p : PerformanceState)
      → Prints P (with_event (event_of client locality buffer (answer_to p.setup p.past locality buffer)) p) (commanded scenario client locality buffer p)
  unfolding commanded
  command-printed client locality buffer p =
      let answered = answer_to p.setup p.past locality buffer in
      let text = command_line (number_in p) client locality buffer answered.reply answered.outcome in
      let q = command_told client locality buffer answered p in
      let told = told-printed (explains scenario.manner) (number_in p) (opened_to p.setup p.past locality buffer) q in
      record {
        setup = told.setup;
        past = told.past;
        runs = told.runs;
        kept = told.kept;
        added = line_of text ∷ told.added;
        lines = told.lines ∙ append_assoc p.lines (line_of text ∷ []) told.added;
        each = All-cons P (line_of text) told.added (allows.command (number_in p) client locality buffer answered.reply answered.outcome) told.each;
      }

  -- the command's own line is among them
  pub command-first : (client locality : ℕ) (buffer : List ℕ) (p : PerformanceState)
      → Contains (commanded scenario client locality buffer p).lines
      (line_of (command_line (number_in p) client locality buffer (answer_to p.setup p.past locality buffer).reply (answer_to p.setup p.past locality buffer).outcome))
  unfolding commanded
  command-first client locality buffer p =
      let answered = answer_to p.setup p.past locality buffer in
      let line = line_of (command_line (number_in p) client locality buffer answered.reply answered.outcome) in
      let told = told-printed (explains scenario.manner) (number_in p) (opened_to p.setup p.past locality buffer) (command_told client locality buffer answered p) in
      subst (λ lines. Contains lines line) (sym told.lines)
      (Contains-append_left (p.lines ++ line ∷ []) told.added line (Contains-push p.lines line))

  pub command-spares : (client locality : ℕ) (buffer : List ℕ) (p : PerformanceState) → Spares P number p (commanded scenario client locality buffer p)
  command-spares client locality buffer p =
      let is = command-printed client locality buffer p in
      record { setup = is.setup; found = ap (find (has_number number)) is.runs; added = is.added; lines = is.lines; each = is.each }

  -- ---- turns of another run

  module _ (other : ℕ) (apart : nat_eq other number ≡ false) (small : other < 2 ^ 16) where
    end-spares : (client : ℕ) (end : Option Ended) (p : PerformanceState) → Spares P number p (with_end scenario client other end p)
    end-spares client None p = spares-none P number p
    end-spares client (Some (ended.Sighted end earned)) p =
        let q = with_kept scenario.directory client earned p in
        spares-then P number p q (with_line (end_line other end) q) (spares-kept P number p q.kept) (spares-line P number q (end_line other end) (allows.ends other end apart small))
    end-spares client (Some (ended.Blind policy end)) p =
        let paths = paths_named scenario policy in
        spares-printed P number p (with_blind_end other paths end p) (blind-end-printed P number allows other apart small paths end p)

    sent-spares : (command : Sent) (p : PerformanceState) → Spares P number p (sent scenario other command p)
    unfolding sent replied
    sent-spares command p =
        let reply = (answer_to p.setup p.past command.locality command.buffer).reply in
        let q = commanded scenario command.client command.locality command.buffer p in
        let r : PerformanceState = record q { runs = with_run q.runs other (goes_on (heard_now other reply q)) } in
        let moved : Spares P number q r = record {
          setup = refl;
          found = found-elsewhere q.runs number other (goes_on (heard_now other reply q)) apart;
          added = [];
          lines = sym (append-nil q.lines);
          each = All-nil P;
        } in
        spares-then P number p q _ (command-spares command.client command.locality command.buffer p)
        (spares-then P number q r _ moved (end-spares command.client (end_told (heard_now other reply q)) r))

    by-spares : (next : Option Sent) (p : PerformanceState) → Spares P number p (turned_by scenario other next p)
    by-spares None p = spares-line P number p (over_line other) (allows.over other)
    by-spares (Some command) p = sent-spares command p

    turned-spares : (p : PerformanceState) → Spares P number p (turned scenario other p)
    unfolding turned
    turned-spares p = by-spares (sent_now other p) p

    times-spare : (n : ℕ) (p : PerformanceState) → Spares P number p (turned_times scenario other n p)
    unfolding turned_times
    times-spare zero p = spares-none P number p
    times-spare (suc n) p = spares-then P number p (turned scenario other p) _ (turned-spares p) (times-spare n (turned scenario other p))

    and-spares : (rest : PerformanceState → PerformanceState) → ((q : PerformanceState) → Spares P number q (rest q)) → (next : Option Sent) (p : PerformanceState)
        → Spares P number p (turned_and rest scenario other next p)
    and-spares rest later None p = spares-none P number p
    and-spares rest later (Some command) p = spares-then P number p (sent scenario other command p) _ (sent-spares command p) (later (sent scenario other command p))

    on-spares : (n : ℕ) (p : PerformanceState) → Spares P number p (turned_on scenario other n p)
    unfolding turned_on
    on-spares zero p = spares-none P number p
    on-spares (suc n) p = and-spares (turned_on scenario other n) (on-spares n) (sent_now other p) p

    to-end-by-spares : (next : Option Sent) (p : PerformanceState) → Spares P number p (turned_to_end_by scenario other next p)
    to-end-by-spares None p = spares-line P number p (over_line other) (allows.over other)
    to-end-by-spares (Some command) p = spares-then P number p (sent scenario other command p) _ (sent-spares command p) (on-spares most_turns (sent scenario other command p))

    to-end-spares : (p : PerformanceState) → Spares P number p (turned_to_end scenario other p)
    unfolding turned_to_end
    to-end-spares p = to-end-by-spares (sent_now other p) p

    pub turns-spare : (times : Option ℕ) (p : PerformanceState) → Spares P number p (turn_told scenario other times p)
    turns-spare None p = to-end-spares p
    turns-spare (Some n) p = times-spare n p

    -- ---- another run begins

    new-run-spares : (run : Option Underway) (p : PerformanceState) → Spares P number p (with_new_run other run p)
    new-run-spares run p = record {
      setup = refl;
      found = found-beside p.runs number other run apart;
      added = [];
      lines = sym (append-nil p.lines);
      each = All-nil P;
    }

    along-spares : (tickets : List HeldTicket) (position : ℕ) (run : NewRun) (path : Option Path) (p : PerformanceState) → run.number ≡ other → Spares P number p (begun_along scenario tickets position run path p)
    along-spares tickets position run None p same = spares-none P number p
    along-spares tickets position run (Some path) p same =
        let underway = Some (begun run.client run.locality (plan_along scenario tickets path run)) in
        spares-then P number p (with_new_run run.number underway p) _
        (subst (λ n. Spares P number p (with_new_run n underway p)) (sym same) (new-run-spares underway p))
        (spares-line P number (with_new_run run.number underway p) (chosen_line run.number position path.steps) (allows.chosen run.number position path.steps))

  -- ---- blocks

  block-spares : (position : ℕ) (steps : List PathStep) (block : Option Block) (p : PerformanceState) → Spares P number p (with_block position steps block p)
  block-spares position steps None p = spares-none P number p
  block-spares position steps (Some block) p = spares-line P number p (block_line position steps block) (allows.block position steps block)

  pub blocks-spare : (sight : Sight) (run : NewRun) (position : ℕ) (paths : List Path) (p : PerformanceState) → Spares P number p (with_blocks sight run position paths p)
  unfolding with_blocks
  blocks-spare sight run position [] p = spares-none P number p
  blocks-spare sight run position (path ∷ rest) p =
      let block = first_block path sight run.grants run.goal run.locality in
      spares-then P number p (with_block position path.steps block p) _ (block-spares position path.steps block p)
      (blocks-spare sight run (position + 1) rest (with_block position path.steps block p))

  -- ---- events

  nowhere-spares : (sight : Sight) (run : NewRun) (paths : List Path) (p : PerformanceState) → nat_eq run.number number ≡ false → run.number < 2 ^ 16 → Spares P number p (begun_nowhere sight run paths p)
  unfolding begun_nowhere
  nowhere-spares sight run paths p apart small =
      let q = with_new_run run.number None p in
      let r = with_line (nobranch_line run.number) q in
      spares-then P number p q _ (new-run-spares run.number apart small None p)
      (spares-then P number q r _ (spares-line P number q (nobranch_line run.number) (allows.nobranch run.number)) (blocks-spare sight run 1 paths r))

  at-spares : (sight : Sight) (paths : List Path) (run : NewRun) (position : Option ℕ) (p : PerformanceState) → nat_eq run.number number ≡ false → run.number < 2 ^ 16 → Spares P number p (begun_at scenario sight paths run position p)
  at-spares sight paths run None p apart small = nowhere-spares sight run paths p apart small
  at-spares sight paths run (Some position) p apart small =
      along-spares run.number apart small (tickets_given (way_of scenario.manner) run.client sight p.kept) position run (slice_get paths (position - 1)) p refl

  sighted-spares : (policy : List ℕ) (run : NewRun) (p : PerformanceState) → nat_eq run.number number ≡ false → run.number < 2 ^ 16 → Spares P number p (begun_in_sight scenario policy run p)
  unfolding begun_in_sight begun_on
  sighted-spares policy run p apart small =
      let sight = sight_after p.setup p.past in
      let paths = paths_named scenario policy in
      at-spares sight paths run (chosen_path paths sight run.grants run.goal run.locality) p apart small

  on-tries-spare : (other : ℕ) (run : Underway) (plan : BlindPlan) (tried : Option ℕ) (p : PerformanceState) → nat_eq other number ≡ false → other < 2 ^ 16 → Spares P number p (begun_on_tries other run plan tried p)
  on-tries-spare other run plan None p apart small =
      let q = with_new_run other None p in
      spares-then P number p q (with_nobranch other plan.paths (none_tried plan) q) (new-run-spares other apart small None p)
      (spares-printed P number q (with_nobranch other plan.paths (none_tried plan) q) (nobranch-printed P number allows other plan.paths (none_tried plan) q))
  on-tries-spare other run plan (Some position) p apart small = new-run-spares other apart small (Some run) p

  by-plan-spares : (policy : List ℕ) (run : NewRun) (plan : BlindPlan) (p : PerformanceState) → nat_eq run.number number ≡ false → run.number < 2 ^ 16 → Spares P number p (begun_by_plan policy run plan p)
  by-plan-spares policy run plan p apart small =
      let q = with_line (blind_line run.number) p in
      let underway = begun_blind run.client run.locality policy plan in
      spares-then P number p q (begun_on_tries run.number underway plan (first_complete plan) q) (spares-line P number p (blind_line run.number) (allows.blind run.number))
      (on-tries-spare run.number underway plan (first_complete plan) q apart small)

  blindly-spares : (policy : List ℕ) (run : NewRun) (p : PerformanceState) → nat_eq run.number number ≡ false → run.number < 2 ^ 16 → Spares P number p (begun_blindly scenario policy run p)
  unfolding begun_blindly
  blindly-spares policy run p apart small = by-plan-spares policy run (blind_plan scenario (paths_named scenario policy) run) p apart small

  way-spares : (way : Way) (policy : List ℕ) (run : NewRun) (p : PerformanceState) → nat_eq run.number number ≡ false → run.number < 2 ^ 16 → Spares P number p (begun_by way scenario policy run p)
  way-spares ways.Sighted policy run p apart small = sighted-spares policy run p apart small
  way-spares ways.Blind policy run p apart small = blindly-spares policy run p apart small
  way-spares ways.WithTickets policy run p apart small = sighted-spares policy run p apart small

  begin-spares : (policy : List ℕ) (run : NewRun) (p : PerformanceState) → nat_eq run.number number ≡ false → run.number < 2 ^ 16 → Spares P number p (run_begun scenario policy run p)
  unfolding run_begun
  begin-spares policy run p apart small = way-spares (way_of scenario.manner) policy run p apart small

  pub happened-spares : (event : ScriptEvent) → IsOther number event → (p : PerformanceState) → Spares P number p (happened scenario event p)
  happened-spares (Command client locality buffer) is p = command-spares client locality buffer p
  happened-spares (Begin run client locality policy place goal) is p = begin-spares policy (new_run scenario.clients run client locality goal) p is.0 is.1
  happened-spares (Turn run times) is p = turns-spare run is.0 is.1 times p
  happened-spares (Time ms) is p = spares-event P number p (events.Time ms) (time_line (number_in p) ms) (allows.time (number_in p) ms)
  happened-spares (Presence on) is p = spares-event P number p (events.Presence on) (presence_line (number_in p) on) (allows.presence (number_in p) on)
  happened-spares Reset is p = spares-event P number p events.Reset (reset_line (number_in p)) (allows.reset (number_in p))

  pub all-spare : (script : List ScriptEvent) → AllByRecursion (IsOther number) script → (p : PerformanceState) → Spares P number p (all_happened scenario script p)
  unfolding all_happened
  all-spare [] are p = spares-none P number p
  all-spare (event ∷ rest) are p =
      spares-then P number p (happened scenario event p) _ (happened-spares event are.0 p) (all-spare rest are.1 (happened scenario event p))

  -- ---- turns of a run that is over

  over-by : (next : Option Sent) (p : PerformanceState) → next ≡ None → turned_by scenario number next p ≡ with_line (over_line number) p
  over-by next p over = ap (λ n. turned_by scenario number n p) over

  over-times : (n : ℕ) (p : PerformanceState) → run_at p.runs number ≡ None → Spares P number p (turned_times scenario number n p)
  unfolding turned_times turned
  over-times zero p over = spares-none P number p
  over-times (suc n) p over =
      subst (λ q. Spares P number p (turned_times scenario number n q)) (sym (over-by (sent_now number p) p (ap next_of over)))
      (spares-then P number p (with_line (over_line number) p) _ (spares-line P number p (over_line number) (allows.over number)) (over-times n (with_line (over_line number) p) over))

  over-to-end : (p : PerformanceState) → run_at p.runs number ≡ None → Spares P number p (turned_to_end scenario number p)
  unfolding turned_to_end
  over-to-end p over =
      subst (λ next. Spares P number p (turned_to_end_by scenario number next p)) (sym (ap next_of over))
      (spares-line P number p (over_line number) (allows.over number))

  over-turns : (times : Option ℕ) (p : PerformanceState) → run_at p.runs number ≡ None → Spares P number p (turn_told scenario number times p)
  over-turns None p over = over-to-end p over
  over-turns (Some n) p over = over-times n p over

  turn-behind : (b : Bool) (run : ℕ) (times : Option ℕ) (p : PerformanceState) → b ≡ nat_eq run number → run < 2 ^ 16 → run_at p.runs number ≡ None → Spares P number p (turn_told scenario run times p)
  turn-behind true run times p is small over = subst (λ n. Spares P number p (turn_told scenario n times p)) (sym (eqb-true run number (sym is))) (over-turns times p over)
  turn-behind false run times p is small over = turns-spare run (sym is) small times p

  -- whatever happens behind the begin of a run that is over
  pub behind-spares : (event : ScriptEvent) → IsBehind number event → (p : PerformanceState) → run_at p.runs number ≡ None → Spares P number p (happened scenario event p)
  behind-spares (Command client locality buffer) is p over = command-spares client locality buffer p
  behind-spares (Begin run client locality policy place goal) is p over = begin-spares policy (new_run scenario.clients run client locality goal) p is.0 is.1
  behind-spares (Turn run times) is p over = turn-behind (nat_eq run number) run times p refl is over
  behind-spares (Time ms) is p over = spares-event P number p (events.Time ms) (time_line (number_in p) ms) (allows.time (number_in p) ms)
  behind-spares (Presence on) is p over = spares-event P number p (events.Presence on) (presence_line (number_in p) on) (allows.presence (number_in p) on)
  behind-spares Reset is p over = spares-event P number p events.Reset (reset_line (number_in p)) (allows.reset (number_in p))

  pub all-behind : (script : List ScriptEvent) → AllByRecursion (IsBehind number) script → (p : PerformanceState) → run_at p.runs number ≡ None → Spares P number p (all_happened scenario script p)
  unfolding all_happened
  all-behind [] are p over = spares-none P number p
  all-behind (event ∷ rest) are p over =
      let first = behind-spares event are.0 p over in
      spares-then P number p (happened scenario event p) _ first (all-behind rest are.1 (happened scenario event p) (ap run_in first.found ∙ over))
