-- What a client's command leads to, and what is printed of it.
use Rattle.std.specs.Prelude.{ℕ, Bool, true, false, List, Option, Some, None}
use Rattle.tpm_engine.specs.declared.opened.Opened.{Opened}
use Rattle.tpm_engine.specs.Events.{Answered, event_of}
use Rattle.tpm_engine.specs.Legal.{answer_to, opened_to}
use Rattle.tpol_digest.specs.Paths.{paths_of}
use Rattle.tpol_cert.specs.Judgement.{certificate_bytes}
use Rattle.tpol_lines.specs.CertLine.{certificate_line}
use Rattle.tpol_lines.specs.Events.{command_line}
use Rattle.tpol_lines.specs.OpeningLine.{opening_line}
use Rattle.tpol_prepare.specs.declared.manner.Manner.{Manner}
use Rattle.tpol_prepare.specs.declared.scenario.Scenario.{Scenario}
use Rattle.tpol_perform.specs.Performance.{PerformanceState, number_in, with_event, with_line}
use Rattle.tpol_prepare.specs.Manner.{certifies, explains}
use Rattle.tpol_prepare.specs.Scenario.{policy_of_entity}
use Rattle.tpol_trace.specs.declared.answer.Opening.{Opening}
use Rattle.tpol_trace.specs.declared.answer.Opening.TheVariants.{Branch, Clash, ZeroInput}
use Rattle.tpol_trace.specs.Openings.{opening_of}
use Rattle.tpol_tree.specs.declared.closed.Closed.{Closed}
use Rattle.tpol_tree.specs.declared.facts.Fact.{Fact}
use Rattle.tpol_tree.specs.declared.path.ApprovedDoc.{ApprovedDoc}
use Rattle.tpol_tree.specs.declared.path.Path.{Path}

-- ---- openings

-- the line of an opening of a policy with these paths
abbrev pub with_opening : ℕ → List Path → Option Opening → PerformanceState → PerformanceState
with_opening event paths None p = p
with_opening event paths (Some opening) p = with_line (opening_line event paths opening) p

-- the bytes that certify the path that an opening names, if it names one
abbrev pub certificate_of_opening : Closed → List ApprovedDoc → Option Opening → Option (List ℕ)
certificate_of_opening closed approvals None = None
certificate_of_opening closed approvals (Some (Branch position events)) = certificate_bytes closed approvals position
certificate_of_opening closed approvals (Some (Clash first second)) = None
certificate_of_opening closed approvals (Some (ZeroInput input)) = None

-- their line, where certificates are told
abbrev pub with_certificate : Bool → ℕ → Option (List ℕ) → PerformanceState → PerformanceState
with_certificate false event bytes p = p
with_certificate true event None p = p
with_certificate true event (Some bytes) p = with_line (certificate_line event bytes) p

-- the line of an opening of a policy, and that of its certificate
abbrev pub with_opening_of : Bool → Closed → List ApprovedDoc → ℕ → Option Opening → PerformanceState → PerformanceState
with_opening_of certified closed approvals event opening p =
    with_certificate certified event (certificate_of_opening closed approvals opening)
    (with_opening event (paths_of closed approvals) opening p)

-- the same of the facts that opened an entity with this policy; none is printed where the scene names no policy
unfoldable pub policy_opened : Manner → List ApprovedDoc → ℕ → List Fact → Option Closed → PerformanceState → PerformanceState
policy_opened manner approvals event facts None p = p
policy_opened manner approvals event facts (Some closed) p =
    with_opening_of (certifies manner) closed approvals event (opening_of closed approvals facts) p

-- the same of what a policy session opened
abbrev pub entity_opened : Scenario → ℕ → Option Opened → PerformanceState → PerformanceState
entity_opened scenario event None p = p
entity_opened scenario event (Some opened) p =
    policy_opened scenario.manner scenario.approvals event opened.facts (policy_of_entity scenario.entities opened.entity) p

-- the same where openings are asked for, and else nothing
abbrev pub opening_told : Bool → Scenario → ℕ → Option Opened → PerformanceState → PerformanceState
opening_told false scenario event opened p = p
opening_told true scenario event opened p = entity_opened scenario event opened p

-- ---- commands

-- the event of a command, and its line
abbrev pub command_told : ℕ → ℕ → List ℕ → Answered → PerformanceState → PerformanceState
command_told client locality buffer answered p =
    with_line (command_line (number_in p) client locality buffer answered.reply answered.outcome)
    (with_event (event_of client locality buffer answered) p)

-- the bytes that a client sends from a locality: one event, its line, and what is told of what it opened
unfoldable pub commanded : Scenario → ℕ → ℕ → List ℕ → PerformanceState → PerformanceState
commanded scenario client locality buffer p =
    opening_told (explains scenario.manner) scenario (number_in p) (opened_to p.setup p.past locality buffer)
    (command_told client locality buffer (answer_to p.setup p.past locality buffer) p)
