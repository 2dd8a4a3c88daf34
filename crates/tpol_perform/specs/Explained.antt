-- What `explain` tells of a scene: for every command of the journal that asks for a policy session, exactly when
-- the session authorizes it, and exactly when it is served (its own rules hold too, and its own policy session, if
-- it has one, has room for one more fact), told by the events before it alone; and by which written path of its
-- policy an entity was opened, with the certificate of that path where certificates are told.
use Rattle.std.specs.Prelude.{◌≡◌, ◌≢◌, ◌↔◌, ◌⊎◌, ⊤, ℕ, ◌-◌, All, slice_get, true, List, ◌∷◌, ◌++◌, Some, IfSome, Ok, option_map}
use Rattle.tpm_engine.specs.declared.event.Event.{Event}
use Rattle.tpm_engine.specs.declared.event.Event.TheVariants as events
use Rattle.tpm_engine.specs.Authorization.{authorized_handle}
use Rattle.tpm_engine.specs.Legal.{IsLegal}
use Rattle.tpm_engine.specs.Uses.{AreOfPcrs, AsksPolicySession, IsNotDeniedByCheck, IsServed, Passes}
use Rattle.tpm_engine.specs.Views.{facts_of, next_number, pcrs_of}
use Rattle.tpm_pcr.specs.Bank.{Bank}
use Rattle.tpm_pcr.specs.Pcrs.{selected}
use Rattle.tpm_rules.specs.declared.outcome.Outcome.{Outcome}
use Rattle.tpm_rules.specs.declared.outcome.Outcome.TheVariants.{Served}
use Rattle.tpm_rules.specs.Entity.{auth_policy_of}
use Rattle.tpm_world.specs.Entities.{entity_at}
use Rattle.tpm_world.specs.World.{world_of}
use Rattle.tpol_base.specs.declared.document.Document.{Document}
use Rattle.tpol_cert.specs.Certificates.{Certifies}
use Rattle.tpol_digest.specs.Digest.{digest_of_moves, policy_digest}
use Rattle.tpol_digest.specs.Paths.{paths_of}
use Rattle.tpol_tree.specs.Facts.{moves_of as moves_of_facts}
use Rattle.tpol_digest.specs.Update.{joined}
use Rattle.tpol_hash.specs.Sha256.{sha256_digest}
use Rattle.tpol_lines.specs.CertLine.{certificate_line}
use Rattle.tpol_lines.specs.Events.{command_line}
use Rattle.tpol_lines.specs.Lines.{line_of}
use Rattle.tpol_lines.specs.OpeningLine.{opening_line}
use Rattle.tpol_lint.specs.Opened.{NamesNoDead}
use Rattle.tpol_name.specs.declared.setup.Setup.{Setup}
use Rattle.tpol_prepare.specs.declared.manner.Manner.{Manner}
use Rattle.tpol_prepare.specs.declared.scenario.Scenario.{Scenario}
use Rattle.tpol_prepare.specs.declared.scenario.StagedScene.{StagedScene}
use Rattle.tpol_prepare.specs.Manner.{certifies}
use Rattle.tpol_prepare.specs.Scenario.{policy_of_entity, staged_step}
use Rattle.tpol_perform.specs.Script.{performed}
use Rattle.tpol_trace.specs.declared.answer.Opening.{Opening}
use Rattle.tpol_trace.specs.declared.answer.Opening.TheVariants.{Branch}
use Rattle.tpol_trace.specs.Openings.{IsOpening}
use Rattle.tpol_tree.specs.declared.closed.Assertion.TheVariants.{Pcr}
use Rattle.tpol_tree.specs.declared.closed.Closed.{Closed}
use Rattle.tpol_tree.specs.declared.facts.Fact.{Fact}
use Rattle.tpol_tree.specs.declared.path.ApprovedDoc.{ApprovedDoc}
use Rattle.tpol_tree.specs.declared.path.Move.{Move}
use Rattle.tpol_tree.specs.declared.path.Move.TheVariants.{Assert}
use Rattle.tpol_tree.specs.declared.path.Path.{Path}
use Rattle.tpol_wire.specs.declared.command.Command.{Command}

-- ---- lines

-- the two are lines, and the second stands right behind the first
pub record IsPrintedBehind (first second : List ℕ) (lines : List (List ℕ)) : Type 0 where
  pub before : List (List ℕ)
  pub after : List (List ℕ)
  pub split : lines ≡ before ++ line_of first ∷ line_of second ∷ after

-- bytes that certify the path at a position stand in a line right behind this one
pub record HasCertificateBehind (text : List ℕ) (event : ℕ) (closed : Closed) (approvals : List ApprovedDoc) (position : ℕ) (lines : List (List ℕ)) : Type 0 where
  pub bytes : List ℕ
  pub certifies : Certifies bytes closed approvals position
  pub printed : IsPrintedBehind text (certificate_line event bytes) lines

-- so do bytes that certify the path which an opening names, behind the opening's line
abbrev pub IsCertifiedBehind : List ℕ → ℕ → Closed → List ApprovedDoc → Opening → List (List ℕ) → Type 0
IsCertifiedBehind text event closed approvals (Branch position events) lines =
    HasCertificateBehind text event closed approvals position lines
IsCertifiedBehind text event closed approvals _ lines = ⊤

-- ---- PCRs at the use

-- one string, or two different strings of one digest
abbrev pub IsSameOrClash : List ℕ → List ℕ → Type 0
IsSameOrClash a b = (a ≡ b) ⊎ ((a ≢ b) × (sha256_digest a ≡ sha256_digest b))

-- the values that a PolicyPCR of a path asks for are those of these PCRs, or the two are shown to be different
-- strings of one digest
abbrev pub HasValuesOf : Bank → Move → Type 0
HasValuesOf pcrs (Assert (Pcr mask digest values)) = IsSameOrClash (joined values) (joined (selected pcrs.values mask))
HasValuesOf pcrs _ = ⊤

-- so each PolicyPCR of the path that an opening names
abbrev pub IsAtPcrs : Bank → List Path → Opening → Type 0
IsAtPcrs pcrs paths (Branch position events) =
    (path : Path) → slice_get paths (position - 1) ≡ Some path → All (HasValuesOf pcrs) path.moves
IsAtPcrs pcrs paths _ = ⊤

-- ---- what is opened

-- By a command with this line, after these events, facts opened the entity of a handle, whose policy the scene
-- names.
pub record IsOpened (setup : Setup) (scenario : Scenario) (past : List Event) (facts : List Fact) (handle : ℕ) (closed : Closed) (text : List ℕ) (lines : List (List ℕ)) : Type 0 where
  -- the digest of the policy is the entity's authPolicy, and that of the facts
  pub policy : option_map auth_policy_of (entity_at (world_of setup) handle) ≡ Some (policy_digest closed).bytes
  pub digest : digest_of_moves (moves_of_facts facts) ≡ policy_digest closed
  -- The first written path of the policy that the facts match, by its position; or two different strings of one
  -- digest, or a string of digest zero, among what was hashed.
  pub opening : Opening
  pub means : IsOpening closed scenario.approvals facts opening
  -- the way that it names is none of those that `lint` tells of this policy with these approvals
  pub alive : NamesNoDead (paths_of closed scenario.approvals) opening
  -- its line stands right behind the command's
  pub printed : IsPrintedBehind text (opening_line (next_number past) (paths_of closed scenario.approvals) opening) lines
  -- and behind that, where certificates are told, the line of one that certifies the way
  pub certified : certifies scenario.manner ≡ true
      → IsCertifiedBehind (opening_line (next_number past) (paths_of closed scenario.approvals) opening) (next_number past) closed scenario.approvals opening lines
  -- the facts found the PCRs as they are now, and these have the values that the path asks for
  pub of_pcrs : AreOfPcrs (pcrs_of setup past) facts
  pub pcrs : IsAtPcrs (pcrs_of setup past) (paths_of closed scenario.approvals) opening

-- ---- what is told of an event

-- A command with this line asked, after these events, for this policy session.
pub record IsJudged (setup : Setup) (scenario : Scenario) (past : List Event) (locality : ℕ) (command : Command) (session : ℕ) (outcome : Outcome) (text : List ℕ) (lines : List (List ℕ)) : Type 0 where
  -- The session authorizes it, so that no deferred check denies it, exactly where its policy commands in the
  -- journal give the entity's authPolicy and every deferred check holds.
  pub authorizes : IsNotDeniedByCheck outcome ↔ Passes setup past locality command session
  -- It is served exactly where the session authorizes it, its own policy session, if it has one, has room for one
  -- more fact, and its own rules hold.
  pub serves : (outcome ≡ Served) ↔ IsServed setup past locality command session
  -- where it is served, and the scene names the policy of its entity, it is told by which path that was opened
  pub opens : outcome ≡ Served → IfSome (policy_of_entity scenario.entities (authorized_handle command)) (λ closed.
      IsOpened setup scenario past (facts_of setup past session) (authorized_handle command) closed text lines)

-- what lines tell of an event that came after these: of a command that asks for a policy session, how it was
-- judged
abbrev pub IsTold : Setup → Scenario → List (List ℕ) → List Event → Event → Type 0
IsTold setup scenario lines past (events.Command client locality buffer reply outcome) =
    (command : Command) (session : ℕ) → AsksPolicySession setup past buffer command session
    → IsJudged setup scenario past locality command session outcome (command_line (next_number past) client locality buffer reply outcome) lines
IsTold setup scenario lines past _ = ⊤

-- ---- the scene

-- lines explain a scene: its journal, newest event first, is one that the machine makes, and each of its events is
-- told
pub record IsExplained (staged : StagedScene) (lines : List (List ℕ)) : Type 0 where
  pub legal : IsLegal staged.setup (performed staged).past
  pub each : (later earlier : List Event) (event : Event) → (performed staged).past ≡ later ++ event ∷ earlier
      → IsTold staged.setup staged.scenario lines earlier event

-- if the bytes are the document of a scene that can be carried out with the policies of the shelf, lines explain it
abbrev pub IsExplainedScene : Manner → List ℕ → List Document → List (List ℕ) → Type 0
IsExplainedScene manner input all lines =
    (staged : StagedScene) → staged_step manner input all ≡ Ok staged → IsExplained staged lines
