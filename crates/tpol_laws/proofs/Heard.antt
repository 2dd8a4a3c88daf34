-- A policy command or a VerifySignature that succeeds is heard as accepted, so the run goes on.
use Rattle.std.proofs.Common.{◌≡◌, ◌≤◌, ◌<◌, ◌⊎◌, inl, inr, ℕ, ◌+◌, ◌%◌, ◌/◌, ◌^◌, true, false, List, [], ◌++◌, length, nat_eq, refl, ap, sym, subst, ◌∙◌, arith}
use Rattle.std.specs.Prelude.{get_or, Option, Some, None, option_map, slice_get, if◌then◌else◌, ⊤}
use Rattle.std.specs.Int.{to_be_bytes, w64}
use Rattle.std.specs.Option.{option_and_then}
use Rattle.std.proofs.lemmas.Bool.{eq-eqb, false≢true}
use Rattle.std.proofs.lemmas.Option.{none-some, same_Some, slice_get_cases}
use Rattle.tpol_base.specs.declared.digest.Digest32.{Digest32}
use Rattle.tpol_base.specs.declared.name.Name.{Name}
use Rattle.tpol_base.specs.CommandCode.{number_of_code}
use Rattle.tpol_base.specs.declared.command_code.CommandCode.TheVariants as codes
use Rattle.tpol_base.specs.Constants.{st_auth_secret, st_auth_signed}
use Rattle.tpol_base.specs.Handle.{rs_pw}
use Rattle.tpol_digest.specs.Laws.{MoveHasBounds}
use Rattle.tpol_driver.specs.Answers.{answer_of, answer_of_reply}
use Rattle.tpol_driver.specs.Commands.{command_of_move, key_handle, start_command}
use Rattle.tpol_driver.specs.Driving.{Closing, Moving, Over, Standing, Starting, goes_on, heard_on_path, is_verification, move_heard, next_command, sends, start_heard, verified}
use Rattle.tpol_driver.specs.Plans.{is_known_move}
use Rattle.tpol_driver.specs.declared.tickets.HeldTicket.{HeldTicket}
use Rattle.tpol_driver.specs.Tickets.{ticket_command, ticket_for}
use Rattle.tpol_goal.specs.Entities.{object_of_name}
use Rattle.tpol_hash.specs.Sha256.{sha256_digest}
use Rattle.tpol_name.specs.declared.entries.DirEntry.{DirEntry}
use Rattle.tpol_name.specs.Directories.{directory_of}
use Rattle.tpol_tree.specs.declared.path.Move.{Move}
use Rattle.tpol_tree.specs.declared.path.Move.TheVariants.{Assert, Or, Approve, ApproveNv}
use Rattle.tpol_wire.specs.declared.auth_area.AuthArea.{AuthArea}
use Rattle.tpol_wire.specs.declared.auth_area.ReplyAuth.{ReplyAuth}
use Rattle.tpol_wire.specs.declared.command.Command.{Command}
use Rattle.tpol_wire.specs.declared.command.Command.TheVariants as commands
use Rattle.tpol_wire.specs.declared.reply.Reply.{Reply}
use Rattle.tpol_wire.specs.declared.reply.Reply.TheVariants as replies
use Rattle.tpol_fields.specs.declared.ticket.Ticket.{Ticket}
use Rattle.tpol_wire.specs.Authorizations.{ReplyAuthFits}
use Rattle.tpol_wire.specs.Commands.{FitsCommand, ValuesFit, code_of_command, spell_values, spelling, tag}
use Rattle.tpol_fields.specs.Kinds.{Fits, TimedTicket, sized, spell, ticket_bytes, timeout_bytes}
use Rattle.tpol_wire.specs.Replies.{FitsReply, PartsAnswer, parts_of, reply_body, spell_reply}
use Rattle.tpol_wire.specs.ReplyReading.{reply_reading}
use Rattle.tpol_wire.specs.Spellings.{message_bytes}
use Rattle.tpol_wire.proofs.ReplyLaws.{reply_read}
use Rattle.tpm_session.specs.Slots.{state_at}
use Rattle.tpm_world.specs.Entities.{name_at}
use Rattle.tpol_wire.specs.Handles.{area_of, is_policy_command}
use Rattle.tpm_world.specs.World.{WorldState}
use Rattle.tpm_engine.specs.declared.event.Event.{Event}
use Rattle.tpm_engine.specs.Answers.{succeeding}
use Rattle.tpm_engine.specs.Authorization.{authorized_entity, password_area, reply_area, session_area}
use Rattle.tpm_engine.specs.Events.{is_success}
use Rattle.tpm_engine.specs.PolicyCommands.{policy_start, ticket_digest, ticket_of, timeout_of}
use Rattle.tpm_engine.specs.Tables.{TableState}
use Rattle.tpm_engine.specs.Views.{next_number, view_of}
use Rattle.tpol_laws.specs.Acts.{Act, Run, after_acts, answer_in, begun, succeeds, turned}
use Rattle.tpol_laws.specs.Others.{AreOthersApart, AreSecretsOnWritten, HasGoneOn, place_of}
use Rattle.tpol_laws.specs.Runs.{IsRun}
use Rattle.tpol_laws.specs.HeldTickets.{TicketHasBounds}
use Rattle.tpol_laws.proofs.Answered.{IsByPassword, on-answer, own-passed, read-back, stop-fails}
use Rattle.tpol_laws.proofs.Finds.{all-at}
use Rattle.tpol_laws.proofs.Fit.{fits-start}
use Rattle.tpol_laws.proofs.Starts.{started}
use Rattle.tpol_laws.proofs.Own.{IsOwn, own-move}
use Rattle.tpol_laws.proofs.Step.{IsOn, IsOnPath, acts-on, is-of, known-at, some-ticket, verifies, verify-fits}
use Rattle.tpol_laws.proofs.HeldTickets.{found-each, found-stands, held-command, own-ticket, plain-command, stands-other}

-- a reply that is no refusal
abbrev pub IsAcceptance : Reply → Type 0
IsAcceptance (replies.Refused rc) = ⊥
IsAcceptance _ = ⊤

pub record IsHeard (number : ℕ) (bytes : List ℕ) : Type 0 where
  pub reply : Reply
  pub auth : Option ReplyAuth
  pub reads : reply_reading number bytes ≡ Some (reply, auth)
  pub accepts : IsAcceptance reply

read-as : (number : ℕ) (bytes : List ℕ) (reply : Reply) (auth : Option ReplyAuth) → bytes ≡ spell_reply reply auth → FitsReply reply auth → PartsAnswer number (parts_of reply) → IsAcceptance reply → IsHeard number bytes
read-as number bytes reply auth whole fits answers accepts =
    record { reply = reply; auth = auth; reads = reply_read number bytes reply auth (record { whole = whole; fits = fits; answers = answers }); accepts = accepts }

-- ---- areas, deadlines and their tickets

pub password-auth : (tables : TableState) (number : ℕ) (command : Command) (reply : Reply) (area : AuthArea) → area.session ≡ rs_pw → reply_area tables number command reply area ≡ Some password_area
password-auth tables number command reply area same =
    ap (λ b. if b then Some password_area else option_and_then
    (λ entity. option_map (session_area tables number command reply area entity) (state_at tables.sessions area.session))
    (authorized_entity tables command)) (eq-eqb area.session rs_pw same)

pub area-fits : ReplyAuthFits password_area
area-fits = record { nonce = omega arith; attributes = omega arith; hmac = omega arith }

-- a deadline is spelled in eight bytes
wrapped : (n : ℕ) → to_be_bytes w64 n ≡ to_be_bytes w64 (n % 2 ^ 64)
wrapped n =
    let a : (n % 2 ^ 64) / 256 ^ 7 % 256 ≡ n / 256 ^ 7 % 256 = omega arith in
    let b : (n % 2 ^ 64) / 256 ^ 6 % 256 ≡ n / 256 ^ 6 % 256 = omega arith in
    let c : (n % 2 ^ 64) / 256 ^ 5 % 256 ≡ n / 256 ^ 5 % 256 = omega arith in
    let d : (n % 2 ^ 64) / 256 ^ 4 % 256 ≡ n / 256 ^ 4 % 256 = omega arith in
    let e : (n % 2 ^ 64) / 256 ^ 3 % 256 ≡ n / 256 ^ 3 % 256 = omega arith in
    let f : (n % 2 ^ 64) / 256 ^ 2 % 256 ≡ n / 256 ^ 2 % 256 = omega arith in
    let g : (n % 2 ^ 64) / 256 ^ 1 % 256 ≡ n / 256 ^ 1 % 256 = omega arith in
    let h : (n % 2 ^ 64) % 256 ≡ n % 256 = omega arith in
    rw (a, b, c, d, e, f, g, h) refl

short-digest : (digest : Digest32) → length digest.bytes ≤ 64
short-digest digest = omega (arith, digest.whole)

pub record Timed (tag : ℕ) (ticket : Ticket) (given : Option ℕ) : Type 0 where
  pub timeout : Option ℕ
  pub bytes : timeout_bytes given ≡ timeout_bytes timeout
  pub fits : Fits (TimedTicket tag) (timeout, ticket)

pub timed : (world : WorldState) (tag : ℕ) (name : Name) (cp_hash : Option Digest32) (policy_ref : List ℕ) (given : Option ℕ) → tag < 2 ^ 16 → Timed tag (ticket_of world tag name cp_hash policy_ref given) given
unfolding Fits
timed world tag name cp_hash policy_ref None small =
    let same : nat_eq tag tag ≡ true = eq-eqb tag tag refl in
    record {
      timeout = None;
      bytes = refl;
      fits = (tt, record { tag = small; hierarchy = omega arith; digest = omega arith }, rw same refl);
    }
timed world tag name cp_hash policy_ref (Some deadline) small =
    let digest = ticket_digest world tag name cp_hash policy_ref deadline in
    let same : nat_eq tag tag ≡ true = eq-eqb tag tag refl in
    let whole : nat_eq (length (ticket_digest world tag name cp_hash policy_ref deadline).bytes) 32 ≡ true = eq-eqb _ 32 (ticket_digest world tag name cp_hash policy_ref deadline).whole in
    let short : length (ticket_digest world tag name cp_hash policy_ref deadline).bytes ≤ 64 = short-digest (ticket_digest world tag name cp_hash policy_ref deadline) in
    record {
      timeout = Some (deadline % 2 ^ 64);
      bytes = wrapped deadline;
      fits = (omega arith, record { tag = small; hierarchy = omega arith; digest = short }, rw (same, whole) refl);
    }

-- ---- the reply of each policy command

pub policy-heard : (tables : TableState) (number : ℕ) (command : Command) → is_policy_command command ≡ true → IsByPassword (area_of command) → IsHeard (number_of_code (code_of_command command)) (succeeding tables number command).reply
unfolding ValuesFit Fits spell spell_values
policy-heard tables number (commands.PolicyNv authority index own auth operand offset operation) policy area =
    read-as _ _ replies.PolicyNv (Some password_area)
    (ap (spell_reply replies.PolicyNv) (password-auth tables number (commands.PolicyNv authority index own auth operand offset operation) replies.PolicyNv auth area)) (tt, area-fits) refl tt
policy-heard tables number (commands.PolicyAuthorizeNv authority index own auth) policy area =
    read-as _ _ replies.PolicyAuthorizeNv (Some password_area)
    (ap (spell_reply replies.PolicyAuthorizeNv) (password-auth tables number (commands.PolicyAuthorizeNv authority index own auth) replies.PolicyAuthorizeNv auth area)) (tt, area-fits) refl tt
policy-heard tables number (commands.PolicySecret entity own auth nonce cp_hash policy_ref expiration) policy area =
    let command : Command = commands.PolicySecret entity own auth nonce cp_hash policy_ref expiration in
    let given = timeout_of (policy_start tables (commands.PolicySecret entity own auth nonce cp_hash policy_ref expiration)) nonce expiration in
    let ticket = ticket_of tables.world st_auth_secret (name_at tables.world entity) cp_hash policy_ref given in
    let it = timed tables.world st_auth_secret (name_at tables.world entity) cp_hash policy_ref given (omega arith) in
    read-as _ _ (replies.PolicySecret it.timeout ticket) (Some password_area)
    (ap (spell_reply (replies.PolicySecret given ticket)) (password-auth tables number (commands.PolicySecret entity own auth nonce cp_hash policy_ref expiration) (replies.PolicySecret given ticket) auth area)
    ∙ ap (λ (bytes : List ℕ). message_bytes (tag true) 0 (reply_body ((sized bytes ++ ticket_bytes ticket) ++ []) (Some password_area))) it.bytes) ((it.fits, tt), area-fits) refl tt
policy-heard tables number (commands.PolicySigned key own nonce cp_hash policy_ref expiration signature) policy area =
    let given = timeout_of (policy_start tables (commands.PolicySigned key own nonce cp_hash policy_ref expiration signature)) nonce expiration in
    let ticket = ticket_of tables.world st_auth_signed (name_at tables.world key) cp_hash policy_ref given in
    let it = timed tables.world st_auth_signed (name_at tables.world key) cp_hash policy_ref given (omega arith) in
    read-as _ _ (replies.PolicySigned it.timeout ticket) None
    (ap (λ (bytes : List ℕ). message_bytes (tag false) 0 (reply_body ((sized bytes ++ ticket_bytes ticket) ++ []) None)) it.bytes) ((it.fits, tt), refl) refl tt
policy-heard tables number (commands.PolicyCpHash own digest) policy area = read-as _ _ replies.PolicyCpHash None refl (tt, refl) refl tt
policy-heard tables number (commands.PolicyNameHash own digest) policy area = read-as _ _ replies.PolicyNameHash None refl (tt, refl) refl tt
policy-heard tables number (commands.PolicyAuthValue own) policy area = read-as _ _ replies.PolicyAuthValue None refl (tt, refl) refl tt
policy-heard tables number (commands.PolicyPassword own) policy area = read-as _ _ replies.PolicyPassword None refl (tt, refl) refl tt
policy-heard tables number (commands.PolicyPhysicalPresence own) policy area = read-as _ _ replies.PolicyPhysicalPresence None refl (tt, refl) refl tt
policy-heard tables number (commands.PolicyCommandCode own code) policy area = read-as _ _ replies.PolicyCommandCode None refl (tt, refl) refl tt
policy-heard tables number (commands.PolicyCounterTimer own operand offset operation) policy area = read-as _ _ replies.PolicyCounterTimer None refl (tt, refl) refl tt
policy-heard tables number (commands.PolicyLocality own locality) policy area = read-as _ _ replies.PolicyLocality None refl (tt, refl) refl tt
policy-heard tables number (commands.PolicyPcr own given mask) policy area = read-as _ _ replies.PolicyPcr None refl (tt, refl) refl tt
policy-heard tables number (commands.PolicyDuplicationSelect own object parent include) policy area = read-as _ _ replies.PolicyDuplicationSelect None refl (tt, refl) refl tt
policy-heard tables number (commands.PolicyNvWritten own written) policy area = read-as _ _ replies.PolicyNvWritten None refl (tt, refl) refl tt
policy-heard tables number (commands.PolicyTicket own timeout cp_hash policy_ref key ticket) policy area = read-as _ _ replies.PolicyTicket None refl (tt, refl) refl tt
policy-heard tables number (commands.PolicyAuthorize own approved policy_ref key ticket) policy area = read-as _ _ replies.PolicyAuthorize None refl (tt, refl) refl tt
policy-heard tables number (commands.PolicyOr own digests) policy area = read-as _ _ replies.PolicyOr None refl (tt, refl) refl tt
policy-heard tables number command policy area = absurd (false≢true policy)

-- ---- what is heard of it

accepted-stands : (own : ℕ) (nonce : Digest32) (sent done at : ℕ) (ticket : Option Ticket) (act : Move) (reply : Reply) (auth : Option ReplyAuth) → IsAcceptance reply → is_verification ticket act ≡ false
    → goes_on (record { handle = own; nonce = nonce }) sent done (move_heard ticket act at (answer_of_reply reply auth)) ≡ Moving (record { handle = own; nonce = nonce }) (sent + 1) None (done + 1)
accepted-stands own nonce sent done at ticket act (replies.Refused rc) auth accepts other = absurd accepts
accepted-stands own nonce sent done at ticket act reply auth accepts other =
    ap (λ b. goes_on (record { handle = own; nonce = nonce }) sent done (if b then verified at reply else move_heard (Some some-ticket) (Or []) at (answer_of_reply replies.FlushContext None))) other

pub heard-stands : (own : ℕ) (nonce : Digest32) (sent done at number : ℕ) (ticket : Option Ticket) (act : Move) (bytes : List ℕ) → IsHeard number bytes → is_verification ticket act ≡ false
    → goes_on (record { handle = own; nonce = nonce }) sent done (move_heard ticket act at (answer_of (reply_reading number bytes))) ≡ Moving (record { handle = own; nonce = nonce }) (sent + 1) None (done + 1)
heard-stands own nonce sent done at number ticket act bytes is other =
    ap (λ (read : Option (Reply × Option ReplyAuth)). goes_on (record { handle = own; nonce = nonce }) sent done (move_heard ticket act at (answer_of read))) is.reads
    ∙ accepted-stands own nonce sent done at ticket act is.reply is.auth is.accepts other

module _ (run : Run) (is : IsRun run) (past : List Event) (own : ℕ) (nonce : Digest32) (sent done : ℕ) where
  own-heard : (ticket : Option Ticket) (act : Move) (command : Command) → is_verification ticket act ≡ false → IsOwn (view_of run.setup past).world own act command
      → is_success (answer_in run past command).outcome ≡ true
      → HasGoneOn own done (place_of (goes_on (record { handle = own; nonce = nonce }) sent done (move_heard ticket act (done + 1) (answer_of (reply_reading (number_of_code (code_of_command command)) (answer_in run past command).reply)))))
  own-heard ticket act command other made =
      on-answer (λ a. is_success a.outcome ≡ true
      → HasGoneOn own done (place_of (goes_on (record { handle = own; nonce = nonce }) sent done (move_heard ticket act (done + 1) (answer_of (reply_reading (number_of_code (code_of_command command)) a.reply))))))
      (view_of run.setup past) (next_number past) run.locality (spelling command) command (read-back command made.fits)
      (λ stop stops success. absurd (false≢true (sym (stop-fails (view_of run.setup past) run.locality command stop stops) ∙ success)))
      (λ first success. inr (ap place_of (heard-stands own nonce sent done (done + 1) (number_of_code (code_of_command command)) ticket act _
      (policy-heard (view_of run.setup past) (next_number past) command made.policy made.area) other)))

  verify-heard : (key : Name) (policy_ref : List ℕ) (approved signature : Digest32) (handle : ℕ) (digest : Digest32) → FitsCommand (commands.VerifySignature handle digest signature)
      → is_success (answer_in run past (commands.VerifySignature handle digest signature)).outcome ≡ true
      → HasGoneOn own done (place_of (goes_on (record { handle = own; nonce = nonce }) sent done (move_heard None (Approve key policy_ref approved signature) (done + 1)
      (answer_of (reply_reading (number_of_code codes.VerifySignature) (answer_in run past (commands.VerifySignature handle digest signature)).reply)))))
  verify-heard key policy_ref approved signature handle digest fits =
      let command : Command = commands.VerifySignature handle digest signature in
      on-answer (λ a. is_success a.outcome ≡ true
      → HasGoneOn own done (place_of (goes_on (record { handle = own; nonce = nonce }) sent done (move_heard None (Approve key policy_ref approved signature) (done + 1) (answer_of (reply_reading (number_of_code codes.VerifySignature) a.reply))))))
      (view_of run.setup past) (next_number past) run.locality (spelling command) command (read-back (commands.VerifySignature handle digest signature) fits)
      (λ stop stops success. absurd (false≢true (sym (stop-fails (view_of run.setup past) run.locality command stop stops) ∙ success)))
      (λ first success.
      let it = verifies (view_of run.setup past) (next_number past) handle digest signature (own-passed (view_of run.setup past) run.locality (commands.VerifySignature handle digest signature) first) in
      inl (ap (λ (read : Option (Reply × Option ReplyAuth)). place_of (goes_on (record { handle = own; nonce = nonce }) sent done (move_heard None (Approve key policy_ref approved signature) (done + 1) (answer_of read)))) it.reads))

  -- what the turn of a move comes to
  abbrev Goes : List DirEntry → Option Ticket → Move → Type 0
  Goes directory ticket act =
      is_success (answer_in run past (command_of_move directory run.plan.grants (record { handle = own; nonce = nonce }) ticket act)).outcome ≡ true
      → HasGoneOn own done (place_of (goes_on (record { handle = own; nonce = nonce }) sent done (move_heard ticket act (done + 1)
      (answer_of (reply_reading (number_of_code (code_of_command (command_of_move directory run.plan.grants (record { handle = own; nonce = nonce }) ticket act)))
      (answer_in run past (command_of_move directory run.plan.grants (record { handle = own; nonce = nonce }) ticket act)).reply)))))

  own-goes : (ticket : Option Ticket) (act : Move) → IsOnPath run past own ticket done → MoveHasBounds act → is_known_move (directory_of run.setup) run.plan.grants act ≡ true → is_verification ticket act ≡ false
      → Goes (directory_of run.setup) ticket act
  own-goes ticket act on bounds known other =
      own-heard ticket act (command_of_move (directory_of run.setup) run.plan.grants (record { handle = own; nonce = nonce }) ticket act) other
      (own-move run.setup is.setup (view_of run.setup past).world (is-of run.setup past) run.plan.grants is.grants own nonce on.slot ticket act on.fits bounds known other)

  move-goes : (ticket : Option Ticket) (act : Move) → IsOnPath run past own ticket done → MoveHasBounds act → is_known_move (directory_of run.setup) run.plan.grants act ≡ true
      → Goes (directory_of run.setup) ticket act
  move-goes None (Approve key policy_ref approved signature) on bounds known =
      verify-heard key policy_ref approved signature (key_handle (directory_of run.setup) key) (sha256_digest (approved.bytes ++ policy_ref))
      (verify-fits run is past own nonce sent done key (sha256_digest (approved.bytes ++ policy_ref)) signature (object_of_name (directory_of run.setup) key) refl known)
  move-goes None (Assert assertion) on bounds known = own-goes None (Assert assertion) on bounds known refl
  move-goes None (Or digests) on bounds known = own-goes None (Or digests) on bounds known refl
  move-goes None (ApproveNv index approved) on bounds known = own-goes None (ApproveNv index approved) on bounds known refl
  move-goes (Some ticket) act on bounds known = own-goes (Some ticket) act on bounds known refl

  path-goes : (ticket : Option Ticket) (o : Option Move) → slice_get run.plan.path.moves done ≡ o → done < length run.plan.path.moves → IsOnPath run past own ticket done
      → is_success (answer_in run past (next_command run.plan (record { handle = own; nonce = nonce }) sent ticket o)).outcome ≡ true
      → HasGoneOn own done (place_of (heard_on_path run.plan (record { handle = own; nonce = nonce }) sent ticket done o (answer_of (reply_reading (number_of_code (code_of_command (next_command run.plan (record { handle = own; nonce = nonce }) sent ticket o)))
      (answer_in run past (next_command run.plan (record { handle = own; nonce = nonce }) sent ticket o)).reply))))
  path-goes ticket None at within on success = absurd (left (slice_get_cases run.plan.path.moves done).1)
    where
      left : ((x : Move) × (done < length run.plan.path.moves) × (slice_get run.plan.path.moves done ≡ Some x) × (get_or run.plan.path.moves done x ≡ x)) ⊎ ((length run.plan.path.moves ≤ done) × (slice_get run.plan.path.moves done ≡ None)) → ⊥
      left (inl found) = none-some found.0 (sym at ∙ found.2)
      left (inr beyond) = absurd (omega (arith, within, beyond.0))
  path-goes ticket (Some act) at within on success = by (ticket_for run.plan.tickets act) refl
    where
      by : (o : Option HeldTicket) → ticket_for run.plan.tickets act ≡ o
          → HasGoneOn own done (place_of (heard_on_path run.plan (record { handle = own; nonce = nonce }) sent ticket done (Some act) (answer_of (reply_reading (number_of_code (code_of_command (next_command run.plan (record { handle = own; nonce = nonce }) sent ticket (Some act))))
          (answer_in run past (next_command run.plan (record { handle = own; nonce = nonce }) sent ticket (Some act))).reply))))
      by None none =
          subst (λ (c : Command). is_success (answer_in run past c).outcome ≡ true
          → HasGoneOn own done (place_of (heard_on_path run.plan (record { handle = own; nonce = nonce }) sent ticket done (Some act) (answer_of (reply_reading (number_of_code (code_of_command c)) (answer_in run past c).reply)))))
          (sym (plain-command run.plan (record { handle = own; nonce = nonce }) ticket act none))
          (subst (λ (d : List DirEntry). is_known_move d run.plan.grants act ≡ true → Goes d ticket act) (sym is.directory)
          (move-goes ticket act on (all-at MoveHasBounds run.plan.path.moves done act is.moves at)) (known-at run is past own nonce sent done act at)) success
      by (Some held) found =
          let stands = found-stands run.plan.tickets act held found in
          let made = own-ticket (view_of run.setup past).world own nonce on.slot held (found-each TicketHasBounds run.plan.tickets act held is.tickets found) act stands (all-at MoveHasBounds run.plan.path.moves done act is.moves at) in
          subst (λ (c : Command). is_success (answer_in run past c).outcome ≡ true
          → HasGoneOn own done (place_of (heard_on_path run.plan (record { handle = own; nonce = nonce }) sent ticket done (Some act) (answer_of (reply_reading (number_of_code (code_of_command c)) (answer_in run past c).reply)))))
          (sym (held-command run.plan (record { handle = own; nonce = nonce }) ticket act held found))
          (own-heard ticket act (ticket_command (record { handle = own; nonce = nonce }) held) (stands-other held ticket act stands) made) success

-- ---- a run on its path

goes-at : (run : Run) → IsRun run → (past : List Event) (standing : Standing) (own done : ℕ) → IsOn run past standing → place_of standing ≡ Some (own, done) → done < length run.plan.path.moves
    → succeeds run (record { past = past; standing = standing }) (sends run.plan standing) ≡ true
    → HasGoneOn own done (place_of (turned run (record { past = past; standing = standing }) (sends run.plan standing)).standing)
goes-at run is past Starting own done on at within success = absurd (none-some (own, done) at)
goes-at run is past (Moving session sent ticket now) own done on at within success =
    let same : (session.handle, now) ≡ (own, done) = same_Some _ _ at in
    subst (λ (place : ℕ × ℕ). HasGoneOn place.0 place.1 (place_of (turned run (record { past = past; standing = Moving session sent ticket now }) (sends run.plan (Moving session sent ticket now))).standing)) same
    (path-goes run is past session.handle session.nonce sent now ticket (slice_get run.plan.path.moves now) refl
    (subst (λ (n : ℕ). n < length run.plan.path.moves) (sym (ap (λ (place : ℕ × ℕ). place.1) same)) within) on success)
goes-at run is past (Closing session end) own done on at within success = absurd (none-some (own, done) at)
goes-at run is past (Over end) own done on at within success = absurd (none-some (own, done) at)

pub success-goes-on : (run : Run) (past : List Event) (acts : List Act) (session done : ℕ) → IsRun run → AreOthersApart run acts (begun past) → AreSecretsOnWritten run acts (begun past)
    → place_of (after_acts run acts (begun past)).standing ≡ Some (session, done) → done < length run.plan.path.moves
    → succeeds run (after_acts run acts (begun past)) (sends run.plan (after_acts run acts (begun past)).standing) ≡ true
    → HasGoneOn session done (place_of (turned run (after_acts run acts (begun past)) (sends run.plan (after_acts run acts (begun past)).standing)).standing)
success-goes-on run past acts session done is apart secrets at within success =
    goes-at run is (after_acts run acts (begun past)).past (after_acts run acts (begun past)).standing session done (acts-on run is acts (begun past) tt apart secrets) at within success

-- ---- the start

start-goes : (run : Run) (past : List Event) (seed : Digest32) → is_success (answer_in run past (start_command seed)).outcome ≡ true
    → option_map (λ (place : ℕ × ℕ). place.1) (place_of (start_heard (answer_of (reply_reading (number_of_code codes.StartAuthSession) (answer_in run past (start_command seed)).reply)))) ≡ Some 0
start-goes run past seed =
    on-answer (λ a. is_success a.outcome ≡ true → option_map (λ (place : ℕ × ℕ). place.1) (place_of (start_heard (answer_of (reply_reading (number_of_code codes.StartAuthSession) a.reply)))) ≡ Some 0)
    (view_of run.setup past) (next_number past) run.locality (spelling (start_command seed)) (start_command seed) (read-back (start_command seed) (fits-start seed))
    (λ stop stops success. absurd (false≢true (sym (stop-fails (view_of run.setup past) run.locality (start_command seed) stop stops) ∙ success)))
    (λ first success.
    let start = started (view_of run.setup past) (next_number past) (own-passed (view_of run.setup past) run.locality (start_command seed) first) in
    ap (λ (read : Option (Reply × Option ReplyAuth)). option_map (λ (place : ℕ × ℕ). place.1) (place_of (start_heard (answer_of read)))) start.is.reads)

pub success-starts : (run : Run) (past : List Event) → succeeds run (begun past) (sends run.plan Starting) ≡ true
    → option_map (λ (place : ℕ × ℕ). place.1) (place_of (turned run (begun past) (sends run.plan Starting)).standing) ≡ Some 0
success-starts run past success = start-goes run past run.plan.nonce_seed success
