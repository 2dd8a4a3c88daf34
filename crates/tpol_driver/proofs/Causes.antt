-- A reply that is read answers the command that was sent: so the cases of other replies never come.
use Rattle.std.proofs.Common.{cond, ◌≡◌, ◌⊎◌, ℕ, Bool, true, false, ◌∙◌, sym, ap, subst, inl, inr, refl, arith, List, [], ◌∷◌, Option, Some, None, unwrap_or, Ok}
use Rattle.std.specs.Option.{option_map_or}
use Rattle.tpol_base.specs.CommandCode.{code_of_number, number_of_code}
use Rattle.tpol_base.specs.declared.command_code.CommandCode.{CommandCode}
use Rattle.tpol_base.specs.declared.command_code.CommandCode.TheVariants as codes
use Rattle.tpol_driver.specs.Answers.{answer_of, answer_of_reply}
use Rattle.tpol_driver.specs.Causes.{HasWrongArea, IsBytes}
use Rattle.tpol_driver.specs.Blind as blind
use Rattle.tpol_driver.specs.Blind.{restart_heard}
use Rattle.tpol_driver.specs.Driving.{Over, goal_heard, is_verification, move_heard, stage_of_move, start_heard, verified}
use Rattle.tpol_driver.specs.GoalUse.{bytes_of_reply, is_right_area}
use Rattle.tpol_driver.specs.Tickets.{command_on_path, ticket_for}
use Rattle.tpol_driver.specs.declared.answer.Answer.{Answer}
use Rattle.tpol_driver.specs.declared.answer.Answer.TheVariants.{Done, Denied, Malformed}
use Rattle.tpol_driver.specs.declared.blind_end.BlindEnd.TheVariants as blind_ends
use Rattle.tpol_driver.specs.declared.blind_end.Tried.{Tried}
use Rattle.tpol_driver.specs.declared.tickets.HeldTicket.{HeldTicket}
use Rattle.tpol_driver.proofs.MoveLaws.{code_of_path_command}
use Rattle.tpol_driver.specs.declared.end.End.{End}
use Rattle.tpol_driver.specs.declared.end.End.TheVariants as ends
use Rattle.tpol_driver.specs.declared.end.Stage.TheVariants as stages
use Rattle.tpol_driver.specs.declared.plan.Plan.{Plan}
use Rattle.tpol_base.specs.declared.digest.Digest32.{Digest32}
use Rattle.tpol_base.specs.declared.name.Name.{Name}
use Rattle.tpol_driver.specs.declared.session.Session.{Session}
use Rattle.tpol_driver.specs.declared.step.Heard.TheVariants.{Accepted, Failed}
use Rattle.tpol_tree.specs.declared.path.Move.{Move}
use Rattle.tpol_tree.specs.declared.path.Move.TheVariants.{Approve}
use Rattle.tpol_goal.specs.declared.goal.Goal.{Goal}
use Rattle.tpol_goal.specs.declared.goal.Goal.TheVariants as goals
use Rattle.tpol_goal.specs.Goals.{code_of_goal}
use Rattle.tpol_wire.proofs.ReplyLaws.{given_reply}
use Rattle.tpol_wire.proofs.RowLaws.{code_again}
use Rattle.tpol_wire.specs.declared.auth_area.ReplyAuth.{ReplyAuth}
use Rattle.tpol_wire.specs.declared.reply.Reply.{Reply}
use Rattle.tpol_wire.specs.declared.reply.Reply.TheVariants as replies
use Rattle.tpol_fields.specs.declared.ticket.Ticket.{Ticket}
use Rattle.tpol_wire.specs.Commands.{code_of_command}
use Rattle.tpol_wire.specs.Replies.{AuthFits, Parts, PartsAnswer, PartsFit, Refusal, Served, SpellsReply, parts_of}
use Rattle.tpol_wire.specs.ReplyReading.{reply_reading}
use Rattle.tpol_wire.specs.Rows.{row}

-- ---- StartAuthSession

start_not_bad : (reply : Reply) (auth : Option ReplyAuth) → PartsAnswer (number_of_code codes.StartAuthSession) (parts_of reply) → start_heard (answer_of_reply reply auth) ≡ Over (ends.BadReply stages.Start) → ⊥
start_not_bad (replies.StartAuthSession session nonce) auth answers bad = cc
start_not_bad (replies.Refused rc) auth answers bad = cc
start_not_bad reply auth answers bad = omega (arith, answers)

start_cases : (read : Option (Reply × Option ReplyAuth)) → ((reply : Reply) (auth : Option ReplyAuth) → read ≡ Some (reply, auth) → PartsAnswer (number_of_code codes.StartAuthSession) (parts_of reply)) → start_heard (answer_of read) ≡ Over (ends.BadReply stages.Start) → read ≡ None
start_cases None answers bad = refl
start_cases (Some found) answers bad = absurd (start_not_bad found.0 found.1 (answers found.0 found.1 refl) bad)

spelled : (number : ℕ) (bytes : List ℕ) (reply : Reply) (auth : Option ReplyAuth) → IsBytes bytes → reply_reading number bytes ≡ Some (reply, auth) → SpellsReply number bytes reply auth
spelled number bytes reply auth fits read = given_reply number bytes (Ok (reply, auth)) fits read

pub bad_start : (bytes : List ℕ) → IsBytes bytes → start_heard (answer_of (reply_reading (number_of_code codes.StartAuthSession) bytes)) ≡ Over (ends.BadReply stages.Start) → reply_reading (number_of_code codes.StartAuthSession) bytes ≡ None
bad_start bytes fits bad = start_cases _ (λ reply auth read. (spelled _ bytes reply auth fits read).answers) bad

-- ---- VerifySignature

verify_not_bad : (key : Name) (policy_ref : List ℕ) (approved signature : Digest32) (at : ℕ) (reply : Reply) (auth : Option ReplyAuth) → PartsAnswer (number_of_code codes.VerifySignature) (parts_of reply) → move_heard None (Approve key policy_ref approved signature) at (answer_of_reply reply auth) ≡ Failed (ends.BadReply (stages.Verify at)) → ⊥
verify_not_bad key policy_ref approved signature at (replies.VerifySignature ticket) auth answers bad = cc
verify_not_bad key policy_ref approved signature at (replies.Refused rc) auth answers bad = cc
verify_not_bad key policy_ref approved signature at reply auth answers bad = omega (arith, answers)

verify_cases : (key : Name) (policy_ref : List ℕ) (approved signature : Digest32) (at : ℕ) (read : Option (Reply × Option ReplyAuth)) → ((reply : Reply) (auth : Option ReplyAuth) → read ≡ Some (reply, auth) → PartsAnswer (number_of_code codes.VerifySignature) (parts_of reply)) → move_heard None (Approve key policy_ref approved signature) at (answer_of read) ≡ Failed (ends.BadReply (stages.Verify at)) → read ≡ None
verify_cases key policy_ref approved signature at None answers bad = refl
verify_cases key policy_ref approved signature at (Some found) answers bad = absurd (verify_not_bad key policy_ref approved signature at found.0 found.1 (answers found.0 found.1 refl) bad)

bad_verify : (key : Name) (policy_ref : List ℕ) (approved signature : Digest32) (at : ℕ) (bytes : List ℕ) → IsBytes bytes → move_heard None (Approve key policy_ref approved signature) at (answer_of (reply_reading (number_of_code codes.VerifySignature) bytes)) ≡ Failed (ends.BadReply (stages.Verify at)) → reply_reading (number_of_code codes.VerifySignature) bytes ≡ None
bad_verify key policy_ref approved signature at bytes fits bad =
    verify_cases key policy_ref approved signature at _ (λ reply auth read. (spelled _ bytes reply auth fits read).answers) bad

-- ---- the other commands of moves: any reply that is read is accepted or is a refusal

reply_not_malformed : (reply : Reply) (auth : Option ReplyAuth) → answer_of_reply reply auth ≡ Malformed → ⊥
reply_not_malformed (replies.Refused rc) auth malformed = cc
reply_not_malformed reply auth malformed = cc

malformed_reading : (read : Option (Reply × Option ReplyAuth)) → answer_of read ≡ Malformed → read ≡ None
malformed_reading None malformed = refl
malformed_reading (Some found) malformed = absurd (reply_not_malformed found.0 found.1 malformed)

done_not_failed : (verifies : Bool) (at : ℕ) (reply : Reply) (end : End) → verifies ≡ false → cond verifies (verified at reply) Accepted ≡ Failed end → ⊥
done_not_failed true at reply end plain bad = cc
done_not_failed false at reply end plain bad = cc

plain_bad : (ticket : Option Ticket) (act : Move) (at : ℕ) (answer : Answer) → is_verification ticket act ≡ false → move_heard ticket act at answer ≡ Failed (ends.BadReply (stage_of_move ticket act at)) → answer ≡ Malformed
plain_bad ticket act at (Done reply auth) plain bad = absurd (done_not_failed (is_verification ticket act) at reply _ plain bad)
plain_bad ticket act at (Denied rc) plain bad = absurd cc
plain_bad ticket act at Malformed plain bad = refl

-- no ticket stands for an approval
none_for_approval : (tickets : List HeldTicket) (key : Name) (policy_ref : List ℕ) (approved signature : Digest32) → ticket_for tickets (Approve key policy_ref approved signature) ≡ None
none_for_approval [] key policy_ref approved signature = refl
none_for_approval (held ∷ rest) key policy_ref approved signature = none_for_approval rest key policy_ref approved signature

verifies : (plan : Plan) (session : Session) (key : Name) (policy_ref : List ℕ) (approved signature : Digest32) → code_of_command (command_on_path plan session None (Approve key policy_ref approved signature)) ≡ codes.VerifySignature
verifies plan session key policy_ref approved signature =
    code_of_path_command plan session None (Approve key policy_ref approved signature)
    ∙ ap (λ (held : Option HeldTicket). option_map_or (λ (h : HeldTicket). codes.PolicyTicket) held codes.VerifySignature) (none_for_approval plan.tickets key policy_ref approved signature)

pub bad_move : (plan : Plan) (session : Session) (ticket : Option Ticket) (act : Move) (at : ℕ) (bytes : List ℕ) → IsBytes bytes → move_heard ticket act at (answer_of (reply_reading (number_of_code (code_of_command (command_on_path plan session ticket act))) bytes)) ≡ Failed (ends.BadReply (stage_of_move ticket act at)) → reply_reading (number_of_code (code_of_command (command_on_path plan session ticket act))) bytes ≡ None
bad_move plan session None (Approve key policy_ref approved signature) at bytes fits bad =
    let P : CommandCode → Type 0 = λ code. move_heard None (Approve key policy_ref approved signature) at (answer_of (reply_reading (number_of_code code) bytes)) ≡ Failed (ends.BadReply (stages.Verify at)) → reply_reading (number_of_code code) bytes ≡ None in
    subst P (sym (verifies plan session key policy_ref approved signature)) (bad_verify key policy_ref approved signature at bytes fits) bad
bad_move plan session None act at bytes fits bad = malformed_reading _ (plain_bad None act at _ refl bad)
bad_move plan session (Some ticket) act at bytes fits bad = malformed_reading _ (plain_bad (Some ticket) act at _ refl bad)

-- ---- PolicyRestart

restart_not_bad : (session : Session) (sent place : ℕ) (tries : List Tried) (reply : Reply) (auth : Option ReplyAuth) → restart_heard session sent place tries (answer_of_reply reply auth) ≡ blind.Closing session.handle (blind_ends.BadReply stages.Restart) → ⊥
restart_not_bad session sent place tries (replies.Refused rc) auth bad = cc
restart_not_bad session sent place tries reply auth bad = cc

restart_cases : (session : Session) (sent place : ℕ) (tries : List Tried) (read : Option (Reply × Option ReplyAuth)) → restart_heard session sent place tries (answer_of read) ≡ blind.Closing session.handle (blind_ends.BadReply stages.Restart) → read ≡ None
restart_cases session sent place tries None bad = refl
restart_cases session sent place tries (Some found) bad = absurd (restart_not_bad session sent place tries found.0 found.1 bad)

pub bad_restart : (session : Session) (sent place : ℕ) (tries : List Tried) (bytes : List ℕ) → restart_heard session sent place tries (answer_of (reply_reading (number_of_code codes.PolicyRestart) bytes)) ≡ blind.Closing session.handle (blind_ends.BadReply stages.Restart) → reply_reading (number_of_code codes.PolicyRestart) bytes ≡ None
bad_restart session sent place tries bytes bad = restart_cases session sent place tries _ bad

-- ---- the goal

is_authorized_goal : (goal : Goal) → (row (code_of_goal goal)).is_authorized ≡ true
is_authorized_goal (goals.Unseal object) = refl
is_authorized_goal (goals.Hmac key buffer) = refl
is_authorized_goal (goals.NvRead index size offset) = refl
is_authorized_goal (goals.NvWrite index offset bytes) = refl
is_authorized_goal (goals.NvIncrement index) = refl
is_authorized_goal (goals.Duplicate object parent) = refl

same_code : (a b : CommandCode) → number_of_code a ≡ number_of_code b → a ≡ b
same_code a b numbers = ap (λ (o : Option CommandCode). unwrap_or o b) (sym (code_again a) ∙ ap code_of_number numbers ∙ code_again b)

-- a reply of the goal's command has an authorization
abbrev HasArea : Parts → Option ReplyAuth → Type 0
HasArea (Served code values) None = ⊥
HasArea parts auth = Unit {0}

area_is_there : (goal : Goal) (parts : Parts) (auth : Option ReplyAuth) → PartsFit parts auth → PartsAnswer (number_of_code (code_of_goal goal)) parts → HasArea parts auth
area_is_there goal (Served code values) None fits answers =
    let P : CommandCode → Type 0 = λ c. AuthFits (row c).is_authorized None in
    let Q : Bool → Type 0 = λ b. AuthFits b None in
    subst Q (is_authorized_goal goal) (subst P (same_code code (code_of_goal goal) answers) fits.1)
area_is_there goal (Served code values) (Some area) fits answers = tt
area_is_there goal (Refusal rc) None fits answers = tt
area_is_there goal (Refusal rc) (Some area) fits answers = tt

wrong_area : (right : Bool) (bytes : List ℕ) → cond right (ends.Served bytes) (ends.BadReply stages.Goal) ≡ ends.BadReply stages.Goal → right ≡ false
wrong_area true bytes bad = cc
wrong_area false bytes bad = refl

goal_found : (plan : Plan) (number : ℕ) (reply : Reply) (auth : Option ReplyAuth) → HasArea (parts_of reply) auth → goal_heard plan number (answer_of_reply reply auth) ≡ ends.BadReply stages.Goal → HasWrongArea plan number (Some (reply, auth))
goal_found plan number (replies.Refused rc) auth there bad = absurd cc
goal_found plan number reply None there bad = absurd there
goal_found plan number reply (Some area) there bad = (reply, area, refl, wrong_area (is_right_area plan number reply area) (bytes_of_reply reply) bad)

goal_cases : (plan : Plan) (number : ℕ) (read : Option (Reply × Option ReplyAuth)) → ((reply : Reply) (auth : Option ReplyAuth) → read ≡ Some (reply, auth) → HasArea (parts_of reply) auth) → goal_heard plan number (answer_of read) ≡ ends.BadReply stages.Goal → (read ≡ None) ⊎ HasWrongArea plan number read
goal_cases plan number None there bad = inl refl
goal_cases plan number (Some found) there bad = inr (goal_found plan number found.0 found.1 (there found.0 found.1 refl) bad)

pub bad_goal : (plan : Plan) (number : ℕ) (bytes : List ℕ) → IsBytes bytes → goal_heard plan number (answer_of (reply_reading (number_of_code (code_of_goal plan.goal)) bytes)) ≡ ends.BadReply stages.Goal → (reply_reading (number_of_code (code_of_goal plan.goal)) bytes ≡ None) ⊎ HasWrongArea plan number (reply_reading (number_of_code (code_of_goal plan.goal)) bytes)
bad_goal plan number bytes fits bad =
    goal_cases plan number _ (λ reply auth read. let s = spelled _ bytes reply auth fits read in area_is_there plan.goal (parts_of reply) auth s.fits s.answers) bad
