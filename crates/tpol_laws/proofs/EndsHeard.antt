-- A run ends denied exactly where it hears a refusal, and by a bad reply where it hears none.
use Rattle.std.proofs.Common.{◌≡◌, ◌↔◌, ℕ, ◌+◌, Bool, true, false, if◌then◌else◌, List, [], slice_get, refl, ap, sym, ◌∙◌}
use Rattle.std.specs.Prelude.{Option, Some, None, option_map}
use Rattle.std.proofs.lemmas.Option.{none-some, same_Some}
use Rattle.tpol_base.specs.declared.rc.Rc.{Rc}
use Rattle.tpol_driver.specs.declared.end.End.{End}
use Rattle.tpol_driver.specs.declared.end.End.TheVariants as ends
use Rattle.tpol_driver.specs.declared.end.Stage.TheVariants as stages
use Rattle.tpol_driver.specs.declared.plan.Plan.{Plan}
use Rattle.tpol_driver.specs.declared.session.Session.{Session}
use Rattle.tpol_driver.specs.Answers.{answer_of, answer_of_reply}
use Rattle.tpol_driver.specs.Driving.{Closing, Moving, Over, Standing, Starting, after_goal, code_sent, goal_done, goal_heard, goes_on, heard_on_path, hears, is_verification, move_heard, sends, stage_of_move, start_heard, verified}
use Rattle.tpol_driver.specs.GoalUse.{bytes_of_reply, is_right_area}
use Rattle.tpol_fields.specs.declared.ticket.Ticket.{Ticket}
use Rattle.tpol_tree.specs.declared.path.Move.{Move}
use Rattle.tpol_tree.specs.declared.path.Move.TheVariants.{Or}
use Rattle.tpol_wire.specs.declared.auth_area.ReplyAuth.{ReplyAuth}
use Rattle.tpol_wire.specs.declared.reply.Reply.{Reply}
use Rattle.tpol_wire.specs.declared.reply.Reply.TheVariants as replies
use Rattle.tpol_wire.specs.ReplyReading.{reply_reading}
use Rattle.tpol_laws.specs.Replies.{IsNoReply, IsRefusal}
use Rattle.tpol_laws.proofs.Step.{some-ticket}

abbrev Read : Type 0
Read = Option (Reply × Option ReplyAuth)

abbrev first : Read → Option Reply
first read = option_map (λ (found : Reply × Option ReplyAuth). found.0) read

-- ---- whether an end is a denial with a code

abbrev denied_code : End → Option Rc
denied_code (ends.Denied stage rc) = Some rc
denied_code end = None

abbrev end_in : Standing → Option End
end_in (Closing session end) = Some end
end_in (Over end) = Some end
end_in at = None

abbrev code_in : Option End → Option Rc
code_in None = None
code_in (Some end) = denied_code end

abbrev code_at : Standing → Option Rc
code_at at = code_in (end_in at)

abbrev refused_code : Option Reply → Option Rc
refused_code None = None
refused_code (Some (replies.Refused rc)) = Some rc
refused_code (Some reply) = None

refusal-is : (reply : Option Reply) (rc : Rc) → refused_code reply ≡ Some rc → reply ≡ Some (replies.Refused rc)
refusal-is None rc e = absurd (none-some rc e)
refusal-is (Some (replies.Refused other)) rc e = ap (λ (r : Rc). Some (replies.Refused r)) (same_Some other rc e)
refusal-is (Some reply) rc e = absurd (none-some rc e)

-- ---- the start

start-reply-code : (reply : Reply) (auth : Option ReplyAuth) → code_at (start_heard (answer_of_reply reply auth)) ≡ refused_code (Some reply)
start-reply-code (replies.Refused rc) auth = refl
start-reply-code (replies.StartAuthSession session nonce) auth = refl
start-reply-code reply auth = refl

start-code : (read : Read) → code_at (start_heard (answer_of read)) ≡ refused_code (first read)
start-code None = refl
start-code (Some found) = start-reply-code found.0 found.1

start-is : (read : Read) (rc : Rc) → first read ≡ Some (replies.Refused rc) → start_heard (answer_of read) ≡ Over (ends.Denied stages.Start rc)
start-is None rc e = absurd (none-some _ e)
start-is (Some found) rc e = ap (λ (reply : Reply). start_heard (answer_of_reply reply found.1)) (same_Some found.0 (replies.Refused rc) e)

pub start-denied : (plan : Plan) (bytes : List ℕ) (rc : Rc) → (hears plan Starting bytes ≡ Over (ends.Denied stages.Start rc)) ↔ IsRefusal plan Starting bytes rc
start-denied plan bytes rc =
    let read = reply_reading (code_sent (sends plan Starting)) bytes in (
      λ ends. refusal-is (first read) rc (sym (start-code read) ∙ ap code_at ends),
      λ refused. start-is read rc refused,
    )

none-first : (read : Read) → first read ≡ None → read ≡ None
none-first None e = refl
none-first (Some found) e = absurd (none-some found.0 (sym e))

pub start-bad : (plan : Plan) (bytes : List ℕ) → IsNoReply plan Starting bytes → hears plan Starting bytes ≡ Over (ends.BadReply stages.Start)
start-bad plan bytes none = ap (λ (read : Read). start_heard (answer_of read)) (none-first (reply_reading (code_sent (sends plan Starting)) bytes) none)

-- ---- a move

module _ (session : Session) (sent done : ℕ) (ticket : Option Ticket) (act : Move) where
  abbrev goes : Read → Standing
  goes read = goes_on session sent done (move_heard ticket act (done + 1) (answer_of read))

  verified-code : (at : ℕ) (reply : Reply) → code_at (goes_on session sent done (verified at reply)) ≡ None
  verified-code at (replies.VerifySignature made) = refl
  verified-code at reply = refl

  by-code : (b : Bool) (at : ℕ) (reply : Reply) → code_at (goes_on session sent done (if b then verified at reply else move_heard (Some some-ticket) (Or []) at (answer_of_reply replies.FlushContext None))) ≡ None
  by-code true at reply = verified-code at reply
  by-code false at reply = refl

  reply-code : (reply : Reply) (auth : Option ReplyAuth) → code_at (goes_on session sent done (move_heard ticket act (done + 1) (answer_of_reply reply auth))) ≡ refused_code (Some reply)
  reply-code (replies.Refused rc) auth = refl
  reply-code reply auth = by-code (is_verification ticket act) (done + 1) reply

  move-code : (read : Read) → code_at (goes read) ≡ refused_code (first read)
  move-code None = refl
  move-code (Some found) = reply-code found.0 found.1

  move-is : (read : Read) (rc : Rc) → first read ≡ Some (replies.Refused rc) → goes read ≡ Closing session.handle (ends.Denied (stage_of_move ticket act (done + 1)) rc)
  move-is None rc e = absurd (none-some _ e)
  move-is (Some found) rc e =
      ap (λ (reply : Reply). goes_on session sent done (move_heard ticket act (done + 1) (answer_of_reply reply found.1))) (same_Some found.0 (replies.Refused rc) e)

  module _ (plan : Plan) (at : slice_get plan.path.moves done ≡ Some act) (bytes : List ℕ) where
    here : hears plan (Moving session sent ticket done) bytes ≡ goes (reply_reading (code_sent (sends plan (Moving session sent ticket done))) bytes)
    here = ap (λ (o : Option Move). heard_on_path plan session sent ticket done o (answer_of (reply_reading (code_sent (sends plan (Moving session sent ticket done))) bytes))) at

    pub move-denied : (rc : Rc) → (hears plan (Moving session sent ticket done) bytes ≡ Closing session.handle (ends.Denied (stage_of_move ticket act (done + 1)) rc)) ↔ IsRefusal plan (Moving session sent ticket done) bytes rc
    move-denied rc =
        let read = reply_reading (code_sent (sends plan (Moving session sent ticket done))) bytes in (
          λ ends. refusal-is (first read) rc (sym (move-code read) ∙ ap code_at (sym here ∙ ends)),
          λ refused. here ∙ move-is read rc refused,
        )

    pub move-bad : IsNoReply plan (Moving session sent ticket done) bytes → hears plan (Moving session sent ticket done) bytes ≡ Closing session.handle (ends.BadReply (stage_of_move ticket act (done + 1)))
    move-bad none = here ∙ ap goes (none-first (reply_reading (code_sent (sends plan (Moving session sent ticket done))) bytes) none)

-- ---- the goal

after-code : (session : ℕ) (end : End) → code_at (after_goal session end) ≡ denied_code end
after-code session (ends.Served bytes) = refl
after-code session (ends.Denied stage rc) = refl
after-code session (ends.BadReply stage) = refl

module _ (plan : Plan) (session : Session) (sent : ℕ) where
  abbrev ends_by : Read → Standing
  ends_by read = after_goal session.handle (goal_heard plan sent (answer_of read))

  done-code : (reply : Reply) (auth : Option ReplyAuth) → denied_code (goal_done plan sent reply auth) ≡ None
  done-code reply None = refl
  done-code reply (Some area) = elim (is_right_area plan sent reply area) as (λ b. denied_code (if b then ends.Served (bytes_of_reply reply) else ends.BadReply stages.Goal) ≡ None) [ true ↦ refl | false ↦ refl ]

  goal-reply-code : (reply : Reply) (auth : Option ReplyAuth) → denied_code (goal_heard plan sent (answer_of_reply reply auth)) ≡ refused_code (Some reply)
  goal-reply-code (replies.Refused rc) auth = refl
  goal-reply-code reply auth = done-code reply auth

  goal-code : (read : Read) → code_at (ends_by read) ≡ refused_code (first read)
  goal-code None = refl
  goal-code (Some found) = after-code session.handle (goal_heard plan sent (answer_of_reply found.0 found.1)) ∙ goal-reply-code found.0 found.1

  goal-is : (read : Read) (rc : Rc) → first read ≡ Some (replies.Refused rc) → ends_by read ≡ Closing session.handle (ends.Denied stages.Goal rc)
  goal-is None rc e = absurd (none-some _ e)
  goal-is (Some found) rc e = ap (λ (reply : Reply). after_goal session.handle (goal_heard plan sent (answer_of_reply reply found.1))) (same_Some found.0 (replies.Refused rc) e)

  module _ (ticket : Option Ticket) (done : ℕ) (at : slice_get plan.path.moves done ≡ None) (bytes : List ℕ) where
    there : hears plan (Moving session sent ticket done) bytes ≡ ends_by (reply_reading (code_sent (sends plan (Moving session sent ticket done))) bytes)
    there = ap (λ (o : Option Move). heard_on_path plan session sent ticket done o (answer_of (reply_reading (code_sent (sends plan (Moving session sent ticket done))) bytes))) at

    pub goal-denied : (rc : Rc) → (hears plan (Moving session sent ticket done) bytes ≡ Closing session.handle (ends.Denied stages.Goal rc)) ↔ IsRefusal plan (Moving session sent ticket done) bytes rc
    goal-denied rc =
        let read = reply_reading (code_sent (sends plan (Moving session sent ticket done))) bytes in (
          λ ends. refusal-is (first read) rc (sym (goal-code read) ∙ ap code_at (sym there ∙ ends)),
          λ refused. there ∙ goal-is read rc refused,
        )

    pub goal-bad : IsNoReply plan (Moving session sent ticket done) bytes → hears plan (Moving session sent ticket done) bytes ≡ Closing session.handle (ends.BadReply stages.Goal)
    goal-bad none = there ∙ ap ends_by (none-first (reply_reading (code_sent (sends plan (Moving session sent ticket done))) bytes) none)
