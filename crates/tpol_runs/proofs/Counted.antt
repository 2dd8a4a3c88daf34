-- Tickets with the reset counts at which they were answered.
use Rattle.std.proofs.Common.{◌≡◌, ◌∙◌, false, refl, ap, subst, sym, ℕ, zero, suc, ◌+◌, ◌<◌, ◌≤◌, List, [], ◌∷◌, ◌++◌, length, map, get_or, take, Option, Some, None, add-one, arith}
use Rattle.std.proofs.lemmas.Option.{none-some, same_Some}
use Rattle.std.specs.Prelude.{slice_get, slice_set}
use Rattle.tpol_driver.specs.declared.end.End.{End}
use Rattle.tpol_driver.specs.declared.next.Next.{Next}
use Rattle.tpol_driver.specs.declared.next.Next.TheVariants as nexts
use Rattle.tpol_driver.specs.declared.plan.Plan.{Plan}
use Rattle.tpol_driver.specs.declared.tickets.HeldTicket.{HeldTicket}
use Rattle.tpol_driver.specs.Answers.{answer_of, answer_of_reply}
use Rattle.tpol_driver.specs.Driving.{Closing, Driving, Moving, Over, Standing, Starting, code_sent, earned_after, earned_by, hears, sends}
use Rattle.tpol_driver.specs.States.{IsNext, is_over}
use Rattle.tpol_driver.specs.Tickets.{earned_from, earned_in}
use Rattle.tpol_runs.specs.Earned.{counted, with_counts}
use Rattle.tpol_runs.specs.declared.path_behind.PathBehind.{PathBehind}
use Rattle.tpol_runs.specs.declared.ended.Ended.{Ended}
use Rattle.tpol_runs.specs.declared.ended.Ended.TheVariants as ends
use Rattle.tpol_runs.specs.Courses.{driven_on, sighted_end}
use Rattle.tpol_runs.specs.PathBehind.{IsPathBehind}
use Rattle.tpol_runs.specs.State.{earned_of_next}
use Rattle.tpol_runs.specs.Underway.{Driven}
use Rattle.tpol_tree.specs.declared.closed.Assertion.TheVariants.{Secret, Signed}
use Rattle.tpol_tree.specs.declared.path.Move.{Move}
use Rattle.tpol_tree.specs.declared.path.Move.TheVariants.{Assert}
use Rattle.tpol_wire.specs.declared.auth_area.ReplyAuth.{ReplyAuth}
use Rattle.tpol_wire.specs.declared.reply.Reply.{Reply}
use Rattle.tpol_wire.specs.declared.reply.Reply.TheVariants as replies
use Rattle.tpol_wire.specs.ReplyReading.{reply_reading}

-- ---- one count after another

pub no_counts : (tickets : List HeldTicket) → with_counts tickets [] ≡ tickets
no_counts [] = refl
no_counts (ticket ∷ rest) = refl

next : (tickets : List HeldTicket) (counts : List ℕ) (place : ℕ) (ticket : HeldTicket) (d : ℕ) → place < length counts
    → slice_get (with_counts tickets (take place counts)) place ≡ Some ticket
    → slice_set (with_counts tickets (take place counts)) place (counted (get_or counts place d) ticket) ≡ with_counts tickets (take (suc place) counts)
next [] counts zero ticket d within is = absurd (none-some ticket is)
next [] counts (suc place) ticket d within is = absurd (none-some ticket is)
next (first ∷ rest) [] place ticket d within is = absurd (omega arith)
next (first ∷ rest) (count ∷ counts) zero ticket d within is =
    ap (λ t. counted count t ∷ rest) (sym (same_Some first ticket is)) ∙ ap (λ l. counted count first ∷ l) (sym (no_counts rest))
next (first ∷ rest) (count ∷ counts) (suc place) ticket d within is =
    ap (λ l. counted count first ∷ l) (next rest counts place ticket d (omega arith) is)

pub next_counted : (tickets : List HeldTicket) (counts : List ℕ) (place : ℕ) (ticket : HeldTicket) (d : ℕ) → place < length counts
    → slice_get (with_counts tickets (take place counts)) place ≡ Some ticket
    → slice_set (with_counts tickets (take place counts)) place (counted (get_or counts place d) ticket) ≡ with_counts tickets (take (place + 1) counts)
next_counted tickets counts place ticket d within is =
    next tickets counts place ticket d within is ∙ ap (λ n. with_counts tickets (take n counts)) (sym (add-one place))

past : (tickets : List HeldTicket) (counts : List ℕ) (place : ℕ) → slice_get (with_counts tickets (take place counts)) place ≡ None
    → with_counts tickets (take place counts) ≡ with_counts tickets (take (suc place) counts)
past [] counts place none = refl
past (first ∷ rest) [] zero none = refl
past (first ∷ rest) [] (suc place) none = refl
past (first ∷ rest) (count ∷ counts) zero none = absurd (none-some first (sym none))
past (first ∷ rest) (count ∷ counts) (suc place) none = ap (λ l. counted count first ∷ l) (past rest counts place none)

-- where no ticket is at the place, all have their counts
pub none_counted : (tickets : List HeldTicket) (counts : List ℕ) (place : ℕ) → slice_get (with_counts tickets (take place counts)) place ≡ None
    → with_counts tickets (take place counts) ≡ with_counts tickets (take (place + 1) counts)
none_counted tickets counts place none =
    past tickets counts place none ∙ ap (λ n. with_counts tickets (take n counts)) (sym (add-one place))

-- ---- as many counts as tickets

-- counts that are too many make no difference
pub first_counts : (tickets : List HeldTicket) (counts : List ℕ) → with_counts tickets (take (length tickets) counts) ≡ with_counts tickets counts
first_counts [] counts = refl
first_counts (ticket ∷ rest) [] = refl
first_counts (ticket ∷ rest) (count ∷ counts) = ap (λ l. counted count ticket ∷ l) (first_counts rest counts)

-- one count more, for the ticket that comes with it, if one does
pub one_more : (tickets more : List HeldTicket) (counts : List ℕ) (count : ℕ) → length counts ≡ length tickets → length more ≤ 1
    → with_counts (tickets ++ more) (counts ++ count ∷ []) ≡ with_counts tickets counts ++ map (counted count) more
one_more [] [] [] count same few = refl
one_more [] (ticket ∷ []) [] count same few = refl
one_more [] (ticket ∷ (other ∷ rest)) [] count same few = absurd (omega arith)
one_more [] more (first ∷ counts) count same few = absurd (omega arith)
one_more (ticket ∷ rest) more [] count same few = absurd (omega arith)
one_more (ticket ∷ rest) more (first ∷ counts) count same few =
    ap (λ l. counted first ticket ∷ l) (one_more rest more counts count (omega arith) few)

-- one count more where no ticket comes with it
pub none_more : (tickets : List HeldTicket) (counts : List ℕ) (count : ℕ) → length counts ≡ length tickets
    → with_counts tickets (counts ++ count ∷ []) ≡ with_counts tickets counts
none_more [] [] count same = refl
none_more [] (first ∷ counts) count same = absurd (omega arith)
none_more (ticket ∷ rest) [] count same = absurd (omega arith)
none_more (ticket ∷ rest) (first ∷ counts) count same =
    ap (λ l. counted first ticket ∷ l) (none_more rest counts count (omega arith))

-- ---- a reply earns one ticket at most

none_few : 0 ≤ 1
none_few = omega arith

one_few : 1 ≤ 1
one_few = omega arith

few_from : (act : Move) (reply : Reply) → length (earned_from act reply) ≤ 1
few_from (Assert (Secret entity policy_ref cp_hash expiration)) (replies.PolicySecret (Some deadline) ticket) = one_few
few_from (Assert (Signed key policy_ref cp_hash expiration)) (replies.PolicySigned (Some deadline) ticket) = one_few
few_from act reply = none_few

few_in : (act : Move) (reply : Reply) (auth : Option ReplyAuth) → length (earned_in (Some act) (answer_of_reply reply auth)) ≤ 1
few_in act (replies.Refused rc) auth = none_few
few_in act reply auth = few_from act reply

few_read : (act : Option Move) (found : Option (Reply × Option ReplyAuth)) → length (earned_in act (answer_of found)) ≤ 1
few_read None found = none_few
few_read (Some act) None = none_few
few_read (Some act) (Some found) = few_in act found.0 found.1

few_after : (plan : Plan) (standing : Standing) (found : Option (Reply × Option ReplyAuth)) → length (earned_after plan standing (answer_of found)) ≤ 1
few_after plan Starting found = none_few
few_after plan (Moving session sent ticket done) found = few_read (slice_get plan.path.moves done) found
few_after plan (Closing session end) found = none_few
few_after plan (Over end) found = none_few

pub few_earned : (plan : Plan) (standing : Standing) (reply : List ℕ) → length (earned_by plan standing reply) ≤ 1
few_earned plan standing reply = few_after plan standing (reply_reading (code_sent (sends plan standing)) reply)

-- what a state has earned is in its state
pub next_earned : (plan : Plan) (earned : List HeldTicket) (at : Standing) (next : Next) → IsNext plan earned at next → earned_of_next next ≡ earned
next_earned plan earned at (nexts.Asserting state) is = ap (λ d. d.earned) is.0
next_earned plan earned at (nexts.Ready state) is = ap (λ d. d.earned) is.0
next_earned plan earned at (nexts.Closing state) is = ap (λ d. d.earned) is.0
next_earned plan earned at (nexts.Over over) is = is.1

-- a driver behind a reply, whose ticket has the count that came last
pub behind_reply : (driving : Driving) (counts : List ℕ) (count : ℕ) (reply : List ℕ) (behind : PathBehind) → length counts ≡ length driving.earned
    → IsPathBehind (record {
      plan = driving.plan;
      standing = hears driving.plan driving.standing reply;
      earned = with_counts (driving.earned ++ earned_by driving.plan driving.standing reply) (counts ++ count ∷ []);
    }) behind
    → IsPathBehind (driven_on (record { plan = driving.plan; standing = driving.standing; earned = with_counts driving.earned counts }) count reply) behind
behind_reply driving counts count reply behind same is =
    subst (λ (tickets : List HeldTicket). IsPathBehind (record { plan = driving.plan; standing = hears driving.plan driving.standing reply; earned = tickets }) behind)
    (one_more driving.earned (earned_by driving.plan driving.standing reply) counts count same (few_earned driving.plan driving.standing reply)) is

-- ---- a driver in its next state, with counts that were cut to its tickets

no_end : (tickets : List HeldTicket) (standing : Standing) → is_over standing ≡ false → sighted_end tickets standing ≡ None
no_end tickets Starting going = refl
no_end tickets (Moving session sent ticket done) going = refl
no_end tickets (Closing session end) going = refl
no_end tickets (Over end) going = absurd cc

cut_counts : (tickets earned : List HeldTicket) (counts cut : List ℕ) → tickets ≡ earned → cut ≡ take (length tickets) counts → with_counts tickets cut ≡ with_counts earned counts
cut_counts tickets earned counts cut same first =
    ap (with_counts tickets) first ∙ (first_counts tickets counts ∙ ap (λ l. with_counts l counts) same)

abbrev with_tickets : Driving → List HeldTicket → Driven
with_tickets driving tickets = record { plan = driving.plan; standing = driving.standing; earned = tickets }

pub goes_there : (plan : Plan) (earned : List HeldTicket) (standing : Standing) (driving : Driving) (counts cut : List ℕ)
    → driving ≡ record { plan = plan; standing = standing; earned = earned } → is_over standing ≡ false → cut ≡ take (length driving.earned) counts
    → (with_tickets driving (with_counts driving.earned cut) ≡ record { plan = plan; standing = standing; earned = with_counts earned counts }) × (sighted_end (with_counts earned counts) standing ≡ None)
goes_there plan earned standing driving counts cut is going first =
    let tickets = cut_counts driving.earned earned counts cut (ap (λ d. d.earned) is) first in
    (ap (λ (l : List HeldTicket). with_tickets driving l) tickets ∙ ap (λ (d : Driving). with_tickets d (with_counts earned counts)) is, no_end (with_counts earned counts) standing going)

pub ends_there : (at : Standing) (end : End) (earned tickets : List HeldTicket) (counts cut : List ℕ) (ended : Ended)
    → at ≡ Over end → tickets ≡ earned → cut ≡ take (length tickets) counts → ended ≡ ends.Sighted end (with_counts tickets cut)
    → sighted_end (with_counts earned counts) at ≡ Some ended
ends_there at end earned tickets counts cut ended over same first is =
    ap (sighted_end (with_counts earned counts)) over
    ∙ ap (λ (l : List HeldTicket). Some (ends.Sighted end l)) (sym (cut_counts tickets earned counts cut same first))
    ∙ ap (λ (e : Ended). Some e) (sym is)
