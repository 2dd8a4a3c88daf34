-- A run ends, whatever others do: each of its turns leaves fewer commands than were left before.
use Rattle.std.proofs.Common.{◌≡◌, ℕ, ◌+◌, ◌*◌, ◌≤◌, true, List, [], ◌∷◌, ◌++◌, length, refl, ap, sym, ◌∙◌, arith}
use Rattle.std.proofs.lemmas.Grind.{fold-append}
use Rattle.std.proofs.lemmas.List.{length-append}
use Rattle.tpol_driver.proofs.Ending.{over_after_all}
use Rattle.tpol_driver.specs.declared.end.End.{End}
use Rattle.tpol_driver.specs.declared.plan.Plan.{Plan}
use Rattle.std.specs.Prelude.{slice_get}
use Rattle.tpol_driver.specs.Commands.{start_command}
use Rattle.tpol_driver.specs.Driving.{Closing, Moving, Over, Standing, Starting, hears, next_command, stands_after}
use Rattle.tpol_driver.specs.States.{is_over}
use Rattle.tpol_wire.specs.declared.command.Command.TheVariants as commands
use Rattle.tpm_engine.specs.declared.event.Event.{Event}
use Rattle.tpol_laws.specs.Acts.{Act, Other, Run, Turn, after_acts, answer_in, begun, turns_in}

-- a run that is over stays over
over-stays : (run : Run) (acts : List Act) (past : List Event) (end : End) → is_over (after_acts run acts (record { past = past; standing = Over end })).standing ≡ true
unfolding after_acts
over-stays run [] past end = refl
over-stays run (Turn ∷ acts) past end = over-stays run acts past end
over-stays run (Other call ∷ acts) past end = over-stays run acts _ end

heard-once : (plan : Plan) (replies : List (List ℕ)) (reply : List ℕ) → stands_after plan (replies ++ reply ∷ []) ≡ hears plan (stands_after plan replies) reply
heard-once plan replies reply = fold-append (hears plan) Starting replies (reply ∷ [])

one-more : (n : ℕ) (replies : List (List ℕ)) (reply : List ℕ) (acts : List Act) → n ≤ length replies + (turns_in acts + 1) → n ≤ length (replies ++ reply ∷ []) + turns_in acts
one-more n replies reply acts enough = omega (arith, enough, length-append replies (reply ∷ []))

-- from where it stands after these replies
ends-from : (run : Run) (acts : List Act) (past : List Event) (standing : Standing) (replies : List (List ℕ)) → stands_after run.plan replies ≡ standing
    → 2 * length run.plan.path.moves + 3 ≤ length replies + turns_in acts
    → is_over (after_acts run acts (record { past = past; standing = standing })).standing ≡ true
unfolding after_acts
ends-from run [] past at replies is enough = ap is_over (sym is) ∙ over_after_all run.plan replies (omega (arith, enough))
ends-from run (Other call ∷ acts) past at replies is enough = ends-from run acts _ at replies is enough
ends-from run (Turn ∷ acts) past (Over end) replies is enough = over-stays run acts past end
ends-from run (Turn ∷ acts) past Starting replies is enough =
    let reply = (answer_in run past (start_command run.plan.nonce_seed)).reply in
    ends-from run acts _ (hears run.plan Starting reply) (replies ++ reply ∷ []) (heard-once run.plan replies reply ∙ ap (λ at. hears run.plan at reply) is)
    (one-more (2 * length run.plan.path.moves + 3) replies reply acts enough)
ends-from run (Turn ∷ acts) past (Moving session sent ticket done) replies is enough =
    let reply = (answer_in run past (next_command run.plan session sent ticket (slice_get run.plan.path.moves done))).reply in
    ends-from run acts _ (hears run.plan (Moving session sent ticket done) reply) (replies ++ reply ∷ []) (heard-once run.plan replies reply ∙ ap (λ at. hears run.plan at reply) is)
    (one-more (2 * length run.plan.path.moves + 3) replies reply acts enough)
ends-from run (Turn ∷ acts) past (Closing session end) replies is enough =
    let reply = (answer_in run past (commands.FlushContext session)).reply in
    ends-from run acts _ (hears run.plan (Closing session end) reply) (replies ++ reply ∷ []) (heard-once run.plan replies reply ∙ ap (λ at. hears run.plan at reply) is)
    (one-more (2 * length run.plan.path.moves + 3) replies reply acts enough)

pub run-ends : (run : Run) (past : List Event) (acts : List Act) → 2 * length run.plan.path.moves + 3 ≤ turns_in acts → is_over (after_acts run acts (begun past)).standing ≡ true
run-ends run past acts enough = ends-from run acts past Starting [] refl (omega (arith, enough))
