-- A blind run that has a path to try is over after as many turns as it has commands at most.
use Rattle.std.proofs.Common.{◌≡◌, ◌≤◌, ℕ, zero, suc, ◌+◌, true, List, [], ◌∷◌, ◌++◌, length, refl, ap, sym, ◌∙◌, arith}
use Rattle.std.specs.Prelude.{is_some, slice_get}
use Rattle.std.proofs.lemmas.Grind.{fold-append}
use Rattle.std.proofs.lemmas.List.{length-append}
use Rattle.tpm_engine.specs.declared.event.Event.{Event}
use Rattle.tpol_driver.specs.declared.blind_plan.BlindPlan.{BlindPlan}
use Rattle.tpol_driver.specs.Blind.{Again, BlindStanding, Closing, Over, Starting, Trying, blind_hears, blind_stands_after, first_complete, most_blind, plan_at}
use Rattle.tpol_driver.specs.BlindStates.{is_blind_over}
use Rattle.tpol_driver.specs.Commands.{start_command}
use Rattle.tpol_driver.specs.Driving.{next_command}
use Rattle.tpol_wire.specs.declared.command.Command.TheVariants as commands
use Rattle.tpol_laws.specs.Acts.{answer_in}
use Rattle.tpol_laws.specs.BlindRuns.{BlindRun, blind_begun, blind_turns, run_of_try}
use Rattle.tpol_laws.proofs.BlindTurns.{over-for-good}

-- the driver's law of it
abbrev pub DrivingEnds : Type 0
DrivingEnds = (plan : BlindPlan) (replies : List (List ℕ)) → is_some (first_complete plan) ≡ true → most_blind plan ≤ length replies → is_blind_over (blind_stands_after plan replies) ≡ true

module _ (driving_ends : DrivingEnds) (run : BlindRun) (some : is_some (first_complete run.plan) ≡ true) where
  heard-once : (standing : BlindStanding) (replies : List (List ℕ)) (reply : List ℕ) → blind_stands_after run.plan replies ≡ standing → blind_stands_after run.plan (replies ++ reply ∷ []) ≡ blind_hears run.plan standing reply
  heard-once at replies reply is = fold-append (blind_hears run.plan) Starting replies (reply ∷ []) ∙ ap (λ (s : BlindStanding). blind_hears run.plan s reply) is

  one-more : (turns : ℕ) (replies : List (List ℕ)) (reply : List ℕ) → most_blind run.plan ≤ length replies + suc turns → most_blind run.plan ≤ length (replies ++ reply ∷ []) + turns
  one-more turns replies reply enough = omega (arith, enough, length-append replies (reply ∷ []))

  -- from where it stands after these replies
  ends-from : (turns : ℕ) (past : List Event) (standing : BlindStanding) (replies : List (List ℕ)) → blind_stands_after run.plan replies ≡ standing → most_blind run.plan ≤ length replies + turns
      → is_blind_over (blind_turns run turns (record { past = past; standing = standing })).standing ≡ true
  unfolding blind_turns
  ends-from zero past at replies is enough = ap is_blind_over (sym is) ∙ driving_ends run.plan replies some (omega (arith, enough))
  ends-from (suc turns) past (Over end) replies is enough = ap is_blind_over (over-for-good run turns past end)
  ends-from (suc turns) past Starting replies is enough =
      let reply = (answer_in (run_of_try run 0) past (start_command run.plan.nonce_seed)).reply in
      ends-from turns _ (blind_hears run.plan Starting reply) (replies ++ reply ∷ []) (heard-once Starting replies reply is) (one-more turns replies reply enough)
  ends-from (suc turns) past (Trying session sent place ticket done tries) replies is enough =
      let reply = (answer_in (run_of_try run 0) past (next_command (plan_at run.plan place) session sent ticket (slice_get (plan_at run.plan place).path.moves done))).reply in
      ends-from turns _ (blind_hears run.plan (Trying session sent place ticket done tries) reply) (replies ++ reply ∷ []) (heard-once (Trying session sent place ticket done tries) replies reply is) (one-more turns replies reply enough)
  ends-from (suc turns) past (Again session sent place tries) replies is enough =
      let reply = (answer_in (run_of_try run 0) past (commands.PolicyRestart session.handle)).reply in
      ends-from turns _ (blind_hears run.plan (Again session sent place tries) reply) (replies ++ reply ∷ []) (heard-once (Again session sent place tries) replies reply is) (one-more turns replies reply enough)
  ends-from (suc turns) past (Closing session end) replies is enough =
      let reply = (answer_in (run_of_try run 0) past (commands.FlushContext session)).reply in
      ends-from turns _ (blind_hears run.plan (Closing session end) reply) (replies ++ reply ∷ []) (heard-once (Closing session end) replies reply is) (one-more turns replies reply enough)

  pub blind-ends : (first : List Event) (turns : ℕ) → most_blind run.plan ≤ turns → is_blind_over (blind_turns run turns (blind_begun first)).standing ≡ true
  blind-ends first turns enough = ends-from turns first Starting [] refl (omega (arith, enough))
