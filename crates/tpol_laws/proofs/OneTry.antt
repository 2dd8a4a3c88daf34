-- One try, from wherever the session has no facts: it is served where nothing blocks its path; else it is refused, or
-- an HMAC of it was right by chance.
use Rattle.std.proofs.Common.{◌≡◌, ◌≤◌, ◌⊎◌, inl, inr, ℕ, ◌+◌, true, not, List, [], length, refl, ap, sym, ◌∙◌, arith, zero-add}
use Rattle.std.specs.Prelude.{Some, None, slice_get}
use Rattle.std.specs.List.{list_all}
use Rattle.std.proofs.lemmas.Option.{none-some}
use Rattle.tpm_engine.specs.declared.event.Event.{Event}
use Rattle.tpm_engine.specs.SessionCommands.{start_rule}
use Rattle.tpm_engine.specs.Sights.{sight_after}
use Rattle.tpm_engine.specs.Views.{view_of}
use Rattle.tpm_rules.specs.Rule.{or_else}
use Rattle.tpol_choose.specs.declared.block.Block.{Block}
use Rattle.tpol_choose.specs.Blocks.{first_block, moves_block}
use Rattle.tpol_choose.specs.Facts.{fresh_session}
use Rattle.tpol_driver.specs.declared.session.Session.{Session}
use Rattle.tpol_driver.specs.Plans.{is_complete, is_known_move}
use Rattle.tpol_goal.specs.Goals.{HasShortOffset}
use Rattle.tpol_tree.specs.declared.facts.Fact.{Fact}
use Rattle.tpol_laws.specs.PathCommands.{commands_of_moves}
use Rattle.tpol_laws.specs.Acts.{Run}
use Rattle.tpol_laws.specs.Runs.{IsBegun, IsRun}
use Rattle.tpol_laws.proofs.Blocked.{no-outside, run-of}
use Rattle.tpol_laws.proofs.BlockedSteps.{whole-open}
use Rattle.tpol_laws.proofs.BlockedTurns.{on_path}
use Rattle.tpol_laws.proofs.Finds.{both}
use Rattle.tpol_laws.proofs.Goal.{serves-goal}
use Rattle.tpol_laws.proofs.Refused.{EndsBy, moves-try}
use Rattle.tpol_laws.proofs.Served.{Ahead, ServedAfter, moves-served, open-moves}
use Rattle.tpol_laws.proofs.Standing.{Stands, chooser_of}
use Rattle.tpol_laws.proofs.HeldTickets.{usable-without}

module _ (run : Run) (begins : IsBegun run) (none : run.plan.tickets ≡ []) (complete : is_complete run.plan ≡ true) (first past : List Event) (session : Session) (sent : ℕ)
    (on : Stands run first past session (fresh_session (sight_after run.setup first))) where
  runs : IsRun run
  runs = run-of run begins complete

  -- the whole path lies ahead
  ahead : Ahead run first past session 0 (fresh_session (sight_after run.setup first)) run.plan.path.moves
  ahead =
      let short : length run.plan.path.moves ≤ 512 = begins.short in
      let room : length {A = Fact} [] + length run.plan.path.moves ≤ 512 = omega (arith, short) in
      record { stands = on; path = λ k. ap (slice_get run.plan.path.moves) (zero-add k); judged = refl; room = room }

  pub open-served : first_block run.plan.path (sight_after run.setup first) run.plan.grants run.plan.goal run.locality ≡ None
      → ServedAfter run first (commands_of_moves run.plan.path.moves + 1) (on_path past session sent None 0)
  open-served opens =
      let all : commands_of_moves run.plan.path.moves + 1 ≤ commands_of_moves run.plan.path.moves + 1 = omega arith in
      moves-served run runs first (usable-without run.setup first run.plan.tickets none) (serves-goal run begins first) run.plan.path.moves (commands_of_moves run.plan.path.moves + 1) past session sent 0 1 (fresh_session (sight_after run.setup first))
      (record { ahead = ahead; opens = open-moves run first opens }) all

  pub blocked-ends : HasShortOffset run.plan.goal → start_rule (view_of run.setup first) ≡ None → (block : Block)
      → first_block run.plan.path (sight_after run.setup first) run.plan.grants run.plan.goal run.locality ≡ Some block
      → EndsBy run first session (commands_of_moves run.plan.path.moves + 1) (on_path past session sent None 0)
  unfolding first_block
  blocked-ends offsets rule block blocked =
      by (moves-try run runs begins none offsets first run.plan.path.moves past session sent 0 1 (fresh_session (sight_after run.setup first)) ahead refl)
    where
      by : (moves_block (chooser_of run first) 1 (fresh_session (sight_after run.setup first)) run.plan.path.moves ≡ None) ⊎ EndsBy run first session (commands_of_moves run.plan.path.moves + 1) (on_path past session sent None 0)
          → EndsBy run first session (commands_of_moves run.plan.path.moves + 1) (on_path past session sent None 0)
      by (inl opens) =
          let within = no-outside run.plan.path.outside (both (not run.plan.path.outside) (list_all (is_known_move run.plan.directory run.plan.grants) run.plan.path.moves) complete).0 in
          let whole = whole-open run first within rule in
          absurd (none-some block (sym (λ i. or_else (whole i) (opens i)) ∙ blocked))
      by (inr ends) = ends
