-- The run of the policy that `gen` makes up: the path that it goes, and the whole of what is printed.
use Rattle.std.specs.Prelude.{◌≡◌, ℕ, zero, suc, ◌+◌, ◌*◌, ◌/◌, ◌%◌, ◌^◌, ◌==◌, Bool, List, [], ◌∷◌, codes, None, if◌then◌else◌}
use Rattle.tpm_engine.specs.declared.event.Event.{Event}
use Rattle.tpm_engine.specs.Events.{Answered}
use Rattle.tpm_engine.specs.Legal.{answer_to}
use Rattle.tpol_digest.specs.Digest.{policy_digest}
use Rattle.tpol_driver.specs.declared.end.End.TheVariants.{Served}
use Rattle.tpol_fill.specs.Filling.{filled}
use Rattle.tpol_generate.specs.Generate.{generated_handle, generated_policy, generated_setup}
use Rattle.tpol_lines.specs.Events.{command_line}
use Rattle.tpol_lines.specs.Generated.{command_count_line, generated_line, path_count_line}
use Rattle.tpol_lines.specs.Lines.{line_of}
use Rattle.tpol_lines.specs.Runs.{chosen_line, end_line}
use Rattle.tpol_steps.specs.Lines.{digest_line}
use Rattle.tpol_tree.specs.declared.closed.Closed.{Closed}
use Rattle.tpol_tree.specs.declared.path.PathStep.{PathStep}
use Rattle.tpol_tree.specs.declared.path.PathStep.TheVariants.{Branch}
use Rattle.tpol_wire.specs.declared.auth_area.AuthArea.{AuthArea}
use Rattle.tpol_wire.specs.declared.command.Command.{Command}
use Rattle.tpol_wire.specs.declared.command.Command.TheVariants.{Unseal}
use Rattle.tpol_wire.specs.Commands.{spelling}

-- the policy, filled
abbrev pub closed_of : ℕ → ℕ → Closed
closed_of ors order = filled (generated_policy ors order) None

-- ---- the path by each `b`

-- where `b` stands in an OR: first where its bit is set
abbrev pub place_of_b : Bool → ℕ
place_of_b swapped = if swapped then 1 else 2

-- its choices, through so many ORs in the order of the bits
unfoldable pub choices_of_b : ℕ → ℕ → List PathStep
choices_of_b zero bits = []
choices_of_b (suc n) bits = Branch (place_of_b (bits % 2 == 1)) (codes "b") ∷ choices_of_b n (bits / 2)

-- how many paths stand before it: at each OR in which `a` stands first, all that go on by that `a`
unfoldable pub paths_before_b : ℕ → ℕ → ℕ
paths_before_b zero bits = 0
paths_before_b (suc n) bits = (if bits % 2 == 1 then 0 else 2 ^ n) + paths_before_b n (bits / 2)

-- ---- what is printed

-- how many commands are executed: the start, two for each OR, PolicyAuthValue, and the goal's
abbrev pub commands_of_b : ℕ → ℕ
commands_of_b ors = 2 * ors + 3

-- the seven lines: the two numbers, how many paths there are, the digest, the path by each `b`, how many commands,
-- the last of them, which is the goal's, and that the run is served with the object's secret
abbrev pub lines_of_b : ℕ → ℕ → Command → Answered → List (List ℕ)
lines_of_b ors order command answered =
    line_of (generated_line ors order)
    ∷ line_of (path_count_line (2 ^ ors))
    ∷ line_of (digest_line (policy_digest (closed_of ors order)))
    ∷ line_of (chosen_line 1 (paths_before_b ors order + 1) (choices_of_b ors order))
    ∷ line_of (command_count_line (commands_of_b ors))
    ∷ line_of (command_line (commands_of_b ors) 1 0 (spelling command) answered.reply answered.outcome)
    ∷ line_of (end_line 1 (Served (codes "gen")))
    ∷ []

-- these lines are printed, where the last command is Unseal of the sealed object with some authorization, and its
-- answer is the machine's behind some events
pub record IsGeneratedText (ors order : ℕ) (lines : List (List ℕ)) : Type 0 where
  pub area : AuthArea
  pub past : List Event
  pub printed : lines
      ≡ lines_of_b ors order (Unseal generated_handle area)
      (answer_to (generated_setup order (policy_digest (closed_of ors order))) past 0 (spelling (Unseal generated_handle area)))
