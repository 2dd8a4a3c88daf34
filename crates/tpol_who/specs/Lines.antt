-- The lines of `who`.
use Rattle.std.specs.Prelude.{ℕ, ◌+◌, List, [], ◌∷◌, codes, decimal, Option, Some, None}
use Rattle.tpol_choose.specs.declared.block.Block.{Block}
use Rattle.tpol_choose.specs.Blocks.{first_block}
use Rattle.tpol_lines.specs.BlockLine.{block_line}
use Rattle.tpol_lines.specs.Lines.{line_of, spaced}
use Rattle.tpol_lines.specs.PathLine.{label}
use Rattle.tpol_name.specs.declared.sight.Sight.{Sight}
use Rattle.tpol_perform.specs.declared.new_run.NewRun.{NewRun}
use Rattle.tpol_tree.specs.declared.path.Path.{Path}
use Rattle.tpol_tree.specs.declared.path.PathStep.{PathStep}

-- a run of the policy of this name is about to begin
abbrev pub begin_line : NewRun → List ℕ → List ℕ
begin_line run policy =
    spaced (codes "run" ∷ decimal run.number ∷ codes "client" ∷ decimal run.client ∷ codes "locality" ∷ decimal run.locality ∷ policy ∷ [])

-- the path at this position, with these choices, can be gone
abbrev pub can_line : ℕ → List PathStep → List ℕ
can_line position steps = spaced (codes "can" ∷ decimal position ∷ label steps ∷ [])

-- the line of a path, by what stands in its way
abbrev pub path_told : ℕ → List PathStep → Option Block → List ℕ
path_told position steps None = can_line position steps
path_told position steps (Some block) = block_line position steps block

-- what stands in a run's way on a path, with what the machine shows
abbrev pub block_for : Sight → NewRun → Path → Option Block
block_for sight run path = first_block path sight run.grants run.goal run.locality

-- a line for each of these paths, from this position on
unfoldable pub paths_told : Sight → NewRun → ℕ → List Path → List (List ℕ)
paths_told sight run position [] = []
paths_told sight run position (path ∷ rest) =
    line_of (path_told position path.steps (block_for sight run path)) ∷ paths_told sight run (position + 1) rest
