-- The line of an opening: by which written path a session's facts led to a policy's digest.
use Rattle.std.specs.Prelude.{ℕ, ◌-◌, ◌≤◌, List, [], ◌∷◌, codes, decimal, map, Option, Some, None, slice_get, length}
use Rattle.hex.specs.Hex.{encode_lower}
use Rattle.tpol_trace.specs.declared.answer.Opening.{Opening}
use Rattle.tpol_trace.specs.declared.answer.Opening.TheVariants.{Branch, Clash, ZeroInput}
use Rattle.tpol_tree.specs.declared.path.Path.{Path}
use Rattle.tpol_tree.specs.declared.path.PathStep.{PathStep}
use Rattle.tpol_lines.specs.Lines.{spaced}
use Rattle.tpol_lines.specs.PathLine.{label, separated}

-- the numbers of events, with `,` between
abbrev pub events_text : List ℕ → List ℕ
events_text events = separated 44 (map decimal events)

-- the session's facts went the path at this position by these events
abbrev pub branch_line : ℕ → ℕ → List PathStep → List ℕ → List ℕ
branch_line event position steps events =
    spaced (codes "opening" ∷ decimal event ∷ codes "path" ∷ decimal position ∷ label steps
    ∷ codes "events" ∷ events_text events ∷ [])

-- two different strings have one digest
abbrev pub clash_line : ℕ → List ℕ → List ℕ → List ℕ
clash_line event first second =
    spaced (codes "clash" ∷ decimal event ∷ encode_lower first ∷ encode_lower second ∷ [])

-- the digest of this string is zero
abbrev pub zero_line : ℕ → List ℕ → List ℕ
zero_line event input = spaced (codes "zero" ∷ decimal event ∷ encode_lower input ∷ [])

-- the choices of a path that is there
abbrev pub steps_of : Option Path → List PathStep
steps_of (Some path) = path.steps
steps_of None = []

-- the line of the opening behind this event, of a policy with these paths
abbrev pub opening_line : ℕ → List Path → Opening → List ℕ
opening_line event paths (Branch position events) =
    branch_line event position (steps_of (slice_get paths (position - 1))) events
opening_line event paths (Clash first second) = clash_line event first second
opening_line event paths (ZeroInput input) = zero_line event input

-- the path that an opening names is one of these
abbrev pub IsListed : List Path → Opening → Type 0
IsListed paths (Branch position events) = (1 ≤ position) × (position ≤ length paths)
IsListed paths opening = Unit {0}
