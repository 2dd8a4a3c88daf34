-- How a path is printed: its choices, and the kinds of its policy commands.
use Rattle.std.specs.Prelude.{ℕ, ◌+◌, List, [], ◌∷◌, ◌++◌, codes, decimal, map}
use Rattle.std.specs.List.{flat_map}
use Rattle.json.specs.Print.{quoted}
use Rattle.tpol_tree.specs.declared.closed.Assertion.{Assertion}
use Rattle.tpol_tree.specs.declared.closed.Assertion.TheVariants.{Pcr, Nv, Secret, Signed, CounterTimer, CommandCode, Locality, CpHash, NameHash, NvWritten, AuthValue, Password, PhysicalPresence, Duplication}
use Rattle.tpol_tree.specs.declared.path.Move.{Move}
use Rattle.tpol_tree.specs.declared.path.Move.TheVariants.{Assert, Or, Approve, ApproveNv}
use Rattle.tpol_tree.specs.declared.path.PathStep.{PathStep}
use Rattle.tpol_tree.specs.declared.path.PathStep.TheVariants.{Branch, Document, Outside}
use Rattle.tpol_tree.specs.declared.path.Path.{Path}
use Rattle.tpol_lines.specs.Lines.{line_of}

abbrev pub assertion_kind : Assertion → List ℕ
assertion_kind (Pcr mask digest values) = codes "Pcr"
assertion_kind (Nv index operand offset operation) = codes "Nv"
assertion_kind (Secret entity policy_ref cp_hash expiration) = codes "Secret"
assertion_kind (Signed key policy_ref cp_hash expiration) = codes "Signed"
assertion_kind (CounterTimer operand offset operation) = codes "CounterTimer"
assertion_kind (CommandCode code) = codes "CommandCode"
assertion_kind (Locality locality) = codes "Locality"
assertion_kind (CpHash digest) = codes "CpHash"
assertion_kind (NameHash digest) = codes "NameHash"
assertion_kind (NvWritten written) = codes "NvWritten"
assertion_kind AuthValue = codes "AuthValue"
assertion_kind Password = codes "Password"
assertion_kind PhysicalPresence = codes "PhysicalPresence"
assertion_kind (Duplication object parent include) = codes "Duplication"

abbrev pub move_kind : Move → List ℕ
move_kind (Assert assertion) = assertion_kind assertion
move_kind (Or digests) = codes "Or"
move_kind (Approve key policy_ref approved signature) = codes "Approve"
move_kind (ApproveNv index approved) = codes "ApproveNv"

-- a branch is its name as a JSON text, a document `@` and its name, an outside approval `@*`
abbrev pub step_text : PathStep → List ℕ
step_text (Branch position name) = quoted name
step_text (Document name) = codes "@" ++ quoted name
step_text Outside = codes "@*"

-- pieces with a separator between two
abbrev pub separated : ℕ → List (List ℕ) → List ℕ
separated separator [] = []
separated separator (first ∷ rest) = first ++ flat_map (λ piece. separator ∷ piece) rest

-- the choices, with `/` between, and `-` where there is none
abbrev pub label : List PathStep → List ℕ
label [] = codes "-"
label (first ∷ rest) = separated 47 (map step_text (first ∷ rest))

-- the kinds of the policy commands, with `,` between
abbrev pub kinds : List Move → List ℕ
kinds moves = separated 44 (map move_kind moves)

-- the line of the path at this position
abbrev pub path_line : ℕ → Path → List ℕ
path_line position path =
    codes "path " ++ decimal position ++ codes " " ++ label path.steps ++ codes " " ++ kinds path.moves

-- a line for each path, from this position on
abbrev pub path_lines : ℕ → List Path → List (List ℕ)
path_lines position [] = []
path_lines position (path ∷ rest) = line_of (path_line position path) ∷ path_lines (position + 1) rest
