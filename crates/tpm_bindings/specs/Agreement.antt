-- Moves that agree, as those of a session's facts do. This says less than that one command can meet what all of them
-- bind: the Names of a PolicyDuplicationSelect that leaves out the object are not compared.
use Rattle.std.specs.Prelude.{◌≡◌, ◌==◌, ◌&&◌, ◌||◌, not, List, Option, Some, None, nat_eq, if◌then◌else◌}
use Rattle.std.specs.Bool.{beq}
use Rattle.tpol_tree.specs.declared.path.Move.{Move}
use Rattle.tpm_bindings.specs.declared.disagreement.Disagreement.{Disagreement}
use Rattle.tpm_bindings.specs.declared.disagreement.Disagreement.TheVariants.{Code, Locality, CpHash, NameHash, Kinds, NvWritten}
use Rattle.tpm_bindings.specs.Facts.{codes_of, common_localities, cp_hashes_of, name_hashes_of, parent_hashes_of, written_of}
use Rattle.tpol_base.specs.Digest.{is_same_digest}
use Rattle.tpm_bindings.specs.Held.{any_of, are_one}

-- the first rule that the moves break: all codes are one, a locality is allowed by all, all digests of
-- PolicyCpHash are one, all nameHashes that a digest fixes are one, there is not both a PolicyCpHash and a
-- PolicyNameHash or PolicyDuplicationSelect, all states of PolicyNvWritten are one
abbrev pub disagreement : List Move → Option Disagreement
disagreement moves =
    if not (are_one nat_eq (codes_of moves)) then Some Code else
    (if common_localities moves == 0 then Some Locality else
    (if not (are_one is_same_digest (cp_hashes_of moves)) then Some CpHash else
    (if not (are_one is_same_digest (name_hashes_of moves)) then Some NameHash else
    (if any_of (cp_hashes_of moves) && (any_of (name_hashes_of moves) || any_of (parent_hashes_of moves)) then Some Kinds else
    (if not (are_one beq (written_of moves)) then Some NvWritten else None)))))

-- no rule is broken
abbrev pub Agree : List Move → Type 0
Agree moves = disagreement moves ≡ None
