-- What holds of the marks of every policy.
use Rattle.std.specs.Prelude.{◌≡◌, List, [], ◌∷◌, Option}
use Rattle.tpol_base.specs.declared.digest.Digest32.{Digest32}
use Rattle.tpol_digest.specs.Digest.{policy_digest, zero_digest}
use Rattle.tpol_fill.specs.Filling.{filled}
use Rattle.tpol_marks.specs.Marks.{marks_of}
use Rattle.tpol_marks.specs.declared.marks.Mark.{Mark}
use Rattle.tpol_name.specs.declared.sight.Sight.{Sight}
use Rattle.tpol_tree.specs.declared.policy.Policy.{Policy}

-- the digest of the last of these marks, or this one where there is none
abbrev pub last_digest : Digest32 → List Mark → Digest32
last_digest d [] = d
last_digest d (mark ∷ marks) = last_digest mark.digest marks

-- the last mark of a policy has the policy's digest
abbrev pub LastIsPolicys : Type 0
LastIsPolicys =
    (sight : Option Sight) (policy : Policy) → last_digest zero_digest (marks_of sight policy) ≡ policy_digest (filled policy sight)
