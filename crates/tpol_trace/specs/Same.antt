-- When a session's policy command is the one that a path asks for.
use Rattle.std.specs.Prelude.{◌≡◌, ℕ, Bool, true, false, ◌&&◌, not, List, [], ◌∷◌, Option, Some, None, nat_eq, ⊤}
use Rattle.std.specs.Str.{bytes_eq}
use Rattle.tpol_base.specs.declared.digest.Digest32.{Digest32}
use Rattle.tpol_tree.specs.declared.path.Move.{Move}
use Rattle.tpol_tree.specs.declared.path.Move.TheVariants.{Assert, Or, Approve, ApproveNv}
use Rattle.tpol_digest.specs.Update.{Update, update_of}

-- the digest that an approval approves
abbrev pub approved_of : Move → Option Digest32
approved_of (Assert assertion) = None
approved_of (Or digests) = None
approved_of (Approve key policy_ref approved signature) = Some approved
approved_of (ApproveNv index approved) = Some approved

-- The two hash the same, and an approval approves the same digest. The command code is among what is
-- hashed, so they are of one kind, where PolicyAuthValue and PolicyPassword count as one. What is not
-- hashed is free: expiration, cpHashA, the values of PCRs beside their digest (a fact has none), an approval's
-- signature, and the object of a PolicyDuplicationSelect without includeObject.
pub record IsSameMove (act fact : Move) : Type 0 where
  pub hashed : update_of act ≡ update_of fact
  pub approved : approved_of act ≡ approved_of fact

-- as many moves as facts, the same in order
abbrev pub AreSame : List Move → List Move → Type 0
AreSame [] [] = ⊤
AreSame [] (fact ∷ facts) = ⊥
AreSame (act ∷ moves) [] = ⊥
AreSame (act ∷ moves) (fact ∷ facts) = IsSameMove act fact × AreSame moves facts

-- ---- the same as tests

abbrev pub same_bool : Bool → Bool → Bool
same_bool true b = b
same_bool false b = not b

abbrev pub same_string : Option (List ℕ) → Option (List ℕ) → Bool
same_string None None = true
same_string None (Some b) = false
same_string (Some a) None = false
same_string (Some a) (Some b) = bytes_eq a b

abbrev pub same_digest : Option Digest32 → Option Digest32 → Bool
same_digest None None = true
same_digest None (Some b) = false
same_digest (Some a) None = false
same_digest (Some a) (Some b) = bytes_eq a.bytes b.bytes

abbrev pub same_update : Update → Update → Bool
same_update a b =
    same_bool a.fresh b.fresh && nat_eq a.code b.code && same_string a.inner b.inner && bytes_eq a.rest b.rest && same_string a.policy_ref b.policy_ref

abbrev pub is_same_move : Move → Move → Bool
is_same_move act fact = same_update (update_of act) (update_of fact) && same_digest (approved_of act) (approved_of fact)

abbrev pub are_same : List Move → List Move → Bool
are_same [] [] = true
are_same [] (fact ∷ facts) = false
are_same (act ∷ moves) [] = false
are_same (act ∷ moves) (fact ∷ facts) = is_same_move act fact && are_same moves facts
