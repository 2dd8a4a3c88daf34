-- Assertions in a row, whole or ended at a half digest; policies without approvals.
use Rattle.std.specs.Prelude.{◌≡◌, ℕ, false, List, [], ◌∷◌, ◌++◌, ◌⊎◌, Any, IsSome, map, Option, Some, None, ⊤}
use Rattle.std.specs.Option.{option_to_list}
use Rattle.tpol_base.specs.declared.digest.Digest32.{Digest32}
use Rattle.tpol_hash.specs.Sha256.{sha256_digest}
use Rattle.tpol_tree.specs.declared.closed.Assertion.{Assertion}
use Rattle.tpol_tree.specs.declared.closed.Closed.{Closed}
use Rattle.tpol_tree.specs.declared.path.Move.{Move}
use Rattle.tpol_tree.specs.declared.path.Move.TheVariants.{Assert}
use Rattle.tpol_tree.specs.Closed.{ApprovalsLead}
use Rattle.tpol_digest.specs.Digest.{zero_digest, first_string, digest_of_moves}
use Rattle.tpol_digest.specs.Inputs.{inputs_of_moves}
use Rattle.tpol_digest.specs.Update.{update_of_assertion}
use Rattle.tpol_trace.specs.Same.{AreSame}
use Rattle.tpol_trace.specs.Openings.{IsClash}

-- an approval would have to lead, and nothing does
abbrev pub HasNoApproval : Closed → Type 0
HasNoApproval policy = ApprovalsLead false policy.elements

-- the moves of assertions
abbrev pub moves_of_assertions : List Assertion → List Move
moves_of_assertions assertions = map Assert assertions

-- A chain may end at the first of the two digests of a PolicySecret or a PolicySigned.
abbrev pub EndsTwice : Option Assertion → Type 0
EndsTwice None = ⊤
EndsTwice (Some last) = IsSome (update_of_assertion last).policy_ref

-- its digest
abbrev pub digest_of_chain : List Assertion → Option Assertion → Digest32
digest_of_chain assertions None = digest_of_moves (moves_of_assertions assertions)
digest_of_chain assertions (Some last) =
    sha256_digest (first_string (update_of_assertion last) (digest_of_moves (moves_of_assertions assertions)))

-- the strings that are hashed for it
abbrev pub half_inputs : Option Assertion → Digest32 → List (List ℕ)
half_inputs None d = []
half_inputs (Some last) d =
    option_to_list (update_of_assertion last).inner ++ first_string (update_of_assertion last) d ∷ []

abbrev pub inputs_of_chain : List Assertion → Option Assertion → List (List ℕ)
inputs_of_chain assertions half =
    inputs_of_moves zero_digest (moves_of_assertions assertions) ++ half_inputs half (digest_of_moves (moves_of_assertions assertions))

-- both chains are whole, or both end at a half digest of one command code and Name
abbrev pub IsSameHalf : Option Assertion → Option Assertion → Type 0
IsSameHalf None None = ⊤
IsSameHalf None (Some b) = ⊥
IsSameHalf (Some a) None = ⊥
IsSameHalf (Some a) (Some b) =
    ((update_of_assertion a).code ≡ (update_of_assertion b).code) × ((update_of_assertion a).rest ≡ (update_of_assertion b).rest)

-- two different strings of one digest, or one of digest zero, are among these
abbrev pub AreBroken : List (List ℕ) → Type 0
AreBroken strings =
    ((i : ℕ) × (j : ℕ) × (a : List ℕ) × (b : List ℕ) × IsClash strings i j a b) ⊎ Any (λ string. sha256_digest string ≡ zero_digest) strings

-- two chains are the same in order, or their strings are broken
abbrev pub ChainsAgree : List Assertion → Option Assertion → List Assertion → Option Assertion → Type 0
ChainsAgree xs half ys other =
    (AreSame (moves_of_assertions xs) (moves_of_assertions ys) × IsSameHalf half other) ⊎ AreBroken (inputs_of_chain xs half ++ inputs_of_chain ys other)
