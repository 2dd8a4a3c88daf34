-- What an opening line says: by which written path a session's facts lead to the policy's digest, or two
-- different strings of one digest, or a string whose digest is zero.
use Rattle.std.specs.Prelude.{◌≡◌, ◌≢◌, ℕ, ◌+◌, ◌-◌, ◌<◌, ◌≤◌, Bool, ◌&&◌, not, if◌then◌else◌, List, [], ◌∷◌, ◌++◌, ◌⊎◌, All, map, slice_get, Option, Some, None}
use Rattle.std.specs.Option.{option_map}
use Rattle.std.specs.Str.{bytes_eq}
use Rattle.tpol_hash.specs.Sha256.{sha256_digest}
use Rattle.tpol_tree.specs.declared.closed.Closed.{Closed}
use Rattle.tpol_tree.specs.declared.facts.Fact.{Fact}
use Rattle.tpol_tree.specs.declared.path.ApprovedDoc.{ApprovedDoc}
use Rattle.tpol_tree.specs.declared.path.Path.{Path}
use Rattle.tpol_digest.specs.Digest.{zero_digest}
use Rattle.tpol_digest.specs.Inputs.{inputs_of_policy, inputs_of_facts}
use Rattle.tpol_digest.specs.Paths.{paths_of}
use Rattle.tpol_tree.specs.Facts.{moves_of}
use Rattle.tpol_trace.specs.declared.answer.Opening.{Opening}
use Rattle.tpol_trace.specs.declared.answer.Opening.TheVariants.{Branch, Clash, ZeroInput}
use Rattle.tpol_trace.specs.Matching.{Matches, matches}

-- the strings that are hashed for the policy and its approved documents, and then those for the facts
abbrev pub inputs : Closed → List ApprovedDoc → List Fact → List (List ℕ)
inputs policy approvals facts = inputs_of_policy policy approvals ++ inputs_of_facts facts

-- the event numbers of facts
abbrev pub events_of : List Fact → List ℕ
events_of facts = map (λ fact. fact.event) facts

-- ---- what an answer means

-- the first path that matches, by its position from 1
pub record IsFirstMatch (policy : Closed) (approvals : List ApprovedDoc) (facts : List Fact) (position : ℕ) : Type 0 where
  pub path : Path
  pub counted : 1 ≤ position
  pub listed : slice_get (paths_of policy approvals) (position - 1) ≡ Some path
  pub matching : Matches approvals path (moves_of facts)
  pub first : (index : ℕ) (earlier : Path) → index + 1 < position → slice_get (paths_of policy approvals) index ≡ Some earlier → Matches approvals earlier (moves_of facts) → ⊥

-- no path matches
abbrev pub NoMatch : Closed → List ApprovedDoc → List Fact → Type 0
NoMatch policy approvals facts = All (λ path. Matches approvals path (moves_of facts) → ⊥) (paths_of policy approvals)

-- different strings of one digest, at two places of a list
pub record IsClash (strings : List (List ℕ)) (i j : ℕ) (first second : List ℕ) : Type 0 where
  pub order : i < j
  pub first_listed : slice_get strings i ≡ Some first
  pub second_listed : slice_get strings j ≡ Some second
  pub different : first ≢ second
  pub one_digest : sha256_digest first ≡ sha256_digest second

-- the clash of the least first place, and then of the least second place
pub record IsFirstClash (strings : List (List ℕ)) (first second : List ℕ) : Type 0 where
  pub i : ℕ
  pub j : ℕ
  pub clash : IsClash strings i j first second
  pub least : (k l : ℕ) (a b : List ℕ) → IsClash strings k l a b → (i < k) ⊎ ((i ≡ k) × (j ≤ l))

-- no two different strings have one digest
abbrev pub NoClash : List (List ℕ) → Type 0
NoClash strings = (i j : ℕ) (first second : List ℕ) → IsClash strings i j first second → ⊥

-- the first string whose digest is zero
pub record IsFirstZero (strings : List (List ℕ)) (string : List ℕ) : Type 0 where
  pub i : ℕ
  pub listed : slice_get strings i ≡ Some string
  pub zero : sha256_digest string ≡ zero_digest
  pub first : (k : ℕ) (earlier : List ℕ) → k < i → slice_get strings k ≡ Some earlier → sha256_digest earlier ≢ zero_digest

-- the first path that matches; where there is none the first clash; where there is none either the first
-- string of digest zero
abbrev pub IsOpening : Closed → List ApprovedDoc → List Fact → Opening → Type 0
IsOpening policy approvals facts (Branch position events) =
    IsFirstMatch policy approvals facts position × (events ≡ events_of facts)
IsOpening policy approvals facts (Clash first second) =
    NoMatch policy approvals facts × IsFirstClash (inputs policy approvals facts) first second
IsOpening policy approvals facts (ZeroInput string) =
    NoMatch policy approvals facts × NoClash (inputs policy approvals facts) × IsFirstZero (inputs policy approvals facts) string

-- ---- the same, computed

-- how many items stand before the first that passes
abbrev pub first_index : {A : Type 0} → (A → Bool) → List A → Option ℕ
first_index test [] = None
first_index test (x ∷ rest) = if test x then Some 0 else option_map (λ i. i + 1) (first_index test rest)

-- two different strings have one digest
abbrev pub is_clash : List ℕ → List ℕ → Bool
is_clash a b = not (bytes_eq a b) && bytes_eq (sha256_digest a).bytes (sha256_digest b).bytes

-- the first of these strings that clashes with the string
abbrev pub clash_with : List ℕ → List (List ℕ) → Option (List ℕ)
clash_with string [] = None
clash_with string (other ∷ rest) = if is_clash string other then Some other else clash_with string rest

-- a string with the first that clashes with it, if there is one, else another pair
abbrev pub pair_or : List ℕ → Option (List ℕ) → Option (List ℕ × List ℕ) → Option (List ℕ × List ℕ)
pair_or string (Some other) pair = Some (string, other)
pair_or string None pair = pair

abbrev pub first_clash : List (List ℕ) → Option (List ℕ × List ℕ)
first_clash [] = None
first_clash (string ∷ rest) = pair_or string (clash_with string rest) (first_clash rest)

-- the first string of digest zero
abbrev pub first_zero : List (List ℕ) → Option (List ℕ)
first_zero [] = None
first_zero (string ∷ rest) = if bytes_eq (sha256_digest string).bytes zero_digest.bytes then Some string else first_zero rest

abbrev pub zero_opening : Option (List ℕ) → Option Opening
zero_opening (Some string) = Some (ZeroInput string)
zero_opening None = None

abbrev pub broken_opening : Option (List ℕ × List ℕ) → Option (List ℕ) → Option Opening
broken_opening (Some pair) string = Some (Clash pair.0 pair.1)
broken_opening None string = zero_opening string

abbrev pub opening_by : Option ℕ → List ℕ → List (List ℕ) → Option Opening
opening_by (Some index) events strings = Some (Branch (index + 1) events)
opening_by None events strings = broken_opening (first_clash strings) (first_zero strings)

-- the index of the first path that matches
abbrev pub first_match : Closed → List ApprovedDoc → List Fact → Option ℕ
first_match policy approvals facts =
    first_index (λ path. matches approvals path (moves_of facts)) (paths_of policy approvals)

-- the opening of a policy by facts
abbrev pub opening_of : Closed → List ApprovedDoc → List Fact → Option Opening
opening_of policy approvals facts =
    opening_by (first_match policy approvals facts) (events_of facts) (inputs policy approvals facts)
