-- What is told of a certificate.
use Rattle.std.specs.Prelude.{◌≡◌, ℕ, ◌+◌, ◌-◌, ◌≤◌, ◌⊎◌, ⊤, List, [], ◌∷◌, Option, Some, None, Result, Ok, Err, if◌then◌else◌}
use Rattle.std.specs.List.{slice_get}
use Rattle.tpol_base.specs.declared.digest.Digest32.{Digest32}
use Rattle.tpol_base.specs.Digest.{is_same_digest}
use Rattle.tpol_tree.specs.declared.closed.Closed.{Closed}
use Rattle.tpol_tree.specs.declared.path.ApprovedDoc.{ApprovedDoc}
use Rattle.tpol_tree.specs.declared.path.Path.{Path}
use Rattle.tpol_digest.specs.Digest.{zero_digest}
use Rattle.tpol_digest.specs.Paths.{paths_of}
use Rattle.tpol_cert.specs.declared.certificate.Certificate.{Certificate}
use Rattle.tpol_cert.specs.declared.choice.Choice.{Choice}
use Rattle.tpol_cert.specs.declared.fault.CertFault.{CertFault}
use Rattle.tpol_cert.specs.declared.fault.CertFault.TheVariants as faults
use Rattle.tpol_cert.specs.Certificates.{digests_along}
use Rattle.tpol_cert.specs.Choices.{choices_of}
use Rattle.tpol_cert.specs.Following.{most}
use Rattle.tpol_cert.specs.Spelling.{Fits, spelled}

-- The number of the first step that names no choice where the earlier ones lead, that is one too many, or that is
-- missing, where the steps are the choices of no path: one more than the most that they have in common with those of one.
abbrev pub first_wrong_step : List Choice → List (List Choice) → ℕ
first_wrong_step steps all = most steps all + 1

-- the number of the first digest that is another, one too many, or missing
abbrev pub first_difference : ℕ → List Digest32 → List Digest32 → Option ℕ
first_difference number [] [] = None
first_difference number [] (b ∷ ys) = Some number
first_difference number (a ∷ xs) [] = Some number
first_difference number (a ∷ xs) (b ∷ ys) =
    if is_same_digest a b then first_difference (number + 1) xs ys else Some number

-- the path at this position, from 1, and its choices
pub record IsAt (policy : Closed) (approvals : List ApprovedDoc) (position : ℕ) (choices : List Choice) (path : Path) : Type 0 where
  pub counted : 1 ≤ position
  pub chosen : slice_get (choices_of policy approvals) (position - 1) ≡ Some choices
  pub is_there : slice_get (paths_of policy approvals) (position - 1) ≡ Some path

-- the steps are the choices of no path
pub record IsNoStep (all : List (List Choice)) (steps : List Choice) (number : ℕ) : Type 0 where
  pub none : (index : ℕ) → slice_get all index ≡ Some steps → ⊥
  pub first : number ≡ first_wrong_step steps all

-- the steps lead to the path at this position, and a digest is not the path's
pub record IsDifferent (policy : Closed) (approvals : List ApprovedDoc) (c : Certificate) (number : ℕ) : Type 0 where
  pub position : ℕ
  pub path : Path
  pub at : IsAt policy approvals position c.steps path
  pub first : first_difference 1 c.digests (digests_along zero_digest path.moves) ≡ Some number

-- the steps lead to the path at this position, and the digests are the path's
pub record IsAccepted (policy : Closed) (approvals : List ApprovedDoc) (c : Certificate) (position : ℕ) : Type 0 where
  pub path : Path
  pub at : IsAt policy approvals position c.steps path
  pub same : c.digests ≡ digests_along zero_digest path.moves

-- an answer on a certificate
abbrev pub Judged : Closed → List ApprovedDoc → Certificate → Result ℕ CertFault → Type 0
Judged policy approvals c (Ok position) = IsAccepted policy approvals c position
Judged policy approvals c (Err faults.NoMemory) = ⊤
Judged policy approvals c (Err faults.Malformed) = ⊥
Judged policy approvals c (Err (faults.NoStep number)) = IsNoStep (choices_of policy approvals) c.steps number
Judged policy approvals c (Err (faults.Differs number)) = IsDifferent policy approvals c number

-- an answer on where steps lead
abbrev pub IsLost : List (List Choice) → List Choice → CertFault → Type 0
IsLost all steps faults.NoMemory = ⊤
IsLost all steps faults.Malformed = ⊥
IsLost all steps (faults.NoStep number) = IsNoStep all steps number
IsLost all steps (faults.Differs number) = ⊥

-- the bytes are no certificate
abbrev pub AreNoCertificate : List ℕ → Type 0
AreNoCertificate bytes = (c : Certificate) → Fits c → bytes ≡ spelled c → ⊥

-- this is answered, unless memory ran out
abbrev pub AnswersUnlessNoMemory : Result ℕ CertFault → Result ℕ CertFault → Type 0
AnswersUnlessNoMemory result wanted = (result ≡ Err faults.NoMemory) ⊎ (result ≡ wanted)
