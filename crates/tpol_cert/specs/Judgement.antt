-- The certificate of a path as bytes, and what is answered of bytes, over all choices and paths of a policy.
use Rattle.std.specs.Prelude.{ℕ, ◌+◌, ◌-◌, Bool, true, false, List, [], ◌∷◌, Option, Some, None, Result, Ok, Err, if◌then◌else◌}
use Rattle.std.specs.List.{slice_get}
use Rattle.tpol_tree.specs.declared.closed.Closed.{Closed}
use Rattle.tpol_tree.specs.declared.path.ApprovedDoc.{ApprovedDoc}
use Rattle.tpol_tree.specs.declared.path.Move.{Move}
use Rattle.tpol_tree.specs.declared.path.Path.{Path}
use Rattle.tpol_digest.specs.Digest.{zero_digest}
use Rattle.tpol_digest.specs.Paths.{paths_of}
use Rattle.tpol_cert.specs.declared.certificate.Certificate.{Certificate}
use Rattle.tpol_cert.specs.declared.choice.Choice.{Choice}
use Rattle.tpol_cert.specs.declared.fault.CertFault.{CertFault}
use Rattle.tpol_cert.specs.declared.fault.CertFault.TheVariants as faults
use Rattle.tpol_cert.specs.Certificates.{certificate_of, digests_along}
use Rattle.tpol_cert.specs.Choices.{choices_of, same_choice}
use Rattle.tpol_cert.specs.Judging.{first_difference, first_wrong_step}
use Rattle.tpol_cert.specs.Reading.{certificate_in}
use Rattle.tpol_cert.specs.Spelling.{spelled}

-- ---- the certificate of a path

abbrev pub certificate_with : Option (List Choice) → Option Path → Option (List ℕ)
certificate_with None path = None
certificate_with (Some choices) None = None
certificate_with (Some choices) (Some path) = Some (spelled (certificate_of choices path))

-- of the path at this position, from 1, if there is one
unfoldable pub certificate_bytes : Closed → List ApprovedDoc → ℕ → Option (List ℕ)
certificate_bytes policy approvals position =
    certificate_with (slice_get (choices_of policy approvals) (position - 1)) (slice_get (paths_of policy approvals) (position - 1))

-- ---- what is answered of bytes

abbrev pub same_choices : List Choice → List Choice → Bool
same_choices [] [] = true
same_choices [] (b ∷ ys) = false
same_choices (a ∷ xs) [] = false
same_choices (a ∷ xs) (b ∷ ys) = if same_choice a b then same_choices xs ys else false

-- the position of the first of these that are the steps, where the first of all has this one
abbrev pub position_of : ℕ → List Choice → List (List Choice) → Option ℕ
position_of position steps [] = None
position_of position steps (choices ∷ rest) =
    if same_choices steps choices then Some position else position_of (position + 1) steps rest

abbrev pub moves_in : Option Path → List Move
moves_in None = []
moves_in (Some path) = path.moves

abbrev pub unless_different : ℕ → Option ℕ → Result ℕ CertFault
unless_different position None = Ok position
unless_different position (Some number) = Err (faults.Differs number)

-- of a certificate whose steps are the choices at this position among those of all these paths, if they are any's
abbrev pub judgement_at : List (List Choice) → List Path → Certificate → Option ℕ → Result ℕ CertFault
judgement_at all paths c None = Err (faults.NoStep (first_wrong_step c.steps all))
judgement_at all paths c (Some position) =
    unless_different position
    (first_difference 1 c.digests (digests_along zero_digest (moves_in (slice_get paths (position - 1)))))

abbrev pub judgement_on : List (List Choice) → List Path → Option Certificate → Result ℕ CertFault
judgement_on all paths None = Err faults.Malformed
judgement_on all paths (Some c) = judgement_at all paths c (position_of 1 c.steps all)

-- the position of the path that the bytes certify, or what is wrong with them first
unfoldable pub judgement_of : Closed → List ApprovedDoc → List ℕ → Result ℕ CertFault
judgement_of policy approvals bytes = judgement_on (choices_of policy approvals) (paths_of policy approvals) (certificate_in bytes)
