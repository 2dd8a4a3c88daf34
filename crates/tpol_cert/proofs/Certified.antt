-- What is answered of bytes is a position exactly where they certify the path there.
use Rattle.std.proofs.Common.{◌≡◌, ℕ, zero, suc, ◌-◌, ◌<◌, ◌≤◌, List, [], ◌∷◌, Option, Some, None, Ok, refl, sym, ap, ◌∙◌, subst, inl, inr, arith}
use Rattle.std.specs.List.{AllByRecursion, slice_get}
use Rattle.std.proofs.lemmas.List.Elements.{recursion_from_All}
use Rattle.tpol_tree.specs.declared.closed.Closed.{Closed}
use Rattle.tpol_tree.specs.declared.path.ApprovedDoc.{ApprovedDoc}
use Rattle.tpol_tree.specs.declared.path.Path.{Path}
use Rattle.tpol_digest.specs.Digest.{zero_digest}
use Rattle.tpol_digest.specs.Paths.{paths_of}
use Rattle.tpol_cert.specs.declared.certificate.Certificate.{Certificate}
use Rattle.tpol_cert.specs.declared.choice.Choice.{Choice}
use Rattle.tpol_cert.specs.Certificates.{Certifies, certificate_of, digests_along}
use Rattle.tpol_cert.specs.Choices.{choices_of}
use Rattle.tpol_cert.specs.Judgement.{judgement_at, judgement_of, judgement_on, moves_in, position_of, unless_different}
use Rattle.tpol_cert.specs.Judging.{AnswersUnlessNoMemory, IsAccepted, first_difference}
use Rattle.tpol_cert.specs.Laws.{JudgementsCertify}
use Rattle.tpol_cert.specs.Reading.{certificate_in}
use Rattle.tpol_cert.specs.Spelling.{Fits, spelled}
use Rattle.tpol_cert.specs.Steps.{Beside}
use Rattle.tpol_cert.proofs.Beside.{choices_beside}
use Rattle.tpol_cert.proofs.Judged.{found_at, told_read}
use Rattle.tpol_cert.proofs.Judging.{accepted_certifies, same_where_none}
use Rattle.tpol_cert.proofs.ReadingLaws.{IsBytes, certificate_again, certificate_takes}

-- ---- bytes

in_bytes : (bytes : List ℕ) → AllByRecursion (λ byte. byte < 256) bytes → IsBytes bytes
in_bytes [] h zero = omega (arith)
in_bytes [] h (suc i) = omega (arith)
in_bytes (byte ∷ rest) h zero = h.0
in_bytes (byte ∷ rest) h (suc i) = in_bytes rest h.1 i

-- ---- choices are of a path

none_beside : (all : List (List Choice)) (paths : List Path) (i : ℕ) (choices : List Choice) → Beside all paths → slice_get all i ≡ Some choices → slice_get paths i ≡ None → ⊥
none_beside [] paths i choices h e k = cc
none_beside (xs ∷ all) [] i choices h e k = absurd h
none_beside (xs ∷ all) (path ∷ paths) zero choices h e k = cc
none_beside (xs ∷ all) (path ∷ paths) (suc i) choices h e k = none_beside all paths i choices h.1 e k

-- ---- what is answered, and what certifies

module _ (policy : Closed) (approvals : List ApprovedDoc) (bytes : List ℕ) where
  -- of a certificate whose steps are found at a position
  at_position : (c : Certificate) (m position : ℕ) (there : Option Path) (difference : Option ℕ) → Fits c → bytes ≡ spelled c → 1 ≤ m
      → slice_get (choices_of policy approvals) (m - 1) ≡ Some c.steps → slice_get (paths_of policy approvals) (m - 1) ≡ there
      → first_difference 1 c.digests (digests_along zero_digest (moves_in there)) ≡ difference → unless_different m difference ≡ Ok position
      → Certifies bytes policy approvals position
  at_position c m position None difference fits is counted chosen there differs told =
      absurd (none_beside (choices_of policy approvals) (paths_of policy approvals) (m - 1) c.steps (choices_beside policy approvals) chosen there)
  at_position c m position (Some path) (Some number) fits is counted chosen there differs told = absurd cc
  at_position c m position (Some path) None fits is counted chosen there differs told =
      let here : m ≡ position = cc in
      let accepted : IsAccepted policy approvals c m = record {
        path = path;
        at = record { counted = counted; chosen = chosen; is_there = there };
        same = same_where_none 1 c.digests (digests_along zero_digest path.moves) differs;
      } in
      subst (λ n. Certifies bytes policy approvals n) here (accepted_certifies policy approvals bytes c m fits is accepted)

  of_read : (read : Option Certificate) (position : ℕ) → IsBytes bytes → certificate_in bytes ≡ read
      → judgement_on (choices_of policy approvals) (paths_of policy approvals) read ≡ Ok position → Certifies bytes policy approvals position
  of_read None position h e told = absurd cc
  of_read (Some c) position h e told = by (position_of 1 c.steps (choices_of policy approvals)) refl told
    where
      by : (found : Option ℕ) → position_of 1 c.steps (choices_of policy approvals) ≡ found
          → judgement_at (choices_of policy approvals) (paths_of policy approvals) c found ≡ Ok position → Certifies bytes policy approvals position
      by None f k = absurd cc
      by (Some m) f k =
          let there = found_at 1 c.steps (choices_of policy approvals) m f in
          let taken = certificate_takes bytes c h e in
          let path = slice_get (paths_of policy approvals) (m - 1) in
          at_position c m position path (first_difference 1 c.digests (digests_along zero_digest (moves_in path))) taken.0 taken.1 there.0 there.1 refl refl k

  told_certifies : (position : ℕ) → IsBytes bytes → judgement_of policy approvals bytes ≡ Ok position → Certifies bytes policy approvals position
  unfolding judgement_of
  told_certifies position h told = of_read (certificate_in bytes) position h refl told

  certified_told : (position : ℕ) → Certifies bytes policy approvals position → judgement_of policy approvals bytes ≡ Ok position
  certified_told position w =
      let c = certificate_of w.choices w.path in
      let accepted : IsAccepted policy approvals c position = record {
        path = w.path;
        at = record { counted = w.counted; chosen = w.chosen; is_there = w.is_there };
        same = refl;
      } in
      by (told_read policy approvals bytes c (Ok position) (ap certificate_in w.spells ∙ certificate_again c w.fits) accepted)
    where
      by : AnswersUnlessNoMemory (Ok position) (judgement_of policy approvals bytes) → judgement_of policy approvals bytes ≡ Ok position
      by (inl h) = absurd cc
      by (inr h) = sym h

pub judgements_certify : JudgementsCertify
judgements_certify policy approvals bytes position h = (
  told_certifies policy approvals bytes position (in_bytes bytes (recursion_from_All (λ byte. byte < 256) bytes h)),
  certified_told policy approvals bytes position,
)
