-- What is told of a certificate, of what was read.
use Rattle.std.proofs.Common.{◌≡◌, ℕ, ◌+◌, ◌-◌, Bool, true, false, List, [], ◌∷◌, Some, None, Result, Ok, Err, refl, sym, ap, ◌∙◌, subst, inl, inr}
use Rattle.std.specs.Prelude.{IfOk, IsErrOf, if◌then◌else◌}
use Rattle.std.specs.List.{slice_get}
use Rattle.std.proofs.lemmas.Slice.Eq.{bytes_eq-Decides}
use Rattle.tpol_base.specs.declared.digest.Digest32.{Digest32}
use Rattle.tpol_base.specs.Digest.{is_same_digest}
use Rattle.tpol_base.proofs.Digests.{same_digest}
use Rattle.tpol_tree.specs.declared.closed.Closed.{Closed}
use Rattle.tpol_tree.specs.declared.path.ApprovedDoc.{ApprovedDoc}
use Rattle.tpol_tree.specs.declared.path.Path.{Path}
use Rattle.tpol_digest.specs.Digest.{zero_digest}
use Rattle.tpol_digest.specs.Paths.{paths_of}
use Rattle.tpol_cert.specs.declared.certificate.Certificate.{Certificate}
use Rattle.tpol_cert.specs.declared.choice.Choice.{Choice}
use Rattle.tpol_cert.specs.declared.fault.CertFault.{CertFault}
use Rattle.tpol_cert.specs.declared.fault.CertFault.TheVariants as faults
use Rattle.tpol_cert.specs.Certificates.{Certifies, certificate_of, digests_along}
use Rattle.tpol_cert.specs.Judging.{AnswersUnlessNoMemory, AreNoCertificate, IsAccepted, Judged, first_difference}
use Rattle.tpol_cert.specs.Reading.{GivesWhole, certificate_in}
use Rattle.tpol_cert.specs.Spelling.{Fits, spelled}
use Rattle.tpol_cert.specs.Judgement.{judgement_of}
use Rattle.tpol_cert.proofs.Judged.{none_where_same, one_position, some_is, told_read, told_unread}
use Rattle.tpol_cert.proofs.ReadingLaws.{IsBytes, certificate_again, certificate_takes}

-- ---- digests

pub same_where_none : (n : ℕ) (xs ys : List Digest32) → first_difference n xs ys ≡ None → xs ≡ ys
same_where_none n [] [] e = refl
same_where_none n [] (y ∷ ys) e = absurd cc
same_where_none n (x ∷ xs) [] e = absurd cc
same_where_none n (x ∷ xs) (y ∷ ys) e = by (is_same_digest x y) (bytes_eq-Decides x.bytes y.bytes).0 (same_where_none (n + 1) xs ys) e
  where
    by : (b : Bool) → (b ≡ true → x.bytes ≡ y.bytes) → (first_difference (n + 1) xs ys ≡ None → xs ≡ ys) → (if b then first_difference (n + 1) xs ys else Some n) ≡ None → x ∷ xs ≡ y ∷ ys
    by true same later h = ap (λ d. d ∷ xs) (same_digest x y (same refl)) ∙ ap (λ l. y ∷ l) (later h)
    by false same later h = absurd cc

-- ---- certificates

one_certificate : (bytes : List ℕ) (c d : Certificate) → certificate_in bytes ≡ Some c → Fits d → bytes ≡ spelled d → c ≡ d
one_certificate bytes c d e fits is = some_is c d (sym e ∙ ap certificate_in is ∙ certificate_again d fits)

-- ---- what `check` promises of an answer

pub record Checks (policy : Closed) (approvals : List ApprovedDoc) (bytes : List ℕ) (result : Result ℕ CertFault) : Type 0 where
  pub certifies : IfOk result (λ position. Certifies bytes policy approvals position)
  pub only : (position : ℕ) → Certifies bytes policy approvals position → AnswersUnlessNoMemory result (Ok position)
  pub malformed : IsErrOf result faults.Malformed → AreNoCertificate bytes
  pub no_certificate : AreNoCertificate bytes → AnswersUnlessNoMemory result (Err faults.Malformed)
  pub judged : (c : Certificate) → Fits c → bytes ≡ spelled c → Judged policy approvals c result
  pub told : AnswersUnlessNoMemory result (judgement_of policy approvals bytes)

abbrev certificate : List Choice → List Digest32 → Certificate
certificate steps digests = record { steps = steps; digests = digests }

module _ (policy : Closed) (approvals : List ApprovedDoc) (bytes : List ℕ) where
  pub accepted_certifies : (c : Certificate) (position : ℕ) → Fits c → bytes ≡ spelled c → IsAccepted policy approvals c position → Certifies bytes policy approvals position
  accepted_certifies c position fits is a =
      let same : c ≡ certificate_of c.steps a.path = ap (λ digests. certificate c.steps digests) a.same in
      record {
        choices = c.steps;
        path = a.path;
        counted = a.at.counted;
        chosen = a.at.chosen;
        is_there = a.at.is_there;
        fits = subst Fits same fits;
        spells = is ∙ ap spelled same;
      }

  certified_only : (c : Certificate) (result : Result ℕ CertFault) (position : ℕ) → certificate_in bytes ≡ Some c → Judged policy approvals c result → Certifies bytes policy approvals position → AnswersUnlessNoMemory result (Ok position)
  certified_only c (Ok n) position e judged w =
      let same = one_certificate bytes c (certificate_of w.choices w.path) e w.fits w.spells in
      let chosen = judged.at.chosen ∙ ap (λ (d : Certificate). Some d.steps) same in
      inr (ap (λ (k : ℕ). Ok k) (one_position policy approvals n position w.choices judged.at.counted w.counted chosen w.chosen))
  certified_only c (Err faults.NoMemory) position e judged w = inl refl
  certified_only c (Err faults.Malformed) position e judged w = absurd judged
  certified_only c (Err (faults.NoStep number)) position e judged w =
      let same = one_certificate bytes c (certificate_of w.choices w.path) e w.fits w.spells in
      absurd (judged.none (position - 1) (w.chosen ∙ ap (λ (d : Certificate). Some d.steps) (sym same)))
  certified_only c (Err (faults.Differs number)) position e judged w =
      let same = one_certificate bytes c (certificate_of w.choices w.path) e w.fits w.spells in
      let chosen = judged.at.chosen ∙ ap (λ (d : Certificate). Some d.steps) same in
      let here = one_position policy approvals judged.position position w.choices judged.at.counted w.counted chosen w.chosen in
      let path : judged.path ≡ w.path = some_is judged.path w.path (sym judged.at.is_there ∙ ap (λ n. slice_get (paths_of policy approvals) (n - 1)) here ∙ w.is_there) in
      let digests : c.digests ≡ digests_along zero_digest judged.path.moves = ap (λ (d : Certificate). d.digests) same ∙ ap (λ (p : Path). digests_along zero_digest p.moves) (sym path) in
      let none : None ≡ Some number = sym (none_where_same 1 c.digests) ∙ ap (first_difference 1 c.digests) digests ∙ judged.first in
      absurd cc

  not_malformed : (c : Certificate) (result : Result ℕ CertFault) → Judged policy approvals c result → IsErrOf result faults.Malformed → ⊥
  not_malformed c (Ok n) judged h = cc
  not_malformed c (Err faults.NoMemory) judged h = cc
  not_malformed c (Err faults.Malformed) judged h = judged
  not_malformed c (Err (faults.NoStep number)) judged h = cc
  not_malformed c (Err (faults.Differs number)) judged h = cc

  pub checked : (c : Certificate) (result : Result ℕ CertFault) → IsBytes bytes → certificate_in bytes ≡ Some c → Judged policy approvals c result → Checks policy approvals bytes result
  checked c result fits e judged =
      let read = certificate_takes bytes c fits e in
      record {
        certifies = certifies result judged;
        only = λ position w. certified_only c result position e judged w;
        malformed = λ h. absurd (not_malformed c result judged h);
        no_certificate = λ none. absurd (none c read.0 read.1);
        judged = λ d fit is. subst (λ x. Judged policy approvals x result) (one_certificate bytes c d e fit is) judged;
        told = told_read policy approvals bytes c result e judged;
      }
    where
      certifies : (r : Result ℕ CertFault) → Judged policy approvals c r → IfOk r (λ position. Certifies bytes policy approvals position)
      certifies (Ok n) h = let read = certificate_takes bytes c fits e in accepted_certifies c n read.0 read.1 h
      certifies (Err fault) h = tt

  pub refused : (fault : CertFault) (read : Result Certificate CertFault) → read ≡ Err fault → GivesWhole read (certificate_in bytes) → Checks policy approvals bytes (Err fault)
  refused fault read e h = by fault (subst (λ r. GivesWhole r (certificate_in bytes)) e h)
    where
      nothing : (d : Certificate) → certificate_in bytes ≡ None → Fits d → bytes ≡ spelled d → ⊥
      nothing d none fit is =
          let both : None ≡ Some d = sym none ∙ ap certificate_in is ∙ certificate_again d fit in
          cc

      by : (f : CertFault) → GivesWhole {A = Certificate} (Err f) (certificate_in bytes) → Checks policy approvals bytes (Err f)
      by faults.NoMemory g = record { certifies = tt; only = λ position w. inl refl; malformed = λ m. absurd cc; no_certificate = λ none. inl refl; judged = λ d fit is. tt; told = inl refl }
      by faults.Malformed g = record {
        certifies = tt;
        only = λ position w. absurd (nothing (certificate_of w.choices w.path) g w.fits w.spells);
        malformed = λ m d fit is. nothing d g fit is;
        no_certificate = λ none. inr refl;
        judged = λ d fit is. nothing d g fit is;
        told = inr (told_unread policy approvals bytes g);
      }
      by (faults.NoStep number) g = absurd g
      by (faults.Differs number) g = absurd g
