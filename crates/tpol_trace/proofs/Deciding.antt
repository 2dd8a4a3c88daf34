-- The tests are right.
use Rattle.std.proofs.Common.{◌≡◌, ℕ, Bool, true, false, IsTrue, List, [], ◌∷◌, Option, Some, None, inl, inr, refl, sym, ap, ◌&&◌}
use Rattle.std.specs.Prelude.{◌⊎◌, ◌||◌, is_some}
use Rattle.std.specs.Bool.{Decides}
use Rattle.std.proofs.lemmas.Bool.{false≢true}
use Rattle.std.proofs.lemmas.Bool.Decides.{Decides-eqb}
use Rattle.std.proofs.lemmas.Slice.Eq.{bytes_eq-Decides}
use Rattle.tpol_base.specs.declared.digest.Digest32.{Digest32}
use Rattle.tpol_base.proofs.Digests as digests
use Rattle.tpol_tree.specs.declared.path.ApprovedDoc.{ApprovedDoc}
use Rattle.tpol_tree.specs.declared.path.Move.{Move}
use Rattle.tpol_digest.specs.Update.{Update, update_of}
use Rattle.tpol_trace.specs.Same.{approved_of, IsSameMove, AreSame, same_bool, same_string, same_digest, same_update, is_same_move, are_same}
use Rattle.tpol_trace.proofs.Codes.{same_parts}
use Rattle.tpol_trace.specs.Matching.{IsListed, approval_for, is_listed}

-- ---- tests of two things

pub and_Decides : {P Q : Type 0} (a b : Bool) → Decides a P → Decides b Q → Decides (a && b) (P × Q)
and_Decides true true h k = (λ e. (h.0 refl, k.0 refl), λ p. refl)
and_Decides true false h k = (λ e. absurd (false≢true e), λ p. k.1 p.1)
and_Decides false true h k = (λ e. absurd (false≢true e), λ p. h.1 p.0)
and_Decides false false h k = (λ e. absurd (false≢true e), λ p. h.1 p.0)

pub or_Decides : {P Q : Type 0} (a b : Bool) → Decides a P → Decides b Q → Decides (a || b) (P ⊎ Q)
or_Decides {P} {Q} true b h k = (λ e. inl (h.0 refl), λ p. refl)
or_Decides {P} {Q} false b h k = (λ e. inr (k.0 e), right)
  where
    right : P ⊎ Q → b ≡ true
    right (inl p) = absurd (false≢true (h.1 p))
    right (inr q) = k.1 q

pub Decides-by : {P Q : Type 0} (a : Bool) → (P → Q) → (Q → P) → Decides a P → Decides a Q
Decides-by a f g h = (λ e. f (h.0 e), λ q. h.1 (g q))

-- ---- sameness

bool_Decides : (a b : Bool) → Decides (same_bool a b) (a ≡ b)
bool_Decides true true = (λ e. refl, λ e. refl)
bool_Decides true false = (λ e. absurd (false≢true e), λ e. absurd (false≢true (sym e)))
bool_Decides false true = (λ e. absurd (false≢true e), λ e. absurd (false≢true e))
bool_Decides false false = (λ e. refl, λ e. refl)

string_Decides : (a b : Option (List ℕ)) → Decides (same_string a b) (a ≡ b)
string_Decides None None = (λ e. refl, λ e. refl)
string_Decides None (Some b) = (λ e. absurd (false≢true e), λ e. cc e)
string_Decides (Some a) None = (λ e. absurd (false≢true e), λ e. cc e)
string_Decides (Some a) (Some b) = (
  λ e. ap Some ((bytes_eq-Decides a b).0 e),
  λ e. let same : a ≡ b = cc e in (bytes_eq-Decides a b).1 same,
)

pub digest_Decides : (a b : Option Digest32) → Decides (same_digest a b) (a ≡ b)
digest_Decides None None = (λ e. refl, λ e. refl)
digest_Decides None (Some b) = (λ e. absurd (false≢true e), λ e. cc e)
digest_Decides (Some a) None = (λ e. absurd (false≢true e), λ e. cc e)
digest_Decides (Some a) (Some b) = (
  λ e. ap Some (digests.same_digest a b ((bytes_eq-Decides a.bytes b.bytes).0 e)),
  λ e. let same : a ≡ b = cc e in (bytes_eq-Decides a.bytes b.bytes).1 (ap (λ (d : Digest32). d.bytes) same),
)

pub update_Decides : (a b : Update) → Decides (same_update a b) (a ≡ b)
update_Decides a b =
    Decides-by (same_update a b) (λ p. same_parts a b p.0.0.0.0 p.0.0.0.1 p.0.0.1 p.0.1 p.1) (λ e. ((((ap (λ (u : Update). u.fresh) e, ap (λ (u : Update). u.code) e), ap (λ (u : Update). u.inner) e), ap (λ (u : Update). u.rest) e), ap (λ (u : Update). u.policy_ref) e)) (and_Decides _ _ (and_Decides _ _ (and_Decides _ _ (and_Decides _ _ (bool_Decides a.fresh b.fresh) (Decides-eqb a.code b.code)) (string_Decides a.inner b.inner)) (bytes_eq-Decides a.rest b.rest)) (string_Decides a.policy_ref b.policy_ref))

pub move_Decides : (act fact : Move) → Decides (is_same_move act fact) (IsSameMove act fact)
move_Decides act fact =
    Decides-by (is_same_move act fact) (λ p. record { hashed = p.0; approved = p.1 }) (λ s. (s.hashed, s.approved)) (and_Decides (same_update (update_of act) (update_of fact)) (same_digest (approved_of act) (approved_of fact)) (update_Decides (update_of act) (update_of fact)) (digest_Decides (approved_of act) (approved_of fact)))

pub same_Decides : (moves facts : List Move) → Decides (are_same moves facts) (AreSame moves facts)
same_Decides [] [] = (λ e. tt, λ p. refl)
same_Decides [] (fact ∷ facts) = (λ e. absurd (false≢true e), λ p. absurd p)
same_Decides (act ∷ moves) [] = (λ e. absurd (false≢true e), λ p. absurd p)
same_Decides (act ∷ moves) (fact ∷ facts) =
    and_Decides (is_same_move act fact) (are_same moves facts) (move_Decides act fact) (same_Decides moves facts)

true_Decides : (a : Bool) → Decides a (IsTrue a)
true_Decides a = (λ e. e, λ e. e)

pub listed_Decides : (documents : List ApprovedDoc) (act fact : Move) → Decides (is_listed documents act fact) (IsListed documents act fact)
listed_Decides [] act fact = (λ e. absurd (false≢true e), λ p. absurd p)
listed_Decides (document ∷ rest) act fact =
    or_Decides (is_some (approval_for act document) && same_digest (approved_of fact) (Some document.digest)) (is_listed rest act fact) (and_Decides (is_some (approval_for act document)) (same_digest (approved_of fact) (Some document.digest)) (true_Decides (is_some (approval_for act document))) (digest_Decides (approved_of fact) (Some document.digest))) (listed_Decides rest act fact)
