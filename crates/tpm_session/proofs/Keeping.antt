-- One more fact keeps what a session is.
use Rattle.std.proofs.Common.{◌≡◌, ℕ, ◌||◌, Bool, true, false, List, [], ◌∷◌, ◌++◌, Option, None, Some, is_some, if◌then◌else◌, refl, ap, sym, subst, ◌∙◌}
use Rattle.std.proofs.lemmas.List.Sums.{fold-append}
use Rattle.tpol_base.specs.declared.digest.Digest32.{Digest32}
use Rattle.tpol_tree.specs.declared.path.Move.{Move}
use Rattle.tpol_tree.specs.declared.facts.Fact.{Fact}
use Rattle.tpol_digest.specs.Digest.{digest_after, digest_from, zero_digest}
use Rattle.tpol_digest.specs.Sound.{IsSoundFrom, Meets}
use Rattle.tpm_bindings.specs.declared.bindings.Bindings.{Bindings}
use Rattle.tpm_bindings.specs.Agreement.{Agree}
use Rattle.tpm_bindings.specs.Facts.{moves_of, has_pcr, is_pcr}
use Rattle.tpm_bindings.specs.Merged.{merged}
use Rattle.tpm_bindings.specs.State.{SessionState}
use Rattle.tpm_bindings.proofs.Merging.{moves_of-push, any_move-push}
use Rattle.tpm_rules.specs.Session.{policy_digest_of}
use Rattle.tpm_session.specs.Kept.{IsKept, with_fact, counter_after}

-- one more move that meets the digest before it
pub IsSoundFrom-push : (d : Digest32) (moves : List Move) (act : Move) → IsSoundFrom d moves → Meets (digest_from d moves) act → IsSoundFrom d (moves ++ act ∷ [])
IsSoundFrom-push d [] act sound meets = (meets, tt)
IsSoundFrom-push d (first ∷ rest) act sound meets = (sound.0, IsSoundFrom-push (digest_after first d) rest act sound.1 meets)

pub counted-push : (counter : Option ℕ) (before : Bool) (act : Move) (now : ℕ) → is_some counter ≡ before → is_some (counter_after counter act now) ≡ (before || is_pcr act)
counted-push (Some first) before act now h = rw (sym h) refl
counted-push None before act now h = rw (sym h) (elim (is_pcr act) as (λ b. is_some (if b then Some now else None) ≡ (false || b)) [ true ↦ refl | false ↦ refl ])

pub policy_digest-push : (facts : List Fact) (fact : Fact) → digest_from zero_digest (moves_of (facts ++ fact ∷ [])) ≡ digest_after fact.act (digest_from zero_digest (moves_of facts))
policy_digest-push facts fact = ap (digest_from zero_digest) (moves_of-push facts fact) ∙ fold-append _ zero_digest (moves_of facts) (fact.act ∷ [])

pub kept-push : (state : SessionState) (digest : Digest32) (bindings : Bindings) (fact : Fact) (now : ℕ)
    → IsKept state digest bindings → Meets (policy_digest_of state) fact.act → Agree (moves_of state.facts ++ fact.act ∷ [])
    → IsKept (with_fact state fact now) (digest_after fact.act digest) (merged (state.facts ++ fact ∷ []))
kept-push state digest bindings fact now kept meets agrees =
    record {
      holds = record {
        sound = subst (IsSoundFrom zero_digest) (sym (moves_of-push state.facts fact)) (IsSoundFrom-push zero_digest (moves_of state.facts) fact.act kept.holds.sound meets);
        agree = subst Agree (sym (moves_of-push state.facts fact)) agrees;
        counted = counted-push state.counter (has_pcr state.facts) fact.act now kept.holds.counted ∙ sym (any_move-push is_pcr state.facts fact);
        early = kept.holds.early;
      };
      digests = ap (digest_after fact.act) kept.digests ∙ sym (policy_digest-push state.facts fact);
      binds = refl;
    }
