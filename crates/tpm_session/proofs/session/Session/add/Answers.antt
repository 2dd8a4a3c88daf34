use Rattle.std.proofs.Common.{subst, sym, ◌++◌, ◌∷◌, []}
use Rattle.tpol_digest.specs.Sound.{Meets}
use Rattle.tpm_bindings.specs.Agreement.{Agree}
use Rattle.tpm_bindings.specs.Facts.{moves_of}
use Rattle.tpm_rules.specs.Session.{policy_digest_of}
use Rattle.tpm_session.specs.Kept.{state_of}
use Rattle.tpm_session.proofs.Keeping.{kept-push}
use Rattle.tpm_session.proofs.session.Session.add.Goals as goal

pub invariant_of-self : goal.invariant_of-self
invariant_of-self c =
    let s = c.self.inside in
    let fact = c.args.fact in
    rw (
      c.counter_after-self-inside.ensures,
      c.digest_after_move-self-inside.ensures,
      c.push.ensures,
      c.merge.ensures s.facts fact.event c.self.invariant.binds,
    )
    (kept-push (state_of s.start s.nonce s.facts s.counter) s.digest s.bindings fact c.args.counter c.self.invariant
    (subst (λ v. Meets (policy_digest_of v.state) fact.act) (sym c.self.view_is) c.requires.meets)
    (subst (λ v. Agree (moves_of v.state.facts ++ fact.act ∷ [])) (sym c.self.view_is) c.requires.agrees))
