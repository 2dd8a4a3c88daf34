use Rattle.std.proofs.Common.{[], ◌∷◌, ◌++◌, ap, sym, ◌∙◌}
use Rattle.tpm_bindings.specs.Merged.{fact_of, merged}
use Rattle.tpm_rules.specs.declared.standing.Standing.{Standing}
use Rattle.tpol_digest.specs.Digest.{digest_after}
use Rattle.tpol_choose.specs.Acts.{move_of}
use Rattle.tpol_choose.specs.Facts.{counter_after, cp_hash_of, deadline_of_move, fact_of_move}
use Rattle.tpol_choose.proofs.Bound.{digest_more, same_bindings}
use Rattle.tpol_choose.proofs.session.add_move.Goals as goal

pub returns-clause-after : goal.returns-clause-after
returns-clause-after c = λ state e.
    let sight = c.args.sight.now in
    let act = move_of c.args.act.now in
    let facts = state.facts in
    let fact = fact_of_move sight state act in
    let deadline = c.deadline_after-deadline.ensures ∙ ap (λ (s : Standing). deadline_of_move s.start s.nonce act) e in
    let bindings =
    c.bind_move.ensures facts (ap (λ (s : Standing). s.bindings) e)
    ∙ ap (λ d. merged (facts ++ fact_of 0 act (cp_hash_of act) d ∷ [])) deadline
    ∙ same_bindings sight state facts act in
    let digest =
    c.digest_after-session.ensures state
    ∙ ap (λ (s : Standing). digest_after fact.act s.digest) e
    ∙ sym (digest_more facts fact) in
    let counter = c.counter_after-session.ensures ∙ ap (λ (s : Standing). counter_after sight.pcr_counter s.counter act) e in
    λ i. record {
      start = ap (λ (s : Standing). s.start) e i;
      nonce = ap (λ (s : Standing). s.nonce) e i;
      digest = digest i;
      bindings = bindings i;
      counter = counter i;
    }
