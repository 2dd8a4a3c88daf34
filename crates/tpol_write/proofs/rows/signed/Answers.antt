use Rattle.tpol_write.proofs.RowTokens.{signed_reads, signed_tokens}
use Rattle.tpol_write.proofs.Steps.{on_ok, spelled, step}
use Rattle.std.proofs.Common.{codes, rules, subst, w32}
use Rattle.std.proofs.lemmas.Int.{to_z-of_z}
use Rattle.tpol_write.specs.Drafts.{Adds, Reads, member_tokens}
use Rattle.tpol_write.specs.Objects.{integer}
use Rattle.tpol_write.proofs.rows.signed.Goals as goal

pub returns-clause-tokens : goal.returns-clause-tokens
returns-clause-tokens c =
    let number : Adds c.put_cp_hash.new.draft c.put_signed.new.draft (member_tokens (codes "expiration", integer c.args.expiration)) =
    subst (λ z. Adds c.put_cp_hash.new.draft c.put_signed.new.draft (member_tokens (codes "expiration", integer z))) (to_z-of_z w32 c.args.expiration c.ranges.expiration) c.in_ok-put_signed.ensures.tokens in
    on_ok c.end_typed.result (λ ends. spelled (signed_tokens c.args.key.now c.args.policy_ref.now c.args.cp_hash.now c.args.expiration)
    (step c.in_ok-begin_object.ensures (step c.in_ok-put_cp_hash.ensures (step number (step c.in_ok-put_key.ensures.tokens (step c.in_ok-put_bytes.ensures ends)))))) c.end_typed.ensures

pub returns-clause-reads : goal.returns-clause-reads
returns-clause-reads c =
    let number : Reads (integer c.args.expiration) = search rules in
    on_ok c.end_typed.result (λ _. signed_reads c.args.key.now c.args.policy_ref.now c.args.cp_hash.now c.args.expiration c.in_ok-put_key.ensures.reads number) c.end_typed.ensures
