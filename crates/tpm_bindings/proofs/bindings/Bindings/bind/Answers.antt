use Rattle.std.proofs.Common.{ap, None, refl}
use Rattle.std.proofs.lemmas.List.{append-nil}
use Rattle.tpol_tree.specs.declared.path.Move.TheVariants.{Assert}
use Rattle.tpm_bindings.specs.Facts.{moves_of, codes_of, cp_hashes_of, limits_of, name_hashes_of, parent_hashes_of, written_of, deadlines_of}
use Rattle.tpm_bindings.specs.Merged.{fact_of}
use Rattle.tpm_bindings.proofs.bindings.Bindings.bind.Goals as goal
use Rattle.tpm_bindings.proofs.Merging.{merged-push}

pub returns : goal.returns
returns c = record {
  binds = λ facts h.
      let fact = fact_of 0 (Assert c.args.assertion.now) None None in
      rw (
        merged-push facts fact,
        append-nil (limits_of facts),
        append-nil (deadlines_of facts),
        c.add.ensures (codes_of (moves_of facts)) (ap (λ b. b.codes) h),
        c.code.ensures,
        c.both-self.ensures,
        c.localities.ensures,
        ap (λ b. b.localities) h,
        c.add-2.ensures (cp_hashes_of (moves_of facts)) (ap (λ b. b.cp_hash) h),
        c.cp_hash.ensures,
        ap (λ b. b.limit) h,
        c.add-3.ensures (name_hashes_of (moves_of facts)) (ap (λ b. b.name_hash) h),
        c.name_hash.ensures,
        c.add-4.ensures (parent_hashes_of (moves_of facts)) (ap (λ b. b.parent_hash) h),
        c.parent_hash.ensures,
        c.add-5.ensures (written_of (moves_of facts)) (ap (λ b. b.written) h),
        c.written.ensures,
        ap (λ b. b.deadline) h,
        ap (λ b. b.presence) h,
        c.is_presence.ensures,
        c.later-self.ensures,
        c.auth.ensures,
        ap (λ b. b.auth) h,
        ap (λ b. b.pcr) h,
        c.is_pcr.ensures,
      )
      refl;
}
