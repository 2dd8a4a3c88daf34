use Rattle.std.proofs.Common.{◌≡◌, true, Option, subst}
use Rattle.std.proofs.lemmas.Slice.Eq.{bytes_eq-Decides}
use Rattle.tpol_base.specs.declared.digest.Digest32.{Digest32}
use Rattle.tpol_base.proofs.Digests.{same_digest}
use Rattle.tpm_pcr.specs.Pcrs.{selection_digest}
use Rattle.tpm_rules.specs.PolicyPcr.{is_digest_or_none}
use Rattle.tpm_engine.proofs.policy_commands.policy_pcr.selected_digest.Goals as goal

-- src/policy_commands/policy_pcr.rt
pub returns-in-Some : goal.returns-in-Some
returns-in-Some c =
    let selected = selection_digest c.args.world.now.pcrs.values c.args.mask in
    let same = subst (λ (given : Option Digest32). is_digest_or_none selected given ≡ true) c.in-Some.is c.requires.given in
    record { digest = same_digest c.in-Some.digest selected ((bytes_eq-Decides c.in-Some.digest.bytes selected.bytes).0 same) }
