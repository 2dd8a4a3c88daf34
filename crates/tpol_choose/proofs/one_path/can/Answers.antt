use Rattle.std.proofs.Common.{subst}
use Rattle.tpm_rules.specs.Rule.{Breaks}
use Rattle.tpol_choose.specs.Blocks.{block_on, first_block}
use Rattle.tpol_choose.specs.Clients.{Client}
use Rattle.tpol_choose.proofs.one_path.can.Goals as goal

pub returns : goal.returns
unfolding first_block
returns c = record { block = subst (λ (one : Client). Breaks c.check_path.result (block_on one c.args.path.now)) c.new-client.ensures c.check_path.ensures }
