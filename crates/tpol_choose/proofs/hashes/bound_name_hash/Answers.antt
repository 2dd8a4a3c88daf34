use Rattle.std.proofs.Common.{ap, refl}
use Rattle.tpm_bindings.specs.Facts.{every_name_hash}
use Rattle.tpol_goal.specs.Commands.{goal_name_hash}
use Rattle.tpol_goal.specs.Entities.{name_in_sight}
use Rattle.tpol_choose.proofs.Unbound.{unbound_name_hash}
use Rattle.tpol_choose.proofs.hashes.bound_name_hash.Goals as goal

pub returns-in-Some : goal.returns-in-Some
returns-in-Some c = λ facts e. ap (every_name_hash facts) (c.in-Some.ensures.hash c.in-Some.hash refl)

pub returns-in-None : goal.returns-in-None
returns-in-None c = λ facts e. unbound_name_hash facts c.zero_digest.result (goal_name_hash (name_in_sight c.args.client.now.sight.now) c.args.client.now.goal.now) (c.in-None.ensures.unbound facts e)
