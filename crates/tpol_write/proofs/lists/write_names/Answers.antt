use Rattle.tpol_write.specs.Wishes.{name_value}
use Rattle.tpol_write.proofs.Reading.{ended}
use Rattle.tpol_write.proofs.Steps.{on_ok}
use Rattle.tpol_write.proofs.lists.write_names.Goals as goal

pub returns : goal.returns
returns c =
    on_ok c.end_list.result (λ ends. ended name_value c.args.names.now c.loop-name.name-index c.loop-name-test.false c.loop-name.invariant ends) c.end_list.ensures
