use Rattle.serde_json.specs.Data.{string}
use Rattle.tpol_write.proofs.Reading.{ended}
use Rattle.tpol_write.proofs.Steps.{on_ok}
use Rattle.tpol_write.proofs.lists.write_texts.Goals as goal

pub returns : goal.returns
returns c =
    on_ok c.end_list.result (λ ends. ended string c.args.texts.now c.loop-text.text-index c.loop-text-test.false c.loop-text.invariant ends) c.end_list.ensures
