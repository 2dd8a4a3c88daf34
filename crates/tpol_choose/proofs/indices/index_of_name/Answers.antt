use Rattle.tpol_base.specs.Name.{is_same_name}
use Rattle.tpol_name.specs.Areas.{index_name, with_written}
use Rattle.tpol_choose.proofs.Found.{found_content}
use Rattle.tpol_choose.proofs.indices.index_of_name.Goals as goal

pub returns-clause-content : goal.returns-clause-content
returns-clause-content c =
    found_content (λ lent. lent.now) c.args.sight.now (λ index. is_same_name (index_name (with_written index.public)) c.args.name.now) c.index_in_sight.result c.requires.sight c.index_in_sight.ensures.index
