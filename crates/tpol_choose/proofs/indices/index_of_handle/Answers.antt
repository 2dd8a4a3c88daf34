use Rattle.std.proofs.Common.{◌==◌}
use Rattle.tpol_choose.proofs.Found.{found_content}
use Rattle.tpol_choose.proofs.indices.index_of_handle.Goals as goal

pub returns-clause-content : goal.returns-clause-content
returns-clause-content c =
    found_content (λ lent. lent.now) c.args.sight.now (λ index. index.public.index == c.args.handle) c.index_of_handle.result c.requires.sight c.index_of_handle.ensures.index
