use Rattle.std.proofs.Common.{sym, ap, ◌∙◌, arith}
use Rattle.std.specs.Prelude.{if◌then◌else◌}
use Rattle.tpol_choose.specs.declared.searching.Search.TheVariants.{Found, Passed}
use Rattle.tpol_choose.specs.Lent.{client_of_lent}
use Rattle.tpol_choose.specs.Searches.{passed_more}
use Rattle.tpol_choose.specs.Tracks.{block_at_end}
use Rattle.tpol_choose.proofs.Ends.{answers}
use Rattle.tpol_choose.proofs.searching.search_end.Goals as goal

pub returns-then-is_ok : goal.returns-then-is_ok
returns-then-is_ok c = λ state h.
    let n = c.args.passed in
    let goes = sym (answers c.end.result (block_at_end (client_of_lent c.args.walk.now.client.now) state) (c.end.ensures state h)) ∙ (sym c.is_ok.ensures.value ∙ c.if-is_ok.true) in
    sym (ap (λ b. if b then Found n else Passed (passed_more n 1)) goes)

pub returns-else-is_ok : goal.returns-else-is_ok
returns-else-is_ok c = λ state h.
    let n = c.args.passed in
    let shut = sym (answers c.end.result (block_at_end (client_of_lent c.args.walk.now.client.now) state) (c.end.ensures state h)) ∙ (sym c.is_ok.ensures.value ∙ c.if-is_ok.false) in
    ap Passed (omega arith) ∙ sym (ap (λ b. if b then Found n else Passed (passed_more n 1)) shut)
