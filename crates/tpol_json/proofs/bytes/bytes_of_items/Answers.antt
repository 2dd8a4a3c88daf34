use Rattle.std.proofs.Common.{sym, ◌∙◌, arith}
use Rattle.std.proofs.lemmas.Result.{err_from_is_err_and}
use Rattle.tpol_json.proofs.BytesLemmas.{bytes_from-turn, bytes_from-refused, bytes_from-end}
use Rattle.tpol_json.proofs.bytes.bytes_of_items.Goals as goal

pub returns-in_err-byte : goal.returns-in_err-byte
returns-in_err-byte c =
    let p = err_from_is_err_and c.from_residual.result c.from_residual.ensures.1 in
    rw (p.1, p.2) (bytes_from-refused c.args.items.now c.loop-index.index c.index-items-index.result c.loop-index.bytes c.args.place.now _ _ (omega arith) c.index-items-index.is c.loop-index.invariant c.in_err-byte.ensures)

pub loop-index-preserved : goal.loop-index-preserved
loop-index-preserved c =
    rw c.in_ok-push.ensures.ok
    (sym (bytes_from-turn c.args.items.now c.loop-index.index c.index-items-index.result c.loop-index.bytes c.args.place.now c.in_ok-byte.byte (omega arith) c.index-items-index.is c.in_ok-byte.ensures) ∙ c.loop-index.invariant)

pub returns : goal.returns
returns c =
    sym c.loop-index.invariant ∙ bytes_from-end c.args.items.now c.loop-index.index c.loop-index.bytes c.args.place.now (omega arith)
