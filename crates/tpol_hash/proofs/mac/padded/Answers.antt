use Rattle.std.proofs.Common.{◌<◌, bit_xor, get_or, length, arith}
use Rattle.std.proofs.lemmas.List.{get_or_default}
use Rattle.std.proofs.lemmas.List.Edits.{map_over_more}
use Rattle.tpol_hash.proofs.mac.padded.Goals as goal

pub loop-byte-preserved : goal.loop-byte-preserved
loop-byte-preserved c =
    let bytes = c.loop-byte.byte-items in
    let i = c.loop-byte.byte-index in
    let within : i < length bytes = omega arith in
    map_over_more (λ byte. bit_xor byte c.args.pad) c.args.block.now bytes i (get_or bytes i 0) (omega arith) c.loop-byte.invariant
    (get_or_default bytes i 0 (get_or bytes i 0) within)
