use Rattle.std.proofs.Common.{◌≡◌, ◌++◌, map, bit_xor, take, drop}
use Rattle.tpol_hash.proofs.mac.padded.Given as goal

-- the bytes before the index are combined with the pad
abbrev pub invariant-loop-byte : goal.invariant-loop-byte
invariant-loop-byte l =
    l.byte-items ≡ map (λ byte. bit_xor byte l.pad) (take l.byte-index l.block) ++ drop l.byte-index l.block
