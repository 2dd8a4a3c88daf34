use Rattle.std.proofs.Common.{◌≡◌}
use Rattle.serde_json.specs.View.{members_view}
use Rattle.tpol_adopt.specs.Flags.{bits_from}
use Rattle.tpol_adopt.proofs.flags.bits_of.Given as goal

-- the members that are left add to the bits so far
abbrev pub invariant-loop-name : goal.invariant-loop-name
invariant-loop-name l =
    bits_from l.flags l.bits (members_view l.name-iterator) ≡ bits_from l.flags 0 (members_view l.members.entries)
