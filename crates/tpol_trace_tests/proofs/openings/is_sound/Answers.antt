use Rattle.std.proofs.Common.{subst}
use Rattle.tpol_digest.specs.Sound.{IsSound, IsSoundFrom}
use Rattle.tpol_tree.specs.Facts.{moves_of as moves_of_facts}
use Rattle.tpol_trace_tests.proofs.openings.is_sound.Goals as goal

pub returns : goal.returns
returns c = λ h.
    subst (λ facts. IsSound (moves_of_facts facts)) c.as_slice.ensures (subst (λ d. IsSoundFrom d (moves_of_facts c.as_slice.result.now)) c.zero.ensures (c.are_sound.ensures h))
