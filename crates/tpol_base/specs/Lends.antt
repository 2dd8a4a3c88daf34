-- What a list ends as, where a `&mut` to one of its items is returned.
use Rattle.std.specs.Prelude.{ℕ, List, slice_set, Option}
use Rattle.std.specs.Borrow.{Fml, LendsIf, MutBor, RattleType}
use Rattle.tpol_base.specs.contracts.sequence.Sequence.{the_row}

-- the item at the index is the last value behind r, and at `None` the list stays as it is
module _ (T : RattleType) (list : MutBor (List T.Denot)) where
  abbrev pub lends_item : ℕ → Option (MutBor T.Denot) → Fml
  lends_item index r = LendsIf (the_row T) T list r (slice_set list.now index) list.now
