use Rattle.std.proofs.Common.{◌≡◌, ◌+◌, refl}
use Rattle.tpol_lint.proofs.TraceLaws.{closed_track, counted_up}
use Rattle.tpol_lint.proofs.track.Track.after_closing.Goals as goal

pub returns : goal.returns
returns c = record {
  longer = λ before h.
      let counted : c.in-Some.done ≡ c.args.self.done + 1 = counted_up c.checked_add.result c.in-Some.done _ _ c.checked_add.ensures c.in-Some.is in
      closed_track c.args.self _ before h refl counted refl refl;
}
