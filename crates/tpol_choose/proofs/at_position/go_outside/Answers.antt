use Rattle.std.proofs.Common.{subst, arith}
use Rattle.tpol_digest.specs.Paths.{outside_path}
use Rattle.tpol_choose.specs.Acts.{move_of}
use Rattle.tpol_choose.specs.Lent.{client_of_lent}
use Rattle.tpol_choose.specs.Tracks.{Goes, gone_outside, track_after}
use Rattle.tpol_choose.proofs.Ends.{outside_is}
use Rattle.tpol_choose.proofs.Going.{along_outside, go_one}
use Rattle.tpol_choose.proofs.at_position.go_outside.Goals as goal

pub returns-in-Some : goal.returns-in-Some
returns-in-Some c = λ state h.
    let client = client_of_lent c.args.walk.now.client.now in
    let act = move_of c.in-Some.act in
    subst (λ l. Goes client state l 0 c.outside.result) (outside_is c.args.element.now act c.in-Some.ensures) (go_one client state c.outside.result (outside_path act) (gone_outside (track_after client state act)) 0 (omega arith) (c.outside.ensures (track_after client state act) (c.after.ensures state h)) (along_outside client state act))
