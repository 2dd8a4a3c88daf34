use Rattle.std.proofs.Common.{refl}
use Rattle.std.proofs.lemmas.Result.{err_from_is_err_and}
use Rattle.tpol_entities.proofs.BindLemmas.{refused_then}
use Rattle.tpol_scene.specs.Scenes.{authorities_in}
use Rattle.tpol_scene.proofs.start.authorities_of.Goals as goal

pub returns-in_err-endorsement : goal.returns-in_err-endorsement
unfolding authorities_in
returns-in_err-endorsement c =
    let p = err_from_is_err_and c.from_residual-in_err-endorsement.result c.from_residual-in_err-endorsement.ensures.1 in
    rw (p.1, p.2, c.in_ok-seed.ensures, c.in_ok-owner.ensures) (refused_then _ _ _ c.in_err-endorsement.ensures)

pub returns-in_err-lockout : goal.returns-in_err-lockout
unfolding authorities_in
returns-in_err-lockout c =
    let p = err_from_is_err_and c.from_residual-in_err-lockout.result c.from_residual-in_err-lockout.ensures.1 in
    rw (p.1, p.2, c.in_ok-seed.ensures, c.in_ok-owner.ensures, c.in_ok-endorsement.ensures) (refused_then _ _ _ c.in_err-lockout.ensures)

pub returns : goal.returns
unfolding authorities_in
returns c =
    rw (c.in_ok-seed.ensures, c.in_ok-owner.ensures, c.in_ok-endorsement.ensures, c.in_ok-lockout.ensures) refl
