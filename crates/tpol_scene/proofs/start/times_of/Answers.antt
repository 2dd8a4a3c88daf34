use Rattle.std.proofs.Common.{refl}
use Rattle.std.proofs.lemmas.Result.{err_from_is_err_and}
use Rattle.tpol_entities.proofs.BindLemmas.{refused_then}
use Rattle.tpol_scene.specs.Scenes.{times_in}
use Rattle.tpol_scene.proofs.start.times_of.Goals as goal

pub returns-in_err-restart_count : goal.returns-in_err-restart_count
unfolding times_in
returns-in_err-restart_count c =
    let p = err_from_is_err_and c.from_residual-in_err-restart_count.result c.from_residual-in_err-restart_count.ensures.1 in
    rw (p.1, p.2, c.in_ok-time.ensures, c.in_ok-reset_count.ensures) (refused_then _ _ _ c.in_err-restart_count.ensures)

pub returns-in_err-safe : goal.returns-in_err-safe
unfolding times_in
returns-in_err-safe c =
    let p = err_from_is_err_and c.from_residual-in_err-safe.result c.from_residual-in_err-safe.ensures.1 in
    rw (p.1, p.2, c.in_ok-time.ensures, c.in_ok-reset_count.ensures, c.in_ok-restart_count.ensures) (refused_then _ _ _ c.in_err-safe.ensures)

pub returns-in_err-presence : goal.returns-in_err-presence
unfolding times_in
returns-in_err-presence c =
    let p = err_from_is_err_and c.from_residual-in_err-presence.result c.from_residual-in_err-presence.ensures.1 in
    rw (p.1, p.2, c.in_ok-time.ensures, c.in_ok-reset_count.ensures, c.in_ok-restart_count.ensures, c.in_ok-safe.ensures) (refused_then _ _ _ c.in_err-presence.ensures)

pub returns : goal.returns
unfolding times_in
returns c =
    rw (c.in_ok-time.ensures, c.in_ok-reset_count.ensures, c.in_ok-restart_count.ensures, c.in_ok-safe.ensures, c.in_ok-presence.ensures) refl
