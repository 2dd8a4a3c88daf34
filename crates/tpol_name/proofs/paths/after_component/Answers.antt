use Rattle.std.proofs.Common.{◌==◌, ◌∙◌, sym}
use Rattle.std.proofs.lemmas.List.{take_rest}
use Rattle.tpol_name.proofs.PathLemmas.{after_first-found, after_first-none}
use Rattle.tpol_name.proofs.paths.after_component.Goals as goal

pub returns-in-Some : goal.returns-in-Some
returns-in-Some c =
    take_rest c.args.path.now _ ∙ after_first-found (λ x. x == 47) c.args.path.now _ (sym c.in-Some.ensures)

pub returns-in-None : goal.returns-in-None
returns-in-None c = after_first-none (λ x. x == 47) c.args.path.now (sym c.in-None.ensures)
