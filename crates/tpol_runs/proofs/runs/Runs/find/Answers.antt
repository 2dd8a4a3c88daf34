use Rattle.std.proofs.Common.{◌≡◌, sym, ap, ◌∙◌, subst, get_or, List}
use Rattle.tpol_runs.specs.declared.numbered.Numbered.{Numbered}
use Rattle.tpol_runs.specs.Runs.{run_in}
use Rattle.tpol_runs.proofs.Table.{absent, found_at}
use Rattle.tpol_runs.proofs.runs.Runs.find.Goals as goal

pub returns-in_default : goal.returns-in_default
returns-in_default c =
    sym (ap run_in (absent c.args.self.now c.args.number (sym c.place_of.ensures ∙ c.in_default.is)))

pub returns : goal.returns
returns c =
    let P : List Numbered → Type 0 = λ l. c.index.result.now ≡ get_or l c.in-Some.place c.index.result.now in
    let there : c.index.result.now ≡ get_or c.args.self.now c.in-Some.place c.index.result.now = subst P c.self.view_is c.index.ensures in
    c.as_ref.ensures.value ∙ sym (found_at c.args.self.now c.args.number c.in-Some.place c.index.result.now (sym c.place_of.ensures ∙ c.in-Some.is) there)
