use Rattle.std.proofs.Common.{◌≡◌, ◌∙◌, List, None, ap, get_or, set, subst, sym}
use Rattle.tpol_runs.specs.declared.numbered.Numbered.{Numbered}
use Rattle.tpol_runs.specs.Courses.{end_told, goes_on, heard_by}
use Rattle.tpol_runs.specs.Runs.{run_at, run_in, with_run}
use Rattle.tpol_runs.proofs.Outcomes.{if_ok, on_ok}
use Rattle.tpol_runs.proofs.Table.{absent, found_at, not_written, written_at}
use Rattle.tpol_runs.proofs.runs.Runs.take.Goals as goal

pub returns-in_default-clause-told : goal.returns-in_default-clause-told
returns-in_default-clause-told c =
    let none : run_at c.args.self.now c.args.number ≡ None = ap run_in (absent c.args.self.now c.args.number (sym c.place_of.ensures ∙ c.in_default.is)) in
    sym (ap (λ run. end_told (heard_by run c.args.reset_count c.args.reply.now)) none)

pub returns-in_default-clause-runs : goal.returns-in_default-clause-runs
returns-in_default-clause-runs c =
    let none = absent c.args.self.now c.args.number (sym c.place_of.ensures ∙ c.in_default.is) in
    sym (not_written c.args.self.now c.args.number (goes_on (heard_by (run_at c.args.self.now c.args.number) c.args.reset_count c.args.reply.now)) none)

-- the entry that hears is that of the number
pub returns-clause-told : goal.returns-clause-told
returns-clause-told c =
    let runs = c.args.self.now in
    let entry = c.index_mut.result.now in
    let some = sym c.place_of.ensures ∙ c.in-Some.is in
    let P : List Numbered → Type 0 = λ l. entry ≡ get_or l c.in-Some.place entry in
    let there : entry ≡ get_or runs c.in-Some.place entry = subst P c.self.view_is c.index_mut.ensures.value in
    let found = sym (found_at runs c.args.number c.in-Some.place entry some there) in
    if_ok c.hear.result
    (λ told h. h ∙ ap (λ run. end_told (heard_by run c.args.reset_count c.args.reply.now)) found) c.hear.ensures.told

-- the state that is put back takes the place of the one that was there
pub returns-clause-runs : goal.returns-clause-runs
returns-clause-runs c =
    let runs = c.args.self.now in
    let number = c.args.number in
    let entry = c.index_mut.result.now in
    let run = c.hear.new.run in
    let some = sym c.place_of.ensures ∙ c.in-Some.is in
    let P : List Numbered → Type 0 = λ l. entry ≡ get_or l c.in-Some.place entry in
    let there : entry ≡ get_or runs c.in-Some.place entry = subst P c.self.view_is c.index_mut.ensures.value in
    let F : List Numbered → List Numbered = λ l. set l c.in-Some.place (record { number = entry.number; run = run }) in
    let wrote = ap F c.self.view_is ∙ written_at runs number c.in-Some.place entry run some there in
    let found = sym (found_at runs number c.in-Some.place entry some there) in
    on_ok c.hear.result
    (λ h. wrote ∙ ap (with_run runs number) (h ∙ ap (λ run. goes_on (heard_by run c.args.reset_count c.args.reply.now)) found)) c.hear.ensures.run
