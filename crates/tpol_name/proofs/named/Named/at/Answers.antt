use Rattle.std.proofs.Common.{◌∙◌, List, ap, position, sym}
use Rattle.tpol_name.proofs.NamedLemmas.{first_found, none_found}
use Rattle.tpol_name.proofs.named.Named.at.Goals as goal
use Rattle.tpol_name.specs.Paths.{is_same_path}

pub returns-in-Some-clause-entry : goal.returns-in-Some-clause-entry
returns-in-Some-clause-entry g c =
    let p = λ (entry : g.row.T.Denot). is_same_path (g.T.HasName.path_of entry) c.args.path.now in
    let same = sym (c.as_slice.ensures ∙ c.self.view_is) in
    c.entry.ensures.entry ∙ first_found p c.args.self.now c.in-Some.place
    (ap (λ (l : List g.row.T.Denot). position p l) same ∙ sym c.place_at.ensures ∙ c.in-Some.is)

pub returns-in-None-clause-entry : goal.returns-in-None-clause-entry
returns-in-None-clause-entry g c =
    let p = λ (entry : g.row.T.Denot). is_same_path (g.T.HasName.path_of entry) c.args.path.now in
    let same = sym (c.as_slice.ensures ∙ c.self.view_is) in
    none_found p c.args.self.now
    (ap (λ (l : List g.row.T.Denot). position p l) same ∙ sym c.place_at.ensures ∙ c.in-None.is)
