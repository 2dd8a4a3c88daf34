use Rattle.std.proofs.Common.{◌∙◌, List, find, ap, sym}
use Rattle.tpol_base.specs.declared.name.Name.{Name}
use Rattle.tpol_base.specs.Name.{is_same_name}
use Rattle.tpol_name.proofs.NamedLemmas.{image_found, image_not_found}
use Rattle.tpol_name.proofs.named.Named.find.Goals as goal

pub returns-in-Some : goal.returns-in-Some
returns-in-Some g c =
    let f = g.T.HasName.name_of in
    let same = c.as_slice.ensures ∙ c.self.invariant in
    record {
      found = c.get.ensures
          ∙ image_found (λ (one : Name). is_same_name one c.args.name.now) f c.self.inside.entries c.as_slice.result.now c.in-Some.place same (sym c.in-Some.ensures)
          ∙ ap (λ (l : List g.row.T.Denot). find (λ entry. is_same_name (f entry) c.args.name.now) l) c.self.view_is;
    }

pub returns-in-None : goal.returns-in-None
returns-in-None g c =
    let f = g.T.HasName.name_of in
    let same = c.as_slice.ensures ∙ c.self.invariant in
    record {
      found = image_not_found (λ (one : Name). is_same_name one c.args.name.now) f c.self.inside.entries c.as_slice.result.now same (sym c.in-None.ensures)
          ∙ ap (λ (l : List g.row.T.Denot). find (λ entry. is_same_name (f entry) c.args.name.now) l) c.self.view_is;
    }
