use Rattle.std.proofs.Common.{◌≡◌, ◌∙◌, ◌+◌, ◌++◌, ◌∷◌, [], ap, sym, refl, None}
use Rattle.std.specs.Option.{option_map}
use Rattle.tpm_bindings.specs.Merged.{fact_of}
use Rattle.tpol_lint.proofs.TraceLaws.{asserted_track, broken_track, counted_up, not_some}
use Rattle.tpol_lint.specs.Traces.{facts_along}
use Rattle.tpol_tree.specs.declared.path.Move.TheVariants.{Assert}
use Rattle.tpol_lint.proofs.track.Track.after.Goals as goal

pub returns-then-is_some : goal.returns-then-is_some
returns-then-is_some c = record {
  longer = λ before h.
      let counted : c.in-Some.done ≡ c.args.self.done + 1 = counted_up c.checked_add.result c.in-Some.done _ _ c.checked_add.ensures c.in-Some.is in
      broken_track c.args.self _ before c.args.assertion.now h (sym c.is_some.ensures ∙ c.if-is_some.true) counted refl refl;
}

pub returns-in-Some-disagreement : goal.returns-in-Some-disagreement
returns-in-Some-disagreement c = record {
  longer = λ before h.
      let counted : c.in-Some.done ≡ c.args.self.done + 1 = counted_up c.checked_add.result c.in-Some.done _ _ c.checked_add.ensures c.in-Some.is in
      let none : c.args.self.broken ≡ None = not_some c.args.self.broken (sym c.is_some.ensures ∙ c.if-is_some.false) in
      let facts = facts_along before.moves ++ fact_of 0 (Assert c.args.assertion.now) None None ∷ [] in
      let bound = c.bind.ensures.binds (facts_along before.moves) (h.binds none) in
      asserted_track c.args.self _ before c.args.assertion.now h none bound counted
      (ap (option_map (λ rule. (c.in-Some.done, rule))) (sym c.in-Some-disagreement.is ∙ c.disagreement.ensures facts bound)) refl;
}

pub returns-in-None : goal.returns-in-None
returns-in-None c = record {
  longer = λ before h.
      let counted : c.in-Some.done ≡ c.args.self.done + 1 = counted_up c.checked_add.result c.in-Some.done _ _ c.checked_add.ensures c.in-Some.is in
      let none : c.args.self.broken ≡ None = not_some c.args.self.broken (sym c.is_some.ensures ∙ c.if-is_some.false) in
      let facts = facts_along before.moves ++ fact_of 0 (Assert c.args.assertion.now) None None ∷ [] in
      let bound = c.bind.ensures.binds (facts_along before.moves) (h.binds none) in
      asserted_track c.args.self _ before c.args.assertion.now h none bound counted
      (ap (option_map (λ rule. (c.in-Some.done, rule))) (sym c.in-None.is ∙ c.disagreement.ensures facts bound)) refl;
}
