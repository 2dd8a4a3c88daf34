use Rattle.std.proofs.Common.{map, sym, ap, ◌∙◌}
use Rattle.tpol_digest.proofs.Images.{of_more}
use Rattle.tpol_lines.specs.Texts.{Texts, both, element_list_choices, element_list_texts, element_texts}
use Rattle.tpol_lines.proofs.LabelLaws.{choices_behind}
use Rattle.tpol_lines.proofs.TextLaws.{texts}
use Rattle.tpol_lines.proofs.one_label.+behind_assertions.Goals as goal

pub returns-in-Assert : goal.returns-in-Assert
returns-in-Assert t c =
    let element = c.in-More.element.value in
    let rest = c.in-More.rest.value in
    rw c.in-More.is (λ documents levels.
    c.behind_assertions.ensures documents levels
    ∙ ap (element_list_choices documents levels) c.deref-in-Assert.ensures
    ∙ sym (choices_behind documents levels c.in-Assert.field-0 rest)
    ∙ ap (λ e. map (λ (t : Texts). t.choices) (both (element_texts documents levels e) (element_list_texts documents levels rest))) (sym c.in-Assert.is ∙ c.deref.ensures)
    ∙ ap (map (λ (t : Texts). t.choices)) (sym (of_more texts documents levels element rest)))
