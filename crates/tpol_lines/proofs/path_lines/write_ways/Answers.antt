use Rattle.std.proofs.Common.{[], ◌∷◌, subst}
use Rattle.tpol_digest.specs.Paths.{paths_of}
use Rattle.tpol_lines.specs.Texts.{no_text, both, element_list_texts, Writes}
use Rattle.tpol_lines.proofs.TextLaws.{whole_lines}
use Rattle.tpol_lines.proofs.path_lines.write_ways.Goals as goal

pub returns : goal.returns
returns c =
    let policy = c.args.policy.now in
    let form = c.args.form in
    let wrote = subst (λ l. Writes form c.new-pen.result c.write_elements.new.pen (both (element_list_texts l 4 policy.elements) (no_text ∷ []))) c.as_slice.ensures c.in_ok-write_elements.ensures in
    whole_lines form c.new-pen.result c.write_elements.new.pen (paths_of policy c.args.approvals.now) c.new-pen.ensures.lines c.new-pen.ensures.choices c.new-pen.ensures.kinds wrote
