use Rattle.std.proofs.Common.{sym, ap, ◌∙◌, length}
use Rattle.tpol_texts.proofs.Cuts.{length-cut}
use Rattle.tpol_texts.proofs.texts.Texts.len.Goals as goal

pub returns : goal.returns
returns c = c.len.ensures ∙ c.self.inside.ends.ok.0 ∙ sym (length-cut 0 c.self.inside.ends.items c.self.inside.bytes.items) ∙ ap length c.self.view_is
