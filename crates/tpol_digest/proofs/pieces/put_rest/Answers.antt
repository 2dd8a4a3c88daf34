use Rattle.std.proofs.Common.{◌++◌, ◌∙◌, ap, subst, sym}
use Rattle.tpol_hash.specs.Messages.{Holds}
use Rattle.tpol_digest.specs.Update.{update_of_assertion}
use Rattle.tpol_digest.proofs.pieces.put_rest.Goals as goal

pub returns-in-Pcr : goal.returns-in-Pcr
returns-in-Pcr c =
    let same = ap (λ selection. selection ++ c.in-Pcr.pcr_digest.bytes) c.selection.ensures ∙ ap (λ assertion. (update_of_assertion assertion).rest) (sym c.in-Pcr.is) in
    record { longer = λ m h. subst (λ rest. Holds c.put_both.new.hasher (m ++ rest)) same (c.put_both.ensures.longer m h) }
