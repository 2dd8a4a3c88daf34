use Rattle.std.proofs.Common.{refl}
use Rattle.tpol_read.specs.Documents.{document_in}
use Rattle.tpol_read.proofs.document.document.Goals as goal

pub returns : goal.returns
unfolding document_in
returns c =
    rw (c.in_ok-check_object.ensures, c.in_ok-description.ensures, c.in_ok-elements.ensures, c.in_ok-approvals.ensures, c.in_ok-note_unknown.ensures) refl
