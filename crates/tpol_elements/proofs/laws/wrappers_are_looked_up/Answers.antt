use Rattle.tpol_elements.proofs.Wrappers.{through-looks-up}
use Rattle.tpol_tree.specs.declared.wishes.NvPublicText.{NvPublicText}
use Rattle.tpol_tree.specs.declared.wishes.ObjectPublicText.{ObjectPublicText}
use Rattle.tpol_elements.proofs.laws.wrappers_are_looked_up.Goals as goal

pub returns-clause-key : goal.returns-clause-key
returns-clause-key c = through-looks-up ObjectPublicText

pub returns-clause-index : goal.returns-clause-index
returns-clause-index c = through-looks-up NvPublicText
