use Rattle.std.proofs.Common.{ap, [], ◌∷◌}
use Rattle.std.proofs.lemmas.Grind.{fold-append}
use Rattle.tpol_driver.specs.Blind.{Starting, blind_hears, blind_sends}
use Rattle.tpol_driver.proofs.laws.blind_driving_goes_on.Goals as goal

pub returns : goal.returns
returns c = record {
  stands = λ plan replies reply. fold-append (blind_hears plan) Starting replies (reply ∷ []);
  drives = λ plan replies reply. ap (blind_sends plan) (fold-append (blind_hears plan) Starting replies (reply ∷ []));
}
