use Rattle.std.proofs.Common.{ap, [], ◌∷◌}
use Rattle.std.proofs.lemmas.Grind.{fold-append}
use Rattle.tpol_driver.specs.Driving.{Starting, hears, sends}
use Rattle.tpol_driver.proofs.Earned.{more_earned}
use Rattle.tpol_driver.proofs.laws.driving_goes_on.Goals as goal

pub returns : goal.returns
returns c = record {
  stands = λ plan replies reply. fold-append (hears plan) Starting replies (reply ∷ []);
  drives = λ plan replies reply. ap (sends plan) (fold-append (hears plan) Starting replies (reply ∷ []));
  earns = λ plan replies reply. more_earned plan Starting replies reply;
}
