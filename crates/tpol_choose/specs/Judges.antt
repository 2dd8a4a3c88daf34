-- The goal's entity and rule, as the code lends them.
use Rattle.std.specs.Prelude.{◌≡◌, ⊤, Option, Some, None}
use Rattle.tpm_rules.specs.Rule.{Obeys}
use Rattle.tpol_choose.specs.declared.goal_rules.Judged.{Judged as LentJudged}
use Rattle.tpol_choose.specs.Goals.{Judged}
use Rattle.tpol_choose.specs.Lent.{entity_of_lent}

pub record JudgesOne (lent : LentJudged) (goal : Judged) : Type 0 where
  pub found : entity_of_lent lent.found ≡ goal.found
  pub rule : Obeys lent.rule goal.rule

abbrev pub Judges : Option LentJudged → Option Judged → Type 0
Judges None None = ⊤
Judges None (Some goal) = ⊥
Judges (Some lent) None = ⊥
Judges (Some lent) (Some goal) = JudgesOne lent goal
