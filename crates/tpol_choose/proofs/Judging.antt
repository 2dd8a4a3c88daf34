-- A goal that is judged.
use Rattle.std.proofs.Common.{◌≡◌, Option, Some, None, refl}
use Rattle.tpol_choose.specs.declared.goal_rules.Judged.{Judged as LentJudged}
use Rattle.tpol_choose.specs.Goals.{Judged}
use Rattle.tpol_choose.specs.Judges.{Judges, JudgesOne}

pub is_judged : (lent : LentJudged) (found : Option Judged) → Judges (Some lent) found → (goal : Judged) × (found ≡ Some goal) × JudgesOne lent goal
is_judged lent None h = absurd h
is_judged lent (Some goal) h = (goal, refl, h)

pub not_judged : (found : Option Judged) → Judges None found → found ≡ None
not_judged None h = refl
not_judged (Some goal) h = absurd h
