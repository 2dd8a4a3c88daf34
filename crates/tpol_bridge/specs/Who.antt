-- The command `who`: of which words and which answer something is said.
use Rattle.std.specs.Prelude.{◌≡◌, ⊤, ℕ, List, Option, Some}
use Rattle.tpol_bridge.specs.declared.request.Request.{Request}
use Rattle.tpol_bridge.specs.declared.request.Request.TheVariants.{Who}
use Rattle.tpol_steps.specs.declared.answer.Answer.{Answer}
use Rattle.tpol_steps.specs.declared.answer.Verdict.TheVariants.{Done}

-- P where the words are this command
abbrev pub IfWho : Option Request → Type 0 → Type 0
IfWho (Some Who) P = P
IfWho _ P = ⊤

-- P of the lines of an answer that is not a refusal
abbrev pub IfDone : Answer → (List (List ℕ) → Type 0) → Type 0
IfDone answer P = answer.verdict ≡ Done → P answer.lines
