use Rattle.std.proofs.Common.{rules, ◌≡◌, ◌++◌, [], sym, subst, append-nil}
use Rattle.tpol_wire.specs.declared.command.Command.{Command}
use Rattle.tpol_wire.specs.Commands.{spell_parameters, spell_values}
use Rattle.tpol_fields.specs.Spellings.{Appends}
use Rattle.tpol_wire.proofs.writing.other_parameters.Goals as goal

pub returns-in-StartAuthSession : goal.returns-in-StartAuthSession
returns-in-StartAuthSession c = subst (λ (command : Command). Appends c.write.result c.args.out.now c.write.new.out (spell_parameters command)) (sym c.in-StartAuthSession.is) c.write.ensures

pub returns-in-ContextLoad : goal.returns-in-ContextLoad
returns-in-ContextLoad c = subst (λ (command : Command). Appends c.write-in-ContextLoad.result c.args.out.now c.write-in-ContextLoad.new.out (spell_parameters command)) (sym c.in-ContextLoad.is) c.write-in-ContextLoad.ensures

pub returns-in-FlushContext : goal.returns-in-FlushContext
returns-in-FlushContext c = subst (λ (command : Command). Appends c.write-in-FlushContext.result c.args.out.now c.write-in-FlushContext.new.out (spell_parameters command)) (sym c.in-FlushContext.is) c.write-in-FlushContext.ensures

pub returns-in-PcrExtend : goal.returns-in-PcrExtend
returns-in-PcrExtend c = subst (λ (command : Command). Appends c.write-in-PcrExtend.result c.args.out.now c.write-in-PcrExtend.new.out (spell_parameters command)) (sym c.in-PcrExtend.is) c.write-in-PcrExtend.ensures

pub returns-in-PcrRead : goal.returns-in-PcrRead
returns-in-PcrRead c = subst (λ (command : Command). Appends c.write-in-PcrRead.result c.args.out.now c.write-in-PcrRead.new.out (spell_parameters command)) (sym c.in-PcrRead.is) c.write-in-PcrRead.ensures

pub returns-in-VerifySignature : goal.returns-in-VerifySignature
returns-in-VerifySignature c = subst (λ (command : Command). Appends c.write-in-VerifySignature.result c.args.out.now c.write-in-VerifySignature.new.out (spell_parameters command)) (sym c.in-VerifySignature.is) c.write-in-VerifySignature.ensures

pub returns-in-Hmac : goal.returns-in-Hmac
returns-in-Hmac c = subst (λ (command : Command). Appends c.write-in-Hmac.result c.args.out.now c.write-in-Hmac.new.out (spell_parameters command)) (sym c.in-Hmac.is) c.write-in-Hmac.ensures

pub returns-in-NvRead : goal.returns-in-NvRead
returns-in-NvRead c = subst (λ (command : Command). Appends c.write-in-NvRead.result c.args.out.now c.write-in-NvRead.new.out (spell_parameters command)) (sym c.in-NvRead.is) c.write-in-NvRead.ensures

pub returns-in-NvWrite : goal.returns-in-NvWrite
returns-in-NvWrite c = subst (λ (command : Command). Appends c.write-in-NvWrite.result c.args.out.now c.write-in-NvWrite.new.out (spell_parameters command)) (sym c.in-NvWrite.is) c.write-in-NvWrite.ensures

pub returns-in-Duplicate : goal.returns-in-Duplicate
returns-in-Duplicate c = subst (λ (command : Command). Appends c.write-in-Duplicate.result c.args.out.now c.write-in-Duplicate.new.out (spell_parameters command)) (sym c.in-Duplicate.is) c.write-in-Duplicate.ensures

pub returns-in-PolicyNv : goal.returns-in-PolicyNv
returns-in-PolicyNv c = subst (λ (command : Command). Appends c.write-in-PolicyNv.result c.args.out.now c.write-in-PolicyNv.new.out (spell_parameters command)) (sym c.in-PolicyNv.is) c.write-in-PolicyNv.ensures

pub returns-in-PolicyCpHash : goal.returns-in-PolicyCpHash
returns-in-PolicyCpHash c = subst (λ (command : Command). Appends c.write-in-PolicyCpHash.result c.args.out.now c.write-in-PolicyCpHash.new.out (spell_parameters command)) (sym c.in-PolicyCpHash.is) c.write-in-PolicyCpHash.ensures

pub returns-in-PolicyNameHash : goal.returns-in-PolicyNameHash
returns-in-PolicyNameHash c = subst (λ (command : Command). Appends c.write-in-PolicyNameHash.result c.args.out.now c.write-in-PolicyNameHash.new.out (spell_parameters command)) (sym c.in-PolicyNameHash.is) c.write-in-PolicyNameHash.ensures

pub returns-in-PolicyCommandCode : goal.returns-in-PolicyCommandCode
returns-in-PolicyCommandCode c = subst (λ (command : Command). Appends c.write-in-PolicyCommandCode.result c.args.out.now c.write-in-PolicyCommandCode.new.out (spell_parameters command)) (sym c.in-PolicyCommandCode.is) c.write-in-PolicyCommandCode.ensures

pub returns-in-PolicyCounterTimer : goal.returns-in-PolicyCounterTimer
returns-in-PolicyCounterTimer c = subst (λ (command : Command). Appends c.write-in-PolicyCounterTimer.result c.args.out.now c.write-in-PolicyCounterTimer.new.out (spell_parameters command)) (sym c.in-PolicyCounterTimer.is) c.write-in-PolicyCounterTimer.ensures

pub returns-in-PolicyLocality : goal.returns-in-PolicyLocality
returns-in-PolicyLocality c = subst (λ (command : Command). Appends c.write-in-PolicyLocality.result c.args.out.now c.write-in-PolicyLocality.new.out (spell_parameters command)) (sym c.in-PolicyLocality.is) c.write-in-PolicyLocality.ensures

pub returns-in-PolicyPcr : goal.returns-in-PolicyPcr
returns-in-PolicyPcr c = subst (λ (command : Command). Appends c.write-in-PolicyPcr.result c.args.out.now c.write-in-PolicyPcr.new.out (spell_parameters command)) (sym c.in-PolicyPcr.is) c.write-in-PolicyPcr.ensures

pub returns-in-PolicyDuplicationSelect : goal.returns-in-PolicyDuplicationSelect
returns-in-PolicyDuplicationSelect c = subst (λ (command : Command). Appends c.write-in-PolicyDuplicationSelect.result c.args.out.now c.write-in-PolicyDuplicationSelect.new.out (spell_parameters command)) (sym c.in-PolicyDuplicationSelect.is) c.write-in-PolicyDuplicationSelect.ensures

pub returns-in-PolicyNvWritten : goal.returns-in-PolicyNvWritten
returns-in-PolicyNvWritten c = subst (λ (command : Command). Appends c.write-in-PolicyNvWritten.result c.args.out.now c.write-in-PolicyNvWritten.new.out (spell_parameters command)) (sym c.in-PolicyNvWritten.is) c.write-in-PolicyNvWritten.ensures

pub returns-in-PolicyOr : goal.returns-in-PolicyOr
returns-in-PolicyOr c = subst (λ (command : Command). Appends c.write-in-PolicyOr.result c.args.out.now c.write-in-PolicyOr.new.out (spell_parameters command)) (sym c.in-PolicyOr.is) c.write-in-PolicyOr.ensures

pub returns-in_default : goal.returns-in_default
unfolding spell_values
returns-in_default c =
    let e : spell_values [] tt ≡ spell_parameters c.args.command.now = search rules in
    subst (λ bytes. c.args.out.now ≡ c.args.out.now ++ bytes) e (sym (append-nil c.args.out.now))
