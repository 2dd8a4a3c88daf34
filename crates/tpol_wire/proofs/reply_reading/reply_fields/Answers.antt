use Rattle.std.proofs.Common.{◌≡◌, Ok, refl, sym, subst}
use Rattle.tpol_base.specs.declared.command_code.CommandCode.{CommandCode}
use Rattle.tpol_wire.specs.declared.reply.Reply.TheVariants as replies
use Rattle.tpol_wire.specs.Reading.{reply_at, values_at}
use Rattle.tpol_wire.proofs.reply_reading.reply_fields.Goals as goal

pub returns-in-FlushContext : goal.returns-in-FlushContext
unfolding reply_at values_at
returns-in-FlushContext c = subst (λ (code : CommandCode). reply_at code c.args.cursor.now ≡ Ok (replies.FlushContext, c.args.cursor.now)) (sym c.in-FlushContext.is) refl

pub returns-in-PolicyRestart : goal.returns-in-PolicyRestart
unfolding reply_at values_at
returns-in-PolicyRestart c = subst (λ (code : CommandCode). reply_at code c.args.cursor.now ≡ Ok (replies.PolicyRestart, c.args.cursor.now)) (sym c.in-PolicyRestart.is) refl

pub returns-in-PcrExtend : goal.returns-in-PcrExtend
unfolding reply_at values_at
returns-in-PcrExtend c = subst (λ (code : CommandCode). reply_at code c.args.cursor.now ≡ Ok (replies.PcrExtend, c.args.cursor.now)) (sym c.in-PcrExtend.is) refl

pub returns-in-NvWrite : goal.returns-in-NvWrite
unfolding reply_at values_at
returns-in-NvWrite c = subst (λ (code : CommandCode). reply_at code c.args.cursor.now ≡ Ok (replies.NvWrite, c.args.cursor.now)) (sym c.in-NvWrite.is) refl

pub returns-in-NvIncrement : goal.returns-in-NvIncrement
unfolding reply_at values_at
returns-in-NvIncrement c = subst (λ (code : CommandCode). reply_at code c.args.cursor.now ≡ Ok (replies.NvIncrement, c.args.cursor.now)) (sym c.in-NvIncrement.is) refl

pub returns-in-PolicyNv : goal.returns-in-PolicyNv
unfolding reply_at values_at
returns-in-PolicyNv c = subst (λ (code : CommandCode). reply_at code c.args.cursor.now ≡ Ok (replies.PolicyNv, c.args.cursor.now)) (sym c.in-PolicyNv.is) refl

pub returns-in-PolicyCpHash : goal.returns-in-PolicyCpHash
unfolding reply_at values_at
returns-in-PolicyCpHash c = subst (λ (code : CommandCode). reply_at code c.args.cursor.now ≡ Ok (replies.PolicyCpHash, c.args.cursor.now)) (sym c.in-PolicyCpHash.is) refl

pub returns-in-PolicyNameHash : goal.returns-in-PolicyNameHash
unfolding reply_at values_at
returns-in-PolicyNameHash c = subst (λ (code : CommandCode). reply_at code c.args.cursor.now ≡ Ok (replies.PolicyNameHash, c.args.cursor.now)) (sym c.in-PolicyNameHash.is) refl

pub returns-in-PolicyAuthValue : goal.returns-in-PolicyAuthValue
unfolding reply_at values_at
returns-in-PolicyAuthValue c = subst (λ (code : CommandCode). reply_at code c.args.cursor.now ≡ Ok (replies.PolicyAuthValue, c.args.cursor.now)) (sym c.in-PolicyAuthValue.is) refl

pub returns-in-PolicyPassword : goal.returns-in-PolicyPassword
unfolding reply_at values_at
returns-in-PolicyPassword c = subst (λ (code : CommandCode). reply_at code c.args.cursor.now ≡ Ok (replies.PolicyPassword, c.args.cursor.now)) (sym c.in-PolicyPassword.is) refl

pub returns-in-PolicyPhysicalPresence : goal.returns-in-PolicyPhysicalPresence
unfolding reply_at values_at
returns-in-PolicyPhysicalPresence c = subst (λ (code : CommandCode). reply_at code c.args.cursor.now ≡ Ok (replies.PolicyPhysicalPresence, c.args.cursor.now)) (sym c.in-PolicyPhysicalPresence.is) refl

pub returns-in-PolicyCommandCode : goal.returns-in-PolicyCommandCode
unfolding reply_at values_at
returns-in-PolicyCommandCode c = subst (λ (code : CommandCode). reply_at code c.args.cursor.now ≡ Ok (replies.PolicyCommandCode, c.args.cursor.now)) (sym c.in-PolicyCommandCode.is) refl

pub returns-in-PolicyCounterTimer : goal.returns-in-PolicyCounterTimer
unfolding reply_at values_at
returns-in-PolicyCounterTimer c = subst (λ (code : CommandCode). reply_at code c.args.cursor.now ≡ Ok (replies.PolicyCounterTimer, c.args.cursor.now)) (sym c.in-PolicyCounterTimer.is) refl

pub returns-in-PolicyLocality : goal.returns-in-PolicyLocality
unfolding reply_at values_at
returns-in-PolicyLocality c = subst (λ (code : CommandCode). reply_at code c.args.cursor.now ≡ Ok (replies.PolicyLocality, c.args.cursor.now)) (sym c.in-PolicyLocality.is) refl

pub returns-in-PolicyPcr : goal.returns-in-PolicyPcr
unfolding reply_at values_at
returns-in-PolicyPcr c = subst (λ (code : CommandCode). reply_at code c.args.cursor.now ≡ Ok (replies.PolicyPcr, c.args.cursor.now)) (sym c.in-PolicyPcr.is) refl

pub returns-in-PolicyDuplicationSelect : goal.returns-in-PolicyDuplicationSelect
unfolding reply_at values_at
returns-in-PolicyDuplicationSelect c = subst (λ (code : CommandCode). reply_at code c.args.cursor.now ≡ Ok (replies.PolicyDuplicationSelect, c.args.cursor.now)) (sym c.in-PolicyDuplicationSelect.is) refl

pub returns-in-PolicyNvWritten : goal.returns-in-PolicyNvWritten
unfolding reply_at values_at
returns-in-PolicyNvWritten c = subst (λ (code : CommandCode). reply_at code c.args.cursor.now ≡ Ok (replies.PolicyNvWritten, c.args.cursor.now)) (sym c.in-PolicyNvWritten.is) refl

pub returns-in-PolicyTicket : goal.returns-in-PolicyTicket
unfolding reply_at values_at
returns-in-PolicyTicket c = subst (λ (code : CommandCode). reply_at code c.args.cursor.now ≡ Ok (replies.PolicyTicket, c.args.cursor.now)) (sym c.in-PolicyTicket.is) refl

pub returns-in-PolicyAuthorize : goal.returns-in-PolicyAuthorize
unfolding reply_at values_at
returns-in-PolicyAuthorize c = subst (λ (code : CommandCode). reply_at code c.args.cursor.now ≡ Ok (replies.PolicyAuthorize, c.args.cursor.now)) (sym c.in-PolicyAuthorize.is) refl

pub returns-in-PolicyOr : goal.returns-in-PolicyOr
unfolding reply_at values_at
returns-in-PolicyOr c = subst (λ (code : CommandCode). reply_at code c.args.cursor.now ≡ Ok (replies.PolicyOr, c.args.cursor.now)) (sym c.in-PolicyOr.is) refl

pub returns-in-PolicyAuthorizeNv : goal.returns-in-PolicyAuthorizeNv
unfolding reply_at values_at
returns-in-PolicyAuthorizeNv c = subst (λ (code : CommandCode). reply_at code c.args.cursor.now ≡ Ok (replies.PolicyAuthorizeNv, c.args.cursor.now)) (sym c.in-PolicyAuthorizeNv.is) refl
