use Rattle.std.proofs.Common.{ap, sym, ◌∙◌, ⊎_elim}
use Rattle.tpol_wire.specs.Handles.{handles_of}
use Rattle.tpol_wire.proofs.command.Command.handles.Goals as goal

pub returns-in-StartAuthSession : goal.returns-in-StartAuthSession
returns-in-StartAuthSession c = record { handles = c.two.ensures ∙ sym (ap handles_of c.in-StartAuthSession.is) }

pub returns-in-PcrExtend : goal.returns-in-PcrExtend
returns-in-PcrExtend c = record { handles = c.one.ensures ∙ sym (ap handles_of c.in-PcrExtend.is) }

pub returns-in-Unseal : goal.returns-in-Unseal
returns-in-Unseal c = record { handles = c.one-in-Unseal.ensures ∙ sym (ap handles_of c.in-Unseal.is) }

pub returns-in-Duplicate : goal.returns-in-Duplicate
returns-in-Duplicate c = record { handles = c.two-in-Duplicate.ensures ∙ sym (ap handles_of c.in-Duplicate.is) }

pub returns-in-PolicySigned : goal.returns-in-PolicySigned
returns-in-PolicySigned c = record { handles = c.two-in-PolicySigned.ensures ∙ sym (ap handles_of c.in-PolicySigned.is) }

pub returns-in-PolicySecret : goal.returns-in-PolicySecret
returns-in-PolicySecret c = record { handles = c.two-in-PolicySecret.ensures ∙ sym (ap handles_of c.in-PolicySecret.is) }

pub returns-in-VerifySignature : goal.returns-in-VerifySignature
returns-in-VerifySignature c = record {
  handles = c.one-in-VerifySignature.ensures ∙ sym (
      ⊎_elim (λ x. ap handles_of x.2) (
      λ x. ap handles_of x.3) c.in-VerifySignature.is);
}

pub returns-in-NvRead : goal.returns-in-NvRead
returns-in-NvRead c = record {
  handles = c.two-in-NvRead.ensures ∙ sym (
      ⊎_elim (λ x. ap handles_of x.3) (
      ⊎_elim (λ x. ap handles_of x.3) (
      λ x. ap handles_of x.1)) c.in-NvRead.is);
}

pub returns-in-PolicyNv : goal.returns-in-PolicyNv
returns-in-PolicyNv c = record {
  handles = c.three.ensures ∙ sym (
      ⊎_elim (λ x. ap handles_of x.4) (
      λ x. ap handles_of x.1) c.in-PolicyNv.is);
}

pub returns-in-ContextSave : goal.returns-in-ContextSave
returns-in-ContextSave c = record {
  handles = c.one-in-ContextSave.ensures ∙ sym (
      ⊎_elim (λ x. ap handles_of x) (
      ⊎_elim (λ x. ap handles_of x) (
      ⊎_elim (λ x. ap handles_of x) (
      ⊎_elim (λ x. ap handles_of x.1) (
      ⊎_elim (λ x. ap handles_of x.1) (
      ⊎_elim (λ x. ap handles_of x) (
      ⊎_elim (λ x. ap handles_of x) (
      ⊎_elim (λ x. ap handles_of x) (
      ⊎_elim (λ x. ap handles_of x.1) (
      ⊎_elim (λ x. ap handles_of x.3) (
      ⊎_elim (λ x. ap handles_of x.1) (
      ⊎_elim (λ x. ap handles_of x.2) (
      ⊎_elim (λ x. ap handles_of x.3) (
      ⊎_elim (λ x. ap handles_of x.1) (
      ⊎_elim (λ x. ap handles_of x.5) (
      ⊎_elim (λ x. ap handles_of x.4) (
      λ x. ap handles_of x.1)))))))))))))))) c.in-ContextSave.is);
}
