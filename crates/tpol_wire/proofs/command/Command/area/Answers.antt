use Rattle.std.proofs.Common.{ap, sym, ⊎_elim}
use Rattle.tpol_wire.specs.Handles.{area_of}
use Rattle.tpol_wire.proofs.command.Command.area.Goals as goal

pub returns-in-PcrExtend : goal.returns-in-PcrExtend
returns-in-PcrExtend c = record {
  area = sym (
      ⊎_elim (λ x. ap area_of x.2) (
      ⊎_elim (λ x. ap area_of x.1) (
      ⊎_elim (λ x. ap area_of x.3) (
      ⊎_elim (λ x. ap area_of x.4) (
      ⊎_elim (λ x. ap area_of x.4) (
      ⊎_elim (λ x. ap area_of x.2) (
      ⊎_elim (λ x. ap area_of x.2) (
      ⊎_elim (λ x. ap area_of x.6) (
      ⊎_elim (λ x. ap area_of x.6) (
      λ x. ap area_of x.3))))))))) c.in-PcrExtend.is);
}
