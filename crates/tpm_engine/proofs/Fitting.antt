-- What the bounds of commands on the wire say of their fields, and the Name of an index.
use Rattle.std.proofs.Common.{◌≡◌, ℕ, ◌^◌, ◌<◌, true, false, Option, Some, nat_lt, refl, ap, sym, ◌∙◌, arith}
use Rattle.std.proofs.lemmas.Bool.Decides.{nat_tests}
use Rattle.tpol_base.specs.declared.digest.Digest32.{Digest32}
use Rattle.tpol_base.specs.declared.handle.HandleKind.{HandleKind}
use Rattle.tpol_base.specs.declared.handle.HandleKind.TheVariants as kinds
use Rattle.tpol_base.specs.declared.compare.Compare.{Compare}
use Rattle.tpol_base.specs.Handle.{is_index, kind_of_handle}
use Rattle.tpol_name.specs.Areas.{index_name}
use Rattle.tpol_name.specs.declared.entries.IndexEntry.{IndexEntry}
use Rattle.tpol_wire.specs.declared.auth_area.AuthArea.{AuthArea}
use Rattle.tpol_wire.specs.declared.command.Command.TheVariants as commands
use Rattle.tpol_wire.specs.Commands.{FitsCommand, ValuesFit}
use Rattle.tpol_fields.specs.Kinds.{Fits}
use Rattle.tpm_nv.specs.Indices.{index_of}
use Rattle.tpm_world.specs.Entities.{entity_of_kind, name_at, name_of_entity}
use Rattle.tpm_world.specs.World.{WorldState}
use Rattle.tpm_rules.specs.Entity.{Index}
use Rattle.std.specs.Option.{option_map}
use Rattle.std.specs.Prelude.{List}

index-kind : (handle : ℕ) → is_index handle ≡ true → kind_of_handle handle ≡ Some kinds.Index
index-kind handle is =
    let above : nat_lt handle 24 ≡ false = grind (arith, nat_tests, is) in
    rw (above, is) refl

-- an index that is there, by a handle of the kind, has the Name of its public area
pub index-named : (world : WorldState) (index : ℕ) (entry : IndexEntry) → is_index index ≡ true → Some entry ≡ index_of index world.indices → name_at world index ≡ index_name entry.public
index-named world index entry is found =
    ap (λ (kind : Option HandleKind). name_of_entity index (entity_of_kind world index kind)) (index-kind index is)
    ∙ ap (λ (o : Option IndexEntry). name_of_entity index (option_map Index o)) (sym found)

pub nv-index : (authority index session : ℕ) (auth : AuthArea) (operand : List ℕ) (offset : ℕ) (operation : Compare)
    → FitsCommand (commands.PolicyNv authority index session auth operand offset operation) → is_index index ≡ true
unfolding ValuesFit Fits
nv-index authority index session auth operand offset operation fits = fits.handles.1.0.1

pub authorize_nv-index : (authority index session : ℕ) (auth : AuthArea) → FitsCommand (commands.PolicyAuthorizeNv authority index session auth) → is_index index ≡ true
unfolding ValuesFit Fits
authorize_nv-index authority index session auth fits = fits.handles.1.0.1

pub pcr-mask : (session : ℕ) (given : Option Digest32) (mask : ℕ) → FitsCommand (commands.PolicyPcr session given mask) → mask < 2 ^ 24
unfolding ValuesFit Fits
pcr-mask session given mask fits = fits.parameters.1.0
