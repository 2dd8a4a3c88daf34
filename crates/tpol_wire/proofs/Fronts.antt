-- The front of a command: its handles one after the other, and its authorization.
use Rattle.std.proofs.Common.{◌≡◌, ◌++◌, ◌∙◌, ℕ, Bool, true, false, List, Option, refl, ap, append_assoc}
use Rattle.tpol_wire.specs.declared.auth_area.AuthArea.{AuthArea}
use Rattle.tpol_wire.specs.declared.command.Command.{Command}
use Rattle.tpol_wire.specs.declared.command.Command.TheVariants as commands
use Rattle.tpol_wire.specs.Authorizations.{AreaOf, authorization}
use Rattle.tpol_wire.specs.Commands.{code_of_command, fields_of, spell_front, spell_values}
use Rattle.tpol_wire.specs.Handles.{area_held, area_of, handles_of}
use Rattle.tpol_wire.specs.Spellings.{spell_handles, spell_optional_area}
use Rattle.tpol_fields.specs.Kinds.{spell}
use Rattle.tpol_wire.specs.Rows.{row}

handles_spelled : (command : Command) → spell_handles (handles_of command) ≡ spell_values (row (code_of_command command)).handles (fields_of command).handles
unfolding spell_values spell
handles_spelled (commands.StartAuthSession tpm_key bind nonce) = refl
handles_spelled command = refl

area_spelled : (authorized : Bool) (area : AreaOf authorized) → spell_optional_area (area_held authorized area) ≡ authorization authorized area
area_spelled true area = refl
area_spelled false none = refl

-- what stands behind handles and an authorization that were added one after the other
pub front_written : (o handles : List ℕ) (area : Option AuthArea) (command : Command) → handles ≡ o ++ spell_handles (handles_of command) → area ≡ area_of command → handles ++ spell_optional_area area ≡ o ++ spell_front command
front_written o handles area command handles-are area-is =
    let bytes = authorization (row (code_of_command command)).is_authorized (fields_of command).area in
    ap (λ (l : List ℕ). l ++ spell_optional_area area) handles-are
    ∙ ap (λ (a : Option AuthArea). (o ++ spell_handles (handles_of command)) ++ spell_optional_area a) area-is
    ∙ ap (λ (l : List ℕ). (o ++ spell_handles (handles_of command)) ++ l) (area_spelled (row (code_of_command command)).is_authorized (fields_of command).area)
    ∙ ap (λ (l : List ℕ). (o ++ l) ++ bytes) (handles_spelled command)
    ∙ append_assoc o (spell_values (row (code_of_command command)).handles (fields_of command).handles) bytes
