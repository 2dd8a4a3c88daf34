-- What is written of a command.
use Rattle.std.proofs.Common.{◌≡◌, ℕ, List, ◌++◌, length, drop, append_assoc, ap, ◌∙◌}
use Rattle.std.proofs.lemmas.List.{drop_at}
use Rattle.tpol_wire.specs.declared.command.Command.{Command}
use Rattle.tpol_base.specs.declared.command_code.CommandCode.{CommandCode}
use Rattle.tpol_base.specs.CommandCode.{number_of_code}
use Rattle.tpol_wire.specs.Commands.{code_of_command, spelling, spell_front, spell_parameters, tag}
use Rattle.tpol_wire.specs.Spellings.{message_bytes}
use Rattle.tpol_wire.specs.Rows.{row}

-- a message with a command's front and parameters behind its header is its spelling
pub command_written : (command : Command) (code : CommandCode) (t n : ℕ) (header front message bytes : List ℕ)
    → code ≡ code_of_command command → t ≡ tag (row code).is_authorized → n ≡ number_of_code code
    → length header ≡ 10 → front ≡ header ++ spell_front command → message ≡ front ++ spell_parameters command
    → bytes ≡ message_bytes t n (drop 10 message) → bytes ≡ spelling command
command_written command code t n header front message bytes code-is t-is n-is header-long front-is message-is written =
    let whole : message ≡ header ++ (spell_front command ++ spell_parameters command) =
    message-is ∙ ap (λ (x : List ℕ). x ++ spell_parameters command) front-is ∙ append_assoc header (spell_front command) (spell_parameters command) in
    let body-is : drop 10 message ≡ spell_front command ++ spell_parameters command = ap (λ (x : List ℕ). drop 10 x) whole ∙ drop_at header (spell_front command ++ spell_parameters command) 10 header-long in
    let tag-is : t ≡ tag (row (code_of_command command)).is_authorized = t-is ∙ ap (λ (k : CommandCode). tag (row k).is_authorized) code-is in
    let number-is : n ≡ number_of_code (code_of_command command) = n-is ∙ ap number_of_code code-is in
    written
    ∙ ap (λ (k : ℕ). message_bytes k n (drop 10 message)) tag-is
    ∙ ap (λ (k : ℕ). message_bytes (tag (row (code_of_command command)).is_authorized) k (drop 10 message)) number-is
    ∙ ap (λ (x : List ℕ). message_bytes (tag (row (code_of_command command)).is_authorized) (number_of_code (code_of_command command)) x) body-is
