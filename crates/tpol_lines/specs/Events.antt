-- The lines of the events of a machine.
use Rattle.std.specs.Prelude.{ℕ, Bool, true, false, List, [], ◌∷◌, codes, decimal}
use Rattle.hex.specs.Hex.{encode_lower}
use Rattle.tpol_base.specs.declared.check.Check.{Check}
use Rattle.tpol_base.specs.declared.check.Check.TheVariants as checks
use Rattle.tpm_rules.specs.declared.outcome.Denial.{Denial}
use Rattle.tpm_rules.specs.declared.outcome.Denial.TheVariants as denials
use Rattle.tpm_rules.specs.declared.outcome.Outcome.{Outcome}
use Rattle.tpm_rules.specs.declared.outcome.Outcome.TheVariants as outcomes
use Rattle.tpol_lines.specs.Hex.{code_of_buffer}
use Rattle.tpol_lines.specs.Lines.{spaced}

abbrev pub check_word : Check → List ℕ
check_word checks.PcrChanged = codes "PcrChanged"
check_word checks.PolicyFail = codes "PolicyFail"
check_word checks.Expired = codes "Expired"
check_word checks.CommandCode = codes "CommandCode"
check_word checks.RoleNeedsCode = codes "RoleNeedsCode"
check_word checks.Locality = codes "Locality"
check_word checks.Presence = codes "Presence"
check_word checks.Hashes = codes "Hashes"
check_word checks.NvWritten = codes "NvWritten"
check_word checks.AuthValue = codes "AuthValue"

abbrev pub denial_word : Denial → List ℕ
denial_word denials.Unavailable = codes "Unavailable"
denial_word denials.Password = codes "Password"
denial_word (denials.Deferred check) = check_word check

-- what became of a command
abbrev pub class_text : Outcome → List ℕ
class_text outcomes.Accepted = codes "accepted"
class_text outcomes.Served = codes "served"
class_text (outcomes.Denied denial) = spaced (codes "denied" ∷ denial_word denial ∷ [])
class_text (outcomes.Refused rc) = codes "refused"

-- the reply to a command, and what became of it
abbrev pub answer_text : List ℕ → Outcome → List ℕ
answer_text reply outcome =
    spaced (codes "rc" ∷ code_of_buffer reply ∷ class_text outcome ∷ codes "reply" ∷ encode_lower reply ∷ [])

-- a command of a client at a locality, with its reply
abbrev pub command_line : ℕ → ℕ → ℕ → List ℕ → List ℕ → Outcome → List ℕ
command_line event client locality buffer reply outcome =
    spaced (decimal event ∷ codes "client" ∷ decimal client ∷ codes "locality" ∷ decimal locality
    ∷ codes "code" ∷ code_of_buffer buffer ∷ answer_text reply outcome ∷ [])

-- so many milliseconds passed
abbrev pub time_line : ℕ → ℕ → List ℕ
time_line event milliseconds = spaced (decimal event ∷ codes "time" ∷ decimal milliseconds ∷ [])

abbrev pub switch_word : Bool → List ℕ
switch_word true = codes "on"
switch_word false = codes "off"

-- physical presence was asserted or taken back
abbrev pub presence_line : ℕ → Bool → List ℕ
presence_line event on = spaced (decimal event ∷ codes "presence" ∷ switch_word on ∷ [])

-- a TPM Reset
abbrev pub reset_line : ℕ → List ℕ
reset_line event = spaced (decimal event ∷ codes "reset" ∷ [])
