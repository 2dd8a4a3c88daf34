-- How the value of an entity is proved through a policy session (TPM 2.0 Part 1, "Policy Session Use"): in
-- plain after PolicyPassword, by an HMAC with the value as key after PolicyAuthValue, else by an HMAC with an
-- empty key. With an empty key the field may be empty too.
use Rattle.std.specs.Prelude.{ℕ, Bool, List, []}
use Rattle.tpol_base.specs.declared.digest.Digest32.{Digest32}
use Rattle.tpm_auth.specs.Passwords.{is_password}
use Rattle.tpm_auth.specs.SessionMacs.{is_command_mac}
use Rattle.tpm_bindings.specs.declared.last_auth.LastAuth.{LastAuth}
use Rattle.tpm_bindings.specs.declared.last_auth.LastAuth.TheVariants.{Neither, AuthValue, Password}

-- the field hmac of a command's area, with what it is made over
pub record Field : Type 0 where
  pub hmac : List ℕ
  pub cp_hash : Digest32
  pub nonce_caller : List ℕ
  pub nonce_tpm : Digest32
  pub attributes : ℕ

-- whether the field is the HMAC with this key
abbrev pub is_mac : Field → List ℕ → Bool
is_mac field key =
    is_command_mac key field.cp_hash field.nonce_caller field.nonce_tpm field.attributes field.hmac

-- whether the field proves this value
abbrev pub proves : Field → List ℕ → LastAuth → Bool
proves field value Password = is_password value field.hmac
proves field value AuthValue = is_mac field value
proves field value Neither = is_mac field []
