-- An attempt to use a policy session, as the deferred checks read it.
use Rattle.std.specs.Prelude.{Option}
use Rattle.tpol_base.specs.declared.check.Check.{Check}
use Rattle.tpm_bindings.specs.State.{SessionState}
use Rattle.tpm_deferred.specs.declared.attempt.Attempt.{Attempt}
use Rattle.tpm_rules.specs.AuthValue.{Field, proves}
use Rattle.tpm_rules.specs.Checks.{first_broken_check}
use Rattle.tpm_rules.specs.declared.checks.Use.{Use}

-- what the session is used for
abbrev pub use_of : Attempt → Use
use_of attempt = record {
  code = attempt.code;
  duplicate_role = attempt.duplicate_role;
  cp_hash = attempt.cp_hash;
  name_hash = attempt.name_hash;
  locality = attempt.locality;
  presence = attempt.presence;
  time = attempt.time;
  pcr_counter = attempt.pcr_counter;
  written = attempt.nv_written;
}

-- the field hmac, with what an HMAC is made over
abbrev pub field_of : SessionState → Attempt → Field
field_of session attempt = record {
  hmac = attempt.hmac.now;
  cp_hash = attempt.cp_hash;
  nonce_caller = attempt.nonce_caller.now;
  nonce_tpm = session.nonce;
  attributes = attempt.attributes;
}

-- the first check that is broken
abbrev pub broken_check : SessionState → Attempt → Option Check
broken_check session attempt =
    first_broken_check session (use_of attempt) attempt.auth_policy.now
    (proves (field_of session attempt) attempt.auth_value.now)
