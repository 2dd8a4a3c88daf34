-- The field that the code lends.
use Rattle.tpm_rules.specs.declared.auth_value.Field.{Field as LentField}
use Rattle.tpm_rules.specs.AuthValue.{Field}

abbrev pub field_of : LentField → Field
field_of field = record {
  hmac = field.hmac.now;
  cp_hash = field.cp_hash;
  nonce_caller = field.nonce_caller.now;
  nonce_tpm = field.nonce_tpm;
  attributes = field.attributes;
}
