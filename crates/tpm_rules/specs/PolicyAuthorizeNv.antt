-- PolicyAuthorizeNV (TPM 2.0 Part 3, TPM2_PolicyAuthorizeNV), behind the rule on authority over the index.
--   1  the index was never written                                      TPM_RC_NV_UNINITIALIZED
--   2  its content does not begin with the algorithm SHA-256            TPM_RC_HASH
--   3  the session's digest does not follow                             TPM_RC_VALUE
use Rattle.std.specs.Prelude.{ℕ, Bool, List, take, drop, Option, None}
use Rattle.std.specs.Int.{to_be_bytes, w16}
use Rattle.std.specs.Str.{bytes_eq}
use Rattle.tpol_base.specs.declared.digest.Digest32.{Digest32}
use Rattle.tpol_base.specs.Constants.{alg_sha256}
use Rattle.tpol_base.specs.ResponseCode.{rc_hash, rc_nv_uninitialized, rc_value}
use Rattle.tpol_name.specs.Areas.{index_name, is_written}
use Rattle.tpol_name.specs.declared.entries.IndexEntry.{IndexEntry}
use Rattle.tpol_tree.specs.declared.facts.Fact.{Fact}
use Rattle.tpol_tree.specs.declared.path.Move.TheVariants.{ApproveNv}
use Rattle.tpm_bindings.specs.Merged.{fact_of}
use Rattle.tpm_bindings.specs.State.{SessionState}
use Rattle.tpm_rules.specs.Rule.{or_else, unless}
use Rattle.tpm_rules.specs.Session.{policy_digest_of}

-- a digest with its algorithm in front (TPM 2.0 Part 2, TPMT_HA), at the beginning of bytes; what stands
-- behind it is not looked at
abbrev pub begins_with_sha256 : List ℕ → Bool
begins_with_sha256 content = bytes_eq (take 2 content) (to_be_bytes w16 alg_sha256)

abbrev pub has_digest_behind : List ℕ → Digest32 → Bool
has_digest_behind content digest = bytes_eq (take 32 (drop 2 content)) digest.bytes

abbrev pub policy_authorize_nv_rule : SessionState → IndexEntry → Option ℕ
policy_authorize_nv_rule session entry =
    or_else (unless (is_written entry.public.attributes) rc_nv_uninitialized)
    (or_else (unless (begins_with_sha256 entry.content) rc_hash)
    (unless (has_digest_behind entry.content (policy_digest_of session)) rc_value))

-- what the session keeps of it
abbrev pub policy_authorize_nv_fact : ℕ → SessionState → IndexEntry → Fact
policy_authorize_nv_fact event session entry =
    fact_of event (ApproveNv (index_name entry.public) (policy_digest_of session)) None None
