-- Worked values of the rules: each code as a TPM answers it.
use Rattle.std.proofs.Common.{◌≡◌, ℕ, pos, true, false, List, [], ◌∷◌, replicate, Some, None, refl}
use Rattle.tpol_base.specs.declared.check.Check.TheVariants as checks
use Rattle.tpol_base.specs.declared.compare.Compare.TheVariants.{Eq}
use Rattle.tpol_base.specs.declared.digest.Digest32.{Digest32}
use Rattle.tpol_base.specs.declared.name.Name.TheVariants.{Handle}
use Rattle.tpol_base.specs.Digest.{zero_digest}
use Rattle.tpol_name.specs.declared.areas.NvPublic.{NvPublic}
use Rattle.tpol_name.specs.declared.areas.ObjectPublic.{ObjectPublic}
use Rattle.tpol_name.specs.declared.areas.Scheme.{Scheme}
use Rattle.tpol_name.specs.declared.areas.Scheme.TheVariants.{Sealed, HmacKey}
use Rattle.tpol_name.specs.declared.entries.IndexEntry.{IndexEntry}
use Rattle.tpol_tree.specs.declared.facts.Fact.{Fact}
use Rattle.tpm_bindings.specs.State.{SessionState}
use Rattle.tpm_pcr.specs.declared.clock.Clock.{Clock}
use Rattle.tpm_rules.specs.Checks.{code_of_check}
use Rattle.tpm_rules.specs.Entity.{Hierarchy, Pcr}
use Rattle.tpm_rules.specs.NvAuthority.{nv_authority_rule}
use Rattle.tpm_rules.specs.Objects.{duplicate_rule, hmac_rule, unseal_rule, verify_signature_rule}
use Rattle.tpm_rules.specs.Password.{unavailable_password_code, wrong_password_code}
use Rattle.tpm_rules.specs.PolicyAuthorize.{policy_authorize_rule}
use Rattle.tpm_rules.specs.PolicyAuthorizeNv.{policy_authorize_nv_rule}
use Rattle.tpm_rules.specs.PolicyCommandCode.{policy_command_code_fact, policy_command_code_rule}
use Rattle.tpm_rules.specs.PolicyCounterTimer.{policy_counter_timer_rule}
use Rattle.tpm_rules.specs.PolicyCpHash.{policy_cp_hash_fact, policy_cp_hash_rule}
use Rattle.tpm_rules.specs.PolicyDuplicationSelect.{policy_duplication_select_fact, policy_duplication_select_rule}
use Rattle.tpm_rules.specs.PolicyLocality.{policy_locality_fact, policy_locality_rule}
use Rattle.tpm_rules.specs.PolicyNameHash.{policy_name_hash_rule}
use Rattle.tpm_rules.specs.PolicyNv.{policy_nv_rule}
use Rattle.tpm_rules.specs.PolicyNvWritten.{policy_nv_written_fact, policy_nv_written_rule}
use Rattle.tpm_rules.specs.PolicyOr.{policy_or_rule}
use Rattle.tpm_rules.specs.PolicyPcr.{policy_pcr_rule}
use Rattle.tpm_rules.specs.PolicySecret.{policy_secret_rule}
use Rattle.tpm_rules.specs.PolicySigned.{policy_signed_rule}
use Rattle.tpm_rules.specs.PolicyTicket.{policy_ticket_rule}

-- a session that started at 100 milliseconds, with these facts
abbrev session : List Fact → SessionState
session facts = record { start = 100; nonce = zero_digest; facts = facts; counter = Some 7 }

abbrev other_digest : Digest32
other_digest = record { bytes = replicate 32 1; whole = refl }

-- ---- the deferred checks

pcr_changed : code_of_check checks.PcrChanged ≡ 0x128
pcr_changed = refl

policy_fail : code_of_check checks.PolicyFail ≡ 0x99d
policy_fail = refl

expired : code_of_check checks.Expired ≡ 0x9a3
expired = refl

command_code : code_of_check checks.CommandCode ≡ 0x9a4
command_code = refl

role_needs_code : code_of_check checks.RoleNeedsCode ≡ 0x99d
role_needs_code = refl

locality : code_of_check checks.Locality ≡ 0x907
locality = refl

presence : code_of_check checks.Presence ≡ 0x990
presence = refl

hashes : code_of_check checks.Hashes ≡ 0x99d
hashes = refl

nv_written : code_of_check checks.NvWritten ≡ 0x99d
nv_written = refl

auth_value : code_of_check checks.AuthValue ≡ 0x98e
auth_value = refl

-- ---- passwords

password_for_duplicate : unavailable_password_code 0x14b ≡ 0x124
password_for_duplicate = refl

password_for_unseal : unavailable_password_code 0x15e ≡ 0x12f
password_for_unseal = refl

wrong_password_of_the_owner : wrong_password_code (Hierarchy 0x40000001 []) ≡ 0x9a2
wrong_password_of_the_owner = refl

wrong_password_of_the_lockout : wrong_password_code (Hierarchy 0x4000000a []) ≡ 0x98e
wrong_password_of_the_lockout = refl

wrong_password_of_a_pcr : wrong_password_code Pcr ≡ 0x9a2
wrong_password_of_a_pcr = refl

-- ---- policy commands

another_code : policy_command_code_rule (session (policy_command_code_fact 1 0x15e ∷ [])) 0x155 ≡ Some 0x1c4
another_code = refl

no_common_locality : policy_locality_rule (session (policy_locality_fact 1 1 ∷ [])) 2 ≡ Some 0x1cd
no_common_locality = refl

locality_5 : policy_locality_rule (session []) 32 ≡ Some 0x1cd
locality_5 = refl

another_cp_hash : policy_cp_hash_rule (session (policy_cp_hash_fact 1 zero_digest ∷ [])) other_digest ≡ Some 0x151
another_cp_hash = refl

a_name_hash_beside_a_cp_hash : policy_name_hash_rule (session (policy_cp_hash_fact 1 zero_digest ∷ [])) zero_digest ≡ Some 0x151
a_name_hash_beside_a_cp_hash = refl

another_state : policy_nv_written_rule (session (policy_nv_written_fact 1 true ∷ [])) false ≡ Some 0x1c4
another_state = refl

a_new_parent_beside_a_cp_hash : policy_duplication_select_rule (session (policy_cp_hash_fact 1 zero_digest ∷ [])) ≡ Some 0x151
a_new_parent_beside_a_cp_hash = refl

a_new_parent_beside_a_code : policy_duplication_select_rule (session (policy_command_code_fact 1 0x14b ∷ [])) ≡ Some 0x143
a_new_parent_beside_a_code = refl

a_code_beside_a_new_parent : policy_command_code_rule (session (policy_duplication_select_fact 1 (Handle 1) (Handle 2) false ∷ [])) 0x15e ≡ Some 0x1c4
a_code_beside_a_new_parent = refl

no_branch : policy_or_rule (session []) (other_digest ∷ []) ≡ Some 0x1c4
no_branch = refl

pcr_extended : policy_pcr_rule (session []) 8 zero_digest None ≡ Some 0x128
pcr_extended = refl

other_pcrs : policy_pcr_rule (session []) 7 zero_digest (Some other_digest) ≡ Some 0x1c4
other_pcrs = refl

another_nonce : policy_secret_rule (session []) 0 (replicate 32 1) None (pos 0) ≡ Some 0x1cf
another_nonce = refl

a_nonce_cut_short : policy_secret_rule (session []) 0 (replicate 31 0) None (pos 0) ≡ Some 0x1cf
a_nonce_cut_short = refl

a_second_from_the_start : policy_secret_rule (session []) 1101 (replicate 32 0) None (pos 1) ≡ Some 0x4e3
a_second_from_the_start = refl

within_a_second : policy_secret_rule (session []) 1100 (replicate 32 0) None (pos 1) ≡ None
within_a_second = refl

a_wrong_signature : policy_signed_rule (session []) 0 [] None (pos 0) false ≡ Some 0x5db
a_wrong_signature = refl

a_late_ticket : policy_ticket_rule (session []) 1001 1000 None true ≡ Some 0x1e3
a_late_ticket = refl

a_wrong_ticket : policy_ticket_rule (session []) 1000 1000 None false ≡ Some 0x5e0
a_wrong_ticket = refl

not_the_approved_digest : policy_authorize_rule (session []) other_digest true ≡ Some 0x1c4
not_the_approved_digest = refl

a_wrong_approval : policy_authorize_rule (session []) zero_digest false ≡ Some 0x4c4
a_wrong_approval = refl

abbrev clock : Clock
clock = record { time = 0; reset_count = 0; restart_count = 0; safe = true }

past_the_clock : policy_counter_timer_rule clock [] 26 Eq ≡ Some 0x1cd
past_the_clock = refl

an_unsafe_clock : policy_counter_timer_rule clock (0 ∷ []) 24 Eq ≡ Some 0x126
an_unsafe_clock = refl

-- ---- indices: a byte 5, and a digest with its algorithm, of these attributes

abbrev area : ℕ → ℕ → NvPublic
area attributes size = record { index = 0x01000001; attributes = attributes; auth_policy = []; size = size }

abbrev entry : ℕ → List ℕ → ℕ → IndexEntry
entry attributes content size = record { path = []; public = area attributes size; auth = []; content = content }

not_written : policy_nv_rule (entry 0x00020002 (0 ∷ []) 1) [] 0 Eq ≡ Some 0x14a
not_written = refl

past_the_index : policy_nv_rule (entry 0x20020002 (5 ∷ []) 1) [] 2 Eq ≡ Some 0x2c4
past_the_index = refl

past_its_end : policy_nv_rule (entry 0x20020002 (5 ∷ []) 1) (5 ∷ []) 1 Eq ≡ Some 0x1d5
past_its_end = refl

another_byte : policy_nv_rule (entry 0x20020002 (5 ∷ []) 1) (6 ∷ []) 0 Eq ≡ Some 0x126
another_byte = refl

not_for_the_owner : nv_authority_rule 0x40000001 (area 0x00000002 1) 0x149 ≡ Some 0x149
not_for_the_owner = refl

not_sha256 : policy_authorize_nv_rule (session []) (entry 0x20000000 (0 ∷ 4 ∷ replicate 32 0) 34) ≡ Some 0x083
not_sha256 = refl

another_digest : policy_authorize_nv_rule (session []) (entry 0x20000000 (0 ∷ 11 ∷ replicate 32 1) 34) ≡ Some 0x084
another_digest = refl

-- ---- objects

abbrev object : Scheme → ℕ → ObjectPublic
object scheme attributes = record { scheme = scheme; attributes = attributes; auth_policy = []; unique = [] }

a_key_unsealed : unseal_rule (object HmacKey 0x40040) ≡ Some 0x182
a_key_unsealed = refl

no_key : hmac_rule (object Sealed 0x40) ≡ Some 0x19c
no_key = refl

a_restricted_key : hmac_rule (object HmacKey 0x50040) ≡ Some 0x182
a_restricted_key = refl

a_fixed_parent : duplicate_rule (object Sealed 0x50) ≡ Some 0x182
a_fixed_parent = refl

no_key_to_verify : verify_signature_rule (object Sealed 0x40) true ≡ Some 0x182
no_key_to_verify = refl

a_signature_that_differs : verify_signature_rule (object HmacKey 0x40040) false ≡ Some 0x2db
a_signature_that_differs = refl
