-- How the machine judges what it is shown.
use Rattle.std.specs.Prelude.{ℕ, ℤ, ◌==◌, ◌&&◌, ◌||◌, Bool, List, Option}
use Rattle.std.specs.Str.{bytes_eq}
use Rattle.tpol_base.specs.declared.digest.Digest32.{Digest32}
use Rattle.tpol_base.specs.declared.name.Name.{Name}
use Rattle.tpol_base.specs.Constants.{st_auth_secret, st_auth_signed}
use Rattle.tpol_base.specs.Digest.{optional_bytes, is_same_digest}
use Rattle.tpol_base.specs.Handle.{rh_owner}
use Rattle.tpm_auth.specs.Signatures.{signature_of, signed_hash}
use Rattle.tpm_auth.specs.Tickets.{auth_ticket, is_verified_ticket}
use Rattle.tpm_rules.specs.PolicyAuthorize.{approval_hash}

-- whether a signature for PolicySigned is the key's, over the nonce, the expiration, cpHashA and policyRef
abbrev pub is_signature : List ℕ → List ℕ → ℤ → Option Digest32 → List ℕ → Digest32 → Bool
is_signature secret nonce expiration cp_hash policy_ref signature =
    is_same_digest signature (signature_of secret (signed_hash nonce expiration (optional_bytes cp_hash) policy_ref))

-- whether a ticket for PolicyAuthorize is this machine's, for the approval and the key
abbrev pub is_approval_ticket : Digest32 → Digest32 → List ℕ → Name → List ℕ → Bool
is_approval_ticket proof approved policy_ref key ticket =
    is_verified_ticket proof (approval_hash approved policy_ref) key ticket

-- whether a ticket for PolicyTicket is this machine's: its tag is that of PolicySecret or PolicySigned, its
-- hierarchy is the owner's, and its digest is that of these values at this reset count
abbrev pub is_auth_ticket : Digest32 → ℕ → ℕ → Option Digest32 → List ℕ → Name → ℕ → ℕ → List ℕ → Bool
is_auth_ticket proof reset_count deadline cp_hash policy_ref key tag hierarchy ticket =
    (tag == st_auth_secret || tag == st_auth_signed) && hierarchy == rh_owner
    && bytes_eq ticket (auth_ticket proof tag deadline reset_count (optional_bytes cp_hash) policy_ref key).bytes
