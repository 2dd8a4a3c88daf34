-- VerifySignature (TPM 2.0 Part 3, TPM2_VerifySignature): a ticket that a key's signature of a digest was
-- verified.
use Rattle.std.specs.Prelude.{ℕ, Option}
use Rattle.tpol_base.specs.declared.digest.Digest32.{Digest32}
use Rattle.tpol_base.specs.Constants.{st_verified}
use Rattle.tpol_base.specs.Digest.{is_same_digest}
use Rattle.tpol_base.specs.Handle.{rh_owner}
use Rattle.tpol_name.specs.Areas.{object_name}
use Rattle.tpol_name.specs.declared.entries.ObjectEntry.{ObjectEntry}
use Rattle.tpol_wire.specs.declared.reply.Reply.{Reply}
use Rattle.tpol_wire.specs.declared.reply.Reply.TheVariants.{VerifySignature}
use Rattle.tpol_fields.specs.declared.ticket.Ticket.{Ticket}
use Rattle.tpm_auth.specs.Signatures.{signature_of}
use Rattle.tpm_auth.specs.Tickets.{verified_ticket}
use Rattle.tpm_rules.specs.Objects.{verify_signature_rule}
use Rattle.tpm_world.specs.Hashes.{proof_of}
use Rattle.tpm_world.specs.Missing.{reply_of_object, rule_of_object}
use Rattle.tpm_world.specs.World.{WorldState}

abbrev pub rule : WorldState → ℕ → Digest32 → Digest32 → Option ℕ
rule world key digest signature =
    rule_of_object world key (λ object. verify_signature_rule object.public (is_same_digest signature (signature_of object.secret digest)))

-- the ticket, under the proof of this machine
abbrev pub ticket_of : WorldState → Digest32 → ObjectEntry → Ticket
ticket_of world digest object = record {
  tag = st_verified;
  hierarchy = rh_owner;
  digest = (verified_ticket (proof_of world.seed) digest (object_name object.public)).bytes;
}

abbrev pub reply : WorldState → ℕ → Digest32 → Reply
reply world key digest = reply_of_object world key (λ object. VerifySignature (ticket_of world digest object))
