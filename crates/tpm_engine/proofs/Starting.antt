-- A session that starts: its handle is read again from the reply, and its slot had nothing.
use Rattle.std.proofs.Common.{◌≡◌, ℕ, ◌^◌, ◌<◌, ◌&&◌, Bool, not, true, false, List, [], Option, None, Some, is_some, nat_eq, refl, ap, sym, ◌∙◌, arith}
use Rattle.std.specs.Option.{option_and_then, option_map, option_map_or}
use Rattle.std.proofs.lemmas.Bool.{false≢true}
use Rattle.std.proofs.lemmas.Bool.Decides.{nat_tests}
use Rattle.std.proofs.lemmas.Option.{none-some, same_Some}
use Rattle.tpol_base.specs.declared.command_code.CommandCode.TheVariants as codes
use Rattle.tpol_base.specs.declared.digest.Digest32.{Digest32}
use Rattle.tpol_base.specs.CommandCode.{number_of_code}
use Rattle.tpol_base.specs.Handle.{is_policy_session}
use Rattle.tpol_wire.specs.declared.auth_area.ReplyAuth.{ReplyAuth}
use Rattle.tpol_wire.specs.declared.reply.Reply.{Reply}
use Rattle.tpol_wire.specs.declared.reply.Reply.TheVariants as replies
use Rattle.tpol_wire.specs.Commands.{ValuesFit}
use Rattle.tpol_fields.specs.Kinds.{Fits}
use Rattle.tpol_wire.specs.Replies.{FitsReply, spell_reply}
use Rattle.tpol_wire.specs.ReplyReading.{reply_reading}
use Rattle.tpol_wire.proofs.ReplyLaws.{reply_read}
use Rattle.tpm_bindings.specs.State.{SessionState}
use Rattle.tpm_context.specs.Saved.{SavedState}
use Rattle.tpm_session.specs.Kept.{state_of}
use Rattle.tpm_session.specs.Slots.{bit_of, bits_of, content_at, handle_of_slot, in_slot, is_free, slot_count, with_state}
use Rattle.tpm_session.proofs.Bits.{bit_at-bits, content-handle}
use Rattle.tpm_session.proofs.Least.{least-is}
use Rattle.tpm_world.specs.Hashes.{nonce_of_event}
use Rattle.tpm_engine.specs.Deeds.{Deed, Idle, Starts, after_deed, started_by, started_session}
use Rattle.tpm_engine.specs.SessionCommands.{free_slot, started_reply}
use Rattle.tpm_engine.specs.Tables.{TableState}
use Rattle.tpm_engine.proofs.Slotted.{emptied-same, tables_of}

-- ---- the reply

started-fits : (slot : ℕ) (nonce : Digest32) → slot < 64 → FitsReply (replies.StartAuthSession (handle_of_slot slot) nonce) None
unfolding ValuesFit Fits
started-fits slot nonce within =
    let low : handle_of_slot slot < 2 ^ 32 = omega arith in
    let kind : is_policy_session (handle_of_slot slot) ≡ true = grind (arith, nat_tests) in
    (((low, kind), (tt, tt)), refl)

started-read : (slot : ℕ) (nonce : Digest32) → slot < 64
    → started_by (spell_reply (replies.StartAuthSession (handle_of_slot slot) nonce) None) ≡ Starts (handle_of_slot slot)
started-read slot nonce within =
    let read : reply_reading (number_of_code codes.StartAuthSession) (spell_reply (replies.StartAuthSession (handle_of_slot slot) nonce) None) ≡ Some (replies.StartAuthSession (handle_of_slot slot) nonce, None) =
    reply_read (number_of_code codes.StartAuthSession) _ (replies.StartAuthSession (handle_of_slot slot) nonce) None
    (record { whole = refl; fits = started-fits slot nonce within; answers = refl }) in
    ap (λ (found : Option (Reply × Option ReplyAuth)). option_map_or Starts (option_and_then (λ f. started_session f.0) found) Idle) read

-- ---- the slot

and-true : (a b : Bool) → (a && b) ≡ true → b ≡ true
and-true true b h = h
and-true false b h = absurd (false≢true h)

no-bit : {A : Type 0} (o : Option A) → nat_eq (bit_of o) 0 ≡ true → o ≡ None
no-bit None h = refl
no-bit (Some x) h = absurd (false≢true h)

pub free-unsaved : (live : List (Option SessionState)) (saved : List (Option SavedState)) (slot : ℕ) → is_free live (bits_of saved) slot ≡ true → content_at saved (handle_of_slot slot) ≡ None
free-unsaved live saved slot free =
    content-handle saved slot
    ∙ no-bit (in_slot saved slot) (ap (λ n. nat_eq n 0) (sym (bit_at-bits saved slot)) ∙ and-true (not (is_some (in_slot live slot))) _ free)

-- ---- the tables

pub start-tables : (tables : TableState) (number handle : ℕ) (sessions : List (Option SessionState))
    → option_map handle_of_slot (free_slot tables) ≡ Some handle
    → sessions ≡ with_state tables.sessions handle (Some (state_of tables.world.time (nonce_of_event tables.world.seed number) [] None))
    → tables_of tables.world sessions tables.saved ≡ after_deed number (started_by (spell_reply (started_reply tables number) None)) tables
start-tables tables number handle sessions free started = at (free_slot tables) refl
  where
    nonce : Digest32
    nonce = nonce_of_event tables.world.seed number

    one : (slot : ℕ) → free_slot tables ≡ Some slot
        → tables_of tables.world sessions tables.saved ≡ after_deed number (started_by (spell_reply (started_reply tables number) None)) tables
    one slot is =
        let least = least-is (is_free tables.sessions (bits_of tables.saved)) slot_count slot is in
        let here : handle ≡ handle_of_slot slot = same_Some _ _ (sym free ∙ ap (option_map handle_of_slot) is) in
        let state : Option SessionState = Some (state_of tables.world.time nonce [] None) in
        ap (λ s. tables_of tables.world s tables.saved) (started ∙ ap (λ h. with_state tables.sessions h state) here)
        ∙ (ap (tables_of tables.world (with_state tables.sessions (handle_of_slot slot) state))
        (sym (emptied-same tables.saved (handle_of_slot slot) (free-unsaved tables.sessions tables.saved slot least.passes)))
        ∙ sym (ap (λ (o : Option ℕ). after_deed number (started_by (spell_reply (replies.StartAuthSession (option_map_or handle_of_slot o 0) nonce) None)) tables) is
        ∙ ap (λ (d : Deed). after_deed number d tables) (started-read slot nonce least.within)))

    at : (o : Option ℕ) → free_slot tables ≡ o → tables_of tables.world sessions tables.saved ≡ after_deed number (started_by (spell_reply (started_reply tables number) None)) tables
    at None e = absurd (none-some handle (ap (option_map handle_of_slot) (sym e) ∙ free))
    at (Some slot) e = one slot e
