-- The response code of a reply is 0 exactly where the command was carried out.
use Rattle.std.proofs.Common.{◌≡◌, ◌↔◌, ◌<◌, ◌^◌, ℕ, ◌∙◌, true, false, List, Option, Some, None, Result, Ok, Err, refl, ap, sym}
use Rattle.std.specs.Prelude.{IfErr, replicate}
use Rattle.std.specs.Int.{from_be_bytes, to_be_bytes, w32}
use Rattle.std.specs.Option.{option_map, option_map_or}
use Rattle.std.proofs.lemmas.Bool.{false≢true}
use Rattle.std.proofs.lemmas.Nat.{from_be_bytes-to_be_bytes_4}
use Rattle.std.proofs.lemmas.Option.{none-some}
use Rattle.tpol_name.specs.declared.setup.Setup.{Setup}
use Rattle.tpol_name.specs.declared.entries.IndexEntry.{IndexEntry}
use Rattle.tpol_name.specs.declared.entries.ObjectEntry.{ObjectEntry}
use Rattle.tpol_wire.specs.declared.auth_area.ReplyAuth.{ReplyAuth}
use Rattle.tpol_wire.specs.declared.command.Command.{Command}
use Rattle.tpol_wire.specs.declared.command.Command.TheVariants as commands
use Rattle.tpol_wire.specs.declared.reply.Reply.{Reply}
use Rattle.tpol_wire.specs.declared.reply.Reply.TheVariants as replies
use Rattle.tpol_wire.specs.Reading.{reading}
use Rattle.tpol_wire.specs.Replies.{spell_reply}
use Rattle.tpm_engine.specs.declared.event.Event.{Event}
use Rattle.tpm_engine.specs.declared.stop.Stop.{Stop}
use Rattle.tpm_engine.specs.Answers.{answer, answer_to_reading, answer_unless, early_stop, first_stop, own_rule, reply_to, stopped, succeeding}
use Rattle.tpm_engine.specs.Authorization.{reply_auth}
use Rattle.tpm_engine.specs.Events.{Answered, is_success}
use Rattle.tpm_engine.specs.Legal.{answer_to}
use Rattle.tpm_engine.specs.Stops.{refuses}
use Rattle.tpm_engine.specs.Tables.{TableState}
use Rattle.tpm_engine.specs.Views.{next_number, view_of}
use Rattle.tpm_engine.proofs.Serving.{Fails, first-fails, success-is}
use Rattle.tpm_engine.proofs.Stopping.{map-none, or_else-none}
use Rattle.tpm_nv.specs.Indices.{index_of}
use Rattle.tpm_world.specs.Objects.{object_of}
use Rattle.tpol_laws.specs.ReplyCodes.{IsSuccessReply}
use Rattle.tpol_laws.proofs.Codes.{Coded, IsCode, first-coded, rules-coded}
use Rattle.tpol_laws.proofs.Heard.{IsAcceptance}
use Rattle.tpol_laws.proofs.WireCodes.{reading-code}

-- ---- bytes

zero-code : (n : ℕ) → n < 2 ^ 32 → to_be_bytes w32 n ≡ replicate 4 0 → n ≡ 0
zero-code n small zeros = sym (from_be_bytes-to_be_bytes_4 n small) ∙ ap (from_be_bytes w32) zeros

refusal-code : (n : ℕ) (auth : Option ReplyAuth) → IsCode n → IsSuccessReply (spell_reply (replies.Refused (record { code = n })) auth) → ⊥
refusal-code n auth is zeros = is.fails (zero-code n is.fits zeros)

accepted-code : (reply : Reply) (auth : Option ReplyAuth) → IsAcceptance reply → IsSuccessReply (spell_reply reply auth)
accepted-code (replies.Refused rc) auth accepts = absurd accepts
accepted-code reply auth accepts = refl

-- ---- what is carried out is not refused

through : {A : Type 0} (rule : A → Option ℕ) (reply : A → Reply) (found : Option A) (missing : ℕ) (refused : Reply) → ((a : A) → IsAcceptance (reply a)) → option_map_or rule found (Some missing) ≡ None
    → IsAcceptance (option_map_or reply found refused)
through rule reply None missing refused each none = absurd (none-some missing (sym none))
through rule reply (Some a) missing refused each none = each a

accepts : (tables : TableState) (number : ℕ) (command : Command) → own_rule tables command ≡ None → IsAcceptance (reply_to tables number command)
accepts tables number (commands.VerifySignature key digest signature) none = through {A = ObjectEntry} _ _ (object_of key tables.world.objects) _ _ (λ o. tt) none
accepts tables number (commands.Unseal object auth) none = through {A = ObjectEntry} _ _ (object_of object tables.world.objects) _ _ (λ o. tt) none
accepts tables number (commands.Hmac key auth buffer hash) none = through {A = ObjectEntry} _ _ (object_of key tables.world.objects) _ _ (λ o. tt) none
accepts tables number (commands.NvRead authority index auth size offset) none = through {A = IndexEntry} _ _ (index_of index tables.world.indices) _ _ (λ o. tt) none
accepts tables number (commands.Duplicate object parent auth) none = through {A = ObjectEntry} _ _ (object_of object tables.world.objects) _ _ (λ o. tt) none
accepts tables number command none = tt

-- ---- exactly

abbrev TellsSuccess : Answered → Type 0
TellsSuccess answered = IsSuccessReply answered.reply ↔ (is_success answered.outcome ≡ true)

stopped-tells : (stop : Stop) → IsCode stop.code → is_success stop.outcome ≡ false → TellsSuccess (stopped stop)
stopped-tells stop is fails = (
  λ zeros. absurd (refusal-code stop.code None is zeros),
  λ success. absurd (false≢true (sym fails ∙ success)),
)

command-tells : (tables : TableState) (number locality : ℕ) (command : Command) (stop : Option Stop) → first_stop tables locality command ≡ stop → Coded stop → Fails stop
    → TellsSuccess (answer_unless stop (succeeding tables number command))
command-tells tables number locality command None none has fails =
    let own = map-none refuses (own_rule tables command) (or_else-none (early_stop tables locality command) (option_map refuses (own_rule tables command)) none).1 in (
      λ zeros. success-is command,
      λ success. accepted-code (reply_to tables number command) (reply_auth tables number command (reply_to tables number command)) (accepts tables number command own),
    )
command-tells tables number locality command (Some stop) is has fails = stopped-tells stop has fails

reading-tells : (tables : TableState) (number locality : ℕ) (found : Result Command ℕ) → IfErr found IsCode → TellsSuccess (answer_to_reading tables number locality found)
reading-tells tables number locality (Ok command) has =
    command-tells tables number locality command (first_stop tables locality command) refl (first-coded tables locality command (rules-coded tables command)) (first-fails tables locality command)
reading-tells tables number locality (Err n) has = stopped-tells (refuses n) has refl

pub reply-tells : (setup : Setup) (past : List Event) (locality : ℕ) (buffer : List ℕ)
    → IsSuccessReply (answer_to setup past locality buffer).reply ↔ (is_success (answer_to setup past locality buffer).outcome ≡ true)
unfolding answer
reply-tells setup past locality buffer = reading-tells (view_of setup past) (next_number past) locality (reading buffer) (reading-code buffer)
