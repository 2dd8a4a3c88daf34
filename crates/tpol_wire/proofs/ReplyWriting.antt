-- What is written of a reply that is served.
use Rattle.std.proofs.Common.{◌≡◌, ℕ, List, ◌++◌, length, drop, Option, Ok, ap, ◌∙◌}
use Rattle.std.proofs.lemmas.List.{drop_at}
use Rattle.tpol_wire.specs.declared.auth_area.ReplyAuth.{ReplyAuth}
use Rattle.tpol_base.specs.declared.command_code.CommandCode.{CommandCode}
use Rattle.tpol_wire.specs.Commands.{tag}
use Rattle.tpol_wire.specs.Replies.{Parts, Served, Refusal, answered_by, spell_fields, reply_body, spell_parts}
use Rattle.tpol_wire.specs.Rows.{row}
use Rattle.tpol_wire.specs.Spellings.{message_bytes}

served_layout : (parts : Parts) (auth : Option ReplyAuth) (command : CommandCode) (t : ℕ) (body : List ℕ)
    → Ok command ≡ answered_by parts → t ≡ tag (row command).is_authorized → body ≡ reply_body (spell_fields parts) auth → message_bytes t 0 body ≡ spell_parts parts auth
served_layout (Served code values) auth command t body answered tag-is body-is =
    let same : command ≡ code = cc in
    let tag-of-code : t ≡ tag (row code).is_authorized = tag-is ∙ ap (λ (k : CommandCode). tag (row k).is_authorized) same in
    ap (λ (k : ℕ). message_bytes k 0 body) tag-of-code ∙ ap (λ (b : List ℕ). message_bytes (tag (row code).is_authorized) 0 b) body-is
served_layout (Refusal rc) auth command t body answered tag-is body-is = absurd cc

-- a message with a reply's body behind its header is its spelling
pub served_written : (parts : Parts) (auth : Option ReplyAuth) (command : CommandCode) (t : ℕ) (header message bytes : List ℕ)
    → Ok command ≡ answered_by parts → t ≡ tag (row command).is_authorized
    → length header ≡ 10 → message ≡ header ++ reply_body (spell_fields parts) auth
    → bytes ≡ message_bytes t 0 (drop 10 message) → bytes ≡ spell_parts parts auth
served_written parts auth command t header message bytes answered tag-is header-long message-is written =
    let body-is : drop 10 message ≡ reply_body (spell_fields parts) auth = ap (λ (x : List ℕ). drop 10 x) message-is ∙ drop_at header (reply_body (spell_fields parts) auth) 10 header-long in
    written ∙ served_layout parts auth command t (drop 10 message) answered tag-is body-is
