use Rattle.std.proofs.Common.{rules, ◌≡◌, ◌++◌, ◌∷◌, [], ap, ◌∙◌, codes, decimal}
use Rattle.std.proofs.lemmas.Result.{on_ok_weaker}
use Rattle.hex.specs.Hex.{encode_lower}
use Rattle.tpol_lines.proofs.CommandLines.{before_reply, piece_before}
use Rattle.tpol_lines.specs.Events.{class_text, command_line}
use Rattle.tpol_lines.specs.Hex.{code_of_buffer}
use Rattle.tpol_lines.specs.Lines.{line_of}
use Rattle.tpol_lines.proofs.events.push_command_line.Goals as goal

pub returns-clause-ok : goal.returns-clause-ok
returns-clause-ok c =
    let client = decimal c.args.client in
    let locality = decimal c.args.locality in
    let code = code_of_buffer c.args.buffer.now in
    let rc = code_of_buffer c.args.reply.now in
    let class = class_text c.args.outcome.now in
    let digits = encode_lower c.args.reply.now in
    let number : c.as_bytes.result.now ≡ decimal c.args.event = search rules in
    let piece : c.as_slice.result.now ≡ piece_before client locality code rc class =
    c.as_slice.ensures ∙ c.prepend-6.ensures.word ∙ ap (λ l. codes " client " ++ l) (c.prepend_decimal-2.ensures.digits
    ∙ ap (λ l. client ++ l) (c.prepend-5.ensures.word ∙ ap (λ l. codes " locality " ++ l) (c.prepend_decimal.ensures.digits
    ∙ ap (λ n. decimal n ++ c.prepend-4.new.self) c.from.ensures
    ∙ ap (λ l. locality ++ l) (c.prepend-4.ensures.word ∙ ap (λ l. codes " code " ++ l) (c.prepend_code_of_buffer-2.ensures.code
    ∙ ap (λ l. code ++ l) (c.prepend-3.ensures.word ∙ ap (λ l. codes " rc " ++ l) (c.prepend_code_of_buffer.ensures.code
    ∙ ap (λ l. rc ++ l) (c.prepend-2.ensures.word ∙ ap (λ l. codes " " ++ l) (c.prepend_class.ensures.class
    ∙ ap (λ l. class ++ l) (c.prepend.ensures.word ∙ ap (λ l. codes " reply " ++ l) c.new-piece.ensures)))))))))) in
    let same : c.as_bytes.result.now ++ (c.as_slice.result.now ++ digits) ≡ command_line c.args.event c.args.client c.args.locality c.args.buffer.now c.args.reply.now c.args.outcome.now =
    ap (λ l. l ++ (c.as_slice.result.now ++ digits)) number
    ∙ ap (λ l. decimal c.args.event ++ (l ++ digits)) piece
    ∙ ap (λ l. decimal c.args.event ++ l) (before_reply client locality code rc class digits) in
    on_ok_weaker c.push_numbered.result (λ told. told ∙ ap (λ l. c.args.lines.now ++ line_of l ∷ []) same) c.push_numbered.ensures.ok
