use Rattle.std.proofs.Common.{◌++◌, sym, ap, ◌∙◌, append_assoc, length}
use Rattle.std.specs.Int.{to_be_bytes, w16}
use Rattle.std.proofs.lemmas.Result.{on_ok_weaker}
use Rattle.tpol_digest.specs.Digest.{zero_digest}
use Rattle.tpol_digest.specs.Update.{joined}
use Rattle.tpol_cert.specs.Certificates.{digests_along}
use Rattle.tpol_cert.proofs.Along.{length-digests_along}
use Rattle.tpol_cert.proofs.certifying.write_digests.Goals as goal

pub returns : goal.returns
returns c =
    let moves = c.args.moves.now in
    let along = digests_along zero_digest moves in
    let wrote = c.in_ok-extend_from_slice.ensures.ok ∙ ap (λ l. c.args.bytes.now ++ l) c.to_be_bytes.ensures ∙ ap (λ n. c.args.bytes.now ++ to_be_bytes w16 n) (sym (length-digests_along zero_digest moves)) in
    on_ok_weaker c.write_along.result
    (λ e. e ∙ ap (λ d. c.extend_from_slice.new.self ++ joined (digests_along d moves)) c.zero_digest.ensures ∙ ap (λ l. l ++ joined along) wrote ∙ append_assoc c.args.bytes.now (to_be_bytes w16 (length along)) (joined along))
    c.write_along.ensures
