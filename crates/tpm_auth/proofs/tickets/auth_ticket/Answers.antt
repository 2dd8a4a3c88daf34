use Rattle.tpm_auth.proofs.tickets.auth_ticket.Goals as goal

-- the pieces that were put, in order, are the message
pub returns : goal.returns
returns c =
    let proof = c.args.proof.now.bytes in
    let held = c.put_sized-3.ensures.longer proof _
    (c.put_sized-2.ensures.longer proof _
    (c.put_sized.ensures.longer proof _
    (c.put-3.ensures.longer proof _
    (c.put-2.ensures.longer proof _
    (c.put.ensures.longer proof _ c.new-mac.ensures.empty))))) in
    record {
      ticket = rw (c.to_be_bytes.ensures, c.to_be_bytes-2.ensures, c.to_be_bytes-3.ensures, c.as_slice.ensures, c.bytes.ensures) at (c.done.ensures.digest proof _ held);
    }
