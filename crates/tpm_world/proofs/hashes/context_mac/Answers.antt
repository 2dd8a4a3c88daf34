use Rattle.tpm_world.specs.Hashes.{context_mac}
use Rattle.tpm_world.proofs.hashes.context_mac.Goals as goal

-- the pieces that were put, in order, are the message
pub returns : goal.returns
unfolding context_mac
returns c =
    let proof = c.args.proof.now.bytes in
    let held = c.put-3.ensures.longer proof _
    (c.put-2.ensures.longer proof _
    (c.put.ensures.longer proof _ c.new-mac.ensures.empty)) in
    record {
      mac = rw (c.to_be_bytes.ensures, c.to_be_bytes-2.ensures) at (c.done.ensures.digest proof _ held);
    }
