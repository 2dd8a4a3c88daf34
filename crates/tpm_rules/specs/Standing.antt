-- What rules read of a policy session, kept beside its facts.
use Rattle.tpm_bindings.specs.Merged.{merged}
use Rattle.tpm_bindings.specs.State.{SessionState}
use Rattle.tpm_rules.specs.declared.standing.Standing.{Standing}
use Rattle.tpm_rules.specs.Session.{policy_digest_of}

-- the standing of a session
abbrev pub standing_of : SessionState → Standing
standing_of session = record {
  start = session.start;
  nonce = session.nonce;
  digest = policy_digest_of session;
  bindings = merged session.facts;
  counter = session.counter;
}
