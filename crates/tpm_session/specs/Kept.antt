-- What contracts see of a session, and what it keeps beside that.
use Rattle.std.specs.Prelude.{◌≡◌, ℕ, ◌≤◌, ◌^◌, ◌++◌, List, [], ◌∷◌, Option, Some, None, is_some, if◌then◌else◌}
use Rattle.tpol_base.specs.declared.digest.Digest32.{Digest32}
use Rattle.tpol_tree.specs.declared.facts.Fact.{Fact}
use Rattle.tpol_tree.specs.declared.path.Move.{Move}
use Rattle.tpol_digest.specs.Sound.{IsSound}
use Rattle.tpm_bindings.specs.Agreement.{Agree}
use Rattle.tpm_bindings.specs.Facts.{moves_of, has_pcr, is_pcr}
use Rattle.tpm_bindings.specs.Merged.{merged}
use Rattle.tpm_bindings.specs.State.{SessionState}
use Rattle.tpm_bindings.specs.declared.bindings.Bindings.{Bindings}
use Rattle.tpm_rules.specs.Session.{policy_digest_of}

-- a session as contracts see it: its handle, and what rules read
pub record SessionView : Type 0 where
  pub handle : ℕ
  pub state : SessionState

-- what rules read of a session
abbrev pub state_of_view : SessionView → SessionState
state_of_view session = session.state

-- a session's state
abbrev pub state_of : ℕ → Digest32 → List Fact → Option ℕ → SessionState
state_of start nonce facts counter = record { start = start; nonce = nonce; facts = facts; counter = counter }

-- what holds of every session: each OR and approval among its facts met the digest before it, its facts
-- agree, the counter is there exactly where a PolicyPCR is, and it started at a time up to 2 ^ 63, so that every
-- deadline stays below 2 ^ 64
pub record IsSession (state : SessionState) : Type 0 where
  pub sound : IsSound (moves_of state.facts)
  pub agree : Agree (moves_of state.facts)
  pub counted : is_some state.counter ≡ has_pcr state.facts
  pub early : state.start ≤ 2 ^ 63

-- the same with what a session keeps beside its state: the running digest and the merged bindings
pub record IsKept (state : SessionState) (digest : Digest32) (bindings : Bindings) : Type 0 where
  pub holds : IsSession state
  pub digests : digest ≡ policy_digest_of state
  pub binds : bindings ≡ merged state.facts

-- the counter that is kept after this act, at the PCR counter `now`: the one that the first PolicyPCR found
abbrev pub counter_after : Option ℕ → Move → ℕ → Option ℕ
counter_after (Some first) act now = Some first
counter_after None act now = if is_pcr act then Some now else None

-- the session with one more fact
abbrev pub with_fact : SessionState → Fact → ℕ → SessionState
with_fact state fact counter =
    record state { facts = state.facts ++ fact ∷ []; counter = counter_after state.counter fact.act counter }

-- the session without facts, from the same time and with the same nonce
abbrev pub without_facts : SessionState → SessionState
without_facts state = record state { facts = []; counter = None }

-- the same with a new nonce
abbrev pub with_nonce : SessionState → Digest32 → SessionState
with_nonce state nonce = record (without_facts state) { nonce = nonce }
