-- What a policy command leaves of a session: one more fact where its rule holds, else the session as it was.
use Rattle.std.specs.Prelude.{◌≡◌, ℕ, Option, Some, None}
use Rattle.tpol_tree.specs.declared.facts.Fact.{Fact}
use Rattle.tpol_tree.specs.declared.path.Move.{Move}
use Rattle.tpm_bindings.specs.Facts.{in_assertion, code_in, locality_in, cp_hash_in, name_hash_in, parent_hash_in, written_in}
use Rattle.tpm_session.specs.Kept.{SessionView, with_fact}

-- the session with one more fact; the PCR counter is kept where it is that of the first PolicyPCR
abbrev pub with_one_more : SessionView → Fact → ℕ → SessionView
with_one_more session fact counter = record session { state = with_fact session.state fact counter }

abbrev pub asserted : Option ℕ → SessionView → Fact → ℕ → SessionView
asserted (Some code) session fact counter = session
asserted None session fact counter = with_one_more session fact counter

-- a move that sets no command code, no set of localities, no digest and no state
pub record IsUnbound (act : Move) : Type 0 where
  pub code : in_assertion code_in act ≡ None
  pub localities : in_assertion locality_in act ≡ None
  pub cp_hash : in_assertion cp_hash_in act ≡ None
  pub name_hash : in_assertion name_hash_in act ≡ None
  pub parent_hash : in_assertion parent_hash_in act ≡ None
  pub written : in_assertion written_in act ≡ None
