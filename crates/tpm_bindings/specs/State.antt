-- What a policy session has, as rules read it.
use Rattle.std.specs.Prelude.{ℕ, List, Option}
use Rattle.tpol_base.specs.declared.digest.Digest32.{Digest32}
use Rattle.tpol_tree.specs.declared.facts.Fact.{Fact}

pub record SessionState : Type 0 where
  -- the time in milliseconds at its start
  pub start : ℕ
  -- nonceTPM
  pub nonce : Digest32
  pub facts : List Fact
  -- the PCR counter that the first PolicyPCR found
  pub counter : Option ℕ
