-- What a contract sees of the PCRs.
use Rattle.std.specs.Prelude.{ℕ, List}
use Rattle.tpol_base.specs.declared.digest.Digest32.{Digest32}

-- the values of the SHA-256 bank, PCR 0 first, and the update counter
pub record Bank : Type 0 where
  pub values : List Digest32
  pub counter : ℕ
