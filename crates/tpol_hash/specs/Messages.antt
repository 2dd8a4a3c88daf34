-- What a contract sees of a hasher and of a keyed one: the message that it holds.
use Rattle.std.specs.Prelude.{ℕ, List, ◌++◌}
use Rattle.sha2.specs.Hashers.{Holds256}
use Rattle.tpol_hash.specs.declared.hasher.Hasher.{Hasher}
use Rattle.tpol_hash.specs.declared.mac.Mac.{Mac}
use Rattle.tpol_hash.specs.Hmac.{padded_key}

-- the hasher holds this message
abbrev pub Holds : Hasher → List ℕ → Type 0
Holds hasher message = Holds256 hasher.sha message

-- the keyed hasher has this key and holds this message
abbrev pub HoldsUnder : Mac → List ℕ → List ℕ → Type 0
HoldsUnder mac key message =
    (Holds mac.inner (padded_key key 0x36 ++ message)) × (Holds mac.outer (padded_key key 0x5c))
