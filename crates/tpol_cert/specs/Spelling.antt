-- How a certificate is written.
use Rattle.std.specs.Prelude.{ℕ, ◌<◌, ◌^◌, ⊤, List, [], ◌∷◌, ◌++◌, length}
use Rattle.std.specs.Int.{to_be_bytes, w16, w32}
use Rattle.std.specs.List.{flat_map, AllByRecursion}
use Rattle.tpol_base.specs.declared.digest.Digest32.{Digest32}
use Rattle.tpol_digest.specs.Update.{joined}
use Rattle.tpol_cert.specs.declared.certificate.Certificate.{Certificate}
use Rattle.tpol_cert.specs.declared.choice.Choice.{Choice}
use Rattle.tpol_cert.specs.declared.choice.Choice.TheVariants.{Branch, Document, Outside}

-- the kind of a choice in one byte, and its number in four, the high one first
abbrev pub spelled_choice : Choice → List ℕ
spelled_choice (Branch number) = 1 ∷ to_be_bytes w32 number
spelled_choice (Document number) = 2 ∷ to_be_bytes w32 number
spelled_choice Outside = 3 ∷ []

-- `FPC1`
abbrev pub magic : List ℕ
magic = 0x46 ∷ 0x50 ∷ 0x43 ∷ 0x31 ∷ []

-- a number of choices in two bytes, and the choices
abbrev pub spelled_choices : List Choice → List ℕ
spelled_choices choices = to_be_bytes w16 (length choices) ++ flat_map spelled_choice choices

-- a number of digests in two bytes, and the digests, 32 bytes each
abbrev pub spelled_digests : List Digest32 → List ℕ
spelled_digests digests = to_be_bytes w16 (length digests) ++ joined digests

-- `FPC1`, the choices, the digests
abbrev pub spelled : Certificate → List ℕ
spelled c = magic ++ spelled_choices c.steps ++ spelled_digests c.digests

abbrev pub ChoiceFits : Choice → Type 0
ChoiceFits (Branch number) = number < 2 ^ 32
ChoiceFits (Document number) = number < 2 ^ 32
ChoiceFits Outside = ⊤

-- what has a spelling of its own
pub record Fits (c : Certificate) : Type 0 where
  pub steps : length c.steps < 2 ^ 16
  pub numbers : AllByRecursion ChoiceFits c.steps
  pub digests : length c.digests < 2 ^ 16
