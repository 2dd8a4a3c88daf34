-- What holds of the entries of a table by handle.
use Rattle.std.specs.Prelude.{◌≡◌, ℕ, List, All}
use Rattle.tpol_name.specs.declared.entries.IndexEntry.{IndexEntry}
use Rattle.tpm_nv.specs.Contents.{HasContent}

-- an index stands under its handle and has the content of its size
pub record IsUnderHandle (pair : ℕ × IndexEntry) : Type 0 where
  pub handle : pair.0 ≡ pair.1.public.index
  pub content : HasContent pair.1

-- each index does
abbrev pub IsByHandle : List (ℕ × IndexEntry) → Type 0
IsByHandle entries = All IsUnderHandle entries
