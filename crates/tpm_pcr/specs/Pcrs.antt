-- What becomes of PCRs, and the digest of a selection (TPM 2.0 Part 1, "PCR"; Part 3, TPM2_PCR_Extend and
-- TPM2_PolicyPCR).
use Rattle.std.specs.Prelude.{ℕ, ◌+◌, List, ◌++◌, filter, map, replicate, slice_get, slice_set, unwrap_or}
use Rattle.std.specs.List.{enumerate_from, flat_map}
use Rattle.tpol_base.specs.declared.digest.Digest32.{Digest32}
use Rattle.tpol_base.specs.Digest.{zero_digest}
use Rattle.tpol_base.specs.Pcr.{is_in_mask}
use Rattle.tpol_hash.specs.Sha256.{sha256_digest}
use Rattle.tpm_pcr.specs.Bank.{Bank}

-- the value of a PCR
abbrev pub value_of : List Digest32 → ℕ → Digest32
value_of values pcr = unwrap_or (slice_get values pcr) zero_digest

-- a value after an extend by a digest
abbrev pub extended_value : Digest32 → Digest32 → Digest32
extended_value value digest = sha256_digest (value.bytes ++ digest.bytes)

-- the PCRs after an extend of one of them
abbrev pub extended : Bank → ℕ → Digest32 → Bank
extended bank pcr digest = record {
  values = slice_set bank.values pcr (extended_value (value_of bank.values pcr) digest);
  counter = bank.counter + 1;
}

-- the PCRs after a TPM Reset
abbrev pub cleared : Bank
cleared = record { values = replicate 24 zero_digest; counter = 0 }

-- the values of the PCRs of a set, in rising order
abbrev pub selected : List Digest32 → ℕ → List Digest32
selected values mask = map (λ p. p.1) (filter (λ p. is_in_mask mask p.0) (enumerate_from 0 values))

-- the hash of their concatenation
unfoldable pub selection_digest : List Digest32 → ℕ → Digest32
selection_digest values mask = sha256_digest (flat_map (λ value. value.bytes) (selected values mask))
