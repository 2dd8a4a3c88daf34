-- Single values that FAPI spells otherwise than the profile.
use Rattle.std.specs.Prelude.{ℕ, Bool, false, ◌&&◌, List, codes, Option, Some, None, option_and_then, if◌then◌else◌}
use Rattle.serde_json.specs.Data.{Data, number, string, unsigned}
use Rattle.serde_json.specs.Find.{get, as_object, as_str}
use Rattle.tpol_adopt.specs.Codes.{other_codes}
use Rattle.tpol_adopt.specs.Flags.{bits_from}
use Rattle.tpol_adopt.specs.Words.{has, meaning_of_word, says}
use Rattle.tpol_adopt.specs.declared.edits.Edit.{Edit}
use Rattle.tpol_adopt.specs.declared.edits.Edit.TheVariants.{Number, Code, Signature}

abbrev pub number_or : Option ℕ → Data → Data
number_or None d = d
number_or (Some n) d = number (unsigned n)

abbrev pub text_or : Option (List ℕ) → Data → Data
text_or None d = d
text_or (Some text) d = string text

abbrev pub sha256_digest : Option Data → Option (List ℕ)
sha256_digest None = None
sha256_digest (Some d) =
    if says (codes "hashAlg") (codes "SHA256") d then option_and_then as_str (get (codes "digest") d) else None

-- the digest of `{"sigAlg": "HMAC", "signature": {"hashAlg": "SHA256", "digest": ..}}`
abbrev pub hmac_digest : Data → Option (List ℕ)
hmac_digest d =
    if says (codes "sigAlg") (codes "HMAC") d then sha256_digest (get (codes "signature") d) else None

-- A value in the profile's spelling: an object of flags as its number, the name of a command that the profile
-- lacks as its code, an HMAC's signature as its digest. What is none of these stays.
abbrev pub edited : Edit → Data → Data
edited (Number flags) d = number_or (option_and_then (bits_from flags 0) (as_object d)) d
edited Code d = number_or (option_and_then (meaning_of_word other_codes) (as_str d)) d
edited Signature d = text_or (hmac_digest d) d

abbrev pub is_sha256 : Option Data → Bool
is_sha256 None = false
is_sha256 (Some d) = says (codes "hashAlg") (codes "SHA256") d

abbrev pub scheme_in : Option Data → Option (List ℕ)
scheme_in None = None
scheme_in (Some d) =
    if says (codes "scheme") (codes "NULL") d then Some (codes "NULL")
    else if says (codes "scheme") (codes "HMAC") d && is_sha256 (get (codes "details") d) then Some (codes "HMAC")
    else None

-- The scheme of a key that has no `scheme`, by `parameters.scheme`: NULL, or HMAC with SHA-256.
abbrev pub inner_scheme : Data → Option (List ℕ)
inner_scheme d =
    if has (codes "scheme") d then None
    else scheme_in (option_and_then (get (codes "scheme")) (get (codes "parameters") d))
