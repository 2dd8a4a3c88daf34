-- The response code of a reply (TPM 2.0 Part 1, "Command/Response Structure").
use Rattle.std.specs.Prelude.{◌≡◌, ℕ, List, drop, replicate, take}

-- it stands in four bytes behind the tag and the size
abbrev pub response_code : List ℕ → List ℕ
response_code reply = take 4 (drop 6 reply)

-- TPM_RC_SUCCESS, which is 0
abbrev pub IsSuccessReply : List ℕ → Type 0
IsSuccessReply reply = response_code reply ≡ replicate 4 0
