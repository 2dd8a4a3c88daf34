-- What a client may use: authorization values and HMAC keys, by the handle of the entity.
use Rattle.std.specs.Prelude.{◌≤◌, ◌==◌, ◌&&◌, ℕ, Bool, List, [], Option, is_some, option_map, find, unwrap_or, nat_eq, map, length, All, if◌then◌else◌}
use Rattle.std.specs.List.{IsDistinct}
use Rattle.tpol_base.specs.Attributes.{has_attribute, nv_authread}
use Rattle.tpol_base.specs.Handle.{rh_owner}
use Rattle.tpol_name.specs.Setups.{IsAuthValue}
use Rattle.tpol_goal.specs.declared.grants.Grants.{Grants}

-- the value of the first line with this handle
abbrev pub granted : List (ℕ × List ℕ) → ℕ → Option (List ℕ)
granted values handle = option_map (λ value. value.1) (find (λ value. value.0 == handle) values)

-- whether there is such a line; its value may be empty
abbrev pub is_granted : List (ℕ × List ℕ) → ℕ → Bool
is_granted values handle = is_some (granted values handle)

-- an authorization value that is not granted is empty
abbrev pub secret_of : List (ℕ × List ℕ) → ℕ → List ℕ
secret_of values handle = unwrap_or (granted values handle) []

-- what authorizes the reading of an index by password: the index itself where it has AUTHREAD and a value is
-- granted for it, else the owner
abbrev pub authority : Grants → ℕ → ℕ → ℕ
authority grants index attributes =
    if has_attribute attributes nv_authread && is_granted grants.secrets index then index else rh_owner

-- grants whose values fit into commands; no handle stands twice in a list
pub record IsGrants (grants : Grants) : Type 0 where
  pub secret_handles : IsDistinct nat_eq (map (λ value. value.0) grants.secrets)
  pub key_handles : IsDistinct nat_eq (map (λ value. value.0) grants.keys)
  pub secrets : All (λ value. IsAuthValue value.1) grants.secrets
  pub keys : All (λ value. length value.1 ≤ 128) grants.keys
