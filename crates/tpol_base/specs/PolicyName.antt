-- The names of policies and scenes.
use Rattle.std.specs.Prelude.{ℕ, Bool, false, ◌&&◌, ◌||◌, ◌==◌, nat_eq, nat_le, List, [], ◌∷◌, length, drop, codes, not, if◌then◌else◌}
use Rattle.std.specs.List.{list_all, starts_with}
use Rattle.std.specs.Char.{is_ascii_alphanumeric}

-- a character of a name: A-Z a-z 0-9 _ - .
abbrev pub is_name_byte : ℕ → Bool
is_name_byte byte = is_ascii_alphanumeric byte || (byte == 95) || (byte == 45) || (byte == 46)

-- 1 to 64 characters of names, the first not a dot
abbrev pub is_policy_name : List ℕ → Bool
is_policy_name [] = false
is_policy_name (first ∷ rest) = not (first == 46) && nat_le (length (first ∷ rest)) 64 && list_all is_name_byte (first ∷ rest)

-- a name without `/policy/` in front
abbrev pub without_folder : List ℕ → List ℕ
without_folder name = if starts_with nat_eq name (codes "/policy/") then drop 8 name else name
