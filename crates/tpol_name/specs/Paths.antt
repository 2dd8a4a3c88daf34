-- When two paths of the key store name one entity.
use Rattle.std.specs.Prelude.{ℕ, Bool, List, ◌==◌, nat_eq, drop, codes, if◌then◌else◌}
use Rattle.std.specs.List.{starts_with, after_first}
use Rattle.std.specs.Str.{bytes_eq}

-- without one slash in front
abbrev pub without_slash : List ℕ → List ℕ
without_slash path = if starts_with nat_eq path (codes "/") then drop 1 path else path

-- without its first component and the slash behind it, where that component begins with `P_`
abbrev pub without_profile : List ℕ → List ℕ
without_profile path =
    if starts_with nat_eq path (codes "P_") then after_first (λ c. c == 47) path else path

-- what a path is compared by: the path without a slash in front, and then without the name of a profile
abbrev pub path_key : List ℕ → List ℕ
path_key path = without_profile (without_slash path)

-- whether two paths are compared by the same
abbrev pub is_same_path : List ℕ → List ℕ → Bool
is_same_path a b = bytes_eq (path_key a) (path_key b)
