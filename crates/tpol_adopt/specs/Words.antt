-- Texts that are compared as they stand, case and all.
use Rattle.std.specs.Prelude.{ℕ, Bool, false, List, [], ◌∷◌, Option, Some, None, is_some, option_and_then, if◌then◌else◌}
use Rattle.std.specs.Str.{bytes_eq}
use Rattle.serde_json.specs.Data.{Data}
use Rattle.serde_json.specs.Find.{get, as_str}

-- what the first of these words that the text is stands for
unfoldable pub meaning_of_word : {A : Type 0} → List (List ℕ × A) → List ℕ → Option A
meaning_of_word [] text = None
meaning_of_word (word ∷ words) text = if bytes_eq word.0 text then Some word.1 else meaning_of_word words text

abbrev pub is_word : List ℕ → Option (List ℕ) → Bool
is_word word None = false
is_word word (Some text) = bytes_eq text word

-- whether the object has a member of that name, whatever it says
abbrev pub has : List ℕ → Data → Bool
has name d = is_some (get name d)

-- whether the object has a member of that name that is this text
abbrev pub says : List ℕ → List ℕ → Data → Bool
says name word d = is_word word (option_and_then as_str (get name d))
