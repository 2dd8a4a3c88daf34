-- Words of documents, which are compared without regard to ASCII case.
use Rattle.std.specs.Prelude.{ℕ, Bool, ◌||◌, List, [], ◌∷◌, ◌++◌, Option, Some, None, option_and_then, if◌then◌else◌}
use Rattle.std.specs.Str.{str_eq_ignore_ascii_case}
use Rattle.serde_json.specs.Data.{Data}
use Rattle.serde_json.specs.Find.{as_str}

-- the text is the word, in any case, with or without the prefix in front
abbrev pub same_word : List ℕ → List ℕ → List ℕ → Bool
same_word text prefix word =
    str_eq_ignore_ascii_case text word || str_eq_ignore_ascii_case text (prefix ++ word)

-- what the first of these words that the text is stands for
unfoldable pub find_word : {A : Type 0} → List ℕ → List (List ℕ × A) → List ℕ → Option A
find_word prefix [] text = None
find_word prefix (word ∷ words) text = if same_word text prefix word.0 then Some word.1 else find_word prefix words text

-- one of these words, in a text
abbrev pub word_in : {A : Type 0} → List ℕ → List (List ℕ × A) → Data → Option A
word_in prefix words d = option_and_then (find_word prefix words) (as_str d)
