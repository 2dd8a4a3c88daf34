-- A text in front of another, through a function on each item.
use Rattle.std.proofs.Common.{◌≡◌, ℕ, ◌≤◌, List, ◌++◌, length, take, drop, sym, ap, ◌∙◌, arith}
use Rattle.std.specs.Prelude.{map}
use Rattle.std.proofs.lemmas.List.{map-append, take-map, drop-map, length-map, length-append, take-append-drop}
use Rattle.std.proofs.Math.Seq.{drop-append_seam, take-append_seam}

-- equal parts make equal wholes
pub joined : (f : ℕ → ℕ) (text prefix word : List ℕ) → map f (take (length prefix) text) ≡ map f prefix
    → map f (drop (length prefix) text) ≡ map f word → map f text ≡ map f (prefix ++ word)
joined f text prefix word front back =
    ap (map f) (sym (take-append-drop (length prefix) text))
    ∙ map-append f (take (length prefix) text) (drop (length prefix) text)
    ∙ rw (front, back) (sym (map-append f prefix word))

-- equal wholes have equal parts
pub front_of_joined : (f : ℕ → ℕ) (text prefix word : List ℕ) → map f text ≡ map f (prefix ++ word)
    → map f (take (length prefix) text) ≡ map f prefix
front_of_joined f text prefix word same =
    sym (take-map f (length prefix) text) ∙ ap (take (length prefix)) same
    ∙ take-map f (length prefix) (prefix ++ word) ∙ ap (map f) (take-append_seam prefix word)

pub back_of_joined : (f : ℕ → ℕ) (text prefix word : List ℕ) → map f text ≡ map f (prefix ++ word)
    → map f (drop (length prefix) text) ≡ map f word
back_of_joined f text prefix word same =
    sym (drop-map f (length prefix) text) ∙ ap (drop (length prefix)) same
    ∙ drop-map f (length prefix) (prefix ++ word) ∙ ap (map f) (drop-append_seam prefix word)

-- a text in front of another is no longer than the whole
pub length_of_joined : (f : ℕ → ℕ) (text prefix word : List ℕ) → map f text ≡ map f (prefix ++ word)
    → length prefix ≤ length text
length_of_joined f text prefix word same =
    omega (arith, ap length same, length-map text f, length-map (prefix ++ word) f, length-append prefix word)
