-- A first part of a line behind whole lines is a first part of the text.
use Rattle.std.proofs.Common.{◌≡◌, ℕ, ◌+◌, ◌<◌, List, [], ◌∷◌, ◌++◌, append-nil, length, get_or, take, drop, min, Option, Result, Ok, Err, MatchResult, sym, ap, ◌∙◌, subst, arith, suc}
use Rattle.std.proofs.lemmas.List.{take-append-drop, take-append-le, take_min}
use Rattle.std.proofs.Math.Seq.{drop-cons, take-append-add}
use Rattle.std.proofs.lemmas.Grind.{flat_map-append}
use Rattle.std.proofs.KnownBytes.{Appends-trans}
use Rattle.tpol_base.specs.Causes.{Grows, GrowsInPart}
use Rattle.tpol_steps.specs.Answer.{text_of}

-- the text is that of the lines before place i, the line there, and those behind
text_of-split : (lines : List (List ℕ)) (i : ℕ) (line : List ℕ) → i < length lines → line ≡ get_or lines i line → text_of lines ≡ text_of (take i lines) ++ (line ++ text_of (drop (suc i) lines))
text_of-split lines i line within at =
    let split : lines ≡ take i lines ++ (line ∷ drop (suc i) lines) =
    sym (take-append-drop i lines) ∙ ap (λ rest. take i lines ++ rest) (drop-cons lines i line within ∙ ap (λ l. l ∷ drop (suc i) lines) (sym at)) in
    ap text_of split ∙ flat_map-append (λ l. l) (take i lines) (line ∷ drop (suc i) lines)

-- a first part of what stands before, and then a first part of a line
take-split : (before line rest : List ℕ) (m : ℕ) → take (length before + min m (length line)) (before ++ (line ++ rest)) ≡ before ++ take m line
take-split before line rest m =
    take-append-add before (line ++ rest) (min m (length line))
    ∙ ap (λ l. before ++ l) (take-append-le (min m (length line)) line rest (omega arith) ∙ take_min m line)

-- the lines before place i are written, and a first part of the line there
pub GrowsInPart-line : (a b c : Option (List ℕ)) (lines : List (List ℕ)) (i : ℕ) (line : List ℕ) → i < length lines → line ≡ get_or lines i line → Grows a b (text_of (take i lines)) → GrowsInPart b c line → GrowsInPart a c (text_of lines)
GrowsInPart-line a b c lines i line within at whole part =
    let n : ℕ = length (text_of (take i lines)) + min part.0 (length line) in
    let front : text_of (take i lines) ++ take part.0 line ≡ take n (text_of lines) =
    sym (take-split (text_of (take i lines)) line (text_of (drop (suc i) lines)) part.0) ∙ ap (take n) (sym (text_of-split lines i line within at)) in
    (n, subst (λ (text : List ℕ). Grows a c text) front (Appends-trans a b c _ _ whole part.1))

-- a first part of a list is a first part of what begins with it
pub GrowsInPart-front : (a b : Option (List ℕ)) (head tail : List ℕ) → GrowsInPart a b head → GrowsInPart a b (head ++ tail)
GrowsInPart-front a b head tail part =
    let n : ℕ = min part.0 (length head) in
    let front : take part.0 head ≡ take n (head ++ tail) =
    sym (take-append-le n head tail (omega arith) ∙ take_min part.0 head) in
    (n, subst (λ (text : List ℕ). Grows a b text) front part.1)

-- a list is written, and then what stands behind it, or a first part of that
pub written-behind : {T E : Type 0} (result : Result T E) (a b c : Option (List ℕ)) (head tail : List ℕ) → Grows a b head → MatchResult result (λ value. Grows b c tail) (λ error. GrowsInPart b c tail) → MatchResult result (λ value. Grows a c (head ++ tail)) (λ error. GrowsInPart a c (head ++ tail))
written-behind (Ok value) a b c head tail whole more = Appends-trans a b c head tail whole more
written-behind (Err error) a b c head tail whole part =
    let n : ℕ = length head + min part.0 (length tail) in
    let front : head ++ take part.0 tail ≡ take n (head ++ tail) =
    sym (take-split head tail [] part.0) ∙ ap (λ l. take n (head ++ l)) (append-nil tail) in
    (n, subst (λ (text : List ℕ). Grows a c text) front (Appends-trans a b c _ _ whole part.1))
