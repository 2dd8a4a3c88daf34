-- The first break of moves.
use Rattle.std.proofs.Common.{◌≡◌, ◌∙◌, ap, sym, refl, subst, ℕ, suc, ◌+◌, List, [], ◌∷◌, ◌++◌, map, length, append_assoc, Option, Some, None, arith}
use Rattle.std.specs.Option.{option_map}
use Rattle.std.proofs.lemmas.List.{append-nil}
use Rattle.std.proofs.lemmas.Option.{none-some}
use Rattle.tpm_bindings.proofs.Agreeing.{agree-first}
use Rattle.tpm_bindings.proofs.Merging.{each_of-push}
use Rattle.tpm_bindings.specs.Agreement.{Agree, disagreement}
use Rattle.tpm_bindings.specs.declared.disagreement.Disagreement.{Disagreement}
use Rattle.tpm_bindings.specs.Facts.{code_in, cp_hash_in, in_assertion, locality_in, name_hash_in, parent_hash_in, written_in}
use Rattle.tpm_bindings.specs.Held.{each_of, listed}
use Rattle.tpol_lint.specs.Dead.{Break, first_break, first_break_behind, or_later}
use Rattle.tpol_lint.specs.Traces.{bare}
use Rattle.tpol_tree.specs.declared.closed.Assertion.{Assertion}
use Rattle.tpol_tree.specs.declared.path.Move.{Move}
use Rattle.tpol_tree.specs.declared.path.Move.TheVariants.{Assert, Or, Approve, ApproveNv}

-- ---- what a break says of the whole list

pub later_break : (before rest : List Move) (n : ℕ) (rule : Disagreement) → first_break_behind before rest ≡ Some (n, rule) → Agree (before ++ rest) → ⊥
later_break before [] n rule e agree = absurd cc
later_break before (act ∷ rest) n rule e agree =
    by (disagreement (before ++ act ∷ [])) refl e (λ k. later_break (before ++ act ∷ []) rest n rule k whole)
  where
    whole : Agree ((before ++ act ∷ []) ++ rest)
    whole = subst Agree (sym (append_assoc before (act ∷ []) rest)) agree

    by : (found : Option Disagreement) → disagreement (before ++ act ∷ []) ≡ found → or_later (length before + 1) found (first_break_behind (before ++ act ∷ []) rest) ≡ Some (n, rule)
        → (first_break_behind (before ++ act ∷ []) rest ≡ Some (n, rule) → ⊥) → ⊥
    by (Some other) broken k later = none-some other (sym (agree-first (before ++ act ∷ []) rest whole) ∙ broken)
    by None broken k later = later k

-- where no break is found, the moves agree
pub no_break : (before rest : List Move) → Agree before → first_break_behind before rest ≡ None → Agree (before ++ rest)
no_break before [] agree e = subst Agree (sym (append-nil before)) agree
no_break before (act ∷ rest) agree e =
    by (disagreement (before ++ act ∷ [])) refl e (λ here k. no_break (before ++ act ∷ []) rest here k)
  where
    by : (found : Option Disagreement) → disagreement (before ++ act ∷ []) ≡ found → or_later (length before + 1) found (first_break_behind (before ++ act ∷ []) rest) ≡ None
        → (Agree (before ++ act ∷ []) → first_break_behind (before ++ act ∷ []) rest ≡ None → Agree ((before ++ act ∷ []) ++ rest)) → Agree (before ++ act ∷ rest)
    by (Some other) broken k later = absurd (none-some (length before + 1, other) (sym k))
    by None agreed k later = subst Agree (append_assoc before (act ∷ []) rest) (later agreed k)

-- ---- with one more move

-- the first, if there is one, else the second
abbrev pub or_else : Option Break → Option Break → Option Break
or_else (Some found) other = Some found
or_else None other = other

-- what one more move breaks
abbrev pub last_break : List Move → Move → Option Break
last_break moves act = option_map (λ rule. (length moves + 1, rule)) (disagreement (moves ++ act ∷ []))

break_behind-push : (before rest : List Move) (act : Move) → first_break_behind before (rest ++ act ∷ []) ≡ or_else (first_break_behind before rest) (last_break (before ++ rest) act)
break_behind-push before [] act = by (disagreement (before ++ act ∷ [])) refl
  where
    by : (found : Option Disagreement) → disagreement (before ++ act ∷ []) ≡ found → or_later (length before + 1) (disagreement (before ++ act ∷ [])) None ≡ last_break (before ++ []) act
    by found e = ap (λ o. or_later (length before + 1) o None) e ∙ shown found ∙ ap (option_map (λ rule. (length before + 1, rule))) (sym e) ∙ ap (λ l. last_break l act) (sym (append-nil before))
      where
        shown : (o : Option Disagreement) → or_later (length before + 1) o None ≡ option_map (λ rule. (length before + 1, rule)) o
        shown None = refl
        shown (Some rule) = refl
break_behind-push before (x ∷ rest) act = by (disagreement (before ++ x ∷ [])) (break_behind-push (before ++ x ∷ []) rest act)
  where
    by : (found : Option Disagreement) → first_break_behind (before ++ x ∷ []) (rest ++ act ∷ []) ≡ or_else (first_break_behind (before ++ x ∷ []) rest) (last_break ((before ++ x ∷ []) ++ rest) act)
        → or_later (length before + 1) found (first_break_behind (before ++ x ∷ []) (rest ++ act ∷ [])) ≡ or_else (or_later (length before + 1) found (first_break_behind (before ++ x ∷ []) rest)) (last_break (before ++ x ∷ rest) act)
    by (Some rule) later = refl
    by None later = later ∙ ap (λ l. or_else (first_break_behind (before ++ x ∷ []) rest) (last_break l act)) (append_assoc before (x ∷ []) rest)

pub break-push : (moves : List Move) (act : Move) → first_break (moves ++ act ∷ []) ≡ or_else (first_break moves) (last_break moves act)
break-push moves act = break_behind-push [] moves act

-- ---- moves that bind the same

-- what moves say rule by rule
pub record SayTheSame (moves others : List Move) : Type 0 where
  pub codes : each_of (in_assertion code_in) moves ≡ each_of (in_assertion code_in) others
  pub localities : each_of (in_assertion locality_in) moves ≡ each_of (in_assertion locality_in) others
  pub cp_hashes : each_of (in_assertion cp_hash_in) moves ≡ each_of (in_assertion cp_hash_in) others
  pub name_hashes : each_of (in_assertion name_hash_in) moves ≡ each_of (in_assertion name_hash_in) others
  pub parents : each_of (in_assertion parent_hash_in) moves ≡ each_of (in_assertion parent_hash_in) others
  pub written : each_of (in_assertion written_in) moves ≡ each_of (in_assertion written_in) others

pub judged_alike : (moves others : List Move) → SayTheSame moves others → disagreement moves ≡ disagreement others
judged_alike moves others same =
    rw (same.codes, same.localities, same.cp_hashes, same.name_hashes, same.parents, same.written) refl

-- a move that is no assertion says nothing
or-nothing : {A : Type 0} (f : Assertion → Option A) (moves : List Move) → each_of (in_assertion f) (moves ++ Or [] ∷ []) ≡ each_of (in_assertion f) moves
or-nothing f moves = each_of-push (in_assertion f) moves (Or []) ∙ append-nil (each_of (in_assertion f) moves)

pub closing_agrees : (moves : List Move) → disagreement (moves ++ Or [] ∷ []) ≡ disagreement moves
closing_agrees moves = judged_alike (moves ++ Or [] ∷ []) moves (record {
  codes = or-nothing code_in moves;
  localities = or-nothing locality_in moves;
  cp_hashes = or-nothing cp_hash_in moves;
  name_hashes = or-nothing name_hash_in moves;
  parents = or-nothing parent_hash_in moves;
  written = or-nothing written_in moves;
})

-- so it breaks nothing
pub closing_breaks_nothing : (moves : List Move) → first_break (moves ++ Or [] ∷ []) ≡ first_break moves
closing_breaks_nothing moves = break-push moves (Or []) ∙ by (first_break moves) refl
  where
    by : (found : Option Break) → first_break moves ≡ found → or_else found (last_break moves (Or [])) ≡ found
    by (Some found) e = refl
    by None e = ap (option_map (λ rule. (length moves + 1, rule))) (closing_agrees moves ∙ no_break [] moves refl e)

-- ---- without digests

bare-same : {A : Type 0} (f : Assertion → Option A) (moves : List Move) → each_of (in_assertion f) (map bare moves) ≡ each_of (in_assertion f) moves
bare-same f [] = refl
bare-same f (Assert assertion ∷ moves) = ap (λ l. listed (f assertion) ++ l) (bare-same f moves)
bare-same f (Or digests ∷ moves) = bare-same f moves
bare-same f (Approve key policy_ref approved signature ∷ moves) = bare-same f moves
bare-same f (ApproveNv index approved ∷ moves) = bare-same f moves

bare_agrees : (moves : List Move) → disagreement (map bare moves) ≡ disagreement moves
bare_agrees moves = judged_alike (map bare moves) moves (record {
  codes = bare-same code_in moves;
  localities = bare-same locality_in moves;
  cp_hashes = bare-same cp_hash_in moves;
  name_hashes = bare-same name_hash_in moves;
  parents = bare-same parent_hash_in moves;
  written = bare-same written_in moves;
})

bare_behind : (done before rest : List Move) → length done ≡ length before → ((some : List Move) → disagreement (done ++ map bare some) ≡ disagreement (before ++ some)) → first_break_behind done (map bare rest) ≡ first_break_behind before rest
bare_behind done before [] long same = refl
bare_behind done before (act ∷ rest) long same =
    ap (λ o. or_later (length done + 1) o (first_break_behind (done ++ bare act ∷ []) (map bare rest))) (same (act ∷ []))
    ∙ ap (λ n. or_later (n + 1) (disagreement (before ++ act ∷ [])) (first_break_behind (done ++ bare act ∷ []) (map bare rest))) long
    ∙ ap (or_later (length before + 1) (disagreement (before ++ act ∷ []))) (bare_behind (done ++ bare act ∷ []) (before ++ act ∷ []) rest (longer done before (bare act) act long) (λ some. ap disagreement (append_assoc done (bare act ∷ []) (map bare some)) ∙ same (act ∷ some) ∙ ap disagreement (sym (append_assoc before (act ∷ []) some))))
  where
    longer : (xs ys : List Move) (x y : Move) → length xs ≡ length ys → length (xs ++ x ∷ []) ≡ length (ys ++ y ∷ [])
    longer [] [] x y h = refl
    longer [] (b ∷ ys) x y h = absurd (omega (arith, h))
    longer (a ∷ xs) [] x y h = absurd (omega (arith, h))
    longer (a ∷ xs) (b ∷ ys) x y h = ap suc (longer xs ys x y (omega (arith, h)))

pub bare_breaks : (moves : List Move) → first_break (map bare moves) ≡ first_break moves
bare_breaks moves = bare_behind [] [] moves refl bare_agrees
