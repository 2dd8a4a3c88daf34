-- Tables of ways as they are made: of no way, of the way without a move, of ways behind a move, of ways and
-- then others.
use Rattle.std.proofs.Common.{◌≡◌, ◌≢◌, ⊎_elim, ℕ, zero, suc, ◌+◌, ◌-◌, ◌<◌, ◌≤◌, min, Bool, true, false, List, [], ◌∷◌, ◌++◌, length, drop, get_or, replicate, set, map, Option, Some, None, refl, sym, ap, ◌∙◌, subst, arith, ◌&&◌, length-append}
use Rattle.std.specs.Prelude.{if◌then◌else◌}
use Rattle.std.specs.List.{AllByRecursion}
use Rattle.std.proofs.lemmas.Bool.{false≢true, cases_lt}
use Rattle.std.proofs.lemmas.Option.{none-some}
use Rattle.std.proofs.lemmas.List.{length-map, length-replicate, length-set, get_or-replicate, get_or-set_same, get_or-set_other, get_or_past}
use Rattle.tpol_tree.specs.declared.path.ApprovedDoc.{ApprovedDoc}
use Rattle.tpol_tree.specs.declared.path.Move.{Move}
use Rattle.tpol_tree.specs.declared.path.Path.{Path}
use Rattle.tpol_digest.specs.Paths.{empty_path, followed_by, path_of_move}
use Rattle.tpol_trace.specs.declared.asked.Asked.{Asked}
use Rattle.tpol_trace.specs.declared.ways.Ways.{Ways}
use Rattle.tpol_trace.specs.declared.window.Window.{Window}
use Rattle.tpol_trace.specs.Openings.{first_index}
use Rattle.tpol_trace.specs.Same.{are_same}
use Rattle.tpol_trace.specs.Tables.{Asks, AllAsk, goes_by, goes, AreInside, capped, IsTable, IsEverywhere, kept}
use Rattle.tpol_trace.specs.Windows.{IsIn}
use Rattle.tpol_trace.proofs.Firsts.{first_index-append, first_index-kept, first_index-map, capped-kept, capped-or}
use Rattle.tpol_trace.proofs.Steps.{same_at, or_later, kept_some, later_some, IsBehind, IsJoined, join_end}

-- a table of entries that are all alike
pub everywhere : (table : Ways) (n : ℕ) (way : Option ℕ) (number : ℕ) → table.count ≡ number → table.first.items ≡ replicate (n + 1) way → ((k first : ℕ) → way ≡ Some first → k < n + 1 → IsIn table.window k) → IsEverywhere table n way number
everywhere table n way number counted items places = record {
  count = counted;
  size = ap length items ∙ length-replicate (n + 1) way;
  first = λ k within. read k (omega arith);
  window = λ k first e. ⊎_elim (λ less. places k first (sym (read k less) ∙ e) less) (λ more. absurd (none-some first (sym (ap (λ (xs : List (Option ℕ)). get_or xs k None) items ∙ get_or_past (replicate (n + 1) way) k None (let l = length-replicate (n + 1) way in omega arith)) ∙ e))) (cases_lt k (n + 1));
}
  where
    read : (k : ℕ) → k < n + 1 → get_or table.first.items k None ≡ way
    read k less = ap (λ (xs : List (Option ℕ)). get_or xs k None) items ∙ get_or-replicate (n + 1) k way None less

module _ (approvals : List ApprovedDoc) (level : ℕ) (facts : List Move) where
  pub joined_table : (now before others after : Ways) (k number : ℕ) (ways more : List Path) → IsJoined now before others k → others.window.to ≤ k → number ≡ min (before.count + others.count) 65536 → after.first.items ≡ now.first.items → after.count ≡ number → length now.first.items ≡ length before.first.items → ((j : ℕ) → IsIn now.window j → IsIn after.window j) → ((j : ℕ) → IsIn others.window j → IsIn after.window j) → IsTable approvals level facts before ways → IsTable approvals level facts others more → IsTable approvals level facts after (ways ++ more)
  joined_table now before others after k number ways more joined end counted items is sized first second t u =
      let a = t.count in
      let b = u.count in
      let l = length-append ways more in
      record {
        count = is ∙ omega (arith, counted, a, b, l);
        size = ap length items ∙ sized ∙ t.size;
        first = λ i within.
            entry i
            ∙ ap (λ x. or_later x before.count (get_or others.first.items i None)) (t.first i within)
            ∙ ap (λ n. or_later (capped (first_index (goes approvals level facts i) ways)) n (get_or others.first.items i None)) a
            ∙ ap (or_later (capped (first_index (goes approvals level facts i) ways)) (min (length ways) 65536)) (u.first i within)
            ∙ sym (capped-or (first_index (goes approvals level facts i) ways) (first_index (goes approvals level facts i) more) (length ways))
            ∙ ap capped (sym (first_index-append (goes approvals level facts i) ways more));
        window = λ i way e. later_some (get_or before.first.items i None) before.count (get_or others.first.items i None) way (IsIn after.window i) (sym (entry i) ∙ e) (λ one h. first i (subst (λ w. IsIn w i) (sym joined.window) (t.window i one h))) (λ one h. second i (u.window i one h));
      }
    where
      entry : (i : ℕ) → get_or after.first.items i None ≡ or_later (get_or before.first.items i None) before.count (get_or others.first.items i None)
      entry i = ap (λ (xs : List (Option ℕ)). get_or xs i None) items ∙ join_end now before others k i u.window joined end

  -- no way
  pub none_table : (table : Ways) (n : ℕ) → n ≡ length facts → IsEverywhere table n None 0 → IsTable approvals level facts table []
  none_table table n e t = record {
    count = (let c = t.count in omega arith);
    size = t.size ∙ ap (λ m. m + 1) e;
    first = λ k within. t.first k (omega arith);
    window = t.window;
  }

  -- the way without a move
  nothing_left : (xs : List Move) (k : ℕ) → k < length xs → are_same [] (drop k xs) ≡ false
  nothing_left [] k h = absurd (omega arith)
  nothing_left (x ∷ xs) zero h = refl
  nothing_left (x ∷ xs) (suc k) h = nothing_left xs k (omega arith)

  all_left : (xs : List Move) → are_same [] (drop (length xs) xs) ≡ true
  all_left [] = refl
  all_left (x ∷ xs) = all_left xs

  first_of_one : (k : ℕ) (t : Bool) → are_same [] (drop k facts) ≡ t → first_index (goes approvals level facts k) (empty_path ∷ []) ≡ (if t then Some 0 else None)
  first_of_one k true e = ap (λ b. if b then Some 0 else None) e
  first_of_one k false e = ap (λ b. if b then Some 0 else None) e

  pub end_table : (table after : Ways) (n : ℕ) → n ≡ length facts → IsEverywhere table n None 1 → after.first.items ≡ set table.first.items n (Some 0) → after.count ≡ table.count → after.window.from ≡ n → after.window.to ≡ n + 1 → IsTable approvals level facts after (empty_path ∷ [])
  end_table table after n e t items number from to = record {
    count = number ∙ (let c = t.count in c ∙ omega arith);
    size = ap length items ∙ length-set table.first.items n (Some 0) ∙ t.size ∙ ap (λ m. m + 1) e;
    first = λ k within. read k ∙ ⊎_elim (λ less. before k less) (λ more. here k (omega arith)) (cases_lt k n);
    window = λ k way is. ⊎_elim (λ less. absurd (none-some way (sym (t.first k (omega arith)) ∙ other k (omega arith) way is))) (λ more. ⊎_elim (λ past. absurd (none-some way (sym (get_or_past after.first.items k None (let s = t.size in let l = ap length items in let m = length-set table.first.items n (Some 0) in omega arith)) ∙ is))) (λ not. (omega arith, omega arith)) (cases_lt n k)) (cases_lt k n);
  }
    where
      read : (k : ℕ) → get_or after.first.items k None ≡ get_or (set table.first.items n (Some 0)) k None
      read k = ap (λ (xs : List (Option ℕ)). get_or xs k None) items

      other : (k : ℕ) → k < n → (way : ℕ) → get_or after.first.items k None ≡ Some way → get_or table.first.items k None ≡ Some way
      other k less way is =
          let o : k ≢ n = λ h. absurd (omega arith) in
          sym (get_or-set_other table.first.items n k (Some 0) None o) ∙ sym (read k) ∙ is

      here : (k : ℕ) → k ≡ n → get_or (set table.first.items n (Some 0)) k None ≡ capped (first_index (goes approvals level facts k) (empty_path ∷ []))
      here k is =
          let s = t.size in
          let left : are_same [] (drop k facts) ≡ true = ap (λ i. are_same [] (drop i facts)) (is ∙ e) ∙ all_left facts in
          ap (λ i. get_or (set table.first.items n (Some 0)) i None) is
          ∙ get_or-set_same table.first.items n (Some 0) None (omega arith)
          ∙ sym (ap capped (first_of_one k true left))

      before : (k : ℕ) → k < n → get_or (set table.first.items n (Some 0)) k None ≡ capped (first_index (goes approvals level facts k) (empty_path ∷ []))
      before k less =
          let left : are_same [] (drop k facts) ≡ false = nothing_left facts k (omega arith) in
          let other : k ≢ n = λ h. absurd (omega arith) in
          get_or-set_other table.first.items n k (Some 0) None other
          ∙ t.first k (omega arith)
          ∙ sym (ap capped (first_of_one k false left))

  -- ways behind a move
  same_step : (act : Move) (rest xs : List Move) (k : ℕ) → are_same (act ∷ rest) (drop k xs) ≡ (same_at act xs k && are_same rest (drop (suc k) xs))
  same_step act rest [] zero = refl
  same_step act rest [] (suc k) = refl
  same_step act rest (x ∷ xs) zero = refl
  same_step act rest (x ∷ xs) (suc k) = same_step act rest xs k

  step_by : (act : Move) (k : ℕ) (way : Path) (outside : Bool) → outside ≡ false → goes_by outside approvals level facts k (followed_by (path_of_move act) way) ≡ (same_at act facts k && goes_by outside approvals level facts (suc k) way)
  step_by act k way true e = absurd (false≢true (sym e))
  step_by act k way false e = same_step act way.moves facts k

  steps : (act : Move) (k : ℕ) (ways : List Path) → AreInside ways → AllByRecursion (λ way. goes approvals level facts k (followed_by (path_of_move act) way) ≡ (same_at act facts k && goes approvals level facts (suc k) way)) ways
  steps act k [] h = tt
  steps act k (way ∷ rest) h = (step_by act k way way.outside h.0, steps act k rest h.1)

  behind_first : (act : Move) (k : ℕ) (ways : List Path) → AreInside ways → first_index (goes approvals level facts k) (map (followed_by (path_of_move act)) ways) ≡ kept (same_at act facts k) (first_index (goes approvals level facts (suc k)) ways)
  behind_first act k ways h =
      first_index-map (goes approvals level facts k) (followed_by (path_of_move act)) ways
      ∙ first_index-kept (same_at act facts k) (λ way. goes approvals level facts k (followed_by (path_of_move act) way)) (goes approvals level facts (suc k)) ways (steps act k ways h)

  past_none : (act : Move) (xs : List Move) (k : ℕ) → length xs ≤ k → same_at act xs k ≡ false
  past_none act [] k h = refl
  past_none act (x ∷ xs) zero h = absurd (omega arith)
  past_none act (x ∷ xs) (suc k) h = past_none act xs k (omega arith)

  pub put_table : (now before : Ways) (asked : List Asked) (one : Asked) (act : Move) (window : Window) (ways : List Path) → IsBehind now before asked one → length now.first.items ≡ length before.first.items → window.from ≡ before.window.from - 1 → window.to ≡ before.window.to - 1 → ((k way : ℕ) → get_or now.first.items k None ≡ Some way → IsIn window k → IsIn now.window k) → AllAsk asked facts → Asks one act → AreInside ways → IsTable approvals level facts before ways → IsTable approvals level facts now (map (followed_by (path_of_move act)) ways)
  put_table now before asked one act window ways p sized from to places asks this inside t = record {
    count = p.count ∙ t.count ∙ ap (λ m. min m 65536) (sym (length-map ways (followed_by (path_of_move act))));
    size = sized ∙ t.size;
    first = λ i within. ⊎_elim (λ less. below i less) (λ more. last i (omega arith)) (cases_lt i (length facts));
    window = λ i way e.
        let h = t.window (i + 1) way (kept_some (same_at act facts i) (get_or before.first.items (i + 1) None) way (sym (p.each facts act asks this i) ∙ e)) in
        let a = h.0 in
        let b = h.1 in
        places i way e (omega (arith, from, a), omega (arith, to, b));
  }
    where
      below : (i : ℕ) → i < length facts → get_or now.first.items i None ≡ capped (first_index (goes approvals level facts i) (map (followed_by (path_of_move act)) ways))
      below i less =
          let e : i + 1 ≡ suc i = omega arith in
          p.each facts act asks this i
          ∙ ap (kept (same_at act facts i)) (t.first (i + 1) (omega arith))
          ∙ ap (λ j. kept (same_at act facts i) (capped (first_index (goes approvals level facts j) ways))) e
          ∙ sym (capped-kept (same_at act facts i) (first_index (goes approvals level facts (suc i)) ways))
          ∙ ap capped (sym (behind_first act i ways inside))

      last : (i : ℕ) → i ≡ length facts → get_or now.first.items i None ≡ capped (first_index (goes approvals level facts i) (map (followed_by (path_of_move act)) ways))
      last i is =
          let none : same_at act facts i ≡ false = past_none act facts i (omega arith) in
          p.each facts act asks this i
          ∙ ap (λ same. kept same (get_or before.first.items (i + 1) None)) none
          ∙ ap (λ same. kept same (capped (first_index (goes approvals level facts (suc i)) ways))) (sym none)
          ∙ sym (capped-kept (same_at act facts i) (first_index (goes approvals level facts (suc i)) ways))
          ∙ ap capped (sym (behind_first act i ways inside))
