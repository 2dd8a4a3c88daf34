-- A table of ways, entry by entry.
use Rattle.std.proofs.Common.{◌≡◌, ◌≢◌, ⊎_elim, ℕ, zero, suc, ◌+◌, ◌-◌, ◌<◌, ◌≤◌, min, Bool, true, false, List, [], ◌∷◌, ◌++◌, length, get_or, set, Option, Some, None, refl, sym, ap, ◌∙◌, subst, arith}
use Rattle.std.specs.Prelude.{slice_get}
use Rattle.std.specs.Option.{option_map}
use Rattle.std.proofs.lemmas.Bool.{cases_lt}
use Rattle.std.proofs.lemmas.Option.{none-some}
use Rattle.std.proofs.lemmas.List.{get_or-set_same, get_or-set_other, get_or_default}
use Rattle.tpol_tree.specs.declared.path.Move.{Move}
use Rattle.tpol_trace.specs.declared.asked.Asked.{Asked}
use Rattle.tpol_trace.specs.declared.ways.Ways.{Ways}
use Rattle.tpol_trace.specs.Same.{is_same_move}
use Rattle.tpol_trace.specs.Tables.{Asks, AllAsk, IsWithin, kept}

-- ---- the facts that are asked

pub ask_length : (asked : List Asked) (moves : List Move) → AllAsk asked moves → length asked ≡ length moves
ask_length [] [] h = refl
ask_length [] (m ∷ moves) h = absurd h
ask_length (a ∷ asked) [] h = absurd h
ask_length (a ∷ asked) (m ∷ moves) h = let e = ask_length asked moves h.1 in omega arith

-- whether the k-th fact is a move
abbrev pub same_or_none : Move → Option Move → Bool
same_or_none act None = false
same_or_none act (Some fact) = is_same_move act fact

abbrev pub same_at : Move → List Move → ℕ → Bool
same_at act moves k = same_or_none act (slice_get moves k)

-- an entry, or that of other ways behind so many
abbrev pub or_later : Option ℕ → ℕ → Option ℕ → Option ℕ
or_later (Some way) count later = Some way
or_later None count later = option_map (λ i. min (count + i) 65536) later

pub ask_at : (asked : List Asked) (moves : List Move) (k : ℕ) (one : Asked) (act : Move) (way after : Option ℕ) → AllAsk asked moves → k < length asked → one ≡ get_or asked k one → ((fact : Move) → Asks one fact → after ≡ kept (is_same_move act fact) way) → after ≡ kept (same_at act moves k) way
ask_at [] moves k one act way after h less is f = absurd (omega arith)
ask_at (a ∷ asked) [] k one act way after h less is f = absurd h
ask_at (a ∷ asked) (m ∷ moves) zero one act way after h less is f = f m (subst (λ x. Asks x m) (sym is) h.0)
ask_at (a ∷ asked) (m ∷ moves) (suc k) one act way after h less is f =
    ask_at asked moves k one act way after h.1 (omega arith) is f

-- ---- the window of a table

none_where : (o : Option ℕ) → ((way : ℕ) → o ≡ Some way → ⊥) → o ≡ None
none_where None f = refl
none_where (Some way) f = absurd (f way refl)

-- no way begins outside of the window
pub before_window : (table : Ways) → IsWithin table → (k : ℕ) → k < table.window.from → get_or table.first.items k None ≡ None
before_window table within k less =
    none_where (get_or table.first.items k None) (λ way e. let h = (within k way e).0 in absurd (omega arith))

pub past_window : (table : Ways) → IsWithin table → (k : ℕ) → table.window.to ≤ k → get_or table.first.items k None ≡ None
past_window table within k more =
    none_where (get_or table.first.items k None) (λ way e. let h = (within k way e).1 in absurd (omega arith))

pub kept_none : (b : Bool) → kept b None ≡ None
kept_none true = refl
kept_none false = refl

-- a place that is kept was there
pub kept_some : (b : Bool) (o : Option ℕ) (way : ℕ) → kept b o ≡ Some way → o ≡ Some way
kept_some true o way e = e
kept_some false o way e = absurd (none-some way e)

later_none : (o : Option ℕ) (count : ℕ) → or_later o count None ≡ o
later_none None count = refl
later_none (Some way) count = refl

-- an entry of ways and then others is one of either
pub later_some : (o : Option ℕ) (count : ℕ) (later : Option ℕ) (way : ℕ) (P : Type 0) → or_later o count later ≡ Some way → ((first : ℕ) → o ≡ Some first → P) → ((first : ℕ) → later ≡ Some first → P) → P
later_some (Some first) count later way P e f g = f first refl
later_some None count (Some first) way P e f g = g first refl
later_some None count None way P e f g = absurd (none-some way e)

-- ---- ways behind a move

-- the first k entries are those of ways behind a move, and the others are as before
pub record IsPut (now before : Ways) (facts : List Asked) (act : Asked) (k : ℕ) : Type 0 where
  pub count : now.count ≡ before.count
  pub below : (moves : List Move) (one : Move) → AllAsk facts moves → Asks act one → (j : ℕ) → j < k → get_or now.first.items j None ≡ kept (same_at one moves j) (get_or before.first.items (j + 1) None)
  pub above : (j : ℕ) → k ≤ j → get_or now.first.items j None ≡ get_or before.first.items j None

-- every entry is that of ways behind a move
pub record IsBehind (now before : Ways) (facts : List Asked) (act : Asked) : Type 0 where
  pub count : now.count ≡ before.count
  pub each : (moves : List Move) (one : Move) → AllAsk facts moves → Asks act one → (j : ℕ) → get_or now.first.items j None ≡ kept (same_at one moves j) (get_or before.first.items (j + 1) None)

-- below the place before the window nothing is put
pub put_start : (before : Ways) (facts : List Asked) (act : Asked) (k : ℕ) → IsWithin before → k ≡ before.window.from - 1 → IsPut before before facts act k
put_start before facts act k within start = record {
  count = refl;
  below = λ moves one asks this j less.
      before_window before within j (omega (arith, start))
      ∙ sym (kept_none (same_at one moves j))
      ∙ ap (kept (same_at one moves j)) (sym (before_window before within (j + 1) (omega (arith, start))));
  above = λ j more. refl;
}

pub put_more : (now before next : Ways) (facts : List Asked) (act one : Asked) (k : ℕ) (way after : Option ℕ) → IsPut now before facts act k → k < length facts → length now.first.items ≡ length facts + 1 → one ≡ get_or facts k one → way ≡ get_or now.first.items (k + 1) way → ((first other : Move) → Asks act first → Asks one other → after ≡ kept (is_same_move first other) way) → next.first.items ≡ set now.first.items k after → next.count ≡ now.count → IsPut next before facts act (k + 1)
put_more now before next facts act one k way after p less sized is was f items number = record {
  count = number ∙ p.count;
  below = λ moves first asks this j h. read j ∙ ⊎_elim (λ lower. get_or-set_other now.first.items k j after None (let o : j ≢ k = λ e. absurd (omega arith) in o) ∙ p.below moves first asks this j lower) (λ not. here moves first asks this j (omega arith)) (cases_lt j k);
  above = λ j h. read j ∙ get_or-set_other now.first.items k j after None (let o : j ≢ k = λ e. absurd (omega arith) in o) ∙ p.above j (omega arith);
}
  where
    read : (j : ℕ) → get_or next.first.items j None ≡ get_or (set now.first.items k after) j None
    read j = ap (λ (xs : List (Option ℕ)). get_or xs j None) items

    here : (moves : List Move) (first : Move) → AllAsk facts moves → Asks act first → (j : ℕ) → j ≡ k → get_or (set now.first.items k after) j None ≡ kept (same_at first moves j) (get_or before.first.items (j + 1) None)
    here moves first asks this j e =
        ap (λ i. get_or (set now.first.items k after) i None) e
        ∙ get_or-set_same now.first.items k after None (omega (arith, sized))
        ∙ ask_at facts moves k one first way after asks less is (λ fact h. f first fact this h)
        ∙ ap (kept (same_at first moves k)) (was ∙ get_or_default now.first.items (k + 1) way None (omega (arith, sized)) ∙ p.above (k + 1) (omega arith))
        ∙ ap (λ i. kept (same_at first moves i) (get_or before.first.items (i + 1) None)) (sym e)

-- from the last place of the window on there is nothing more
pub put_end : (now before next : Ways) (facts : List Asked) (act : Asked) (k last : ℕ) → IsWithin before → IsPut now before facts act k → last ≤ k → before.window.to ≤ last + 1 → last < length now.first.items → next.first.items ≡ set now.first.items last None → next.count ≡ now.count → IsBehind next before facts act
put_end now before next facts act k last within p more end inside items number = record {
  count = number ∙ p.count;
  each = λ moves one asks this j. ap (λ (xs : List (Option ℕ)). get_or xs j None) items ∙ ⊎_elim (λ less. get_or-set_other now.first.items last j None None (let o : j ≢ last = λ e. absurd (omega arith) in o) ∙ p.below moves one asks this j (omega arith)) (λ not. nothing moves one asks this j (omega arith) ∙ sym (kept_none (same_at one moves j)) ∙ ap (kept (same_at one moves j)) (sym (past_window before within (j + 1) (omega arith)))) (cases_lt j last);
}
  where
    later : (moves : List Move) (one : Move) → AllAsk facts moves → Asks act one → (j : ℕ) → last < j → get_or now.first.items j None ≡ None
    later moves one asks this j h =
        ⊎_elim (λ less. p.below moves one asks this j less ∙ ap (kept (same_at one moves j)) (past_window before within (j + 1) (omega arith)) ∙ kept_none (same_at one moves j)) (λ not. p.above j (omega arith) ∙ past_window before within j (omega arith)) (cases_lt j k)

    nothing : (moves : List Move) (one : Move) → AllAsk facts moves → Asks act one → (j : ℕ) → last ≤ j → get_or (set now.first.items last None) j None ≡ None
    nothing moves one asks this j h =
        ⊎_elim (λ less. get_or-set_other now.first.items last j None None (let o : j ≢ last = λ e. absurd (omega arith) in o) ∙ later moves one asks this j less) (λ not. let e : j ≡ last = omega arith in ap (λ i. get_or (set now.first.items last None) i None) e ∙ get_or-set_same now.first.items last None None inside) (cases_lt last j)

-- ---- ways and then others

-- the first k entries are those of these ways and the others, and the rest are as before
pub record IsJoined (now before others : Ways) (k : ℕ) : Type 0 where
  pub count : now.count ≡ before.count
  pub window : now.window ≡ before.window
  pub below : (j : ℕ) → j < k → get_or now.first.items j None ≡ or_later (get_or before.first.items j None) before.count (get_or others.first.items j None)
  pub above : (j : ℕ) → k ≤ j → get_or now.first.items j None ≡ get_or before.first.items j None

-- before the window of the others nothing is joined
pub join_start : (before others : Ways) (k : ℕ) → IsWithin others → k ≡ others.window.from → IsJoined before before others k
join_start before others k within start = record {
  count = refl;
  window = refl;
  below = λ j less. sym (ap (or_later (get_or before.first.items j None) before.count) (before_window others within j (omega (arith, start))) ∙ later_none (get_or before.first.items j None) before.count);
  above = λ j more. refl;
}

-- and past it nothing either
pub join_end : (now before others : Ways) (k j : ℕ) → IsWithin others → IsJoined now before others k → others.window.to ≤ k → get_or now.first.items j None ≡ or_later (get_or before.first.items j None) before.count (get_or others.first.items j None)
join_end now before others k j within p end =
    ⊎_elim (λ less. p.below j less) (λ not. p.above j (omega arith) ∙ sym (ap (or_later (get_or before.first.items j None) before.count) (past_window others within j (omega arith)) ∙ later_none (get_or before.first.items j None) before.count)) (cases_lt j k)

pub ask_more : (asked : List Asked) (moves : List Move) (one : Asked) (act : Move) → AllAsk asked moves → Asks one act → AllAsk (asked ++ one ∷ []) (moves ++ act ∷ [])
ask_more [] [] one act h k = (k, tt)
ask_more [] (m ∷ moves) one act h k = absurd h
ask_more (a ∷ asked) [] one act h k = absurd h
ask_more (a ∷ asked) (m ∷ moves) one act h k = (h.0, ask_more asked moves one act h.1 k)
