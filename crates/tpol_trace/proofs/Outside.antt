-- The outside ways: the first of them that goes the facts begins at any fact that approves what is open.
use Rattle.std.proofs.Common.{◌≡◌, ⊎_elim, ℕ, zero, suc, ◌+◌, ◌-◌, ◌<◌, ◌≤◌, min, Bool, true, false, List, [], ◌∷◌, length, drop, get_or, map, Option, Some, None, refl, sym, ap, ◌∙◌, subst, arith, ◌&&◌, length-drop}
use Rattle.std.specs.Prelude.{slice_get, nat_lt, ◌||◌}
use Rattle.std.specs.List.{AllByRecursion}
use Rattle.std.specs.Option.{option_map}
use Rattle.std.proofs.lemmas.Bool.{false≢true, cases_lt}
use Rattle.std.proofs.lemmas.List.{length-map, get_or_default}
use Rattle.tpol_tree.specs.declared.closed.ClosedElement.{ClosedElement}
use Rattle.tpol_tree.specs.declared.closed.ClosedElement.TheVariants.{Assert, Or, Authorize, AuthorizeNv}
use Rattle.tpol_digest.specs.Digest.{zero_digest}
use Rattle.tpol_digest.proofs.Walks.{product-one}
use Rattle.tpol_tree.specs.declared.path.ApprovedDoc.{ApprovedDoc}
use Rattle.tpol_tree.specs.declared.path.Move.{Move}
use Rattle.tpol_tree.specs.declared.path.Path.{Path}
use Rattle.tpol_digest.specs.Paths.{followed_by, outside_path, outside_paths, product}
use Rattle.tpol_trace.specs.declared.asked.Asked.{Asked}
use Rattle.tpol_trace.specs.declared.ways.Ways.{Ways}
use Rattle.tpol_trace.specs.Openings.{first_index}
use Rattle.tpol_trace.specs.Matching.{matches_approval, matches_last, last_facts}
use Rattle.tpol_trace.specs.Same.{are_same}
use Rattle.tpol_trace.specs.Tables.{Asks, AllAsk, IsApproval, move_of_element, goes_by, goes, AreInside, capped, earlier, kept, IsTable, IsEverywhere, IsWithin}
use Rattle.tpol_trace.proofs.Firsts.{first_index-either, first_index-kept, first_index-map, capped-kept, capped-earlier}
use Rattle.tpol_trace.proofs.Matched.{same_length}
use Rattle.tpol_trace.proofs.Deciding.{same_Decides}
use Rattle.tpol_trace.proofs.Steps.{before_window, kept_none, past_window}

-- a test that holds of some number below another
abbrev any_to : (ℕ → Bool) → ℕ → Bool
any_to test zero = false
any_to test (suc k) = any_to test k || test k

same_bool : (a b : Bool) → (a ≡ true → b ≡ true) → (b ≡ true → a ≡ true) → a ≡ b
same_bool true b f g = sym (f refl)
same_bool false true f g = g refl
same_bool false false f g = refl

or_left : (a b : Bool) → a ≡ true → (a || b) ≡ true
or_left true b e = refl
or_left false b e = absurd (false≢true e)

or_right : (a b : Bool) → b ≡ true → (a || b) ≡ true
or_right true b e = refl
or_right false b e = e

any_from : (test : ℕ → Bool) (n k : ℕ) → k < n → test k ≡ true → any_to test n ≡ true
any_from test zero k less h = absurd (omega arith)
any_from test (suc n) k less h =
    ⊎_elim (λ lower. or_left (any_to test n) (test n) (any_from test n k lower h)) (λ not. or_right (any_to test n) (test n) (let e : k ≡ n = omega arith in ap test (sym e) ∙ h)) (cases_lt k n)

-- what such a test gives
none_any : (test : ℕ → Bool) (b : Bool) (n : ℕ) → ((k : ℕ) → k < n → test k ≡ true → b ≡ true) → any_to test n ≡ true → b ≡ true
none_any test b zero f h = absurd (false≢true h)
none_any test b (suc n) f h =
    by (any_to test n) refl h (none_any test b n (λ k less t. f k (omega arith) t))
  where
    by : (t : Bool) → any_to test n ≡ t → (t || test n) ≡ true → (any_to test n ≡ true → b ≡ true) → b ≡ true
    by true is e rest = rest is
    by false is e rest = f n (omega arith) e

module _ (approvals : List ApprovedDoc) (enters : Bool) (act : Move) where
  abbrev approves_or_none : Option Move → Bool
  approves_or_none None = false
  approves_or_none (Some fact) = matches_approval approvals enters act fact

  -- whether the k-th fact begins such a way
  abbrev pub approves_at : List Move → ℕ → Bool
  approves_at facts k = approves_or_none (slice_get facts k)

  abbrev hit : List Move → List Move → ℕ → Bool
  hit facts rest k = approves_at facts k && are_same rest (drop (suc k) facts)

  both_true : (a b : Bool) → (a && b) ≡ true → (a ≡ true) × (b ≡ true)
  both_true true b e = (refl, e)
  both_true false b e = absurd (false≢true e)

  last_at : (facts rest : List Move) (k : ℕ) → k < length facts → matches_last approvals enters (act ∷ rest) (drop k facts) ≡ hit facts rest k
  last_at [] rest k h = absurd (omega arith)
  last_at (x ∷ facts) rest zero h = refl
  last_at (x ∷ facts) rest (suc k) h = last_at facts rest k (omega arith)

  last_past : (facts rest : List Move) (k : ℕ) → length facts ≤ k → matches_last approvals enters (act ∷ rest) (drop k facts) ≡ false
  last_past [] rest zero h = refl
  last_past [] rest (suc k) h = refl
  last_past (x ∷ facts) rest zero h = absurd (omega arith)
  last_past (x ∷ facts) rest (suc k) h = last_past facts rest k (omega arith)

  pub last_any : (facts rest : List Move) → matches_last approvals enters (act ∷ rest) (last_facts (act ∷ rest) facts) ≡ any_to (hit facts rest) (length facts)
  last_any facts rest =
      same_bool (matches_last approvals enters (act ∷ rest) (last_facts (act ∷ rest) facts)) (any_to (hit facts rest) (length facts)) to from
    where
      to : matches_last approvals enters (act ∷ rest) (last_facts (act ∷ rest) facts) ≡ true → any_to (hit facts rest) (length facts) ≡ true
      to e =
          let k = length facts - length (act ∷ rest) in
          ⊎_elim (λ less. any_from (hit facts rest) (length facts) k less (sym (last_at facts rest k less) ∙ e)) (λ not. absurd (false≢true (sym (last_past facts rest k not) ∙ e))) (cases_lt k (length facts))

      from : any_to (hit facts rest) (length facts) ≡ true → matches_last approvals enters (act ∷ rest) (last_facts (act ∷ rest) facts) ≡ true
      from = none_any (hit facts rest) (matches_last approvals enters (act ∷ rest) (last_facts (act ∷ rest) facts)) (length facts) (λ k less h.
          let l = same_length rest (drop (suc k) facts) ((same_Decides rest (drop (suc k) facts)).0 (both_true (approves_at facts k) (are_same rest (drop (suc k) facts)) h).1) in
          let m = length-drop (suc k) facts in
          let e : length facts - length (act ∷ rest) ≡ k = omega arith in
          ap (λ i. matches_last approvals enters (act ∷ rest) (drop i facts)) e ∙ last_at facts rest k less ∙ h)

  -- the first of the ways that a table has behind facts that begin such a way
  abbrev pub best_to : List Move → Ways → ℕ → Option ℕ
  best_to facts table zero = None
  best_to facts table (suc k) =
      earlier (best_to facts table k) (kept (approves_at facts k) (get_or table.first.items (suc k) None))

module _ (approvals : List ApprovedDoc) (level : ℕ) (facts : List Move) (act : Move) (ways : List Path) (inside : AreInside ways) (table : Ways) (t : IsTable approvals level facts table ways) where
  abbrev enters : Bool
  enters = nat_lt 0 level

  insides : (k : ℕ) (some : List Path) → AreInside some → AllByRecursion (λ way. goes approvals level facts k way ≡ are_same way.moves (drop k facts)) some
  insides k [] h = tt
  insides k (way ∷ rest) h = (ap (λ b. goes_by b approvals level facts k way) h.0, insides k rest h.1)

  -- the first way that goes the facts behind the k-th
  entry : (k : ℕ) → k < length facts → capped (first_index (λ way. are_same way.moves (drop (suc k) facts)) ways) ≡ get_or table.first.items (suc k) None
  entry k less =
      sym (ap capped (first_index-kept true (goes approvals level facts (suc k)) (λ way. are_same way.moves (drop (suc k) facts)) ways (insides (suc k) ways inside)))
      ∙ sym (t.first (suc k) (omega arith))

  hits : (k : ℕ) (some : List Path) → AllByRecursion (λ way. hit approvals enters act facts way.moves k ≡ (approves_at approvals enters act facts k && are_same way.moves (drop (suc k) facts))) some
  hits k [] = tt
  hits k (way ∷ rest) = (refl, hits k rest)

  nothing : (some : List Path) → first_index (λ way. false) some ≡ None
  nothing [] = refl
  nothing (way ∷ rest) = ap (option_map (λ i. i + 1)) (nothing rest)

  best : (n : ℕ) → n ≤ length facts → capped (first_index (λ way. any_to (hit approvals enters act facts way.moves) n) ways) ≡ best_to approvals enters act facts table n
  best zero h = ap capped (nothing ways)
  best (suc n) h =
      let one = λ (way : Path). any_to (hit approvals enters act facts way.moves) n in
      let two = λ (way : Path). hit approvals enters act facts way.moves n in
      let behind = λ (way : Path). are_same way.moves (drop (suc n) facts) in
      let a = approves_at approvals enters act facts n in
      ap capped (first_index-either (λ way. any_to (hit approvals enters act facts way.moves) (suc n)) one two ways (λ way. refl))
      ∙ capped-earlier (first_index one ways) (first_index two ways)
      ∙ ap (λ x. earlier x (capped (first_index two ways))) (best n (omega arith))
      ∙ ap (λ x. earlier (best_to approvals enters act facts table n) (capped x)) (first_index-kept a two behind ways (hits n ways))
      ∙ ap (earlier (best_to approvals enters act facts table n)) (capped-kept a (first_index behind ways) ∙ ap (kept a) (entry n (omega arith)))

  goes_outside : (k : ℕ) (some : List Path) → AllByRecursion (λ way. goes approvals level facts k (followed_by (outside_path act) way) ≡ any_to (hit approvals enters act facts way.moves) (length facts)) some
  goes_outside k [] = tt
  goes_outside k (way ∷ rest) = (last_any approvals enters act facts way.moves, goes_outside k rest)

  pub outside_table : (found : Ways) (n number : ℕ) (way : Option ℕ) → n ≡ length facts → number ≡ table.count → way ≡ best_to approvals enters act facts table n → IsEverywhere found n way number → IsTable approvals level facts found (map (followed_by (outside_path act)) ways)
  outside_table found n number way e counted is h = record {
    count = h.count ∙ counted ∙ t.count ∙ ap (λ m. min m 65536) (sym (length-map ways (followed_by (outside_path act))));
    size = h.size ∙ ap (λ m. m + 1) e;
    first = λ k within.
        h.first k (omega arith)
        ∙ is
        ∙ ap (best_to approvals enters act facts table) e
        ∙ sym (best (length facts) (omega arith))
        ∙ ap capped (sym (first_index-kept true (λ way. goes approvals level facts k (followed_by (outside_path act) way)) (λ way. any_to (hit approvals enters act facts way.moves) (length facts)) ways (goes_outside k ways)))
        ∙ ap capped (sym (first_index-map (goes approvals level facts k) (followed_by (outside_path act)) ways));
    window = h.window;
  }

earlier_none : (o : Option ℕ) → o ≡ earlier o None
earlier_none None = refl
earlier_none (Some i) = refl

module _ (approvals : List ApprovedDoc) (enters : Bool) (act : Move) where
  -- one more fact behind which no way begins
  best_left : (facts : List Move) (table : Ways) (k : ℕ) → get_or table.first.items (suc k) None ≡ None → best_to approvals enters act facts table (suc k) ≡ best_to approvals enters act facts table k
  best_left facts table k none =
      ap (λ way. earlier (best_to approvals enters act facts table k) (kept (approves_at approvals enters act facts k) way)) none
      ∙ ap (earlier (best_to approvals enters act facts table k)) (kept_none (approves_at approvals enters act facts k))
      ∙ sym (earlier_none (best_to approvals enters act facts table k))

  -- before the window there is none
  pub best_start : (facts : List Move) (table : Ways) (k : ℕ) → IsWithin table → k ≤ table.window.from - 1 → None ≡ best_to approvals enters act facts table k
  best_start facts table zero within h = refl
  best_start facts table (suc k) within h =
      best_start facts table k within (omega arith)
      ∙ sym (best_left facts table k (before_window table within (suc k) (omega arith)))

  best_past : (facts : List Move) (table : Ways) (k n : ℕ) → IsWithin table → table.window.to - 1 ≤ k → k ≤ n → best_to approvals enters act facts table n ≡ best_to approvals enters act facts table k
  best_past facts table k zero within h less =
      let e : zero ≡ k = omega arith in
      ap (best_to approvals enters act facts table) e
  best_past facts table k (suc n) within h less =
      ⊎_elim (λ lower. best_left facts table n (past_window table within (suc n) (omega arith)) ∙ best_past facts table k n within h (omega arith)) (λ not. let e : suc n ≡ k = omega arith in ap (best_to approvals enters act facts table) e) (cases_lt k (suc n))

  -- and past it no other
  pub best_end : (facts : List Move) (table : Ways) (k n : ℕ) → IsWithin table → table.window.to - 1 ≤ k → table.window.to - 1 ≤ n → best_to approvals enters act facts table k ≡ best_to approvals enters act facts table n
  best_end facts table k n within h i =
      let last = table.window.to - 1 in
      best_past facts table last k within (omega arith) h
      ∙ sym (best_past facts table last n within (omega arith) i)

  -- the fact that is read
  approves_read : (asked : List Asked) (moves : List Move) (k : ℕ) (one : Asked) (result : Bool) → AllAsk asked moves → k < length asked → one ≡ get_or asked k one → ((fact : Move) → Asks one fact → result ≡ matches_approval approvals enters act fact) → result ≡ approves_at approvals enters act moves k
  approves_read [] moves k one result h less is f = absurd (omega arith)
  approves_read (a ∷ asked) [] k one result h less is f = absurd h
  approves_read (a ∷ asked) (m ∷ moves) zero one result h less is f = f m (subst (λ x. Asks x m) (sym is) h.0)
  approves_read (a ∷ asked) (m ∷ moves) (suc k) one result h less is f =
      approves_read asked moves k one result h.1 (omega arith) is f

  -- one more fact, which begins such a way or does not
  pub best_more : (asked : List Asked) (moves : List Move) (table : Ways) (k : ℕ) (one : Asked) (result : Bool) (first now way : Option ℕ) → AllAsk asked moves → k < length asked → one ≡ get_or asked k one → ((fact : Move) → Asks one fact → result ≡ matches_approval approvals enters act fact) → first ≡ best_to approvals enters act moves table k → way ≡ get_or table.first.items (k + 1) None → now ≡ earlier first (kept result way) → now ≡ best_to approvals enters act moves table (k + 1)
  best_more asked moves table k one result first now way asks less is f so_far read e =
      let n : suc k ≡ k + 1 = omega arith in
      e
      ∙ ap (λ x. earlier x (kept result way)) so_far
      ∙ ap (λ x. earlier (best_to approvals enters act moves table k) (kept x way)) (approves_read asked moves k one result asks less is f)
      ∙ ap (λ x. earlier (best_to approvals enters act moves table k) (kept (approves_at approvals enters act moves k) x)) (read ∙ ap (λ i. get_or table.first.items i None) (sym n))
      ∙ ap (best_to approvals enters act moves table) n

-- an entry that is read at its own default
pub read_entry : (items : List (Option ℕ)) (k : ℕ) (way : Option ℕ) → k < length items → way ≡ get_or items k way → way ≡ get_or items k None
read_entry items k way less is = is ∙ get_or_default items k way None less

pub left_first : (first now way : Option ℕ) → now ≡ first → now ≡ earlier first (kept false way)
left_first first now way e = e ∙ earlier_none first

outside_one : (element : ClosedElement) → IsApproval element → outside_paths element ≡ outside_path (move_of_element element zero_digest) ∷ []
outside_one (Assert assertion) h = absurd h
outside_one (Or branches) h = absurd h
outside_one (Authorize key policy_ref) h = refl
outside_one (AuthorizeNv index) h = refl

pub outside_result : (approvals : List ApprovedDoc) (level : ℕ) (facts : List Move) (element : ClosedElement) → IsApproval element → (ways : List Path) → AreInside ways → (table : Ways) → IsTable approvals level facts table ways → (found : Ways) (n : ℕ) (way : Option ℕ) → n ≡ length facts → way ≡ best_to approvals (nat_lt 0 level) (move_of_element element zero_digest) facts table n → IsEverywhere found n way table.count → IsTable approvals level facts found (product (outside_paths element) ways)
outside_result approvals level facts element approval ways inside table t found n way e is h =
    subst (IsTable approvals level facts found) (sym (ap (λ paths. product paths ways) (outside_one element approval) ∙ product-one (outside_path (move_of_element element zero_digest)) ways)) (outside_table approvals level facts (move_of_element element zero_digest) ways inside table t found n table.count way e refl is h)
