-- A search through lists of ways that are made of parts.
use Rattle.std.proofs.Common.{◌≡◌, ◌≢◌, ℕ, zero, suc, ◌+◌, ◌-◌, ◌*◌, ◌<◌, ◌≤◌, ◌++◌, min, Bool, true, false, List, [], ◌∷◌, map, length, drop, get_or, Option, Some, None, refl, sym, ap, ◌∙◌, drop-cons, add-one, arith}
use Rattle.std.specs.Prelude.{◌==◌, is_none, not, if◌then◌else◌}
use Rattle.std.specs.List.{AllByRecursion}
use Rattle.std.proofs.lemmas.List.{drop_all}
use Rattle.tpm_rules.specs.Rule.{or_else, unless}
use Rattle.tpol_base.specs.declared.digest.Digest32.{Digest32}
use Rattle.tpol_digest.specs.Digest.{zero_digest}
use Rattle.tpol_digest.specs.Extent.{document_extent, extent_at}
use Rattle.tpol_digest.specs.Paths.{approval_of, approved_paths, between, document_paths, followed_by, outside_path, outside_paths, path_of_move, paths_by_approval, product}
use Rattle.tpol_digest.specs.Positions.{element_list_ways, path_of_step}
use Rattle.tpol_digest.specs.Walks.{first_path}
use Rattle.tpol_digest.proofs.Documents.{document_paths-some}
use Rattle.tpol_digest.proofs.Extents.{min_mul}
use Rattle.tpol_digest.proofs.Positions.{part, ways_counted}
use Rattle.tpol_tree.specs.declared.closed.ClosedElement.{ClosedElement}
use Rattle.tpol_tree.specs.declared.closed.ClosedElement.TheVariants.{Assert, Or, Authorize, AuthorizeNv}
use Rattle.tpol_tree.specs.declared.closed.ClosedElements.{ClosedElements}
use Rattle.tpol_tree.specs.declared.path.ApprovedDoc.{ApprovedDoc}
use Rattle.tpol_tree.specs.declared.path.Move.{Move}
use Rattle.tpol_tree.specs.declared.path.Move.TheVariants.{Approve, ApproveNv}
use Rattle.tpol_tree.specs.declared.path.Path.{Path}
use Rattle.tpol_tree.specs.declared.path.PathStep.{PathStep}
use Rattle.tpol_tree.specs.declared.path.PathStep.TheVariants.{Document}
use Rattle.tpol_choose.specs.declared.ahead.Ahead.{Ahead}
use Rattle.tpol_choose.specs.declared.ahead.Ahead.TheVariants.{Nothing, After'}
use Rattle.tpol_choose.specs.declared.block.Why.TheVariants.{NoSession}
use Rattle.tpol_choose.specs.declared.searching.Search.{Search}
use Rattle.tpol_choose.specs.declared.searching.Search.TheVariants.{Found, Passed}
use Rattle.tpol_choose.specs.Acts.{move_of}
use Rattle.tpol_choose.specs.Ahead.{ways_ahead}
use Rattle.tpol_choose.specs.Blocks.{block_of, block_on, moves_block, whole_block}
use Rattle.tpol_choose.specs.Clients.{Client}
use Rattle.tpol_choose.proofs.Counts.{IsCount, counted}
use Rattle.tpol_choose.specs.Facts.{fresh_session}
use Rattle.tpol_choose.specs.Hopes.{is_hopeless}
use Rattle.tpol_choose.specs.Searches.{IsCounted, go_on, passed_more, search_ahead, search_end, search_ways}
use Rattle.tpol_choose.specs.Tracks.{TrackState, after_first, block_at_end, fresh_track, track_after, track_along}
use Rattle.tpol_choose.proofs.Ends.{path_ends}
use Rattle.tpol_choose.proofs.Going.{along_both, along_between, along_closed, along_move}
use Rattle.tpol_choose.proofs.Hopeless.{hopeless_after, hopeless_along, hopeless_end, hopeless_first, hopeless_outside}

go_on_nowhere : (s : Search) → go_on s (λ n. Passed n) ≡ s
go_on_nowhere (Found index) = refl
go_on_nowhere (Passed passed) = refl

go_on_assoc : (s : Search) (f g : ℕ → Search) → go_on (go_on s f) g ≡ go_on s (λ n. go_on (f n) g)
go_on_assoc (Found index) f g = refl
go_on_assoc (Passed passed) f g = refl

go_on_same : (s : Search) (f g : ℕ → Search) → ((n : ℕ) → f n ≡ g n) → go_on s f ≡ go_on s g
go_on_same (Found index) f g h = refl
go_on_same (Passed passed) f g h = h passed

module _ (client : Client) (behind : TrackState → ℕ → Search) where
  -- ---- ways one after another, and ways that are changed

  pub ways_append : (track : TrackState) (n : ℕ) (xs ys : List Path) → search_ways client behind track n (xs ++ ys) ≡ go_on (search_ways client behind track n xs) (λ m. search_ways client behind track m ys)
  ways_append track n [] ys = refl
  ways_append track n (x ∷ xs) ys =
      go_on_same (behind (track_along client track x) n) (λ m. search_ways client behind track m (xs ++ ys)) (λ m. go_on (search_ways client behind track m xs) (λ k. search_ways client behind track k ys)) (λ m. ways_append track m xs ys)
      ∙ sym (go_on_assoc (behind (track_along client track x) n) (λ m. search_ways client behind track m xs) (λ m. search_ways client behind track m ys))

  pub ways_one : (track : TrackState) (n : ℕ) (way : Path) → search_ways client behind track n (way ∷ []) ≡ behind (track_along client track way) n
  ways_one track n way = go_on_nowhere (behind (track_along client track way) n)

  pub ways_one_move : (track : TrackState) (n : ℕ) (act : Move) → search_ways client behind track n (path_of_move act ∷ []) ≡ behind (track_after client track act) n
  ways_one_move track n act =
      ways_one track n (path_of_move act) ∙ ap (λ t. behind t n) (sym (along_move client track act))

  ways_followed : (track : TrackState) (n : ℕ) (a : Path) (ways : List Path) → search_ways client behind track n (map (followed_by a) ways) ≡ search_ways client behind (track_along client track a) n ways
  ways_followed track n a [] = refl
  ways_followed track n a (way ∷ ways) =
      ap (λ t. go_on (behind t n) (λ m. search_ways client behind track m (map (followed_by a) ways))) (sym (along_both client track a way))
      ∙ go_on_same (behind (track_along client (track_along client track a) way) n) (λ m. search_ways client behind track m (map (followed_by a) ways)) (λ m. search_ways client behind (track_along client track a) m ways) (λ m. ways_followed track m a ways)

  pub ways_product : (track : TrackState) (n : ℕ) (xs ys : List Path) → search_ways client behind track n (product xs ys) ≡ search_ways client (λ t m. search_ways client behind t m ys) track n xs
  ways_product track n [] ys = refl
  ways_product track n (x ∷ xs) ys =
      ways_append track n (map (followed_by x) ys) (product xs ys)
      ∙ ap (λ s. go_on s (λ m. search_ways client behind track m (product xs ys))) (ways_followed track n x ys)
      ∙ go_on_same (search_ways client behind (track_along client track x) n ys) (λ m. search_ways client behind track m (product xs ys)) (λ m. search_ways client (λ t k. search_ways client behind t k ys) track m xs) (λ m. ways_product track m xs ys)

  -- ways whose ends give the same
  pub ways_same : (others : TrackState → ℕ → Search) → ((t : TrackState) (m : ℕ) → behind t m ≡ others t m) → (track : TrackState) (n : ℕ) (ways : List Path) → search_ways client behind track n ways ≡ search_ways client others track n ways
  ways_same others same track n [] = refl
  ways_same others same track n (way ∷ ways) =
      ap (λ s. go_on s (λ m. search_ways client behind track m ways)) (same (track_along client track way) n)
      ∙ go_on_same (others (track_along client track way) n) (λ m. search_ways client behind track m ways) (λ m. search_ways client others track m ways) (λ m. ways_same others same track m ways)

  pub ways_by_step : (track : TrackState) (n : ℕ) (step : PathStep) (ways : List Path) → search_ways client behind track n (map (followed_by (path_of_step step)) ways) ≡ search_ways client behind track n ways
  ways_by_step track n step [] = refl
  ways_by_step track n step (way ∷ ways) =
      go_on_same (behind (track_along client track way) n) (λ m. search_ways client behind track m (map (followed_by (path_of_step step)) ways)) (λ m. search_ways client behind track m ways) (λ m. ways_by_step track m step ways)

  pub ways_by_move : (track : TrackState) (n : ℕ) (act : Move) (ways : List Path) → search_ways client behind track n (map (λ way. followed_by way (path_of_move act)) ways) ≡ search_ways client (λ t m. behind (track_after client t act) m) track n ways
  ways_by_move track n act [] = refl
  ways_by_move track n act (way ∷ ways) =
      ap (λ t. go_on (behind t n) (λ m. search_ways client behind track m (map (λ x. followed_by x (path_of_move act)) ways))) (sym (along_closed client track act way))
      ∙ go_on_same (behind (track_after client (track_along client track way) act) n) (λ m. search_ways client behind track m (map (λ x. followed_by x (path_of_move act)) ways)) (λ m. search_ways client (λ t k. behind (track_after client t act) k) track m ways) (λ m. ways_by_move track m act ways)

  pub ways_between : (track : TrackState) (n : ℕ) (step : PathStep) (act : Move) (ways : List Path) → search_ways client behind track n (map (between step act) ways) ≡ search_ways client (λ t m. behind (track_after client t act) m) track n ways
  ways_between track n step act [] = refl
  ways_between track n step act (way ∷ ways) =
      ap (λ t. go_on (behind t n) (λ m. search_ways client behind track m (map (between step act) ways))) (sym (along_between client track step act way))
      ∙ go_on_same (behind (track_after client (track_along client track way) act) n) (λ m. search_ways client behind track m (map (between step act) ways)) (λ m. search_ways client (λ t k. behind (track_after client t act) k) track m ways) (λ m. ways_between track m step act ways)

  -- ---- a search among the first of two lists

  pub found_first : (track : TrackState) (n index : ℕ) (xs ys : List Path) → search_ways client behind track n xs ≡ Found index → search_ways client behind track n (xs ++ ys) ≡ Found index
  found_first track n index xs ys h =
      ways_append track n xs ys ∙ ap (λ s. go_on s (λ m. search_ways client behind track m ys)) h

  pub passed_first : (track : TrackState) (n more : ℕ) (xs ys : List Path) → search_ways client behind track n xs ≡ Passed more → search_ways client behind track n (xs ++ ys) ≡ search_ways client behind track more ys
  passed_first track n more xs ys h =
      ways_append track n xs ys ∙ ap (λ s. go_on s (λ m. search_ways client behind track m ys)) h

-- ---- where something stands in the way of all ways

pub passed_none : (n ways : ℕ) → ways ≡ 0 → passed_more n ways ≡ n
passed_none n zero h = refl
passed_none n (suc ways) h = absurd (omega arith)

pub passed_some : (n ways : ℕ) → 1 ≤ ways → passed_more n ways ≡ min (n + ways) 65537
passed_some n zero h = absurd (omega arith)
passed_some n (suc ways) h = refl

passed_twice : (n c k : ℕ) → passed_more (passed_more n c) k ≡ passed_more n (c + k)
passed_twice n zero k = ap (passed_more n) (let e : k ≡ 0 + k = omega arith in e)
passed_twice n (suc c) zero = ap (passed_more n) (let e : suc c ≡ suc c + 0 = omega arith in e)
passed_twice n (suc c) (suc k) =
    let both = passed_some n (suc c + suc k) (omega arith) in
    let twice : min (min (n + suc c) 65537 + suc k) 65537 ≡ min (n + (suc c + suc k)) 65537 = omega arith in
    twice ∙ sym both

-- all ways are passed over, where those behind each are
module _ (client : Client) (behind : TrackState → ℕ → Search) (c : ℕ) (passes : (t : TrackState) (m : ℕ) → is_hopeless client t ≡ true → behind t m ≡ Passed (passed_more m c)) where
  pub all_hopeless : (track : TrackState) (n : ℕ) (ways : List Path) → is_hopeless client track ≡ true → search_ways client behind track n ways ≡ Passed (passed_more n (length ways * c))
  all_hopeless track n [] h =
      let none : length {A = Path} [] * c ≡ 0 = omega arith in ap Passed (sym (passed_none n (length {A = Path} [] * c) none))
  all_hopeless track n (way ∷ ways) h =
      let more : c + length ways * c ≡ length (way ∷ ways) * c = grind arith in
      ap (λ s. go_on s (λ m. search_ways client behind track m ways)) (passes (track_along client track way) n (hopeless_along client track way h))
      ∙ all_hopeless track (passed_more n c) ways h
      ∙ ap Passed (passed_twice n c (length ways * c) ∙ ap (passed_more n) more)

module _ (client : Client) (documents : List ApprovedDoc) where
  -- the ways through elements and what comes behind them are passed over
  pub elements_hopeless : (behind : TrackState → ℕ → Search) (c : ℕ) → ((t : TrackState) (m : ℕ) → is_hopeless client t ≡ true → behind t m ≡ Passed (passed_more m c)) → (levels : ℕ) (elements : ClosedElements) (d : Digest32) (track : TrackState) (n : ℕ) → is_hopeless client track ≡ true → search_ways client behind track n (element_list_ways documents levels elements d) ≡ Passed (passed_more n ((extent_at (document_extent documents levels) documents elements).paths * c))
  elements_hopeless behind c passes levels elements d track n hopeless =
      all_hopeless client behind c passes track n (element_list_ways documents levels elements d) hopeless
      ∙ ap (λ k. Passed (passed_more n (k * c))) (ways_counted documents levels elements d)

  pub ahead_hopeless : (ahead : Ahead) (track : TrackState) (n : ℕ) → is_hopeless client track ≡ true → search_ahead client documents ahead track n ≡ Passed (passed_more n (ways_ahead documents ahead))
  ahead_hopeless Nothing track n hopeless =
      ap (λ b. if b then Found n else Passed (passed_more n 1)) (hopeless_end client track hopeless)
  ahead_hopeless (After' act first rest before levels p ahead) track n hopeless =
      elements_hopeless (search_ahead client documents ahead) (ways_ahead documents ahead) (ahead_hopeless ahead) levels rest.now before.digest (after_first client (track_after client track (move_of act)) first) n (hopeless_first client (track_after client track (move_of act)) first (hopeless_after client track (move_of act) hopeless))

  -- what the counts of two parts, each to 65,537, make
  pub counted_both : (first others : ℕ) (levels : ℕ) (elements : ClosedElements) (ahead : Ahead) → IsCount documents levels elements first → others ≡ min (ways_ahead documents ahead) 65537 → min (first * others) 65537 ≡ min ((extent_at (document_extent documents levels) documents elements).paths * ways_ahead documents ahead) 65537
  counted_both first others levels elements ahead h e =
      min_mul (extent_at (document_extent documents levels) documents elements).paths (ways_ahead documents ahead) first others (counted documents levels elements first h) e

  -- the way by a policy that no listed document has is passed over
  pub outside_hopeless : (behind : TrackState → ℕ → Search) (c : ℕ) → ((t : TrackState) (m : ℕ) → is_hopeless client t ≡ true → behind t m ≡ Passed (passed_more m c)) → (element : ClosedElement) (track : TrackState) (n : ℕ) → length (outside_paths element) ≡ 1 → search_ways client behind track n (outside_paths element) ≡ Passed (passed_more n c)
  outside_hopeless behind c passes (Authorize key policy_ref) track n h =
      let act = Approve key policy_ref zero_digest zero_digest in
      ways_one client behind track n (outside_path act) ∙ passes (track_along client track (outside_path act)) n (hopeless_outside client track act)
  outside_hopeless behind c passes (AuthorizeNv index) track n h =
      let act = ApproveNv index zero_digest in
      ways_one client behind track n (outside_path act) ∙ passes (track_along client track (outside_path act)) n (hopeless_outside client track act)
  outside_hopeless behind c passes (Assert assertion) track n h = absurd (omega arith)
  outside_hopeless behind c passes (Or branches) track n h = absurd (omega arith)

-- ---- the documents that are left

module _ (documents : List ApprovedDoc) (levels : ℕ) (element : ClosedElement) where
  abbrev pub left : ℕ → List Path
  left i = approved_paths (document_paths documents levels) (drop i documents) element

  pub next_left : (i : ℕ) (document : ApprovedDoc) → i < length documents → document ≡ get_or documents i document → left i ≡ part documents levels element document ++ left (i + 1)
  next_left i document inside is =
      ap (λ l. approved_paths (document_paths documents levels) l element) (drop-cons documents i document inside)
      ∙ ap (λ n. part documents levels element (get_or documents i document) ++ left n) (sym (add-one i))
      ∙ ap (λ x. part documents levels element x ++ left (i + 1)) (sym is)

  pub none_left : (i : ℕ) → length documents ≤ i → left i ≡ []
  none_left i h = ap (λ l. approved_paths (document_paths documents levels) l element) (drop_all i documents h)

-- the ways of a document, each before the move that uses its approval
pub entered : (client : Client) (behind : TrackState → ℕ → Search) (documents : List ApprovedDoc) (levels : ℕ) (element : ClosedElement) (document : ApprovedDoc) (act : Move) (d : Digest32) (track : TrackState) (n : ℕ) (found : Search) → levels ≢ 0 → Some act ≡ approval_of element document → d ≡ zero_digest → found ≡ search_ways client (λ t m. behind (track_after client t act) m) track n (element_list_ways documents (levels - 1) document.closed.elements d) → search_ways client behind track n (part documents levels element document) ≡ found
entered client behind documents levels element document act d track n found level asks e is =
    ap (λ o. search_ways client behind track n (paths_by_approval o document (document_paths documents levels document))) (sym asks)
    ∙ ap (λ l. search_ways client behind track n (map (between (Document document.document) act) l)) (document_paths-some documents levels document level)
    ∙ ways_between client behind track n (Document document.document) act (element_list_ways documents (levels - 1) document.closed.elements zero_digest)
    ∙ sym (is ∙ ap (λ x. search_ways client (λ t m. behind (track_after client t act) m) track n (element_list_ways documents (levels - 1) document.closed.elements x)) e)

-- ---- the first path

-- the position of what is found, from 1
abbrev pub position_of : Search → Option ℕ
position_of (Found index) = Some (index + 1)
position_of (Passed passed) = None

-- where no session is free, no path is open
pub without_session : (client : Client) → client.sight.free_sessions ≡ 0 → (path : Path) → is_none (block_on client path) ≡ false
without_session client none path = by path.outside
  where
    by : (outside : Bool) → is_none (or_else (whole_block client.sight outside) (moves_block client 1 (fresh_session client.sight) path.moves)) ≡ false
    by true = refl
    by false =
        ap (λ n. is_none (or_else (block_of 0 (unless (not (n == 0)) NoSession)) (moves_block client 1 (fresh_session client.sight) path.moves))) none

module _ (client : Client) where
  pub first_found : (n : ℕ) (ways : List Path) → n + length ways ≤ 65537 → AllByRecursion (λ way. length way.moves ≤ 512) ways → position_of (search_ways client (search_end client) (fresh_track client) n ways) ≡ first_path (λ way. is_none (block_on client way)) (n + 1) ways
  first_found n [] few short = refl
  first_found n (way ∷ ways) few short =
      ap (λ o. position_of (go_on (if is_none o then Found n else Passed (passed_more n 1)) (λ m. search_ways client (search_end client) (fresh_track client) m ways))) (path_ends client way short.0)
      ∙ by (is_none (block_on client way)) (first_found (n + 1) ways (omega arith) short.1)
    where
      by : (b : Bool) → position_of (search_ways client (search_end client) (fresh_track client) (n + 1) ways) ≡ first_path (λ x. is_none (block_on client x)) (n + 1 + 1) ways → position_of (go_on (if b then Found n else Passed (passed_more n 1)) (λ m. search_ways client (search_end client) (fresh_track client) m ways)) ≡ (if b then Some (n + 1) else first_path (λ x. is_none (block_on client x)) (n + 1 + 1) ways)
      by true later = refl
      by false later =
          let e : passed_more n 1 ≡ n + 1 = omega arith in
          ap (λ m. position_of (search_ways client (search_end client) (fresh_track client) m ways)) e ∙ later

  pub found_within : (track : TrackState) (n index : ℕ) (ways : List Path) → n ≤ 65537 → search_ways client (search_end client) track n ways ≡ Found index → index ≤ 65537
  found_within track n index [] few h = absurd cc
  found_within track n index (way ∷ ways) few h =
      by (is_none (block_at_end client (track_along client track way))) (found_within track (passed_more n 1) index ways (omega arith)) h
    where
      by : (b : Bool) → (search_ways client (search_end client) track (passed_more n 1) ways ≡ Found index → index ≤ 65537) → go_on (if b then Found n else Passed (passed_more n 1)) (λ m. search_ways client (search_end client) track m ways) ≡ Found index → index ≤ 65537
      by true later e = let same : n ≡ index = cc in omega arith
      by false later e = later e

  pub is_counted : (track : TrackState) (n : ℕ) (ways : List Path) (found : Search) → n ≤ 65537 → found ≡ search_ways client (search_end client) track n ways → IsCounted found
  is_counted track n ways (Found index) few e = found_within track n index ways few (sym e)
  is_counted track n ways (Passed passed) few e = tt
