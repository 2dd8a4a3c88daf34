-- Extents that are counted no further than one past their limits.
use Rattle.std.proofs.Common.{◌≡◌, ◌≢◌, ℕ, zero, suc, ◌+◌, ◌-◌, ◌*◌, ◌<◌, ◌≤◌, min, max, true, false, List, [], ◌∷◌, ◌++◌, length, get_or, take, drop, Option, Some, None, refl, sym, ap, ◌∙◌, subst, ⊎_elim, arith}
use Rattle.std.proofs.Math.Nat.{mul-le-mul_left}
use Rattle.std.proofs.lemmas.Bool.{cases_lt}
use Rattle.std.specs.Prelude.{is_some, if◌then◌else◌}
use Rattle.std.proofs.lemmas.List.{take_more, take-append-drop}
use Rattle.tpol_tree.specs.declared.closed.ClosedElement.{ClosedElement}
use Rattle.tpol_tree.specs.declared.path.ApprovedDoc.{ApprovedDoc}
use Rattle.tpol_digest.specs.declared.extent.Extent.{Extent}
use Rattle.tpol_digest.specs.Paths.{approval_of}
use Rattle.tpol_digest.specs.Extent.{FullExtent, where_paths, no_path, both, either, longer, extent_by_approval, extent_at, document_extent, IsCapped}

-- ---- where there is a path

pub mul_positive : (a b : ℕ) → 1 ≤ a → 1 ≤ b → 1 ≤ a * b
mul_positive a b h k = grind arith

pub parts_positive : (a b : ℕ) → 1 ≤ a * b → (1 ≤ a) × (1 ≤ b)
parts_positive zero b h = absurd (omega arith)
parts_positive (suc a) zero h = absurd (grind arith)
parts_positive (suc a) (suc b) h = (omega arith, omega arith)

pub where_some : (paths moves : ℕ) → 1 ≤ paths → where_paths paths moves ≡ moves
where_some zero moves h = absurd (omega arith)
where_some (suc more) moves h = refl

-- ---- counted to the limit

pub mul_bounds : (a b c : ℕ) → 1 ≤ a → 1 ≤ b → a * b ≤ c → (a ≤ c) × (b ≤ c)
mul_bounds a b c h k l = (omega (arith, mul-le-mul_left a k), omega (arith, mul-le-mul_left b h))

min_mul_some : (a b x y : ℕ) → x ≡ min a 65537 → y ≡ min b 65537 → 1 ≤ a → 1 ≤ b → min (x * y) 65537 ≡ min (a * b) 65537
min_mul_some a b x y ex ey h k =
    ⊎_elim
    (λ small_a.
    ⊎_elim
    (λ small_b.
    let same_a : x ≡ a = omega arith in
    let same_b : y ≡ b = omega arith in
    ap (λ n. min (n * y) 65537) same_a ∙ ap (λ n. min (a * n) 65537) same_b)
    (λ large_b.
    let x_positive : 1 ≤ x = omega arith in
    omega (arith, mul-le-mul_left y x_positive, mul-le-mul_left b h))
    (cases_lt b 65537))
    (λ large_a.
    let y_positive : 1 ≤ y = omega arith in
    omega (arith, mul-le-mul_left x y_positive, mul-le-mul_left a k))
    (cases_lt a 65537)

none_left : (b : ℕ) → 0 * b ≡ 0
none_left b = omega arith

none_right : (a : ℕ) → a * 0 ≡ 0
none_right a = omega arith

pub min_mul : (a b x y : ℕ) → x ≡ min a 65537 → y ≡ min b 65537 → min (x * y) 65537 ≡ min (a * b) 65537
min_mul zero b x y ex ey =
    let none : x ≡ 0 = omega arith in
    ap (λ n. min n 65537) (ap (λ n. n * y) none ∙ none_left y ∙ sym (none_left b))
min_mul (suc a) zero x y ex ey =
    let none : y ≡ 0 = omega arith in
    ap (λ n. min n 65537) (ap (λ n. x * n) none ∙ none_right x ∙ sym (none_right (suc a)))
min_mul (suc a) (suc b) x y ex ey = min_mul_some (suc a) (suc b) x y ex ey (omega arith) (omega arith)

-- the moves of two parts one after the other
both_moves : (a b : FullExtent) (r s t : Extent) → IsCapped r a → IsCapped s b → t.moves ≡ where_paths (r.paths * s.paths) (min (r.moves + s.moves) 513) → a.paths * b.paths ≤ 65536 → (m n : ℕ) → a.paths ≡ m → b.paths ≡ n → t.moves ≡ min (both a b).moves 513
both_moves a b r s t ra sb moves few zero n am bn =
    let none : r.paths ≡ 0 = omega (arith, ra.paths, am) in
    moves
    ∙ ap (λ p. where_paths p (min (r.moves + s.moves) 513)) (ap (λ p. p * s.paths) none ∙ none_left s.paths)
    ∙ sym (ap (λ p. min (where_paths p (a.moves + b.moves)) 513) (ap (λ p. p * b.paths) am ∙ none_left b.paths))
both_moves a b r s t ra sb moves few (suc m) zero am bn =
    let none : s.paths ≡ 0 = omega (arith, sb.paths, bn) in
    moves
    ∙ ap (λ p. where_paths p (min (r.moves + s.moves) 513)) (ap (λ p. r.paths * p) none ∙ none_right r.paths)
    ∙ sym (ap (λ p. min (where_paths p (a.moves + b.moves)) 513) (ap (λ p. a.paths * p) bn ∙ none_right a.paths))
both_moves a b r s t ra sb moves few (suc m) (suc n) am bn =
    let pa : 1 ≤ a.paths = omega arith in
    let pb : 1 ≤ b.paths = omega arith in
    let pr : 1 ≤ r.paths = omega (arith, ra.paths) in
    let ps : 1 ≤ s.paths = omega (arith, sb.paths) in
    let bounds = mul_bounds a.paths b.paths 65536 pa pb few in
    let first = ra.moves bounds.0 in
    let second = sb.moves bounds.1 in
    let code = where_some (r.paths * s.paths) (min (r.moves + s.moves) 513) (mul_positive r.paths s.paths pr ps) in
    let full = where_some (a.paths * b.paths) (a.moves + b.moves) (mul_positive a.paths b.paths pa pb) in
    let sum : min (r.moves + s.moves) 513 ≡ min (a.moves + b.moves) 513 = omega (arith, first, second) in
    moves ∙ code ∙ sum ∙ ap (λ n. min n 513) (sym full)

pub capped_both : (r s t : Extent) (a b : FullExtent) → IsCapped r a → IsCapped s b → t.paths ≡ min (r.paths * s.paths) 65537 → t.moves ≡ where_paths (r.paths * s.paths) (min (r.moves + s.moves) 513) → IsCapped t (both a b)
capped_both r s t a b ra sb paths moves = record {
  paths = paths ∙ min_mul a.paths b.paths r.paths s.paths ra.paths sb.paths;
  moves = λ few. both_moves a b r s t ra sb moves few a.paths b.paths refl refl;
}

pub capped_either : (r s t : Extent) (a b : FullExtent) → IsCapped r a → IsCapped s b → t.paths ≡ min (r.paths + s.paths) 65537 → t.moves ≡ max r.moves s.moves → IsCapped t (either a b)
capped_either r s t a b ra sb paths moves = record {
  paths = let x = ra.paths in let y = sb.paths in omega arith;
  moves = λ few. let first = ra.moves (omega arith) in let second = sb.moves (omega arith) in omega arith;
}

longer_moves : (r t : Extent) (a : FullExtent) → IsCapped r a → t.moves ≡ where_paths r.paths (min (r.moves + 1) 513) → a.paths ≤ 65536 → (m : ℕ) → a.paths ≡ m → t.moves ≡ min (longer a).moves 513
longer_moves r t a ra moves few zero am =
    let none : r.paths ≡ 0 = omega (arith, ra.paths, am) in
    moves
    ∙ ap (λ p. where_paths p (min (r.moves + 1) 513)) none
    ∙ sym (ap (λ p. min (where_paths p (a.moves + 1)) 513) am)
longer_moves r t a ra moves few (suc m) am =
    let pr : 1 ≤ r.paths = omega (arith, ra.paths, am) in
    let first = ra.moves few in
    let code = where_some r.paths (min (r.moves + 1) 513) pr in
    let full = where_some a.paths (a.moves + 1) (omega arith) in
    let sum : min (r.moves + 1) 513 ≡ min (a.moves + 1) 513 = omega (arith, first) in
    moves ∙ code ∙ sum ∙ ap (λ n. min n 513) (sym full)

pub capped_longer : (r t : Extent) (a : FullExtent) → IsCapped r a → t.paths ≡ r.paths → t.moves ≡ where_paths r.paths (min (r.moves + 1) 513) → IsCapped t (longer a)
capped_longer r t a ra paths moves = record {
  paths = paths ∙ ra.paths;
  moves = λ few. longer_moves r t a ra moves few a.paths refl;
}

-- ---- documents, as a loop over them goes

same_extent : (a b : FullExtent) → a.paths ≡ b.paths → a.moves ≡ b.moves → a ≡ b
same_extent a b paths moves = λ i. record { paths = paths i; moves = moves i }

either_assoc : (a b c : FullExtent) → either (either a b) c ≡ either a (either b c)
either_assoc a b c = same_extent (either (either a b) c) (either a (either b c)) (omega arith) (omega arith)

either_none : (a : FullExtent) → either a no_path ≡ a
either_none a = same_extent (either a no_path) a (omega arith) (omega arith)

either_no_path : (a : FullExtent) → either no_path a ≡ a
either_no_path a = same_extent (either no_path a) a (omega arith) (omega arith)

abbrev pub one_document : (ApprovedDoc → FullExtent) → ClosedElement → ApprovedDoc → FullExtent
one_document within element document =
    if is_some (approval_of element document) then longer (within document) else no_path

module _ (within : ApprovedDoc → FullExtent) (element : ClosedElement) where
  extent_by_approval-append : (xs ys : List ApprovedDoc) → extent_by_approval (Some within) element (xs ++ ys) ≡ either (extent_by_approval (Some within) element xs) (extent_by_approval (Some within) element ys)
  extent_by_approval-append [] ys = sym (either_no_path (extent_by_approval (Some within) element ys))
  extent_by_approval-append (x ∷ xs) ys =
      ap (either (one_document within element x)) (extent_by_approval-append xs ys)
      ∙ sym (either_assoc (one_document within element x) (extent_by_approval (Some within) element xs) (extent_by_approval (Some within) element ys))

  pub extent_by_approval-more : (documents : List ApprovedDoc) (i : ℕ) (d : ApprovedDoc) → i < length documents → extent_by_approval (Some within) element (take (i + 1) documents) ≡ either (extent_by_approval (Some within) element (take i documents)) (one_document within element (get_or documents i d))
  extent_by_approval-more documents i d h =
      ap (extent_by_approval (Some within) element) (take_more documents i d h)
      ∙ extent_by_approval-append (take i documents) (get_or documents i d ∷ [])
      ∙ ap (either (extent_by_approval (Some within) element (take i documents))) (either_none (one_document within element (get_or documents i d)))

  pub extent_by_approval-part : (documents : List ApprovedDoc) (i : ℕ) → (extent_by_approval (Some within) element (take i documents)).paths ≤ (extent_by_approval (Some within) element documents).paths
  extent_by_approval-part documents i =
      let whole = ap (λ x. x.paths) (sym (extent_by_approval-append (take i documents) (drop i documents)) ∙ ap (extent_by_approval (Some within) element) (take-append-drop i documents)) in
      omega arith

-- ---- one level less

pub document_extent-none : (documents : List ApprovedDoc) (levels : ℕ) → levels ≡ 0 → document_extent documents levels ≡ None
unfolding document_extent
document_extent-none documents zero h = refl
document_extent-none documents (suc levels) h = absurd (omega arith)

pub document_extent-some : (documents : List ApprovedDoc) (levels : ℕ) → levels ≢ 0 → document_extent documents levels ≡ Some (λ document. extent_at (document_extent documents (levels - 1)) documents document.closed.elements)
unfolding document_extent
document_extent-some documents zero h = absurd (h refl)
document_extent-some documents (suc levels) h =
    let e : levels ≡ suc levels - 1 = omega arith in
    ap (λ n. Some (λ (document : ApprovedDoc). extent_at (document_extent documents n) documents document.closed.elements)) e

-- ---- the loop over the documents: it starts, it may stop past the limit, and it takes one more

pub capped_start : (within : Option (ApprovedDoc → FullExtent)) (element : ClosedElement) (r : Extent) → r.paths ≡ 0 → r.moves ≡ 0 → IsCapped r (extent_by_approval within element [])
capped_start None element r paths moves = record { paths = paths; moves = λ _. moves }
capped_start (Some within) element r paths moves = record { paths = paths; moves = λ _. moves }

module _ (documents : List ApprovedDoc) (levels : ℕ) (some : levels ≢ 0) (element : ClosedElement) where
  abbrev enter : ApprovedDoc → FullExtent
  enter document = extent_at (document_extent documents (levels - 1)) documents document.closed.elements

  entered : (r : Extent) (xs : List ApprovedDoc) → IsCapped r (extent_by_approval (document_extent documents levels) element xs) → IsCapped r (extent_by_approval (Some enter) element xs)
  entered r xs h = subst (λ within. IsCapped r (extent_by_approval within element xs)) (document_extent-some documents levels some) h

  leave : (r : Extent) (xs : List ApprovedDoc) → IsCapped r (extent_by_approval (Some enter) element xs) → IsCapped r (extent_by_approval (document_extent documents levels) element xs)
  leave r xs h = subst (λ within. IsCapped r (extent_by_approval within element xs)) (sym (document_extent-some documents levels some)) h

  pub capped_past : (r : Extent) (i : ℕ) → IsCapped r (extent_by_approval (document_extent documents levels) element (take i documents)) → 65536 < r.paths → IsCapped r (extent_by_approval (document_extent documents levels) element documents)
  capped_past r i h past =
      let part = extent_by_approval-part enter element documents i in
      let so_far = (entered r (take i documents) h).paths in
      leave r documents (record { paths = omega arith; moves = λ few. absurd (omega arith) })

  pub capped_entered : (r s m t : Extent) (i : ℕ) (document : ApprovedDoc) → i < length documents → document ≡ get_or documents i document → is_some (approval_of element document) ≡ true → IsCapped r (extent_by_approval (document_extent documents levels) element (take i documents)) → IsCapped s (enter document) → m.paths ≡ s.paths → m.moves ≡ where_paths s.paths (min (s.moves + 1) 513) → t.paths ≡ min (r.paths + m.paths) 65537 → t.moves ≡ max r.moves m.moves → IsCapped t (extent_by_approval (document_extent documents levels) element (take (i + 1) documents))
  capped_entered r s m t i document within is accepted h k m_paths m_moves t_paths t_moves =
      let one = capped_either r m t (extent_by_approval (Some enter) element (take i documents)) (longer (enter document)) (entered r (take i documents) h) (capped_longer s m (enter document) k m_paths m_moves) t_paths t_moves in
      let chosen : one_document enter element document ≡ longer (enter document) = ap (λ b. if b then longer (enter document) else no_path) accepted in
      leave t (take (i + 1) documents) (subst (IsCapped t) (ap (either (extent_by_approval (Some enter) element (take i documents))) (sym chosen ∙ ap (one_document enter element) is) ∙ sym (extent_by_approval-more enter element documents i document within)) one)

  pub capped_passed : (r : Extent) (i : ℕ) (document : ApprovedDoc) → i < length documents → document ≡ get_or documents i document → is_some (approval_of element document) ≡ false → IsCapped r (extent_by_approval (document_extent documents levels) element (take i documents)) → IsCapped r (extent_by_approval (document_extent documents levels) element (take (i + 1) documents))
  capped_passed r i document within is no_approval h =
      let chosen : one_document enter element document ≡ no_path = ap (λ b. if b then longer (enter document) else no_path) no_approval in
      leave r (take (i + 1) documents) (subst (IsCapped r) (sym (either_none (extent_by_approval (Some enter) element (take i documents))) ∙ ap (either (extent_by_approval (Some enter) element (take i documents))) (sym chosen ∙ ap (one_document enter element) is) ∙ sym (extent_by_approval-more enter element documents i document within)) (entered r (take i documents) h))
