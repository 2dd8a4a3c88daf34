-- The extent of a policy is the number of its paths and the moves of the longest.
use Rattle.std.proofs.Common.{◌≡◌, ℕ, zero, suc, ◌+◌, ◌*◌, ◌<◌, ◌≤◌, min, max, List, [], ◌∷◌, ◌++◌, length, map, Option, Some, None, ◌⊎◌, inl, inr, ⊎_elim, refl, sym, ap, ◌∙◌, subst, arith, length-append}
use Rattle.std.specs.Prelude.{Any, is_some, if◌then◌else◌}
use Rattle.std.specs.List.{AllByRecursion}
use Rattle.std.proofs.lemmas.Bool.{cases_lt}
use Rattle.std.proofs.lemmas.List.{append-nil, length-map}
use Rattle.std.proofs.lemmas.List.Elements.{All-from_recursion}
use Rattle.tpol_base.specs.declared.digest.Digest32.{Digest32}
use Rattle.tpol_tree.specs.declared.closed.Closed.{Closed}
use Rattle.tpol_tree.specs.declared.closed.ClosedElements.{ClosedElements}
use Rattle.tpol_tree.specs.declared.closed.ClosedElements.TheVariants.{More', End}
use Rattle.tpol_tree.specs.declared.closed.ClosedElement.{ClosedElement}
use Rattle.tpol_tree.specs.declared.closed.ClosedElement.TheVariants.{Assert, Or, Authorize, AuthorizeNv}
use Rattle.tpol_tree.specs.declared.closed.ClosedBranches.{ClosedBranches}
use Rattle.tpol_tree.specs.declared.closed.ClosedBranches.TheVariants.{More' as MoreBranches', End as EndBranches}
use Rattle.tpol_tree.specs.declared.path.ApprovedDoc.{ApprovedDoc}
use Rattle.tpol_tree.specs.declared.path.Move.{Move}
use Rattle.tpol_tree.specs.declared.path.Move.TheVariants.{Or as OrMove, Approve, ApproveNv}
use Rattle.tpol_tree.specs.declared.path.Path.{Path}
use Rattle.tpol_tree.specs.declared.path.PathStep.{PathStep}
use Rattle.tpol_tree.specs.declared.path.PathStep.TheVariants.{Branch, Document}
use Rattle.tpol_digest.specs.Digest.{zero_digest, digest_at_element, branch_digests}
use Rattle.tpol_digest.specs.Paths.{empty_path, followed_by, product, between, outside_path, approval_of, paths_by_approval, approved_paths, paths_at, paths_at_element, paths_at_branches, document_paths, paths_of}
use Rattle.tpol_digest.specs.Extent.{FullExtent, where_paths, no_path, one_move, both, either, longer, extent_by_approval, extent_at, extent_at_element, extent_at_branches, document_extent, IsCapped}
use Rattle.tpol_digest.specs.declared.extent.Extent.{Extent}
use Rattle.tpol_digest.proofs.Extents.{mul_positive, where_some}
use Rattle.tpol_digest.proofs.Products.{Each-append, Each-product, product_none}
use Rattle.tpol_digest.proofs.Walks.{length-product}

-- some path has at least so many moves
abbrev pub HasLong : ℕ → List Path → Type 0
HasLong n [] = ⊥
HasLong n (p ∷ rest) = (n ≤ length p.moves) ⊎ HasLong n rest

has_long_left : (n : ℕ) (xs ys : List Path) → HasLong n xs → HasLong n (xs ++ ys)
has_long_left n [] ys h = absurd h
has_long_left n (x ∷ xs) ys (inl h) = inl h
has_long_left n (x ∷ xs) ys (inr h) = inr (has_long_left n xs ys h)

has_long_right : (n : ℕ) (xs ys : List Path) → HasLong n ys → HasLong n (xs ++ ys)
has_long_right n [] ys h = h
has_long_right n (x ∷ xs) ys h = inr (has_long_right n xs ys h)

-- there are as many paths as the extent says, none has more moves, and one has as many
pub record Measures (extent : FullExtent) (paths : List Path) : Type 0 where
  pub count : length paths ≡ extent.paths
  pub most : AllByRecursion (λ p. length p.moves ≤ extent.moves) paths
  pub reached : HasLong extent.moves paths

-- the same where there may be no path
abbrev pub MeasuresAny : FullExtent → List Path → Type 0
MeasuresAny extent paths = ((extent ≡ no_path) × (paths ≡ [])) ⊎ Measures extent paths

pub any_count : (extent : FullExtent) (paths : List Path) → MeasuresAny extent paths → length paths ≡ extent.paths
any_count extent paths (inl h) = ap length h.1 ∙ sym (ap (λ x. x.paths) h.0)
any_count extent paths (inr h) = h.count

long_some : (n : ℕ) (paths : List Path) → HasLong n paths → 1 ≤ length paths
long_some n [] h = absurd h
long_some n (p ∷ rest) h = omega arith

some_paths : (extent : FullExtent) (paths : List Path) → Measures extent paths → 1 ≤ extent.paths
some_paths extent paths h = omega (arith, h.count, long_some extent.moves paths h.reached)

same_extent : (a b : FullExtent) → a.paths ≡ b.paths → a.moves ≡ b.moves → a ≡ b
same_extent a b paths moves = λ i. record { paths = paths i; moves = moves i }

weaker : (m n : ℕ) → m ≤ n → (paths : List Path) → AllByRecursion (λ p. length p.moves ≤ m) paths → AllByRecursion (λ p. length p.moves ≤ n) paths
weaker m n le [] h = tt
weaker m n le (p ∷ rest) h = (omega (arith, h.0), weaker m n le rest h.1)

lower : (m n : ℕ) → m ≤ n → (paths : List Path) → HasLong n paths → HasLong m paths
lower m n le [] h = absurd h
lower m n le (p ∷ rest) (inl h) = inl (omega arith)
lower m n le (p ∷ rest) (inr h) = inr (lower m n le rest h)

-- ---- either part

measures_either : (a b : FullExtent) (xs ys : List Path) → Measures a xs → Measures b ys → Measures (either a b) (xs ++ ys)
measures_either a b xs ys h k = record {
  count = length-append xs ys ∙ ap (λ n. n + length ys) h.count ∙ ap (λ n. a.paths + n) k.count;
  most = Each-append (λ p. length p.moves ≤ max a.moves b.moves) xs ys (weaker a.moves (max a.moves b.moves) (omega arith) xs h.most) (weaker b.moves (max a.moves b.moves) (omega arith) ys k.most);
  reached = ⊎_elim (λ lt. has_long_right (max a.moves b.moves) xs ys (lower (max a.moves b.moves) b.moves (omega arith) ys k.reached)) (λ le. has_long_left (max a.moves b.moves) xs ys (lower (max a.moves b.moves) a.moves (omega arith) xs h.reached)) (cases_lt a.moves b.moves);
}

any_either : (a b : FullExtent) (xs ys : List Path) → MeasuresAny a xs → Measures b ys → Measures (either a b) (xs ++ ys)
any_either a b xs ys (inl h) k =
    let extent : b ≡ either a b = same_extent b (either a b) (let e = ap (λ x. x.paths) h.0 in omega arith) (let e = ap (λ x. x.moves) h.0 in omega arith) in
    let paths : ys ≡ xs ++ ys = ap (λ l. l ++ ys) (sym h.1) in
    subst (λ e. Measures e (xs ++ ys)) extent (subst (Measures b) paths k)
any_either a b xs ys (inr h) k = measures_either a b xs ys h k

either_any : (a b : FullExtent) (xs ys : List Path) → Measures a xs → MeasuresAny b ys → Measures (either a b) (xs ++ ys)
either_any a b xs ys h (inl k) =
    let extent : a ≡ either a b = same_extent a (either a b) (let e = ap (λ x. x.paths) k.0 in omega arith) (let e = ap (λ x. x.moves) k.0 in omega arith) in
    let paths : xs ≡ xs ++ ys = sym (append-nil xs) ∙ ap (λ l. xs ++ l) (sym k.1) in
    subst (λ e. Measures e (xs ++ ys)) extent (subst (Measures a) paths h)
either_any a b xs ys h (inr k) = measures_either a b xs ys h k

any_any : (a b : FullExtent) (xs ys : List Path) → MeasuresAny a xs → MeasuresAny b ys → MeasuresAny (either a b) (xs ++ ys)
any_any a b xs ys (inl h) (inl k) =
    inl (same_extent (either a b) no_path (let e = ap (λ x. x.paths) h.0 in let f = ap (λ x. x.paths) k.0 in omega arith) (let e = ap (λ x. x.moves) h.0 in let f = ap (λ x. x.moves) k.0 in omega arith), ap (λ l. l ++ ys) h.1 ∙ k.1)
any_any a b xs ys (inl h) (inr k) = inr (any_either a b xs ys (inl h) k)
any_any a b xs ys (inr h) k = inr (either_any a b xs ys h k)

-- ---- one more move

between_moves : (step : PathStep) (act : Move) (p : Path) → length (between step act p).moves ≡ length p.moves + 1
between_moves step act p = length-append p.moves (act ∷ [])

longer_most : (n : ℕ) (step : PathStep) (act : Move) (paths : List Path) → AllByRecursion (λ p. length p.moves ≤ n) paths → AllByRecursion (λ p. length p.moves ≤ n + 1) (map (between step act) paths)
longer_most n step act [] h = tt
longer_most n step act (p ∷ rest) h = (omega (arith, between_moves step act p, h.0), longer_most n step act rest h.1)

longer_reached : (n : ℕ) (step : PathStep) (act : Move) (paths : List Path) → HasLong n paths → HasLong (n + 1) (map (between step act) paths)
longer_reached n step act [] h = absurd h
longer_reached n step act (p ∷ rest) (inl h) = inl (omega (arith, between_moves step act p))
longer_reached n step act (p ∷ rest) (inr h) = inr (longer_reached n step act rest h)

measures_longer : (a : FullExtent) (step : PathStep) (act : Move) (paths : List Path) → Measures a paths → Measures (longer a) (map (between step act) paths)
measures_longer a step act paths h =
    let moves : a.moves + 1 ≡ (longer a).moves = sym (where_some a.paths (a.moves + 1) (some_paths a paths h)) in
    record {
      count = length-map paths (between step act) ∙ h.count;
      most = subst (λ n. AllByRecursion (λ p. length p.moves ≤ n) (map (between step act) paths)) moves (longer_most a.moves step act paths h.most);
      reached = subst (λ n. HasLong n (map (between step act) paths)) moves (longer_reached a.moves step act paths h.reached);
    }

any_longer : (a : FullExtent) (step : PathStep) (act : Move) (paths : List Path) → MeasuresAny a paths → MeasuresAny (longer a) (map (between step act) paths)
any_longer a step act paths (inl h) = inl (ap longer h.0, ap (map (between step act)) h.1)
any_longer a step act paths (inr h) = inr (measures_longer a step act paths h)

-- ---- one part after the other

followed_moves : (p q : Path) → length (followed_by p q).moves ≡ length p.moves + length q.moves
followed_moves p q = length-append p.moves q.moves

reached_behind : (m n : ℕ) (x : Path) → m ≤ length x.moves → (ys : List Path) → HasLong n ys → HasLong (m + n) (map (followed_by x) ys)
reached_behind m n x le [] h = absurd h
reached_behind m n x le (y ∷ ys) (inl h) = inl (omega (arith, followed_moves x y))
reached_behind m n x le (y ∷ ys) (inr h) = inr (reached_behind m n x le ys h)

reached_product : (m n : ℕ) (xs ys : List Path) → HasLong m xs → HasLong n ys → HasLong (m + n) (product xs ys)
reached_product m n [] ys h k = absurd h
reached_product m n (x ∷ xs) ys (inl h) k = has_long_left (m + n) (map (followed_by x) ys) (product xs ys) (reached_behind m n x h ys k)
reached_product m n (x ∷ xs) ys (inr h) k = has_long_right (m + n) (map (followed_by x) ys) (product xs ys) (reached_product m n xs ys h k)

measures_both : (a b : FullExtent) (xs ys : List Path) → Measures a xs → Measures b ys → Measures (both a b) (product xs ys)
measures_both a b xs ys h k =
    let moves : a.moves + b.moves ≡ (both a b).moves = sym (where_some (a.paths * b.paths) (a.moves + b.moves) (mul_positive a.paths b.paths (some_paths a xs h) (some_paths b ys k))) in
    record {
      count = length-product xs ys ∙ ap (λ n. n * length ys) h.count ∙ ap (λ n. a.paths * n) k.count;
      most = subst (λ n. AllByRecursion (λ p. length p.moves ≤ n) (product xs ys)) moves (Each-product (λ p. length p.moves ≤ a.moves) (λ p. length p.moves ≤ b.moves) (λ p. length p.moves ≤ a.moves + b.moves) xs ys (λ p q x y. omega (arith, followed_moves p q)) h.most k.most);
      reached = subst (λ n. HasLong n (product xs ys)) moves (reached_product a.moves b.moves xs ys h.reached k.reached);
    }

-- a part without a path leaves none
both_none : (a : FullExtent) → both a no_path ≡ no_path
both_none a =
    let none : a.paths * 0 ≡ 0 = omega arith in
    same_extent (both a no_path) no_path none (ap (λ p. where_paths p (a.moves + 0)) none)

none_both : (b : FullExtent) → both no_path b ≡ no_path
none_both b =
    let none : 0 * b.paths ≡ 0 = omega arith in
    same_extent (both no_path b) no_path none (ap (λ p. where_paths p (0 + b.moves)) none)

any_both : (a b : FullExtent) (xs ys : List Path) → MeasuresAny a xs → MeasuresAny b ys → MeasuresAny (both a b) (product xs ys)
any_both a b xs ys (inl h) k = inl (ap (λ x. both x b) h.0 ∙ none_both b, ap (λ l. product l ys) h.1)
any_both a b xs ys (inr h) (inl k) =
    inl (ap (both a) k.0 ∙ both_none a, ap (product xs) k.1 ∙ product_none xs)
any_both a b xs ys (inr h) (inr k) = inr (measures_both a b xs ys h k)

measures_one : (n : ℕ) (p : Path) → length p.moves ≡ n → Measures (record { paths = 1; moves = n }) (p ∷ [])
measures_one n p e = record { count = refl; most = (omega arith, tt); reached = inl (omega arith) }

-- ---- policies

-- what the extents and the paths of documents agree on
abbrev Agrees : Option (ApprovedDoc → FullExtent) → (ApprovedDoc → List Path) → List ApprovedDoc → Type 0
Agrees None paths documents = AllByRecursion (λ document. paths document ≡ []) documents
Agrees (Some extents) paths documents = AllByRecursion (λ document. MeasuresAny (extents document) (paths document)) documents

approvals_none : (paths : ApprovedDoc → List Path) (element : ClosedElement) (documents : List ApprovedDoc) → AllByRecursion (λ document. paths document ≡ []) documents → approved_paths paths documents element ≡ []
approvals_none paths element [] h = refl
approvals_none paths element (document ∷ rest) h =
    ap (λ l. l ++ approved_paths paths rest element) (ap (paths_by_approval (approval_of element document) document) h.0 ∙ nothing (approval_of element document)) ∙ approvals_none paths element rest h.1
  where
    nothing : (found : Option Move) → paths_by_approval found document [] ≡ []
    nothing None = refl
    nothing (Some act) = refl

one_measures : (extent : FullExtent) (document : ApprovedDoc) (paths : List Path) → MeasuresAny extent paths → (found : Option Move) → MeasuresAny (if is_some found then longer extent else no_path) (paths_by_approval found document paths)
one_measures extent document paths h None = inl (refl, refl)
one_measures extent document paths h (Some act) = any_longer extent (Document document.document) act paths h

approvals_measure : (extents : ApprovedDoc → FullExtent) (paths : ApprovedDoc → List Path) (element : ClosedElement) (documents : List ApprovedDoc) → AllByRecursion (λ document. MeasuresAny (extents document) (paths document)) documents → MeasuresAny (extent_by_approval (Some extents) element documents) (approved_paths paths documents element)
approvals_measure extents paths element [] h = inl (refl, refl)
approvals_measure extents paths element (document ∷ rest) h =
    any_any (if is_some (approval_of element document) then longer (extents document) else no_path) (extent_by_approval (Some extents) element rest) (paths_by_approval (approval_of element document) document (paths document)) (approved_paths paths rest element) (one_measures (extents document) document (paths document) h.0 (approval_of element document)) (approvals_measure extents paths element rest h.1)

approvals_agree : (extents : Option (ApprovedDoc → FullExtent)) (paths : ApprovedDoc → List Path) (element : ClosedElement) (documents : List ApprovedDoc) → Agrees extents paths documents → MeasuresAny (extent_by_approval extents element documents) (approved_paths paths documents element)
approvals_agree None paths element documents h = inl (refl, approvals_none paths element documents h)
approvals_agree (Some extents) paths element documents h = approvals_measure extents paths element documents h

module _ (extents : Option (ApprovedDoc → FullExtent)) (within : ApprovedDoc → List Path) (documents : List ApprovedDoc) (agree : Agrees extents within documents) where
  mutual
    pub extent_at-measures : (elements : ClosedElements) (d : Digest32) → MeasuresAny (extent_at extents documents elements) (paths_at within documents elements d)
    extent_at-measures End d = inr (measures_one 0 empty_path refl)
    extent_at-measures (More' p element q rest) d =
        any_both (extent_at_element extents documents element) (extent_at extents documents rest) (paths_at_element within documents element d) (paths_at within documents rest (digest_at_element element d)) (extent_at_element-measures element d) (extent_at-measures rest (digest_at_element element d))

    pub extent_at_element-measures : (element : ClosedElement) (d : Digest32) → MeasuresAny (extent_at_element extents documents element) (paths_at_element within documents element d)
    extent_at_element-measures (Assert assertion) d = inr (measures_one 1 _ refl)
    extent_at_element-measures (Or branches) d = extent_at_branches-measures branches 1 (OrMove (branch_digests branches d)) d
    extent_at_element-measures (Authorize key policy_ref) d =
        inr (any_either (extent_by_approval extents (Authorize key policy_ref) documents) one_move (approved_paths within documents (Authorize key policy_ref)) (outside_path (Approve key policy_ref zero_digest zero_digest) ∷ []) (approvals_agree extents within (Authorize key policy_ref) documents agree) (measures_one 1 _ refl))
    extent_at_element-measures (AuthorizeNv index) d =
        inr (any_either (extent_by_approval extents (AuthorizeNv index) documents) one_move (approved_paths within documents (AuthorizeNv index)) (outside_path (ApproveNv index zero_digest) ∷ []) (approvals_agree extents within (AuthorizeNv index) documents agree) (measures_one 1 _ refl))

    pub extent_at_branches-measures : (branches : ClosedBranches) (position : ℕ) (act : Move) (d : Digest32) → MeasuresAny (extent_at_branches extents documents branches) (paths_at_branches within documents branches position act d)
    extent_at_branches-measures EndBranches position act d = inl (refl, refl)
    extent_at_branches-measures (MoreBranches' p name elements q rest) position act d =
        any_any (longer (extent_at extents documents elements)) (extent_at_branches extents documents rest) (map (between (Branch position name) act) (paths_at within documents elements d)) (paths_at_branches within documents rest (position + 1) act d) (any_longer (extent_at extents documents elements) (Branch position name) act (paths_at within documents elements d) (extent_at-measures elements d)) (extent_at_branches-measures rest (position + 1) act d)

pub document_agrees : (documents : List ApprovedDoc) (levels : ℕ) → Agrees (document_extent documents levels) (document_paths documents levels) documents
unfolding document_paths document_extent
document_agrees documents zero = each documents
  where
    each : (some : List ApprovedDoc) → AllByRecursion (λ document. document_paths documents zero document ≡ []) some
    each [] = tt
    each (document ∷ rest) = (refl, each rest)
document_agrees documents (suc levels) = each (document_agrees documents levels) documents
  where
    each : Agrees (document_extent documents levels) (document_paths documents levels) documents → (some : List ApprovedDoc) → AllByRecursion (λ document. MeasuresAny (extent_at (document_extent documents levels) documents document.closed.elements) (document_paths documents (suc levels) document)) some
    each before [] = tt
    each before (document ∷ rest) =
        (extent_at-measures (document_extent documents levels) (document_paths documents levels) documents before document.closed.elements zero_digest, each before rest)

pub paths_of-measures : (policy : Closed) (approvals : List ApprovedDoc) → MeasuresAny (extent_at (document_extent approvals 4) approvals policy.elements) (paths_of policy approvals)
paths_of-measures policy approvals =
    extent_at-measures (document_extent approvals 4) (document_paths approvals 4) approvals (document_agrees approvals 4) policy.elements zero_digest

-- ---- the limits

any_from_long : (n : ℕ) (paths : List Path) → HasLong (n + 1) paths → Any (λ p. n < length p.moves) paths
any_from_long n [] h = absurd h
any_from_long n (p ∷ rest) (inl h) = (0, p, omega arith, refl, omega arith)
any_from_long n (p ∷ rest) (inr h) =
    let found = any_from_long n rest h in (suc found.0, found.1, omega (arith, found.2), found.3, found.4)

no_long : (n : ℕ) (paths : List Path) → AllByRecursion (λ p. length p.moves ≤ n) paths → Any (λ p. n < length p.moves) paths → ⊥
no_long n paths h found =
    let low = All-from_recursion (λ p. length p.moves ≤ n) paths h found.0 found.1 found.2 in
    let low' = subst (λ p. length p.moves ≤ n) found.3 low in
    omega (arith, low', found.4)

module _ (extent : Extent) (full : FullExtent) (paths : List Path) (capped : IsCapped extent full) (measures : MeasuresAny full paths) where
  count : length paths ≡ full.paths
  count = any_count full paths measures

  pub counted : extent.paths ≡ min (length paths) 65537
  counted = capped.paths ∙ ap (λ n. min n 65537) (sym count)

  pub many : 65536 < extent.paths → 65536 < length paths
  many h = let a = capped.paths in let b = count in omega arith

  pub few : extent.paths ≤ 65536 → length paths ≤ 65536
  few h = let a = capped.paths in let b = count in omega arith

  pub long : extent.paths ≤ 65536 → 512 < extent.moves → Any (λ p. 512 < length p.moves) paths
  long h k =
      let a = capped.paths in
      let b = capped.moves (omega arith) in
      let high : 512 + 1 ≤ full.moves = omega arith in
      reached measures high
    where
      reached : MeasuresAny full paths → 512 + 1 ≤ full.moves → Any (λ p. 512 < length p.moves) paths
      reached (inl none) high = absurd (omega (arith, high, ap (λ x. x.moves) none.0))
      reached (inr some) high = any_from_long 512 paths (lower (512 + 1) full.moves high paths some.reached)

  pub short : extent.paths ≤ 65536 → extent.moves ≤ 512 → Any (λ p. 512 < length p.moves) paths → ⊥
  short h k =
      let a = capped.paths in
      let b = capped.moves (omega arith) in
      let low : full.moves ≤ 512 = omega arith in
      no_long 512 paths (most measures low)
    where
      most : MeasuresAny full paths → full.moves ≤ 512 → AllByRecursion (λ p. length p.moves ≤ 512) paths
      most (inl none) low = subst (AllByRecursion (λ (p : Path). length p.moves ≤ 512)) (sym none.1) tt
      most (inr some) low = weaker full.moves 512 low paths some.most
