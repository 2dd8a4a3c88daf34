-- The path at a position, part by part.
use Rattle.std.proofs.Common.{◌≡◌, ◌≢◌, ℕ, zero, suc, ◌+◌, ◌-◌, ◌*◌, ◌/◌, ◌%◌, ◌<◌, ◌≤◌, min, true, false, List, [], ◌∷◌, ◌++◌, map, length, get_or, take, Option, Some, None, refl, sym, ap, ◌∙◌, subst, length-append, arith}
use Rattle.std.specs.Prelude.{All, IfSome, is_some}
use Rattle.std.specs.List.{flat_map, slice_get}
use Rattle.std.proofs.Math.Nat.{div-eq_of_eq-mul_left}
use Rattle.std.proofs.lemmas.Nat.{div-add-mod', div_below}
use Rattle.std.proofs.lemmas.Bool.{or_parts}
use Rattle.std.proofs.lemmas.List.{append-nil, length-map, map-append, take_more, take_all}
use Rattle.std.proofs.lemmas.List.Concat.{flat_map-append, get_or-flat_map}
use Rattle.std.proofs.lemmas.List.Folds.{length-flat_map-take}
use Rattle.std.proofs.lemmas.Option.{slice_get_read, slice_get_within, get_or_from_slice_get}
use Rattle.tpol_base.specs.declared.digest.Digest32.{Digest32}
use Rattle.tpol_tree.specs.declared.closed.ClosedElements.{ClosedElements}
use Rattle.tpol_tree.specs.declared.closed.ClosedElements.TheVariants.{More', End}
use Rattle.tpol_tree.specs.declared.closed.ClosedElement.{ClosedElement}
use Rattle.tpol_tree.specs.declared.closed.ClosedElement.TheVariants.{Assert, Or, Authorize, AuthorizeNv}
use Rattle.tpol_tree.specs.declared.closed.ClosedBranches.{ClosedBranches}
use Rattle.tpol_tree.specs.declared.closed.ClosedBranches.TheVariants.{More' as MoreBranches', End as EndBranches}
use Rattle.tpol_tree.specs.declared.path.ApprovedDoc.{ApprovedDoc}
use Rattle.tpol_tree.specs.declared.path.Move.{Move}
use Rattle.tpol_tree.specs.declared.path.Path.{Path}
use Rattle.tpol_tree.specs.declared.path.PathStep.{PathStep}
use Rattle.tpol_tree.specs.declared.path.PathStep.TheVariants.{Branch, Document}
use Rattle.tpol_digest.specs.declared.extent.Extent.{Extent}
use Rattle.tpol_digest.specs.Digest.{zero_digest, digest_at_element}
use Rattle.tpol_digest.specs.Extent.{extent_at, extent_at_element, document_extent, IsCapped}
use Rattle.tpol_digest.specs.Paths.{empty_path, path_of_move, followed_by, product, between, approval_of, paths_by_approval, approved_paths, outside_paths, paths_at_branches, document_paths}
use Rattle.tpol_digest.specs.Positions.{is_or, has_or, path_of_step, element_list_ways, element_ways, branch_ways, approval_ways, GoesOn}
use Rattle.tpol_digest.proofs.Documents.{approved_none, document_paths-some}
use Rattle.tpol_digest.proofs.Extents.{mul_bounds, parts_positive}
use Rattle.tpol_digest.proofs.Measures.{any_count, document_agrees, extent_at-measures, extent_at_element-measures}
use Rattle.tpol_digest.proofs.Products.{same_path, or_false, followed_by_empty, followed_by_assoc}
use Rattle.tpol_digest.proofs.Walks.{length-product, path_at-first, path_at-later, path_at-map, path_at-product}

-- ---- a path that takes one more choice, or one more move

pub step_pushed : (p : Path) (step : PathStep) (steps : List PathStep) → steps ≡ p.steps ++ step ∷ [] → record { steps = steps; moves = p.moves; outside = p.outside } ≡ followed_by p (path_of_step step)
step_pushed p step steps h =
    same_path (record { steps = steps; moves = p.moves; outside = p.outside }) (followed_by p (path_of_step step)) h (sym (append-nil p.moves)) (sym (or_false p.outside))

pub move_pushed : (p : Path) (act : Move) (moves : List Move) → moves ≡ p.moves ++ act ∷ [] → record { steps = p.steps; moves = moves; outside = p.outside } ≡ followed_by p (path_of_move act)
move_pushed p act moves h =
    same_path (record { steps = p.steps; moves = moves; outside = p.outside }) (followed_by p (path_of_move act)) (sym (append-nil p.steps)) h (sym (or_false p.outside))

-- ---- the way at an index of a list that is made of parts

pub goes_nowhere : (p : Path) (i : ℕ) → i < 1 → GoesOn p (empty_path ∷ []) i p
goes_nowhere p zero h = record { way = empty_path; is_there = refl; follows = sym (followed_by_empty p) }
goes_nowhere p (suc i) h = absurd (omega arith)

pub goes_one : (p q way : Path) (i : ℕ) → i < 1 → q ≡ followed_by p way → GoesOn p (way ∷ []) i q
goes_one p q way zero h e = record { way = way; is_there = refl; follows = e }
goes_one p q way (suc i) h e = absurd (omega arith)

pub goes_through : (a b c : Path) (xs ys : List Path) (i j k : ℕ) → GoesOn a xs i b → GoesOn b ys j c → k ≡ i * length ys + j → GoesOn a (product xs ys) k c
goes_through a b c xs ys i j k g h e = record {
  way = followed_by g.way h.way;
  is_there = path_at-product xs ys i j k g.way h.way g.is_there h.is_there e;
  follows = h.follows ∙ ap (λ x. followed_by x h.way) g.follows ∙ followed_by_assoc a g.way h.way;
}

pub goes_first : (a b : Path) (xs ys : List Path) (i : ℕ) → GoesOn a xs i b → GoesOn a (xs ++ ys) i b
goes_first a b xs ys i g = record { way = g.way; is_there = path_at-first xs ys i g.way g.is_there; follows = g.follows }

pub goes_later : (a b : Path) (xs ys : List Path) (i j : ℕ) → j ≡ length xs + i → GoesOn a ys i b → GoesOn a (xs ++ ys) j b
goes_later a b xs ys i j e g = record { way = g.way; is_there = path_at-later xs ys i j g.way e g.is_there; follows = g.follows }

pub goes_by_step : (a behind b : Path) (step : PathStep) (ways : List Path) (i : ℕ) → behind ≡ followed_by a (path_of_step step) → GoesOn behind ways i b → GoesOn a (map (followed_by (path_of_step step)) ways) i b
goes_by_step a behind b step ways i e g = record {
  way = followed_by (path_of_step step) g.way;
  is_there = path_at-map (followed_by (path_of_step step)) ways i g.way g.is_there;
  follows = g.follows ∙ ap (λ x. followed_by x g.way) e ∙ followed_by_assoc a (path_of_step step) g.way;
}

pub goes_by_move : (a b longer : Path) (act : Move) (ways : List Path) (i : ℕ) → GoesOn a ways i b → longer ≡ followed_by b (path_of_move act) → GoesOn a (map (λ way. followed_by way (path_of_move act)) ways) i longer
goes_by_move a b longer act ways i g e = record {
  way = followed_by g.way (path_of_move act);
  is_there = path_at-map (λ way. followed_by way (path_of_move act)) ways i g.way g.is_there;
  follows = e ∙ ap (λ x. followed_by x (path_of_move act)) g.follows ∙ followed_by_assoc a g.way (path_of_move act);
}

-- ---- the move of an OR behind its branches, and the move of an approval behind its document

between_is : (step : PathStep) (act : Move) (p : Path) → followed_by (followed_by (path_of_step step) p) (path_of_move act) ≡ between step act p
between_is step act p =
    same_path (followed_by (followed_by (path_of_step step) p) (path_of_move act)) (between step act p) (append-nil (step ∷ p.steps)) refl (or_false p.outside)

all_between : (step : PathStep) (act : Move) (ways : List Path) → map (λ way. followed_by way (path_of_move act)) (map (followed_by (path_of_step step)) ways) ≡ map (between step act) ways
all_between step act [] = refl
all_between step act (way ∷ ways) =
    ap (λ p. p ∷ map (λ x. followed_by x (path_of_move act)) (map (followed_by (path_of_step step)) ways)) (between_is step act way)
    ∙ ap (λ l. between step act way ∷ l) (all_between step act ways)

pub branches_closed : (documents : List ApprovedDoc) (levels : ℕ) (branches : ClosedBranches) (position : ℕ) (act : Move) (d : Digest32) → map (λ way. followed_by way (path_of_move act)) (branch_ways documents levels branches position d) ≡ paths_at_branches (document_paths documents levels) documents branches position act d
branches_closed documents levels EndBranches position act d = refl
branches_closed documents levels (MoreBranches' p name elements q rest) position act d =
    map-append (λ way. followed_by way (path_of_move act)) (map (followed_by (path_of_step (Branch position name))) (element_list_ways documents levels elements d)) (branch_ways documents levels rest (position + 1) d)
    ∙ ap (λ l. l ++ map (λ way. followed_by way (path_of_move act)) (branch_ways documents levels rest (position + 1) d)) (all_between (Branch position name) act (element_list_ways documents levels elements d))
    ∙ ap (λ l. map (between (Branch position name) act) (element_list_ways documents levels elements d) ++ l) (branches_closed documents levels rest (position + 1) act d)

pub length-branch_ways : (documents : List ApprovedDoc) (levels : ℕ) (branches : ClosedBranches) (position : ℕ) (act : Move) (d : Digest32) → length (branch_ways documents levels branches position d) ≡ length (paths_at_branches (document_paths documents levels) documents branches position act d)
length-branch_ways documents levels branches position act d =
    sym (length-map (branch_ways documents levels branches position d) (λ way. followed_by way (path_of_move act)))
    ∙ ap length (branches_closed documents levels branches position act d)

pub goes_between : (a behind b longer : Path) (step : PathStep) (act : Move) (ways : List Path) (i : ℕ) → behind ≡ followed_by a (path_of_step step) → GoesOn behind ways i b → longer ≡ followed_by b (path_of_move act) → GoesOn a (map (between step act) ways) i longer
goes_between a behind b longer step act ways i e g f =
    subst (λ l. GoesOn a l i longer) (all_between step act ways) (goes_by_move a b longer act (map (followed_by (path_of_step step)) ways) i (goes_by_step a behind b step ways i e g) f)

-- ---- without an OR the ways are the same from any digest

pub unbranched_element_ways : (documents : List ApprovedDoc) (levels : ℕ) (element : ClosedElement) (d e : Digest32) → is_or element ≡ false → element_ways documents levels element d ≡ element_ways documents levels element e
unbranched_element_ways documents levels (Assert assertion) d e h = refl
unbranched_element_ways documents levels (Or branches) d e h = cc
unbranched_element_ways documents levels (Authorize key policy_ref) d e h = refl
unbranched_element_ways documents levels (AuthorizeNv index) d e h = refl

pub unbranched_ways : (documents : List ApprovedDoc) (levels : ℕ) (elements : ClosedElements) (d e : Digest32) → has_or elements ≡ false → element_list_ways documents levels elements d ≡ element_list_ways documents levels elements e
unbranched_ways documents levels End d e h = refl
unbranched_ways documents levels (More' p element q rest) d e h =
    let both = or_parts (is_or element) (has_or rest) h in
    ap (λ firsts. product firsts (element_list_ways documents levels rest (digest_at_element element d))) (unbranched_element_ways documents levels element d e both.0)
    ∙ ap (product (element_ways documents levels element e)) (unbranched_ways documents levels rest (digest_at_element element d) (digest_at_element element e) both.1)

-- ---- how many ways there are

module _ (documents : List ApprovedDoc) (levels : ℕ) where
  pub ways_counted : (elements : ClosedElements) (d : Digest32) → length (element_list_ways documents levels elements d) ≡ (extent_at (document_extent documents levels) documents elements).paths
  ways_counted elements d =
      any_count (extent_at (document_extent documents levels) documents elements) (element_list_ways documents levels elements d) (extent_at-measures (document_extent documents levels) (document_paths documents levels) documents (document_agrees documents levels) elements d)

  element_ways_counted : (element : ClosedElement) (d : Digest32) → length (element_ways documents levels element d) ≡ (extent_at_element (document_extent documents levels) documents element).paths
  element_ways_counted element d =
      any_count (extent_at_element (document_extent documents levels) documents element) (element_ways documents levels element d) (extent_at_element-measures (document_extent documents levels) (document_paths documents levels) documents (document_agrees documents levels) element d)

  pub counted_ways : (extent : Extent) (elements : ClosedElements) (d : Digest32) → IsCapped extent (extent_at (document_extent documents levels) documents elements) → extent.paths ≡ min (length (element_list_ways documents levels elements d)) 65537
  counted_ways extent elements d capped = capped.paths ∙ ap (λ n. min n 65537) (sym (ways_counted elements d))

  pub counted_element_ways : (extent : Extent) (element : ClosedElement) (d : Digest32) → IsCapped extent (extent_at_element (document_extent documents levels) documents element) → extent.paths ≡ min (length (element_ways documents levels element d)) 65537
  counted_element_ways extent element d capped =
      capped.paths ∙ ap (λ n. min n 65537) (sym (element_ways_counted element d))

-- ---- an index among the ways of two parts, one after the other

pub record Parted (choices count index first rest : ℕ) : Type 0 where
  pub divides : 0 < choices
  pub behind : count / choices ≡ rest
  pub behind_divides : 0 < count / choices
  pub first_few : first ≤ 65536
  pub rest_few : count / choices ≤ 65536
  pub first_inside : index / (count / choices) < first
  pub rest_inside : index % (count / choices) < count / choices
  pub whole : index ≡ (index / (count / choices)) * rest + index % (count / choices)

pub parted : (choices count index first rest : ℕ) → count ≡ first * rest → count ≤ 65536 → choices ≡ min first 65537 → index < count → Parted choices count index first rest
parted choices count index first rest e few c inside =
    let each = parts_positive first rest (omega (arith, e)) in
    let f = each.0 in
    let r = each.1 in
    let bounds = mul_bounds first rest 65536 f r (omega (arith, e)) in
    let same : choices ≡ first = let small = bounds.0 in omega arith in
    let positive : 0 < choices = omega arith in
    let flipped : count ≡ rest * choices = e ∙ ap (λ n. n * rest) (sym same) ∙ omega arith in
    let behind : count / choices ≡ rest = div-eq_of_eq-mul_left positive flipped in
    let some : 0 < rest = omega arith in
    record {
      divides = positive;
      behind = behind;
      behind_divides = rw behind some;
      first_few = bounds.0;
      rest_few = rw behind bounds.1;
      first_inside = rw behind (div_below index rest first some (omega (arith, e)));
      rest_inside = rw behind (omega arith);
      whole = rw behind (sym (div-add-mod' index rest));
    }

module _ (documents : List ApprovedDoc) (levels : ℕ) where
  pub parted_ways : (extent : Extent) (element : ClosedElement) (rest : ClosedElements) (d : Digest32) (count index : ℕ) → count ≡ length (product (element_ways documents levels element d) (element_list_ways documents levels rest (digest_at_element element d))) → count ≤ 65536 → index < count → IsCapped extent (extent_at_element (document_extent documents levels) documents element) → Parted extent.paths count index (length (element_ways documents levels element d)) (length (element_list_ways documents levels rest (digest_at_element element d)))
  parted_ways extent element rest d count index counted few inside capped =
      let firsts = element_ways documents levels element d in
      let rests = element_list_ways documents levels rest (digest_at_element element d) in
      parted extent.paths count index (length firsts) (length rests) (counted ∙ length-product firsts rests) few (counted_element_ways documents levels extent element d capped) inside

  -- the same without an OR, from the zero digest alone
  pub parted_unbranched : (extent : Extent) (element : ClosedElement) (rest : ClosedElements) (count index : ℕ) → has_or rest ≡ false → count ≡ length (product (element_ways documents levels element zero_digest) (element_list_ways documents levels rest (digest_at_element element zero_digest))) → count ≤ 65536 → index < count → IsCapped extent (extent_at_element (document_extent documents levels) documents element) → Parted extent.paths count index (length (element_ways documents levels element zero_digest)) (length (element_list_ways documents levels rest zero_digest))
  parted_unbranched extent element rest count index none counted few inside capped =
      subst (λ ways. Parted extent.paths count index (length (element_ways documents levels element zero_digest)) (length ways)) (unbranched_ways documents levels rest (digest_at_element element zero_digest) zero_digest none) (parted_ways extent element rest zero_digest count index counted few inside capped)

  -- a branch, or a document, and what stands behind it
  pub counted_first : (extent : Extent) (elements : ClosedElements) (d : Digest32) (f : Path → Path) (others : List Path) → length (map f (element_list_ways documents levels elements d) ++ others) ≤ 65536 → IsCapped extent (extent_at (document_extent documents levels) documents elements) → (extent.paths ≡ length (element_list_ways documents levels elements d)) × (length (map f (element_list_ways documents levels elements d) ++ others) ≡ extent.paths + length others)
  counted_first extent elements d f others few capped =
      let ways = element_list_ways documents levels elements d in
      let total = length-append (map f ways) others in
      let same = length-map ways f in
      let counted = counted_ways documents levels extent elements d capped in
      let exact : extent.paths ≡ length ways = omega arith in
      (exact, omega arith)

-- ---- one document of the approved ones

module _ (documents : List ApprovedDoc) (levels : ℕ) (element : ClosedElement) where
  abbrev pub part : ApprovedDoc → List Path
  part document = paths_by_approval (approval_of element document) document (document_paths documents levels document)

  abbrev pub before_document : ℕ → List Path
  before_document i = approved_paths (document_paths documents levels) (take i documents) element

  pub parts_more : (i : ℕ) (document : ApprovedDoc) → i < length documents → document ≡ get_or documents i document → length (before_document (i + 1)) ≡ length (before_document i) + length (part document)
  parts_more i document inside is =
      ap (λ l. length (flat_map part l)) (take_more documents i document inside)
      ∙ ap length (flat_map-append part (take i documents) (get_or documents i document ∷ []))
      ∙ length-append (flat_map part (take i documents)) (part (get_or documents i document) ++ [])
      ∙ ap (λ l. length (flat_map part (take i documents)) + length l) (append-nil (part (get_or documents i document)))
      ∙ ap (λ x. length (flat_map part (take i documents)) + length (part x)) (sym is)

  pub part_inside : (i : ℕ) (document : ApprovedDoc) → i < length documents → document ≡ get_or documents i document → length (before_document i) + length (part document) ≤ length (approved_paths (document_paths documents levels) documents element)
  part_inside i document inside is =
      let low = length-flat_map-take part documents i document inside in
      let same = ap (λ x. length (part x)) is in
      omega arith

  pub part_passed : (document : ApprovedDoc) → is_some (approval_of element document) ≡ false → length (part document) ≡ 0
  part_passed document h = none (approval_of element document) h
    where
      none : (found : Option Move) → is_some found ≡ false → length (paths_by_approval found document (document_paths documents levels document)) ≡ 0
      none None e = refl
      none (Some act) e = cc

  pub part_entered : (document : ApprovedDoc) → levels ≢ 0 → is_some (approval_of element document) ≡ true → length (part document) ≡ length (element_list_ways documents (levels - 1) document.closed.elements zero_digest)
  part_entered document level h = some (approval_of element document) h ∙ ap length (document_paths-some documents levels document level)
    where
      some : (found : Option Move) → is_some found ≡ true → length (paths_by_approval found document (document_paths documents levels document)) ≡ length (document_paths documents levels document)
      some None e = cc
      some (Some act) e = length-map (document_paths documents levels document) (between (Document document.document) act)

  pub goes_in_document : (a b : Path) (i left : ℕ) (document : ApprovedDoc) → i < length documents → document ≡ get_or documents i document → GoesOn a (part document) left b → GoesOn a (approved_paths (document_paths documents levels) documents element) (length (before_document i) + left) b
  goes_in_document a b i left document inside is g = record {
    way = g.way;
    is_there = slice_get_read (flat_map part documents) (length (flat_map part documents)) (length (before_document i) + left) g.way refl (omega (arith, part_inside i document inside is, slice_get_within (part document) left g.way g.is_there)) (sym there);
    follows = g.follows;
  }
    where
      there : get_or (flat_map part documents) (length (before_document i) + left) g.way ≡ g.way
      there =
          let in_part = slice_get_within (part document) left g.way g.is_there in
          let same = ap (λ x. length (part x)) is in
          get_or-flat_map part documents i left document g.way inside (omega arith)
          ∙ ap (λ x. get_or (part x) left g.way) (sym is)
          ∙ get_or_from_slice_get (part document) left g.way g.way g.is_there

  pub document_counted : (extent : Extent) (i : ℕ) (document : ApprovedDoc) → i < length documents → document ≡ get_or documents i document → levels ≢ 0 → is_some (approval_of element document) ≡ true → length (approval_ways documents levels element) ≤ 65536 → IsCapped extent (extent_at (document_extent documents (levels - 1)) documents document.closed.elements) → (extent.paths ≡ length (part document)) × (extent.paths ≡ length (element_list_ways documents (levels - 1) document.closed.elements zero_digest))
  document_counted extent i document inside is level accepted few capped =
      let total = length-append (approved_paths (document_paths documents levels) documents element) (outside_paths element) in
      let low = part_inside i document inside is in
      let entered = part_entered document level accepted in
      let counted = counted_ways documents (levels - 1) extent document.closed.elements zero_digest capped in
      let exact : extent.paths ≡ length (element_list_ways documents (levels - 1) document.closed.elements zero_digest) = omega arith in
      (exact ∙ sym entered, exact)

  -- a document's ways, each before the move that uses its approval
  pub goes_by_document : (a behind b longer : Path) (document : ApprovedDoc) (left : ℕ) → levels ≢ 0 → is_some (approval_of element document) ≡ true → behind ≡ followed_by a (path_of_step (Document document.document)) → GoesOn behind (element_list_ways documents (levels - 1) document.closed.elements zero_digest) left b → IfSome (approval_of element document) (λ act. longer ≡ followed_by b (path_of_move act)) → GoesOn a (part document) left longer
  goes_by_document a behind b longer document left level accepted e g f =
      used (approval_of element document) accepted f
    where
      used : (found : Option Move) → is_some found ≡ true → IfSome found (λ act. longer ≡ followed_by b (path_of_move act)) → GoesOn a (paths_by_approval found document (document_paths documents levels document)) left longer
      used None h k = cc
      used (Some act) h k =
          subst (λ l. GoesOn a (map (between (Document document.document) act) l) left longer) (sym (document_paths-some documents levels document level)) (goes_between a behind b longer (Document document.document) act (element_list_ways documents (levels - 1) document.closed.elements zero_digest) left e g k)

  -- the loop over the documents has passed over all of them
  pub no_document : levels ≤ 0 → length (approved_paths (document_paths documents levels) documents element) ≡ 0
  no_document h =
      let e : levels ≡ 0 = omega arith in
      ap (λ n. length (approved_paths (document_paths documents n) documents element)) e ∙ ap length (approved_none documents documents element)

  pub all_documents : (i : ℕ) → length documents ≤ i → length (before_document i) ≡ length (approved_paths (document_paths documents levels) documents element)
  all_documents i h = ap (λ l. length (approved_paths (document_paths documents levels) l element)) (take_all i documents h)

  pub left_over : (index left : ℕ) → index ≡ length (approved_paths (document_paths documents levels) documents element) + left → index < length (approval_ways documents levels element) → left < length (outside_paths element)
  left_over index left e inside =
      let total = length-append (approved_paths (document_paths documents levels) documents element) (outside_paths element) in
      omega arith

  pub goes_outside : (a b : Path) (index left : ℕ) → index ≡ length (approved_paths (document_paths documents levels) documents element) + left → index < length (approval_ways documents levels element) → GoesOn a (outside_paths element) 0 b → GoesOn a (approval_ways documents levels element) index b
  goes_outside a b index left e inside g =
      let none = at_most_one element left (left_over index left e inside) in
      goes_later a b (approved_paths (document_paths documents levels) documents element) (outside_paths element) 0 index (omega (arith, e, none)) g
    where
      at_most_one : (x : ClosedElement) (n : ℕ) → n < length (outside_paths x) → n ≡ 0
      at_most_one (Assert assertion) n h = absurd (omega (arith, h))
      at_most_one (Or branches) n h = absurd (omega (arith, h))
      at_most_one (Authorize key policy_ref) n h = omega (arith, h)
      at_most_one (AuthorizeNv index) n h = omega (arith, h)

-- ---- the whole path

pub found_path : (start p : Path) (ways : List Path) (i : ℕ) → start ≡ empty_path → GoesOn start ways i p → slice_get ways i ≡ Some p
found_path start p ways i e g =
    let same : p ≡ g.way = g.follows ∙ ap (λ x. followed_by x g.way) e in g.is_there ∙ ap (λ x. Some x) (sym same)

pub found_has : (P : Path → Type 0) (ways : List Path) (i : ℕ) (p : Path) → All P ways → slice_get ways i ≡ Some p → P p
found_has P ways i p all h =
    subst P (get_or_from_slice_get ways i p p h) (all i p (slice_get_within ways i p h))
