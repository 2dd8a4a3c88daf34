-- The images of the ways through a policy, put together of those of its parts.
use Rattle.std.proofs.Common.{◌≡◌, ◌≢◌, ℕ, zero, ◌+◌, ◌-◌, ◌<◌, ◌≤◌, true, false, List, [], ◌∷◌, ◌++◌, map, length, get_or, take, Option, Some, None, refl, sym, ap, ◌∙◌, arith}
use Rattle.std.specs.Prelude.{⊤, Bool, ◌&&◌, is_some, if◌then◌else◌}
use Rattle.std.specs.Str.{bytes_eq}
use Rattle.std.specs.List.{flat_map}
use Rattle.std.proofs.lemmas.List.{append-nil, map-append, take_more}
use Rattle.std.proofs.lemmas.List.Concat.{flat_map-append}
use Rattle.tpol_base.specs.declared.digest.Digest32.{Digest32}
use Rattle.tpol_base.specs.Name.{is_same_name}
use Rattle.tpol_base.specs.declared.name.Name.{Name}
use Rattle.tpol_tree.specs.declared.closed.Assertion.{Assertion}
use Rattle.tpol_tree.specs.declared.closed.ClosedElements.{ClosedElements}
use Rattle.tpol_tree.specs.declared.closed.ClosedElements.TheVariants.{More', End}
use Rattle.tpol_tree.specs.declared.closed.ClosedElement.{ClosedElement}
use Rattle.tpol_tree.specs.declared.closed.ClosedElement.TheVariants.{Assert, Or, Authorize, AuthorizeNv}
use Rattle.tpol_tree.specs.declared.closed.ClosedBranches.{ClosedBranches}
use Rattle.tpol_tree.specs.declared.closed.ClosedBranches.TheVariants.{More' as MoreBranches', End as EndBranches}
use Rattle.tpol_tree.specs.declared.path.ApprovedBy.{ApprovedBy}
use Rattle.tpol_tree.specs.declared.path.ApprovedBy.TheVariants.{Key, Index}
use Rattle.tpol_tree.specs.declared.path.ApprovedDoc.{ApprovedDoc}
use Rattle.tpol_tree.specs.declared.path.Move.{Move}
use Rattle.tpol_tree.specs.declared.path.Move.TheVariants.{Assert as AssertMove, Or as OrMove, Approve, ApproveNv}
use Rattle.tpol_tree.specs.declared.path.Path.{Path}
use Rattle.tpol_tree.specs.declared.path.PathStep.{PathStep}
use Rattle.tpol_tree.specs.declared.path.PathStep.TheVariants.{Branch, Document, Outside}
use Rattle.tpol_digest.specs.Digest.{zero_digest, digest_at_element, branch_digests}
use Rattle.tpol_digest.specs.Images.{IsImage, both, element_list_images, element_images, branch_images, document_images, documents_images, approval_images}
use Rattle.tpol_digest.specs.Paths.{followed_by, is_outside, product, between, approval_of, approval_by_key, approval_by_index, paths_by_approval, approved_paths, outside_paths, paths_at, paths_at_element, paths_at_branches, document_paths}
use Rattle.tpol_digest.specs.Positions.{element_list_ways, element_ways}
use Rattle.tpol_digest.proofs.Documents.{document_paths-some}

module _ {M : Type 0} {image : Path → M} {none : M} {join : M → M → M} {of_step : PathStep → M} {of_move : Move → M} (laws : IsImage image none join of_step of_move) where
  -- ---- one after the other

  pub none_join : (xs : List M) → map (join none) xs ≡ xs
  none_join [] = refl
  none_join (x ∷ xs) = ap (λ y. y ∷ map (join none) xs) (laws.first_none x) ∙ ap (λ l. x ∷ l) (none_join xs)

  map_join : (a b : M) (xs : List M) → map (join (join a b)) xs ≡ map (join a) (map (join b) xs)
  map_join a b [] = refl
  map_join a b (x ∷ xs) = ap (λ y. y ∷ map (join (join a b)) xs) (laws.assoc a b x) ∙ ap (λ l. join a (join b x) ∷ l) (map_join a b xs)

  pub both-append : (xs ys zs : List M) → both join (xs ++ ys) zs ≡ both join xs zs ++ both join ys zs
  both-append xs ys zs = flat_map-append (λ first. map (join first) zs) xs ys

  pub both-one : (a : M) (zs : List M) → both join (a ∷ []) zs ≡ map (join a) zs
  both-one a zs = append-nil (map (join a) zs)

  pub both-first_none : (zs : List M) → both join (none ∷ []) zs ≡ zs
  both-first_none zs = append-nil (map (join none) zs) ∙ none_join zs

  pub both-second_none : (xs : List M) → both join xs (none ∷ []) ≡ xs
  both-second_none [] = refl
  both-second_none (x ∷ xs) = ap (λ y. y ∷ both join xs (none ∷ [])) (laws.second_none x) ∙ ap (λ l. x ∷ l) (both-second_none xs)

  pub both-join : (a : M) (xs zs : List M) → both join (map (join a) xs) zs ≡ map (join a) (both join xs zs)
  both-join a [] zs = refl
  both-join a (x ∷ xs) zs =
      ap (λ l. l ++ both join (map (join a) xs) zs) (map_join a x zs)
      ∙ ap (λ l. map (join a) (map (join x) zs) ++ l) (both-join a xs zs)
      ∙ sym (map-append (join a) (map (join x) zs) (both join xs zs))

  pub both_assoc : (xs ys zs : List M) → both join (both join xs ys) zs ≡ both join xs (both join ys zs)
  both_assoc [] ys zs = refl
  both_assoc (x ∷ xs) ys zs =
      both-append (map (join x) ys) (both join xs ys) zs
      ∙ ap (λ l. l ++ both join (both join xs ys) zs) (both-join x ys zs)
      ∙ ap (λ l. map (join x) (both join ys zs) ++ l) (both_assoc xs ys zs)

  -- what closes each of the first stands in front of each of the others
  pub both-closed : (closing : M) (xs zs : List M) → both join (map (λ x. join x closing) xs) zs ≡ both join xs (map (join closing) zs)
  both-closed closing [] zs = refl
  both-closed closing (x ∷ xs) zs =
      ap (λ l. l ++ both join (map (λ y. join y closing) xs) zs) (map_join x closing zs)
      ∙ ap (λ l. map (join x) (map (join closing) zs) ++ l) (both-closed closing xs zs)

  -- ---- of paths

  map-followed : (p : Path) (qs : List Path) → map image (map (followed_by p) qs) ≡ map (join (image p)) (map image qs)
  map-followed p [] = refl
  map-followed p (q ∷ qs) =
      ap (λ x. x ∷ map image (map (followed_by p) qs)) (laws.followed p q) ∙ ap (λ l. join (image p) (image q) ∷ l) (map-followed p qs)

  of_product : (ps qs : List Path) → map image (product ps qs) ≡ both join (map image ps) (map image qs)
  of_product [] qs = refl
  of_product (p ∷ ps) qs =
      map-append image (map (followed_by p) qs) (product ps qs)
      ∙ ap (λ l. l ++ map image (product ps qs)) (map-followed p qs)
      ∙ ap (λ l. map (join (image p)) (map image qs) ++ l) (of_product ps qs)

  -- behind a choice and before a move
  map-between : (step : PathStep) (act : Move) (ps : List Path) → is_outside step ≡ false → map image (map (between step act) ps) ≡ map (λ x. join x (of_move act)) (map (join (of_step step)) (map image ps))
  map-between step act [] inside = refl
  map-between step act (p ∷ ps) inside =
      ap (λ x. x ∷ map image (map (between step act) ps)) (laws.closed step act p inside)
      ∙ ap (λ l. join (join (of_step step) (image p)) (of_move act) ∷ l) (map-between step act ps inside)

  -- behind a branch and before its OR
  map-branch : (position : ℕ) (name : List ℕ) (digests : List Digest32) (ps : List Path) → map image (map (between (Branch position name) (OrMove digests)) ps) ≡ map (λ x. join x (of_move (OrMove []))) (map (join (of_step (Branch 1 name))) (map image ps))
  map-branch position name digests ps =
      map-between (Branch position name) (OrMove digests) ps refl
      ∙ ap (λ m. map (λ x. join x m) (map (join (of_step (Branch position name))) (map image ps))) (laws.or digests)
      ∙ ap (λ s. map (λ x. join x (of_move (OrMove []))) (map (join s) (map image ps))) (laws.branch position name)

  -- ---- the digest before is not seen

  module _ (within : ApprovedDoc → List Path) (documents : List ApprovedDoc) where
    mutual
      same_list : (elements : ClosedElements) (d e : Digest32) → map image (paths_at within documents elements d) ≡ map image (paths_at within documents elements e)
      same_list End d e = refl
      same_list (More' p element q rest) d e =
          of_product (paths_at_element within documents element d) (paths_at within documents rest (digest_at_element element d))
          ∙ ap (λ l. both join l (map image (paths_at within documents rest (digest_at_element element d)))) (same_element element d e)
          ∙ ap (both join (map image (paths_at_element within documents element e))) (same_list rest (digest_at_element element d) (digest_at_element element e))
          ∙ sym (of_product (paths_at_element within documents element e) (paths_at within documents rest (digest_at_element element e)))

      same_element : (element : ClosedElement) (d e : Digest32) → map image (paths_at_element within documents element d) ≡ map image (paths_at_element within documents element e)
      same_element (Assert assertion) d e = refl
      same_element (Or branches) d e = same_branches branches 1 (branch_digests branches d) (branch_digests branches e) d e
      same_element (Authorize key policy_ref) d e = refl
      same_element (AuthorizeNv index) d e = refl

      same_branches : (branches : ClosedBranches) (position : ℕ) (ds es : List Digest32) (d e : Digest32) → map image (paths_at_branches within documents branches position (OrMove ds) d) ≡ map image (paths_at_branches within documents branches position (OrMove es) e)
      same_branches EndBranches position ds es d e = refl
      same_branches (MoreBranches' p name elements q rest) position ds es d e =
          map-append image (map (between (Branch position name) (OrMove ds)) (paths_at within documents elements d)) (paths_at_branches within documents rest (position + 1) (OrMove ds) d)
          ∙ ap (λ l. l ++ map image (paths_at_branches within documents rest (position + 1) (OrMove ds) d)) (map-branch position name ds (paths_at within documents elements d) ∙ ap (λ l. map (λ x. join x (of_move (OrMove []))) (map (join (of_step (Branch 1 name))) l)) (same_list elements d e) ∙ sym (map-branch position name es (paths_at within documents elements e)))
          ∙ ap (λ l. map image (map (between (Branch position name) (OrMove es)) (paths_at within documents elements e)) ++ l) (same_branches rest (position + 1) ds es d e)
          ∙ sym (map-append image (map (between (Branch position name) (OrMove es)) (paths_at within documents elements e)) (paths_at_branches within documents rest (position + 1) (OrMove es) e))

  -- ---- the parts of a policy

  -- a move, if there is one, shows this
  abbrev Shows : M → Option Move → Type 0
  Shows closing None = ⊤
  Shows closing (Some act) = of_move act ≡ closing

  key_shows : (key : Name) (policy_ref : List ℕ) (digest : Digest32) (by : ApprovedBy) → Shows (of_move (Approve key policy_ref zero_digest zero_digest)) (approval_by_key key policy_ref digest by)
  key_shows key policy_ref digest (Key other under signature) = chosen (is_same_name key other && bytes_eq policy_ref under)
    where
      chosen : (b : Bool) → Shows (of_move (Approve key policy_ref zero_digest zero_digest)) (if b then Some (Approve key policy_ref digest signature) else None)
      chosen true = laws.by_key key policy_ref digest signature
      chosen false = tt
  key_shows key policy_ref digest (Index other) = tt

  index_shows : (index : Name) (digest : Digest32) (by : ApprovedBy) → Shows (of_move (ApproveNv index zero_digest)) (approval_by_index index digest by)
  index_shows index digest (Key other under signature) = tt
  index_shows index digest (Index other) = chosen (is_same_name index other)
    where
      chosen : (b : Bool) → Shows (of_move (ApproveNv index zero_digest)) (if b then Some (ApproveNv index digest) else None)
      chosen true = laws.by_index index digest
      chosen false = tt

  module _ (documents : List ApprovedDoc) (levels : ℕ) where
    pub of_more : (element : ClosedElement) (rest : ClosedElements) → map image (product (element_ways documents levels element zero_digest) (element_list_ways documents levels rest (digest_at_element element zero_digest))) ≡ both join (element_images image documents levels element) (element_list_images image documents levels rest)
    of_more element rest =
        of_product (element_ways documents levels element zero_digest) (element_list_ways documents levels rest (digest_at_element element zero_digest))
        ∙ ap (both join (element_images image documents levels element)) (same_list (document_paths documents levels) documents rest (digest_at_element element zero_digest) zero_digest)

    pub of_assertion : (assertion : Assertion) → element_images image documents levels (Assert assertion) ≡ of_move (AssertMove assertion) ∷ []
    of_assertion assertion = ap (λ x. x ∷ []) (laws.one (AssertMove assertion))

    of_branches : (branches : ClosedBranches) (position : ℕ) (ds : List Digest32) (d : Digest32) → map image (paths_at_branches (document_paths documents levels) documents branches position (OrMove ds) d) ≡ map (λ x. join x (of_move (OrMove []))) (branch_images image join of_step documents levels branches)
    of_branches EndBranches position ds d = refl
    of_branches (MoreBranches' p name elements q rest) position ds d =
        map-append image (map (between (Branch position name) (OrMove ds)) (element_list_ways documents levels elements d)) (paths_at_branches (document_paths documents levels) documents rest (position + 1) (OrMove ds) d)
        ∙ ap (λ l. l ++ map image (paths_at_branches (document_paths documents levels) documents rest (position + 1) (OrMove ds) d)) (map-branch position name ds (element_list_ways documents levels elements d) ∙ ap (λ l. map (λ x. join x (of_move (OrMove []))) (map (join (of_step (Branch 1 name))) l)) (same_list (document_paths documents levels) documents elements d zero_digest))
        ∙ ap (λ l. map (λ x. join x (of_move (OrMove []))) (map (join (of_step (Branch 1 name))) (element_list_images image documents levels elements)) ++ l) (of_branches rest (position + 1) ds d)
        ∙ sym (map-append (λ x. join x (of_move (OrMove []))) (map (join (of_step (Branch 1 name))) (element_list_images image documents levels elements)) (branch_images image join of_step documents levels rest))

    pub of_or : (branches : ClosedBranches) → element_images image documents levels (Or branches) ≡ map (λ x. join x (of_move (OrMove []))) (branch_images image join of_step documents levels branches)
    of_or branches = of_branches branches 1 (branch_digests branches zero_digest) zero_digest

    -- the documents that an approver approved, each before a move that shows this
    of_documents : (element : ClosedElement) (closing : M) → ((document : ApprovedDoc) → Shows closing (approval_of element document)) → (some : List ApprovedDoc) → map image (flat_map (λ document. paths_by_approval (approval_of element document) document (document_paths documents levels document)) some) ≡ map (λ x. join x closing) (documents_images image join of_step documents levels element some)
    of_documents element closing shows [] = refl
    of_documents element closing shows (document ∷ rest) =
        map-append image (paths_by_approval (approval_of element document) document (document_paths documents levels document)) (flat_map (λ x. paths_by_approval (approval_of element x) x (document_paths documents levels x)) rest)
        ∙ ap (λ l. l ++ map image (flat_map (λ x. paths_by_approval (approval_of element x) x (document_paths documents levels x)) rest)) (of_one (approval_of element document) (shows document))
        ∙ ap (λ l. map (λ x. join x closing) (if is_some (approval_of element document) then map (join (of_step (Document document.document))) (map image (document_paths documents levels document)) else []) ++ l) (of_documents element closing shows rest)
        ∙ sym (map-append (λ x. join x closing) (if is_some (approval_of element document) then map (join (of_step (Document document.document))) (map image (document_paths documents levels document)) else []) (documents_images image join of_step documents levels element rest))
      where
        of_one : (found : Option Move) → Shows closing found → map image (paths_by_approval found document (document_paths documents levels document)) ≡ map (λ x. join x closing) (if is_some found then map (join (of_step (Document document.document))) (map image (document_paths documents levels document)) else [])
        of_one None h = refl
        of_one (Some act) h =
            map-between (Document document.document) act (document_paths documents levels document) refl
            ∙ ap (λ m. map (λ x. join x m) (map (join (of_step (Document document.document))) (map image (document_paths documents levels document)))) h

    pub of_key : (key : Name) (policy_ref : List ℕ) → element_images image documents levels (Authorize key policy_ref) ≡ map (λ x. join x (of_move (Approve key policy_ref zero_digest zero_digest))) (approval_images image join of_step documents levels (Authorize key policy_ref))
    of_key key policy_ref =
        let closing = of_move (Approve key policy_ref zero_digest zero_digest) in
        let approved = documents_images image join of_step documents levels (Authorize key policy_ref) documents in
        map-append image (approved_paths (document_paths documents levels) documents (Authorize key policy_ref)) (outside_paths (Authorize key policy_ref))
        ∙ ap (λ l. l ++ map image (outside_paths (Authorize key policy_ref))) (of_documents (Authorize key policy_ref) closing (λ document. key_shows key policy_ref document.digest document.by) documents)
        ∙ ap (λ x. map (λ y. join y closing) approved ++ x ∷ []) (laws.outside (Approve key policy_ref zero_digest zero_digest))
        ∙ sym (map-append (λ x. join x closing) approved (of_step Outside ∷ []))

    pub of_index : (index : Name) → element_images image documents levels (AuthorizeNv index) ≡ map (λ x. join x (of_move (ApproveNv index zero_digest))) (approval_images image join of_step documents levels (AuthorizeNv index))
    of_index index =
        let closing = of_move (ApproveNv index zero_digest) in
        let approved = documents_images image join of_step documents levels (AuthorizeNv index) documents in
        map-append image (approved_paths (document_paths documents levels) documents (AuthorizeNv index)) (outside_paths (AuthorizeNv index))
        ∙ ap (λ l. l ++ map image (outside_paths (AuthorizeNv index))) (of_documents (AuthorizeNv index) closing (λ document. index_shows index document.digest document.by) documents)
        ∙ ap (λ x. map (λ y. join y closing) approved ++ x ∷ []) (laws.outside (ApproveNv index zero_digest))
        ∙ sym (map-append (λ x. join x closing) approved (of_step Outside ∷ []))

    -- ---- one document after the other

    module _ (element : ClosedElement) where
      pub documents_more : (i : ℕ) (document : ApprovedDoc) → i < length documents → document ≡ get_or documents i document → documents_images image join of_step documents levels element (take (i + 1) documents) ≡ documents_images image join of_step documents levels element (take i documents) ++ document_images image join of_step documents levels element document
      documents_more i document inside is =
          let part = document_images image join of_step documents levels element in
          ap (flat_map part) (take_more documents i document inside)
          ∙ flat_map-append part (take i documents) (get_or documents i document ∷ [])
          ∙ ap (λ l. flat_map part (take i documents) ++ l) (append-nil (part (get_or documents i document)))
          ∙ ap (λ x. flat_map part (take i documents) ++ part x) (sym is)

      pub document_entered : (document : ApprovedDoc) → levels ≢ 0 → is_some (approval_of element document) ≡ true → document_images image join of_step documents levels element document ≡ map (join (of_step (Document document.document))) (element_list_images image documents (levels - 1) document.closed.elements)
      document_entered document level accepted =
          ap (λ b. if b then map (join (of_step (Document document.document))) (map image (document_paths documents levels document)) else []) accepted
          ∙ ap (λ l. map (join (of_step (Document document.document))) (map image l)) (document_paths-some documents levels document level)

      pub document_passed : (document : ApprovedDoc) → is_some (approval_of element document) ≡ false → document_images image join of_step documents levels element document ≡ []
      document_passed document passed =
          ap (λ b. if b then map (join (of_step (Document document.document))) (map image (document_paths documents levels document)) else []) passed

  -- with no level left no document is entered
  none_entered : (documents : List ApprovedDoc) (element : ClosedElement) (some : List ApprovedDoc) → documents_images image join of_step documents zero element some ≡ []
  unfolding document_paths
  none_entered documents element [] = refl
  none_entered documents element (document ∷ rest) =
      ap (λ l. l ++ documents_images image join of_step documents zero element rest) (nothing (is_some (approval_of element document))) ∙ none_entered documents element rest
    where
      nothing : (b : Bool) → (if b then map (join (of_step (Document document.document))) (map image (document_paths documents zero document)) else []) ≡ []
      nothing true = refl
      nothing false = refl

  pub no_documents : (documents : List ApprovedDoc) (levels : ℕ) (element : ClosedElement) → levels ≤ 0 → documents_images image join of_step documents levels element documents ≡ []
  no_documents documents levels element h =
      let e : levels ≡ 0 = omega arith in
      ap (λ n. documents_images image join of_step documents n element documents) e ∙ none_entered documents element documents
