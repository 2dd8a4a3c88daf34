-- The ways through a policy, part by part, in tables.
use Rattle.std.proofs.Common.{◌≡◌, ℕ, suc, ◌+◌, ◌<◌, Bool, true, false, List, [], ◌∷◌, ◌++◌, length, map, take, get_or, min, Option, Some, None, refl, sym, ap, ◌∙◌, subst, arith, append_assoc}
use Rattle.std.specs.Prelude.{◌||◌, nat_lt, is_some, IfSome}
use Rattle.std.specs.List.{flat_map, AllByRecursion}
use Rattle.std.proofs.lemmas.Bool.{false≢true}
use Rattle.std.proofs.lemmas.Bool.Decides.{Decides-ltb, same_from_decides}
use Rattle.std.proofs.lemmas.List.{append-nil, length-map, take_more}
use Rattle.tpol_base.specs.declared.digest.Digest32.{Digest32}
use Rattle.tpol_tree.specs.declared.closed.ClosedElements.{ClosedElements}
use Rattle.tpol_tree.specs.declared.closed.ClosedElements.TheVariants.{More', End}
use Rattle.tpol_tree.specs.declared.closed.ClosedElement.{ClosedElement}
use Rattle.tpol_tree.specs.declared.closed.ClosedElement.TheVariants.{Assert, Or, Authorize, AuthorizeNv}
use Rattle.tpol_tree.specs.declared.closed.ClosedBranches.{ClosedBranches}
use Rattle.tpol_tree.specs.declared.closed.ClosedBranches.TheVariants.{More' as MoreBranches', End as EndBranches}
use Rattle.tpol_tree.specs.declared.path.ApprovedDoc.{ApprovedDoc}
use Rattle.tpol_tree.specs.declared.path.Move.{Move}
use Rattle.tpol_tree.specs.declared.path.Move.TheVariants.{Or as OrMove}
use Rattle.tpol_tree.specs.declared.path.Path.{Path}
use Rattle.tpol_tree.specs.declared.path.PathStep.TheVariants.{Branch, Document}
use Rattle.tpol_tree.specs.Closed.{ApprovalsLead, ApprovalsLeadElement, ApprovalsLeadBranches}
use Rattle.tpol_digest.specs.Digest.{zero_digest, digest_at_element, branch_digests}
use Rattle.tpol_digest.specs.Paths.{path_of_move, followed_by, product, between, outside_paths, approval_of, paths_by_approval, approved_paths, paths_at, paths_at_element, paths_at_branches, document_paths}
use Rattle.tpol_digest.specs.Positions.{path_of_step}
use Rattle.std.proofs.lemmas.List.Concat.{flat_map-append}
use Rattle.tpol_base.proofs.Digests.{same_digest}
use Rattle.tpol_digest.specs.Update.{update_of}
use Rattle.tpol_digest.proofs.Documents.{approved_none}
use Rattle.tpol_trace.proofs.Approvals.{uses_approval}
use Rattle.tpol_trace.specs.Same.{approved_of}
use Rattle.tpol_digest.proofs.Products.{Each-append, Each-map, Each-product, product_assoc}
use Rattle.tpol_digest.proofs.Walks.{product-one, product-append, product-between}
use Rattle.tpol_trace.specs.declared.ways.Ways.{Ways}
use Rattle.tpol_trace.specs.Matching.{documents_before, matches_last, last_facts}
use Rattle.tpol_trace.specs.Tables.{IsApproval, move_of_element, goes_by, goes, AreInside, capped, IsTable}
use Rattle.tpol_trace.specs.Windows.{IsIn}
use Rattle.tpol_trace.proofs.Firsts.{first_index-kept, first_index-map}
use Rattle.tpol_trace.proofs.Deciding.{Decides-by}

-- ---- no way behind an element is outside

pub inside_map : (f : Path → Path) → ((p : Path) → p.outside ≡ false → (f p).outside ≡ false) → (ways : List Path) → AreInside ways → AreInside (map f ways)
inside_map f h ways inside =
    Each-map (λ p. p.outside ≡ false) (λ p. p.outside ≡ false) f ways h inside

pub inside_product : (xs ys : List Path) → AreInside xs → AreInside ys → AreInside (product xs ys)
inside_product xs ys h k =
    Each-product (λ p. p.outside ≡ false) (λ p. p.outside ≡ false) (λ p. p.outside ≡ false) xs ys (λ x y a b. ap (λ o. o || y.outside) a ∙ b) h k

module _ (within : ApprovedDoc → List Path) (documents : List ApprovedDoc) where
  mutual
    pub inside_at : (elements : ClosedElements) (d : Digest32) → ApprovalsLead false elements → AreInside (paths_at within documents elements d)
    inside_at End d lead = (refl, tt)
    inside_at (More' p element q rest) d lead =
        inside_product (paths_at_element within documents element d) (paths_at within documents rest (digest_at_element element d)) (inside_at_element element d lead.0) (inside_at rest (digest_at_element element d) lead.1)

    inside_at_element : (element : ClosedElement) (d : Digest32) → ApprovalsLeadElement false element → AreInside (paths_at_element within documents element d)
    inside_at_element (Assert assertion) d lead = (refl, tt)
    inside_at_element (Or branches) d lead =
        inside_at_branches branches 1 (OrMove (branch_digests branches d)) d lead
    inside_at_element (Authorize key policy_ref) d lead = absurd (false≢true lead)
    inside_at_element (AuthorizeNv index) d lead = absurd (false≢true lead)

    inside_at_branches : (branches : ClosedBranches) (position : ℕ) (act : Move) (d : Digest32) → ApprovalsLeadBranches false branches → AreInside (paths_at_branches within documents branches position act d)
    inside_at_branches EndBranches position act d lead = tt
    inside_at_branches (MoreBranches' p name elements q rest) position act d lead =
        Each-append (λ p. p.outside ≡ false) (map (between (Branch position name) act) (paths_at within documents elements d)) (paths_at_branches within documents rest (position + 1) act d) (inside_map (between (Branch position name) act) (λ p h. h) (paths_at within documents elements d) (inside_at elements d lead.0)) (inside_at_branches rest (position + 1) act d lead.1)

-- the ways through an approval
pub approval_paths : (approvals : List ApprovedDoc) (within : ApprovedDoc → List Path) (element : ClosedElement) (d : Digest32) → IsApproval element → paths_at_element within approvals element d ≡ approved_paths within approvals element ++ outside_paths element
approval_paths approvals within (Assert assertion) d h = absurd h
approval_paths approvals within (Or branches) d h = absurd h
approval_paths approvals within (Authorize key policy_ref) d h = refl
approval_paths approvals within (AuthorizeNv index) d h = refl

-- where an approval may not lead, there is none
mutual
  pub lead_weaker : (elements : ClosedElements) → ApprovalsLead false elements → ApprovalsLead true elements
  lead_weaker End lead = tt
  lead_weaker (More' p element q rest) lead = (lead_weaker_element element lead.0, lead.1)

  lead_weaker_element : (element : ClosedElement) → ApprovalsLeadElement false element → ApprovalsLeadElement true element
  lead_weaker_element (Assert assertion) lead = tt
  lead_weaker_element (Or branches) lead = lead_weaker_branches branches lead
  lead_weaker_element (Authorize key policy_ref) lead = absurd (false≢true lead)
  lead_weaker_element (AuthorizeNv index) lead = absurd (false≢true lead)

  lead_weaker_branches : (branches : ClosedBranches) → ApprovalsLeadBranches false branches → ApprovalsLeadBranches true branches
  lead_weaker_branches EndBranches lead = tt
  lead_weaker_branches (MoreBranches' p name elements q rest) lead =
      (lead_weaker elements lead.0, lead_weaker_branches rest lead.1)

-- ---- ways behind a choice

module _ (approvals : List ApprovedDoc) (facts : List Move) where
  table_map : (level other : ℕ) (f : Path → Path) (table : Ways) (ways : List Path) → ((k : ℕ) (way : Path) → goes approvals other facts k (f way) ≡ goes approvals level facts k way) → IsTable approvals level facts table ways → IsTable approvals other facts table (map f ways)
  table_map level other f table ways same t = record {
    count = t.count ∙ ap (λ n. min n 65536) (sym (length-map ways f));
    size = t.size;
    first = λ k within.
        t.first k within
        ∙ ap capped (sym (first_index-kept true (λ way. goes approvals other facts k (f way)) (goes approvals level facts k) ways (each k ways)))
        ∙ ap capped (sym (first_index-map (goes approvals other facts k) f ways));
    window = t.window;
  }
    where
      each : (k : ℕ) (some : List Path) → AllByRecursion (λ way. goes approvals other facts k (f way) ≡ goes approvals level facts k way) some
      each k [] = tt
      each k (way ∷ rest) = (same k way, each k rest)

  branch_by : (level k position : ℕ) (name : List ℕ) (way : Path) (outside : Bool) → goes_by outside approvals level facts k (followed_by (path_of_step (Branch position name)) way) ≡ goes_by outside approvals level facts k way
  branch_by level k position name way true = refl
  branch_by level k position name way false = refl

  one_less : (n level : ℕ) → nat_lt (n + 1) (suc level) ≡ nat_lt n level
  one_less n level =
      same_from_decides (nat_lt (n + 1) (suc level)) (nat_lt n level) (Decides-by (nat_lt (n + 1) (suc level)) (λ h. (let x : n < level = omega arith in x)) (λ h. (let x : n + 1 < suc level = omega arith in x)) (Decides-ltb (n + 1) (suc level))) (Decides-ltb n level)

  document_by : (level k : ℕ) (name : List ℕ) (way : Path) (outside : Bool) → goes_by outside approvals (suc level) facts k (followed_by (path_of_step (Document name)) way) ≡ goes_by outside approvals level facts k way
  document_by level k name way true =
      ap (λ enters. matches_last approvals enters way.moves (last_facts way.moves facts)) (one_less (documents_before way.steps) level)
  document_by level k name way false = refl

  pub branch_table : (level position : ℕ) (name : List ℕ) (act : Move) (table : Ways) (paths ways : List Path) → IsTable approvals level facts table (product paths (map (followed_by (path_of_move act)) ways)) → IsTable approvals level facts table (product (map (between (Branch position name) act) paths) ways)
  branch_table level position name act table paths ways t =
      subst (IsTable approvals level facts table) (sym (product-between (Branch position name) act paths ways)) (table_map level level (followed_by (path_of_step (Branch position name))) table (product paths (map (followed_by (path_of_move act)) ways)) (λ k way. branch_by level k position name way way.outside) t)

  pub document_table : (level : ℕ) (name : List ℕ) (act : Move) (table : Ways) (paths ways : List Path) → IsTable approvals level facts table (product paths (map (followed_by (path_of_move act)) ways)) → IsTable approvals (suc level) facts table (product (map (between (Document name) act) paths) ways)
  document_table level name act table paths ways t =
      subst (IsTable approvals (suc level) facts table) (sym (product-between (Document name) act paths ways)) (table_map level (suc level) (followed_by (path_of_step (Document name))) table (product paths (map (followed_by (path_of_move act)) ways)) (λ k way. document_by level k name way way.outside) t)

  -- the same table in other memory, and at another level where no way is outside
  pub same_table : (level : ℕ) (table copy : Ways) (ways : List Path) → copy.first.items ≡ table.first.items → copy.count ≡ table.count → copy.window ≡ table.window → IsTable approvals level facts table ways → IsTable approvals level facts copy ways
  same_table level table copy ways items number places t = record {
    count = number ∙ t.count;
    size = ap length items ∙ t.size;
    first = λ k within. ap (λ (x : List (Option ℕ)). get_or x k None) items ∙ t.first k within;
    window = λ k way e. subst (λ w. IsIn w k) (sym places) (t.window k way (ap (λ (x : List (Option ℕ)). get_or x k None) (sym items) ∙ e));
  }

  levels_by : (level other k : ℕ) (way : Path) (outside : Bool) → outside ≡ false → goes_by outside approvals level facts k way ≡ goes_by outside approvals other facts k way
  levels_by level other k way true e = absurd (false≢true (sym e))
  levels_by level other k way false e = refl

  pub other_level : (level other : ℕ) (table : Ways) (ways : List Path) → AreInside ways → IsTable approvals level facts table ways → IsTable approvals other facts table ways
  other_level level other table ways inside t = record {
    count = t.count;
    size = t.size;
    first = λ k within. t.first k within ∙ ap capped (first_index-kept true (goes approvals level facts k) (goes approvals other facts k) ways (each k ways inside));
    window = t.window;
  }
    where
      each : (k : ℕ) (some : List Path) → AreInside some → AllByRecursion (λ way. goes approvals level facts k way ≡ goes approvals other facts k way) some
      each k [] h = tt
      each k (way ∷ rest) h = (levels_by level other k way way.outside h.0, each k rest h.1)

  -- ---- elements, branches and documents in a row

  pub more_table : (level : ℕ) (within : ApprovedDoc → List Path) (element read : ClosedElement) (rest others : ClosedElements) (d after : Digest32) (table : Ways) (ways : List Path) → read ≡ element → others ≡ rest → after ≡ digest_at_element element d → IsTable approvals level facts table (product (paths_at_element within approvals read d) (product (paths_at within approvals others after) ways)) → IsTable approvals level facts table (product (product (paths_at_element within approvals element d) (paths_at within approvals rest (digest_at_element element d))) ways)
  more_table level within element read rest others d after table ways a b e t =
      subst (IsTable approvals level facts table) (ap (λ x. product (paths_at_element within approvals x d) (product (paths_at within approvals others after) ways)) a ∙ ap (λ x. product (paths_at_element within approvals element d) (product (paths_at within approvals x after) ways)) b ∙ ap (λ x. product (paths_at_element within approvals element d) (product (paths_at within approvals rest x) ways)) e ∙ sym (product_assoc (paths_at_element within approvals element d) (paths_at within approvals rest (digest_at_element element d)) ways)) t

  pub one_table : (level : ℕ) (act : Move) (table : Ways) (ways : List Path) → IsTable approvals level facts table (map (followed_by (path_of_move act)) ways) → IsTable approvals level facts table (product (path_of_move act ∷ []) ways)
  one_table level act table ways t =
      subst (IsTable approvals level facts table) (sym (product-one (path_of_move act) ways)) t

  pub branches_table : (level : ℕ) (within : ApprovedDoc → List Path) (elements : ClosedElements) (rest others : ClosedBranches) (position : ℕ) (name : List ℕ) (act : Move) (d : Digest32) (table : Ways) (done ways : List Path) → others ≡ rest → IsTable approvals level facts table ((done ++ product (map (between (Branch position name) act) (paths_at within approvals elements d)) ways) ++ product (paths_at_branches within approvals others (position + 1) act d) ways) → IsTable approvals level facts table (done ++ product (map (between (Branch position name) act) (paths_at within approvals elements d) ++ paths_at_branches within approvals rest (position + 1) act d) ways)
  branches_table level within elements rest others position name act d table done ways b t =
      let first = map (between (Branch position name) act) (paths_at within approvals elements d) in
      let later = paths_at_branches within approvals rest (position + 1) act d in
      subst (IsTable approvals level facts table) (ap (λ x. (done ++ product first ways) ++ product (paths_at_branches within approvals x (position + 1) act d) ways) b ∙ append_assoc done (product first ways) (product later ways) ∙ ap (λ l. done ++ l) (sym (product-append first later ways))) t

  pub approval_table : (level : ℕ) (table : Ways) (first later ways : List Path) → IsTable approvals level facts table (product first ways ++ product later ways) → IsTable approvals level facts table (product (first ++ later) ways)
  approval_table level table first later ways t =
      subst (IsTable approvals level facts table) (sym (product-append first later ways)) t

  pub no_level_table : (level : ℕ) (element : ClosedElement) (table : Ways) (done ways : List Path) → level ≡ 0 → IsTable approvals level facts table done → IsTable approvals level facts table (done ++ product (approved_paths (document_paths approvals level) approvals element) ways)
  no_level_table level element table done ways zero_level t =
      subst (IsTable approvals level facts table) (sym (append-nil done) ∙ ap (λ l. done ++ product l ways) (sym (approved_none approvals approvals element) ∙ ap (λ n. approved_paths (document_paths approvals n) approvals element) (sym zero_level))) t

  -- the ways by one document more
  by : ℕ → ClosedElement → ApprovedDoc → List Path
  by level element document = paths_by_approval (approval_of element document) document (document_paths approvals level document)

  one_more : (level : ℕ) (element : ClosedElement) (i : ℕ) (document : ApprovedDoc) → i < length approvals → document ≡ get_or approvals i document → approved_paths (document_paths approvals level) (take (i + 1) approvals) element ≡ approved_paths (document_paths approvals level) (take i approvals) element ++ by level element document
  unfolding by
  one_more level element i document inside is =
      let f = λ (x : ApprovedDoc). paths_by_approval (approval_of element x) x (document_paths approvals level x) in
      ap (flat_map f) (take_more approvals i document inside)
      ∙ ap (λ x. flat_map f (take i approvals ++ x ∷ [])) (sym is)
      ∙ flat_map-append f (take i approvals) (document ∷ [])
      ∙ ap (λ l. flat_map f (take i approvals) ++ l) (append-nil (f document))

  pub documents_table : (level : ℕ) (element : ClosedElement) (i : ℕ) (document : ApprovedDoc) (table : Ways) (done ways : List Path) → i < length approvals → document ≡ get_or approvals i document → IsTable approvals level facts table ((done ++ product (approved_paths (document_paths approvals level) (take i approvals) element) ways) ++ product (paths_by_approval (approval_of element document) document (document_paths approvals level document)) ways) → IsTable approvals level facts table (done ++ product (approved_paths (document_paths approvals level) (take (i + 1) approvals) element) ways)
  unfolding by
  documents_table level element i document table done ways inside is t =
      let before = approved_paths (document_paths approvals level) (take i approvals) element in
      let here = paths_by_approval (approval_of element document) document (document_paths approvals level document) in
      subst (IsTable approvals level facts table) (append_assoc done (product before ways) (product here ways) ∙ ap (λ l. done ++ l) (sym (product-append before here ways) ∙ ap (λ l. product l ways) (sym (one_more level element i document inside is)))) t

  none_used : (found : Option Move) → is_some found ≡ false → (document : ApprovedDoc) (paths : List Path) → paths_by_approval found document paths ≡ []
  none_used None e document paths = refl
  none_used (Some act) e document paths = absurd (false≢true (sym e))

  pub passed_table : (level : ℕ) (element : ClosedElement) (i : ℕ) (document : ApprovedDoc) (table : Ways) (done ways : List Path) → i < length approvals → document ≡ get_or approvals i document → is_some (approval_of element document) ≡ false → IsTable approvals level facts table (done ++ product (approved_paths (document_paths approvals level) (take i approvals) element) ways) → IsTable approvals level facts table (done ++ product (approved_paths (document_paths approvals level) (take (i + 1) approvals) element) ways)
  passed_table level element i document table done ways inside is none t =
      let before = done ++ product (approved_paths (document_paths approvals level) (take i approvals) element) ways in
      documents_table level element i document table done ways inside is (subst (IsTable approvals level facts table) (sym (append-nil before) ∙ ap (λ l. before ++ product l ways) (sym (none_used (approval_of element document) none document (document_paths approvals level document)))) t)

  -- the ways by one document, by whichever move uses its approval
  pub used_table : (level : ℕ) (element : ClosedElement) → IsApproval element → (document : ApprovedDoc) (d : Digest32) (table : Ways) (ways : List Path) → d.bytes ≡ zero_digest.bytes → is_some (approval_of element document) ≡ true → ((act : Move) → update_of act ≡ update_of (move_of_element element zero_digest) → approved_of act ≡ Some document.digest → IsTable approvals level facts table (product (paths_at (document_paths approvals level) approvals document.closed.elements d) (map (followed_by (path_of_move act)) ways))) → IsTable approvals (suc level) facts table (product (paths_by_approval (approval_of element document) document (document_paths approvals (suc level) document)) ways)
  unfolding document_paths
  used_table level element approval document d table ways zeros some f =
      by_found (approval_of element document) (uses_approval element approval document) some
    where
      by_found : (found : Option Move) → IfSome found (λ act. (update_of act ≡ update_of (move_of_element element zero_digest)) × (approved_of act ≡ Some document.digest)) → is_some found ≡ true → IsTable approvals (suc level) facts table (product (paths_by_approval found document (paths_at (document_paths approvals level) approvals document.closed.elements zero_digest)) ways)
      by_found None uses e = absurd (false≢true e)
      by_found (Some act) uses e =
          document_table level document.document act table (paths_at (document_paths approvals level) approvals document.closed.elements zero_digest) ways (subst (λ x. IsTable approvals level facts table (product (paths_at (document_paths approvals level) approvals document.closed.elements x) (map (followed_by (path_of_move act)) ways))) (same_digest d zero_digest zeros) (f act uses.0 uses.1))
