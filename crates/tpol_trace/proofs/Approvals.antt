-- From the digest after an approval back to the documents that may be entered, or outside.
use Rattle.std.proofs.Common.{◌≡◌, ℕ, zero, suc, ◌<◌, Bool, true, false, List, [], ◌∷◌, ◌++◌, Option, Some, None, inl, inr, refl, sym, ap, ◌∙◌, subst, arith}
use Rattle.std.specs.Prelude.{is_some, IfSome}
use Rattle.std.specs.List.{flat_map, AllByRecursion}
use Rattle.std.proofs.lemmas.Bool.{false≢true}
use Rattle.std.proofs.lemmas.Bool.Decides.{not_from_Decides}
use Rattle.tpol_base.specs.declared.digest.Digest32.{Digest32}
use Rattle.tpol_tree.specs.declared.closed.ClosedElement.{ClosedElement}
use Rattle.tpol_tree.specs.declared.closed.ClosedElement.TheVariants.{Assert, Or, Authorize, AuthorizeNv}
use Rattle.tpol_tree.specs.declared.path.ApprovedDoc.{ApprovedDoc}
use Rattle.tpol_tree.specs.declared.path.Move.{Move}
use Rattle.tpol_tree.specs.declared.path.Path.{Path}
use Rattle.tpol_tree.specs.declared.path.PathStep.TheVariants.{Document}
use Rattle.tpol_digest.specs.Digest.{zero_digest, digest_of_moves}
use Rattle.tpol_digest.specs.Inputs.{inputs_at}
use Rattle.tpol_digest.specs.Paths.{approval_of, paths_by_approval, approved_paths, outside_path, outside_paths, paths_at_element, document_paths}
use Rattle.tpol_digest.specs.Update.{update_of}
use Rattle.tpol_digest.specs.WellFormed.{IsWellFormedDocument}
use Rattle.tpol_digest.proofs.Meeting.{by_key_each, by_index_each}
use Rattle.tpol_trace.specs.Matching.{IsListed, approval_for, is_listed}
use Rattle.tpol_trace.specs.Same.{approved_of}
use Rattle.tpol_trace.specs.Tables.{IsApproval, move_of_element}
use Rattle.tpol_trace.proofs.Deciding.{listed_Decides}
use Rattle.tpol_trace.proofs.Strings.{IsSane}
use Rattle.tpol_trace.proofs.Chains.{AreHeld, held_front, held_last}
use Rattle.tpol_trace.proofs.Halves.{EndsWith, zero_no_half}
use Rattle.tpol_trace.proofs.Elements.{meets_approved}
use Rattle.tpol_trace.proofs.WaysBack.{IsIn, HasWay, in_left, in_right, widen, behind}
use Rattle.tpol_trace.proofs.Inversion.{ApprovalsInvert, element_back, invert_at}

-- the use of a document's approval hashes what the outside one does, and approves the document's digest
abbrev pub Uses : ClosedElement → ApprovedDoc → Move → Type 0
Uses element document act =
    (update_of act ≡ update_of (move_of_element element zero_digest)) × (approved_of act ≡ Some document.digest)

pub uses_approval : (element : ClosedElement) → IsApproval element → (document : ApprovedDoc) → IfSome (approval_of element document) (Uses element document)
uses_approval (Assert assertion) h document = absurd h
uses_approval (Or branches) h document = absurd h
uses_approval (Authorize key policy_ref) h document =
    by_key_each (Uses (Authorize key policy_ref) document) key policy_ref document.digest document.by (λ signature. (refl, refl))
uses_approval (AuthorizeNv index) h document =
    by_index_each (Uses (AuthorizeNv index) document) index document.digest document.by (refl, refl)

approval_same : (element : ClosedElement) → IsApproval element → (d : Digest32) (document : ApprovedDoc) → approval_for (move_of_element element d) document ≡ approval_of element document
approval_same (Assert assertion) h d document = absurd h
approval_same (Or branches) h d document = absurd h
approval_same (Authorize key policy_ref) h d document = refl
approval_same (AuthorizeNv index) h d document = refl

move_same : (element : ClosedElement) → IsApproval element → (d : Digest32) → move_of_element element d ≡ move_of_element element zero_digest
move_same (Assert assertion) h d = absurd h
move_same (Or branches) h d = absurd h
move_same (Authorize key policy_ref) h d = refl
move_same (AuthorizeNv index) h d = refl

-- a document with its digest and the strings that are hashed for it
pub record IsHeldDocument (In : List ℕ → Type 0) (document : ApprovedDoc) : Type 0 where
  pub well : IsWellFormedDocument document
  pub hashed : AllByRecursion In (inputs_at document.closed.elements zero_digest)

module _ (In : List ℕ → Type 0) (sane : IsSane In) (documents : List ApprovedDoc) (held_documents : AllByRecursion (IsHeldDocument In) documents) where
  -- the outside way
  outside_way : (level : ℕ) (within : ApprovedDoc → List Path) (element : ClosedElement) → IsApproval element → (d : Digest32) → d ≡ zero_digest → (moves front : List Move) (last : Move) → moves ≡ front ++ last ∷ [] → update_of (move_of_element element d) ≡ update_of last → (0 < level → IsListed documents (move_of_element element d) last → ⊥) → HasWay documents level (paths_at_element within documents element d) d moves
  outside_way level within element approval d starts moves front last is hashed unlisted =
      widen documents level (outside_path act ∷ []) (paths_at_element within documents element d) d moves (in_outside element approval) (inr (record {
        starts = starts;
        path = outside_path act;
        listed = inl refl;
        outside = refl;
        approval = act;
        rest = [];
        begins = refl;
        before = front;
        approving = last;
        after = [];
        split = is;
        hashed = hashed;
        same = tt;
        unlisted = unlisted;
      }))
    where
      act : Move
      act = move_of_element element d

      in_outside : (e : ClosedElement) → IsApproval e → (p : Path) → IsIn p (outside_path (move_of_element e d) ∷ []) → IsIn p (paths_at_element within documents e d)
      in_outside (Assert assertion) a p h = absurd a
      in_outside (Or branches) a p h = absurd a
      in_outside (Authorize key policy_ref) a p h =
          in_right p (approved_paths within documents (Authorize key policy_ref)) (outside_paths (Authorize key policy_ref)) h
      in_outside (AuthorizeNv index) a p h =
          in_right p (approved_paths within documents (AuthorizeNv index)) (outside_paths (AuthorizeNv index)) h

  -- what holds of each document that is entered at a level
  abbrev EntersAt : ℕ → Type 0
  EntersAt level =
      (document : ApprovedDoc) → IsHeldDocument In document → (moves : List Move) → AreHeld In moves → digest_of_moves moves ≡ document.digest → HasWay documents level (document_paths documents (suc level) document) zero_digest moves

  -- the way by a listed document
  module _ (level : ℕ) (enter : EntersAt level) (element : ClosedElement) (approval : IsApproval element) (moves front : List Move) (last : Move) (is : moves ≡ front ++ last ∷ []) (held : AreHeld In moves) (hashed : update_of (move_of_element element zero_digest) ≡ update_of last) where
    abbrev by : ApprovedDoc → List Path
    by document = paths_by_approval (approval_of element document) document (document_paths documents (suc level) document)

    use_document : (document : ApprovedDoc) → IsHeldDocument In document → approved_of last ≡ Some document.digest → (found : Option Move) → IfSome found (Uses element document) → is_some found ≡ true → HasWay documents (suc level) (paths_by_approval found document (document_paths documents (suc level) document)) zero_digest moves
    use_document document h e None uses some = absurd (false≢true some)
    use_document document h e (Some act) uses some =
        let held_now = subst (AreHeld In) is held in
        behind documents (suc level) level (Document document.document) (λ steps less. omega arith) (document_paths documents (suc level) document) zero_digest front moves act last is (record { hashed = uses.0 ∙ hashed; approved = uses.1 ∙ sym e }) (enter document h front (held_front In front (last ∷ []) held_now) (meets_approved last document.digest (digest_of_moves front) e (held_last In front last held_now)))

    listed_way : (some : List ApprovedDoc) → AllByRecursion (IsHeldDocument In) some → IsListed some (move_of_element element zero_digest) last → HasWay documents (suc level) (flat_map by some) zero_digest moves
    listed_way [] h listed = absurd listed
    listed_way (document ∷ rest) h (inl found) =
        widen documents (suc level) (by document) (flat_map by (document ∷ rest)) zero_digest moves (λ p k. in_left p (by document) (flat_map by rest) k) (use_document document h.0 found.1 (approval_of element document) (uses_approval element approval document) (ap is_some (sym (approval_same element approval zero_digest document)) ∙ found.0))
    listed_way (document ∷ rest) h (inr listed) =
        widen documents (suc level) (flat_map by rest) (flat_map by (document ∷ rest)) zero_digest moves (λ p k. in_right p (by document) (flat_map by rest) k) (listed_way rest h.1 listed)

  enter_by : (level : ℕ) → ApprovalsInvert In sane documents level (document_paths documents level) (λ d. d ≡ zero_digest) → EntersAt level
  unfolding document_paths
  enter_by level approve document h moves held e =
      invert_at In sane documents level (document_paths documents level) (λ d. d ≡ zero_digest) approve document.closed.elements zero_digest true (λ _. refl) h.well.policy.approvals_lead (zero_no_half In sane) h.hashed moves held (e ∙ h.well.digest)

  approve_by : (level : ℕ) → EntersAt level → ApprovalsInvert In sane documents (suc level) (document_paths documents (suc level)) (λ d. d ≡ zero_digest)
  approve_by level enter element approval d starts none strings moves held e =
      by_listed (is_listed documents act b.last) refl
    where
      act : Move
      act = move_of_element element d

      within : ApprovedDoc → List Path
      within = document_paths documents (suc level)

      b : EndsWith In sane moves (update_of act) d
      b = element_back In sane element d none strings moves held e

      approved_left : (x : ClosedElement) → IsApproval x → (p : Path) → IsIn p (approved_paths within documents x) → IsIn p (paths_at_element within documents x zero_digest)
      approved_left (Assert assertion) a p h = absurd a
      approved_left (Or branches) a p h = absurd a
      approved_left (Authorize key policy_ref) a p h =
          in_left p (approved_paths within documents (Authorize key policy_ref)) (outside_paths (Authorize key policy_ref)) h
      approved_left (AuthorizeNv index) a p h =
          in_left p (approved_paths within documents (AuthorizeNv index)) (outside_paths (AuthorizeNv index)) h

      by_listed : (listed : Bool) → is_listed documents act b.last ≡ listed → HasWay documents (suc level) (paths_at_element within documents element d) d moves
      by_listed true is =
          let same = move_same element approval d in
          let listed = subst (λ x. IsListed documents x b.last) same ((listed_Decides documents act b.last).0 is) in
          let way = listed_way level enter element approval moves b.front b.last b.is held (ap update_of (sym same) ∙ sym b.hashed) documents held_documents listed in
          subst (λ x. HasWay documents (suc level) (paths_at_element within documents element x) x moves) (sym starts) (widen documents (suc level) (approved_paths within documents element) (paths_at_element within documents element zero_digest) zero_digest moves (approved_left element approval) way)
      by_listed false is =
          outside_way (suc level) within element approval d starts moves b.front b.last b.is (sym b.hashed) (λ less. not_from_Decides (is_listed documents act b.last) (listed_Decides documents act b.last) is)

  -- with no level left no document is entered
  approve_outside : ApprovalsInvert In sane documents 0 (document_paths documents 0) (λ d. d ≡ zero_digest)
  approve_outside element approval d starts none strings moves held e =
      let b = element_back In sane element d none strings moves held e in
      outside_way 0 (document_paths documents 0) element approval d starts moves b.front b.last b.is (sym b.hashed) (λ less. absurd (omega arith))

  -- the way of moves that give the digest after an approval, at each level
  pub approve_at : (level : ℕ) → ApprovalsInvert In sane documents level (document_paths documents level) (λ d. d ≡ zero_digest)
  approve_at zero = approve_outside
  approve_at (suc level) = approve_by level (enter_by level (approve_at level))
