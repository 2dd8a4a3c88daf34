-- What the ways through a policy show where the digests in them are not looked at: an image of each way, put together
-- as the way is of its choices and moves.
use Rattle.std.specs.Prelude.{◌≡◌, ℕ, false, List, [], ◌∷◌, ◌++◌, map, is_some, if◌then◌else◌}
use Rattle.std.specs.List.{flat_map}
use Rattle.tpol_base.specs.declared.digest.Digest32.{Digest32}
use Rattle.tpol_base.specs.declared.name.Name.{Name}
use Rattle.tpol_tree.specs.declared.closed.ClosedElement.{ClosedElement}
use Rattle.tpol_tree.specs.declared.closed.ClosedElements.{ClosedElements}
use Rattle.tpol_tree.specs.declared.closed.ClosedBranches.{ClosedBranches}
use Rattle.tpol_tree.specs.declared.closed.ClosedBranches.TheVariants.{More' as MoreBranches', End as EndBranches}
use Rattle.tpol_tree.specs.declared.path.ApprovedDoc.{ApprovedDoc}
use Rattle.tpol_tree.specs.declared.path.Move.{Move}
use Rattle.tpol_tree.specs.declared.path.Move.TheVariants.{Or, Approve, ApproveNv}
use Rattle.tpol_tree.specs.declared.path.Path.{Path}
use Rattle.tpol_tree.specs.declared.path.PathStep.{PathStep}
use Rattle.tpol_tree.specs.declared.path.PathStep.TheVariants.{Branch, Document, Outside}
use Rattle.tpol_digest.specs.Digest.{zero_digest}
use Rattle.tpol_digest.specs.Paths.{approval_of, between, document_paths, followed_by, is_outside, outside_path, path_of_move}
use Rattle.tpol_digest.specs.Positions.{element_list_ways, element_ways}

-- An image of ways, over one of nothing and one of a way and then another: it is put together of those of choices and of
-- moves, and shows neither a branch's number nor the digests of a move that closes an OR or an approval.
pub record IsImage {M : Type 0} (image : Path → M) (none : M) (join : M → M → M) (of_step : PathStep → M) (of_move : Move → M) : Type 0 where
  pub assoc : (a b c : M) → join (join a b) c ≡ join a (join b c)
  pub first_none : (a : M) → join none a ≡ a
  pub second_none : (a : M) → join a none ≡ a
  pub followed : (p q : Path) → image (followed_by p q) ≡ join (image p) (image q)
  pub closed : (step : PathStep) (act : Move) (p : Path) → is_outside step ≡ false → image (between step act p) ≡ join (join (of_step step) (image p)) (of_move act)
  pub one : (act : Move) → image (path_of_move act) ≡ of_move act
  pub outside : (act : Move) → image (outside_path act) ≡ join (of_step Outside) (of_move act)
  pub branch : (number : ℕ) (name : List ℕ) → of_step (Branch number name) ≡ of_step (Branch 1 name)
  pub or : (digests : List Digest32) → of_move (Or digests) ≡ of_move (Or [])
  pub by_key : (key : Name) (policy_ref : List ℕ) (approved signature : Digest32) → of_move (Approve key policy_ref approved signature) ≡ of_move (Approve key policy_ref zero_digest zero_digest)
  pub by_index : (index : Name) (approved : Digest32) → of_move (ApproveNv index approved) ≡ of_move (ApproveNv index zero_digest)

-- each of the first and then each of the others
abbrev pub both : {M : Type 0} → (M → M → M) → List M → List M → List M
both join firsts rests = flat_map (λ first. map (join first) rests) firsts

-- of the ways through elements and through one element, where documents may be entered so many levels deep; which digest
-- stands before them is not seen
abbrev pub element_list_images : {M : Type 0} → (Path → M) → List ApprovedDoc → ℕ → ClosedElements → List M
element_list_images image documents levels elements = map image (element_list_ways documents levels elements zero_digest)

abbrev pub element_images : {M : Type 0} → (Path → M) → List ApprovedDoc → ℕ → ClosedElement → List M
element_images image documents levels element = map image (element_ways documents levels element zero_digest)

-- of the ways through branches, without the move of their OR
abbrev pub branch_images : {M : Type 0} → (Path → M) → (M → M → M) → (PathStep → M) → List ApprovedDoc → ℕ → ClosedBranches → List M
branch_images image join of_step documents levels EndBranches = []
branch_images image join of_step documents levels (MoreBranches' p name elements q rest) =
    map (join (of_step (Branch 1 name))) (element_list_images image documents levels elements) ++ branch_images image join of_step documents levels rest

-- of the ways through a document, where an element's approver approved it, without the move of the approval
abbrev pub document_images : {M : Type 0} → (Path → M) → (M → M → M) → (PathStep → M) → List ApprovedDoc → ℕ → ClosedElement → ApprovedDoc → List M
document_images image join of_step documents levels element document =
    if is_some (approval_of element document) then map (join (of_step (Document document.document))) (map image (document_paths documents levels document)) else []

-- the same of these documents
abbrev pub documents_images : {M : Type 0} → (Path → M) → (M → M → M) → (PathStep → M) → List ApprovedDoc → ℕ → ClosedElement → List ApprovedDoc → List M
documents_images image join of_step documents levels element some = flat_map (document_images image join of_step documents levels element) some

-- the same of all documents, and of the way by a policy that no listed document has
abbrev pub approval_images : {M : Type 0} → (Path → M) → (M → M → M) → (PathStep → M) → List ApprovedDoc → ℕ → ClosedElement → List M
approval_images image join of_step documents levels element = documents_images image join of_step documents levels element documents ++ of_step Outside ∷ []
