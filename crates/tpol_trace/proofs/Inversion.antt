-- From the digest after elements back to the way that moves went.
use Rattle.std.proofs.Common.{◌≡◌, ℕ, ◌+◌, Bool, true, false, IsTrue, List, [], ◌∷◌, ◌++◌, map, inl, inr, refl, sym, ◌∙◌, subst}
use Rattle.std.specs.List.{AllByRecursion}
use Rattle.std.proofs.lemmas.Bool.{false≢true}
use Rattle.std.proofs.lemmas.List.{append-nil}
use Rattle.tpol_base.specs.declared.digest.Digest32.{Digest32}
use Rattle.tpol_tree.specs.declared.closed.ClosedElements.{ClosedElements}
use Rattle.tpol_tree.specs.declared.closed.ClosedElements.TheVariants.{More', End}
use Rattle.tpol_tree.specs.declared.closed.ClosedElement.{ClosedElement}
use Rattle.tpol_tree.specs.declared.closed.ClosedElement.TheVariants.{Assert, Or, Authorize, AuthorizeNv}
use Rattle.tpol_tree.specs.declared.closed.ClosedBranches.{ClosedBranches}
use Rattle.tpol_tree.specs.declared.closed.ClosedBranches.TheVariants.{More' as MoreBranches', End as EndBranches}
use Rattle.tpol_tree.specs.declared.path.ApprovedDoc.{ApprovedDoc}
use Rattle.tpol_tree.specs.declared.path.Move.{Move}
use Rattle.tpol_tree.specs.declared.path.Move.TheVariants.{Assert as AssertMove, Or as OrMove}
use Rattle.tpol_tree.specs.declared.path.Path.{Path}
use Rattle.tpol_tree.specs.declared.path.PathStep.TheVariants.{Branch}
use Rattle.tpol_tree.specs.Closed.{ApprovalsLead, ApprovalsLeadElement, ApprovalsLeadBranches}
use Rattle.tpol_digest.specs.Digest.{zero_digest, start_of, digest_at, digest_at_element, branch_digests, digest_of_moves}
use Rattle.tpol_digest.specs.Inputs.{strings_of, inputs_at, inputs_at_element, inputs_at_branches}
use Rattle.tpol_digest.specs.Paths.{empty_path, path_of_move, between, paths_at, paths_at_element, paths_at_branches}
use Rattle.tpol_digest.specs.Sound.{Among}
use Rattle.tpol_digest.specs.Update.{update_of, update_of_or}
use Rattle.tpol_trace.specs.Same.{IsSameMove}
use Rattle.tpol_trace.specs.Tables.{IsApproval, move_of_element}
use Rattle.tpol_trace.proofs.Codes.{regular, assertion_goes_on, same_hash_approves}
use Rattle.tpol_trace.proofs.Strings.{IsSane, each_left, each_right}
use Rattle.tpol_trace.proofs.Chains.{AreHeld, held_front, held_last}
use Rattle.tpol_trace.proofs.Halves.{IsNoHalf, EndsWith, after_not_zero, no_half_after, back}
use Rattle.tpol_trace.proofs.Elements.{digest_of_element, strings_of_element, meets_or}
use Rattle.tpol_trace.proofs.WaysBack.{HasWay, in_left, in_right, widen, follow, behind}

pub goes_on : (fresh : Bool) (x y : Digest32) → fresh ≡ false → start_of fresh x ≡ start_of fresh y → x ≡ y
goes_on true x y e h = absurd (false≢true (sym e))
goes_on false x y e h = h

module _ (In : List ℕ → Type 0) (sane : IsSane In) where
  -- moves that give the digest after an element end with its move
  pub element_back : (element : ClosedElement) (d : Digest32) → IsNoHalf In d → AllByRecursion In (inputs_at_element element d) → (moves : List Move) → AreHeld In moves → digest_of_moves moves ≡ digest_at_element element d → EndsWith In sane moves (update_of (move_of_element element d)) d
  element_back element d none strings moves held e =
      back In sane d none (update_of (move_of_element element d)) (regular (move_of_element element d)) (strings_of_element In element d strings) moves held.hashed (e ∙ digest_of_element element d)

  no_half_element : (element : ClosedElement) (d : Digest32) → IsNoHalf In d → AllByRecursion In (inputs_at_element element d) → IsNoHalf In (digest_at_element element d)
  no_half_element element d none strings =
      subst (IsNoHalf In) (sym (digest_of_element element d)) (no_half_after In sane d none (update_of (move_of_element element d)) (regular (move_of_element element d)) (strings_of_element In element d strings))

  element_not_zero : (element : ClosedElement) (d : Digest32) → AllByRecursion In (inputs_at_element element d) → digest_at_element element d ≡ zero_digest → ⊥
  element_not_zero element d strings e =
      after_not_zero In sane (update_of (move_of_element element d)) d (strings_of_element In element d strings) (sym (digest_of_element element d) ∙ e)

  module _ (documents : List ApprovedDoc) (level : ℕ) (within : ApprovedDoc → List Path) where
    -- the way of moves that give the digest after an approval, where P holds of the digest before it
    abbrev pub ApprovalsInvert : (Digest32 → Type 0) → Type 0
    ApprovalsInvert P =
        (element : ClosedElement) → IsApproval element → (d : Digest32) → P d → IsNoHalf In d → AllByRecursion In (inputs_at_element element d) → (moves : List Move) → AreHeld In moves → digest_of_moves moves ≡ digest_at_element element d → HasWay documents level (paths_at_element within documents element d) d moves

    invert_assertion : (element : ClosedElement) (act : Move) (d : Digest32) (moves : List Move) → paths_at_element within documents element d ≡ path_of_move act ∷ [] → (update_of act).fresh ≡ false → ((fact : Move) → update_of act ≡ update_of fact → IsSameMove act fact) → EndsWith In sane moves (update_of act) d → HasWay documents level (path_of_move act ∷ []) d moves
    invert_assertion element act d moves only on same b = inl (record {
      path = path_of_move act;
      listed = inl refl;
      inside = refl;
      front = b.front;
      rest = b.last ∷ [];
      split = b.is;
      reached = goes_on (update_of act).fresh (digest_of_moves b.front) d on b.start;
      same = (same b.last (sym b.hashed), tt);
    })

    module _ (P : Digest32 → Type 0) (approve : ApprovalsInvert P) where
      mutual
        pub invert_at : (elements : ClosedElements) (d : Digest32) (leads : Bool) → (IsTrue leads → P d) → ApprovalsLead leads elements → IsNoHalf In d → AllByRecursion In (inputs_at elements d) → (moves : List Move) → AreHeld In moves → digest_of_moves moves ≡ digest_at elements d → HasWay documents level (paths_at within documents elements d) d moves
        invert_at End d leads starts lead none strings moves held e = inl (record {
          path = empty_path;
          listed = inl refl;
          inside = refl;
          front = moves;
          rest = [];
          split = sym (append-nil moves);
          reached = e;
          same = tt;
        })
        invert_at (More' p element q rest) d leads starts lead none strings moves held e =
            let after = digest_at_element element d in
            let here = each_left In (inputs_at_element element d) (inputs_at rest after) strings in
            let there = each_right In (inputs_at_element element d) (inputs_at rest after) strings in
            elim (invert_at rest after false (λ h. absurd (false≢true h)) lead.1 (no_half_element element d none here) there moves held e) [
              | inl i ↦ follow documents level (paths_at_element within documents element d) (paths_at within documents rest after) d after moves i (invert_at_element element d leads starts lead.0 none here i.front (held_front In i.front i.rest (subst (AreHeld In) i.split held)) i.reached)
              | inr o ↦ absurd (element_not_zero element d here o.starts)
            ]

        invert_at_element : (element : ClosedElement) (d : Digest32) (leads : Bool) → (IsTrue leads → P d) → ApprovalsLeadElement leads element → IsNoHalf In d → AllByRecursion In (inputs_at_element element d) → (moves : List Move) → AreHeld In moves → digest_of_moves moves ≡ digest_at_element element d → HasWay documents level (paths_at_element within documents element d) d moves
        invert_at_element (Assert assertion) d leads starts lead none strings moves held e =
            invert_assertion (Assert assertion) (AssertMove assertion) d moves refl (assertion_goes_on assertion) (λ fact h. record { hashed = h; approved = same_hash_approves (AssertMove assertion) fact h refl }) (element_back (Assert assertion) d none strings moves held e)
        invert_at_element (Or branches) d leads starts lead none strings moves held e =
            let all = branch_digests branches d in
            let b = element_back (Or branches) d none strings moves held e in
            let held_now = subst (AreHeld In) b.is held in
            invert_at_branches branches 1 all d leads starts lead none (each_left In (inputs_at_branches branches d) (strings_of (update_of_or all) d) strings) b.front b.last (record { hashed = sym b.hashed; approved = same_hash_approves (OrMove all) b.last (sym b.hashed) refl }) moves b.is (held_front In b.front (b.last ∷ []) held_now) (meets_or b.last all (digest_of_moves b.front) b.hashed (held_last In b.front b.last held_now))
        invert_at_element (Authorize key policy_ref) d leads starts lead none strings moves held e =
            approve (Authorize key policy_ref) tt d (starts lead) none strings moves held e
        invert_at_element (AuthorizeNv index) d leads starts lead none strings moves held e =
            approve (AuthorizeNv index) tt d (starts lead) none strings moves held e

        invert_at_branches : (branches : ClosedBranches) (position : ℕ) (all : List Digest32) (d : Digest32) (leads : Bool) → (IsTrue leads → P d) → ApprovalsLeadBranches leads branches → IsNoHalf In d → AllByRecursion In (inputs_at_branches branches d) → (front : List Move) (last : Move) → IsSameMove (OrMove all) last → (moves : List Move) → moves ≡ front ++ last ∷ [] → AreHeld In front → Among (digest_of_moves front) (branch_digests branches d) → HasWay documents level (paths_at_branches within documents branches position (OrMove all) d) d moves
        invert_at_branches EndBranches position all d leads starts lead none strings front last same moves is held among = absurd among
        invert_at_branches (MoreBranches' p name elements q rest) position all d leads starts lead none strings front last same moves is held (inl e) =
            let paths = paths_at within documents elements d in
            let ways = map (between (Branch position name) (OrMove all)) paths in
            let others = paths_at_branches within documents rest (position + 1) (OrMove all) d in
            widen documents level ways (ways ++ others) d moves (λ x h. in_left x ways others h) (behind documents level level (Branch position name) (λ steps less. less) paths d front moves (OrMove all) last is same (invert_at elements d leads starts lead.0 none (each_left In (inputs_at elements d) (inputs_at_branches rest d) strings) front held e))
        invert_at_branches (MoreBranches' p name elements q rest) position all d leads starts lead none strings front last same moves is held (inr h) =
            let ways = map (between (Branch position name) (OrMove all)) (paths_at within documents elements d) in
            let others = paths_at_branches within documents rest (position + 1) (OrMove all) d in
            widen documents level others (ways ++ others) d moves (λ x k. in_right x ways others k) (invert_at_branches rest (position + 1) all d leads starts lead.1 none (each_right In (inputs_at elements d) (inputs_at_branches rest d) strings) front last same moves is held h)
