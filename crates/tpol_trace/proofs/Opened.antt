-- There is always an opening.
use Rattle.std.proofs.Common.{◌≡◌, ℕ, ◌+◌, Bool, true, false, List, [], ◌∷◌, ◌++◌, Option, Some, None, inl, inr, refl, sym, ap, ◌∙◌, subst}
use Rattle.std.specs.Prelude.{IsSome, is_some, if◌then◌else◌}
use Rattle.std.specs.List.{flat_map, AllByRecursion}
use Rattle.std.specs.Option.{option_map}
use Rattle.std.proofs.lemmas.Bool.{false≢true}
use Rattle.std.proofs.lemmas.List.Elements.{recursion_from_All}
use Rattle.tpol_tree.specs.declared.closed.Closed.{Closed}
use Rattle.tpol_tree.specs.declared.facts.Fact.{Fact}
use Rattle.tpol_tree.specs.declared.path.ApprovedDoc.{ApprovedDoc}
use Rattle.tpol_tree.specs.declared.path.Path.{Path}
use Rattle.tpol_digest.specs.Digest.{zero_digest, digest_of_moves, policy_digest}
use Rattle.tpol_digest.specs.Inputs.{inputs_at, inputs_of_policy, inputs_of_facts}
use Rattle.tpol_digest.specs.Paths.{paths_of, document_paths}
use Rattle.tpol_digest.specs.Sound.{IsSound}
use Rattle.tpol_tree.specs.Facts.{moves_of}
use Rattle.tpol_digest.specs.WellFormed.{IsWellFormed, IsWellFormedDocument}
use Rattle.tpol_trace.specs.Chains.{HasNoApproval}
use Rattle.tpol_trace.specs.Matching.{MatchesOutside, MatchesBy, Matches, matches}
use Rattle.tpol_trace.specs.Openings.{inputs, events_of, first_index, first_clash, first_zero, broken_opening, zero_opening, opening_by, first_match, opening_of}
use Rattle.tpol_trace.specs.Same.{AreSame}
use Rattle.tpol_trace.proofs.Approvals.{IsHeldDocument, approve_at}
use Rattle.tpol_trace.proofs.Chains.{AreHeld, held_front}
use Rattle.tpol_trace.proofs.Clashes.{sane_strings, each_in, each_by}
use Rattle.tpol_trace.proofs.Halves.{none_of_zero, zero_no_half}
use Rattle.tpol_trace.proofs.Inversion.{invert_at}
use Rattle.tpol_trace.proofs.Matched.{matches_Decides}
use Rattle.tpol_trace.proofs.Strings.{IsSane, each_left, each_right}
use Rattle.tpol_trace.proofs.WaysBack.{IsIn, HasWay}

-- no item passes the test
pub none_of_index : (b : Bool) (later : Option ℕ) → (if b then Some 0 else option_map (λ i. i + 1) later) ≡ None → (b ≡ false) × (later ≡ None)
none_of_index true later e = cc e
none_of_index false None e = (refl, refl)
none_of_index false (Some i) e = cc e

pub none_passes : {A : Type 0} (test : A → Bool) (xs : List A) → first_index test xs ≡ None → (x : A) → IsIn x xs → test x ≡ false
none_passes test [] none x h = absurd h
none_passes test (y ∷ rest) none x (inl same) =
    ap test same ∙ (none_of_index (test y) (first_index test rest) none).0
none_passes test (y ∷ rest) none x (inr h) =
    none_passes test rest (none_of_index (test y) (first_index test rest) none).1 x h

module _ (policy : Closed) (approvals : List ApprovedDoc) (facts : List Fact) where
  -- among all strings
  abbrev AmongInputs : List ℕ → Type 0
  AmongInputs string = IsIn string (inputs policy approvals facts)

  -- a way of the facts from the zero digest matches
  way_matches : (In : List ℕ → Type 0) → IsSane In → AreHeld In (moves_of facts) → (paths : List Path) → HasWay approvals 4 paths zero_digest (moves_of facts) → (path : Path) × (IsIn path paths × Matches approvals path (moves_of facts))
  way_matches In sane held paths (inl i) =
      let none = none_of_zero In sane i.front (held_front In i.front i.rest (subst (AreHeld In) i.split held)).hashed i.reached in
      let all : moves_of facts ≡ i.rest = i.split ∙ ap (λ l. l ++ i.rest) none in
      (i.path, (i.listed, subst (λ b. MatchesBy b approvals i.path (moves_of facts)) (sym i.inside) (subst (AreSame i.path.moves) (sym all) i.same)))
  way_matches In sane held paths (inr o) =
      let outside : MatchesOutside approvals o.path (moves_of facts) = record {
        approval = o.approval;
        rest = o.rest;
        moves = o.begins;
        before = o.before;
        approving = o.approving;
        after = o.after;
        split = o.split;
        hashed = o.hashed;
        same = o.same;
        unlisted = o.unlisted;
      } in
      (o.path, (o.listed, subst (λ b. MatchesBy b approvals o.path (moves_of facts)) (sym o.outside) outside))

  -- the strings of the policy, of its documents and of the facts
  pub held_facts : IsSound (moves_of facts) → AreHeld AmongInputs (moves_of facts)
  held_facts sound = record {
    sound = sound;
    hashed = each_right AmongInputs (inputs_of_policy policy approvals) (inputs_of_facts facts) (each_in (inputs policy approvals facts));
  }

  pub policy_hashed : AllByRecursion AmongInputs (inputs_at policy.elements zero_digest)
  policy_hashed =
      each_left AmongInputs (inputs_at policy.elements zero_digest) (flat_map (λ document. inputs_at document.closed.elements zero_digest) approvals) (each_left AmongInputs (inputs_of_policy policy approvals) (inputs_of_facts facts) (each_in (inputs policy approvals facts)))

  documents_hashed : AllByRecursion (λ (document : ApprovedDoc). AllByRecursion AmongInputs (inputs_at document.closed.elements zero_digest)) approvals
  documents_hashed =
      each_by AmongInputs (λ (document : ApprovedDoc). inputs_at document.closed.elements zero_digest) approvals (each_right AmongInputs (inputs_at policy.elements zero_digest) (flat_map (λ document. inputs_at document.closed.elements zero_digest) approvals) (each_left AmongInputs (inputs_of_policy policy approvals) (inputs_of_facts facts) (each_in (inputs policy approvals facts))))

  held_documents : (some : List ApprovedDoc) → AllByRecursion IsWellFormedDocument some → AllByRecursion (λ (document : ApprovedDoc). AllByRecursion AmongInputs (inputs_at document.closed.elements zero_digest)) some → AllByRecursion (IsHeldDocument AmongInputs) some
  held_documents [] h k = tt
  held_documents (document ∷ rest) h k = (record { well = h.0; hashed = k.0 }, held_documents rest h.1 k.1)

  -- what a way back says of the answer
  abbrev WayWhereSane : Type 0
  WayWhereSane =
      IsSane AmongInputs → HasWay approvals 4 (paths_of policy approvals) zero_digest (moves_of facts)

  some_opening : IsSound (moves_of facts) → WayWhereSane → (index : Option ℕ) → first_match policy approvals facts ≡ index → (clash : Option (List ℕ × List ℕ)) → first_clash (inputs policy approvals facts) ≡ clash → (zero : Option (List ℕ)) → first_zero (inputs policy approvals facts) ≡ zero → IsSome (opening_by index (events_of facts) (inputs policy approvals facts))
  some_opening sound way (Some index) a clash b zero c = refl
  some_opening sound way None a (Some pair) b zero c =
      ap (λ x. is_some (broken_opening x (first_zero (inputs policy approvals facts)))) b
  some_opening sound way None a None b (Some string) c =
      ap (λ x. is_some (broken_opening x (first_zero (inputs policy approvals facts)))) b ∙ ap (λ x. is_some (zero_opening x)) c
  some_opening sound way None a None b None c =
      let sane = sane_strings (inputs policy approvals facts) b c in
      let found = way_matches AmongInputs sane (held_facts sound) (paths_of policy approvals) (way sane) in
      absurd (false≢true (sym (none_passes (λ path. matches approvals path (moves_of facts)) (paths_of policy approvals) a found.0 found.1.0) ∙ (matches_Decides approvals found.0 (moves_of facts)).1 found.1.1))

  opening_from : IsSound (moves_of facts) → WayWhereSane → IsSome (opening_of policy approvals facts)
  opening_from sound way =
      some_opening sound way (first_match policy approvals facts) refl (first_clash (inputs policy approvals facts)) refl (first_zero (inputs policy approvals facts)) refl

  pub facts_open : IsWellFormed policy approvals → IsSound (moves_of facts) → digest_of_moves (moves_of facts) ≡ policy_digest policy → IsSome (opening_of policy approvals facts)
  facts_open well sound e =
      opening_from sound (λ sane. invert_at AmongInputs sane approvals 4 (document_paths approvals 4) (λ d. d ≡ zero_digest) (approve_at AmongInputs sane approvals (held_documents approvals (recursion_from_All IsWellFormedDocument approvals well.documents) documents_hashed) 4) policy.elements zero_digest true (λ _. refl) well.policy_itself.approvals_lead (zero_no_half AmongInputs sane) policy_hashed (moves_of facts) (held_facts sound) e)

  pub facts_open_without_approvals : HasNoApproval policy → IsSound (moves_of facts) → digest_of_moves (moves_of facts) ≡ policy_digest policy → IsSome (opening_of policy approvals facts)
  facts_open_without_approvals none sound e =
      opening_from sound (λ sane. invert_at AmongInputs sane approvals 4 (document_paths approvals 4) (λ d. ⊥) (λ element approval d never half strings moves held same. absurd never) policy.elements zero_digest false (λ h. absurd (false≢true h)) none (zero_no_half AmongInputs sane) policy_hashed (moves_of facts) (held_facts sound) e)
