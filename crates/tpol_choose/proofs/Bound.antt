-- What a session's facts bind with one more.
use Rattle.std.proofs.Common.{◌≡◌, List, [], ◌∷◌, ◌++◌, refl, sym, ap, ◌∙◌}
use Rattle.std.proofs.lemmas.List.{map-append}
use Rattle.std.proofs.lemmas.List.Sums.{fold-append}
use Rattle.tpol_base.specs.declared.digest.Digest32.{Digest32}
use Rattle.tpol_name.specs.declared.sight.Sight.{Sight}
use Rattle.tpol_tree.specs.declared.closed.Assertion.{Assertion}
use Rattle.tpol_tree.specs.declared.closed.Assertion.TheVariants.{Pcr, Nv, Secret, Signed, CounterTimer, CommandCode, Locality, CpHash, NameHash, NvWritten, AuthValue, Password, PhysicalPresence, Duplication}
use Rattle.tpol_tree.specs.declared.facts.Fact.{Fact}
use Rattle.tpol_tree.specs.declared.path.Move.{Move}
use Rattle.tpol_tree.specs.declared.path.Move.TheVariants.{Assert, Or, Approve, ApproveNv}
use Rattle.tpol_digest.specs.Digest.{digest_after, digest_of_moves, zero_digest}
use Rattle.tpol_tree.specs.Facts.{moves_of as moves_of_facts}
use Rattle.tpm_bindings.proofs.Merging.{merged-push}
use Rattle.tpm_bindings.specs.Merged.{fact_of, merged}
use Rattle.tpm_bindings.specs.State.{SessionState}
use Rattle.tpol_choose.specs.declared.act.Act.{Act}
use Rattle.tpol_choose.specs.declared.act.Act.TheVariants as acts
use Rattle.tpol_choose.specs.declared.assert_move.AssertMove.{AssertMove}
use Rattle.tpol_choose.specs.Acts.{move_of}
use Rattle.tpol_choose.specs.Facts.{cp_hash_of, deadline_of_move, fact_of_move}

-- a fact binds by its move, and the Name of PolicySecret binds nothing
pub same_bindings : (sight : Sight) (state : SessionState) (facts : List Fact) (act : Move) → merged (facts ++ fact_of 0 act (cp_hash_of act) (deadline_of_move state.start state.nonce act) ∷ []) ≡ merged (facts ++ fact_of_move sight state act ∷ [])
same_bindings sight state facts (Assert (Secret entity policy_ref cp_hash expiration)) =
    let act = Assert (Secret entity policy_ref cp_hash expiration) in
    merged-push facts (fact_of 0 act (cp_hash_of act) (deadline_of_move state.start state.nonce act))
    ∙ sym (merged-push facts (fact_of_move sight state act))
same_bindings sight state facts (Assert (Signed key policy_ref cp_hash expiration)) = refl
same_bindings sight state facts (Assert (Pcr mask pcr_digest values)) = refl
same_bindings sight state facts (Assert (Nv index operand offset operation)) = refl
same_bindings sight state facts (Assert (CounterTimer operand offset operation)) = refl
same_bindings sight state facts (Assert (CommandCode code)) = refl
same_bindings sight state facts (Assert (Locality localities)) = refl
same_bindings sight state facts (Assert (CpHash digest)) = refl
same_bindings sight state facts (Assert (NameHash digest)) = refl
same_bindings sight state facts (Assert (NvWritten written)) = refl
same_bindings sight state facts (Assert AuthValue) = refl
same_bindings sight state facts (Assert Password) = refl
same_bindings sight state facts (Assert PhysicalPresence) = refl
same_bindings sight state facts (Assert (Duplication object parent include)) = refl
same_bindings sight state facts (Or digests) = refl
same_bindings sight state facts (Approve key policy_ref approved signature) = refl
same_bindings sight state facts (ApproveNv index approved) = refl

-- what is lent of a move that is no assertion
pub no_assertion : (act : Act) → ((step : AssertMove) → act ≡ acts.Assert step → ⊥) → (assertion : Assertion) → move_of act ≡ Assert assertion → ⊥
no_assertion (acts.Assert step) none assertion is = none step refl
no_assertion (acts.Or or) none assertion is = cc is
no_assertion (acts.Approve key policy_ref approved signature) none assertion is = cc is
no_assertion (acts.ApproveNv index approved) none assertion is = cc is

-- the digest with one more fact
pub digest_more : (facts : List Fact) (fact : Fact) → digest_of_moves (moves_of_facts (facts ++ fact ∷ [])) ≡ digest_after fact.act (digest_of_moves (moves_of_facts facts))
digest_more facts fact =
    ap digest_of_moves (map-append (λ (f : Fact). f.act) facts (fact ∷ []))
    ∙ fold-append (λ (before : Digest32) (act : Move). digest_after act before) zero_digest (moves_of_facts facts) (fact.act ∷ [])
