-- A document that says a policy says it in its new spelling, with some of the notes.
use Rattle.std.proofs.Common.{◌≡◌, ℕ, List, [], ◌∷◌, codes, None, Ok, Err, refl, ap, ◌∙◌, subst}
use Rattle.serde_json.specs.Data.{Data}
use Rattle.tpol_base.specs.Answers.{◌>>=◌}
use Rattle.tpol_json.specs.Places.{root}
use Rattle.tpol_json.specs.declared.place.Place.{Place}
use Rattle.tpol_members.specs.Faults.{Found}
use Rattle.tpol_members.specs.Members.{object_in}
use Rattle.tpol_members.specs.Values.{text_in}
use Rattle.tpol_members.specs.declared.walk.Walk.{Walk}
use Rattle.tpol_read.specs.Approvals.{approvals_member}
use Rattle.tpol_read.specs.Documents.{document_in, policy_of, start}
use Rattle.tpol_read.specs.Elements.{description_member, element_at, max_levels, policy_member}
use Rattle.tpol_tree.specs.declared.policy.Policy.{Policy}
use Rattle.tpol_adopt.specs.Laws.{IsConservative, IsSublist}
use Rattle.tpol_adopt.specs.Normal.{normal}
use Rattle.tpol_adopt.specs.Rules.{member_rule, new_scheme}
use Rattle.tpol_adopt.specs.declared.rules.Part.TheVariants.{Approvals, Document, Elements}
use Rattle.tpol_adopt.proofs.Approvals.{approvals-keeps}
use Rattle.tpol_adopt.proofs.Fields.{optional-same}
use Rattle.tpol_adopt.proofs.Keeping.{IsThinner, Keeps, follows_same, keeps_after, keeps_then}
use Rattle.tpol_adopt.proofs.Notes.{noted-thinner, unknown-plain}
use Rattle.tpol_adopt.proofs.Publics.{object_in-normal}
use Rattle.tpol_adopt.proofs.Documents.{element_at-keeps, policy-keeps}
use Rattle.tpol_adopt.proofs.Ruled.{get-inner, get-same}
use Rattle.tpol_adopt.proofs.Sublists.{all_kept}

plain : (d : Data) → new_scheme Document d ≡ None
unfolding new_scheme
plain d = refl

abbrev members : List (List ℕ)
members = codes "description" ∷ codes "policy" ∷ codes "policyDigests" ∷ codes "policyAuthorizations" ∷ []

document-keeps : (d : Data) (place : Place) (fewer walk : Walk) → IsThinner fewer walk → Keeps (document_in d place walk) (document_in (normal d) place fewer)
unfolding document_in description_member member_rule
document-keeps d place fewer walk thinner =
    keeps_after (object_in d place) (object_in (normal d) place) _ _ (follows_same _ _ (object_in-normal Document d place))
    (λ _ _. keeps_after (description_member d place) (description_member (normal d) place) _ _ (optional-same text_in [] (codes "description") d (normal d) place (get-same Document d (codes "description") (plain d) refl))
    (λ description _. keeps_then (policy_member (element_at max_levels) d place walk) (policy_member (element_at max_levels) (normal d) place fewer) _ _
    (policy-keeps (element_at max_levels) (element_at-keeps max_levels) d (normal d) place fewer walk thinner (get-inner Document d (codes "policy") (plain d) Elements refl))
    (λ elements fewer' walk' thinner'. keeps_then (approvals_member d place walk') (approvals_member (normal d) place fewer') _ _
    (approvals-keeps d (normal d) place fewer' walk' thinner' (get-inner Document d (codes "policyAuthorizations") (plain d) Approvals refl))
    (λ approvals fewer'' walk'' thinner''. (refl, noted-thinner members d (normal d) place fewer'' walk'' thinner'' (unknown-plain members place Document d (plain d)))))))

abbrev with_notes : Policy × Walk → Found (Policy × List Place)
with_notes f = Ok (f.0, f.1.notes)

-- the parts of what is found, or else of something
abbrev policy_in : Policy × List Place → Found (Policy × List Place) → Policy
policy_in other (Ok x) = x.0
policy_in other (Err fault) = other.0

abbrev notes_in : Policy × List Place → Found (Policy × List Place) → List Place
notes_in other (Ok x) = x.1
notes_in other (Err fault) = other.1

said : (found again : Found (Policy × Walk)) (policy : Policy) (notes : List Place) → Keeps found again → (found >>= with_notes) ≡ Ok (policy, notes)
    → (kept : List Place) × ((again >>= with_notes) ≡ Ok (policy, kept)) × IsSublist kept notes
said (Ok found) (Ok again) policy notes is says =
    let same : found.0 ≡ policy = ap (policy_in (policy, notes)) says in
    let noted : found.1.notes ≡ notes = ap (notes_in (policy, notes)) says in
    (again.1.notes, ap (λ p. Ok (p, again.1.notes)) (is.0 ∙ same), subst (IsSublist again.1.notes) noted is.1.notes)
said (Ok found) (Err fault) policy notes is says = absurd is
said (Err fault) again policy notes is says = cc

pub conservative : IsConservative
unfolding policy_of
conservative d policy notes says =
    said (document_in d root start) (document_in (normal d) root start) policy notes (document-keeps d root start start (record { left = refl; notes = all_kept {A = Place} [] })) says
