-- Policies whose paths can be walked, and events that can happen.
use Rattle.std.proofs.Common.{◌≡◌, ℕ, ◌≤◌, Bool, true, false, if◌then◌else◌, List, [], ◌∷◌, ◌++◌, find, get_or, reverse, subst, sym, Option, Some, None}
use Rattle.std.proofs.lemmas.List.{reverse-append}
use Rattle.std.specs.List.{AllByRecursion}
use Rattle.std.specs.Option.{option_map}
use Rattle.std.specs.Prelude.{All, IfSome}
use Rattle.std.proofs.lemmas.List.Elements.{All-cons, All-nil, recursion_from_All}
use Rattle.tpol_digest.specs.Limits.{AreWithinLimits}
use Rattle.tpol_digest.specs.Paths.{paths_of}
use Rattle.tpol_digest.specs.WellFormed.{IsWellFormedDocument}
use Rattle.tpol_fill.specs.Forms.{IsFilledApproval}
use Rattle.tpol_scene.specs.Conditions.{AreEventsBehind, IsEventBehind}
use Rattle.tpol_scene.specs.Scripts.{begun_run}
use Rattle.tpol_scene.specs.declared.script.ScriptEvent.{ScriptEvent}
use Rattle.tpol_scene.specs.declared.script.ScriptEvent.TheVariants.{Command, Begin, Turn, Time, Presence, Reset}
use Rattle.tpol_prepare.specs.declared.entities.CompiledEntity.{CompiledEntity}
use Rattle.tpol_prepare.specs.Scenario.{CanHappen, IsWalkable, is_document, is_entity, policy_of_entity}
use Rattle.tpol_steps.specs.declared.filled.FilledDocument.{FilledDocument}
use Rattle.tpol_steps.specs.Filled.{IsReady, IsReadyDocument}
use Rattle.tpol_tree.specs.Closed.{HasBranchCounts}
use Rattle.tpol_tree.specs.declared.closed.Closed.{Closed}
use Rattle.tpol_tree.specs.declared.path.ApprovedDoc.{ApprovedDoc}

documents_have_counts : (approvals : List ApprovedDoc) → All IsFilledApproval approvals → All (λ document. HasBranchCounts document.closed.elements) approvals
documents_have_counts approvals all i d within = (all i d within).policy.branch_counts

documents_are_well_formed : (approvals : List ApprovedDoc) → All IsFilledApproval approvals → All IsWellFormedDocument approvals
documents_are_well_formed approvals all i d within =
    let is = all i d within in record { policy = is.policy.well_formed; digest = is.digest }

pub walkable : (approvals : List ApprovedDoc) (closed : Closed) → IsReady closed → All IsFilledApproval approvals → AreWithinLimits (paths_of closed approvals) → IsWalkable approvals closed
walkable approvals closed ready all within = record {
  branches = record { policy_itself = ready.form.branch_counts; documents = documents_have_counts approvals all };
  well_formed = record { policy_itself = ready.form.well_formed; documents = documents_are_well_formed approvals all };
  within = within;
}

pub all_walkable : (approvals : List ApprovedDoc) (documents : List FilledDocument) → All IsReadyDocument documents → All IsFilledApproval approvals → All (λ document. AreWithinLimits (paths_of document.closed approvals)) documents → All (λ document. IsWalkable approvals document.closed) documents
all_walkable approvals documents ready all within i d there =
    walkable approvals (get_or documents i d).closed (ready i d there) all (within i d there)

-- ---- events

few_times : (times : Option ℕ) → IfSome times (λ n. (1 ≤ n) × (n ≤ 2000)) → IfSome times (λ n. n ≤ 2000)
few_times None h = tt
few_times (Some n) h = h.1

can_happen : (objects indices clients runs : List ℕ) (event : ScriptEvent) → IsEventBehind objects indices clients runs event → CanHappen event
can_happen objects indices clients runs (Command client locality buffer) h = h
can_happen objects indices clients runs (Begin run client locality policy place goal) h = h.four_localities
can_happen objects indices clients runs (Turn run times) h = few_times times h.1
can_happen objects indices clients runs (Time ms) h = tt
can_happen objects indices clients runs (Presence on) h = tt
can_happen objects indices clients runs Reset h = tt

pub all_can_happen : (objects indices clients runs : List ℕ) (script : List ScriptEvent) → AreEventsBehind objects indices clients runs script → All CanHappen script
unfolding AreEventsBehind
all_can_happen objects indices clients runs [] h = All-nil CanHappen
all_can_happen objects indices clients runs (event ∷ rest) h =
    All-cons CanHappen event rest (can_happen objects indices clients runs event h.0) (all_can_happen objects indices clients (runs ++ begun_run event) rest h.1)

-- ---- policies that are looked up

found_has : {A : Type 0} (P : A → Type 0) (test : A → Bool) (xs : List A) → AllByRecursion P xs → IfSome (find test xs) P
found_has P test [] h = tt
found_has P test (x ∷ rest) h = elim (test x) as (λ b. IfSome (if b then Some x else find test rest) P) [ true ↦ h.0 | false ↦ found_has P test rest h.1 ]

append_has : {A : Type 0} (P : A → Type 0) (xs ys : List A) → AllByRecursion P xs → AllByRecursion P ys → AllByRecursion P (xs ++ ys)
append_has P [] ys h k = k
append_has P (x ∷ rest) ys h k = (h.0, append_has P rest ys h.1 k)

reversed_has : {A : Type 0} (P : A → Type 0) (xs : List A) → AllByRecursion P xs → AllByRecursion P (reverse xs)
reversed_has P [] h = tt
reversed_has P (x ∷ rest) h =
    subst (AllByRecursion P) (sym (reverse-append (x ∷ []) rest)) (append_has P (reverse rest) (x ∷ []) (reversed_has P rest h.1) (h.0, tt))

through_entity : (P : Closed → Type 0) (found : Option CompiledEntity) (closed : Closed) → IfSome found (λ e. P e.document.closed) → option_map (λ (e : CompiledEntity). e.document.closed) found ≡ Some closed → P closed
through_entity P None closed h e = absurd cc
through_entity P (Some entity) closed h e = let same : entity.document.closed ≡ closed = cc in subst P same h

through_document : (P : FilledDocument → Type 0) (found : Option FilledDocument) (document : FilledDocument) → IfSome found P → found ≡ Some document → P document
through_document P None document h e = absurd cc
through_document P (Some d) document h e = let same : d ≡ document = cc in subst P same h

-- the policy of an entity has what all of them have
pub policy_has : (P : Closed → Type 0) (entities : List CompiledEntity) (handle : ℕ) (closed : Closed) → All (λ e. P e.document.closed) entities → policy_of_entity entities handle ≡ Some closed → P closed
policy_has P entities handle closed all e =
    through_entity P (find (is_entity handle) (reverse entities)) closed
    (found_has (λ (x : CompiledEntity). P x.document.closed) (is_entity handle) (reverse entities)
    (reversed_has (λ (x : CompiledEntity). P x.document.closed) entities (recursion_from_All (λ (x : CompiledEntity). P x.document.closed) entities all))) e

pub policy_walkable : (approvals : List ApprovedDoc) (entities : List CompiledEntity) (handle : ℕ) (closed : Closed) → All (λ e. IsWalkable approvals e.document.closed) entities → policy_of_entity entities handle ≡ Some closed → IsWalkable approvals closed
policy_walkable approvals = policy_has (IsWalkable approvals)

-- a document that is begun has what all of them have
pub document_has : (P : FilledDocument → Type 0) (begun : List FilledDocument) (name : List ℕ) (document : FilledDocument) → All P begun → find (is_document name) begun ≡ Some document → P document
document_has P begun name document all e =
    through_document P (find (is_document name) begun) document (found_has P (is_document name) begun (recursion_from_All P begun all)) e

pub document_walkable : (approvals : List ApprovedDoc) (begun : List FilledDocument) (name : List ℕ) (document : FilledDocument) → All (λ d. IsWalkable approvals d.closed) begun → find (is_document name) begun ≡ Some document → IsWalkable approvals document.closed
document_walkable approvals = document_has (λ document. IsWalkable approvals document.closed)
