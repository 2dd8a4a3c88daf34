-- Each scene that the steps of a command stage can be carried out.
use Rattle.std.proofs.Common.{◌≡◌, ◌++◌, ◌≤◌, refl, subst, ℕ, Bool, true, false, nat_lt, length, List, [], ◌∷◌, map, All, Option, Some, None, Ok, Err}
use Rattle.std.proofs.lemmas.Bool.{ltb-false}
use Rattle.std.proofs.lemmas.List.Elements.{All-from_recursion, recursion_from_All}
use Rattle.std.specs.List.{AllByRecursion, flat_map, list_any}
use Rattle.std.specs.Prelude.{IfOk, ◌||◌, ⊤}
use Rattle.serde_json.specs.Data.{Data}
use Rattle.tpol_base.specs.declared.document.Document.{Document}
use Rattle.tpol_digest.specs.Limits.{AreWithinLimits}
use Rattle.tpol_digest.specs.Paths.{paths_of}
use Rattle.tpol_entities.specs.Faults.{Fault, Found}
use Rattle.tpol_fill.specs.Filling.{fill_faults, filled}
use Rattle.tpol_fill.specs.Forms.{IsFilledApproval}
use Rattle.tpol_fill.specs.Outcome.{Fault as FillFault}
use Rattle.tpol_json.proofs.AllFound.{AllFound}
use Rattle.tpol_json.specs.Document.{document_of as json_of}
use Rattle.tpol_json.specs.Places.{root}
use Rattle.tpol_name.specs.declared.sight.Sight.{Sight}
use Rattle.tpol_prepare.proofs.EntityPolicies.{prepared_have}
use Rattle.tpol_prepare.proofs.StagedScenes.{is_staged, script_kept}
use Rattle.tpol_prepare.proofs.Walkable.{walkable}
use Rattle.tpol_prepare.specs.declared.entities.CompiledEntity.{CompiledEntity}
use Rattle.tpol_prepare.specs.declared.manner.Manner.{Manner}
use Rattle.tpol_prepare.specs.declared.manner.Way.{Way}
use Rattle.tpol_prepare.specs.declared.manner.Way.TheVariants.{Blind, Sighted, WithTickets}
use Rattle.tpol_prepare.specs.declared.prepared.PreparedScene.{PreparedScene}
use Rattle.tpol_prepare.specs.declared.scenario.StagedScene.{StagedScene}
use Rattle.tpol_prepare.specs.Begins.{begins_step}
use Rattle.tpol_prepare.specs.Entities.{IsReadyEntity}
use Rattle.tpol_prepare.specs.Manner.{way_of}
use Rattle.tpol_prepare.specs.Prepared.{prepared_step}
use Rattle.tpol_prepare.specs.Scenario.{HasFewPaths, IsWalkable, begun_limits, entity_document, limited_step, scenario_with, staged_by, staged_step, staged_with}
use Rattle.tpol_prepare.specs.Staged.{IsStaged}
use Rattle.tpol_scene.proofs.SceneLemmas.{SceneFits, scene_ok}
use Rattle.tpol_scene.specs.declared.scene.Scene.{Scene}
use Rattle.tpol_scene.specs.Scenes.{scene_faults, scene_in}
use Rattle.tpol_steps.specs.declared.filled.FilledDocument.{FilledDocument}
use Rattle.tpol_steps.specs.Filled.{IsReadyDocument}
use Rattle.tpol_steps.specs.Limits.{few_to_try, is_too_long, limit_step, limits_step, tried_limit_step, tried_limits_step, within_limits}
use Rattle.tpol_steps.specs.SceneStep.{scene_of_bytes, scene_of_document, unless_scene_fault}
use Rattle.tpol_steps.specs.Steps.{Step}
use Rattle.tpol_steps.specs.StoreStep.{store_step}
use Rattle.tpol_store.specs.Approvals.{HasApprovedBounds, approved_by, approved_documents, approved_in, approver, unless_fault}
use Rattle.tpol_store.specs.Stores.{NamedPolicy}
use Rattle.tpol_tree.specs.declared.path.ApprovedBy.{ApprovedBy}
use Rattle.tpol_tree.specs.declared.path.ApprovedDoc.{ApprovedDoc}
use Rattle.tpol_tree.specs.declared.path.Path.{Path}
use Rattle.tpol_tree.specs.declared.policy.Policy.{Policy}
use Rattle.tpol_tree.specs.declared.wishes.ApprovalWish.{ApprovalWish}
use Rattle.tpol_prepare.proofs.Stored.{IsReadablePolicy}
use Rattle.tpol_laws.proofs.FilledForms.{filled-ready}
use Rattle.tpol_laws.proofs.Prepared.{AreReady, prepared-ready, prepared-setup, step-then}
use Rattle.tpol_laws.proofs.Readable.{AreReadable, store-readable}

-- ---- the scene

document-fits : (faults : List Fault) (found : Found Scene) → AllFound SceneFits found → IfOk (unless_scene_fault faults found) SceneFits
document-fits [] (Ok scene) is = is
document-fits [] (Err fault) is = tt
document-fits (fault ∷ faults) found is = tt

json-fits : (there : Option Data) → IfOk (scene_of_document there) SceneFits
json-fits None = tt
json-fits (Some d) = document-fits (scene_faults d) (scene_in d root) (scene_ok d root)

scene-fits : (input : List ℕ) → IfOk (scene_of_bytes input) SceneFits
unfolding scene_of_bytes
scene-fits input = json-fits (json_of input)

-- ---- what is approved

-- a filled policy with its digest, within the bounds of the wire
record IsApproval (document : ApprovedDoc) : Type 0 where
  pub form : IsFilledApproval document
  pub bounded : HasApprovedBounds document

both : (some more : List ApprovedDoc) → AllByRecursion IsApproval some → AllByRecursion IsApproval more → AllByRecursion IsApproval (some ++ more)
both [] more are add = add
both (document ∷ rest) more are add = (are.0, both rest more are.1 add)

unless-approval : (by : Option ApprovedBy) (faults : List FillFault) (name : List ℕ) (policy : Policy) (sight : Option Sight) → IsReadablePolicy policy → fill_faults policy sight ≡ faults
    → AllByRecursion IsApproval (unless_fault by faults name (filled policy sight))
unless-approval None faults name policy sight readable e = tt
unless-approval (Some by) [] name policy sight readable e =
    let ready = filled-ready policy sight readable e in
    (record { form = record { policy = ready.form; digest = refl }; bounded = ready.bounded }, tt)
unless-approval (Some by) (fault ∷ rest) name policy sight readable e = tt

wish-approval : (name : List ℕ) (policy : Policy) (sight : Option Sight) → IsReadablePolicy policy → (wish : ApprovalWish) → AllByRecursion IsApproval (approved_by name policy sight wish)
unfolding approved_by
wish-approval name policy sight readable wish = unless-approval (approver wish sight) (fill_faults policy sight) name policy sight readable refl

wishes-approval : (name : List ℕ) (policy : Policy) (sight : Option Sight) → IsReadablePolicy policy → (wishes : List ApprovalWish)
    → AllByRecursion IsApproval (flat_map (approved_by name policy sight) wishes)
wishes-approval name policy sight readable [] = tt
wishes-approval name policy sight readable (wish ∷ rest) =
    both (approved_by name policy sight wish) (flat_map (approved_by name policy sight) rest) (wish-approval name policy sight readable wish) (wishes-approval name policy sight readable rest)

approvals-are : (store : List NamedPolicy) (sight : Option Sight) → AreReadable store → AllByRecursion IsApproval (approved_documents store sight)
approvals-are [] sight are = tt
approvals-are (document ∷ rest) sight are =
    both (approved_in document.0 document.1 sight) (approved_documents rest sight) (wishes-approval document.0 document.1 sight are.0 document.1.approvals) (approvals-are rest sight are.1)

-- ---- the limits

first-false : (x y : Bool) → (x || y) ≡ false → x ≡ false
first-false true y e = e
first-false false y e = refl

second-false : (x y : Bool) → (x || y) ≡ false → y ≡ false
second-false true y e = absurd cc
second-false false y e = e

all-short : (paths : List Path) → list_any is_too_long paths ≡ false → AllByRecursion (λ path. length path.moves ≤ 512) paths
all-short [] e = tt
all-short (path ∷ rest) e = (
  ltb-false 512 (length path.moves) (first-false (is_too_long path) (list_any is_too_long rest) e),
  all-short rest (second-false (is_too_long path) (list_any is_too_long rest) e),
)

within : (document : Option (List ℕ)) (paths : List Path) (few long : Bool) → nat_lt 65536 (length paths) ≡ few → list_any is_too_long paths ≡ long
    → IfOk (within_limits document paths) (λ done. AreWithinLimits paths)
within document paths true long few short = rw few tt
within document paths false true few short = rw (few, short) tt
within document paths false false few short =
    rw (few, short)
    (record { few = ltb-false 65536 (length paths) few; short = All-from_recursion (λ (path : Path). length path.moves ≤ 512) paths (all-short paths short) })

abbrev IsWithin : List ApprovedDoc → FilledDocument → Type 0
IsWithin approvals document = AreWithinLimits (paths_of document.closed approvals)

document-within : (approvals : List ApprovedDoc) (document : FilledDocument) → IfOk (limit_step (Some document.name) document.closed approvals) (λ done. IsWithin approvals document)
unfolding limit_step
document-within approvals document =
    let paths = paths_of document.closed approvals in
    within (Some document.name) paths (nat_lt 65536 (length paths)) (list_any is_too_long paths) refl refl

documents-within : (approvals : List ApprovedDoc) (documents : List FilledDocument) → IfOk (limits_step approvals documents) (λ done. AllByRecursion (IsWithin approvals) documents)
unfolding limits_step
documents-within approvals [] = tt
documents-within approvals (document ∷ rest) =
    step-then (λ done. IsWithin approvals document) (λ done. AllByRecursion (IsWithin approvals) (document ∷ rest)) (limit_step (Some document.name) document.closed approvals)
    (λ done. limits_step approvals rest) (document-within approvals document)
    (λ done e is. step-kept (λ done. AllByRecursion (IsWithin approvals) rest) (λ done. AllByRecursion (IsWithin approvals) (document ∷ rest)) (limits_step approvals rest)
    (documents-within approvals rest) (λ done are. (is, are)))
  where
    step-kept : {A : Type 0} (P Q : A → Type 0) (step : Step A) → IfOk step P → ((x : A) → P x → Q x) → IfOk step Q
    step-kept P Q (Ok x) is keeps = keeps x is
    step-kept P Q (Err answer) is keeps = tt

entities-walkable : (approvals : List ApprovedDoc) → All IsFilledApproval approvals → (entities : List CompiledEntity) → AllByRecursion IsReadyEntity entities
    → AllByRecursion (IsWithin approvals) (map entity_document entities) → AllByRecursion (λ entity. IsWalkable approvals entity.document.closed) entities
entities-walkable approvals all [] ready are = tt
entities-walkable approvals all (entity ∷ rest) ready are =
    (walkable approvals entity.document.closed ready.0 all are.0, entities-walkable approvals all rest ready.1 are.1)

documents-walkable : (approvals : List ApprovedDoc) → All IsFilledApproval approvals → (documents : List FilledDocument) → AllByRecursion IsReadyDocument documents
    → AllByRecursion (IsWithin approvals) documents → AllByRecursion (λ document. IsWalkable approvals document.closed) documents
documents-walkable approvals all [] ready are = tt
documents-walkable approvals all (document ∷ rest) ready are =
    (walkable approvals document.closed ready.0 all are.0, documents-walkable approvals all rest ready.1 are.1)

-- ---- policies whose paths blind runs try

abbrev IsFew : List ApprovedDoc → FilledDocument → Type 0
IsFew approvals document = IsWithin approvals document × HasFewPaths approvals document

few-to-try : (document : Option (List ℕ)) (paths : List Path) (many : Bool) → nat_lt 64 (length paths) ≡ many → IfOk (few_to_try document paths) (λ done. length paths ≤ 64)
few-to-try document paths true many = rw many tt
few-to-try document paths false many = rw many (ltb-false 64 (length paths) many)

document-few : (approvals : List ApprovedDoc) (document : FilledDocument) → IfOk (tried_limit_step (Some document.name) document.closed approvals) (λ done. IsFew approvals document)
unfolding tried_limit_step
document-few approvals document =
    let paths = paths_of document.closed approvals in
    step-then (λ done. length paths ≤ 64) (λ done. IsFew approvals document) (few_to_try (Some document.name) paths) (λ few. limit_step (Some document.name) document.closed approvals)
    (few-to-try (Some document.name) paths (nat_lt 64 (length paths)) refl)
    (λ done e few. also (limit_step (Some document.name) document.closed approvals) few (document-within approvals document))
  where
    also : (step : Step (Unit {0})) → length (paths_of document.closed approvals) ≤ 64 → IfOk step (λ done. IsWithin approvals document) → IfOk step (λ done. IsFew approvals document)
    also (Ok done) few is = (is, few)
    also (Err answer) few is = tt

documents-few : (approvals : List ApprovedDoc) (documents : List FilledDocument) → IfOk (tried_limits_step approvals documents) (λ done. AllByRecursion (IsFew approvals) documents)
unfolding tried_limits_step
documents-few approvals [] = tt
documents-few approvals (document ∷ rest) =
    step-then (λ done. IsFew approvals document) (λ done. AllByRecursion (IsFew approvals) (document ∷ rest)) (tried_limit_step (Some document.name) document.closed approvals)
    (λ done. tried_limits_step approvals rest) (document-few approvals document)
    (λ done e is. step-kept (λ done. AllByRecursion (IsFew approvals) rest) (λ done. AllByRecursion (IsFew approvals) (document ∷ rest)) (tried_limits_step approvals rest)
    (documents-few approvals rest) (λ done are. (is, are)))
  where
    step-kept : {A : Type 0} (P Q : A → Type 0) (step : Step A) → IfOk step P → ((x : A) → P x → Q x) → IfOk step Q
    step-kept P Q (Ok x) is keeps = keeps x is
    step-kept P Q (Err answer) is keeps = tt

firsts : {A : Type 0} (P Q : A → Type 0) (xs : List A) → AllByRecursion (λ x. P x × Q x) xs → AllByRecursion P xs
firsts P Q [] are = tt
firsts P Q (x ∷ rest) are = (are.0.0, firsts P Q rest are.1)

seconds : {A : Type 0} (P Q : A → Type 0) (xs : List A) → AllByRecursion (λ x. P x × Q x) xs → AllByRecursion Q xs
seconds P Q [] are = tt
seconds P Q (x ∷ rest) are = (are.0.1, seconds P Q rest are.1)

-- what the limits keep of the policies that a script begins, by how its runs are driven
record AreBegun (way : Way) (approvals : List ApprovedDoc) (begun : List FilledDocument) : Type 0 where
  within : AllByRecursion (IsWithin approvals) begun
  few : way ≡ Blind → AllByRecursion (HasFewPaths approvals) begun

begun-within : (way : Way) (approvals : List ApprovedDoc) (begun : List FilledDocument) → IfOk (begun_limits way approvals begun) (λ done. AreBegun way approvals begun)
begun-within Sighted approvals begun = by (limits_step approvals begun) (documents-within approvals begun)
  where
    by : (step : Step (Unit {0})) → IfOk step (λ done. AllByRecursion (IsWithin approvals) begun) → IfOk step (λ done. AreBegun Sighted approvals begun)
    by (Ok done) are = record { within = are; few = λ blind. absurd cc }
    by (Err answer) are = tt
begun-within WithTickets approvals begun = by (limits_step approvals begun) (documents-within approvals begun)
  where
    by : (step : Step (Unit {0})) → IfOk step (λ done. AllByRecursion (IsWithin approvals) begun) → IfOk step (λ done. AreBegun WithTickets approvals begun)
    by (Ok done) are = record { within = are; few = λ blind. absurd cc }
    by (Err answer) are = tt
begun-within Blind approvals begun = by (tried_limits_step approvals begun) (documents-few approvals begun)
  where
    by : (step : Step (Unit {0})) → IfOk step (λ done. AllByRecursion (IsFew approvals) begun) → IfOk step (λ done. AreBegun Blind approvals begun)
    by (Ok done) are = record {
      within = firsts (IsWithin approvals) (HasFewPaths approvals) begun are;
      few = λ blind. seconds (IsWithin approvals) (HasFewPaths approvals) begun are;
    }
    by (Err answer) are = tt

-- the policies of a scene that is within the limits
record AreWithin (way : Way) (approvals : List ApprovedDoc) (prepared : PreparedScene) : Type 0 where
  pub entities : AllByRecursion (IsWithin approvals) (map entity_document prepared.entities)
  pub begun : AreBegun way approvals prepared.begun

scene-within : (way : Way) (prepared : PreparedScene) (approvals : List ApprovedDoc) → IfOk (limited_step way prepared approvals) (λ done. AreWithin way approvals prepared)
unfolding limited_step
scene-within way prepared approvals =
    step-then (λ done. AllByRecursion (IsWithin approvals) (map entity_document prepared.entities)) (λ done. AreWithin way approvals prepared)
    (limits_step approvals (map entity_document prepared.entities)) (λ done. begun_limits way approvals prepared.begun)
    (documents-within approvals (map entity_document prepared.entities))
    (λ done e entities. also (begun_limits way approvals prepared.begun) entities (begun-within way approvals prepared.begun))
  where
    also : (step : Step (Unit {0})) → AllByRecursion (IsWithin approvals) (map entity_document prepared.entities) → IfOk step (λ done. AreBegun way approvals prepared.begun)
        → IfOk step (λ done. AreWithin way approvals prepared)
    also (Ok done) entities are = record { entities = entities; begun = are }
    also (Err answer) entities are = tt

-- ---- all of it

module _ (manner : Manner) (scene : Scene) (fits : SceneFits scene) (store : List NamedPolicy) (readable : AreReadable store) where
  parts-staged : (prepared : PreparedScene) → prepared_step store scene ≡ Ok prepared → AreReady prepared
      → AreWithin (way_of manner) (approved_documents store (Some prepared.sight)) prepared
      → IsStaged (scenario_with manner scene prepared (approved_documents store (Some prepared.sight)))
  parts-staged prepared e ready are =
      let approvals = approved_documents store (Some prepared.sight) in
      let each = All-from_recursion IsApproval approvals (approvals-are store (Some prepared.sight) readable) in
      let forms : All IsFilledApproval approvals = λ i document there. (each i document there).form in
      is_staged manner scene prepared approvals (prepared-setup store scene prepared fits.setup e)
      (record {
        entities = All-from_recursion (λ (entity : CompiledEntity). IsWalkable approvals entity.document.closed) prepared.entities
            (entities-walkable approvals forms prepared.entities (recursion_from_All IsReadyEntity prepared.entities ready.entities) are.entities);
        begun = All-from_recursion (λ (document : FilledDocument). IsWalkable approvals document.closed) prepared.begun
            (documents-walkable approvals forms prepared.begun (recursion_from_All IsReadyDocument prepared.begun ready.begun) are.begun.within);
        few = λ blind. All-from_recursion (HasFewPaths approvals) prepared.begun (are.begun.few blind);
        policies = prepared_have store scene prepared e;
      })
      ready.entities ready.begun (λ i document there. (each i document there).bounded) fits.clients
      (script_kept store scene prepared e fits.script)

  scene-staged : IfOk (staged_with manner scene store) IsStaged
  unfolding staged_with staged_by
  scene-staged =
      step-then (AreReady) IsStaged (prepared_step store scene) _ (prepared-ready store readable scene)
      (λ prepared e ready. step-then (λ done. AreWithin (way_of manner) (approved_documents store (Some prepared.sight)) prepared) IsStaged
      (limited_step (way_of manner) prepared (approved_documents store (Some prepared.sight))) _ (scene-within (way_of manner) prepared (approved_documents store (Some prepared.sight)))
      (λ done within are. parts-staged prepared e ready are))

any-step : (step : Step (Unit {0})) → IfOk step (λ done. ⊤)
any-step (Ok done) = tt
any-step (Err answer) = tt

any-staged : (manner : Manner) (input : List ℕ) (all : List Document) → IfOk (staged_step manner input all) IsStaged
unfolding staged_step
any-staged manner input all =
    step-then SceneFits IsStaged (scene_of_bytes input) _ (scene-fits input)
    (λ scene e fits. step-then (λ few. ⊤) IsStaged (begins_step (way_of manner) scene.script) _ (any-step (begins_step (way_of manner) scene.script))
    (λ few g holds. step-then AreReadable IsStaged (store_step all) _ (store-readable all)
    (λ store f readable. scene-staged manner scene fits store readable)))

-- the scene that bytes and the documents of a shelf give
pub step-staged : (manner : Manner) (input : List ℕ) (all : List Document) (staged : StagedScene) → staged_step manner input all ≡ Ok staged → IsStaged staged
step-staged manner input all staged e = subst (λ (step : Step StagedScene). IfOk step IsStaged) e (any-staged manner input all)
