-- A scene is explained by the lines of its performance, whichever memory its policies lie in.
use Rattle.std.proofs.Common.{◌≡◌, ◌≤◌, ◌∙◌, ap, refl, sym, subst, ℕ, true, List, length, map, find, reverse, Option, Some, None, IfSome, IsSome, Ok, Err}
use Rattle.std.specs.List.{AllByRecursion}
use Rattle.std.specs.Prelude.{All}
use Rattle.std.specs.Option.{option_map}
use Rattle.tpol_base.specs.declared.document.Document.{Document}
use Rattle.tpol_cert.proofs.ChoicesErased.{certified_erased}
use Rattle.tpol_cert.proofs.Fitting.{paths_have_certificates}
use Rattle.tpol_digest.proofs.Erasures.{paths_ignore_boxes}
use Rattle.tpol_digest.specs.Digest.{policy_digest}
use Rattle.tpol_digest.specs.Paths.{paths_of}
use Rattle.tpol_digest.specs.WellFormed.{HaveBranchCounts}
use Rattle.tpol_lint.proofs.Listed.{never_open}
use Rattle.tpol_lint.specs.Dead.{dead_paths}
use Rattle.tpol_lint.specs.Opened.{HaveClosedBounds, NamesNoDead, NeverOpen}
use Rattle.tpm_bindings.specs.Agreement.{Agree}
use Rattle.tpm_bindings.specs.Facts.{moves_of}
use Rattle.tpol_name.specs.declared.setup.Setup.{Setup}
use Rattle.tpol_scene.specs.declared.scene.Scene.{Scene}
use Rattle.tpol_store.specs.Approvals.{approved_documents}
use Rattle.tpol_store.specs.Stores.{NamedPolicy}
use Rattle.tpol_steps.specs.declared.answer.Answer.{Answer}
use Rattle.tpol_prepare.specs.declared.entities.CompiledEntity.{CompiledEntity}
use Rattle.tpol_steps.specs.declared.answer.Verdict.TheVariants.{Done}
use Rattle.tpol_steps.specs.declared.halt.Halt.{Halt}
use Rattle.tpol_steps.specs.declared.halt.Halt.TheVariants.{Refused, ReadFailed, ShelfFailed, NoMemory}
use Rattle.tpol_prepare.specs.declared.manner.Manner.{Manner}
use Rattle.tpol_prepare.specs.declared.prepared.PreparedScene.{PreparedScene}
use Rattle.tpol_prepare.specs.declared.scenario.Scenario.{Scenario}
use Rattle.tpol_prepare.specs.declared.scenario.StagedScene.{StagedScene}
use Rattle.tpol_prepare.specs.Entities.{erased_entity}
use Rattle.tpol_perform.specs.Explained.{IsExplained, IsExplainedScene}
use Rattle.tpol_perform.specs.Performance.{PerformanceState}
use Rattle.tpol_prepare.specs.Prepared.{prepared_step}
use Rattle.tpol_prepare.specs.Begins.{begins_step}
use Rattle.tpol_prepare.specs.Manner.{explains, way_of}
use Rattle.tpol_prepare.specs.Scenario.{HasPolicyAt, HavePolicies, IsScenarioOf, erased_scenario, erased_staged, is_entity, limited_step, policy_of_entity, scenario_with, staged_by, staged_step, staged_with}
use Rattle.tpol_steps.specs.SceneStep.{scene_of_bytes}
use Rattle.tpol_perform.specs.Script.{performance_answer, performed}
use Rattle.tpol_steps.specs.Steps.{Answers, Halts, IfAnswered, Step, ◌>>=◌}
use Rattle.tpol_steps.specs.StoreStep.{store_step}
use Rattle.tpol_prepare.proofs.EntitiesErased.{reversed_erased}
use Rattle.tpol_prepare.proofs.EntityPolicies.{found_erased}
use Rattle.tpol_steps.proofs.FilledErased.{policy_digest_erased}
use Rattle.tpol_perform.proofs.OpenedTold.{AreOpenable, IsOpenable}
use Rattle.tpol_perform.proofs.OpeningErased.{opening_of_erased}
use Rattle.tpol_perform.proofs.PathPcrs.{HasDigests, paths_have_digests}
use Rattle.tpol_perform.proofs.PerformanceErased.{performed_erased}
use Rattle.tpol_perform.proofs.Told.{performed_explains}
use Rattle.tpol_prepare.proofs.Walkable.{policy_has, policy_walkable}
use Rattle.tpol_prepare.specs.Staged.{IsStaged}
use Rattle.tpol_trace.proofs.Meaning.{opening_means}
use Rattle.tpol_trace.proofs.Opened.{facts_open}
use Rattle.tpol_trace.specs.declared.answer.Opening.{Opening}
use Rattle.tpol_trace.specs.declared.answer.Opening.TheVariants.{Branch, Clash, ZeroInput}
use Rattle.tpol_trace.specs.Openings.{IsOpening, opening_of}
use Rattle.tpol_tree.specs.Bounds.{HasClosedBounds}
use Rattle.tpol_tree.specs.declared.facts.Fact.{Fact}
use Rattle.tpol_tree.specs.ClosedErased.{erased, erased_document}
use Rattle.tpol_tree.specs.declared.closed.Closed.{Closed}
use Rattle.tpol_tree.specs.declared.path.ApprovedDoc.{ApprovedDoc}
use Rattle.tpol_tree.specs.declared.path.Path.{Path}

-- ---- facts that agree open by no dead path

no_dead : (closed : Closed) (approvals : List ApprovedDoc) (facts : List Fact) (opening : Opening) → NeverOpen closed approvals (dead_paths 1 (paths_of closed approvals)) → HaveClosedBounds closed approvals
    → Agree (moves_of facts) → IsOpening closed approvals facts opening → NamesNoDead (paths_of closed approvals) opening
no_dead closed approvals facts (Branch position events) never bounds agree means = λ i one within same.
    (never bounds i one within).1 facts events agree (subst (λ p. IsOpening closed approvals facts (Branch p events)) (sym same) means)
no_dead closed approvals facts (Clash first second) never bounds agree means = tt
no_dead closed approvals facts (ZeroInput string) never bounds agree means = tt

alive : (closed : Closed) (approvals : List ApprovedDoc) → HaveBranchCounts closed approvals → HaveClosedBounds closed approvals → (facts : List Fact) → Agree (moves_of facts)
    → IfSome (opening_of closed approvals facts) (NamesNoDead (paths_of closed approvals))
alive closed approvals counts bounds facts agree = by (opening_of closed approvals facts) refl
  where
    by : (found : Option Opening) → opening_of closed approvals facts ≡ found → IfSome found (NamesNoDead (paths_of closed approvals))
    by None e = tt
    by (Some opening) e = no_dead closed approvals facts opening (never_open closed approvals counts) bounds agree (opening_means closed approvals facts opening e)

-- ---- a scenario whose policies can be walked

pub openable : (setup : Setup) (scenario : Scenario) → IsScenarioOf setup scenario → All (λ entity. HasClosedBounds entity.document.closed) scenario.entities
    → All (λ document. HasClosedBounds document.closed) scenario.approvals → AreOpenable scenario
openable setup scenario is entities approvals handle = by (policy_of_entity scenario.entities handle) refl
  where
    by : (policy : Option Closed) → policy_of_entity scenario.entities handle ≡ policy → IfSome policy (IsOpenable scenario.approvals)
    by None e = tt
    by (Some closed) e =
        let walkable = policy_walkable scenario.approvals scenario.entities handle closed is.entities e in
        record {
          opens = λ facts sound digest. facts_open closed scenario.approvals facts walkable.well_formed sound digest;
          digests = paths_have_digests closed scenario.approvals walkable.well_formed;
          certified = λ position. paths_have_certificates closed scenario.approvals position walkable.branches walkable.within;
          alive = λ facts agree. alive closed scenario.approvals walkable.branches (record { policy_itself = policy_has HasClosedBounds scenario.entities handle closed entities e; documents = approvals }) facts agree;
        }

-- ---- the same erased

policy_erased : (entities : List CompiledEntity) (handle : ℕ) → policy_of_entity (map erased_entity entities) handle ≡ option_map erased (policy_of_entity entities handle)
policy_erased entities handle =
    ap (λ (l : List CompiledEntity). option_map (λ (e : CompiledEntity). e.document.closed) (find (is_entity handle) l)) (reversed_erased entities)
    ∙ found_erased handle (reverse entities)

have_erased : (setup : Setup) (entities : List CompiledEntity) → HavePolicies setup entities → HavePolicies setup (map erased_entity entities)
have_erased setup entities h handle =
    subst (λ (found : Option Closed). IfSome found (λ c. HasPolicyAt setup handle (policy_digest c))) (sym (policy_erased entities handle))
    (by (policy_of_entity entities handle) (h handle))
  where
    by : (found : Option Closed) → IfSome found (λ c. HasPolicyAt setup handle (policy_digest c)) → IfSome (option_map erased found) (λ c. HasPolicyAt setup handle (policy_digest c))
    by None there = tt
    by (Some c) there = subst (HasPolicyAt setup handle) (sym (policy_digest_erased c)) there

openable_erased : (scenario : Scenario) → AreOpenable scenario → AreOpenable (erased_scenario scenario)
openable_erased scenario h handle =
    subst (λ (found : Option Closed). IfSome found (IsOpenable (map erased_document scenario.approvals))) (sym (policy_erased scenario.entities handle))
    (by (policy_of_entity scenario.entities handle) (h handle))
  where
    by : (found : Option Closed) → IfSome found (IsOpenable scenario.approvals) → IfSome (option_map erased found) (IsOpenable (map erased_document scenario.approvals))
    by None can = tt
    by (Some c) can = record {
      opens = λ facts sound digest. subst (λ o. IsSome o) (sym (opening_of_erased c scenario.approvals facts)) (can.opens facts sound (digest ∙ policy_digest_erased c));
      digests = subst (AllByRecursion HasDigests) (sym (paths_ignore_boxes c scenario.approvals)) can.digests;
      certified = λ position counted inside.
          certified_erased c scenario.approvals position (can.certified position counted (subst (λ (paths : List Path). position ≤ length paths) (paths_ignore_boxes c scenario.approvals) inside));
      alive = λ facts agree.
          subst (λ o. IfSome o (NamesNoDead (paths_of (erased c) (map erased_document scenario.approvals)))) (sym (opening_of_erased c scenario.approvals facts))
          (subst (λ paths. IfSome (opening_of c scenario.approvals facts) (NamesNoDead paths)) (sym (paths_ignore_boxes c scenario.approvals)) (can.alive facts agree));
    }

explained_erased : (staged : StagedScene) → explains staged.scenario.manner ≡ true → IsStaged staged → IsExplained (erased_staged staged) (performed staged).lines
explained_erased staged tells is =
    subst (λ (p : PerformanceState). IsExplained (erased_staged staged) p.lines) (performed_erased staged)
    (performed_explains (erased_staged staged) tells (have_erased staged.setup staged.scenario.entities is.scenario.policies)
    (openable_erased staged.scenario (openable staged.setup staged.scenario is.scenario is.entities is.approvals)) is.setup.pcrs)

-- ---- what is staged is carried out in the manner that it was staged for

module _ (manner : Manner) where
  abbrev HasManner : StagedScene → Type 0
  HasManner staged = staged.scenario.manner ≡ manner

  through : {A : Type 0} (first : Step A) (next : A → Step StagedScene) (staged : StagedScene) → ((x : A) → next x ≡ Ok staged → HasManner staged) → (first >>= next) ≡ Ok staged → HasManner staged
  through (Ok x) next staged h e = h x e
  through (Err answer) next staged h e = absurd cc

  manner_by : (scene : Scene) (prepared : PreparedScene) (approvals : List ApprovedDoc) (staged : StagedScene) → staged_by manner scene prepared approvals ≡ Ok staged → HasManner staged
  unfolding staged_by
  manner_by scene prepared approvals staged =
      through (limited_step (way_of manner) prepared approvals) (λ within. Ok (scenario_with manner scene prepared approvals)) staged
      (λ within e. let same : scenario_with manner scene prepared approvals ≡ staged = cc in subst HasManner same refl)

  manner_with : (scene : Scene) (store : List NamedPolicy) (staged : StagedScene) → staged_with manner scene store ≡ Ok staged → HasManner staged
  unfolding staged_with
  manner_with scene store staged =
      through (prepared_step store scene) (λ prepared. staged_by manner scene prepared (approved_documents store (Some prepared.sight))) staged
      (λ prepared. manner_by scene prepared (approved_documents store (Some prepared.sight)) staged)

  manner_staged : (input : List ℕ) (all : List Document) (staged : StagedScene) → staged_step manner input all ≡ Ok staged → HasManner staged
  unfolding staged_step
  manner_staged input all staged =
      through (scene_of_bytes input) (λ scene. begins_step (way_of manner) scene.script >>= λ few. store_step all >>= λ store. staged_with manner scene store) staged
      (λ scene. through (begins_step (way_of manner) scene.script) (λ few. store_step all >>= λ store. staged_with manner scene store) staged
      (λ few. through (store_step all) (λ store. staged_with manner scene store) staged (λ store. manner_with scene store staged)))

-- ---- what is answered where openings are told

-- a step has one value
one_value : (step : Step StagedScene) (a b : StagedScene) → step ≡ Ok a → step ≡ Ok b → a ≡ b
one_value step a b h k = cc

-- of a scene that was staged
pub staged_explained : (manner : Manner) (documents : Option (List Document)) (input : List ℕ) (staged : StagedScene) (answer : Answer)
    → explains manner ≡ true → IfSome documents (λ all. Answers erased_staged (staged_step manner input all) (Ok staged)) → IsStaged staged → answer ≡ performance_answer staged
    → IfSome documents (λ all. IsExplainedScene manner input all answer.lines)
staged_explained manner None input staged answer tells answers is same = tt
staged_explained manner (Some all) input staged answer tells answers is same =
    let told : explains staged.scenario.manner ≡ true = ap explains (manner_staged manner input all (erased_staged staged) answers) ∙ tells in
    let explained : IsExplained (erased_staged staged) answer.lines =
    subst (λ (a : Answer). IsExplained (erased_staged staged) a.lines) (sym same) (explained_erased staged told is) in
    λ other e. let one : erased_staged staged ≡ other = one_value (staged_step manner input all) (erased_staged staged) other answers e in subst (λ (s : StagedScene). IsExplained s answer.lines) one explained

-- and of one that was not
pub halted_explained : (manner : Manner) (documents : Option (List Document)) (input : List ℕ) (halt : Halt)
    → IfSome documents (λ all. Halts halt (staged_step manner input all))
    → IfAnswered (Err halt) (λ answer. answer.verdict ≡ Done → IfSome documents (λ all. IsExplainedScene manner input all answer.lines))
halted_explained manner None input (Refused answer) halts = λ done. tt
halted_explained manner (Some all) input (Refused answer) halts =
    λ done other e. absurd (no_value answer other (sym halts ∙ e))
  where
    no_value : (a : Answer) (s : StagedScene) → Err a ≡ Ok s → ⊥
    no_value a s h = cc
halted_explained manner documents input ReadFailed halts = tt
halted_explained manner documents input ShelfFailed halts = tt
halted_explained manner documents input NoMemory halts = tt
