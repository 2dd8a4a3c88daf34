-- What the events of the run of `gen` go by: the paths of its policy can be walked.
use Rattle.std.proofs.Common.{◌≡◌, [], codes}
use Rattle.std.proofs.lemmas.List.Elements.{All-cons, All-nil}
use Rattle.tpol_digest.specs.Limits.{AreWithinLimits}
use Rattle.tpol_digest.specs.Paths.{paths_of}
use Rattle.tpol_digest.specs.WellFormed.{IsWellFormedDocument}
use Rattle.tpol_fill.specs.Forms.{IsFilledPolicy}
use Rattle.tpol_name.specs.declared.setup.Setup.{Setup}
use Rattle.tpol_steps.specs.declared.filled.FilledDocument.{FilledDocument}
use Rattle.tpol_prepare.specs.declared.entities.CompiledEntity.{CompiledEntity}
use Rattle.tpol_prepare.specs.declared.manner.Way.TheVariants.{Blind, Sighted}
use Rattle.tpol_generate.specs.Generate.{generated_scenario}
use Rattle.tpol_prepare.specs.Scenario.{IsScenarioOf, IsWalkable}
use Rattle.tpol_tree.specs.Closed.{HasBranchCounts}
use Rattle.tpol_tree.specs.declared.closed.Closed.{Closed}
use Rattle.tpol_tree.specs.declared.path.ApprovedDoc.{ApprovedDoc}

walkable_alone : (closed : Closed) → IsFilledPolicy closed → AreWithinLimits (paths_of closed []) → IsWalkable [] closed
walkable_alone closed filled within = record {
  branches = record { policy_itself = filled.branch_counts; documents = All-nil (λ (document : ApprovedDoc). HasBranchCounts document.closed.elements) };
  well_formed = record { policy_itself = filled.well_formed; documents = All-nil IsWellFormedDocument };
  within = within;
}

pub generated_is_scenario : (now setup : Setup) (closed : Closed) → IsFilledPolicy closed → AreWithinLimits (paths_of closed []) → IsScenarioOf now (generated_scenario setup closed)
unfolding generated_scenario
generated_is_scenario now setup closed filled within = record {
  entities = All-nil (λ (entity : CompiledEntity). IsWalkable [] entity.document.closed);
  begun = All-cons (λ (document : FilledDocument). IsWalkable [] document.closed) (record { name = codes "gen"; closed = closed }) []
      (walkable_alone closed filled within) (All-nil (λ (document : FilledDocument). IsWalkable [] document.closed));
  few = λ (blind : Sighted ≡ Blind). absurd cc;
  policies = λ handle. tt;
}
