-- The paths of a policy that a script begins are few, and short.
use Rattle.std.proofs.Common.{◌≡◌, ℕ, ◌≤◌, List, [], length, find, refl, Option, Some, None, All, arith}
use Rattle.std.proofs.lemmas.List.Elements.{All-nil}
use Rattle.tpol_digest.specs.Paths.{paths_of}
use Rattle.tpol_name.specs.declared.setup.Setup.{Setup}
use Rattle.tpol_prepare.specs.declared.manner.Way.TheVariants.{Blind}
use Rattle.tpol_prepare.specs.declared.scenario.Scenario.{Scenario}
use Rattle.tpol_prepare.specs.Manner.{way_of}
use Rattle.tpol_prepare.specs.Scenario.{IsScenarioOf, IsWalkable, is_document, paths_in, paths_named}
use Rattle.tpol_prepare.proofs.Walkable.{document_has}
use Rattle.tpol_steps.specs.declared.filled.FilledDocument.{FilledDocument}
use Rattle.tpol_tree.specs.declared.path.Path.{Path}

-- what the paths of each document have, those of the one of a name have, and so does no path
paths_have : (P : List Path → Type 0) (scenario : Scenario) (name : List ℕ) → P [] → All (λ document. P (paths_of document.closed scenario.approvals)) scenario.begun → P (paths_named scenario name)
unfolding paths_named
paths_have P scenario name none all = by (find (is_document name) scenario.begun) refl
  where
    by : (found : Option FilledDocument) → find (is_document name) scenario.begun ≡ found → P (paths_in scenario.approvals found)
    by None e = none
    by (Some document) e = document_has (λ d. P (paths_of d.closed scenario.approvals)) scenario.begun name document all e

pub few_named : (setup : Setup) (scenario : Scenario) (name : List ℕ) → IsScenarioOf setup scenario → way_of scenario.manner ≡ Blind → length (paths_named scenario name) ≤ 64
few_named setup scenario name is blind = paths_have (λ paths. length paths ≤ 64) scenario name (omega arith) (is.few blind)

pub few_begun : (scenario : Scenario) (name : List ℕ) → All (λ document. IsWalkable scenario.approvals document.closed) scenario.begun → length (paths_named scenario name) ≤ 65536
few_begun scenario name all = paths_have (λ paths. length paths ≤ 65536) scenario name (omega arith) (λ i document within. (all i document within).within.few)

pub short_named : (setup : Setup) (scenario : Scenario) (name : List ℕ) → IsScenarioOf setup scenario → All (λ path. length path.moves ≤ 512) (paths_named scenario name)
short_named setup scenario name is =
    paths_have (All (λ path. length path.moves ≤ 512)) scenario name (All-nil (λ (path : Path). length path.moves ≤ 512)) (λ i document within. (is.begun i document within).within.short)
