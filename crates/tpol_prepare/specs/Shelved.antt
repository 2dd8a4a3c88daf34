-- Policies that are filled with what the shelf has.
use Rattle.std.specs.Prelude.{ℕ, List, map, Option, Some, None, Ok}
use Rattle.tpol_base.specs.declared.document.Document.{Document}
use Rattle.tpol_name.specs.declared.sight.Sight.{Sight}
use Rattle.tpol_scene.specs.declared.scene.Scene.{Scene}
use Rattle.tpol_store.specs.Approvals.{approved_documents}
use Rattle.tpol_store.specs.Stores.{NamedPolicy, policies_of}
use Rattle.tpol_prepare.specs.declared.shelved.PolicyWithApprovals.{PolicyWithApprovals}
use Rattle.tpol_prepare.specs.declared.shelved.StoreWithScene.{StoreWithScene}
use Rattle.tpol_prepare.specs.Prepared.{opening_step}
use Rattle.tpol_steps.specs.Filled.{filled_step}
use Rattle.tpol_steps.specs.Limits.{limit_step}
use Rattle.tpol_steps.specs.SceneStep.{named_scene_step}
use Rattle.tpol_steps.specs.Steps.{Step, ◌>>=◌}
use Rattle.tpol_steps.specs.StoreStep.{store_step}
use Rattle.tpol_tree.specs.ClosedErased.{erased, erased_document}
use Rattle.tpol_tree.specs.declared.closed.Closed.{Closed}
use Rattle.tpol_tree.specs.declared.path.ApprovedDoc.{ApprovedDoc}
use Rattle.tpol_tree.specs.declared.policy.Policy.{Policy}

-- ---- what the shelf has

-- the policies of a shelf, and its scene of a name, if one is named
pub record Shelved : Type 0 where
  pub store : List NamedPolicy
  pub scene : Option Scene

-- the scene of this name, if one is named, and then the policies
unfoldable pub shelved_step : Option (List ℕ) → List Document → Step Shelved
shelved_step name all = do
  scene ← named_scene_step name all
  store ← store_step all
  Ok (record { store = store; scene = scene })

-- what the machine of its scene shows when it starts; the policies that the scene names are among its own
unfoldable pub shelved_sight : Option (List ℕ) → List Document → Step (Option Sight)
shelved_sight name all = shelved_step name all >>= λ shelved. opening_step shelved.store shelved.scene

-- the same, where nothing is read if no scene is named
unfoldable pub sight_step : Option (List ℕ) → List Document → Step (Option Sight)
sight_step None all = Ok None
sight_step (Some name) all = shelved_sight (Some name) all

-- ---- a policy over it

abbrev pub with_approvals : Closed → List ApprovedDoc → PolicyWithApprovals
with_approvals closed approvals = record { closed = closed; approvals = approvals }

-- a policy with what is approved, where its paths are within the limits then
unfoldable pub within_step : Option (List ℕ) → Closed → List ApprovedDoc → Step PolicyWithApprovals
within_step document closed approvals =
    limit_step document closed approvals >>= λ within. Ok (with_approvals closed approvals)

-- the same of a policy that is filled with what a machine shows, where documents of the store are approved; it is that
-- of a document of the shelf, where one is named
unfoldable pub closed_at : List NamedPolicy → Option Sight → Option (List ℕ) → Policy → Step PolicyWithApprovals
closed_at store sight document policy =
    filled_step document policy sight >>= λ closed. within_step document closed (approved_documents store sight)

-- the same with what the machine of the scene shows when it starts
unfoldable pub closed_step : Shelved → Option (List ℕ) → Policy → Step PolicyWithApprovals
closed_step shelved document policy =
    opening_step shelved.store shelved.scene >>= λ sight. closed_at shelved.store sight document policy

-- the same of a policy of the source, with the scene of this name of the shelf, if one is named
unfoldable pub closed_source : Option (List ℕ) → Policy → List Document → Step PolicyWithApprovals
closed_source scene policy all = shelved_step scene all >>= λ shelved. closed_step shelved None policy

-- ---- whichever memory the policies lie in

abbrev pub shelved_of : StoreWithScene → Shelved
shelved_of shelved = record { store = policies_of shelved.store; scene = shelved.scene }

abbrev pub erased_with_approvals : PolicyWithApprovals → PolicyWithApprovals
erased_with_approvals found = with_approvals (erased found.closed) (map erased_document found.approvals)
