-- The step that fills a document, and documents that are filled.
use Rattle.std.specs.Prelude.{ℕ, List, [], ◌∷◌, Option, Ok, Err}
use Rattle.tpol_fill.specs.Forms.{IsFilledPolicy}
use Rattle.tpol_fill.specs.Filling.{filled, fill_faults}
use Rattle.tpol_fill.specs.Outcome.{Fault}
use Rattle.tpol_name.specs.declared.sight.Sight.{Sight}
use Rattle.tpol_tree.specs.Bounds.{HasClosedBounds}
use Rattle.tpol_tree.specs.ClosedErased.{erased}
use Rattle.tpol_tree.specs.declared.closed.Closed.{Closed}
use Rattle.tpol_tree.specs.declared.policy.Policy.{Policy}
use Rattle.tpol_steps.specs.declared.filled.FilledDocument.{FilledDocument}
use Rattle.tpol_steps.specs.Refusals.{bad_policy, fill_kind_name}
use Rattle.tpol_steps.specs.Steps.{Step}

-- the closed policy, unless there is a fault: then the first one ends the run
abbrev pub unless_fault : Option (List ℕ) → List Fault → Closed → Step Closed
unless_fault document [] closed = Ok closed
unless_fault document (fault ∷ rest) closed = Err (bad_policy (fill_kind_name fault.0) document fault.1)

-- the policy with every wish given; it is that of a document of the shelf, where one is named
unfoldable pub filled_step : Option (List ℕ) → Policy → Option Sight → Step Closed
filled_step document policy sight = unless_fault document (fill_faults policy sight) (filled policy sight)

-- ---- whichever memory a policy lies in

abbrev pub erased_filled : FilledDocument → FilledDocument
erased_filled document = record document { closed = erased document.closed }

-- ---- policies that a run can go through

-- a policy is well formed with 2 to 8 branches at each OR, and each field is within the bounds of the wire
pub record IsReady (closed : Closed) : Type 0 where
  pub form : IsFilledPolicy closed
  pub bounded : HasClosedBounds closed

abbrev pub IsReadyDocument : FilledDocument → Type 0
IsReadyDocument document = IsReady document.closed
