-- A list of two banks or more is refused.
use Rattle.std.proofs.Common.{◌≡◌, ◌≤◌, List, [], ◌∷◌, length, refl, arith}
use Rattle.serde_json.specs.View.{items_view}
use Rattle.serde_json.specs.declared.value.Value.{Value}
use Rattle.tpol_json.specs.declared.place.Place.{Place}
use Rattle.tpol_members.specs.declared.fault.PolicyKind.TheVariants.{BadNumber}
use Rattle.tpol_members.specs.declared.walk.Walk.{Walk}
use Rattle.tpol_json.specs.Reading.{bad}
use Rattle.tpol_members.specs.Pcrs.{only_bank}

pub only_bank-longer : (walk : Walk) (values : List Value) (place : Place) → 2 ≤ length values → only_bank walk (items_view values) place ≡ bad BadNumber place
only_bank-longer walk [] place long = absurd (omega arith)
only_bank-longer walk (value ∷ []) place long = absurd (omega arith)
only_bank-longer walk (value ∷ other ∷ values) place long = refl
