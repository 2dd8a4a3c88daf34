-- Policies whose lists of PCR values stand in rising order of their PCRs, as a document's reader puts them.
use Rattle.std.specs.Prelude.{map, ⊤}
use Rattle.std.specs.List.Sorted.{IsStrictlyIncreasing}
use Rattle.tpol_tree.specs.Elements.{EachElement}
use Rattle.tpol_tree.specs.declared.policy.Element.{Element}
use Rattle.tpol_tree.specs.declared.policy.Element.TheVariants.{Pcr}
use Rattle.tpol_tree.specs.declared.policy.Elements.{Elements}
use Rattle.tpol_tree.specs.declared.wishes.PcrWish.{PcrWish}
use Rattle.tpol_tree.specs.declared.wishes.PcrWish.TheVariants.{Values, Current}

-- each PCR that has a value is less than the next one
abbrev pub IsRising : PcrWish → Type 0
IsRising (Values values) = IsStrictlyIncreasing (map (λ value. value.0) values)
IsRising (Current mask) = ⊤

abbrev pub ElementIsRising : Element → Type 0
ElementIsRising (Pcr wish) = IsRising wish
ElementIsRising _ = ⊤

-- each list of PCR values, at any depth, is rising
abbrev pub HasRisingPcrs : Elements → Type 0
HasRisingPcrs elements = EachElement ElementIsRising elements
