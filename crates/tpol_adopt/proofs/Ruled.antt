-- Members by their rules.
use Rattle.std.proofs.Common.{◌≡◌, ℕ, List, Option, Some, None, option_map, option_and_then, codes, refl, ap, ◌∙◌}
use Rattle.serde_json.specs.Data.{Data}
use Rattle.serde_json.specs.Find.{get}
use Rattle.tpol_adopt.specs.Edits.{edited}
use Rattle.tpol_adopt.specs.Normal.{by_rule, normal_as}
use Rattle.tpol_adopt.specs.Rules.{member_rule, new_scheme}
use Rattle.tpol_adopt.specs.declared.edits.Edit.{Edit}
use Rattle.tpol_adopt.specs.declared.rules.Part.{Part}
use Rattle.tpol_adopt.specs.declared.rules.Rule.{Rule}
use Rattle.tpol_adopt.specs.declared.rules.Rule.TheVariants.{Same, LeftOut, Inner, Edited}
use Rattle.tpol_adopt.proofs.Gets.{get-normal, get-normal-plain}

-- what a value that may be there becomes
abbrev pub ruled : Rule → Option Data → Option Data
ruled rule o = option_and_then (λ d. by_rule rule (λ inner. normal_as inner d) d) o

ruled-same : (o : Option Data) → ruled Same o ≡ o
ruled-same None = refl
ruled-same (Some d) = refl

ruled-left_out : (o : Option Data) → ruled LeftOut o ≡ None
ruled-left_out None = refl
ruled-left_out (Some d) = refl

ruled-inner : (part : Part) (o : Option Data) → ruled (Inner part) o ≡ option_map (normal_as part) o
ruled-inner part None = refl
ruled-inner part (Some d) = refl

ruled-edited : (edit : Edit) (o : Option Data) → ruled (Edited edit) o ≡ option_map (edited edit) o
ruled-edited edit None = refl
ruled-edited edit (Some d) = refl

module _ (part : Part) (d : Data) (name : List ℕ) where
  module _ (plain : new_scheme part d ≡ None) where
    at : (rule : Rule) → member_rule part d name ≡ rule → get name (normal_as part d) ≡ ruled rule (get name d)
    at rule is = get-normal-plain part d name plain ∙ ap (λ r. ruled r (get name d)) is

    pub get-same : member_rule part d name ≡ Same → get name (normal_as part d) ≡ get name d
    get-same is = at Same is ∙ ruled-same (get name d)

    pub get-left_out : member_rule part d name ≡ LeftOut → get name (normal_as part d) ≡ None
    get-left_out is = at LeftOut is ∙ ruled-left_out (get name d)

    pub get-inner : (inner : Part) → member_rule part d name ≡ Inner inner → get name (normal_as part d) ≡ option_map (normal_as inner) (get name d)
    get-inner inner is = at (Inner inner) is ∙ ruled-inner inner (get name d)

    pub get-edited : (edit : Edit) → member_rule part d name ≡ Edited edit → get name (normal_as part d) ≡ option_map (edited edit) (get name d)
    get-edited edit is = at (Edited edit) is ∙ ruled-edited edit (get name d)

  module _ (other : name ≡ codes "scheme" → ⊥) where
    at_other : (rule : Rule) → member_rule part d name ≡ rule → get name (normal_as part d) ≡ ruled rule (get name d)
    at_other rule is = get-normal part d name other ∙ ap (λ r. ruled r (get name d)) is

    pub other-same : member_rule part d name ≡ Same → get name (normal_as part d) ≡ get name d
    other-same is = at_other Same is ∙ ruled-same (get name d)

    pub other-inner : (inner : Part) → member_rule part d name ≡ Inner inner → get name (normal_as part d) ≡ option_map (normal_as inner) (get name d)
    other-inner inner is = at_other (Inner inner) is ∙ ruled-inner inner (get name d)

    pub other-edited : (edit : Edit) → member_rule part d name ≡ Edited edit → get name (normal_as part d) ≡ option_map (edited edit) (get name d)
    other-edited edit is = at_other (Edited edit) is ∙ ruled-edited edit (get name d)
