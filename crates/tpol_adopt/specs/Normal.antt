-- An exported document in the profile's spelling. Nothing is refused: what no rule names stays as it is.
use Rattle.std.specs.Prelude.{ℕ, List, [], ◌∷◌, codes, Option, Some, None}
use Rattle.serde_json.specs.Data.{Data, null, boolean, number, string, array, object, Items, no_items, item, Members, no_members, member, put}
use Rattle.tpol_adopt.specs.Edits.{edited}
use Rattle.tpol_adopt.specs.Rules.{member_rule, item_rule, new_scheme}
use Rattle.tpol_adopt.specs.declared.rules.Part.{Part}
use Rattle.tpol_adopt.specs.declared.rules.Part.TheVariants.{Document}
use Rattle.tpol_adopt.specs.declared.rules.Rule.{Rule}
use Rattle.tpol_adopt.specs.declared.rules.Rule.TheVariants.{Same, LeftOut, Inner, Edited}

-- a value by its rule, where it is to be `within part` if it is a part itself
abbrev pub by_rule : Rule → (Part → Data) → Data → Option Data
by_rule Same within d = Some d
by_rule LeftOut within d = None
by_rule (Inner part) within d = Some (within part)
by_rule (Edited edit) within d = Some (edited edit d)

abbrev pub item_before : Option Data → Items → Items
item_before None ds = ds
item_before (Some d) ds = item d ds

abbrev pub member_before : List ℕ → Option Data → Members → Members
member_before name None ms = ms
member_before name (Some d) ms = member name d ms

-- none, or the one
abbrev pub list_of : {A : Type 0} → Option A → List A
list_of None = []
list_of (Some x) = x ∷ []

-- the members with this one at that name, if there is one
abbrev pub with_member : List ℕ → Option Data → Members → Members
with_member name None ms = ms
with_member name (Some d) ms = put name d ms

abbrev pub with_scheme : Option (List ℕ) → Members → Members
with_scheme None ms = ms
with_scheme (Some scheme) ms = put (codes "scheme") (string scheme) ms

unfoldable mutual
  -- a value as this part of a document
  pub normal_as : Part → Data → Data
  normal_as part null = null
  normal_as part (boolean b) = boolean b
  normal_as part (number n) = number n
  normal_as part (string s) = string s
  normal_as part (array ds) = array (normal_items part ds)
  normal_as part (object ms) = object (with_scheme (new_scheme part (object ms)) (normal_members part (object ms) ms))

  -- the items of a list, each by its rule
  pub normal_items : Part → Items → Items
  normal_items part no_items = no_items
  normal_items part (item d ds) =
      item_before (by_rule (item_rule part d) (λ inner. normal_as inner d) d) (normal_items part ds)

  -- these members of the whole object, each by its rule
  pub normal_members : Part → Data → Members → Members
  normal_members part whole no_members = no_members
  normal_members part whole (member name d ms) =
      member_before name (by_rule (member_rule part whole name) (λ inner. normal_as inner d) d) (normal_members part whole ms)

-- a document
abbrev pub normal : Data → Data
normal d = normal_as Document d
