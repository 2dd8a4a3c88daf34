-- The canonical value of a policy in FAPI's spelling.
use Rattle.std.specs.Prelude.{[], ◌∷◌, codes}
use Rattle.serde_json.specs.Data.{Data, null, boolean, number, string, array, object, Items, no_items, item, Members, no_members, member, put}
use Rattle.tpol_export.specs.Rules.{item_rule, member_rule, more_entries, new_name, wrapper_of}
use Rattle.tpol_export.specs.Values.{edited}
use Rattle.tpol_export.specs.declared.rules.Part.{Part}
use Rattle.tpol_export.specs.declared.rules.Part.TheVariants.{Document}
use Rattle.tpol_export.specs.declared.rules.Rule.{Rule}
use Rattle.tpol_export.specs.declared.rules.Rule.TheVariants.{Same, Inner, Wrapped, Edited}
use Rattle.tpol_tree.specs.declared.policy.Policy.{Policy}
use Rattle.tpol_write.specs.Canonical.{policy_value}
use Rattle.tpol_write.specs.Objects.{natural, object_of, with_members}

-- a public area within its wrapper; FAPI writes a size of 0
abbrev pub wrapped : Part → Data → Data
wrapped part d = object_of ((wrapper_of part, d) ∷ (codes "size", natural 0) ∷ [])

-- a value by its rule, where it is to be `within part` if it is a part itself
abbrev pub by_rule : Rule → (Part → Data) → Data → Data
by_rule Same within d = d
by_rule (Inner part) within d = within part
by_rule (Wrapped part) within d = wrapped part (within part)
by_rule (Edited edit) within d = edited edit d

unfoldable mutual
  -- a value as this part of a policy
  pub spelled_as : Part → Data → Data
  spelled_as part null = null
  spelled_as part (boolean b) = boolean b
  spelled_as part (number n) = number n
  spelled_as part (string s) = string s
  spelled_as part (array ds) = array (spelled_items part ds)
  spelled_as part (object ms) = object (with_members (more_entries part (object ms)) (spelled_members part (object ms) ms no_members))

  -- the items of a list, each by its rule
  pub spelled_items : Part → Items → Items
  spelled_items part no_items = no_items
  spelled_items part (item d ds) = item (by_rule (item_rule part) (λ inner. spelled_as inner d) d) (spelled_items part ds)

  -- these members of the whole object, each by its rule, beside those before
  pub spelled_members : Part → Data → Members → Members → Members
  spelled_members part whole no_members before = before
  spelled_members part whole (member name d ms) before =
      spelled_members part whole ms
      (put (new_name part whole name) (by_rule (member_rule part name) (λ inner. spelled_as inner d) d) before)

-- the canonical value of a policy in FAPI's spelling
abbrev pub spelled : Data → Data
spelled d = spelled_as Document d

-- a policy in FAPI's spelling
abbrev pub policy_spelling : Policy → Data
policy_spelling policy = spelled (policy_value policy)
