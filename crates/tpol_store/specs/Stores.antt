-- Stores: the documents of a shelf, by name.
use Rattle.std.specs.Prelude.{ℕ, Bool, List, Option, find, map, option_map}
use Rattle.std.specs.Str.{bytes_eq}
use Rattle.tpol_store.specs.declared.store.Store.{Store}
use Rattle.tpol_store.specs.declared.store.StoredPolicy.{StoredPolicy}
use Rattle.tpol_tree.specs.Bounds.{HasBounds}
use Rattle.tpol_tree.specs.Elements.{HasBranchCounts}
use Rattle.tpol_tree.specs.Erased.{erased_policy}
use Rattle.tpol_tree.specs.declared.policy.Policy.{Policy}

-- the documents of a store, in order
abbrev pub stored : Store → List StoredPolicy
stored store = store.documents

-- a document's name without `.json`, and its policy, in boxes that lie nowhere
abbrev pub NamedPolicy : Type 0
NamedPolicy = List ℕ × Policy

abbrev pub named_policy : StoredPolicy → NamedPolicy
named_policy document = (document.name, erased_policy document.policy)

-- what a store is seen as, whichever memory its policies lie in
abbrev pub policies_of : Store → List NamedPolicy
policies_of store = map named_policy (stored store)

-- whether a document has this name
abbrev pub is_stored_as : List ℕ → StoredPolicy → Bool
is_stored_as name document = bytes_eq document.name name

-- the policy of this name
abbrev pub policy_named : List ℕ → List StoredPolicy → Option Policy
policy_named name documents = option_map (λ document. document.policy) (find (is_stored_as name) documents)

-- each OR of a document has 2 to 64 branches, and each field of its elements is within the bounds of the wire
pub record IsReadable (document : StoredPolicy) : Type 0 where
  pub branches : HasBranchCounts document.policy.elements
  pub bounded : HasBounds document.policy
