-- Policies of a store, whichever memory they lie in.
use Rattle.std.proofs.Common.{◌≡◌, refl, List, [], ◌∷◌, map, true, false}
use Rattle.std.specs.Prelude.{ℕ, All, IfSome}
use Rattle.std.proofs.lemmas.List.Elements.{All-head, All-tail}
use Rattle.std.specs.Option.{option_map}
use Rattle.std.specs.Str.{bytes_eq}
use Rattle.tpol_store.specs.declared.store.StoredPolicy.{StoredPolicy}
use Rattle.tpol_store.specs.Stores.{IsReadable, named_policy, policy_named}
use Rattle.tpol_prepare.specs.References.{policy_called}
use Rattle.tpol_tree.specs.Bounds.{HasBounds}
use Rattle.tpol_tree.specs.Elements.{HasBranchCounts}
use Rattle.tpol_tree.specs.Erased.{erased_policy}
use Rattle.tpol_tree.specs.declared.policy.Policy.{Policy}

pub policy_called_erased : (name : List ℕ) (documents : List StoredPolicy) → policy_called name (map named_policy documents) ≡ option_map erased_policy (policy_named name documents)
policy_called_erased name [] = refl
policy_called_erased name (document ∷ rest) =
    elim (bytes_eq document.name name) as (λ b. bytes_eq document.name name ≡ b → policy_called name (map named_policy (document ∷ rest)) ≡ option_map erased_policy (policy_named name (document ∷ rest))) [
      | true ↦ λ e. rw e refl
      | false ↦ λ e. rw e (policy_called_erased name rest)
    ] refl

abbrev pub IsReadablePolicy : Policy → Type 0
IsReadablePolicy policy = HasBranchCounts policy.elements × HasBounds policy

-- a policy that is found is one that can be read
pub readable_named : (name : List ℕ) (documents : List StoredPolicy) → All IsReadable documents → IfSome (policy_named name documents) IsReadablePolicy
readable_named name [] all = tt
readable_named name (document ∷ rest) all =
    elim (bytes_eq document.name name) as (λ b. bytes_eq document.name name ≡ b → IfSome (policy_named name (document ∷ rest)) IsReadablePolicy) [
      | true ↦ λ e. rw e ((All-head IsReadable document rest all).branches, (All-head IsReadable document rest all).bounded)
      | false ↦ λ e. rw e (readable_named name rest (All-tail IsReadable document rest all))
    ] refl
