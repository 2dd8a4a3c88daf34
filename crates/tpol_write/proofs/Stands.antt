-- Canonical text stands for its policy, wherever the policy lies.
use Rattle.std.proofs.Common.{◌≡◌, ◌≤◌, [], Ok, subst}
use Rattle.tpol_read.proofs.FirstFault.{no_faults}
use Rattle.tpol_read.specs.Documents.{policy_of}
use Rattle.tpol_tree.specs.Erased.{erased_policy}
use Rattle.tpol_write.proofs.CanonErased.{same_elements, same_policy}
use Rattle.tpol_write.proofs.DocumentsBack.{policy_back}
use Rattle.tpol_write.specs.Canonical.{policy_value}
use Rattle.tpol_write.specs.Laws.{CanonicalValuesStand}

pub stands : CanonicalValuesStand
stands d policy notes before =
    let back = policy_back d (erased_policy policy) notes before.1 in
    let says = subst (λ v. policy_of v ≡ Ok (erased_policy policy, [])) (same_policy policy) back.1 in
    ((no_faults (policy_value policy) (erased_policy policy, []) says, says), subst (λ n. n ≤ 16) (same_elements policy.elements).1 back.0)
