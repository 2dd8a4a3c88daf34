-- The policies of a shelf can be read: each OR has 2 to 64 branches, and each field is within the bounds of the wire.
use Rattle.std.proofs.Common.{◌≡◌, ◌++◌, true, false, if◌then◌else◌, nat_le, length, List, [], ◌∷◌, Option, Some, None, Ok, Err, refl, subst, find}
use Rattle.std.specs.List.{AllByRecursion}
use Rattle.std.specs.Option.{option_map}
use Rattle.std.specs.Prelude.{ℕ, IfOk}
use Rattle.serde_json.specs.Data.{Data}
use Rattle.tpol_base.specs.Answers.{◌>>=◌}
use Rattle.tpol_base.specs.Documents.{document_of, handed_out, most_handed_out}
use Rattle.tpol_base.specs.declared.document.Document.{Document}
use Rattle.tpol_json.specs.Document.{document_of as json_of}
use Rattle.tpol_json.specs.declared.place.Place.{Place}
use Rattle.tpol_members.specs.Faults.{Fault, Found}
use Rattle.tpol_prepare.proofs.Stored.{IsReadablePolicy}
use Rattle.tpol_prepare.specs.References.{is_called, policy_at, policy_called, unless_none}
use Rattle.tpol_read.proofs.Sound.{has_bounds, has_branch_counts, policy_of-so}
use Rattle.tpol_read.specs.Documents.{policy_faults, policy_of}
use Rattle.tpol_steps.specs.StoreStep.{store_step, unless_refused}
use Rattle.tpol_store.specs.FileNames.{file_name}
use Rattle.tpol_store.specs.Loading.{Loading, TooLarge, document_in, documents_from, names_of_shelf, policy_in, policy_of_json, store_of, unless_fault}
use Rattle.tpol_store.specs.Stores.{NamedPolicy}
use Rattle.tpol_tree.specs.declared.policy.Policy.{Policy}

abbrev pub IsReadableNamed : NamedPolicy → Type 0
IsReadableNamed document = IsReadablePolicy document.1

abbrev pub AreReadable : List NamedPolicy → Type 0
AreReadable documents = AllByRecursion IsReadableNamed documents

-- ---- one document

one-readable : (name : List ℕ) (faults : List Fault) (found : Found (Policy × List Place)) → ((says : Policy × List Place) → found ≡ Ok says → IsReadablePolicy says.0)
    → IfOk (unless_fault name faults found) AreReadable
one-readable name [] (Ok says) is = (is says refl, tt)
one-readable name [] (Err fault) is = tt
one-readable name (fault ∷ rest) found is = tt

says-readable : (d : Data) (says : Policy × List Place) → policy_of d ≡ Ok says → IsReadablePolicy says.0
says-readable d says e =
    let is = policy_of-so d says e in
    (has_branch_counts says.0.elements is, has_bounds says.0.elements is)

json-readable : (name : List ℕ) (there : Option Data) → IfOk (policy_of_json name there) AreReadable
json-readable name None = tt
json-readable name (Some d) = one-readable name (policy_faults d) (policy_of d) (says-readable d)

document-readable : (name : List ℕ) (there : Option (List ℕ)) → IfOk (document_in name there) AreReadable
unfolding policy_in
document-readable name None = tt
document-readable name (Some bytes) =
    elim (nat_le most_handed_out (length bytes)) as (λ b. IfOk (if b then Err (TooLarge name) else policy_in name bytes) AreReadable) [
      | true ↦ tt
      | false ↦ json-readable name (json_of bytes)
    ]

-- ---- all documents

both-readable : (some more : List NamedPolicy) → AreReadable some → AreReadable more → AreReadable (some ++ more)
both-readable [] more are add = add
both-readable (document ∷ rest) more are add = (are.0, both-readable rest more are.1 add)

loaded-then : (found : Loading (List NamedPolicy)) (next : List NamedPolicy → Loading (List NamedPolicy)) → IfOk found AreReadable
    → ((more : List NamedPolicy) → AreReadable more → IfOk (next more) AreReadable) → IfOk (found >>= next) AreReadable
loaded-then (Ok more) next are all = all more are
loaded-then (Err refusal) next are all = tt

from-readable : (before : List NamedPolicy) → AreReadable before → (names : List (List ℕ)) (all : List Document) → IfOk (documents_from before names all) AreReadable
unfolding documents_from
from-readable before are [] all = are
from-readable before are (name ∷ rest) all =
    loaded-then (document_in name (handed_out (document_of (file_name name) all))) (λ found. documents_from (before ++ found) rest all)
    (document-readable name (handed_out (document_of (file_name name) all)))
    (λ more add. from-readable (before ++ more) (both-readable before more are add) rest all)

named-then : (names : Loading (List (List ℕ))) (next : List (List ℕ) → Loading (List NamedPolicy))
    → ((listed : List (List ℕ)) → IfOk (next listed) AreReadable) → IfOk (names >>= next) AreReadable
named-then (Ok listed) next all = all listed
named-then (Err refusal) next all = tt

unless-readable : (found : Loading (List NamedPolicy)) → IfOk found AreReadable → IfOk (unless_refused found) AreReadable
unless-readable (Ok store) are = are
unless-readable (Err refusal) are = tt

-- those of the store of a shelf
pub store-readable : (all : List Document) → IfOk (store_step all) AreReadable
unfolding store_step
store-readable all =
    unless-readable (store_of all) (named-then (names_of_shelf all) (λ names. documents_from [] names all) (λ names. from-readable [] tt names all))

-- ---- one that is looked up

called-readable : (name : List ℕ) (store : List NamedPolicy) → AreReadable store → (policy : Policy) → policy_called name store ≡ Some policy → IsReadablePolicy policy
called-readable name [] are policy e = absurd cc
called-readable name (document ∷ rest) are policy e =
    elim (is_called name document) as (λ b. option_map (λ (d : NamedPolicy). d.1) (if b then Some document else find (is_called name) rest) ≡ Some policy → IsReadablePolicy policy) [
      | true ↦ λ here. let same : document.1 ≡ policy = cc in subst IsReadablePolicy same are.0
      | false ↦ λ later. called-readable name rest are.1 policy later
    ] e

found-readable : (place : Place) (found : Option Policy) (policy : Policy) → ((there : Policy) → found ≡ Some there → IsReadablePolicy there) → unless_none place found ≡ Ok policy → IsReadablePolicy policy
found-readable place None policy is e = absurd cc
found-readable place (Some there) policy is e = let same : there ≡ policy = cc in subst IsReadablePolicy same (is there refl)

pub looked-up-readable : (store : List NamedPolicy) → AreReadable store → (name : List ℕ) (place : Place) (policy : Policy) → policy_at store name place ≡ Ok policy → IsReadablePolicy policy
unfolding policy_at
looked-up-readable store are name place policy e = found-readable place (policy_called name store) policy (called-readable name store are) e
