-- What the store of a shelf is: its documents in ascending byte order of their names, or why there is none.
use Rattle.std.specs.Prelude.{◌≡◌, ℕ, List, [], ◌∷◌, ◌++◌, map, length, nat_le, nat_lt, Option, Some, None, Result, Ok, Err, ⊤, if◌then◌else◌}
use Rattle.std.specs.List.{filter_map}
use Rattle.std.specs.Option.{option_to_list}
use Rattle.serde_json.specs.Data.{Data}
use Rattle.tpol_base.specs.declared.document.Document.{Document}
use Rattle.tpol_base.specs.Answers.{◌>>=◌}
use Rattle.tpol_base.specs.Documents.{document_of, handed_out, most_handed_out, names_of}
use Rattle.tpol_members.specs.declared.fault.PolicyFault.TheVariants as policy
use Rattle.tpol_members.specs.Faults.{Fault, Found}
use Rattle.tpol_json.specs.declared.place.Place.{Place}
use Rattle.tpol_json.specs.Document.{document_of as json_of}
use Rattle.tpol_read.specs.Documents.{policy_faults as faults_of, policy_of}
use Rattle.tpol_store.specs.declared.fault.StoreFault.{StoreFault}
use Rattle.tpol_store.specs.declared.fault.StoreFault.TheVariants as faults
use Rattle.tpol_store.specs.declared.store.StoredPolicy.{StoredPolicy}
use Rattle.tpol_store.specs.FileNames.{file_name, policy_name, sorted_names}
use Rattle.tpol_store.specs.Stores.{NamedPolicy, named_policy}
use Rattle.tpol_tree.specs.declared.policy.Policy.{Policy}

-- why a shelf has no store: it has too many documents, or the document of this name is too large, is no JSON text,
-- or has this fault first
pub data Refusal : Type 0 where
  TooMany : Refusal
  TooLarge : List ℕ → Refusal
  NotJson : List ℕ → Refusal
  Bad : List ℕ → Fault → Refusal

-- what is loaded, or why it is refused
abbrev pub Loading : Type 0 → Type 0
Loading A = Result A Refusal

-- a call that gave nothing tells why, unless the shelf failed or memory ran out; want of memory is never told as the
-- fault of a document
abbrev pub Tells : {A : Type 0} → StoreFault → Loading A → Type 0
Tells faults.Failed loading = ⊤
Tells faults.NoMemory loading = ⊤
Tells faults.TooMany loading = loading ≡ Err TooMany
Tells (faults.TooLarge name) loading = loading ≡ Err (TooLarge name)
Tells (faults.Bad name policy.NotJson) loading = loading ≡ Err (NotJson name)
Tells (faults.Bad name (policy.Bad kind place)) loading = loading ≡ Err (Bad name (kind, place))
Tells (faults.Bad name policy.NoMemory) loading = ⊥

-- a call loads what there is, where `view` is what the definition sees of its value
abbrev pub Loads : {X A : Type 0} → (X → A) → Loading A → Result X StoreFault → Type 0
Loads view loading (Ok x) = loading ≡ Ok (view x)
Loads view loading (Err fault) = Tells fault loading

-- ---- one document

-- the policy under its name, unless there is a fault: then the first one
abbrev pub unless_fault : List ℕ → List Fault → Found (Policy × List Place) → Loading (List NamedPolicy)
unless_fault name [] (Ok found) = Ok ((name, found.0) ∷ [])
unless_fault name [] (Err fault) = Err (Bad name fault)
unless_fault name (fault ∷ rest) found = Err (Bad name fault)

abbrev pub policy_of_json : List ℕ → Option Data → Loading (List NamedPolicy)
policy_of_json name None = Err (NotJson name)
policy_of_json name (Some d) = unless_fault name (faults_of d) (policy_of d)

-- the policy that bytes are the document of, under its name, or the first fault
unfoldable pub policy_in : List ℕ → List ℕ → Loading (List NamedPolicy)
policy_in name bytes = policy_of_json name (json_of bytes)

-- what a shelf hands out under a name: a document, none, or one that is too large or no policy's
abbrev pub document_in : List ℕ → Option (List ℕ) → Loading (List NamedPolicy)
document_in name None = Ok []
document_in name (Some bytes) =
    if nat_le most_handed_out (length bytes) then Err (TooLarge name) else policy_in name bytes

-- what a definition sees of a document that may be there
abbrev pub seen_document : Option StoredPolicy → List NamedPolicy
seen_document found = map named_policy (option_to_list found)

-- ---- all documents

-- the documents of these names, behind those before
unfoldable pub documents_from : List NamedPolicy → List (List ℕ) → List Document → Loading (List NamedPolicy)
documents_from before [] all = Ok before
documents_from before (name ∷ rest) all =
    document_in name (handed_out (document_of (file_name name) all)) >>= λ found.
    documents_from (before ++ found) rest all

-- the names of the policies that are listed, in ascending byte order, unless there are more than 1,024
abbrev pub unless_many : List (List ℕ) → Loading (List (List ℕ))
unless_many names = if nat_lt 1024 (length names) then Err TooMany else Ok names

unfoldable pub few_names : List (List ℕ) → Loading (List (List ℕ))
few_names listed = unless_many (sorted_names (filter_map policy_name listed))

abbrev pub names_of_shelf : List Document → Loading (List (List ℕ))
names_of_shelf all = few_names (names_of all)

-- the store of a shelf
abbrev pub store_of : List Document → Loading (List NamedPolicy)
store_of all = names_of_shelf all >>= λ names. documents_from [] names all
