-- The fault that a reading meets is the first of all faults, and where a reading meets none there is none.
use Rattle.std.specs.Prelude.{⊤}
use Rattle.std.proofs.Common.{◌≡◌, ℕ, suc, ◌-◌, ◌++◌, List, [], ◌∷◌, codes, Option, Some, None, Ok, Err, refl, sym, ap, subst}
use Rattle.serde_json.specs.Data.{Data, Items, no_items, item}
use Rattle.serde_json.specs.Find.{get, as_array}
use Rattle.tpol_json.specs.Document.{document_of}
use Rattle.tpol_json.specs.declared.place.Place.{Place}
use Rattle.tpol_json.specs.Places.{root, at_member, at_item}
use Rattle.tpol_read.specs.Approvals.{approvals_member, approvals_or_none, approvals_of, approvals_from, counted_approval}
use Rattle.tpol_read.specs.Documents.{start, document_in, policy_of, element_count, Faults, fault_of, with_more, element_faults, elements_faults, policy_member_faults, approval_faults, approvals_faults, approvals_member_faults, member_faults, faults_unless, policy_faults, first_of, IsRefused}
use Rattle.tpol_read.specs.Elements.{element_at, max_levels, counted, elements_from, elements_of, elements_in, policy_member, description_member}
use Rattle.tpol_members.specs.declared.fault.PolicyFault.TheVariants.{Bad}
use Rattle.tpol_members.specs.declared.fault.PolicyKind.{PolicyKind}
use Rattle.tpol_members.specs.declared.walk.Walk.{Walk}
use Rattle.tpol_base.specs.Answers.{◌>>=◌}
use Rattle.tpol_members.specs.Faults.{Fault, Found}
use Rattle.tpol_members.specs.Members.{object_in, read_needed}
use Rattle.tpol_members.specs.Walks.{still}
use Rattle.tpol_tree.specs.Erased.{nowhere}
use Rattle.tpol_tree.specs.declared.policy.Elements.TheVariants as elements
use Rattle.tpol_tree.specs.declared.policy.Policy.{Policy}
use Rattle.tpol_tree.specs.declared.wishes.ApprovalWish.{ApprovalWish}

-- faults are those of a reading: none where it meets none, with the walk that it leaves, and else its own first
abbrev pub AreOf : {A : Type 0} → Found (A × Walk) → Faults → Type 0
AreOf (Ok found) faults = (faults.0 ≡ []) × (faults.1 ≡ found.1)
AreOf (Err fault) faults = first_of faults.0 ≡ Some fault

fault_of-own : {A : Type 0} (reading : Found (A × Walk)) (walk : Walk) → AreOf reading (fault_of reading walk)
fault_of-own (Ok found) walk = (refl, refl)
fault_of-own (Err fault) walk = refl

first_of-more : (faults more : List Fault) (fault : Fault) → first_of faults ≡ Some fault → first_of (faults ++ more) ≡ Some fault
first_of-more [] more fault first = cc
first_of-more (other ∷ faults) more fault first = first

-- what is read next has the faults that come next
with_more-then : {A B : Type 0} (reading : Found (A × Walk)) (next : A × Walk → Found (B × Walk)) (faults : Faults) (more : Walk → Faults) → AreOf reading faults → ((found : A × Walk) → AreOf (next found) (more found.1)) → AreOf (reading >>= next) (with_more faults more)
with_more-then (Ok found) next (faults, walk) more are then =
    let P : List Fault → Walk → Type 0 = λ fs w. AreOf (next found) (fs ++ (more w).0, (more w).1) in
    subst (λ fs. P fs walk) (sym are.0) (subst (P []) (sym are.1) (then found))
with_more-then (Err fault) next faults more are then = first_of-more faults.0 (more faults.1).0 fault are

-- what says something else of what it has read has the same faults
are_of-map : {A B : Type 0} (reading : Found (A × Walk)) (say : A × Walk → B) (faults : Faults) → AreOf reading faults → AreOf (reading >>= λ found. Ok (say found, found.1)) faults
are_of-map (Ok found) say faults are = are
are_of-map (Err fault) say faults are = are

element_faults-of : (index : ℕ) (ds : Items) (place : Place) (walk : Walk) → AreOf (elements_from (element_at max_levels) index ds place walk) (element_faults index ds place walk)
unfolding elements_from element_faults
element_faults-of index no_items place walk = (refl, refl)
element_faults-of index (item d ds) place walk =
    let read = counted (element_at max_levels) d (at_item place index) walk in
    let after : Walk = record walk { left = walk.left - element_count max_levels d } in
    with_more-then read
    (λ first. elements_from (element_at max_levels) (suc index) ds place first.1 >>= λ rest. Ok (elements.More' nowhere first.0 nowhere rest.0, rest.1))
    (fault_of read after) (element_faults (suc index) ds place) (fault_of-own read after)
    (λ first.
    are_of-map (elements_from (element_at max_levels) (suc index) ds place first.1) (λ rest. elements.More' nowhere first.0 nowhere rest.0)
    (element_faults (suc index) ds place first.1) (element_faults-of (suc index) ds place first.1))

elements_faults-of : (items : Option Items) (place : Place) (walk : Walk) → AreOf (elements_of (element_at max_levels) items place walk) (elements_faults items place walk)
elements_faults-of None place walk = refl
elements_faults-of (Some no_items) place walk = refl
elements_faults-of (Some (item d ds)) place walk = element_faults-of 0 (item d ds) place walk

policy_member_faults-of : (member : Option Data) (place : Place) (walk : Walk) → AreOf (read_needed (λ e p. elements_in (element_at max_levels) e p walk) member place) (policy_member_faults member place walk)
unfolding elements_in
policy_member_faults-of None place walk = refl
policy_member_faults-of (Some d) place walk = elements_faults-of (as_array d) place walk

approval_faults-of : (before : List ApprovalWish) (index : ℕ) (ds : Items) (place : Place) (walk : Walk) → AreOf (approvals_from before index ds place walk) (approval_faults index ds place walk)
unfolding approvals_from approval_faults
approval_faults-of before index no_items place walk = (refl, refl)
approval_faults-of before index (item d ds) place walk =
    let read = counted_approval index d (at_item place index) walk in
    with_more-then read (λ found. approvals_from (before ++ found.0 ∷ []) (suc index) ds place found.1) (fault_of read walk)
    (approval_faults (suc index) ds place) (fault_of-own read walk)
    (λ found. approval_faults-of (before ++ found.0 ∷ []) (suc index) ds place found.1)

approvals_faults-of : (items : Option Items) (place : Place) (walk : Walk) → AreOf (approvals_of items place walk) (approvals_faults items place walk)
approvals_faults-of None place walk = refl
approvals_faults-of (Some ds) place walk = approval_faults-of [] 0 ds place walk

approvals_member_faults-of : (member : Option Data) (place : Place) (walk : Walk) → AreOf (approvals_or_none member place walk) (approvals_member_faults member place walk)
approvals_member_faults-of None place walk = (refl, refl)
approvals_member_faults-of (Some d) place walk = approvals_faults-of (as_array d) place walk

-- the same where what is read last leaves another walk
abbrev pub AreFirst : {A : Type 0} → Found A → List Fault → Type 0
AreFirst (Ok x) faults = faults ≡ []
AreFirst (Err fault) faults = first_of faults ≡ Some fault

first-then : {A B : Type 0} (reading : Found (A × Walk)) (next : A × Walk → Found B) (faults : Faults) (more : Walk → Faults) → AreOf reading faults → ((found : A × Walk) → AreFirst (next found) (more found.1).0) → AreFirst (reading >>= next) (with_more faults more).0
first-then (Ok found) next (faults, walk) more are then =
    let P : List Fault → Walk → Type 0 = λ fs w. AreFirst (next found) (fs ++ (more w).0) in
    subst (λ fs. P fs walk) (sym are.0) (subst (P []) (sym are.1) (then found))
first-then (Err fault) next faults more are then = first_of-more faults.0 (more faults.1).0 fault are

first-end : {A B : Type 0} (reading : Found (A × Walk)) (say : A × Walk → B) (faults : Faults) → AreOf reading faults → AreFirst (reading >>= λ found. Ok (say found)) faults.0
first-end (Ok found) say faults are = are.0
first-end (Err fault) say faults are = are

first-still : {A B : Type 0} (found : Found A) (walk : Walk) (next : A → Found B) (more : Walk → Faults) → ((x : A) → AreFirst (next x) (more walk).0) → AreFirst (found >>= next) (with_more (fault_of (still found walk) walk) more).0
first-still (Ok x) walk next more then = then x
first-still (Err fault) walk next more then = refl

first-unless : {A : Type 0} (found : Found ⊤) (next : ⊤ → Found A) (faults : List Fault) → ((x : ⊤) → AreFirst (next x) faults) → AreFirst (found >>= next) (faults_unless found faults)
first-unless (Ok x) next faults then = then x
first-unless (Err fault) next faults then = refl

first-say : {A B : Type 0} (found : Found A) (say : A → B) (faults : List Fault) → AreFirst found faults → AreFirst (found >>= λ x. Ok (say x)) faults
first-say (Ok x) say faults are = are
first-say (Err fault) say faults are = are

document_faults-first : (d : Data) → AreFirst (document_in d root start) (policy_faults d)
unfolding document_in policy_faults member_faults policy_member approvals_member
document_faults-first d =
    let list = get (codes "policy") d in
    let list_place = at_member root (codes "policy") in
    let others = get (codes "policyAuthorizations") d in
    let others_place = at_member root (codes "policyAuthorizations") in
    let more : Walk → Faults = λ walk. with_more (policy_member_faults list list_place walk) (approvals_member_faults others others_place) in
    first-unless (object_in d root) _ (member_faults d root start).0
    (λ _. first-still (description_member d root) start _ more
    (λ description. first-then (read_needed (λ e p. elements_in (element_at max_levels) e p start) list list_place) _
    (policy_member_faults list list_place start) (approvals_member_faults others others_place) (policy_member_faults-of list list_place start)
    (λ elements. first-end (approvals_or_none others others_place elements.1) _ _ (approvals_member_faults-of others others_place elements.1))))

policy_faults-first : (d : Data) → AreFirst (policy_of d) (policy_faults d)
unfolding policy_of
policy_faults-first d = first-say (document_in d root start) (λ found. (found.0, found.1.notes)) (policy_faults d) (document_faults-first d)

-- a document that says a policy has no fault
pub no_faults : (d : Data) (found : Policy × List Place) → policy_of d ≡ Ok found → policy_faults d ≡ []
no_faults d found says =
    let P : Found (Policy × List Place) → Type 0 = λ reading. AreFirst reading (policy_faults d) in
    subst P says (policy_faults-first d)

-- the fault that the reading of a document meets is the first of all
pub first_fault : (d : Data) (fault : Fault) → policy_of d ≡ Err fault → first_of (policy_faults d) ≡ Some fault
first_fault d fault says =
    let P : Found (Policy × List Place) → Type 0 = λ reading. AreFirst reading (policy_faults d) in
    subst P says (policy_faults-first d)

-- what a document is read as from its root on, with no note before
pub policy_of-read : (d : Data) (place : Place) (notes : List Place) (policy : Policy) (after : Walk) → place ≡ root → notes ≡ [] → document_in d place (record { notes = notes; left = 1024 }) ≡ Ok (policy, after) → policy_of d ≡ Ok (policy, after.notes)
unfolding policy_of
policy_of-read d place notes policy after at_root none says =
    let says_root : document_in d root start ≡ Ok (policy, after) =
    subst (λ p. document_in d p start ≡ Ok (policy, after)) at_root (subst (λ ns. document_in d place (record { notes = ns; left = 1024 }) ≡ Ok (policy, after)) none says) in
    ap (λ reading. reading >>= λ found. Ok (found.0, found.1.notes)) says_root

pub policy_of-refused : (d : Data) (place : Place) (notes : List Place) (fault : Fault) → place ≡ root → notes ≡ [] → document_in d place (record { notes = notes; left = 1024 }) ≡ Err fault → policy_of d ≡ Err fault
unfolding policy_of
policy_of-refused d place notes fault at_root none says =
    let says_root : document_in d root start ≡ Err fault =
    subst (λ p. document_in d p start ≡ Err fault) at_root (subst (λ ns. document_in d place (record { notes = ns; left = 1024 }) ≡ Err fault) none says) in
    ap (λ reading. reading >>= λ found. Ok (found.0, found.1.notes)) says_root

-- a call's refusal of a document is a refusal of its bytes
pub is_refused : (bytes : List ℕ) (d : Data) (place at : Place) (notes : List Place) (kind : PolicyKind) → document_of bytes ≡ Some d → place ≡ root → notes ≡ [] → document_in d place (record { notes = notes; left = 1024 }) ≡ Err (kind, at) → IsRefused bytes (Bad kind at)
is_refused bytes d place at notes kind is_json at_root none refuses =
    (d, is_json, first_fault d (kind, at) (policy_of-refused d place notes (kind, at) at_root none refuses))
