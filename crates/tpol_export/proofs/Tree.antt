-- Elements, branches and lists of them say in FAPI's spelling what they say, with hierarchies by their handles.
use Rattle.std.proofs.Common.{◌≡◌, ℕ, zero, suc, ◌-◌, ◌==◌, Bool, true, false, List, [], ◌∷◌, Some, Ok, Err, codes, refl, sym, ap, ◌∙◌, if◌then◌else◌}
use Rattle.serde_json.specs.Data.{Data, array, string, Items, item}
use Rattle.serde_json.specs.View.{items_of}
use Rattle.tpol_adopt.specs.Normal.{normal_as, normal_items, normal_members}
use Rattle.tpol_adopt.specs.Rules.{item_rule, member_rule, new_scheme, type_of}
use Rattle.tpol_adopt.specs.declared.rules.Part.TheVariants.{Branches as AdoptedBranches, Elements as AdoptedElements}
use Rattle.tpol_base.specs.Answers.{◌>>=◌}
use Rattle.tpol_elements.specs.Types.{type_in}
use Rattle.tpol_export.proofs.Keys.{Says, bound, dup-stays, authorize-same, secret-says, signed-same, stays_says}
use Rattle.tpol_export.proofs.Leaves.{again, auth_value-same, authorize_nv-stays, code-stays, cp_hash-same, locality-same, names-same, nv-stays, password-same, pcr-same, presence-same, same_value, timer-same, written-stays}
use Rattle.tpol_export.specs.Named.{named_branches, named_element, named_elements}
use Rattle.tpol_export.specs.Rules.{item_rule as spelling_item, member_rule as spelling_rule, more_entries, new_name}
use Rattle.tpol_export.specs.Spelling.{spelled_as, spelled_items, spelled_members}
use Rattle.tpol_export.specs.Values.{hierarchy_in}
use Rattle.tpol_export.specs.declared.rules.Part.TheVariants.{Branches as SpelledBranches, Elements as SpelledElements}
use Rattle.tpol_json.specs.Members.{items_count}
use Rattle.tpol_json.specs.Places.{at_item, at_member}
use Rattle.tpol_json.specs.Reading.{bad}
use Rattle.tpol_json.specs.Words.{find_word}
use Rattle.tpol_json.specs.declared.place.Place.{Place}
use Rattle.tpol_members.specs.Faults.{Found}
use Rattle.tpol_members.specs.Members.{noted}
use Rattle.tpol_members.specs.declared.fault.PolicyKind.TheVariants as kinds
use Rattle.tpol_members.specs.declared.walk.Walk.{Walk}
use Rattle.tpol_read.specs.Elements.{branch_in, branches_from, branches_in, branches_of, counted, description_member, element_at, element_by, element_of_type, element_type_in, elements_from, elements_in, elements_of, is_branch_count, name_member, or_at, or_by, policy_member}
use Rattle.tpol_tree.specs.Erased.{nowhere, erased_branches, erased_element, erased_elements}
use Rattle.tpol_tree.specs.declared.policy.Branch.{Branch}
use Rattle.tpol_tree.specs.declared.policy.Branches.{Branches}
use Rattle.tpol_tree.specs.declared.policy.Branches.TheVariants as branches
use Rattle.tpol_tree.specs.declared.policy.Element.{Element}
use Rattle.tpol_tree.specs.declared.policy.Element.TheVariants.{Or, Pcr, Nv, Secret, Signed, Authorize, AuthorizeNv, Locality, CommandCode, CpHash, NameHash, CounterTimer, Duplication, NvWritten, AuthValue, Password, PhysicalPresence}
use Rattle.tpol_tree.specs.declared.policy.Elements.{Elements}
use Rattle.tpol_tree.specs.declared.policy.Elements.TheVariants as elements
use Rattle.tpol_write.specs.Elements.{branch_value, branches_values, element_value, elements_values, typed}
use Rattle.tpol_write.specs.Objects.{object_of}

-- ---- the values

abbrev pub again_elements : Elements → Items
again_elements es = normal_items AdoptedElements (spelled_items SpelledElements (items_of (elements_values es)))

abbrev pub again_branches : Branches → Items
again_branches bs = normal_items AdoptedBranches (spelled_items SpelledBranches (items_of (branches_values bs)))

again_branch : List ℕ → List ℕ → Items → Data
again_branch name description ds = object_of ((codes "name", string name) ∷ (codes "description", string description) ∷ (codes "policy", array ds) ∷ [])

or_value : Items → Data
or_value ds = typed (codes "POLICYOR") ((codes "branches", array ds) ∷ [])

more-again : (e : Element) (rest : Elements) → again_elements (elements.More' nowhere e nowhere rest) ≡ item (again e) (again_elements rest)
unfolding normal_items spelled_items item_rule spelling_item
more-again e rest = refl

branch-again : (name description : List ℕ) (es : Elements) (rest : Branches) → again_branches (branches.More' nowhere name description es nowhere rest) ≡ item (again_branch name description (again_elements es)) (again_branches rest)
unfolding again_branch normal_items spelled_items item_rule spelling_item spelled_as spelled_members spelling_rule new_name more_entries normal_as normal_members member_rule new_scheme
branch-again name description es rest = refl

or-again : (bs : Branches) → again (Or bs) ≡ or_value (again_branches bs)
unfolding or_value spelled_as spelled_members spelling_rule new_name more_entries hierarchy_in normal_as normal_members member_rule new_scheme type_of type_in find_word
or-again bs = refl

count-again : (bs : Branches) → items_count (again_branches bs) ≡ items_count (items_of (branches_values bs))
unfolding normal_items spelled_items item_rule spelling_item
count-again branches.End = refl
count-again (branches.More' p name description es q rest) = ap suc (count-again rest)

-- ---- readings, taken apart

element_of : Element → Elements → Element
element_of other elements.End = other
element_of other (elements.More' p e q es) = e

rest_of : Elements → Elements
rest_of elements.End = elements.End
rest_of (elements.More' p e q es) = es

name_of : Branches → List ℕ
name_of branches.End = []
name_of (branches.More' p name description es q rest) = name

description_of : Branches → List ℕ
description_of branches.End = []
description_of (branches.More' p name description es q rest) = description

elements_of_first : Branches → Elements
elements_of_first branches.End = elements.End
elements_of_first (branches.More' p name description es q rest) = es

rest_branches : Branches → Branches
rest_branches branches.End = branches.End
rest_branches (branches.More' p name description es q rest) = rest

branches_of_or : Element → Branches
branches_of_or (Or bs) = bs
branches_of_or e = branches.End

-- what is found, or else something
module _ {A : Type 0} where
  found_or : A × Walk → Found (A × Walk) → A × Walk
  found_or other (Ok x) = x
  found_or other (Err fault) = other

  pub found_is : (x y : A × Walk) → ◌≡◌ {A = Found (A × Walk)} (Ok x) (Ok y) → x ≡ y
  unfolding found_or
  found_is x y is = ap (found_or x) is

-- an element was found, and then the rest of the list
abbrev More : Found (Element × Walk) → (Element × Walk → Found (Elements × Walk)) → Element → Elements → Walk → Type 0
More first rest e es w = (middle : Walk) × (first ≡ Ok (e, middle)) × (rest (e, middle) ≡ Ok (es, w))

abbrev listed : Element → Found (Elements × Walk) → Found (Elements × Walk)
listed e rest = rest >>= λ found. Ok (elements.More' nowhere e nowhere found.0, found.1)

rest_is : (e1 e : Element) (rest : Found (Elements × Walk)) (es : Elements) (w : Walk) → listed e1 rest ≡ Ok (elements.More' nowhere e nowhere es, w) → (e1 ≡ e) × (rest ≡ Ok (es, w))
unfolding element_of rest_of
rest_is e1 e (Ok found) es w is =
    let both = found_is (elements.More' nowhere e1 nowhere found.0, found.1) (elements.More' nowhere e nowhere es, w) is in
    (ap (λ x. element_of e1 x.0) both, ap (λ x. Ok (rest_of x.0, x.1)) both)
rest_is e1 e (Err fault) es w is = cc

more_is : (first : Found (Element × Walk)) (rest : Element × Walk → Found (Elements × Walk)) (e : Element) (es : Elements) (w : Walk) → (first >>= λ found. listed found.0 (rest found)) ≡ Ok (elements.More' nowhere e nowhere es, w) → More first rest e es w
more_is (Ok found) rest e es w is =
    let parts = rest_is found.0 e (rest found) es w is in
    (found.1, ap (λ x. Ok (x, found.1)) parts.0, ap (λ x. rest (x, found.1)) (sym parts.0) ∙ parts.1)
more_is (Err fault) rest e es w is = cc

-- the same of a branch and the rest of the branches
abbrev MoreBranches : Found (Branch × Walk) → (Branch × Walk → Found (Branches × Walk)) → Branch → Branches → Walk → Type 0
MoreBranches first rest b bs w = (middle : Walk) × (first ≡ Ok (b, middle)) × (rest (b, middle) ≡ Ok (bs, w))

abbrev listed_branch : Branch → Found (Branches × Walk) → Found (Branches × Walk)
listed_branch b rest = rest >>= λ found. Ok (branches.More' nowhere b.name b.description b.elements nowhere found.0, found.1)

rest_branches_are : (b1 b : Branch) (rest : Found (Branches × Walk)) (bs : Branches) (w : Walk) → listed_branch b1 rest ≡ Ok (branches.More' nowhere b.name b.description b.elements nowhere bs, w) → (b1 ≡ b) × (rest ≡ Ok (bs, w))
unfolding name_of description_of elements_of_first rest_branches
rest_branches_are b1 b (Ok found) bs w is =
    let both = found_is (branches.More' nowhere b1.name b1.description b1.elements nowhere found.0, found.1) (branches.More' nowhere b.name b.description b.elements nowhere bs, w) is in
    (ap (λ (x : Branches × Walk). record { name = name_of x.0; description = description_of x.0; elements = elements_of_first x.0 }) both, ap (λ x. Ok (rest_branches x.0, x.1)) both)
rest_branches_are b1 b (Err fault) bs w is = cc

more_branches : (first : Found (Branch × Walk)) (rest : Branch × Walk → Found (Branches × Walk)) (b : Branch) (bs : Branches) (w : Walk) → (first >>= λ found. listed_branch found.0 (rest found)) ≡ Ok (branches.More' nowhere b.name b.description b.elements nowhere bs, w) → MoreBranches first rest b bs w
more_branches (Ok found) rest b bs w is =
    let parts = rest_branches_are found.0 b (rest found) bs w is in
    (found.1, ap (λ x. Ok (x, found.1)) parts.0, ap (λ x. rest (x, found.1)) (sym parts.0) ∙ parts.1)
more_branches (Err fault) rest b bs w is = cc

-- ---- what is said

-- at so many levels of ORs
abbrev SaysAt : Element → Type 0
SaysAt e = (levels : ℕ) (place : Place) (walk w : Walk) → element_at levels (element_value e) place walk ≡ Ok (e, w) → element_at levels (again e) place walk ≡ Ok (named_element e, w)

leaf : (e : Element) → Says e → SaysAt e
leaf e says levels place walk w is = says (or_at levels) place walk w is

counted-says : (e : Element) → SaysAt e → (levels : ℕ) (place : Place) (walk w : Walk) → counted (element_at levels) (element_value e) place walk ≡ Ok (e, w) → counted (element_at levels) (again e) place walk ≡ Ok (named_element e, w)
unfolding counted
counted-says e says levels place walk w is = by_test (walk.left == 0) is
  where
    by_test : (test : Bool) → (if test then bad kinds.TooMany place else element_at levels (element_value e) place (record walk { left = walk.left - 1 })) ≡ Ok (e, w)
        → (if test then bad kinds.TooMany place else element_at levels (again e) place (record walk { left = walk.left - 1 })) ≡ Ok (named_element e, w)
    by_test true is = cc
    by_test false is = says levels place (record walk { left = walk.left - 1 }) w is

abbrev ElementsSay : Elements → Type 0
ElementsSay es = (levels index : ℕ) (place : Place) (walk w : Walk) → elements_from (element_at levels) index (items_of (elements_values es)) place walk ≡ Ok (es, w) → elements_from (element_at levels) index (again_elements es) place walk ≡ Ok (named_elements es, w)

none-say : ElementsSay elements.End
unfolding elements_from normal_items spelled_items
none-say levels index place walk w is = is

more-say : (e : Element) (rest : Elements) → SaysAt e → ElementsSay rest → ElementsSay (elements.More' nowhere e nowhere rest)
unfolding elements_from
more-say e rest says say levels index place walk w is =
    let parts = more_is (counted (element_at levels) (element_value e) (at_item place index) walk) (λ found. elements_from (element_at levels) (suc index) (items_of (elements_values rest)) place found.1) e rest w is in
    ap (λ ds. elements_from (element_at levels) index ds place walk) (more-again e rest)
    ∙ bound (counted (element_at levels) (again e) (at_item place index) walk) (named_element e, parts.0) _ _ (counted-says e says levels (at_item place index) walk parts.0 parts.1)
    (bound (elements_from (element_at levels) (suc index) (again_elements rest) place parts.0) (named_elements rest, w) _ _ (say levels (suc index) place parts.0 w parts.2) refl)

-- a list of elements as `policy`
pub policy-say : (es : Elements) → ElementsSay es → (levels : ℕ) (place : Place) (walk w : Walk) → elements_of (element_at levels) (Some (items_of (elements_values es))) place walk ≡ Ok (es, w) → elements_of (element_at levels) (Some (again_elements es)) place walk ≡ Ok (named_elements es, w)
unfolding normal_items spelled_items item_rule spelling_item
policy-say elements.End say levels place walk w is = cc
policy-say (elements.More' p e q es) say levels place walk w is = say levels 0 place walk w is

-- a branch was read
in_branch : List ℕ → List ℕ → Found (Elements × Walk) → (Walk → Walk) → Found (Branch × Walk)
in_branch name description found note = found >>= λ x. Ok (record { name = name; description = description; elements = x.0 }, note x.1)

branch_is : (name description : List ℕ) (found : Found (Elements × Walk)) (note : Walk → Walk) (es : Elements) (w : Walk) → in_branch name description found note ≡ Ok (record { name = name; description = description; elements = es }, w)
    → (middle : Walk) × (found ≡ Ok (es, middle)) × (note middle ≡ w)
unfolding in_branch
branch_is name description (Ok found) note es w is =
    let both : (record { name = name; description = description; elements = found.0 }, note found.1) ≡ (record { name = name; description = description; elements = es }, w) = found_is _ _ is in
    (found.1, ap (λ x. Ok (x.0.elements, found.1)) both, ap (λ x. x.1) both)
branch_is name description (Err fault) note es w is = cc

branch-read : (name description : List ℕ) (ds : List Data) (levels : ℕ) (place : Place) (walk : Walk) → branch_in (element_at levels) (branch_value name description ds) place walk
    ≡ in_branch name description (elements_of (element_at levels) (Some (items_of ds)) (at_member place (codes "policy")) walk) (noted (codes "name" ∷ codes "description" ∷ codes "policy" ∷ []) (branch_value name description ds) place)
unfolding in_branch branch_in name_member description_member policy_member elements_in
branch-read name description ds levels place walk = refl

again-read : (name description : List ℕ) (ds : Items) (other : List Data) (levels : ℕ) (place : Place) (walk : Walk) → branch_in (element_at levels) (again_branch name description ds) place walk
    ≡ in_branch name description (elements_of (element_at levels) (Some ds) (at_member place (codes "policy")) walk) (noted (codes "name" ∷ codes "description" ∷ codes "policy" ∷ []) (branch_value name description other) place)
unfolding again_branch in_branch branch_in name_member description_member policy_member elements_in noted
again-read name description ds other levels place walk = refl

branch-says : (name description : List ℕ) (es : Elements) → ElementsSay es → (levels : ℕ) (place : Place) (walk w : Walk)
    → branch_in (element_at levels) (branch_value name description (elements_values es)) place walk ≡ Ok (record { name = name; description = description; elements = es }, w)
    → branch_in (element_at levels) (again_branch name description (again_elements es)) place walk ≡ Ok (record { name = name; description = description; elements = named_elements es }, w)
unfolding in_branch
branch-says name description es say levels place walk w is =
    let note = noted (codes "name" ∷ codes "description" ∷ codes "policy" ∷ []) (branch_value name description (elements_values es)) place in
    let at = at_member place (codes "policy") in
    let parts = branch_is name description (elements_of (element_at levels) (Some (items_of (elements_values es))) at walk) note es w (sym (branch-read name description (elements_values es) levels place walk) ∙ is) in
    again-read name description (again_elements es) (elements_values es) levels place walk
    ∙ ap (λ r. in_branch name description r note) (policy-say es say levels at walk parts.0 parts.1)
    ∙ ap (λ v. Ok (record { name = name; description = description; elements = named_elements es }, v)) parts.2

abbrev BranchesSay : Branches → Type 0
BranchesSay bs = (levels index : ℕ) (place : Place) (walk w : Walk) → branches_from (element_at levels) index (items_of (branches_values bs)) place walk ≡ Ok (bs, w) → branches_from (element_at levels) index (again_branches bs) place walk ≡ Ok (named_branches bs, w)

no-branches-say : BranchesSay branches.End
unfolding branches_from normal_items spelled_items
no-branches-say levels index place walk w is = is

more-branches-say : (name description : List ℕ) (es : Elements) (rest : Branches) → ElementsSay es → BranchesSay rest → BranchesSay (branches.More' nowhere name description es nowhere rest)
unfolding branches_from
more-branches-say name description es rest say others levels index place walk w is =
    let at = at_item place index in
    let parts = more_branches (branch_in (element_at levels) (branch_value name description (elements_values es)) at walk) (λ found. branches_from (element_at levels) (suc index) (items_of (branches_values rest)) place found.1)
    (record { name = name; description = description; elements = es }) rest w is in
    ap (λ ds. branches_from (element_at levels) index ds place walk) (branch-again name description es rest)
    ∙ bound (branch_in (element_at levels) (again_branch name description (again_elements es)) at walk) (record { name = name; description = description; elements = named_elements es }, parts.0) _ _
    (branch-says name description es say levels at walk parts.0 parts.1)
    (bound (branches_from (element_at levels) (suc index) (again_branches rest) place parts.0) (named_branches rest, w) _ _ (others levels (suc index) place parts.0 w parts.2) refl)

-- ---- ORs

in_or : Found (Branches × Walk) → (Walk → Walk) → Found (Element × Walk)
in_or found note = found >>= λ x. Ok (Or x.0, note x.1)

or_is : (found : Found (Branches × Walk)) (note : Walk → Walk) (bs : Branches) (w : Walk) → in_or found note ≡ Ok (Or bs, w) → (middle : Walk) × (found ≡ Ok (bs, middle)) × (note middle ≡ w)
unfolding in_or branches_of_or
or_is (Ok found) note bs w is =
    let both : (Or found.0, note found.1) ≡ (Or bs, w) = found_is _ _ is in
    (found.1, ap (λ x. Ok (branches_of_or x.0, found.1)) both, ap (λ x. x.1) both)
or_is (Err fault) note bs w is = cc

or_ends : (bs : Branches) (note : Walk → Walk) (middle w : Walk) → note middle ≡ w → in_or (Ok (bs, middle)) note ≡ Ok (Or bs, w)
unfolding in_or
or_ends bs note middle w is = ap (λ v. Ok (Or bs, v)) is

or-read : (bs : Branches) (levels : ℕ) (place : Place) (walk : Walk) → element_at (suc levels) (element_value (Or bs)) place walk
    ≡ in_or (branches_of (element_at levels) (Some (items_of (branches_values bs))) (at_member place (codes "branches")) walk) (noted (codes "type" ∷ codes "branches" ∷ []) (element_value (Or bs)) place)
unfolding in_or element_by element_type_in element_of_type type_in find_word or_at or_by branches_in
or-read bs levels place walk = refl

or_again-read : (bs : Branches) (ds : Items) (levels : ℕ) (place : Place) (walk : Walk) → element_at (suc levels) (or_value ds) place walk
    ≡ in_or (branches_of (element_at levels) (Some ds) (at_member place (codes "branches")) walk) (noted (codes "type" ∷ codes "branches" ∷ []) (element_value (Or bs)) place)
unfolding or_value in_or element_by element_type_in element_of_type type_in find_word or_at or_by branches_in noted
or_again-read bs ds levels place walk = refl

listed-say : (bs : Branches) → BranchesSay bs → (levels : ℕ) (place : Place) (walk w : Walk) → branches_of (element_at levels) (Some (items_of (branches_values bs))) place walk ≡ Ok (bs, w) → branches_of (element_at levels) (Some (again_branches bs)) place walk ≡ Ok (named_branches bs, w)
listed-say bs say levels place walk w is =
    ap (λ n. if is_branch_count n then branches_from (element_at levels) 0 (again_branches bs) place walk else bad kinds.BranchCount place) (count-again bs)
    ∙ by_test (is_branch_count (items_count (items_of (branches_values bs)))) is
  where
    by_test : (test : Bool) → (if test then branches_from (element_at levels) 0 (items_of (branches_values bs)) place walk else bad kinds.BranchCount place) ≡ Ok (bs, w)
        → (if test then branches_from (element_at levels) 0 (again_branches bs) place walk else bad kinds.BranchCount place) ≡ Ok (named_branches bs, w)
    by_test true is = say levels 0 place walk w is
    by_test false is = cc

too_deep : (bs : Branches) (place : Place) (walk w : Walk) → element_at 0 (element_value (Or bs)) place walk ≡ Ok (Or bs, w) → ⊥
unfolding element_by element_type_in element_of_type type_in find_word or_at
too_deep bs place walk w is = cc

or-says : (bs : Branches) → BranchesSay bs → SaysAt (Or bs)
or-says bs say zero place walk w is = absurd (too_deep bs place walk w is)
or-says bs say (suc levels) place walk w is =
    let note = noted (codes "type" ∷ codes "branches" ∷ []) (element_value (Or bs)) place in
    let at = at_member place (codes "branches") in
    let parts = or_is (branches_of (element_at levels) (Some (items_of (branches_values bs))) at walk) note bs w (sym (or-read bs levels place walk) ∙ is) in
    ap (λ d. element_at (suc levels) d place walk) (or-again bs)
    ∙ or_again-read bs (again_branches bs) levels place walk
    ∙ ap (λ r. in_or r note) (listed-say bs say levels at walk parts.0 parts.1)
    ∙ or_ends (named_branches bs) note parts.0 w parts.2

-- ---- all elements

mutual
  pub elements-say : (es : Elements) → ElementsSay (erased_elements es)
  elements-say elements.End = none-say
  elements-say (elements.More' p e q rest) = more-say (erased_element e) (erased_elements rest) (element-says e) (elements-say rest)

  element-says : (e : Element) → SaysAt (erased_element e)
  element-says (Or bs) = or-says (erased_branches bs) (branches-say bs)
  element-says (Pcr pcrs) = leaf (Pcr pcrs) (stays_says (Pcr pcrs) (same_value (Pcr pcrs) (pcr-same pcrs)) refl)
  element-says (Nv i operand offset operation) = leaf (Nv i operand offset operation) (stays_says (Nv i operand offset operation) (nv-stays i operand offset operation) refl)
  element-says (Secret e policy_ref cp_hash expiration) = leaf (Secret e policy_ref cp_hash expiration) (secret-says e policy_ref cp_hash expiration)
  element-says (Signed k policy_ref cp_hash expiration) = leaf (Signed k policy_ref cp_hash expiration) (stays_says (Signed k policy_ref cp_hash expiration) (same_value (Signed k policy_ref cp_hash expiration) (signed-same k policy_ref cp_hash expiration)) refl)
  element-says (Authorize k policy_ref) = leaf (Authorize k policy_ref) (stays_says (Authorize k policy_ref) (same_value (Authorize k policy_ref) (authorize-same k policy_ref)) refl)
  element-says (AuthorizeNv i) = leaf (AuthorizeNv i) (stays_says (AuthorizeNv i) (authorize_nv-stays i) refl)
  element-says (Locality n) = leaf (Locality n) (stays_says (Locality n) (same_value (Locality n) (locality-same n)) refl)
  element-says (CommandCode code) = leaf (CommandCode code) (stays_says (CommandCode code) (code-stays code) refl)
  element-says (CpHash digest) = leaf (CpHash digest) (stays_says (CpHash digest) (same_value (CpHash digest) (cp_hash-same digest)) refl)
  element-says (NameHash names) = leaf (NameHash names) (stays_says (NameHash names) (same_value (NameHash names) (names-same names)) refl)
  element-says (CounterTimer operand offset operation) = leaf (CounterTimer operand offset operation) (stays_says (CounterTimer operand offset operation) (same_value (CounterTimer operand offset operation) (timer-same operand offset operation)) refl)
  element-says (Duplication name p include) = leaf (Duplication name p include) (stays_says (Duplication name p include) (dup-stays name p include) refl)
  element-says (NvWritten written) = leaf (NvWritten written) (stays_says (NvWritten written) (written-stays written) refl)
  element-says AuthValue = leaf AuthValue (stays_says AuthValue (same_value AuthValue auth_value-same) refl)
  element-says Password = leaf Password (stays_says Password (same_value Password password-same) refl)
  element-says PhysicalPresence = leaf PhysicalPresence (stays_says PhysicalPresence (same_value PhysicalPresence presence-same) refl)

  branches-say : (bs : Branches) → BranchesSay (erased_branches bs)
  branches-say branches.End = no-branches-say
  branches-say (branches.More' p name description es q rest) = more-branches-say name description (erased_elements es) (erased_branches rest) (elements-say es) (branches-say rest)
