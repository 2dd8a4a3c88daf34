-- A document in its new spelling has no other.
use Rattle.std.proofs.Common.{◌≡◌, ℕ, zero, suc, ◌≤◌, List, [], ◌∷◌, Option, Some, None, option_map, option_and_then, is_some, codes, Bool, true, false, not, ◌&&◌, ◌||◌, ◌⊎◌, inl, inr, bytes_eq, refl, sym, ap, ◌∙◌, subst, arith, if◌then◌else◌}
use Rattle.std.specs.Cmp.Lexicographic.{slice_cmp}
use Rattle.std.specs.Ordering.{match_ordering, nat_cmp}
use Rattle.std.specs.declared.cmp.Ordering.{Ordering}
use Rattle.std.specs.declared.cmp.Ordering.TheVariants.{Less, Equal, Greater}
use Rattle.serde_json.specs.Data.{Data, null, boolean, number, string, array, object, unsigned, Items, no_items, item, Members, no_members, member, put, depth}
use Rattle.serde_json.specs.Find.{as_object, as_str, get, get_member}
use Rattle.serde_json.proofs.Views.{get_member-put}
use Rattle.tpol_json.specs.Places.{root}
use Rattle.tpol_elements.specs.Types.{type_in}
use Rattle.tpol_elements.specs.declared.types.ElementType.{ElementType}
use Rattle.tpol_elements.specs.declared.types.ElementType.TheVariants.{Or, Leaf, Unsupported}
use Rattle.tpol_elements.specs.declared.types.LeafType.TheVariants as types
use Rattle.tpol_adopt.specs.Dropped.{approving_key, innermost, is_asymmetric, is_asymmetric_key, is_by_index, is_index_type}
use Rattle.tpol_adopt.specs.Edits.{edited, hmac_digest, inner_scheme, number_or, scheme_in, text_or}
use Rattle.tpol_adopt.specs.Laws.{IsIdempotent}
use Rattle.tpol_adopt.specs.Normal.{by_rule, item_before, member_before, normal_as, normal_items, normal_members, with_scheme}
use Rattle.tpol_adopt.specs.Rules.{Rows, found, is_empty, has_bytes, item_rule, left_out_where, member_rule, new_scheme, parent_rule, rows_of, rule_in, type_of, wrapper_rows}
use Rattle.tpol_adopt.specs.Words.{has, is_word, says}
use Rattle.tpol_adopt.specs.declared.edits.Edit.{Edit}
use Rattle.tpol_adopt.specs.declared.edits.Edit.TheVariants.{Number, Code, Signature}
use Rattle.tpol_adopt.specs.declared.flags.Flags.TheVariants.{OfIndex}
use Rattle.tpol_adopt.specs.declared.rules.Part.{Part}
use Rattle.tpol_adopt.specs.declared.rules.Part.TheVariants.{Document, Elements, Element, Branches, Branch, IndexPublic, KeyPublic, Approvals, Approval}
use Rattle.tpol_adopt.specs.declared.rules.Rule.{Rule}
use Rattle.tpol_adopt.specs.declared.rules.Rule.TheVariants.{Same, LeftOut, Inner, Edited}
use Rattle.tpol_adopt.proofs.Documents.{type_stays}
use Rattle.tpol_adopt.proofs.Elements.{element-plain}
use Rattle.tpol_adopt.proofs.Gets.{same_name}
use Rattle.tpol_adopt.proofs.Publics.{index_inner_by, key_inner_by, key_rows, key_rule, wrapper}
use Rattle.tpol_adopt.proofs.Ruled.{get-inner, get-same, other-same}
use Rattle.tpol_elements.proofs.Wrappers.{depth-get}
use Rattle.tpol_adopt.proofs.Wrappers.{innermost-none, innermost-some}

-- ---- single values

number_twice : (edit : Edit) (o : Option ℕ) (d : Data) → edited edit d ≡ number_or o d → ((n : ℕ) → edited edit (number (unsigned n)) ≡ number (unsigned n)) → edited edit (number_or o d) ≡ number_or o d
number_twice edit None d is stays = is
number_twice edit (Some n) d is stays = stays n

edited_twice : (edit : Edit) (d : Data) → edited edit (edited edit d) ≡ edited edit d
edited_twice (Number flags) d = number_twice (Number flags) _ d refl (λ n. refl)
edited_twice Code d = number_twice Code _ d refl (λ n. refl)
edited_twice Signature d = by_text (hmac_digest d) refl
  where
    by_text : (o : Option (List ℕ)) → hmac_digest d ≡ o → edited Signature (text_or o d) ≡ text_or o d
    by_text None is = ap (λ o. text_or o d) is
    by_text (Some text) is = refl

-- ---- rules

-- a rule leaves out, or is the same once more
abbrev IsStable : Rule → Rule → Type 0
IsStable rule again = (rule ≡ LeftOut) ⊎ (again ≡ rule)

StableRows : Rows → Rows → Type 0
StableRows [] [] = Unit {0}
StableRows [] (row ∷ rows) = ⊥
StableRows (row ∷ rows) [] = ⊥
StableRows (row ∷ rows) (again ∷ agains) = (again.0 ≡ row.0) × IsStable row.1 again.1 × StableRows rows agains

stable_if : (test : Bool) (rule again rest rest' : Rule) → IsStable rule again → IsStable rest rest' → IsStable (if test then rule else rest) (if test then again else rest')
stable_if true rule again rest rest' here later = here
stable_if false rule again rest rest' here later = later

stable_in : (rows agains : Rows) → StableRows rows agains → (name : List ℕ) → IsStable (rule_in rows name) (rule_in agains name)
unfolding StableRows
stable_in [] [] stable name = inr refl
stable_in [] (row ∷ rows) stable name = absurd stable
stable_in (row ∷ rows) [] stable name = absurd stable
stable_in (row ∷ rows) (again ∷ agains) stable name =
    subst (λ n. IsStable (rule_in (row ∷ rows) name) (if bytes_eq name n then again.1 else rule_in agains name)) (sym stable.0)
    (stable_if (bytes_eq name row.0) row.1 again.1 (rule_in rows name) (rule_in agains name) stable.1 (stable_in rows agains stable.2 name))

left_out_stable : (test again : Bool) → (test ≡ false → again ≡ false) → IsStable (left_out_where test) (left_out_where again)
left_out_stable true again is = inl refl
left_out_stable false again is = inr (ap left_out_where (is refl))

stays_false : (test again : Bool) → again ≡ test → test ≡ false → again ≡ false
stays_false test again is isnt = is ∙ isnt

-- the new spelling of an object is one, and of anything else none
as_object-some : (part : Part) (d : Data) → is_some (as_object (normal_as part d)) ≡ is_some (as_object d)
unfolding normal_as
as_object-some part null = refl
as_object-some part (boolean b) = refl
as_object-some part (number n) = refl
as_object-some part (string s) = refl
as_object-some part (array ds) = refl
as_object-some part (object ms) = refl

object_in_map : (part : Part) (o : Option Data) → is_some (option_and_then as_object (option_map (normal_as part) o)) ≡ is_some (option_and_then as_object o)
object_in_map part None = refl
object_in_map part (Some d) = as_object-some part d

is_some-map : (f : Data → Data) (o : Option Data) → is_some (option_map f o) ≡ is_some o
is_some-map f None = refl
is_some-map f (Some d) = refl

module _ (type : Option ElementType) (d : Data) where
  abbrev renewed : Data
  renewed = normal_as (Element type) d

  same : (name : List ℕ) → member_rule (Element type) d name ≡ Same → get name renewed ≡ get name d
  same name = get-same (Element type) d name (element-plain type d)

  has_same : (name : List ℕ) → member_rule (Element type) d name ≡ Same → has name renewed ≡ has name d
  has_same name is = ap is_some (same name is)

  has_inner : (name : List ℕ) (part : Part) → member_rule (Element type) d name ≡ Inner part → has name renewed ≡ has name d
  has_inner name part is = ap is_some (get-inner (Element type) d name (element-plain type d) part is) ∙ is_some-map (normal_as part) (get name d)

  -- an empty text that is left out, or another that stays
  empty_stable : (name : List ℕ) → member_rule (Element type) d name ≡ left_out_where (is_empty name d) → IsStable (left_out_where (is_empty name d)) (left_out_where (is_empty name renewed))
  empty_stable name is =
      left_out_stable (is_empty name d) (is_empty name renewed)
      (λ full. ap (λ o. is_word [] (option_and_then as_str o)) (same name (is ∙ ap left_out_where full)) ∙ full)

-- the rules of an element, once more
element_stable : (type : Option ElementType) (d : Data) → StableRows (rows_of (Element type) d) (rows_of (Element type) (normal_as (Element type) d))
unfolding StableRows member_rule
element_stable None d = (refl, inl refl, tt {0})
element_stable (Some Unsupported) d = (refl, inl refl, tt {0})
element_stable (Some Or) d = (refl, inl refl, (refl, inr refl, tt {0}))
element_stable (Some (Leaf types.Nv)) d =
    let object = ap (λ o. is_some (option_and_then as_object o)) (get-inner (Element (Some (Leaf types.Nv))) d (codes "nvPublic") (element-plain (Some (Leaf types.Nv)) d) IndexPublic refl) ∙ object_in_map IndexPublic (get (codes "nvPublic") d) in
    (refl, inl refl, (refl, left_out_stable _ _ (stays_false _ _ object), (refl, inr refl, tt {0})))
element_stable (Some (Leaf types.Secret)) d =
    let type = Some (Leaf types.Secret) in
    (refl, inl refl, (refl, empty_stable type d (codes "cpHashA") refl, (refl, empty_stable type d (codes "nonceTPM") refl, tt {0})))
element_stable (Some (Leaf types.Signed)) d =
    let type = Some (Leaf types.Signed) in
    let pem = left_out_stable _ _ (stays_false _ _ (ap not (has_same type d (codes "keyPEM") refl))) in (
      refl,
      inl refl,
      (
        refl,
        empty_stable type d (codes "cpHashA") refl,
        (
          refl,
          empty_stable type d (codes "nonceTPM") refl,
          (refl, inr refl, (refl, pem, (refl, pem, (refl, pem, tt {0})))),
        ),
      ),
    )
element_stable (Some (Leaf types.Authorize)) d =
    let type = Some (Leaf types.Authorize) in
    let pem = left_out_stable _ _ (stays_false _ _ (ap not (has_same type d (codes "keyPEM") refl))) in (
      refl,
      inl refl,
      (
        refl,
        left_out_stable _ _ (stays_false _ _ (has_inner type d (codes "keyPublic") KeyPublic refl)),
        (refl, inr refl, (refl, pem, (refl, pem, (refl, pem, tt {0})))),
      ),
    )
element_stable (Some (Leaf types.AuthorizeNv)) d = (refl, inl refl, (refl, inr refl, tt {0}))
element_stable (Some (Leaf types.Locality)) d = (refl, inl refl, (refl, inr refl, tt {0}))
element_stable (Some (Leaf types.CommandCode)) d = (refl, inl refl, (refl, inr refl, tt {0}))
element_stable (Some (Leaf types.DuplicationSelect)) d =
    let type = Some (Leaf types.DuplicationSelect) in
    let named = ap (λ o. not (is_some o) && has_bytes (option_and_then as_str (get (codes "newParentName") (normal_as (Element type) d)))) (same type d (codes "newParentPath") refl)
    ∙ ap (λ o. not (has (codes "newParentPath") d) && has_bytes (option_and_then as_str o)) (same type d (codes "newParentName") refl) in
    (refl, inl refl, (refl, inr (ap parent_rule named), tt {0}))
element_stable (Some (Leaf types.Pcr)) d = (refl, inl refl, tt {0})
element_stable (Some (Leaf types.CpHash)) d = (refl, inl refl, tt {0})
element_stable (Some (Leaf types.NameHash)) d = (refl, inl refl, tt {0})
element_stable (Some (Leaf types.CounterTimer)) d = (refl, inl refl, tt {0})
element_stable (Some (Leaf types.NvWritten)) d = (refl, inl refl, tt {0})
element_stable (Some (Leaf types.AuthValue)) d = (refl, inl refl, tt {0})
element_stable (Some (Leaf types.Password)) d = (refl, inl refl, tt {0})
element_stable (Some (Leaf types.PhysicalPresence)) d = (refl, inl refl, tt {0})

wrapper_stable : (test : Bool) (name : List ℕ) (part : Part) (rows agains : Rows) → (test ≡ false → StableRows rows agains) → StableRows (wrapper_rows test name part rows) (wrapper_rows test name part agains)
unfolding StableRows
wrapper_stable true name part rows agains stable = (refl, inl refl, (refl, inr refl, tt {0}))
wrapper_stable false name part rows agains stable = stable refl

index_has : (d : Data) → has (codes "nvPublic") (normal_as IndexPublic d) ≡ has (codes "nvPublic") d
index_has d = ap is_some (index_inner_by d (get (codes "nvPublic") d) refl) ∙ is_some-map (normal_as IndexPublic) (get (codes "nvPublic") d)

abbrev index_row : Rows
index_row = (codes "attributes", Edited (Number OfIndex)) ∷ []

index_stable : (d : Data) → StableRows (rows_of IndexPublic d) (rows_of IndexPublic (normal_as IndexPublic d))
unfolding StableRows
index_stable d =
    subst (λ b. StableRows (rows_of IndexPublic d) (wrapper_rows b (codes "nvPublic") IndexPublic index_row)) (sym (index_has d))
    (wrapper_stable (has (codes "nvPublic") d) (codes "nvPublic") IndexPublic index_row index_row (λ bare. (refl, inr refl, tt {0})))

key_has : (d : Data) → has wrapper (normal_as KeyPublic d) ≡ has wrapper d
key_has d = ap is_some (key_inner_by d (get wrapper d) refl) ∙ is_some-map (normal_as KeyPublic) (get wrapper d)

nothing : {A : Type 0} (o : Option A) → is_some o ≡ false → o ≡ None
nothing None is = refl
nothing (Some x) is = cc

-- a key with no new scheme has none afterwards
scheme_twice : (d : Data) → has wrapper d ≡ false → is_some (inner_scheme d) ≡ false → inner_scheme (normal_as KeyPublic d) ≡ None
unfolding new_scheme
scheme_twice d bare none =
    let plain : new_scheme KeyPublic d ≡ None = ap (λ b. if b then None else inner_scheme d) bare ∙ nothing (inner_scheme d) none in
    ap (λ o. if is_some o then None else scheme_in (option_and_then (get (codes "scheme")) (get (codes "parameters") (normal_as KeyPublic d)))) (get-same KeyPublic d (codes "scheme") plain (key_rule d (codes "scheme") false bare))
    ∙ ap (λ o. if has (codes "scheme") d then None else scheme_in (option_and_then (get (codes "scheme")) o)) (get-same KeyPublic d (codes "parameters") plain (key_rule d (codes "parameters") false bare ∙ ap left_out_where none))
    ∙ nothing (inner_scheme d) none

key_stable : (d : Data) → StableRows (rows_of KeyPublic d) (rows_of KeyPublic (normal_as KeyPublic d))
unfolding StableRows
key_stable d =
    subst (λ b. StableRows (rows_of KeyPublic d) (wrapper_rows b wrapper KeyPublic (key_rows (normal_as KeyPublic d)))) (sym (key_has d))
    (wrapper_stable (has wrapper d) wrapper KeyPublic (key_rows d) (key_rows (normal_as KeyPublic d))
    (λ bare. (refl, inr refl, (refl, left_out_stable _ _ (λ none. ap is_some (scheme_twice d bare none)), tt {0}))))

rows_stable : (part : Part) (d : Data) → StableRows (rows_of part d) (rows_of part (normal_as part d))
unfolding StableRows
rows_stable Document d = (refl, inr refl, (refl, inr refl, tt {0}))
rows_stable (Element type) d = element_stable type d
rows_stable Branch d = (refl, inl refl, (refl, inr refl, tt {0}))
rows_stable IndexPublic d = index_stable d
rows_stable KeyPublic d = key_stable d
rows_stable Approval d = (refl, inr refl, (refl, inr refl, (refl, inr refl, tt {0})))
rows_stable Elements d = tt {0}
rows_stable Branches d = tt {0}
rows_stable Approvals d = tt {0}

member_stable : (part : Part) (d : Data) (name : List ℕ) → IsStable (member_rule part d name) (member_rule part (normal_as part d) name)
unfolding member_rule
member_stable part d name = stable_in (rows_of part d) (rows_of part (normal_as part d)) (rows_stable part d) name

-- ---- schemes

put_has : (d : Data) (scheme : List ℕ) → inner_scheme d ≡ Some scheme → has wrapper d ≡ false → has (codes "scheme") (normal_as KeyPublic d) ≡ true
unfolding normal_as new_scheme
put_has null scheme is bare = cc
put_has (boolean b) scheme is bare = cc
put_has (number n) scheme is bare = cc
put_has (string s) scheme is bare = cc
put_has (array ds) scheme is bare = cc
put_has (object ms) scheme is bare =
    let new = ap (λ b. if b then None else inner_scheme (object ms)) bare ∙ is in
    ap (λ s. is_some (get_member (codes "scheme") (with_scheme s (normal_members KeyPublic (object ms) ms)))) new
    ∙ ap is_some (get_member-put (codes "scheme") (string scheme) (normal_members KeyPublic (object ms) ms))

bare_again : (d : Data) (o : Option (List ℕ)) → inner_scheme d ≡ o → has wrapper d ≡ false → inner_scheme (normal_as KeyPublic d) ≡ None
bare_again d None is bare = scheme_twice d bare (ap is_some is)
bare_again d (Some scheme) is bare =
    ap (λ b. if b then None else scheme_in (option_and_then (get (codes "scheme")) (get (codes "parameters") (normal_as KeyPublic d)))) (put_has d scheme is bare)

key_again : (d : Data) (test : Bool) → has wrapper d ≡ test → new_scheme KeyPublic (normal_as KeyPublic d) ≡ None
unfolding new_scheme
key_again d true is = ap (λ b. if b then None else inner_scheme (normal_as KeyPublic d)) (key_has d ∙ is)
key_again d false is = ap (λ b. if b then None else inner_scheme (normal_as KeyPublic d)) (key_has d ∙ is) ∙ bare_again d (inner_scheme d) refl is

scheme_again : (part : Part) (d : Data) → new_scheme part (normal_as part d) ≡ None
unfolding new_scheme
scheme_again Document d = refl
scheme_again Elements d = refl
scheme_again (Element type) d = refl
scheme_again Branches d = refl
scheme_again Branch d = refl
scheme_again IndexPublic d = refl
scheme_again KeyPublic d = key_again d (has wrapper d) refl
scheme_again Approvals d = refl
scheme_again Approval d = refl

key_scheme : (whole : Data) (test : Bool) → has wrapper whole ≡ test → member_rule KeyPublic whole (codes "scheme") ≡ Same
key_scheme whole true is = key_rule whole (codes "scheme") true is
key_scheme whole false is = key_rule whole (codes "scheme") false is

-- where a scheme is new it stays
scheme_stays : (part : Part) (d whole : Data) (scheme : List ℕ) → new_scheme part d ≡ Some scheme → member_rule part whole (codes "scheme") ≡ Same
unfolding new_scheme
scheme_stays Document d whole scheme is = cc
scheme_stays Elements d whole scheme is = cc
scheme_stays (Element type) d whole scheme is = cc
scheme_stays Branches d whole scheme is = cc
scheme_stays Branch d whole scheme is = cc
scheme_stays IndexPublic d whole scheme is = cc
scheme_stays KeyPublic d whole scheme is = key_scheme whole (has wrapper whole) refl
scheme_stays Approvals d whole scheme is = cc
scheme_stays Approval d whole scheme is = cc

-- ---- members

StaysIf : Option Data → Rule → Type 0
StaysIf None rule = Unit {0}
StaysIf (Some e) rule = by_rule rule (λ inner. normal_as inner e) e ≡ Some e

AllStay : Part → Data → Members → Type 0
AllStay part whole no_members = Unit {0}
AllStay part whole (member name e ms) = (by_rule (member_rule part whole name) (λ inner. normal_as inner e) e ≡ Some e) × AllStay part whole ms

by_again : (rule again : Rule) (e : Data) → IsStable rule again → (rule ≡ LeftOut → ⊥) → by_rule rule (λ inner. normal_as inner e) e ≡ Some e → by_rule again (λ inner. normal_as inner e) e ≡ Some e
by_again rule again e stable stays is =
    elim stable [
      | inl left_out ↦ absurd (stays left_out)
      | inr same ↦ ap (λ r. by_rule r (λ inner. normal_as inner e) e) same ∙ is
    ]

stays_by : (rule again : Rule) (d : Data) → IsStable rule again → ((part : Part) → normal_as part (normal_as part d) ≡ normal_as part d) → StaysIf (by_rule rule (λ inner. normal_as inner d) d) again
unfolding StaysIf
stays_by Same again d stable twice = by_again Same again d stable (λ is. cc) refl
stays_by LeftOut again d stable twice = tt {0}
stays_by (Inner part) again d stable twice = by_again (Inner part) again (normal_as part d) stable (λ is. cc) (ap Some (twice part))
stays_by (Edited edit) again d stable twice = by_again (Edited edit) again (edited edit d) stable (λ is. cc) (ap Some (edited_twice edit d))

stay_before : (part : Part) (whole : Data) (name : List ℕ) (kept : Option Data) (ms : Members) → StaysIf kept (member_rule part whole name) → AllStay part whole ms → AllStay part whole (member_before name kept ms)
unfolding StaysIf AllStay
stay_before part whole name None ms one rest = rest
stay_before part whole name (Some e) ms one rest = (one, rest)

all_stay : (part : Part) (whole : Data) (ms : Members) → AllStay part whole ms → normal_members part whole ms ≡ ms
unfolding AllStay normal_members
all_stay part whole no_members stay = refl
all_stay part whole (member name e ms) stay =
    ap (λ kept. member_before name kept (normal_members part whole ms)) stay.0 ∙ ap (member name e) (all_stay part whole ms stay.1)

stay_put_at : (part : Part) (whole : Data) (order : Ordering) (k l : List ℕ) (text : List ℕ) (e : Data) (ms : Members) → slice_cmp nat_cmp k l ≡ order → member_rule part whole k ≡ Same → AllStay part whole (member l e ms) → AllStay part whole (put k (string text) ms)
    → AllStay part whole (match_ordering order (member k (string text) (member l e ms)) (member l (string text) ms) (member l e (put k (string text) ms)))
unfolding AllStay
stay_put_at part whole Less k l text e ms is stays all later = (ap (λ r. by_rule r (λ inner. normal_as inner (string text)) (string text)) stays, all)
stay_put_at part whole Equal k l text e ms is stays all later =
    (ap (λ r. by_rule r (λ inner. normal_as inner (string text)) (string text)) (subst (λ n. member_rule part whole n ≡ Same) (same_name k l is) stays), all.1)
stay_put_at part whole Greater k l text e ms is stays all later = (all.0, later)

stay_put : (part : Part) (whole : Data) (k text : List ℕ) (ms : Members) → member_rule part whole k ≡ Same → AllStay part whole ms → AllStay part whole (put k (string text) ms)
unfolding AllStay
stay_put part whole k text no_members stays all = (ap (λ r. by_rule r (λ inner. normal_as inner (string text)) (string text)) stays, tt {0})
stay_put part whole k text (member l e ms) stays all = stay_put_at part whole (slice_cmp nat_cmp k l) k l text e ms refl stays all (stay_put part whole k text ms stays all.1)

stay_scheme : (part : Part) (d whole : Data) (scheme : Option (List ℕ)) (ms : Members) → new_scheme part d ≡ scheme → AllStay part whole ms → AllStay part whole (with_scheme scheme ms)
stay_scheme part d whole None ms is all = all
stay_scheme part d whole (Some text) ms is all = stay_put part whole (codes "scheme") text ms (scheme_stays part d whole text is) all

-- ---- items

type_twice : (type : Option ElementType) (d : Data) → type_of (normal_as (Element type) d) ≡ type_of d
unfolding type_of
type_twice type d = ap (option_and_then (λ e. found (type_in e root))) (get-same (Element type) d (codes "type") (element-plain type d) (type_stays type d))

abbrev IsTyped : Data → Type 0
IsTyped d = get (codes "type") (innermost (normal_as KeyPublic d)) ≡ get (codes "type") (innermost d)

typed_by : (d : Data) (o : Option Data) → get wrapper d ≡ o → ((e : Data) → get wrapper d ≡ Some e → IsTyped e) → IsTyped d
typed_by d None is later =
    let none : get wrapper (normal_as KeyPublic d) ≡ None = key_inner_by d (get wrapper d) refl ∙ ap (option_map (normal_as KeyPublic)) is in
    ap (get (codes "type")) (innermost-none (normal_as KeyPublic d) none)
    ∙ other-same KeyPublic d (codes "type") (λ same. cc) (key_rule d (codes "type") false (ap is_some is))
    ∙ ap (get (codes "type")) (sym (innermost-none d is))
typed_by d (Some e) is later =
    let some : get wrapper (normal_as KeyPublic d) ≡ Some (normal_as KeyPublic e) = key_inner_by d (get wrapper d) refl ∙ ap (option_map (normal_as KeyPublic)) is in
    ap (get (codes "type")) (innermost-some (normal_as KeyPublic d) (normal_as KeyPublic e) some) ∙ later e is ∙ ap (get (codes "type")) (sym (innermost-some d e is))

typed_within : (n : ℕ) (d : Data) → depth d ≤ n → IsTyped d
typed_within zero d deep = typed_by d (get wrapper d) refl (λ e is. let deeper = depth-get wrapper d e is in absurd (omega arith))
typed_within (suc n) d deep = typed_by d (get wrapper d) refl (λ e is. let deeper = depth-get wrapper d e is in typed_within n e (omega arith))

asymmetric_key : (o : Option Data) → is_asymmetric_key (option_map (normal_as KeyPublic) o) ≡ is_asymmetric_key o
asymmetric_key None = refl
asymmetric_key (Some d) =
    ap (λ o. is_word (codes "RSA") (option_and_then as_str o) || is_word (codes "ECC") (option_and_then as_str o)) (typed_within (depth d) d (omega arith))

approval_same : (d : Data) (name : List ℕ) → member_rule Approval d name ≡ Same → get name (normal_as Approval d) ≡ get name d
unfolding new_scheme
approval_same d name = get-same Approval d name refl

approval_key : (d : Data) (name : List ℕ) → member_rule Approval d name ≡ Inner KeyPublic → get name (normal_as Approval d) ≡ option_map (normal_as KeyPublic) (get name d)
unfolding new_scheme
approval_key d name = get-inner Approval d name refl KeyPublic

chosen : (test : Bool) (f : Data → Data) (a b : Option Data) → (if test then option_map f a else option_map f b) ≡ option_map f (if test then a else b)
chosen true f a b = refl
chosen false f a b = refl

approving : (d : Data) → approving_key (normal_as Approval d) ≡ option_map (normal_as KeyPublic) (approving_key d)
unfolding member_rule
approving d =
    let public = approval_key d (codes "keyPublic") refl in
    ap (λ o. if is_some o then o else get (codes "key") (normal_as Approval d)) public
    ∙ ap (λ b. if b then option_map (normal_as KeyPublic) (get (codes "keyPublic") d) else get (codes "key") (normal_as Approval d)) (is_some-map (normal_as KeyPublic) (get (codes "keyPublic") d))
    ∙ ap (λ o. if has (codes "keyPublic") d then option_map (normal_as KeyPublic) (get (codes "keyPublic") d) else o) (approval_key d (codes "key") refl)
    ∙ chosen (has (codes "keyPublic") d) (normal_as KeyPublic) (get (codes "keyPublic") d) (get (codes "key") d)

asymmetric_twice : (d : Data) → is_asymmetric (normal_as Approval d) ≡ is_asymmetric d
unfolding is_asymmetric member_rule
asymmetric_twice d =
    let whole = normal_as Approval d in
    ap (λ o. is_word (codes "pem") (option_and_then as_str o) || ((has (codes "keyPEM") whole && not (is_index_type (option_and_then as_str o))) || (is_asymmetric_key (approving_key whole) && is_word (codes "tpm") (option_and_then as_str o)))) (approval_same d (codes "type") refl)
    ∙ ap (λ o. says (codes "type") (codes "pem") d || ((is_some o && not (is_by_index d)) || (is_asymmetric_key (approving_key whole) && says (codes "type") (codes "tpm") d))) (approval_same d (codes "keyPEM") refl)
    ∙ ap (λ b. says (codes "type") (codes "pem") d || ((has (codes "keyPEM") d && not (is_by_index d)) || (b && says (codes "type") (codes "tpm") d))) (ap is_asymmetric_key (approving d) ∙ asymmetric_key (approving_key d))

ItemStays : Part → Option Data → Type 0
ItemStays part None = Unit {0}
ItemStays part (Some e) = by_rule (item_rule part e) (λ inner. normal_as inner e) e ≡ Some e

approval_stays : (test : Bool) (d : Data) → is_asymmetric d ≡ test → normal_as Approval (normal_as Approval d) ≡ normal_as Approval d → ItemStays Approvals (by_rule (if test then LeftOut else Inner Approval) (λ inner. normal_as inner d) d)
unfolding ItemStays item_rule
approval_stays true d is twice = tt {0}
approval_stays false d is twice =
    ap (λ b. by_rule (if b then LeftOut else Inner Approval) (λ inner. normal_as inner (normal_as Approval d)) (normal_as Approval d)) (asymmetric_twice d ∙ is) ∙ ap Some twice

item_stays : (part : Part) (d : Data) → ((inner : Part) → normal_as inner (normal_as inner d) ≡ normal_as inner d) → ItemStays part (by_rule (item_rule part d) (λ inner. normal_as inner d) d)
unfolding ItemStays item_rule
item_stays Elements d twice =
    ap (λ t. Some (normal_as (Element t) (normal_as (Element (type_of d)) d))) (type_twice (type_of d) d) ∙ ap Some (twice (Element (type_of d)))
item_stays Branches d twice = ap Some (twice Branch)
item_stays Approvals d twice = approval_stays (is_asymmetric d) d refl (twice Approval)
item_stays Document d twice = refl
item_stays (Element type) d twice = refl
item_stays Branch d twice = refl
item_stays IndexPublic d twice = refl
item_stays KeyPublic d twice = refl
item_stays Approval d twice = refl

items_before : (part : Part) (kept : Option Data) (ds : Items) → ItemStays part kept → normal_items part ds ≡ ds → normal_items part (item_before kept ds) ≡ item_before kept ds
unfolding ItemStays normal_items
items_before part None ds one rest = rest
items_before part (Some e) ds one rest = ap (λ kept. item_before kept (normal_items part ds)) one ∙ ap (item e) rest

-- ---- the whole

again : (part : Part) (ms : Members) → AllStay part (normal_as part (object ms)) (normal_members part (object ms) ms) → normal_as part (normal_as part (object ms)) ≡ normal_as part (object ms)
unfolding normal_as
again part ms all =
    let whole = object (with_scheme (new_scheme part (object ms)) (normal_members part (object ms) ms)) in
    let inside = with_scheme (new_scheme part (object ms)) (normal_members part (object ms) ms) in
    ap (λ scheme. object (with_scheme scheme (normal_members part whole inside))) (scheme_again part (object ms))
    ∙ ap object (all_stay part whole inside (stay_scheme part (object ms) whole (new_scheme part (object ms)) (normal_members part (object ms) ms) refl all))

mutual
  unfolding normal_as normal_items normal_members AllStay

  twice : (d : Data) (part : Part) → normal_as part (normal_as part d) ≡ normal_as part d
  twice null part = refl
  twice (boolean b) part = refl
  twice (number n) part = refl
  twice (string s) part = refl
  twice (array ds) part = ap array (items_twice ds part)
  twice (object ms) part = again part ms (members_stay ms part (object ms))

  items_twice : (ds : Items) (part : Part) → normal_items part (normal_items part ds) ≡ normal_items part ds
  items_twice no_items part = refl
  items_twice (item d ds) part = items_before part _ (normal_items part ds) (item_stays part d (twice d)) (items_twice ds part)

  members_stay : (ms : Members) (part : Part) (whole : Data) → AllStay part (normal_as part whole) (normal_members part whole ms)
  members_stay no_members part whole = tt {0}
  members_stay (member name d ms) part whole =
      stay_before part (normal_as part whole) name _ (normal_members part whole ms)
      (stays_by (member_rule part whole name) (member_rule part (normal_as part whole) name) d (member_stable part whole name) (twice d))
      (members_stay ms part whole)

pub idempotent : IsIdempotent
idempotent d = twice d Document
