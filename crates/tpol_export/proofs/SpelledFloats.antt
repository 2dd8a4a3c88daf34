-- No rule makes a float, so the text of a policy in FAPI's spelling is known.
use Rattle.std.proofs.Common.{◌≡◌, ℕ, Bool, true, false, List, [], ◌∷◌, ◌++◌, ◌||◌, Option, Some, None, option_and_then, Ordering, Less, Equal, Greater, codes, refl, subst, bit_and, nat_le, ◌-◌, ◌^◌, if◌then◌else◌}
use Rattle.std.specs.Ordering.{nat_cmp, match_ordering}
use Rattle.std.specs.Cmp.Lexicographic.{slice_cmp}
use Rattle.serde_json.specs.Data.{Data, null, boolean, number, string, array, object, Items, no_items, item, Members, no_members, member, put}
use Rattle.serde_json.specs.Find.{as_str, get, get_member}
use Rattle.serde_json.specs.Written.{has_float, items_have_float, members_have_float}
use Rattle.tpol_adopt.specs.Flags.{bits_from, count_in, index_flags, index_types, locality_flags, object_flags}
use Rattle.tpol_adopt.specs.Words.{is_word, says}
use Rattle.tpol_adopt.specs.declared.flags.Flags.{Flags}
use Rattle.tpol_adopt.specs.declared.flags.Flags.TheVariants.{OfIndex, OfObject, OfLocality}
use Rattle.tpol_write.proofs.Floats.{NoFloats, no_float_or, object_none, put_none, with_members_none}
use Rattle.tpol_export.specs.Rules.{item_rule, member_rule, more_entries, new_name, index_entries, wrapper_of}
use Rattle.tpol_export.specs.Spelling.{by_rule, spelled_as, spelled_items, spelled_members}
use Rattle.tpol_export.specs.Values.{edited, flag_entries, flagged_number, handle_or, hierarchy_in, is_number, number_entries, number_members, object_or, scheme_value, signature_value, truth_text, type_entries, word_for}
use Rattle.tpol_export.specs.declared.rules.Part.{Part}
use Rattle.tpol_export.specs.declared.rules.Part.TheVariants.{Document, Elements, Element, Branches, Branch, IndexPublic, KeyPublic, Approvals, Approval}
use Rattle.tpol_export.specs.declared.rules.Rule.{Rule}
use Rattle.tpol_export.specs.declared.rules.Rule.TheVariants.{Same, Inner, Wrapped, Edited}
use Rattle.tpol_export.specs.declared.values.Edit.{Edit}
use Rattle.tpol_export.specs.declared.values.Edit.TheVariants.{Number, Truth, Scheme, Signature, Hierarchy}
use Rattle.tpol_write.specs.Objects.{Entry, natural, object_of}

abbrev NoFloat : Data → Type 0
NoFloat d = has_float d ≡ false

either_none : (b : Bool) (x y : Data) → NoFloat x → NoFloat y → NoFloat (if b then x else y)
either_none true x y nx ny = nx
either_none false x y nx ny = ny

-- ---- single values

flags_none : (rows : List (List ℕ × ℕ)) (n : ℕ) → NoFloats (flag_entries rows n)
flags_none [] n = tt
flags_none (row ∷ rows) n = (refl, flags_none rows n)

append_none : (xs ys : List Entry) → NoFloats xs → NoFloats ys → NoFloats (xs ++ ys)
append_none [] ys nx ny = ny
append_none (x ∷ xs) ys nx ny = (nx.0, append_none xs ys nx.1 ny)

type_none : (name : Option (List ℕ)) → NoFloats (type_entries name)
type_none None = tt
type_none (Some name) = (refl, tt)

number_none : (flags : Flags) (n : ℕ) → NoFloats (number_entries flags n)
number_none OfIndex n = append_none (type_entries (word_for index_types (bit_and n 0xf0))) (flag_entries index_flags n) (type_none (word_for index_types (bit_and n 0xf0))) (flags_none index_flags n)
number_none OfObject n = flags_none object_flags n
number_none OfLocality n = (refl, flags_none locality_flags n)

members_none : (flags : Flags) (n : ℕ) → NoFloat (object (number_members flags n))
unfolding number_members
members_none flags n = with_members_none (number_entries flags n) no_members (number_none flags n) refl

flagged_none : (flags : Flags) (o : Option ℕ) (d : Data) → NoFloat d → NoFloat (flagged_number flags o d)
flagged_none flags None d none = none
flagged_none flags (Some n) d none =
    either_none (nat_le n (2 ^ 32 - 1)) (object_or flags (number_members flags n) n d) d
    (either_none (is_number n (bits_from flags 0 (number_members flags n))) (object (number_members flags n)) d (members_none flags n) none) none

truth_none : (d : Data) → NoFloat d → NoFloat (truth_text d)
truth_none null none = none
truth_none (boolean b) none = refl
truth_none (number n) none = none
truth_none (string s) none = none
truth_none (array ds) none = none
truth_none (object ms) none = none

scheme_none : (d : Data) → NoFloat d → NoFloat (scheme_value d)
scheme_none d none =
    let hash : Data = object_of ((codes "hashAlg", string (codes "SHA256")) ∷ []) in
    either_none (is_word (codes "HMAC") (as_str d)) (object_of ((codes "details", hash) ∷ (codes "scheme", d) ∷ [])) (object_of ((codes "scheme", d) ∷ []))
    (object_none ((codes "details", hash) ∷ (codes "scheme", d) ∷ []) (refl, (none, tt)))
    (object_none ((codes "scheme", d) ∷ []) (none, tt))

signature_none : (d : Data) → NoFloat d → NoFloat (signature_value d)
signature_none d none =
    let inner : List Entry = (codes "digest", d) ∷ (codes "hashAlg", string (codes "SHA256")) ∷ [] in
    object_none ((codes "sigAlg", string (codes "HMAC")) ∷ (codes "signature", object_of inner) ∷ []) (refl, (object_none inner (none, (refl, tt)), tt))

handle_none : (o : Option ℕ) (d : Data) → NoFloat d → NoFloat (handle_or o d)
handle_none None d none = none
handle_none (Some handle) d none = refl

edited_none : (edit : Edit) (d : Data) → NoFloat d → NoFloat (edited edit d)
unfolding edited
edited_none (Number flags) d none = flagged_none flags (count_in d) d none
edited_none Truth d none = truth_none d none
edited_none Scheme d none = object_none ((codes "scheme", scheme_value d) ∷ []) (scheme_none d none, tt)
edited_none Signature d none = signature_none d none
edited_none Hierarchy d none = handle_none (hierarchy_in d) d none

-- ---- the walk

left_none : (a b : Bool) → (a || b) ≡ false → a ≡ false
left_none false b none = refl
left_none true b none = none

right_none : (a b : Bool) → (a || b) ≡ false → b ≡ false
right_none false b none = none
right_none true b none = cc none

member_none : (name : List ℕ) (ms : Members) (e : Data) → members_have_float ms ≡ false → get_member name ms ≡ Some e → NoFloat e
member_none name no_members e none h = cc
member_none name (member other d ms) e none h =
    by_order (slice_cmp nat_cmp name other) (get_member name ms) d e (left_none (has_float d) (members_have_float ms) none) (member_none name ms e (right_none (has_float d) (members_have_float ms) none)) h
  where
    by_order : (order : Ordering) (o : Option Data) (d e : Data) → NoFloat d → (o ≡ Some e → NoFloat e) → match_ordering order o (Some d) o ≡ Some e → NoFloat e
    by_order Less o d e none later h = later h
    by_order Equal o d e none later h = let k : d ≡ e = cc in subst NoFloat k none
    by_order Greater o d e none later h = later h

get_none : (name : List ℕ) (d e : Data) → NoFloat d → get name d ≡ Some e → NoFloat e
get_none name null e none h = cc
get_none name (boolean b) e none h = cc
get_none name (number n) e none h = cc
get_none name (string s) e none h = cc
get_none name (array ds) e none h = cc
get_none name (object ms) e none h = member_none name ms e none h

index_none : (o : Option Data) → ((e : Data) → o ≡ Some e → NoFloat e) → NoFloats (index_entries o)
index_none None each = tt
index_none (Some d) each = (each d refl, tt)

inner_none : (o : Option Data) (e : Data) → ((d : Data) → o ≡ Some d → NoFloat d) → option_and_then (get (codes "nvIndex")) o ≡ Some e → NoFloat e
inner_none None e each h = cc
inner_none (Some d) e each h = get_none (codes "nvIndex") d e (each d refl) h

entries_either : (b : Bool) (xs : List Entry) → NoFloats xs → NoFloats (if b then xs else [])
entries_either true xs none = none
entries_either false xs none = tt

more_none : (part : Part) (d : Data) → NoFloat d → NoFloats (more_entries part d)
unfolding more_entries
more_none Element d none =
    let o : Option Data = option_and_then (get (codes "nvIndex")) (get (codes "nvPublic") d) in
    entries_either (says (codes "type") (codes "POLICYNV") d) (index_entries o)
    (index_none o (λ e h. inner_none (get (codes "nvPublic") d) e (λ found is. get_none (codes "nvPublic") d found none is) h))
more_none Document d none = tt
more_none Elements d none = tt
more_none Branches d none = tt
more_none Branch d none = tt
more_none IndexPublic d none = tt
more_none KeyPublic d none = tt
more_none Approvals d none = tt
more_none Approval d none = tt

ruled_none : (rule : Rule) (d : Data) (within : Part → Data) → ((part : Part) → NoFloat (within part)) → NoFloat d → NoFloat (by_rule rule within d)
ruled_none Same d within inner none = none
ruled_none (Inner part) d within inner none = inner part
ruled_none (Wrapped part) d within inner none = object_none ((wrapper_of part, within part) ∷ (codes "size", natural 0) ∷ []) (inner part, (refl, tt))
ruled_none (Edited edit) d within inner none = edited_none edit d none

mutual
  unfolding spelled_as spelled_items spelled_members

  spelled_none : (part : Part) (d : Data) → NoFloat d → NoFloat (spelled_as part d)
  spelled_none part null none = none
  spelled_none part (boolean b) none = none
  spelled_none part (number n) none = none
  spelled_none part (string s) none = none
  spelled_none part (array ds) none = items_none part ds none
  spelled_none part (object ms) none =
      with_members_none (more_entries part (object ms)) (spelled_members part (object ms) ms no_members) (more_none part (object ms) none) (walk_none part (object ms) ms no_members none refl)

  items_none : (part : Part) (ds : Items) → items_have_float ds ≡ false → items_have_float (spelled_items part ds) ≡ false
  items_none part no_items none = refl
  items_none part (item d ds) none =
      let first = left_none (has_float d) (items_have_float ds) none in
      no_float_or _ _ (ruled_none (item_rule part) d (λ inner. spelled_as inner d) (λ inner. spelled_none inner d first) first)
      (items_none part ds (right_none (has_float d) (items_have_float ds) none))

  walk_none : (part : Part) (whole : Data) (ms before : Members) → members_have_float ms ≡ false → members_have_float before ≡ false → members_have_float (spelled_members part whole ms before) ≡ false
  walk_none part whole no_members before none nbefore = nbefore
  walk_none part whole (member name d ms) before none nbefore =
      let first = left_none (has_float d) (members_have_float ms) none in
      let kept : Data = by_rule (member_rule part name) (λ inner. spelled_as inner d) d in
      walk_none part whole ms (put (new_name part whole name) kept before) (right_none (has_float d) (members_have_float ms) none)
      (put_none (new_name part whole name) kept before (ruled_none (member_rule part name) d (λ inner. spelled_as inner d) (λ inner. spelled_none inner d first) first) nbefore)

pub spelling_none : (part : Part) (d : Data) → NoFloat d → NoFloat (spelled_as part d)
spelling_none part d none = spelled_none part d none
