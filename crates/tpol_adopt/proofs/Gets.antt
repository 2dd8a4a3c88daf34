-- What a member of an object becomes.
use Rattle.std.proofs.Common.{◌≡◌, ℕ, List, Option, Some, None, option_and_then, false, bytes_eq, codes, true≢false, refl, sym, ap, subst, ◌∙◌}
use Rattle.std.proofs.lemmas.Cmp.{nat_list_cmp_total, tied_itself}
use Rattle.std.proofs.lemmas.Map.Text.{is_eq-slice_cmp}
use Rattle.std.proofs.lemmas.Slice.Eq.{bytes_eq-Decides}
use Rattle.std.specs.Cmp.Lexicographic.{slice_cmp}
use Rattle.std.specs.Ordering.{is_eq, match_ordering, nat_cmp}
use Rattle.std.specs.declared.cmp.Ordering.{Ordering}
use Rattle.std.specs.declared.cmp.Ordering.TheVariants.{Less, Equal, Greater}
use Rattle.serde_json.specs.Data.{Data, null, boolean, number, string, array, object, Members, no_members, member}
use Rattle.serde_json.specs.Find.{get, get_member}
use Rattle.serde_json.proofs.Views.{get_member-put_other}
use Rattle.tpol_adopt.specs.Normal.{by_rule, member_before, normal_as, normal_members, with_scheme}
use Rattle.tpol_adopt.specs.Rules.{member_rule, new_scheme}
use Rattle.tpol_adopt.specs.declared.rules.Part.{Part}
use Rattle.tpol_adopt.specs.declared.rules.Rule.{Rule}
use Rattle.tpol_adopt.specs.declared.rules.Rule.TheVariants.{Same, LeftOut, Inner, Edited}
use Rattle.tpol_adopt.proofs.Walks.{kept_member}

-- a name that a test finds to be another
pub other_name : (name other : List ℕ) → bytes_eq name other ≡ false → name ≡ other → ⊥
other_name name other apart is = true≢false (sym ((bytes_eq-Decides name other).1 is) ∙ apart)

-- a name that compares as equal is the same
pub same_name : (k l : List ℕ) → slice_cmp nat_cmp k l ≡ Equal → k ≡ l
same_name k l is = (bytes_eq-Decides k l).0 (sym (is_eq-slice_cmp k l) ∙ ap is_eq is)

same_text : (xs : List ℕ) → slice_cmp nat_cmp xs xs ≡ Equal
same_text xs = tied_itself nat_list_cmp_total xs

none_of : (o : Option Data) → option_and_then (λ e. by_rule LeftOut (λ inner. normal_as inner e) e) o ≡ None
none_of None = refl
none_of (Some e) = refl

-- a member that another name is before or behind
passed : (order : Ordering) (name other : List ℕ) (kept : Option Data) (ms : Members) → slice_cmp nat_cmp name other ≡ order → is_eq order ≡ false → get_member name (member_before other kept ms) ≡ get_member name ms
passed order name other None ms is apart = refl
passed Less name other (Some d) ms is apart = rw is refl
passed Equal name other (Some d) ms is apart = absurd (true≢false apart)
passed Greater name other (Some d) ms is apart = rw is refl

-- a rule keeps each value or none
here : (name : List ℕ) (rule : Rule) (d : Data) (ms : Members) (found : Option Data) → get_member name ms ≡ option_and_then (λ e. by_rule rule (λ inner. normal_as inner e) e) found
    → get_member name (member_before name (by_rule rule (λ inner. normal_as inner d) d) ms) ≡ by_rule rule (λ inner. normal_as inner d) d
here name Same d ms found is = rw (same_text name) refl
here name LeftOut d ms found is = is ∙ none_of found
here name (Inner part) d ms found is = rw (same_text name) refl
here name (Edited edit) d ms found is = rw (same_text name) refl

module _ (part : Part) (whole : Data) (name : List ℕ) where
  get_here : (order : Ordering) (other : List ℕ) (d : Data) (ms : Members) (found : Option Data) → slice_cmp nat_cmp name other ≡ order → get_member name ms ≡ option_and_then (kept_member part whole name) found
      → get_member name (member_before other (kept_member part whole other d) ms) ≡ option_and_then (kept_member part whole name) (match_ordering order found (Some d) found)
  get_here Less other d ms found is later = passed Less name other (kept_member part whole other d) ms is refl ∙ later
  get_here Equal other d ms found is later =
      subst (λ n. get_member name (member_before n (kept_member part whole n d) ms) ≡ kept_member part whole name d) (same_name name other is)
      (here name (member_rule part whole name) d ms found later)
  get_here Greater other d ms found is later = passed Greater name other (kept_member part whole other d) ms is refl ∙ later

  pub get-normal_members : (ms : Members) → get_member name (normal_members part whole ms) ≡ option_and_then (kept_member part whole name) (get_member name ms)
  unfolding normal_members
  get-normal_members no_members = refl
  get-normal_members (member other d ms) = get_here (slice_cmp nat_cmp name other) other d _ (get_member name ms) refl (get-normal_members ms)

-- a member of what an object becomes; `scheme` may be a new one
with_scheme-other : (name : List ℕ) (scheme : Option (List ℕ)) (ms : Members) → (name ≡ codes "scheme" → ⊥) → get_member name (with_scheme scheme ms) ≡ get_member name ms
with_scheme-other name None ms other = refl
with_scheme-other name (Some scheme) ms other = get_member-put_other name (codes "scheme") (string scheme) ms other

pub get-normal : (part : Part) (d : Data) (name : List ℕ) → (name ≡ codes "scheme" → ⊥) → get name (normal_as part d) ≡ option_and_then (kept_member part d name) (get name d)
unfolding normal_as
get-normal part null name other = refl
get-normal part (boolean b) name other = refl
get-normal part (number n) name other = refl
get-normal part (string s) name other = refl
get-normal part (array ds) name other = refl
get-normal part (object ms) name other =
    with_scheme-other name (new_scheme part (object ms)) _ other ∙ get-normal_members part (object ms) name ms

-- any member, where there is no new one
pub get-normal-plain : (part : Part) (d : Data) (name : List ℕ) → new_scheme part d ≡ None → get name (normal_as part d) ≡ option_and_then (kept_member part d name) (get name d)
unfolding normal_as
get-normal-plain part null name plain = refl
get-normal-plain part (boolean b) name plain = refl
get-normal-plain part (number n) name plain = refl
get-normal-plain part (string s) name plain = refl
get-normal-plain part (array ds) name plain = refl
get-normal-plain part (object ms) name plain =
    ap (λ scheme. get_member name (with_scheme scheme (normal_members part (object ms) ms))) plain ∙ get-normal_members part (object ms) name ms
