-- What a document becomes nests no deeper than the document.
use Rattle.std.proofs.Common.{◌≡◌, ℕ, ◌≤◌, max, List, codes, Option, Some, None, Result, Ok, Err, sym, subst, arith}
use Rattle.std.specs.Prelude.{IfOk}
use Rattle.std.specs.Ordering.{nat_cmp, match_ordering}
use Rattle.std.specs.declared.cmp.Ordering.{Ordering}
use Rattle.std.specs.declared.cmp.Ordering.TheVariants.{Less, Equal, Greater}
use Rattle.std.specs.Cmp.Lexicographic.{slice_cmp}
use Rattle.serde_json.specs.Data.{Data, null, boolean, number, string, array, object, Items, no_items, item, Members, no_members, member, put, depth, items_depth, members_depth}
use Rattle.serde_json.specs.View.{view}
use Rattle.serde_json.specs.declared.value.Value.{Value}
use Rattle.tpol_base.specs.declared.no_memory.NoMemory.{NoMemory}
use Rattle.tpol_adopt.specs.Edits.{edited, number_or, text_or}
use Rattle.tpol_adopt.specs.Normal.{by_rule, item_before, member_before, normal_as, normal_items, normal_members, with_scheme}
use Rattle.tpol_adopt.specs.Rules.{item_rule, member_rule, new_scheme}
use Rattle.tpol_adopt.specs.declared.edits.Edit.{Edit}
use Rattle.tpol_adopt.specs.declared.edits.Edit.TheVariants.{Number, Code, Signature}
use Rattle.tpol_adopt.specs.declared.rules.Part.{Part}
use Rattle.tpol_adopt.specs.declared.rules.Part.TheVariants.{Document}
use Rattle.tpol_adopt.specs.declared.rules.Rule.{Rule}
use Rattle.tpol_adopt.specs.declared.rules.Rule.TheVariants.{Same, LeftOut, Inner, Edited}

number_or-depth : (o : Option ℕ) (d : Data) → depth (number_or o d) ≤ depth d
number_or-depth None d = omega arith
number_or-depth (Some n) d = omega arith

text_or-depth : (o : Option (List ℕ)) (d : Data) → depth (text_or o d) ≤ depth d
text_or-depth None d = omega arith
text_or-depth (Some s) d = omega arith

edited-depth : (edit : Edit) (d : Data) → depth (edited edit d) ≤ depth d
edited-depth (Number flags) d = number_or-depth _ d
edited-depth Code d = number_or-depth _ d
edited-depth Signature d = text_or-depth _ d

-- a rule keeps nothing that is deeper
IsNoDeeper : Option Data → ℕ → Type 0
IsNoDeeper None n = Unit {0}
IsNoDeeper (Some d) n = depth d ≤ n

by_rule-depth : (rule : Rule) (d : Data) → ((part : Part) → depth (normal_as part d) ≤ depth d) → IsNoDeeper (by_rule rule (λ inner. normal_as inner d) d) (depth d)
unfolding IsNoDeeper
by_rule-depth Same d inner = omega arith
by_rule-depth LeftOut d inner = tt {0}
by_rule-depth (Inner part) d inner = inner part
by_rule-depth (Edited edit) d inner = edited-depth edit d

item_before-depth : (kept : Option Data) (m n : ℕ) (ds : Items) → IsNoDeeper kept m → items_depth ds ≤ n → items_depth (item_before kept ds) ≤ max m n
unfolding IsNoDeeper
item_before-depth None m n ds one rest = omega arith
item_before-depth (Some d) m n ds one rest = omega arith

member_before-depth : (name : List ℕ) (kept : Option Data) (m n : ℕ) (ms : Members) → IsNoDeeper kept m → members_depth ms ≤ n → members_depth (member_before name kept ms) ≤ max m n
unfolding IsNoDeeper
member_before-depth name None m n ms one rest = omega arith
member_before-depth name (Some d) m n ms one rest = omega arith

put_at-depth : (o : Ordering) (k l : List ℕ) (s : List ℕ) (e : Data) (ms : Members) → members_depth (put k (string s) ms) ≤ members_depth ms
    → members_depth (match_ordering o (member k (string s) (member l e ms)) (member l (string s) ms) (member l e (put k (string s) ms))) ≤ max (depth e) (members_depth ms)
put_at-depth Less k l s e ms rest = omega arith
put_at-depth Equal k l s e ms rest = omega arith
put_at-depth Greater k l s e ms rest = omega arith

put-depth : (k s : List ℕ) (ms : Members) → members_depth (put k (string s) ms) ≤ members_depth ms
put-depth k s no_members = omega arith
put-depth k s (member l e ms) = put_at-depth (slice_cmp nat_cmp k l) k l s e ms (put-depth k s ms)

with_scheme-depth : (scheme : Option (List ℕ)) (ms : Members) → members_depth (with_scheme scheme ms) ≤ members_depth ms
with_scheme-depth None ms = omega arith
with_scheme-depth (Some s) ms = put-depth (codes "scheme") s ms

mutual
  unfolding normal_as normal_items normal_members

  pub normal_as-depth : (part : Part) (d : Data) → depth (normal_as part d) ≤ depth d
  normal_as-depth part null = omega arith
  normal_as-depth part (boolean b) = omega arith
  normal_as-depth part (number n) = omega arith
  normal_as-depth part (string s) = omega arith
  normal_as-depth part (array ds) = let h = normal_items-depth part ds in omega arith
  normal_as-depth part (object ms) =
      let h = normal_members-depth part (object ms) ms in
      let k = with_scheme-depth (new_scheme part (object ms)) (normal_members part (object ms) ms) in omega arith

  normal_items-depth : (part : Part) (ds : Items) → items_depth (normal_items part ds) ≤ items_depth ds
  normal_items-depth part no_items = omega arith
  normal_items-depth part (item d ds) =
      item_before-depth _ (depth d) (items_depth ds) _ (by_rule-depth (item_rule part d) d (λ inner. normal_as-depth inner d)) (normal_items-depth part ds)

  normal_members-depth : (part : Part) (whole : Data) (ms : Members) → members_depth (normal_members part whole ms) ≤ members_depth ms
  normal_members-depth part whole no_members = omega arith
  normal_members-depth part whole (member name d ms) =
      member_before-depth name _ (depth d) (members_depth ms) _ (by_rule-depth (member_rule part whole name) d (λ inner. normal_as-depth inner d)) (normal_members-depth part whole ms)

-- of what a call gives
pub nests : (r : Result Value NoMemory) (d : Data) → IfOk r (λ v. view v ≡ normal_as Document d) → IfOk r (λ v. depth (view v) ≤ depth d)
nests (Ok v) d is = subst (λ e. depth e ≤ depth d) (sym is) (normal_as-depth Document d)
nests (Err fault) d is = is
