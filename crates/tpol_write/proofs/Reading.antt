-- What is written for objects and lists reads back: an object's members stand in the order in which they are read.
use Rattle.std.proofs.Common.{◌≡◌, ℕ, ◌+◌, ◌<◌, ◌≤◌, List, [], ◌∷◌, ◌++◌, map, take, length, get_or, Some, Ordering, Less, Equal, Greater, refl, sym, ap, ◌∙◌, subst, append_assoc, append-nil}
use Rattle.std.proofs.lemmas.List.{take_all, take_more}
use Rattle.std.specs.Option.{option_map, option_and_then}
use Rattle.std.specs.Ordering.{nat_cmp, match_ordering}
use Rattle.std.specs.Cmp.Lexicographic.{slice_cmp}
use Rattle.json.specs.Token.{Token, begin_array, end_array}
use Rattle.json.specs.Tree.{items_tokens}
use Rattle.serde_json.specs.Data.{Data, array, object, Members, no_members, member, put}
use Rattle.serde_json.specs.Read.{of_items, of_members}
use Rattle.serde_json.specs.View.{items_of}
use Rattle.serde_json.specs.Written.{items_outline, members_outline}
use Rattle.tpol_write.specs.Drafts.{Adds, AllMembersRead, AllRead, Reads, tokens_of, values_tokens}
use Rattle.tpol_write.specs.Objects.{Entry, list_of, object_of, with_members}
use Rattle.tpol_write.proofs.Steps.{spelled, step}

-- ---- lists

items_read : (ds : List Data) → AllRead ds → of_items (items_outline (items_of ds)) ≡ Some (items_of ds)
items_read [] each = refl
items_read (d ∷ ds) each = rw (each.0, items_read ds each.1) refl

pub list_reads : (ds : List Data) → AllRead ds → Reads (list_of ds)
list_reads ds each = ap (option_map array) (items_read ds each)

items_written : (ds : List Data) → items_tokens (items_outline (items_of ds)) ≡ values_tokens ds ++ end_array ∷ []
items_written [] = refl
items_written (d ∷ ds) = ap (λ ts. tokens_of d ++ ts) (items_written ds) ∙ sym (append_assoc (tokens_of d) (values_tokens ds) (end_array ∷ []))

pub list_tokens : (ds : List Data) → tokens_of (list_of ds) ≡ begin_array ∷ (values_tokens ds ++ end_array ∷ [])
list_tokens ds = ap (λ ts. begin_array ∷ ts) (items_written ds)

-- ---- objects

abbrev MembersRead : Members → Type 0
MembersRead no_members = Unit {0}
MembersRead (member k d ms) = Reads d × MembersRead ms

put_by : (o : Ordering) (k l : List ℕ) (d e : Data) (ms : Members) → Reads d → Reads e → MembersRead ms → MembersRead (put k d ms)
    → MembersRead (match_ordering o (member k d (member l e ms)) (member l d ms) (member l e (put k d ms)))
put_by Less k l d e ms rd re rms later = (rd, (re, rms))
put_by Equal k l d e ms rd re rms later = (rd, rms)
put_by Greater k l d e ms rd re rms later = (re, later)

put_reads : (k : List ℕ) (d : Data) (ms : Members) → Reads d → MembersRead ms → MembersRead (put k d ms)
put_reads k d no_members rd rms = (rd, tt)
put_reads k d (member l e ms) rd rms = put_by (slice_cmp nat_cmp k l) k l d e ms rd rms.0 rms.1 (put_reads k d ms rd rms.1)

with_members_read : (entries : List Entry) (found : Members) → AllMembersRead entries → MembersRead found → MembersRead (with_members entries found)
with_members_read [] found each rfound = rfound
with_members_read (entry ∷ entries) found each rfound = with_members_read entries (put entry.0 entry.1 found) each.1 (put_reads entry.0 entry.1 found each.0 rfound)

-- the members put in one after another
abbrev pub again : Members → Members → Members
again no_members found = found
again (member k d ms) found = again ms (put k d found)

members_read : (ms found : Members) → MembersRead ms → of_members (members_outline ms) found ≡ Some (again ms found)
members_read no_members found each = refl
members_read (member k d ms) found each = ap (option_and_then (λ e. of_members (members_outline ms) (put k e found))) each.0 ∙ members_read ms (put k d found) each.1

pub object_reads : (entries : List Entry) → AllMembersRead entries → again (with_members entries no_members) no_members ≡ with_members entries no_members → Reads (object_of entries)
object_reads entries each same =
    let ms = with_members entries no_members in
    ap (option_map object) (members_read ms no_members (with_members_read entries no_members each tt) ∙ ap Some same)

-- ---- lists that are written one after another

values_more : {A : Type 0} (value : A → Data) (ys : List A) (y : A) → values_tokens (map value (ys ++ y ∷ [])) ≡ values_tokens (map value ys) ++ tokens_of (value y)
values_more value [] y = append-nil (tokens_of (value y))
values_more value (x ∷ ys) y =
    ap (λ ts. tokens_of (value x) ++ ts) (values_more value ys y) ∙ sym (append_assoc (tokens_of (value x)) (values_tokens (map value ys)) (tokens_of (value y)))

all_more : {A : Type 0} (value : A → Data) (ys : List A) (y : A) → AllRead (map value ys) → Reads (value y) → AllRead (map value (ys ++ y ∷ []))
all_more value [] y each last = (last, tt)
all_more value (x ∷ ys) y each last = (each.0, all_more value ys y each.1 last)

-- one more item of a list
pub one_more : {A : Type 0} {old middle new : List Token} (value : A → Data) (xs : List A) (i : ℕ) (d x : A) → x ≡ get_or xs i d → i < length xs
    → Adds old middle (begin_array ∷ values_tokens (map value (take i xs))) → Adds middle new (tokens_of (value x)) → Adds old new (begin_array ∷ values_tokens (map value (take (i + 1) xs)))
one_more {A} value xs i d x is within before after =
    let grown = take_more xs i d within ∙ ap (λ y. take i xs ++ y ∷ []) (sym is) in
    spelled (ap (λ ts. begin_array ∷ ts) (sym (ap (λ (ys : List A). values_tokens (map value ys)) grown ∙ values_more value (take i xs) x))) (step before after)

pub one_more_reads : {A : Type 0} (value : A → Data) (xs : List A) (i : ℕ) (d x : A) → x ≡ get_or xs i d → i < length xs
    → AllRead (map value (take i xs)) → Reads (value x) → AllRead (map value (take (i + 1) xs))
one_more_reads {A} value xs i d x is within before after =
    let grown = take_more xs i d within ∙ ap (λ y. take i xs ++ y ∷ []) (sym is) in
    subst (λ (ys : List A). AllRead (map value ys)) (sym grown) (all_more value (take i xs) x before after)

-- the list is whole
pub ended : {A : Type 0} {old middle new : List Token} (value : A → Data) (xs : List A) (i : ℕ) → length xs ≤ i
    → Adds old middle (begin_array ∷ values_tokens (map value (take i xs))) → Adds middle new (end_array ∷ []) → Adds old new (tokens_of (list_of (map value xs)))
ended {A} value xs i over before after =
    spelled (ap (λ (ys : List A). begin_array ∷ (values_tokens (map value ys) ++ end_array ∷ [])) (take_all i xs over) ∙ sym (list_tokens (map value xs))) (step before after)

pub ended_reads : {A : Type 0} (value : A → Data) (xs : List A) (i : ℕ) → length xs ≤ i → AllRead (map value (take i xs)) → Reads (list_of (map value xs))
ended_reads {A} value xs i over each = list_reads (map value xs) (subst (λ (ys : List A). AllRead (map value ys)) (take_all i xs over) each)
