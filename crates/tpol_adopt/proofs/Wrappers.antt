-- What a wrapper of a public area stands for is found by a look-up of its member.
use Rattle.std.proofs.Common.{◌≡◌, ℕ, List, Option, Some, None, codes, refl, ap}
use Rattle.std.specs.Ordering.{nat_cmp, match_ordering}
use Rattle.std.specs.declared.cmp.Ordering.{Ordering}
use Rattle.std.specs.declared.cmp.Ordering.TheVariants.{Less, Equal, Greater}
use Rattle.std.specs.Cmp.Lexicographic.{slice_cmp}
use Rattle.serde_json.specs.Data.{Data, null, boolean, number, string, array, object, Members, no_members, member}
use Rattle.serde_json.specs.Find.{get, get_member}
use Rattle.tpol_adopt.specs.Dropped.{innermost, innermost_member}

some_by_order : (order : Ordering) (x : Data) (o : Option Data) (d e : Data) → (o ≡ Some e → x ≡ innermost e) → match_ordering order o (Some d) o ≡ Some e → match_ordering order x (innermost d) x ≡ innermost e
some_by_order Less x o d e same h = same h
some_by_order Equal x o d e same h = let k : d ≡ e = cc in ap innermost k
some_by_order Greater x o d e same h = same h

none_by_order : (order : Ordering) (x w y : Data) (o : Option Data) (d : Data) → (o ≡ None → x ≡ w) → match_ordering order o (Some d) o ≡ None → match_ordering order x y x ≡ w
none_by_order Less x w y o d same h = same h
none_by_order Equal x w y o d same h = cc
none_by_order Greater x w y o d same h = same h

abbrev wrapper : List ℕ
wrapper = codes "publicArea"

innermost_member-some : (whole : Data) (ms : Members) (e : Data) → get_member wrapper ms ≡ Some e → innermost_member whole ms ≡ innermost e
unfolding innermost_member
innermost_member-some whole no_members e h = cc
innermost_member-some whole (member name d ms) e h =
    some_by_order (slice_cmp nat_cmp wrapper name) (innermost_member whole ms) (get_member wrapper ms) d e (innermost_member-some whole ms e) h

innermost_member-none : (whole : Data) (ms : Members) → get_member wrapper ms ≡ None → innermost_member whole ms ≡ whole
unfolding innermost_member
innermost_member-none whole no_members h = refl
innermost_member-none whole (member name d ms) h =
    none_by_order (slice_cmp nat_cmp wrapper name) (innermost_member whole ms) whole _ (get_member wrapper ms) d (innermost_member-none whole ms) h

pub innermost-some : (d e : Data) → get wrapper d ≡ Some e → innermost d ≡ innermost e
unfolding innermost
innermost-some null e h = cc
innermost-some (boolean b) e h = cc
innermost-some (number n) e h = cc
innermost-some (string s) e h = cc
innermost-some (array ds) e h = cc
innermost-some (object ms) e h = innermost_member-some (object ms) ms e h

pub innermost-none : (d : Data) → get wrapper d ≡ None → innermost d ≡ d
unfolding innermost
innermost-none null h = refl
innermost-none (boolean b) h = refl
innermost-none (number n) h = refl
innermost-none (string s) h = refl
innermost-none (array ds) h = refl
innermost-none (object ms) h = innermost_member-none (object ms) ms h
