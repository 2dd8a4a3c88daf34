-- Public areas say the same in their new spelling.
use Rattle.std.proofs.Common.{◌≡◌, ℕ, zero, suc, ◌≤◌, List, [], ◌∷◌, Option, Some, None, option_and_then, option_map, is_some, codes, Bool, true, false, refl, sym, ap, ◌∙◌, subst, if◌then◌else◌, arith}
use Rattle.serde_json.specs.Data.{Data, null, boolean, number, string, array, object, depth}
use Rattle.serde_json.specs.Find.{get}
use Rattle.tpol_json.specs.Members.{unknown}
use Rattle.tpol_json.specs.Places.{at_member}
use Rattle.tpol_json.specs.declared.place.Place.{Place}
use Rattle.tpol_members.specs.Members.{object_in}
use Rattle.tpol_members.specs.Walks.{Reading}
use Rattle.tpol_members.specs.declared.walk.Walk.{Walk}
use Rattle.tpol_members.specs.Values.{u32_in}
use Rattle.tpol_elements.specs.Publics.{through, then_noted, object_public, index_public, object_public_in, index_public_in, key_type_member, name_hash_member, attributes_member, auth_policy_member, scheme_member, unique_member, nv_index_member, data_size_member}
use Rattle.tpol_elements.proofs.Wrappers.{depth-get, through-some, through-none}
use Rattle.tpol_adopt.specs.Edits.{edited, inner_scheme, scheme_in}
use Rattle.tpol_adopt.specs.Laws.{IsSublist}
use Rattle.tpol_adopt.specs.Normal.{normal_as}
use Rattle.tpol_adopt.specs.Rules.{Rows, left_out_where, member_rule, new_scheme, rule_in, wrapper_rows}
use Rattle.tpol_adopt.specs.Words.{has}
use Rattle.tpol_adopt.specs.declared.edits.Edit.TheVariants.{Number}
use Rattle.tpol_adopt.specs.declared.flags.Flags.TheVariants.{OfIndex, OfObject}
use Rattle.tpol_adopt.specs.declared.rules.Part.{Part}
use Rattle.tpol_adopt.specs.declared.rules.Part.TheVariants.{IndexPublic, KeyPublic}
use Rattle.tpol_adopt.specs.declared.rules.Rule.TheVariants.{Edited}
use Rattle.tpol_adopt.proofs.Gets.{other_name}
use Rattle.tpol_adopt.proofs.Fields.{needed-same, optional-same, needed-mapped}
use Rattle.tpol_adopt.proofs.Keeping.{IsThinner, Keeps, Follows, follows_same, keeps_after, keeps_then}
use Rattle.tpol_adopt.proofs.Notes.{noted-same, noted-thinner, unknown-plain, unknown-scheme}
use Rattle.tpol_adopt.proofs.Ruled.{get-same, get-inner, get-edited, other-same, other-inner, other-edited}
use Rattle.tpol_adopt.proofs.Singles.{attributes-follow}
use Rattle.tpol_adopt.proofs.Sublists.{all_kept}

-- an object stays one
pub object_in-normal : (part : Part) (d : Data) (place : Place) → object_in (normal_as part d) place ≡ object_in d place
unfolding normal_as
object_in-normal part null place = refl
object_in-normal part (boolean b) place = refl
object_in-normal part (number n) place = refl
object_in-normal part (string s) place = refl
object_in-normal part (array ds) place = refl
object_in-normal part (object ms) place = refl

has-some : (name : List ℕ) (d e : Data) → get name d ≡ Some e → has name d ≡ true
has-some name d e is = ap is_some is

has-none : (name : List ℕ) (d : Data) → get name d ≡ None → has name d ≡ false
has-none name d is = ap is_some is

-- a public area within its wrappers, each spelled by `f`
module _ {A : Type 0} (f : Data → Data) (wrapper : List ℕ) (read : Data → Place → Reading A)
    (inner : (d : Data) → get wrapper (f d) ≡ option_map f (get wrapper d))
    (bare : (d : Data) (place : Place) (fewer walk : Walk) → get wrapper d ≡ None → IsThinner fewer walk → Keeps (read d place walk) (read (f d) place fewer))
    (notes : (d e : Data) (place : Place) → get wrapper d ≡ Some e → IsSublist (unknown (wrapper ∷ []) (f d) place) (unknown (wrapper ∷ []) d place)) where
  abbrev IsKept : Data → Type 0
  IsKept d = (place : Place) (fewer walk : Walk) → IsThinner fewer walk → Keeps (through wrapper read d place walk) (through wrapper read (f d) place fewer)

  wrapped : (d e : Data) → get wrapper d ≡ Some e → IsKept e → IsKept d
  wrapped d e is kept place fewer walk thinner =
      let is' : get wrapper (f d) ≡ Some (f e) = inner d ∙ ap (option_map f) is in
      subst (λ r. Keeps r (through wrapper read (f d) place fewer)) (sym (through-some wrapper read d place walk e is))
      (subst (λ r. Keeps (then_noted wrapper d place (through wrapper read e (at_member place wrapper) walk)) r) (sym (through-some wrapper read (f d) place fewer (f e) is'))
      (keeps_then (through wrapper read e (at_member place wrapper) walk) (through wrapper read (f e) (at_member place wrapper) fewer) _ _ (kept (at_member place wrapper) fewer walk thinner)
      (λ x fewer' walk' thinner'. (refl, noted-thinner (wrapper ∷ []) d (f d) place fewer' walk' thinner' (notes d e place is)))))

  not_wrapped : (d : Data) → get wrapper d ≡ None → IsKept d
  not_wrapped d is place fewer walk thinner =
      let is' : get wrapper (f d) ≡ None = inner d ∙ ap (option_map f) is in
      subst (λ r. Keeps r (through wrapper read (f d) place fewer)) (sym (through-none wrapper read d place walk is))
      (subst (Keeps (read d place walk)) (sym (through-none wrapper read (f d) place fewer is')) (bare d place fewer walk is thinner))

  by_member : (d : Data) (o : Option Data) → get wrapper d ≡ o → ((e : Data) → get wrapper d ≡ Some e → IsKept e) → IsKept d
  by_member d None is later = not_wrapped d is
  by_member d (Some e) is later = wrapped d e is (later e is)

  within_depth : (n : ℕ) (d : Data) → depth d ≤ n → IsKept d
  within_depth zero d deep =
      by_member d (get wrapper d) refl (λ e is. let deeper = depth-get wrapper d e is in absurd (omega arith))
  within_depth (suc n) d deep =
      by_member d (get wrapper d) refl (λ e is. let deeper = depth-get wrapper d e is in within_depth n e (omega arith))

  pub through-keeps : (d : Data) → IsKept d
  through-keeps d = within_depth (depth d) d (omega arith)

abbrev same : Data → Data
same d = d

same-mapped : (o : Option Data) → o ≡ option_map same o
same-mapped None = refl
same-mapped (Some d) = refl

-- ---- indices

index_plain : (d : Data) → new_scheme IndexPublic d ≡ None
unfolding new_scheme
index_plain d = refl

-- the rule of a member by the test for a wrapper
index_rule : (d : Data) (name : List ℕ) (test : Bool) → has (codes "nvPublic") d ≡ test → member_rule IndexPublic d name ≡ rule_in (wrapper_rows test (codes "nvPublic") IndexPublic ((codes "attributes", Edited (Number OfIndex)) ∷ [])) name
unfolding member_rule
index_rule d name test is = ap (λ b. rule_in (wrapper_rows b (codes "nvPublic") IndexPublic ((codes "attributes", Edited (Number OfIndex)) ∷ [])) name) is

pub index_inner_by : (d : Data) (o : Option Data) → get (codes "nvPublic") d ≡ o → get (codes "nvPublic") (normal_as IndexPublic d) ≡ option_map (normal_as IndexPublic) (get (codes "nvPublic") d)
index_inner_by d None is =
    get-same IndexPublic d (codes "nvPublic") (index_plain d) (index_rule d (codes "nvPublic") false (has-none (codes "nvPublic") d is))
    ∙ is ∙ sym (ap (option_map (normal_as IndexPublic)) is)
index_inner_by d (Some e) is =
    get-inner IndexPublic d (codes "nvPublic") (index_plain d) IndexPublic (index_rule d (codes "nvPublic") true (has-some (codes "nvPublic") d e is))

abbrev index_members : List (List ℕ)
index_members = codes "nvIndex" ∷ codes "nameAlg" ∷ codes "attributes" ∷ codes "authPolicy" ∷ codes "dataSize" ∷ []

index_bare : (d : Data) (place : Place) (fewer walk : Walk) → get (codes "nvPublic") d ≡ None → IsThinner fewer walk → Keeps (index_public d place walk) (index_public (normal_as IndexPublic d) place fewer)
unfolding index_public nv_index_member name_hash_member attributes_member auth_policy_member data_size_member
index_bare d place fewer walk none thinner =
    let bare = has-none (codes "nvPublic") d none in
    let d' = normal_as IndexPublic d in
    let plain = index_plain d in
    keeps_after (object_in d place) (object_in d' place) _ _ (follows_same _ _ (object_in-normal IndexPublic d place))
    (λ _ _. keeps_after (nv_index_member d place) (nv_index_member d' place) _ _
    (needed-same _ (codes "nvIndex") d d' place (get-same IndexPublic d (codes "nvIndex") plain (index_rule d (codes "nvIndex") false bare)))
    (λ _ _. keeps_after (name_hash_member d place) (name_hash_member d' place) _ _
    (needed-same _ (codes "nameAlg") d d' place (get-same IndexPublic d (codes "nameAlg") plain (index_rule d (codes "nameAlg") false bare)))
    (λ _ _. keeps_after (attributes_member (codes "attributes") d place) (attributes_member (codes "attributes") d' place) _ _
    (needed-mapped u32_in (edited (Number OfIndex)) (codes "attributes") d d' place (get-edited IndexPublic d (codes "attributes") plain (Number OfIndex) (index_rule d (codes "attributes") false bare)) (attributes-follow OfIndex))
    (λ _ _. keeps_after (auth_policy_member d place) (auth_policy_member d' place) _ _
    (optional-same _ _ (codes "authPolicy") d d' place (get-same IndexPublic d (codes "authPolicy") plain (index_rule d (codes "authPolicy") false bare)))
    (λ _ _. keeps_after (data_size_member d place) (data_size_member d' place) _ _
    (needed-same _ (codes "dataSize") d d' place (get-same IndexPublic d (codes "dataSize") plain (index_rule d (codes "dataSize") false bare)))
    (λ _ _. (refl, noted-thinner index_members d d' place fewer walk thinner (unknown-plain index_members place IndexPublic d plain))))))))

pub index_public-keeps : (d : Data) (place : Place) (fewer walk : Walk) → IsThinner fewer walk → Keeps (index_public_in d place walk) (index_public_in (normal_as IndexPublic d) place fewer)
unfolding index_public_in
index_public-keeps d =
    through-keeps (normal_as IndexPublic) (codes "nvPublic") index_public (λ d. index_inner_by d (get (codes "nvPublic") d) refl) index_bare
    (λ d e place is. unknown-plain (codes "nvPublic" ∷ []) place IndexPublic d (index_plain d)) d

-- ---- keys

abbrev pub wrapper : List ℕ
wrapper = codes "publicArea"

abbrev pub key_rows : Data → Rows
key_rows d =
    (codes "objectAttributes", Edited (Number OfObject)) ∷ (codes "parameters", left_out_where (is_some (inner_scheme d))) ∷ []

pub key_rule : (d : Data) (name : List ℕ) (test : Bool) → has wrapper d ≡ test → member_rule KeyPublic d name ≡ rule_in (wrapper_rows test wrapper KeyPublic (key_rows d)) name
unfolding member_rule
key_rule d name test is = ap (λ b. rule_in (wrapper_rows b wrapper KeyPublic (key_rows d)) name) is

is_wrapper_scheme : wrapper ≡ codes "scheme" → ⊥
is_wrapper_scheme = other_name wrapper (codes "scheme") refl

pub key_inner_by : (d : Data) (o : Option Data) → get wrapper d ≡ o → get wrapper (normal_as KeyPublic d) ≡ option_map (normal_as KeyPublic) (get wrapper d)
key_inner_by d None is =
    other-same KeyPublic d wrapper is_wrapper_scheme (key_rule d wrapper false (has-none wrapper d is))
    ∙ is ∙ sym (ap (option_map (normal_as KeyPublic)) is)
key_inner_by d (Some e) is =
    other-inner KeyPublic d wrapper is_wrapper_scheme KeyPublic (key_rule d wrapper true (has-some wrapper d e is))

wrapped_plain : (d e : Data) → get wrapper d ≡ Some e → new_scheme KeyPublic d ≡ None
unfolding new_scheme
wrapped_plain d e is = ap (λ b. if b then None else inner_scheme d) (has-some wrapper d e is)

bare_plain : (d e : Data) → get wrapper d ≡ None → get (codes "scheme") d ≡ Some e → new_scheme KeyPublic d ≡ None
unfolding new_scheme
bare_plain d e bare is =
    ap (λ b. if b then None else inner_scheme d) (has-none wrapper d bare)
    ∙ ap (λ b. if b then None else scheme_in (option_and_then (get (codes "scheme")) (get (codes "parameters") d))) (has-some (codes "scheme") d e is)

-- a key with a scheme keeps it, and one without is not read
scheme_follows : (d : Data) (place : Place) (o : Option Data) → get wrapper d ≡ None → get (codes "scheme") d ≡ o → Follows (scheme_member d place) (scheme_member (normal_as KeyPublic d) place)
unfolding scheme_member
scheme_follows d place None bare is = rw is (tt {0})
scheme_follows d place (Some e) bare is =
    needed-same _ (codes "scheme") d (normal_as KeyPublic d) place
    (get-same KeyPublic d (codes "scheme") (bare_plain d e bare is) (key_rule d (codes "scheme") false (has-none wrapper d bare)))

abbrev key_members : List (List ℕ)
key_members = codes "type" ∷ codes "nameAlg" ∷ codes "objectAttributes" ∷ codes "authPolicy" ∷ codes "scheme" ∷ codes "unique" ∷ []

key_bare : (d : Data) (place : Place) (fewer walk : Walk) → get wrapper d ≡ None → IsThinner fewer walk → Keeps (object_public d place walk) (object_public (normal_as KeyPublic d) place fewer)
unfolding object_public key_type_member name_hash_member attributes_member auth_policy_member unique_member
key_bare d place fewer walk none thinner =
    let bare = has-none wrapper d none in
    let d' = normal_as KeyPublic d in
    keeps_after (object_in d place) (object_in d' place) _ _ (follows_same _ _ (object_in-normal KeyPublic d place))
    (λ _ _. keeps_after (key_type_member d place) (key_type_member d' place) _ _
    (needed-same _ (codes "type") d d' place (other-same KeyPublic d (codes "type") (other_name (codes "type") (codes "scheme") refl) (key_rule d (codes "type") false bare)))
    (λ _ _. keeps_after (name_hash_member d place) (name_hash_member d' place) _ _
    (needed-same _ (codes "nameAlg") d d' place (other-same KeyPublic d (codes "nameAlg") (other_name (codes "nameAlg") (codes "scheme") refl) (key_rule d (codes "nameAlg") false bare)))
    (λ _ _. keeps_after (attributes_member (codes "objectAttributes") d place) (attributes_member (codes "objectAttributes") d' place) _ _
    (needed-mapped u32_in (edited (Number OfObject)) (codes "objectAttributes") d d' place (other-edited KeyPublic d (codes "objectAttributes") (other_name (codes "objectAttributes") (codes "scheme") refl) (Number OfObject) (key_rule d (codes "objectAttributes") false bare)) (attributes-follow OfObject))
    (λ _ _. keeps_after (auth_policy_member d place) (auth_policy_member d' place) _ _
    (optional-same _ _ (codes "authPolicy") d d' place (other-same KeyPublic d (codes "authPolicy") (other_name (codes "authPolicy") (codes "scheme") refl) (key_rule d (codes "authPolicy") false bare)))
    (λ _ _. keeps_after (scheme_member d place) (scheme_member d' place) _ _ (scheme_follows d place (get (codes "scheme") d) none refl)
    (λ _ _. keeps_after (unique_member d place) (unique_member d' place) _ _
    (needed-same _ (codes "unique") d d' place (other-same KeyPublic d (codes "unique") (other_name (codes "unique") (codes "scheme") refl) (key_rule d (codes "unique") false bare)))
    (λ _ _. (refl, noted-thinner key_members d d' place fewer walk thinner (unknown-scheme key_members place KeyPublic d refl)))))))))

pub object_public-keeps : (d : Data) (place : Place) (fewer walk : Walk) → IsThinner fewer walk → Keeps (object_public_in d place walk) (object_public_in (normal_as KeyPublic d) place fewer)
unfolding object_public_in
object_public-keeps d =
    through-keeps (normal_as KeyPublic) wrapper object_public (λ d. key_inner_by d (get wrapper d) refl) key_bare
    (λ d e place is. unknown-plain (wrapper ∷ []) place KeyPublic d (wrapped_plain d e is)) d

-- ---- the same public area, with fewer notes before

index_again : (d : Data) (place : Place) (fewer walk : Walk) → IsThinner fewer walk → Keeps (index_public d place walk) (index_public d place fewer)
unfolding index_public
index_again d place fewer walk thinner =
    keeps_after (object_in d place) _ _ _ (follows_same _ _ refl)
    (λ _ _. keeps_after (nv_index_member d place) _ _ _ (follows_same _ _ refl)
    (λ _ _. keeps_after (name_hash_member d place) _ _ _ (follows_same _ _ refl)
    (λ _ _. keeps_after (attributes_member (codes "attributes") d place) _ _ _ (follows_same _ _ refl)
    (λ _ _. keeps_after (auth_policy_member d place) _ _ _ (follows_same _ _ refl)
    (λ _ _. keeps_after (data_size_member d place) _ _ _ (follows_same _ _ refl)
    (λ _ _. (refl, noted-same index_members d place fewer walk thinner)))))))

pub index_public-again : (d : Data) (place : Place) (fewer walk : Walk) → IsThinner fewer walk → Keeps (index_public_in d place walk) (index_public_in d place fewer)
unfolding index_public_in
index_public-again d =
    through-keeps same (codes "nvPublic") index_public (λ d. same-mapped (get (codes "nvPublic") d)) (λ d place fewer walk none. index_again d place fewer walk)
    (λ d e place is. all_kept (unknown (codes "nvPublic" ∷ []) d place)) d

key_again : (d : Data) (place : Place) (fewer walk : Walk) → IsThinner fewer walk → Keeps (object_public d place walk) (object_public d place fewer)
unfolding object_public
key_again d place fewer walk thinner =
    keeps_after (object_in d place) _ _ _ (follows_same _ _ refl)
    (λ _ _. keeps_after (key_type_member d place) _ _ _ (follows_same _ _ refl)
    (λ _ _. keeps_after (name_hash_member d place) _ _ _ (follows_same _ _ refl)
    (λ _ _. keeps_after (attributes_member (codes "objectAttributes") d place) _ _ _ (follows_same _ _ refl)
    (λ _ _. keeps_after (auth_policy_member d place) _ _ _ (follows_same _ _ refl)
    (λ _ _. keeps_after (scheme_member d place) _ _ _ (follows_same _ _ refl)
    (λ _ _. keeps_after (unique_member d place) _ _ _ (follows_same _ _ refl)
    (λ _ _. (refl, noted-same key_members d place fewer walk thinner))))))))

pub object_public-again : (d : Data) (place : Place) (fewer walk : Walk) → IsThinner fewer walk → Keeps (object_public_in d place walk) (object_public_in d place fewer)
unfolding object_public_in
object_public-again d =
    through-keeps same wrapper object_public (λ d. same-mapped (get wrapper d)) (λ d place fewer walk none. key_again d place fewer walk)
    (λ d e place is. all_kept (unknown (wrapper ∷ []) d place)) d
