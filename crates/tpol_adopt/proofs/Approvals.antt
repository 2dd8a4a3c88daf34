-- Authorizations say the same in their new spelling, and those that are left out are not read.
use Rattle.std.proofs.Common.{◌≡◌, ℕ, zero, suc, List, [], ◌∷◌, ◌++◌, drop, Option, Some, None, option_map, option_and_then, is_some, codes, Bool, true, false, not, ◌&&◌, ◌||◌, nat_lt, Ok, refl, sym, ap, ◌∙◌, subst, ◌≤◌, arith, if◌then◌else◌}
use Rattle.std.proofs.lemmas.Slice.Eq.{bytes_eq-Decides}
use Rattle.serde_json.specs.Data.{Data, Items, no_items, item, null, boolean, number, string, array, object, depth}
use Rattle.serde_json.specs.Find.{as_array, as_str, get}
use Rattle.tpol_base.specs.Answers.{◌>>=◌}
use Rattle.tpol_json.specs.Places.{at_item, at_member}
use Rattle.tpol_json.specs.Reading.{bad}
use Rattle.tpol_json.specs.Words.{find_word}
use Rattle.tpol_json.specs.declared.place.Place.{Place}
use Rattle.tpol_members.specs.Faults.{Found}
use Rattle.tpol_members.specs.Algorithms.{key_type_in}
use Rattle.tpol_members.specs.Fields.{policy_ref_in}
use Rattle.tpol_members.specs.Members.{first_from, none_of, object_in, read_needed, there_or, without}
use Rattle.tpol_members.specs.Values.{digest_in}
use Rattle.tpol_members.specs.declared.fault.PolicyKind.TheVariants as kinds
use Rattle.tpol_members.specs.declared.walk.Walk.{Walk}
use Rattle.tpol_elements.proofs.Wrappers.{depth-get, through-none, through-some}
use Rattle.tpol_elements.specs.Publics.{key_type_member, object_public, object_public_in, through}
use Rattle.tpol_elements.specs.Rows.{without_pem}
use Rattle.tpol_elements.specs.Wishes.{index_in, key_at, key_in}
use Rattle.tpol_read.specs.Approvals.{approval_in, approval_of_type, approval_type_in, approvals_from, approvals_member, approvals_of, approvals_or_none, by_index, by_key, counted_approval, signature_member, type_of_approval}
use Rattle.tpol_read.specs.declared.approvals.ApprovalType.{ApprovalType}
use Rattle.tpol_read.specs.declared.approvals.ApprovalType.TheVariants as types
use Rattle.tpol_tree.specs.declared.wishes.ApprovalWish.{ApprovalWish}
use Rattle.tpol_tree.specs.declared.wishes.KeyWish.{KeyWish}
use Rattle.tpol_adopt.specs.Dropped.{approving_key, innermost, is_asymmetric, is_asymmetric_key, is_by_index}
use Rattle.tpol_adopt.specs.Edits.{edited}
use Rattle.tpol_adopt.specs.Normal.{by_rule, item_before, normal_as, normal_items}
use Rattle.tpol_adopt.specs.Rules.{item_rule, member_rule, new_scheme}
use Rattle.tpol_adopt.specs.Words.{has, is_word, says}
use Rattle.tpol_adopt.specs.declared.edits.Edit.TheVariants.{Signature}
use Rattle.tpol_adopt.specs.declared.rules.Part.TheVariants.{Approval, Approvals, KeyPublic}
use Rattle.tpol_adopt.specs.declared.rules.Rule.TheVariants.{Inner, LeftOut}
use Rattle.tpol_adopt.proofs.Elements.{Never, never-keeps, never_now, never_then, stays-mapped, without_pem-same}
use Rattle.tpol_adopt.proofs.Fields.{needed-mapped, needed-same, policy_ref-same}
use Rattle.tpol_adopt.proofs.Keeping.{IsThinner, Keeps, follows_same, keeps_after, keeps_then}
use Rattle.tpol_adopt.proofs.Notes.{noted-thinner, unknown-plain}
use Rattle.tpol_adopt.proofs.Publics.{object_in-normal}
use Rattle.tpol_adopt.proofs.Ruled.{get-edited, get-inner, get-same}
use Rattle.tpol_adopt.proofs.Singles.{signature-follows}
use Rattle.tpol_adopt.proofs.Wishes.{approving_in-keeps, index_in-again}
use Rattle.tpol_adopt.proofs.Wrappers.{innermost-none, innermost-some}

-- ---- those that stay

plain : (d : Data) → new_scheme Approval d ≡ None
unfolding new_scheme
plain d = refl

abbrev key_members : List (List ℕ)
key_members = codes "type" ∷ codes "keyPath" ∷ codes "keyPublic" ∷ codes "key" ∷ codes "policyRef" ∷ codes "signature" ∷ []

abbrev index_members : List (List ℕ)
index_members = codes "type" ∷ codes "nvPath" ∷ codes "nvPublic" ∷ []

module _ (d : Data) (place : Place) (fewer walk : Walk) (thinner : IsThinner fewer walk) where
  abbrev again : Data
  again = normal_as Approval d

  by_key-keeps : Keeps (by_key d place walk) (by_key again place fewer)
  unfolding by_key signature_member member_rule
  by_key-keeps =
      keeps_then (key_in (codes "key") d place walk) (key_in (codes "key") again place fewer) _ _
      (approving_in-keeps fewer walk thinner d again place (codes "key") (
        get-same Approval d (codes "keyPath") (plain d) refl ∙ stays-mapped (get (codes "keyPath") d),
        (get-inner Approval d (codes "keyPublic") (plain d) KeyPublic refl, (get-inner Approval d (codes "key") (plain d) KeyPublic refl, tt {0})),
      ))
      (λ key fewer' walk' thinner'.
      keeps_after (policy_ref_in d place) (policy_ref_in again place) _ _ (policy_ref-same d again place (get-same Approval d (codes "policyRef") (plain d) refl))
      (λ policy_ref _. keeps_after (signature_member d place) (signature_member again place) _ _
      (needed-mapped digest_in (edited Signature) (codes "signature") d again place (get-edited Approval d (codes "signature") (plain d) Signature refl) signature-follows)
      (λ signature _. (refl, noted-thinner key_members d again place fewer' walk' thinner' (unknown-plain key_members place Approval d (plain d))))))

  by_index-keeps : Keeps (by_index d place walk) (by_index again place fewer)
  unfolding by_index member_rule
  by_index-keeps =
      keeps_then (index_in d place walk) (index_in again place fewer) _ _
      (index_in-again fewer walk thinner d again place
      (get-same Approval d (codes "nvPath") (plain d) refl ∙ stays-mapped (get (codes "nvPath") d), (get-same Approval d (codes "nvPublic") (plain d) refl ∙ stays-mapped (get (codes "nvPublic") d), tt {0})))
      (λ index fewer' walk' thinner'. (refl, noted-thinner index_members d again place fewer' walk' thinner' (unknown-plain index_members place Approval d (plain d))))

  of_type-keeps : (type : ApprovalType) → Keeps (approval_of_type type d place walk) (approval_of_type type again place fewer)
  of_type-keeps types.Key = by_key-keeps
  of_type-keeps types.Index = by_index-keeps
  of_type-keeps types.Pem = tt {0}

  approval-keeps : Keeps (approval_in d place walk) (approval_in again place fewer)
  unfolding approval_in approval_type_in member_rule
  approval-keeps =
      keeps_after (object_in d place) (object_in again place) _ _ (follows_same _ _ (object_in-normal Approval d place))
      (λ _ _. keeps_after (without_pem d place) (without_pem again place) _ _ (without_pem-same d again place (get-same Approval d (codes "keyPEM") (plain d) refl))
      (λ _ _. keeps_after (approval_type_in d place) (approval_type_in again place) _ _ (needed-same type_of_approval (codes "type") d again place (get-same Approval d (codes "type") (plain d) refl))
      (λ type _. of_type-keeps type)))

  counted-keeps : (index : ℕ) → Keeps (counted_approval index d place walk) (counted_approval index again place fewer)
  unfolding counted_approval
  counted-keeps index = by_test (nat_lt index 8)
    where
      by_test : (test : Bool) → Keeps (if test then approval_in d place walk else bad kinds.TooMany place) (if test then approval_in again place fewer else bad kinds.TooMany place)
      by_test true = approval-keeps
      by_test false = tt {0}

-- ---- those that are left out

-- a member that says a text
said_text : (o : Option Data) (word : List ℕ) → is_word word (option_and_then as_str o) ≡ true → o ≡ Some (string word)
said_text None word is = cc
said_text (Some null) word is = cc
said_text (Some (boolean b)) word is = cc
said_text (Some (number n)) word is = cc
said_text (Some (string s)) word is = ap (λ t. Some (string t)) ((bytes_eq-Decides s word).0 is)
said_text (Some (array ds)) word is = cc
said_text (Some (object ms)) word is = cc

one_or_other : {P : Type 0} (x y : Bool) → (x || y) ≡ true → (x ≡ true → P) → (y ≡ true → P) → P
one_or_other true y is one other = one refl
one_or_other false y is one other = other is

both_true : (x y : Bool) → (x && y) ≡ true → (x ≡ true) × (y ≡ true)
both_true true y is = (refl, is)
both_true false y is = cc

abbrev wrapper : List ℕ
wrapper = codes "publicArea"

-- a public area of an asymmetric key is not read
module _ (word : List ℕ) (asymmetric : (at : Place) → Never (key_type_in (string word) at)) where
  bare_never : (d : Data) (place : Place) (walk : Walk) → get (codes "type") d ≡ Some (string word) → Never (object_public d place walk)
  unfolding object_public key_type_member
  bare_never d place walk is =
      never_then (object_in d place) _
      (λ _. never_now (read_needed key_type_in (get (codes "type") d) (at_member place (codes "type"))) _
      (subst (λ o. Never (read_needed key_type_in o (at_member place (codes "type")))) (sym is) (asymmetric (at_member place (codes "type")))))

  abbrev IsNever : Data → Type 0
  IsNever d = (place : Place) (walk : Walk) → get (codes "type") (innermost d) ≡ Some (string word) → Never (through wrapper object_public d place walk)

  never_by : (d : Data) (o : Option Data) → get wrapper d ≡ o → ((e : Data) → get wrapper d ≡ Some e → IsNever e) → IsNever d
  never_by d None is later place walk says =
      subst Never (sym (through-none wrapper object_public d place walk is)) (bare_never d place walk (ap (get (codes "type")) (sym (innermost-none d is)) ∙ says))
  never_by d (Some e) is later place walk says =
      subst Never (sym (through-some wrapper object_public d place walk e is))
      (never_now (through wrapper object_public e (at_member place wrapper) walk) _
      (later e is (at_member place wrapper) walk (ap (get (codes "type")) (sym (innermost-some d e is)) ∙ says)))

  within_depth : (n : ℕ) (d : Data) → depth d ≤ n → IsNever d
  within_depth zero d deep =
      never_by d (get wrapper d) refl (λ e is. let deeper = depth-get wrapper d e is in absurd (omega arith))
  within_depth (suc n) d deep =
      never_by d (get wrapper d) refl (λ e is. let deeper = depth-get wrapper d e is in within_depth n e (omega arith))

  public_never : (d : Data) (place : Place) (walk : Walk) → get (codes "type") (innermost d) ≡ Some (string word) → Never (object_public_in d place walk)
  unfolding object_public_in
  public_never d place walk says = within_depth (depth d) d (omega arith) place walk says

rsa : (at : Place) → Never (key_type_in (string (codes "RSA")) at)
unfolding find_word
rsa at = tt {0}

ecc : (at : Place) → Never (key_type_in (string (codes "ECC")) at)
unfolding find_word
ecc at = tt {0}

asymmetric_never : (d : Data) (place : Place) (walk : Walk) → is_asymmetric_key (Some d) ≡ true → Never (object_public_in d place walk)
asymmetric_never d place walk is =
    one_or_other (says (codes "type") (codes "RSA") (innermost d)) (says (codes "type") (codes "ECC") (innermost d)) is
    (λ says. public_never (codes "RSA") rsa d place walk (said_text (get (codes "type") (innermost d)) (codes "RSA") says))
    (λ says. public_never (codes "ECC") ecc d place walk (said_text (get (codes "type") (innermost d)) (codes "ECC") says))

abbrev names : List (List ℕ)
names = codes "keyPath" ∷ codes "keyPublic" ∷ codes "key" ∷ []

module _ (d : Data) (place : Place) (walk : Walk) where
  abbrev after_first : Found (ℕ × Data × List ℕ) → Found (KeyWish × Walk)
  after_first first = first >>= λ first. key_at walk first.0 first.1 (at_member place first.2) >>= λ x. without (drop (suc first.0) names) d place >>= λ alone. Ok x

  -- beside a path the public area comes twice
  without_twice : (b c : Option Data) → get (codes "keyPublic") d ≡ b → get (codes "key") d ≡ c → is_asymmetric_key (if is_some b then b else c) ≡ true → Never (without (codes "keyPublic" ∷ codes "key" ∷ []) d place)
  without_twice (Some k) c public key is = subst (λ o. Never (if is_some o then bad kinds.Twice (at_member place (codes "keyPublic")) else without (codes "key" ∷ []) d place)) (sym public) (tt {0})
  without_twice None (Some k) public key is =
      subst (λ o. Never (if is_some o then bad kinds.Twice (at_member place (codes "keyPublic")) else without (codes "key" ∷ []) d place)) (sym public)
      (subst (λ o. Never (if is_some o then bad kinds.Twice (at_member place (codes "key")) else without [] d place)) (sym key) (tt {0}))
  without_twice None None public key is = cc

  key_never_by : (a b c : Option Data) → get (codes "keyPath") d ≡ a → get (codes "keyPublic") d ≡ b → get (codes "key") d ≡ c → is_asymmetric_key (if is_some b then b else c) ≡ true → Never (key_in (codes "key") d place walk)
  unfolding key_in key_at
  key_never_by (Some p) b c path public key is =
      subst (λ o. Never (after_first (there_or o 0 (codes "keyPath") (first_from 1 (codes "keyPublic" ∷ codes "key" ∷ []) (none_of names place) d)))) (sym path)
      (never_then (key_at walk 0 p (at_member place (codes "keyPath"))) _ (λ x. never_now (without (codes "keyPublic" ∷ codes "key" ∷ []) d place) _ (without_twice b c public key is)))
  key_never_by None (Some k) c path public key is =
      subst (λ o. Never (after_first (there_or o 0 (codes "keyPath") (first_from 1 (codes "keyPublic" ∷ codes "key" ∷ []) (none_of names place) d)))) (sym path)
      (subst (λ o. Never (after_first (there_or o 1 (codes "keyPublic") (first_from 2 (codes "key" ∷ []) (none_of names place) d)))) (sym public)
      (never_now (key_at walk 1 k (at_member place (codes "keyPublic"))) _ (never_now (object_public_in k (at_member place (codes "keyPublic")) walk) _ (asymmetric_never k (at_member place (codes "keyPublic")) walk is))))
  key_never_by None None (Some k) path public key is =
      subst (λ o. Never (after_first (there_or o 0 (codes "keyPath") (first_from 1 (codes "keyPublic" ∷ codes "key" ∷ []) (none_of names place) d)))) (sym path)
      (subst (λ o. Never (after_first (there_or o 1 (codes "keyPublic") (first_from 2 (codes "key" ∷ []) (none_of names place) d)))) (sym public)
      (subst (λ o. Never (after_first (there_or o 2 (codes "key") (first_from 3 [] (none_of names place) d)))) (sym key)
      (never_now (key_at walk 2 k (at_member place (codes "key"))) _ (never_now (object_public_in k (at_member place (codes "key")) walk) _ (asymmetric_never k (at_member place (codes "key")) walk is)))))
  key_never_by None None None path public key is = cc

  key_never : is_asymmetric_key (approving_key d) ≡ true → Never (key_in (codes "key") d place walk)
  key_never is = key_never_by (get (codes "keyPath") d) (get (codes "keyPublic") d) (get (codes "key") d) refl refl refl is

  by_key-never : is_asymmetric_key (approving_key d) ≡ true → Never (by_key d place walk)
  unfolding by_key
  by_key-never is = never_now (key_in (codes "key") d place walk) _ (key_never is)

  -- the types that FAPI writes
  typed : (word : List ℕ) (type : ApprovalType) → says (codes "type") word d ≡ true → ((at : Place) → type_of_approval (string word) at ≡ Ok type) → approval_type_in d place ≡ Ok type
  unfolding approval_type_in
  typed word type is means =
      ap (λ o. read_needed type_of_approval o (at_member place (codes "type"))) (said_text (get (codes "type") d) word is) ∙ means (at_member place (codes "type"))

  typed_never : (word : List ℕ) (type : ApprovalType) → says (codes "type") word d ≡ true → ((at : Place) → type_of_approval (string word) at ≡ Ok type) → Never (approval_of_type type d place walk) → Never (approval_in d place walk)
  unfolding approval_in
  typed_never word type is means never =
      never_then (object_in d place) _
      (λ _. never_then (without_pem d place) _
      (λ _. subst (λ r. Never (r >>= λ type. approval_of_type type d place walk)) (sym (typed word type is means)) never))

  pem_never : has (codes "keyPEM") d ≡ true → Never (approval_in d place walk)
  unfolding approval_in without_pem
  pem_never is =
      never_then (object_in d place) _
      (λ _. never_now (without_pem d place) _ (subst (λ b. Never (if b then bad kinds.AsymmetricKey (at_member place (codes "keyPEM")) else Ok tt)) (sym is) (tt {0})))

  is_pem : (at : Place) → type_of_approval (string (codes "pem")) at ≡ Ok types.Pem
  unfolding find_word
  is_pem at = refl

  is_key : (at : Place) → type_of_approval (string (codes "tpm")) at ≡ Ok types.Key
  unfolding find_word
  is_key at = refl

  approval_never : is_asymmetric d ≡ true → Never (approval_in d place walk)
  unfolding is_asymmetric
  approval_never is =
      one_or_other (says (codes "type") (codes "pem") d) _ is (λ pem. typed_never (codes "pem") types.Pem pem is_pem (tt {0}))
      (λ rest. one_or_other (has (codes "keyPEM") d && not (is_by_index d)) _ rest
      (λ pem. pem_never (both_true (has (codes "keyPEM") d) (not (is_by_index d)) pem).0)
      (λ last. let both = both_true (is_asymmetric_key (approving_key d)) (says (codes "type") (codes "tpm") d) last in
      typed_never (codes "tpm") types.Key both.1 is_key (by_key-never both.0)))

  counted-never : (index : ℕ) → is_asymmetric d ≡ true → Never (counted_approval index d place walk)
  unfolding counted_approval
  counted-never index is = by_test (nat_lt index 8)
    where
      by_test : (test : Bool) → Never (if test then approval_in d place walk else bad kinds.TooMany place)
      by_test true = approval_never is
      by_test false = tt {0}

-- ---- the list

stays_rule : (d : Data) → is_asymmetric d ≡ false → item_rule Approvals d ≡ Inner Approval
unfolding item_rule
stays_rule d is = ap (λ b. if b then LeftOut else Inner Approval) is

module _ (before : List ApprovalWish) (index : ℕ) (d : Data) (ds : Items) (place : Place) (fewer walk : Walk) (thinner : IsThinner fewer walk)
    (rest : (after : List ApprovalWish) (fewer walk : Walk) → IsThinner fewer walk → Keeps (approvals_from after (suc index) ds place walk) (approvals_from after (suc index) (normal_items Approvals ds) place fewer)) where
  approvals_at : (test : Bool) → is_asymmetric d ≡ test → Keeps (approvals_from before index (item d ds) place walk) (approvals_from before index (normal_items Approvals (item d ds)) place fewer)
  unfolding approvals_from normal_items
  approvals_at true is = never-keeps _ _ (never_now (counted_approval index d (at_item place index) walk) _ (counted-never d (at_item place index) walk index is))
  approvals_at false is =
      subst (λ rule. Keeps (approvals_from before index (item d ds) place walk) (approvals_from before index (item_before (by_rule rule (λ inner. normal_as inner d) d) (normal_items Approvals ds)) place fewer))
      (sym (stays_rule d is))
      (keeps_then (counted_approval index d (at_item place index) walk) (counted_approval index (normal_as Approval d) (at_item place index) fewer) _ _ (counted-keeps d (at_item place index) fewer walk thinner index)
      (λ x fewer' walk' thinner'. rest (before ++ x ∷ []) fewer' walk' thinner'))

approvals_from-keeps : (before : List ApprovalWish) (index : ℕ) (ds : Items) (place : Place) (fewer walk : Walk) → IsThinner fewer walk → Keeps (approvals_from before index ds place walk) (approvals_from before index (normal_items Approvals ds) place fewer)
unfolding approvals_from normal_items
approvals_from-keeps before index no_items place fewer walk thinner = (refl, thinner)
approvals_from-keeps before index (item d ds) place fewer walk thinner =
    approvals_at before index d ds place fewer walk thinner (λ after fewer walk thinner. approvals_from-keeps after (suc index) ds place fewer walk thinner) (is_asymmetric d) refl

list-keeps : (d : Data) (place : Place) (fewer walk : Walk) → IsThinner fewer walk → Keeps (approvals_of (as_array d) place walk) (approvals_of (as_array (normal_as Approvals d)) place fewer)
unfolding normal_as
list-keeps null place fewer walk thinner = tt {0}
list-keeps (boolean b) place fewer walk thinner = tt {0}
list-keeps (number n) place fewer walk thinner = tt {0}
list-keeps (string s) place fewer walk thinner = tt {0}
list-keeps (array ds) place fewer walk thinner = approvals_from-keeps [] 0 ds place fewer walk thinner
list-keeps (object ms) place fewer walk thinner = tt {0}

approvals_by : (o : Option Data) (place : Place) (fewer walk : Walk) → IsThinner fewer walk → Keeps (approvals_or_none o place walk) (approvals_or_none (option_map (normal_as Approvals) o) place fewer)
approvals_by None place fewer walk thinner = (refl, thinner)
approvals_by (Some d) place fewer walk thinner = list-keeps d place fewer walk thinner

pub approvals-keeps : (d d' : Data) (place : Place) (fewer walk : Walk) → IsThinner fewer walk → get (codes "policyAuthorizations") d' ≡ option_map (normal_as Approvals) (get (codes "policyAuthorizations") d) → Keeps (approvals_member d place walk) (approvals_member d' place fewer)
unfolding approvals_member
approvals-keeps d d' place fewer walk thinner is =
    subst (λ o. Keeps (approvals_member d place walk) (approvals_or_none o (at_member place (codes "policyAuthorizations")) fewer)) (sym is)
    (approvals_by (get (codes "policyAuthorizations") d) (at_member place (codes "policyAuthorizations")) fewer walk thinner)
