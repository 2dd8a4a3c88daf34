-- Each row of an element says the same in its new spelling.
use Rattle.std.proofs.Common.{◌≡◌, ℕ, suc, List, [], ◌∷◌, drop, Option, Some, None, option_map, option_and_then, is_some, codes, Bool, true, false, not, ◌&&◌, Ok, Err, refl, sym, ap, ◌∙◌, subst, if◌then◌else◌}
use Rattle.std.proofs.lemmas.Slice.Eq.{bytes_eq-Decides}
use Rattle.hex.specs.Hex.{decode_pairs}
use Rattle.serde_json.specs.Data.{Data, null, boolean, number, string, array, object}
use Rattle.serde_json.specs.Find.{as_str, get}
use Rattle.tpol_base.specs.Answers.{◌>>=◌}
use Rattle.tpol_json.specs.Members as json
use Rattle.tpol_json.specs.Places.{at_member}
use Rattle.tpol_json.specs.Reading.{bad}
use Rattle.tpol_json.specs.declared.place.Place.{Place}
use Rattle.tpol_members.specs.Faults.{Found}
use Rattle.tpol_members.specs.Fields.{cp_hash_in, some_digest_in, policy_ref_in, expiration_in, operand_in, offset_in, operation_member_in}
use Rattle.tpol_members.specs.Localities.{locality_in}
use Rattle.tpol_members.specs.Members.{there_or, without}
use Rattle.tpol_members.specs.Operations.{code_in}
use Rattle.tpol_members.specs.Values.{digest_in, truth_in}
use Rattle.tpol_members.specs.declared.fault.PolicyKind.TheVariants.{AsymmetricKey, Twice}
use Rattle.tpol_members.specs.declared.walk.Walk.{Walk}
use Rattle.tpol_elements.specs.Rows.{leaf_row, pcr_row, nv_row, secret_row, signed_row, authorize_row, authorize_nv_row, locality_member, locality_row, command_code_row, cp_hash_row, name_hash_row, counter_timer_row, duplication_row, nv_written_row, without_pem, include_member, object_member, included_object, written_member}
use Rattle.tpol_elements.specs.Wishes.{entity_at, entity_in, index_in, key_in, names_at, names_in, parent_at, parent_in}
use Rattle.tpol_elements.specs.declared.types.ElementType.{ElementType}
use Rattle.tpol_elements.specs.declared.types.ElementType.TheVariants.{Leaf}
use Rattle.tpol_elements.specs.declared.types.LeafType.{LeafType}
use Rattle.tpol_elements.specs.declared.types.LeafType.TheVariants as types
use Rattle.tpol_adopt.specs.Edits.{edited}
use Rattle.tpol_adopt.specs.Normal.{normal_as}
use Rattle.tpol_adopt.specs.Rules.{is_empty, is_parent_named, has_bytes, left_out_where, member_rule, new_scheme, parent_rule}
use Rattle.tpol_adopt.specs.Words.{has, is_word}
use Rattle.tpol_adopt.specs.declared.edits.Edit.TheVariants.{Number, Code}
use Rattle.tpol_adopt.specs.declared.flags.Flags.TheVariants.{OfLocality}
use Rattle.tpol_adopt.specs.declared.rules.Part.{Part}
use Rattle.tpol_adopt.specs.declared.rules.Part.TheVariants.{Element, IndexPublic, KeyPublic}
use Rattle.tpol_adopt.specs.declared.rules.Rule.TheVariants.{Same, Inner}
use Rattle.tpol_adopt.proofs.Fields.{needed-same, optional-same, needed-mapped, policy_ref-same, expiration-same, operand-same, offset-same, operation-same}
use Rattle.tpol_adopt.proofs.Keeping.{IsThinner, Keeps, Follows, follows_same, follows_then, keeps_after, keeps_then, still_keeps}
use Rattle.tpol_adopt.proofs.OneOf.{one_of-same}
use Rattle.tpol_adopt.proofs.Ruled.{get-same, get-left_out, get-inner, get-edited}
use Rattle.tpol_adopt.proofs.Singles.{code-follows, locality-follows}
use Rattle.tpol_adopt.proofs.Wishes.{index_in-keeps, key_in-keeps, parent_in-keeps, parent_in-again, pcrs_in-again}

abbrev pub leaf_part : LeafType → Part
leaf_part leaf = Element (Some (Leaf leaf))

pub element-plain : (type : Option ElementType) (d : Data) → new_scheme (Element type) d ≡ None
unfolding new_scheme
element-plain type d = refl

pub stays-mapped : (o : Option Data) → o ≡ option_map (λ (d : Data). d) o
stays-mapped None = refl
stays-mapped (Some d) = refl

-- an empty text
empty_text : (o : Option Data) → is_word [] (option_and_then as_str o) ≡ true → o ≡ Some (string [])
empty_text None is = cc
empty_text (Some null) is = cc
empty_text (Some (boolean b)) is = cc
empty_text (Some (number n)) is = cc
empty_text (Some (string s)) is = ap (λ t. Some (string t)) ((bytes_eq-Decides s []).0 is)
empty_text (Some (array ds)) is = cc
empty_text (Some (object ms)) is = cc

module _ (leaf : LeafType) (d : Data) where
  same : (name : List ℕ) → member_rule (leaf_part leaf) d name ≡ Same → get name (normal_as (leaf_part leaf) d) ≡ get name d
  same name = get-same (leaf_part leaf) d name (element-plain (Some (Leaf leaf)) d)

  mapped : (name : List ℕ) → member_rule (leaf_part leaf) d name ≡ Same → get name (normal_as (leaf_part leaf) d) ≡ option_map (λ e. e) (get name d)
  mapped name is = same name is ∙ stays-mapped (get name d)

  inner : (name : List ℕ) (part : Part) → member_rule (leaf_part leaf) d name ≡ Inner part → get name (normal_as (leaf_part leaf) d) ≡ option_map (normal_as part) (get name d)
  inner name part = get-inner (leaf_part leaf) d name (element-plain (Some (Leaf leaf)) d) part

  -- an empty `cpHashA` is not read, and any other stays
  cp_hash-follows : (place : Place) (test : Bool) → is_empty (codes "cpHashA") d ≡ test → member_rule (leaf_part leaf) d (codes "cpHashA") ≡ left_out_where test → Follows (cp_hash_in d place) (cp_hash_in (normal_as (leaf_part leaf) d) place)
  unfolding cp_hash_in decode_pairs
  cp_hash-follows place true empty is =
      subst (λ o. Follows (json.read_optional some_digest_in None o (at_member place (codes "cpHashA"))) (cp_hash_in (normal_as (leaf_part leaf) d) place))
      (sym (empty_text (get (codes "cpHashA") d) empty)) (tt {0})
  cp_hash-follows place false full is = optional-same _ _ (codes "cpHashA") d (normal_as (leaf_part leaf) d) place (same (codes "cpHashA") is)

pub without_pem-same : (d d' : Data) (place : Place) → get (codes "keyPEM") d' ≡ get (codes "keyPEM") d → Follows (without_pem d place) (without_pem d' place)
unfolding without_pem
without_pem-same d d' place is = follows_same _ _ (ap (λ o. if is_some o then bad AsymmetricKey (at_member place (codes "keyPEM")) else Ok tt) is)

-- ---- the rows

module _ (d : Data) (place : Place) where
  secret-follows : Follows (secret_row d place) (secret_row (normal_as (leaf_part types.Secret) d) place)
  unfolding secret_row entity_in member_rule
  secret-follows =
      let d' = normal_as (leaf_part types.Secret) d in
      let at = same types.Secret d in
      follows_then (entity_in d place) (entity_in d' place) _ _
      (follows_same _ _ (one_of-same entity_at d d' (codes "objectPath" ∷ codes "objectName" ∷ []) place (mapped types.Secret d (codes "objectPath") refl, (mapped types.Secret d (codes "objectName") refl, tt {0}))))
      (λ entity _. follows_then (policy_ref_in d place) (policy_ref_in d' place) _ _ (policy_ref-same d d' place (at (codes "policyRef") refl))
      (λ policy_ref _. follows_then (cp_hash_in d place) (cp_hash_in d' place) _ _ (cp_hash-follows types.Secret d place (is_empty (codes "cpHashA") d) refl refl)
      (λ cp_hash _. follows_then (expiration_in d place) (expiration_in d' place) _ _ (expiration-same d d' place (at (codes "expiration") refl)) (λ expiration _. refl))))

  locality-row : Follows (locality_row d place) (locality_row (normal_as (leaf_part types.Locality) d) place)
  unfolding locality_row locality_member member_rule
  locality-row =
      let d' = normal_as (leaf_part types.Locality) d in
      follows_then (locality_member d place) (locality_member d' place) _ _
      (needed-mapped locality_in (edited (Number OfLocality)) (codes "locality") d d' place
      (get-edited (leaf_part types.Locality) d (codes "locality") (element-plain (Some (Leaf types.Locality)) d) (Number OfLocality) refl) (locality-follows OfLocality))
      (λ localities _. refl)

  code-row : Follows (command_code_row d place) (command_code_row (normal_as (leaf_part types.CommandCode) d) place)
  unfolding command_code_row member_rule
  code-row =
      let d' = normal_as (leaf_part types.CommandCode) d in
      follows_then _ _ _ _
      (needed-mapped code_in (edited Code) (codes "code") d d' place
      (get-edited (leaf_part types.CommandCode) d (codes "code") (element-plain (Some (Leaf types.CommandCode)) d) Code refl) code-follows)
      (λ code _. refl)

  cp_hash-row : Follows (cp_hash_row d place) (cp_hash_row (normal_as (leaf_part types.CpHash) d) place)
  unfolding cp_hash_row member_rule
  cp_hash-row = follows_then _ _ _ _ (needed-same digest_in (codes "cpHash") d (normal_as (leaf_part types.CpHash) d) place (same types.CpHash d (codes "cpHash") refl)) (λ digest _. refl)

  name_hash-row : Follows (name_hash_row d place) (name_hash_row (normal_as (leaf_part types.NameHash) d) place)
  unfolding name_hash_row names_in member_rule
  name_hash-row =
      let at = mapped types.NameHash d in
      follows_then _ _ _ _
      (follows_same _ _ (one_of-same names_at d (normal_as (leaf_part types.NameHash) d) (codes "nameHash" ∷ codes "objectNames" ∷ codes "namePaths" ∷ []) place (at (codes "nameHash") refl, (at (codes "objectNames") refl, (at (codes "namePaths") refl, tt {0})))))
      (λ names _. refl)

  counter_timer-row : Follows (counter_timer_row d place) (counter_timer_row (normal_as (leaf_part types.CounterTimer) d) place)
  unfolding counter_timer_row member_rule
  counter_timer-row =
      let d' = normal_as (leaf_part types.CounterTimer) d in
      let at = same types.CounterTimer d in
      follows_then (operand_in d place) (operand_in d' place) _ _ (operand-same d d' place (at (codes "operandB") refl))
      (λ operand _. follows_then (offset_in d place) (offset_in d' place) _ _ (offset-same d d' place (at (codes "offset") refl))
      (λ offset _. follows_then (operation_member_in d place) (operation_member_in d' place) _ _ (operation-same d d' place (at (codes "operation") refl)) (λ operation _. refl)))

  nv_written-row : Follows (nv_written_row d place) (nv_written_row (normal_as (leaf_part types.NvWritten) d) place)
  unfolding nv_written_row written_member member_rule
  nv_written-row = follows_then _ _ _ _ (optional-same truth_in true (codes "writtenSet") d (normal_as (leaf_part types.NvWritten) d) place (same types.NvWritten d (codes "writtenSet") refl)) (λ written _. refl)

module _ (d : Data) (place : Place) (fewer walk : Walk) (thinner : IsThinner fewer walk) where
  pcr-row : Keeps (pcr_row d place walk) (pcr_row (normal_as (leaf_part types.Pcr) d) place fewer)
  unfolding pcr_row member_rule
  pcr-row =
      let at = mapped types.Pcr d in
      keeps_then _ _ _ _
      (pcrs_in-again d (normal_as (leaf_part types.Pcr) d) place fewer walk thinner (at (codes "pcrs") refl, (at (codes "currentPCRs") refl, (at (codes "currentPCRandBanks") refl, tt {0}))))
      (λ x fewer' walk' thinner'. (refl, thinner'))

  nv-row : Keeps (nv_row d place walk) (nv_row (normal_as (leaf_part types.Nv) d) place fewer)
  unfolding nv_row member_rule
  nv-row =
      let d' = normal_as (leaf_part types.Nv) d in
      let at = same types.Nv d in
      keeps_then (index_in d place walk) (index_in d' place fewer) _ _
      (index_in-keeps fewer walk thinner d d' place (mapped types.Nv d (codes "nvPath") refl, (inner types.Nv d (codes "nvPublic") IndexPublic refl, tt {0})))
      (λ x fewer' walk' thinner'.
      keeps_after (operand_in d place) (operand_in d' place) _ _ (operand-same d d' place (at (codes "operandB") refl))
      (λ operand _. keeps_after (offset_in d place) (offset_in d' place) _ _ (offset-same d d' place (at (codes "offset") refl))
      (λ offset _. keeps_after (operation_member_in d place) (operation_member_in d' place) _ _ (operation-same d d' place (at (codes "operation") refl)) (λ operation _. (refl, thinner')))))

  authorize_nv-row : Keeps (authorize_nv_row d place walk) (authorize_nv_row (normal_as (leaf_part types.AuthorizeNv) d) place fewer)
  unfolding authorize_nv_row member_rule
  authorize_nv-row =
      let d' = normal_as (leaf_part types.AuthorizeNv) d in
      keeps_then (index_in d place walk) (index_in d' place fewer) _ _
      (index_in-keeps fewer walk thinner d d' place (mapped types.AuthorizeNv d (codes "nvPath") refl, (inner types.AuthorizeNv d (codes "nvPublic") IndexPublic refl, tt {0})))
      (λ x fewer' walk' thinner'. (refl, thinner'))

  signed-row : Keeps (signed_row d place walk) (signed_row (normal_as (leaf_part types.Signed) d) place fewer)
  unfolding signed_row member_rule
  signed-row =
      let d' = normal_as (leaf_part types.Signed) d in
      let at = same types.Signed d in
      keeps_after (without_pem d place) (without_pem d' place) _ _ (without_pem-same d d' place (at (codes "keyPEM") refl))
      (λ _ _. keeps_then (key_in (codes "publicKey") d place walk) (key_in (codes "publicKey") d' place fewer) _ _
      (key_in-keeps fewer walk thinner d d' place (codes "publicKey") (mapped types.Signed d (codes "keyPath") refl, (inner types.Signed d (codes "keyPublic") KeyPublic refl, (mapped types.Signed d (codes "publicKey") refl, tt {0}))))
      (λ x fewer' walk' thinner'.
      keeps_after (policy_ref_in d place) (policy_ref_in d' place) _ _ (policy_ref-same d d' place (at (codes "policyRef") refl))
      (λ policy_ref _. keeps_after (cp_hash_in d place) (cp_hash_in d' place) _ _ (cp_hash-follows types.Signed d place (is_empty (codes "cpHashA") d) refl refl)
      (λ cp_hash _. keeps_after (expiration_in d place) (expiration_in d' place) _ _ (expiration-same d d' place (at (codes "expiration") refl)) (λ expiration _. (refl, thinner'))))))

  authorize-row : Keeps (authorize_row d place walk) (authorize_row (normal_as (leaf_part types.Authorize) d) place fewer)
  unfolding authorize_row member_rule
  authorize-row =
      let d' = normal_as (leaf_part types.Authorize) d in
      let at = same types.Authorize d in
      keeps_after (without_pem d place) (without_pem d' place) _ _ (without_pem-same d d' place (at (codes "keyPEM") refl))
      (λ _ _. keeps_then (key_in (codes "publicKey") d place walk) (key_in (codes "publicKey") d' place fewer) _ _
      (key_in-keeps fewer walk thinner d d' place (codes "publicKey") (mapped types.Authorize d (codes "keyPath") refl, (inner types.Authorize d (codes "keyPublic") KeyPublic refl, (mapped types.Authorize d (codes "publicKey") refl, tt {0}))))
      (λ x fewer' walk' thinner'.
      keeps_after (policy_ref_in d place) (policy_ref_in d' place) _ _ (policy_ref-same d d' place (at (codes "policyRef") refl)) (λ policy_ref _. (refl, thinner'))))

-- ---- a new parent

named_parent : (o : Option Data) → has_bytes (option_and_then as_str o) ≡ true → is_some o ≡ true
named_parent None is = cc
named_parent (Some d) is = refl

no_path : (path : Bool) (name : Bool) → (not path && name) ≡ true → (path ≡ false) × (name ≡ true)
no_path true name is = cc
no_path false name is = (refl, is)

is_some-none : (o : Option Data) → is_some o ≡ false → o ≡ None
is_some-none None is = refl
is_some-none (Some d) is = cc

-- one of several members is not read where a later one stands beside it
abbrev pub Never : {A : Type 0} → Found A → Type 0
Never (Ok x) = ⊥
Never (Err fault) = Unit {0}

pub never_then : {A B : Type 0} (found : Found A) (next : A → Found B) → ((x : A) → Never (next x)) → Never (found >>= next)
never_then (Ok x) next all = all x
never_then (Err fault) next all = tt {0}

pub never_now : {A B : Type 0} (found : Found A) (next : A → Found B) → Never found → Never (found >>= next)
never_now (Ok x) next never = absurd never
never_now (Err fault) next never = tt {0}

pub never-keeps : {A : Type 0} (found again : Found (A × Walk)) → Never found → Keeps found again
never-keeps (Ok x) again never = absurd never
never-keeps (Err fault) again never = tt {0}

second_first : (a b : Option Data) (e : Data) (x y : List ℕ) (later : Found (ℕ × Data × List ℕ)) → a ≡ None → b ≡ Some e → there_or a 0 x (there_or b 1 y later) ≡ Ok (1, e, y)
second_first a b e x y later none some = ap (λ o. there_or o 0 x (there_or b 1 y later)) none ∙ ap (λ o. there_or o 1 y later) some

module _ (d : Data) (place : Place) (walk : Walk) where
  -- beside a public area the Name comes twice
  twice : (e : Data) → get (codes "newParentPath") d ≡ None → get (codes "newParentPublic") d ≡ Some e → is_some (get (codes "newParentName") d) ≡ true → Never (parent_in d place walk)
  unfolding parent_in
  twice e path public name =
      subst (λ first. Never (first >>= λ first. parent_at walk first.0 first.1 (at_member place first.2) >>= λ x. without (drop (suc first.0) (codes "newParentPath" ∷ codes "newParentPublic" ∷ codes "newParentName" ∷ [])) d place >>= λ alone. Ok x))
      (sym (second_first (get (codes "newParentPath") d) (get (codes "newParentPublic") d) e _ _ _ path public))
      (never_then (parent_at walk 1 e (at_member place (codes "newParentPublic"))) _
      (λ x. never_now (without (codes "newParentName" ∷ []) d place) _ (subst (λ b. Never (if b then bad Twice (at_member place (codes "newParentName")) else without [] d place)) (sym name) (tt {0}))))

  abbrev parent' : Data
  parent' = normal_as (leaf_part types.DuplicationSelect) d

  module _ (fewer : Walk) (thinner : IsThinner fewer walk) where
    parent_unnamed : is_parent_named d ≡ false → Keeps (parent_in d place walk) (parent_in parent' place fewer)
    unfolding member_rule
    parent_unnamed is =
        parent_in-keeps fewer walk thinner d parent' place (
          mapped types.DuplicationSelect d (codes "newParentPath") refl,
          (
            inner types.DuplicationSelect d (codes "newParentPublic") KeyPublic (ap parent_rule is),
            (mapped types.DuplicationSelect d (codes "newParentName") refl, tt {0}),
          ),
        )

    parent_named : is_parent_named d ≡ true → (o : Option Data) → get (codes "newParentPublic") d ≡ o → Keeps (parent_in d place walk) (parent_in parent' place fewer)
    unfolding member_rule
    parent_named is (Some e) public =
        let apart = no_path (has (codes "newParentPath") d) (has_bytes (option_and_then as_str (get (codes "newParentName") d))) is in
        never-keeps _ _ (twice e (is_some-none _ apart.0) public (named_parent (get (codes "newParentName") d) apart.1))
    parent_named is None public =
        parent_in-again fewer walk thinner d parent' place (
          mapped types.DuplicationSelect d (codes "newParentPath") refl,
          (
            get-left_out (leaf_part types.DuplicationSelect) d (codes "newParentPublic") (element-plain (Some (Leaf types.DuplicationSelect)) d) (ap parent_rule is) ∙ sym (ap (option_map (λ e. e)) public),
            (mapped types.DuplicationSelect d (codes "newParentName") refl, tt {0}),
          ),
        )

    parent_by : (test : Bool) → is_parent_named d ≡ test → Keeps (parent_in d place walk) (parent_in parent' place fewer)
    parent_by true is = parent_named is (get (codes "newParentPublic") d) refl
    parent_by false is = parent_unnamed is

    included : (include : Bool) → Follows (included_object include d place) (included_object include parent' place)
    unfolding included_object object_member member_rule
    included include =
        follows_then (object_member d place) (object_member parent' place) _ _
        (optional-same _ _ (codes "objectName") d parent' place (same types.DuplicationSelect d (codes "objectName") refl)) (λ object _. follows_same _ _ refl)

    duplication-row : Keeps (duplication_row d place walk) (duplication_row parent' place fewer)
    unfolding duplication_row include_member member_rule
    duplication-row =
        keeps_then (parent_in d place walk) (parent_in parent' place fewer) _ _ (parent_by (is_parent_named d) refl)
        (λ x fewer' walk' thinner'.
        keeps_after (include_member d place) (include_member parent' place) _ _
        (optional-same truth_in false (codes "includeObject") d parent' place (same types.DuplicationSelect d (codes "includeObject") refl))
        (λ include _. keeps_after (included_object include d place) (included_object include parent' place) _ _ (included include) (λ object _. (refl, thinner'))))

pub leaf_row-keeps : (leaf : LeafType) (d : Data) (place : Place) (fewer walk : Walk) → IsThinner fewer walk → Keeps (leaf_row leaf d place walk) (leaf_row leaf (normal_as (leaf_part leaf) d) place fewer)
leaf_row-keeps types.Pcr d place fewer walk thinner = pcr-row d place fewer walk thinner
leaf_row-keeps types.Nv d place fewer walk thinner = nv-row d place fewer walk thinner
leaf_row-keeps types.Secret d place fewer walk thinner = still_keeps _ _ fewer walk (secret-follows d place) thinner
leaf_row-keeps types.Signed d place fewer walk thinner = signed-row d place fewer walk thinner
leaf_row-keeps types.Authorize d place fewer walk thinner = authorize-row d place fewer walk thinner
leaf_row-keeps types.AuthorizeNv d place fewer walk thinner = authorize_nv-row d place fewer walk thinner
leaf_row-keeps types.Locality d place fewer walk thinner = still_keeps _ _ fewer walk (locality-row d place) thinner
leaf_row-keeps types.CommandCode d place fewer walk thinner = still_keeps _ _ fewer walk (code-row d place) thinner
leaf_row-keeps types.CpHash d place fewer walk thinner = still_keeps _ _ fewer walk (cp_hash-row d place) thinner
leaf_row-keeps types.NameHash d place fewer walk thinner = still_keeps _ _ fewer walk (name_hash-row d place) thinner
leaf_row-keeps types.CounterTimer d place fewer walk thinner = still_keeps _ _ fewer walk (counter_timer-row d place) thinner
leaf_row-keeps types.DuplicationSelect d place fewer walk thinner = duplication-row d place walk fewer thinner
leaf_row-keeps types.NvWritten d place fewer walk thinner = still_keeps _ _ fewer walk (nv_written-row d place) thinner
leaf_row-keeps types.AuthValue d place fewer walk thinner = (refl, thinner)
leaf_row-keeps types.Password d place fewer walk thinner = (refl, thinner)
leaf_row-keeps types.PhysicalPresence d place fewer walk thinner = (refl, thinner)
