-- Each goal on a machine: its entity and Names, its own rule, the bounds of its command, and its reply.
use Rattle.std.proofs.Common.{◌≡◌, ◌≤◌, ◌<◌, ◌⊎◌, inl, inr, ℕ, ◌+◌, ◌^◌, ◌||◌, Bool, true, false, cond, List, [], ◌∷◌, ◌++◌, length, map, take, drop, nat_eq, nat_le, nat_lt, zero, suc, slice_index_or, if◌then◌else◌, refl, ap, sym, subst, ◌∙◌, arith, length-append}
use Rattle.std.specs.Prelude.{Option, Some, None, find}
use Rattle.std.specs.Option.{option_map_or}
use Rattle.std.specs.List.{Contains}
use Rattle.std.proofs.lemmas.Bool.{eq-eqb, false≢true}
use Rattle.std.proofs.lemmas.Bool.Decides.{nat_tests}
use Rattle.std.proofs.lemmas.List.{length-take}
use Rattle.std.proofs.lemmas.Option.{none-some}
use Rattle.tpol_base.specs.declared.command_code.CommandCode.TheVariants as codes
use Rattle.tpol_base.specs.declared.digest.Digest32.{Digest32}
use Rattle.tpol_base.specs.declared.name.Name.{Name}
use Rattle.tpol_base.specs.declared.name.Name.TheVariants.{Handle}
use Rattle.tpol_base.specs.CommandCode.{number_of_code}
use Rattle.tpol_base.specs.Handle.{is_index, is_object, rh_null, rh_owner}
use Rattle.tpol_base.specs.Constants.{alg_sha256}
use Rattle.tpol_base.specs.Name.{is_same_name, name_bytes}
use Rattle.tpol_base.specs.Sized.{sized}
use Rattle.tpol_choose.specs.Entities.{name_as_is, name_in_directory, object_at}
use Rattle.tpol_choose.specs.Goals.{Judged, counting_rule, judged, on_index}
use Rattle.tpol_goal.specs.declared.goal.Goal.{Goal}
use Rattle.tpol_goal.specs.Commands.{command_of_goal}
use Rattle.tpol_goal.specs.Entities.{index_of_handle, name_in_sight, name_of_handle, object_of_handle}
use Rattle.tpol_goal.specs.declared.goal.Goal.TheVariants as goals
use Rattle.tpol_goal.specs.Goals.{IsGoal, IsGoalAmong, code_of_goal, entity_of_goal, handles_of_goal}
use Rattle.tpol_hash.specs.Hmac.{hmac_sha256}
use Rattle.tpol_name.specs.declared.areas.ObjectPublic.{ObjectPublic}
use Rattle.tpol_name.specs.declared.entries.IndexEntry.{IndexEntry}
use Rattle.tpol_name.specs.declared.entries.ObjectEntry.{ObjectEntry}
use Rattle.tpol_name.specs.declared.setup.Setup.{Setup}
use Rattle.tpol_name.specs.Areas.{index_name, object_name, with_written}
use Rattle.tpol_name.specs.Directories.{directory_of}
use Rattle.tpol_name.specs.Setups.{IsAuthValue, IsSetup}
use Rattle.tpol_wire.specs.declared.auth_area.AuthArea.{AuthArea}
use Rattle.tpol_wire.specs.declared.auth_area.ReplyAuth.{ReplyAuth}
use Rattle.tpol_wire.specs.declared.command.Command.TheVariants as commands
use Rattle.tpol_wire.specs.declared.reply.Reply.{Reply}
use Rattle.tpol_wire.specs.declared.reply.Reply.TheVariants as replies
use Rattle.tpol_wire.specs.Authorizations.{AreaFits, ReplyAuthFits}
use Rattle.tpol_wire.specs.Commands.{FitsCommand, ValuesFit}
use Rattle.tpol_fields.specs.Kinds.{Fits}
use Rattle.tpol_wire.specs.Replies.{FitsReply, PartsAnswer, parts_of}
use Rattle.tpm_engine.specs.Stops.{handle_stop, handles_from}
use Rattle.tpm_engine.specs.Tables.{TableState}
use Rattle.tpm_engine.proofs.Stopping.{or_else-none}
use Rattle.tpm_nv.specs.Indices.{counter_rule}
use Rattle.tpm_nv.specs.Rules.{read_rule, write_rule}
use Rattle.tpm_rules.specs.Entity.{auth_value_of}
use Rattle.tpm_rules.specs.NvAuthority.{nv_authority_rule}
use Rattle.tpm_rules.specs.Objects.{duplicate_rule, hmac_rule, unseal_rule}
use Rattle.tpm_rules.specs.Rule.{or_else}
use Rattle.tpm_world.specs.Duplicate.{sensitive_of}
use Rattle.tpm_world.specs.Entities.{entity_at, name_at}
use Rattle.tpol_wire.specs.Hashes.{joined_names}
use Rattle.tpm_world.specs.Missing.{missing_index, missing_object}
use Rattle.tpm_world.specs.Plain.{plain_reply, plain_rule}
use Rattle.tpm_world.specs.World.{sight_of}
use Rattle.tpol_laws.proofs.Finds.{names-same}
use Rattle.tpol_laws.proofs.Fit.{index-kind, object-kind}
use Rattle.tpol_laws.proofs.GoalEntities.{IsThere, index-there, null-there, object-there}
use Rattle.tpol_laws.proofs.Heard.{IsAcceptance}
use Rattle.tpol_laws.proofs.Lasting.{IsKept}
use Rattle.tpol_laws.proofs.Named.{mapped}

-- ---- what holds of a goal that was judged

-- a reply to the goal's command, which is within the bounds of the wire with any area that is
pub record IsGoalReply (goal : Goal) (reply : Reply) : Type 0 where
  pub fits : (auth : ReplyAuth) → ReplyAuthFits auth → FitsReply reply (Some auth)
  pub answers : PartsAnswer (number_of_code (code_of_goal goal)) (parts_of reply)
  pub accepts : IsAcceptance reply

-- the Name that the entity has as it is, is the one that a directory lists
abbrev pub IsNameListed : Judged → Type 0
IsNameListed goal = is_same_name (name_as_is goal.found.handle goal.found.entity) (name_in_directory goal.found.handle goal.found.entity) ≡ true

pub record IsGoalAt (setup : Setup) (tables : TableState) (free : ℕ) (goal : Goal) (found : Judged) : Type 0 where
  pub handle : found.found.handle ≡ entity_of_goal goal
  pub entity : entity_at tables.world (entity_of_goal goal) ≡ Some found.found.entity
  pub value : IsAuthValue (auth_value_of found.found.entity)
  pub there : handles_from tables 1 (handles_of_goal goal) ≡ None
  pub seen : joined_names (name_at tables.world) (handles_of_goal goal) ≡ joined_names (name_in_sight (sight_of tables.world free)) (handles_of_goal goal)
  pub listed : IsNameListed found → joined_names (name_of_handle (directory_of setup)) (handles_of_goal goal) ≡ joined_names (name_at tables.world) (handles_of_goal goal)
  pub rule : (area : AuthArea) → plain_rule tables.world (command_of_goal goal area) ≡ found.rule
  pub fits : found.rule ≡ None → (area : AuthArea) → AreaFits area → FitsCommand (command_of_goal goal area)
  pub reply : (area : AuthArea) → IsGoalReply goal (plain_reply tables.world (command_of_goal goal area))

-- ---- what has a handle of a list

pub record FoundAmong {A : Type 0} (key : A → ℕ) (handle : ℕ) (xs : List A) : Type 0 where
  pub value : A
  pub is : find (λ x. nat_eq (key x) handle) xs ≡ Some value

pub found-place : {A : Type 0} (key : A → ℕ) (handle : ℕ) (xs : List A) (k : ℕ) → k < length (map key xs) → slice_index_or (map key xs) k handle ≡ handle → FoundAmong key handle xs
found-place key handle [] k within is = absurd (omega (arith, within))
found-place key handle (x ∷ xs) k within is = at (nat_eq (key x) handle) refl k within is (found-place key handle xs)
  where
    at : (b : Bool) → nat_eq (key x) handle ≡ b → (k : ℕ) → k < length (map key (x ∷ xs)) → slice_index_or (map key (x ∷ xs)) k handle ≡ handle
        → ((k : ℕ) → k < length (map key xs) → slice_index_or (map key xs) k handle ≡ handle → FoundAmong key handle xs)
        → FoundAmong key handle (x ∷ xs)
    at true e k within is later = record { value = x; is = ap (λ b. cond b (Some x) (find (λ y. nat_eq (key y) handle) xs)) e }
    at false e zero within is later = absurd (false≢true (sym e ∙ eq-eqb (key x) handle is))
    at false e (suc k) within is later =
        let rest = later k (omega (arith, within)) is in
        record { value = rest.value; is = ap (λ b. cond b (Some x) (find (λ y. nat_eq (key y) handle) xs)) e ∙ rest.is }

-- ---- one handle, and two

-- what names these alike joins the same Names
joined-one : (one other : ℕ → Name) (handle : ℕ) → one handle ≡ other handle → joined_names one (handle ∷ []) ≡ joined_names other (handle ∷ [])
unfolding joined_names
joined-one one other handle same = ap (λ name. name_bytes name ++ []) same

joined-two : (one other : ℕ → Name) (first second : ℕ) → one first ≡ other first → one second ≡ other second → joined_names one (first ∷ second ∷ []) ≡ joined_names other (first ∷ second ∷ [])
unfolding joined_names
joined-two one other first second same same_second =
    ap (λ name. name_bytes name ++ (name_bytes (one second) ++ [])) same
    ∙ ap (λ name. name_bytes (other first) ++ (name_bytes name ++ [])) same_second

module _ (setup : Setup) (tables : TableState) (free : ℕ) where
  free-one : (handle : ℕ) (now listed : Name) → IsThere setup tables free handle now listed → handles_from tables 1 (handle ∷ []) ≡ None
  free-one handle now listed at = ap (λ first. or_else first None) (at.is_free 1)

  free-two : (one two : ℕ) (now now_two listed listed_two : Name) → IsThere setup tables free one now listed → IsThere setup tables free two now_two listed_two → handles_from tables 1 (one ∷ two ∷ []) ≡ None
  free-two one two now now_two listed listed_two at at_two =
      ap (λ first. or_else first (or_else (handle_stop tables 2 two) None)) (at.is_free 1) ∙ ap (λ first. or_else first None) (at_two.is_free 2)

  -- the Names as the machine joins them are those of its sight
  seen-one : (handle : ℕ) (now listed : Name) → IsThere setup tables free handle now listed
      → joined_names (name_at tables.world) (handle ∷ []) ≡ joined_names (name_in_sight (sight_of tables.world free)) (handle ∷ [])
  seen-one handle now listed at = joined-one (name_at tables.world) (name_in_sight (sight_of tables.world free)) handle (at.is_now ∙ sym at.is_seen)

  seen-two : (one two : ℕ) (now now_two listed listed_two : Name) → IsThere setup tables free one now listed → IsThere setup tables free two now_two listed_two
      → joined_names (name_at tables.world) (one ∷ two ∷ []) ≡ joined_names (name_in_sight (sight_of tables.world free)) (one ∷ two ∷ [])
  seen-two one two now now_two listed listed_two at at_two =
      joined-two (name_at tables.world) (name_in_sight (sight_of tables.world free)) one two (at.is_now ∙ sym at.is_seen) (at_two.is_now ∙ sym at_two.is_seen)

  -- and those that are listed, where that is the same
  listed-one : (handle : ℕ) (now listed : Name) → IsThere setup tables free handle now listed → now ≡ listed
      → joined_names (name_of_handle (directory_of setup)) (handle ∷ []) ≡ joined_names (name_at tables.world) (handle ∷ [])
  listed-one handle now listed at same = joined-one (name_of_handle (directory_of setup)) (name_at tables.world) handle (at.is_listed ∙ sym same ∙ sym at.is_now)

  listed-two : (one two : ℕ) (now now_two listed listed_two : Name) → IsThere setup tables free one now listed → IsThere setup tables free two now_two listed_two → now ≡ listed → now_two ≡ listed_two
      → joined_names (name_of_handle (directory_of setup)) (one ∷ two ∷ []) ≡ joined_names (name_at tables.world) (one ∷ two ∷ [])
  listed-two one two now now_two listed listed_two at at_two same same_two =
      joined-two (name_of_handle (directory_of setup)) (name_at tables.world) one two (at.is_listed ∙ sym same ∙ sym at.is_now) (at_two.is_listed ∙ sym same_two ∙ sym at_two.is_now)

-- ---- bounds

-- a handle within the range of objects, or of indices
object-low : (handle : ℕ) → handle ≤ 0x80ffffff → handle < 2 ^ 32
object-low handle high = omega (arith, high)

index-low : (handle : ℕ) → handle ≤ 0x01ffffff → handle < 2 ^ 32
index-low handle high = omega (arith, high)

-- an index authorizes itself
authority-kind : (handle : ℕ) → 0x01000000 ≤ handle → handle ≤ 0x01ffffff → (nat_eq handle rh_owner || is_index handle) ≡ true
authority-kind handle low high = grind (arith, nat_tests, index-kind handle low high)

parent-kind : (handle : ℕ) → 0x80000000 ≤ handle → handle ≤ 0x80ffffff → (nat_eq handle rh_null || is_object handle) ≡ true
parent-kind handle low high = grind (arith, nat_tests, object-kind handle low high)

-- the test behind another one that is broken by a code
behind : (first test : Bool) (code other : ℕ) (rest : Option ℕ) → (if first then Some code else (if test then Some other else rest)) ≡ None → test ≡ false
behind true test code other rest none = absurd (none-some code (sym none))
behind false true code other rest none = absurd (none-some other (sym none))
behind false false code other rest none = refl

not-below : (a b : ℕ) → nat_lt a b ≡ false → b ≤ a
not-below a b h = grind (arith, nat_tests)

read-offset : (entry : IndexEntry) (offset size : ℕ) → read_rule entry offset size ≡ None → offset ≤ entry.public.size
read-offset entry offset size none = not-below entry.public.size offset (behind _ (nat_lt entry.public.size offset) _ _ _ none)

write-offset : (entry : IndexEntry) (offset count : ℕ) → write_rule entry offset count ≡ None → offset ≤ entry.public.size
write-offset entry offset count none = not-below entry.public.size offset (behind _ (nat_lt entry.public.size offset) _ _ _ none)

short-offset : (offset size : ℕ) → offset ≤ size → size ≤ 2048 → offset < 2 ^ 16
short-offset offset size below most = omega (arith, below, most)

pub unseal-fits : (object : ℕ) (area : AuthArea) → 0x80000000 ≤ object → object ≤ 0x80ffffff → AreaFits area → FitsCommand (commands.Unseal object area)
unfolding ValuesFit Fits
unseal-fits object area low high fits = record { handles = ((object-low object high, object-kind object low high), tt); area = fits; parameters = tt }

pub hmac-fits : (key : ℕ) (area : AuthArea) (buffer : List ℕ) → 0x80000000 ≤ key → key ≤ 0x80ffffff → AreaFits area → length buffer ≤ 1024 → FitsCommand (commands.Hmac key area buffer alg_sha256)
unfolding ValuesFit Fits
hmac-fits key area buffer low high fits short = record { handles = ((object-low key high, object-kind key low high), tt); area = fits; parameters = (short, ((omega arith, refl), tt)) }

pub read-fits : (index : ℕ) (area : AuthArea) (size offset : ℕ) → 0x01000000 ≤ index → index ≤ 0x01ffffff → AreaFits area → size ≤ 1024 → offset < 2 ^ 16 → FitsCommand (commands.NvRead index index area size offset)
unfolding ValuesFit Fits
read-fits index area size offset low high fits short few =
    let within : nat_le size 1024 ≡ true = grind (arith, nat_tests, short) in
    record {
      handles = ((index-low index high, authority-kind index low high), ((index-low index high, index-kind index low high), tt));
      area = fits;
      parameters = ((omega (arith, short), within), ((few, refl), tt));
    }

pub write-fits : (index : ℕ) (area : AuthArea) (bytes : List ℕ) (offset : ℕ) → 0x01000000 ≤ index → index ≤ 0x01ffffff → AreaFits area → length bytes ≤ 1024 → offset < 2 ^ 16 → FitsCommand (commands.NvWrite index index area bytes offset)
unfolding ValuesFit Fits
write-fits index area bytes offset low high fits short few = record {
  handles = ((index-low index high, authority-kind index low high), ((index-low index high, index-kind index low high), tt));
  area = fits;
  parameters = (short, ((few, refl), tt));
}

pub increment-fits : (index : ℕ) (area : AuthArea) → 0x01000000 ≤ index → index ≤ 0x01ffffff → AreaFits area → FitsCommand (commands.NvIncrement index index area)
unfolding ValuesFit Fits
increment-fits index area low high fits = record {
  handles = ((index-low index high, authority-kind index low high), ((index-low index high, index-kind index low high), tt));
  area = fits;
  parameters = tt;
}

pub duplicate-fits : (object parent : ℕ) (area : AuthArea) → 0x80000000 ≤ object → object ≤ 0x80ffffff → parent < 2 ^ 32 → (nat_eq parent rh_null || is_object parent) ≡ true → AreaFits area → FitsCommand (commands.Duplicate object parent area)
unfolding ValuesFit Fits
duplicate-fits object parent area low high few kind fits = record {
  handles = ((object-low object high, object-kind object low high), ((few, kind), tt));
  area = fits;
  parameters = (tt, (tt, tt));
}

-- ---- replies

unseal-reply : (object : ℕ) (secret : List ℕ) → length secret ≤ 128 → IsGoalReply (goals.Unseal object) (replies.Unseal secret)
unfolding ValuesFit Fits
unseal-reply object secret short = record { fits = λ auth fits. ((omega (arith, short), tt), fits); answers = refl; accepts = tt }

hmac-reply : (key : ℕ) (buffer : List ℕ) (digest : Digest32) → IsGoalReply (goals.Hmac key buffer) (replies.Hmac digest)
unfolding ValuesFit Fits
hmac-reply key buffer digest = record { fits = λ auth fits. ((tt, tt), fits); answers = refl; accepts = tt }

read-reply : (index size offset : ℕ) (content : List ℕ) → size ≤ 1024 → IsGoalReply (goals.NvRead index size offset) (replies.NvRead (take size (drop offset content)))
unfolding ValuesFit Fits
read-reply index size offset content short =
    let within : length (take size (drop offset content)) ≤ size = omega (arith, length-take size (drop offset content)) in
    record { fits = λ auth fits. ((omega (arith, within, short), tt), fits); answers = refl; accepts = tt }

write-reply : (index offset : ℕ) (bytes : List ℕ) → IsGoalReply (goals.NvWrite index offset bytes) replies.NvWrite
unfolding ValuesFit Fits
write-reply index offset bytes = record { fits = λ auth fits. (tt, fits); answers = refl; accepts = tt }

increment-reply : (index : ℕ) → IsGoalReply (goals.NvIncrement index) replies.NvIncrement
unfolding ValuesFit Fits
increment-reply index = record { fits = λ auth fits. (tt, fits); answers = refl; accepts = tt }

sized-length : (bytes : List ℕ) → length (sized bytes) ≡ length bytes + 2
sized-length bytes = omega arith

sensitive-short : (object : ObjectEntry) → length object.auth ≤ 32 → length object.secret ≤ 128 → length (sized (sensitive_of object)) ≤ 1024
sensitive-short object value secret =
    omega (arith, value, secret, length-append (object.auth ++ sized []) (sized object.secret), length-append object.auth (sized []))

duplicate-reply : (handle parent : ℕ) (object : ObjectEntry) → length object.auth ≤ 32 → length object.secret ≤ 128 → IsGoalReply (goals.Duplicate handle parent) (replies.Duplicate (sized (sensitive_of object)))
unfolding ValuesFit Fits
duplicate-reply handle parent object value secret = record { fits = λ auth fits. ((tt, (sensitive-short object value secret, (tt, tt))), fits); answers = refl; accepts = tt }

-- ---- each goal

abbrev pub judged_object : (ObjectPublic → Option ℕ) → ObjectEntry → Judged
judged_object rule entry = record { found = object_at entry; rule = rule entry.public }

module _ (setup : Setup) (is : IsSetup setup) (tables : TableState) (of : IsKept setup tables.world) (free : ℕ) where
  unseal-at : (object : ℕ) (found : Judged) → judged (sight_of tables.world free) (goals.Unseal object) ≡ Some found → IsGoalAt setup tables free (goals.Unseal object) found
  unseal-at object found h =
      let it = mapped (judged_object unseal_rule) (object_of_handle (sight_of tables.world free) object) found h in
      let at = object-there setup is tables of free object it.value it.is in
      subst (IsGoalAt setup tables free (goals.Unseal object)) it.gives (record {
        handle = at.same;
        entity = at.entity;
        value = at.value;
        there = free-one setup tables free object _ _ at.there;
        seen = seen-one setup tables free object _ _ at.there;
        listed = λ same. listed-one setup tables free object _ _ at.there refl;
        rule = λ area. ap (λ o. option_map_or (λ (entry : ObjectEntry). unseal_rule entry.public) o (Some missing_object)) at.is;
        fits = λ none area fits. unseal-fits object area at.low at.high fits;
        reply = λ area. subst (IsGoalReply (goals.Unseal object)) (sym (ap (λ o. option_map_or (λ (entry : ObjectEntry). replies.Unseal entry.secret) o (replies.Refused (record { code = missing_object }))) at.is))
            (unseal-reply object it.value.secret at.secret);
      })

  hmac-at : (key : ℕ) (buffer : List ℕ) (found : Judged) → length buffer ≤ 1024 → judged (sight_of tables.world free) (goals.Hmac key buffer) ≡ Some found → IsGoalAt setup tables free (goals.Hmac key buffer) found
  hmac-at key buffer found short h =
      let it = mapped (judged_object hmac_rule) (object_of_handle (sight_of tables.world free) key) found h in
      let at = object-there setup is tables of free key it.value it.is in
      subst (IsGoalAt setup tables free (goals.Hmac key buffer)) it.gives (record {
        handle = at.same;
        entity = at.entity;
        value = at.value;
        there = free-one setup tables free key _ _ at.there;
        seen = seen-one setup tables free key _ _ at.there;
        listed = λ same. listed-one setup tables free key _ _ at.there refl;
        rule = λ area. ap (λ o. option_map_or (λ (entry : ObjectEntry). hmac_rule entry.public) o (Some missing_object)) at.is;
        fits = λ none area fits. hmac-fits key area buffer at.low at.high fits short;
        reply = λ area. subst (IsGoalReply (goals.Hmac key buffer)) (sym (ap (λ o. option_map_or (λ (entry : ObjectEntry). replies.Hmac (hmac_sha256 entry.secret buffer)) o (replies.Refused (record { code = missing_object }))) at.is))
            (hmac-reply key buffer (hmac_sha256 it.value.secret buffer));
      })

  -- what holds of an index that authorizes itself
  index-listed : (index : ℕ) (entry : IndexEntry) → IsThere setup tables free index (index_name entry.public) (index_name (with_written entry.public)) → is_same_name (index_name entry.public) (index_name (with_written entry.public)) ≡ true
      → joined_names (name_of_handle (directory_of setup)) (index ∷ index ∷ []) ≡ joined_names (name_at tables.world) (index ∷ index ∷ [])
  index-listed index entry at same =
      let one = names-same (index_name entry.public) (index_name (with_written entry.public)) same in
      listed-two setup tables free index index _ _ _ _ at at one one

  read-at : (index size offset : ℕ) (found : Judged) → size ≤ 1024 → judged (sight_of tables.world free) (goals.NvRead index size offset) ≡ Some found → IsGoalAt setup tables free (goals.NvRead index size offset) found
  read-at index size offset found short h =
      let it = mapped (on_index codes.NvRead (λ entry. read_rule entry offset size)) (index_of_handle (sight_of tables.world free) index) found h in
      let at = index-there setup is tables of free index it.value it.is in
      subst (IsGoalAt setup tables free (goals.NvRead index size offset)) it.gives (record {
        handle = at.same;
        entity = at.entity;
        value = at.value;
        there = free-two setup tables free index index _ _ _ _ at.there at.there;
        seen = seen-two setup tables free index index _ _ _ _ at.there at.there;
        listed = index-listed index it.value at.there;
        rule = λ area.
            ap (λ o. option_map_or (λ (entry : IndexEntry). or_else (nv_authority_rule index entry.public (number_of_code codes.NvRead)) (read_rule entry offset size)) o (Some missing_index)) at.is
            ∙ ap (λ handle. or_else (nv_authority_rule handle it.value.public (number_of_code codes.NvRead)) (read_rule it.value offset size)) (sym at.same);
        fits = λ none area fits. read-fits index area size offset at.low at.high fits short
            (short-offset offset it.value.public.size (read-offset it.value offset size (or_else-none (nv_authority_rule it.value.public.index it.value.public (number_of_code codes.NvRead)) (read_rule it.value offset size) none).1) at.size);
        reply = λ area. subst (IsGoalReply (goals.NvRead index size offset)) (sym (ap (λ o. option_map_or (λ (entry : IndexEntry). replies.NvRead (take size (drop offset entry.content))) o (replies.Refused (record { code = missing_index }))) at.is))
            (read-reply index size offset it.value.content short);
      })

  write-at : (index offset : ℕ) (bytes : List ℕ) (found : Judged) → length bytes ≤ 1024 → judged (sight_of tables.world free) (goals.NvWrite index offset bytes) ≡ Some found → IsGoalAt setup tables free (goals.NvWrite index offset bytes) found
  write-at index offset bytes found short h =
      let it = mapped (on_index codes.NvWrite (λ entry. write_rule entry offset (length bytes))) (index_of_handle (sight_of tables.world free) index) found h in
      let at = index-there setup is tables of free index it.value it.is in
      subst (IsGoalAt setup tables free (goals.NvWrite index offset bytes)) it.gives (record {
        handle = at.same;
        entity = at.entity;
        value = at.value;
        there = free-two setup tables free index index _ _ _ _ at.there at.there;
        seen = seen-two setup tables free index index _ _ _ _ at.there at.there;
        listed = index-listed index it.value at.there;
        rule = λ area.
            ap (λ o. option_map_or (λ (entry : IndexEntry). or_else (nv_authority_rule index entry.public (number_of_code codes.NvWrite)) (write_rule entry offset (length bytes))) o (Some missing_index)) at.is
            ∙ ap (λ handle. or_else (nv_authority_rule handle it.value.public (number_of_code codes.NvWrite)) (write_rule it.value offset (length bytes))) (sym at.same);
        fits = λ none area fits. write-fits index area bytes offset at.low at.high fits short
            (short-offset offset it.value.public.size (write-offset it.value offset (length bytes) (or_else-none (nv_authority_rule it.value.public.index it.value.public (number_of_code codes.NvWrite)) (write_rule it.value offset (length bytes)) none).1) at.size);
        reply = λ area. write-reply index offset bytes;
      })

  increment-at : (index : ℕ) (found : Judged) → judged (sight_of tables.world free) (goals.NvIncrement index) ≡ Some found → IsGoalAt setup tables free (goals.NvIncrement index) found
  increment-at index found h =
      let it = mapped (on_index codes.NvIncrement (counting_rule (sight_of tables.world free))) (index_of_handle (sight_of tables.world free) index) found h in
      let at = index-there setup is tables of free index it.value it.is in
      subst (IsGoalAt setup tables free (goals.NvIncrement index)) it.gives (record {
        handle = at.same;
        entity = at.entity;
        value = at.value;
        there = free-two setup tables free index index _ _ _ _ at.there at.there;
        seen = seen-two setup tables free index index _ _ _ _ at.there at.there;
        listed = index-listed index it.value at.there;
        rule = λ area.
            ap (λ o. option_map_or (λ (entry : IndexEntry). or_else (nv_authority_rule index entry.public (number_of_code codes.NvIncrement)) (counter_rule tables.world.indices entry)) o (Some missing_index)) at.is
            ∙ ap (λ handle. or_else (nv_authority_rule handle it.value.public (number_of_code codes.NvIncrement)) (counter_rule tables.world.indices it.value)) (sym at.same);
        fits = λ none area fits. increment-fits index area at.low at.high fits;
        reply = λ area. increment-reply index;
      })

  -- what is at the handle of a parent: an object, or the null hierarchy
  pub record IsParentAt (handle : ℕ) : Type 0 where
    pub name : Name
    pub there : IsThere setup tables free handle name name
    pub low : handle < 2 ^ 32
    pub kind : (nat_eq handle rh_null || is_object handle) ≡ true

  pub parent-at : (handle : ℕ) → (handle ≡ rh_null) ⊎ Contains (map (λ (o : ObjectEntry). o.handle) setup.objects) handle → IsParentAt handle
  parent-at handle (inl null) = subst IsParentAt (sym null) (record { name = Handle rh_null; there = null-there setup is tables of free; low = omega arith; kind = refl })
  parent-at handle (inr among) =
      let it = found-place (λ (o : ObjectEntry). o.handle) handle setup.objects among.0 among.1 among.2 in
      let at = object-there setup is tables of free handle it.value (ap (find (λ (o : ObjectEntry). nat_eq o.handle handle)) of.objects ∙ it.is) in
      record { name = object_name it.value.public; there = at.there; low = object-low handle at.high; kind = parent-kind handle at.low at.high }

  duplicate-at : (object parent : ℕ) (found : Judged) → (parent ≡ rh_null) ⊎ Contains (map (λ (o : ObjectEntry). o.handle) setup.objects) parent
      → judged (sight_of tables.world free) (goals.Duplicate object parent) ≡ Some found → IsGoalAt setup tables free (goals.Duplicate object parent) found
  duplicate-at object parent found among h =
      let it = mapped (judged_object duplicate_rule) (object_of_handle (sight_of tables.world free) object) found h in
      let at = object-there setup is tables of free object it.value it.is in
      let to = parent-at parent among in
      subst (IsGoalAt setup tables free (goals.Duplicate object parent)) it.gives (record {
        handle = at.same;
        entity = at.entity;
        value = at.value;
        there = free-two setup tables free object parent _ _ _ _ at.there to.there;
        seen = seen-two setup tables free object parent _ _ _ _ at.there to.there;
        listed = λ same. listed-two setup tables free object parent _ _ _ _ at.there to.there refl refl;
        rule = λ area. ap (λ o. option_map_or (λ (entry : ObjectEntry). duplicate_rule entry.public) o (Some missing_object)) at.is;
        fits = λ none area fits. duplicate-fits object parent area at.low at.high to.low to.kind fits;
        reply = λ area. subst (IsGoalReply (goals.Duplicate object parent)) (sym (ap (λ o. option_map_or (λ (entry : ObjectEntry). replies.Duplicate (sized (sensitive_of entry))) o (replies.Refused (record { code = missing_object }))) at.is))
            (duplicate-reply object parent it.value at.value.size at.secret);
      })

  pub goal-at : (goal : Goal) (found : Judged) → IsGoal goal → IsGoalAmong (map (λ (o : ObjectEntry). o.handle) setup.objects) (map (λ (i : IndexEntry). i.public.index) setup.indices) goal
      → judged (sight_of tables.world free) goal ≡ Some found → IsGoalAt setup tables free goal found
  goal-at (goals.Unseal object) found fits among h = unseal-at object found h
  goal-at (goals.Hmac key buffer) found fits among h = hmac-at key buffer found fits h
  goal-at (goals.NvRead index size offset) found fits among h = read-at index size offset found fits h
  goal-at (goals.NvWrite index offset bytes) found fits among h = write-at index offset bytes found fits h
  goal-at (goals.NvIncrement index) found fits among h = increment-at index found h
  goal-at (goals.Duplicate object parent) found fits among h = duplicate-at object parent found among.1 h
