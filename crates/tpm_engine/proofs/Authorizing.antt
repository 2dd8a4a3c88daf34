-- How a command is authorized by a policy session, and the area of the reply to it.
use Rattle.std.proofs.Common.{◌≡◌, ◌≢◌, ℕ, ◌==◌, false, ◌&&◌, ◌||◌, List, [], ◌∷◌, length, Option, Some, Result, IfOk, nat_eq, if◌then◌else◌, refl, ap, sym, subst, ◌∙◌}
use Rattle.std.specs.Option.{option_map, option_map_or}
use Rattle.std.specs.Str.{bytes_eq}
use Rattle.std.proofs.lemmas.Option.{same_Some}
use Rattle.tpol_base.specs.declared.digest.Digest32.{Digest32}
use Rattle.tpol_base.specs.Digest.{is_same_digest}
use Rattle.tpol_base.specs.Handle.{rs_pw}
use Rattle.tpol_base.specs.ResponseCode.{rc_reference_s0}
use Rattle.tpol_tree.specs.declared.facts.Fact.{Fact}
use Rattle.tpol_wire.specs.declared.auth_area.AuthArea.{AuthArea}
use Rattle.tpol_wire.specs.declared.auth_area.ReplyAuth.{ReplyAuth}
use Rattle.tpol_wire.specs.declared.command.Command.{Command}
use Rattle.tpol_wire.specs.declared.reply.Reply.{Reply}
use Rattle.tpm_auth.specs.SessionMacs.{command_mac, reply_mac}
use Rattle.tpm_bindings.specs.declared.last_auth.LastAuth.{LastAuth}
use Rattle.tpm_bindings.specs.declared.last_auth.LastAuth.TheVariants.{AuthValue, Neither, Password}
use Rattle.tpm_bindings.specs.Facts.{cp_hashes_of, every_cp_hash, last_auth, limits_of, moves_of, sets_cp_hash}
use Rattle.tpm_bindings.specs.Held.{all_are, any_of}
use Rattle.tpm_bindings.specs.State.{SessionState}
use Rattle.tpm_rules.specs.AuthValue.{Field, is_mac, proves}
use Rattle.tpm_rules.specs.Entity.{Entity, auth_value_of}
use Rattle.tpm_session.specs.Kept.{SessionView}
use Rattle.tpm_session.specs.Slots.{session_at, state_at}
use Rattle.tpm_session.proofs.Slots.{found-state}
use Rattle.tpol_wire.specs.Hashes.{rp_hash}
use Rattle.tpm_world.specs.Hashes.{cp_hash, nonce_of_event}
use Rattle.tpm_engine.specs.Authorization.{PassesForCpHash, entity_stop, field_of, number_of_command, password_stop, policy_stop, reply_hmac, session_area}
use Rattle.tpm_engine.specs.Stops.{refuses}
use Rattle.tpm_engine.specs.Tables.{TableState}
use borrow.Author.Tests.{ne_eqb}

-- what is equal to one of two equals
pub ok-equal : {A E : Type 0} (result : Result A E) (x y : A) → x ≡ y → IfOk result (λ z. z ≡ x) → IfOk result (λ z. z ≡ y)
ok-equal result x y same h = subst (λ w. IfOk result (λ z. z ≡ w)) same h

pub entity-session : (tables : TableState) (locality : ℕ) (command : Command) (area : AuthArea) (entity : Entity) (session : SessionView)
    → area.session ≢ rs_pw → Some session ≡ session_at tables.sessions area.session
    → policy_stop tables locality command area entity session.state ≡ entity_stop tables locality command area entity
entity-session tables locality command area entity session other found =
    let no : nat_eq area.session rs_pw ≡ false = ne_eqb area.session rs_pw other in
    sym (ap (λ b. if b then password_stop entity (number_of_command command) area.hmac
    else option_map_or (policy_stop tables locality command area entity) (state_at tables.sessions area.session) (Some (refuses rc_reference_s0))) no
    ∙ ap (λ (state : Option SessionState). option_map_or (policy_stop tables locality command area entity) state (Some (refuses rc_reference_s0)))
    (found-state tables.sessions area.session session found).1)

abbrev pub area_of_parts : List ℕ → ℕ → List ℕ → ReplyAuth
area_of_parts nonce attributes hmac = record { nonce = nonce; attributes = attributes; hmac = hmac }

pub session-area : (tables : TableState) (number : ℕ) (command : Command) (reply : Reply) (area : AuthArea) (entity : Entity) (state : SessionState)
    (nonce : Digest32) (last : LastAuth) (value : List ℕ) (code : ℕ) (bytes hmac : List ℕ)
    → nonce ≡ nonce_of_event tables.world.seed number → last ≡ last_auth state.facts → value ≡ auth_value_of entity → code ≡ number_of_command command
    → bytes ≡ nonce.bytes → hmac ≡ reply_hmac last value area.hmac (λ key. reply_mac key (rp_hash code reply) nonce area.nonce area.attributes)
    → area_of_parts bytes area.attributes hmac ≡ session_area tables number command reply area entity state
session-area tables number command reply area entity state nonce last value code bytes hmac n l v c b h =
    ap (λ (x : List ℕ). area_of_parts x area.attributes hmac) (b ∙ ap (λ (d : Digest32). d.bytes) n)
    ∙ (ap (area_of_parts (nonce_of_event tables.world.seed number).bytes area.attributes)
    (h ∙ (ap (λ (d : Digest32). reply_hmac last value area.hmac (λ key. reply_mac key (rp_hash code reply) d area.nonce area.attributes)) n
    ∙ (ap (λ (k : ℕ). reply_hmac last value area.hmac (λ key. reply_mac key (rp_hash k reply) (nonce_of_event tables.world.seed number) area.nonce area.attributes)) c
    ∙ (ap (λ (w : List ℕ). reply_hmac last w area.hmac (mac tables number command reply area)) v
    ∙ ap (λ (a : LastAuth). reply_hmac a (auth_value_of entity) area.hmac (mac tables number command reply area)) l)))))
  where
    mac : TableState → ℕ → Command → Reply → AuthArea → List ℕ → Digest32
    mac tables number command reply area key = reply_mac key (rp_hash (number_of_command command) reply) (nonce_of_event tables.world.seed number) area.nonce area.attributes

-- the facts of a session that is found
pub used-facts : (slots : List (Option SessionState)) (handle : ℕ) (session : SessionView) (facts : List Fact) → Some session ≡ session_at slots handle
    → option_map (λ state. state.facts) (state_at slots handle) ≡ Some facts → session.state.facts ≡ facts
used-facts slots handle session facts found used =
    same_Some _ _ (sym (ap (option_map (λ (state : SessionState). state.facts)) (found-state slots handle session found).1) ∙ used)

-- ---- where no cpHash is asked for

-- where no fact sets one, each that is set is any digest
unset-cp_hash : (facts : List Fact) (given other : Digest32) → sets_cp_hash facts ≡ false → every_cp_hash facts given ≡ every_cp_hash facts other
unset-cp_hash facts given other none = at (cp_hashes_of (moves_of facts)) (limits_of facts) none
  where
    at : (set limits : List Digest32) → (any_of set || any_of limits) ≡ false
        → (all_are is_same_digest given set && all_are is_same_digest given limits) ≡ (all_are is_same_digest other set && all_are is_same_digest other limits)
    at [] [] none = refl
    at [] (limit ∷ limits) none = cc none
    at (digest ∷ set) limits none = cc none

-- a field hmac that is empty proves a value or not, whatever the cpHash is: no digest is empty

no-digest : (a b : Digest32) → bytes_eq [] a.bytes ≡ bytes_eq [] b.bytes
no-digest a b = empty-differs a.bytes a.whole ∙ sym (empty-differs b.bytes b.whole)
  where
    empty-differs : (bytes : List ℕ) → length bytes ≡ 32 → bytes_eq [] bytes ≡ false
    empty-differs [] whole = cc whole
    empty-differs (byte ∷ bytes) whole = refl

same-mac : (field : Field) (given : Digest32) → field.hmac ≡ [] → (key : List ℕ) → is_mac (record field { cp_hash = given }) key ≡ is_mac field key
same-mac field given empty key =
    ap (λ right. (length key == 0 && length field.hmac == 0) || right)
    (subst (λ (hmac : List ℕ). bytes_eq hmac (mac_over given).bytes ≡ bytes_eq hmac (mac_over field.cp_hash).bytes) (sym empty)
    (no-digest (mac_over given) (mac_over field.cp_hash)))
  where
    mac_over : Digest32 → Digest32
    mac_over hash = command_mac key hash field.nonce_caller field.nonce_tpm field.attributes

empty-field : (field : Field) (given : Digest32) → field.hmac ≡ [] → (value : List ℕ) (last : LastAuth)
    → proves (record field { cp_hash = given }) value last ≡ proves field value last
empty-field field given empty value Password = refl
empty-field field given empty value AuthValue = same-mac field given empty value
empty-field field given empty value Neither = same-mac field given empty []

pub unread-cp_hash : (tables : TableState) (command : Command) (area : AuthArea) (state : SessionState) (digest : Digest32)
    → area.hmac ≡ [] → sets_cp_hash state.facts ≡ false → PassesForCpHash tables command area state digest
unread-cp_hash tables command area state digest empty none = record {
  set = unset-cp_hash state.facts digest (cp_hash tables.world command) none;
  proved = empty-field (field_of tables command area state) digest empty;
}
