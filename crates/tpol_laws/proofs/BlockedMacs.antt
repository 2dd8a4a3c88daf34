-- The field hmac of the goal's command: where the machine finds the value proved, who chooses finds it too, or the
-- HMAC is right by chance.
use Rattle.std.proofs.Common.{◌≡◌, ◌⊎◌, inl, inr, ℕ, ◌&&◌, ◌||◌, Bool, true, false, List, [], ◌∷◌, length, nat_eq, if◌then◌else◌, refl, ap, sym, ◌∙◌, arith}
use Rattle.std.specs.Str.{bytes_eq}
use Rattle.tpm_auth.specs.Passwords.{is_password}
use Rattle.tpm_auth.specs.SessionMacs.{command_mac, is_command_mac}
use Rattle.tpm_bindings.specs.declared.last_auth.LastAuth.{LastAuth}
use Rattle.tpm_bindings.specs.declared.last_auth.LastAuth.TheVariants as lasts
use Rattle.tpm_rules.specs.AuthValue.{proves}
use Rattle.tpm_rules.specs.Entity.{auth_value_of}
use Rattle.tpol_base.specs.declared.digest.Digest32.{Digest32}
use Rattle.tpol_base.specs.Name.{is_same_name}
use Rattle.tpol_choose.specs.Entities.{EntityAt, name_as_is, name_in_directory}
use Rattle.tpol_choose.specs.Goals.{proves as is_planned}
use Rattle.tpol_choose.specs.Keys.{is_same_block}
use Rattle.tpol_base.proofs.Digests.{same_digest as digest-same}
use Rattle.tpol_driver.specs.declared.plan.Plan.{Plan}
use Rattle.tpol_driver.specs.declared.session.Session.{Session}
use Rattle.tpol_driver.specs.Commands.{caller_nonce}
use Rattle.tpol_driver.specs.GoalUse.{auth_of_path, goal_hmac, goal_secret, hmac_by, unless_empty}
use Rattle.tpol_goal.specs.Goals.{entity_of_goal}
use Rattle.tpol_goal.specs.Grants.{secret_of}
use Rattle.tpol_hash.specs.Hmac.{block_key}
use Rattle.tpol_name.specs.Setups.{IsAuthValue}
use Rattle.tpol_laws.specs.Chances.{mac_made}
use Rattle.tpol_laws.proofs.GoalKeys.{bytes-same, same-bytes}
use Rattle.tpol_laws.proofs.GoalMacs.{field, hmac-value, secret-same, some-bytes, whole-bytes}

-- ---- an HMAC, or none

-- a field that is right was left out, as both keys are empty, or it is the HMAC that is asked for
abbrev IsJudged : List ℕ → List ℕ → Digest32 → Digest32 → Type 0
IsJudged given value made asked = ((nat_eq (length given) 0 ≡ true) × (is_same_block given value ≡ true)) ⊎ ((unless_empty given made ≡ made.bytes) × (made ≡ asked))

no-bytes : (digest : Digest32) → bytes_eq [] digest.bytes ≡ true → ⊥
no-bytes digest h =
    let none : 0 ≡ length digest.bytes = ap length (bytes-same [] digest.bytes h) in
    absurd (omega (arith, none, digest.whole))

and-false : (a : Bool) → (a && false) ≡ false
and-false true = refl
and-false false = refl

mac-judged : (given value : List ℕ) (made asked : Digest32)
    → ((nat_eq (length value) 0 && nat_eq (length (unless_empty given made)) 0) || bytes_eq (unless_empty given made) asked.bytes) ≡ true → IsJudged given value made asked
mac-judged [] [] made asked right = inl (refl, same-bytes (block_key []))
mac-judged [] (byte ∷ value) made asked right =
    absurd (no-bytes asked (sym (ap (λ b. (b && true) || bytes_eq [] asked.bytes) (some-bytes byte value)) ∙ right))
mac-judged (byte ∷ given) value made asked right =
    let whole : unless_empty (byte ∷ given) made ≡ made.bytes = ap (λ b. if b then [] else made.bytes) (some-bytes byte given) in
    let is : bytes_eq made.bytes asked.bytes ≡ true =
    sym (ap (λ (bytes : List ℕ). (nat_eq (length value) 0 && nat_eq (length bytes) 0) || bytes_eq bytes asked.bytes) whole
    ∙ ap (λ b. (nat_eq (length value) 0 && b) || bytes_eq made.bytes asked.bytes) (whole-bytes made)
    ∙ ap (λ b. b || bytes_eq made.bytes asked.bytes) (and-false (nat_eq (length value) 0))) ∙ right in
    inr (whole, digest-same made asked (bytes-same made.bytes asked.bytes is))

-- ---- the goal's field

module _ (plan : Plan) (session : Session) (sent : ℕ) (found : EntityAt) (handle : found.handle ≡ entity_of_goal plan.goal) (value : IsAuthValue (auth_value_of found.entity)) where
  abbrev caller : Digest32
  caller = caller_nonce plan.nonce_seed sent

  -- the HMAC is right though who chooses finds it wrong
  pub record IsAlike (over nonce : Digest32) : Type 0 where
    pub sends : goal_hmac plan session caller ≡ (mac_made plan session sent).bytes
    pub apart : (is_same_block (goal_secret plan) (auth_value_of found.entity) ≡ false) ⊎ (is_same_name (name_as_is found.handle found.entity) (name_in_directory found.handle found.entity) ≡ false)
    pub same : mac_made plan session sent ≡ command_mac (auth_value_of found.entity) over caller.bytes nonce 0

  -- by an empty value
  left-out : (given : List ℕ) → secret_of plan.grants.secrets found.handle ≡ given → nat_eq (length given) 0 ≡ true → is_same_block given (auth_value_of found.entity) ≡ true
      → is_planned plan.grants found lasts.AuthValue ≡ true
  left-out given same empty block =
      ap (λ (key : List ℕ). is_same_block key (auth_value_of found.entity) && (nat_eq (length key) 0 || is_same_name (name_as_is found.handle found.entity) (name_in_directory found.handle found.entity))) same
      ∙ ap (λ b. b && (nat_eq (length given) 0 || is_same_name (name_as_is found.handle found.entity) (name_in_directory found.handle found.entity))) block
      ∙ ap (λ b. b || is_same_name (name_as_is found.handle found.entity) (name_in_directory found.handle found.entity)) empty

  or-true : (a : Bool) → (a || true) ≡ true
  or-true true = refl
  or-true false = refl

  by-keys : (over nonce : Digest32) → goal_hmac plan session caller ≡ (mac_made plan session sent).bytes → mac_made plan session sent ≡ command_mac (auth_value_of found.entity) over caller.bytes nonce 0
      → (block : Bool) → is_same_block (goal_secret plan) (auth_value_of found.entity) ≡ block
      → (name : Bool) → is_same_name (name_as_is found.handle found.entity) (name_in_directory found.handle found.entity) ≡ name
      → (is_planned plan.grants found lasts.AuthValue ≡ true) ⊎ IsAlike over nonce
  by-keys over nonce sends same false eb name en = inr (record { sends = sends; apart = inl eb; same = same })
  by-keys over nonce sends same true eb false en = inr (record { sends = sends; apart = inr en; same = same })
  by-keys over nonce sends same true eb true en =
      inl (ap (λ (key : List ℕ). is_same_block key (auth_value_of found.entity) && (nat_eq (length key) 0 || is_same_name (name_as_is found.handle found.entity) (name_in_directory found.handle found.entity))) (secret-same plan session sent found handle value)
      ∙ ap (λ b. b && (nat_eq (length (goal_secret plan)) 0 || is_same_name (name_as_is found.handle found.entity) (name_in_directory found.handle found.entity))) eb
      ∙ ap (λ b. nat_eq (length (goal_secret plan)) 0 || b) en ∙ or-true (nat_eq (length (goal_secret plan)) 0))

  pub field-judged : (last : LastAuth) (over nonce : Digest32) → auth_of_path plan.path.moves ≡ last
      → proves (field plan session sent found handle value over nonce) (auth_value_of found.entity) last ≡ true → (is_planned plan.grants found last ≡ true) ⊎ IsAlike over nonce
  field-judged lasts.Neither over nonce same right = inl refl
  field-judged lasts.Password over nonce same right =
      inl (sym (ap (λ (h : List ℕ). is_password (auth_value_of found.entity) h) (ap (λ a. hmac_by a plan session caller) same ∙ sym (secret-same plan session sent found handle value))) ∙ right)
  field-judged lasts.AuthValue over nonce same right =
      let asked = command_mac (auth_value_of found.entity) over caller.bytes nonce 0 in
      let made = hmac-value plan session sent found handle value same in
      at (mac-judged (goal_secret plan) (auth_value_of found.entity) (mac_made plan session sent) asked
      (sym (ap (λ (h : List ℕ). is_command_mac (auth_value_of found.entity) over caller.bytes nonce 0 h) made) ∙ right)) made
    where
      at : IsJudged (goal_secret plan) (auth_value_of found.entity) (mac_made plan session sent) (command_mac (auth_value_of found.entity) over caller.bytes nonce 0)
          → goal_hmac plan session caller ≡ unless_empty (goal_secret plan) (mac_made plan session sent)
          → (is_planned plan.grants found lasts.AuthValue ≡ true) ⊎ IsAlike over nonce
      at (inl none) made = inl (left-out (goal_secret plan) (secret-same plan session sent found handle value) none.0 none.1)
      at (inr one) made =
          by-keys over nonce (made ∙ one.0) one.1 (is_same_block (goal_secret plan) (auth_value_of found.entity)) refl
          (is_same_name (name_as_is found.handle found.entity) (name_in_directory found.handle found.entity)) refl
