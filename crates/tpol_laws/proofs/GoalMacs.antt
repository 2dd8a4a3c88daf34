-- The field hmac of the goal's command and that of its reply: where who plans finds the value proved, the machine
-- finds it too, and the run finds the reply's right.
use Rattle.std.proofs.Common.{◌≡◌, ◌≤◌, ℕ, ◌&&◌, ◌||◌, Bool, true, false, List, [], ◌∷◌, ◌++◌, fold, length, map, nat_eq, if◌then◌else◌, refl, ap, sym, subst, ◌∙◌, arith}
use Rattle.std.specs.Str.{bytes_eq}
use Rattle.std.proofs.lemmas.Bool.{eq-eqb}
use Rattle.std.proofs.lemmas.Bool.Decides.{nat_tests}
use Rattle.std.proofs.lemmas.List.{append-nil, append_assoc}
use Rattle.std.proofs.lemmas.List.Sums.{fold-append}
use Rattle.tpm_auth.specs.Passwords.{is_password}
use Rattle.tpm_auth.specs.SessionMacs.{command_mac, is_command_mac, reply_mac}
use Rattle.tpm_bindings.specs.declared.last_auth.LastAuth.{LastAuth}
use Rattle.tpm_bindings.specs.declared.last_auth.LastAuth.TheVariants as lasts
use Rattle.tpm_bindings.specs.Facts.{auth_in, auths_of, in_assertion, last_auth, moves_of}
use Rattle.tpm_bindings.specs.Held.{listed}
use Rattle.tpm_bindings.specs.State.{SessionState}
use Rattle.tpm_bindings.proofs.Merging.{each_move-push}
use Rattle.tpm_engine.specs.Authorization.{reply_hmac}
use Rattle.tpm_rules.specs.AuthValue.{Field, proves}
use Rattle.tpm_rules.specs.Entity.{auth_value_of}
use Rattle.tpol_base.specs.declared.digest.Digest32.{Digest32}
use Rattle.tpol_base.specs.Digest.{digest_of_bytes}
use Rattle.tpol_base.specs.Name.{is_same_name}
use Rattle.tpol_base.proofs.Digests.{digest_again}
use Rattle.tpol_choose.specs.Entities.{EntityAt, name_as_is, name_in_directory}
use Rattle.tpol_choose.specs.Facts.{fact_of_move, session_after, session_along}
use Rattle.tpol_choose.specs.Goals.{proves as is_planned}
use Rattle.tpol_choose.specs.Keys.{is_same_block}
use Rattle.tpol_driver.specs.declared.plan.Plan.{Plan}
use Rattle.tpol_driver.specs.declared.session.Session.{Session}
use Rattle.tpol_driver.specs.Commands.{caller_nonce}
use Rattle.tpol_driver.specs.GoalUse.{auth_of_path, bare_fact, goal_hmac, goal_secret, hmac_by, is_right_area, mac_key, mac_key_by, plan_cp_hash, plan_rp_hash, right_hmac, unless_empty}
use Rattle.tpol_goal.specs.Goals.{entity_of_goal}
use Rattle.tpol_goal.specs.Grants.{secret_of}
use Rattle.tpol_hash.specs.Hmac.{block_key}
use Rattle.tpol_name.specs.declared.sight.Sight.{Sight}
use Rattle.tpol_name.specs.Setups.{IsAuthValue}
use Rattle.tpol_tree.specs.declared.closed.Assertion.TheVariants as assertions
use Rattle.tpol_tree.specs.declared.facts.Fact.{Fact}
use Rattle.tpol_tree.specs.declared.path.Move.{Move}
use Rattle.tpol_tree.specs.declared.path.Move.TheVariants.{Assert}
use Rattle.tpol_wire.specs.declared.reply.Reply.{Reply}
use Rattle.tpol_laws.proofs.Finds.{both}
use Rattle.tpol_laws.proofs.GoalKeys.{bytes-same, no-value, same-bytes}
use Rattle.tpol_laws.proofs.SameKeys.{same-mac}

-- ---- how the value is to be proved, as a session's facts and as a path ask for

-- what a move asks for, its fact asks for
auth-in : (sight : Sight) (session : SessionState) (act : Move) → in_assertion auth_in (fact_of_move sight session act).act ≡ in_assertion auth_in act
auth-in sight session (Assert assertions.AuthValue) = refl
auth-in sight session act = refl

last-push : (facts : List Fact) (fact : Fact) → last_auth (facts ++ fact ∷ []) ≡ fold (λ (before auth : LastAuth). auth) (last_auth facts) (listed (in_assertion auth_in fact.act))
last-push facts fact =
    ap (fold (λ (before auth : LastAuth). auth) lasts.Neither) (each_move-push (in_assertion auth_in) facts fact)
    ∙ fold-append (λ (before auth : LastAuth). auth) lasts.Neither (auths_of (moves_of facts)) (listed (in_assertion auth_in fact.act))

-- behind facts that ask alike, the facts of moves do
pub auth-along : (sight : Sight) (moves : List Move) (session : SessionState) (facts : List Fact) → last_auth session.facts ≡ last_auth facts
    → last_auth (session_along sight session moves).facts ≡ last_auth (facts ++ map bare_fact moves)
auth-along sight [] session facts same = same ∙ ap last_auth (sym (append-nil facts))
auth-along sight (act ∷ moves) session facts same =
    auth-along sight moves (session_after sight session act) (facts ++ bare_fact act ∷ [])
    (last-push session.facts (fact_of_move sight session act)
    ∙ ap (λ last. fold (λ (before auth : LastAuth). auth) last (listed (in_assertion auth_in (fact_of_move sight session act).act))) same
    ∙ ap (λ asked. fold (λ (before auth : LastAuth). auth) (last_auth facts) (listed asked)) (auth-in sight session act)
    ∙ sym (last-push facts (bare_fact act)))
    ∙ ap last_auth (append_assoc facts (bare_fact act ∷ []) (map bare_fact moves))

-- ---- with one key or another

or-true : (a : Bool) → (a || true) ≡ true
or-true true = refl
or-true false = refl

pub some-bytes : (byte : ℕ) (key : List ℕ) → nat_eq (length (byte ∷ key)) 0 ≡ false
some-bytes byte key = grind (arith, nat_tests)

pub whole-bytes : (digest : Digest32) → nat_eq (length digest.bytes) 0 ≡ false
whole-bytes digest = ap (λ n. nat_eq n 0) digest.whole

-- the machine finds right what was made with a key of the same block
mac-right : (given value : List ℕ) (made_over over : Digest32) (nonce_caller : List ℕ) (known nonce : Digest32) → IsAuthValue value → is_same_block given value ≡ true
    → (nat_eq (length given) 0 ≡ false → made_over ≡ over) → nonce ≡ known
    → is_command_mac value over nonce_caller nonce 0 (unless_empty given (command_mac given made_over nonce_caller known 0)) ≡ true
mac-right [] value made_over over nonce_caller known nonce is block names same =
    subst (λ (v : List ℕ). is_command_mac v over nonce_caller nonce 0 [] ≡ true) (sym (no-value value is.size is.trimmed (bytes-same (block_key []) (block_key value) block))) refl
mac-right (byte ∷ given) value made_over over nonce_caller known nonce is block names same =
    let key = byte ∷ given in
    let some = some-bytes byte given in
    let mac : command_mac (byte ∷ given) made_over nonce_caller known 0 ≡ command_mac value over nonce_caller nonce 0 =
    ap (λ (d : Digest32). command_mac (byte ∷ given) d nonce_caller known 0) (names some)
    ∙ ap (λ (d : Digest32). command_mac (byte ∷ given) over nonce_caller d 0) (sym same)
    ∙ same-mac (byte ∷ given) value _ block in
    ap (λ b. is_command_mac value over nonce_caller nonce 0 (if b then [] else (command_mac (byte ∷ given) made_over nonce_caller known 0).bytes)) some
    ∙ ap (λ (d : Digest32). is_command_mac value over nonce_caller nonce 0 d.bytes) mac
    ∙ ap (λ b. (nat_eq (length value) 0 && nat_eq (length (command_mac value over nonce_caller nonce 0).bytes) 0) || b) (same-bytes (command_mac value over nonce_caller nonce 0).bytes)
    ∙ or-true _

-- and its reply's field is the one that a key of the same block gives
reply-same : (given value : List ℕ) (made over nonce : Digest32) (nonce_caller : List ℕ) → IsAuthValue value → is_same_block given value ≡ true
    → reply_hmac lasts.AuthValue value (unless_empty given made) (λ key. reply_mac key over nonce nonce_caller 0) ≡ unless_empty given (reply_mac given over nonce nonce_caller 0)
reply-same [] value made over nonce nonce_caller is block =
    subst (λ (v : List ℕ). reply_hmac lasts.AuthValue v [] (λ key. reply_mac key over nonce nonce_caller 0) ≡ []) (sym (no-value value is.size is.trimmed (bytes-same (block_key []) (block_key value) block))) refl
reply-same (byte ∷ given) value made over nonce nonce_caller is block =
    let some = some-bytes byte given in
    ap (λ b. reply_hmac lasts.AuthValue value (if b then [] else made.bytes) (λ key. reply_mac key over nonce nonce_caller 0)) some
    ∙ ap (λ b. if nat_eq (length value) 0 && b then [] else (reply_mac value over nonce nonce_caller 0).bytes) (whole-bytes made)
    ∙ no-and (nat_eq (length value) 0) (reply_mac value over nonce nonce_caller 0).bytes
    ∙ ap (λ (d : Digest32). d.bytes) (sym (same-mac (byte ∷ given) value _ block))
    ∙ sym (ap (λ b. if b then [] else (reply_mac (byte ∷ given) over nonce nonce_caller 0).bytes) some)
  where
    no-and : (a : Bool) (bytes : List ℕ) → (if a && false then [] else bytes) ≡ bytes
    no-and true bytes = refl
    no-and false bytes = refl

-- ---- the goal's command and its reply

module _ (plan : Plan) (session : Session) (number : ℕ) (found : EntityAt) (handle : found.handle ≡ entity_of_goal plan.goal) (is : IsAuthValue (auth_value_of found.entity)) where
  key-by : (last : LastAuth) → auth_of_path plan.path.moves ≡ last → mac_key plan ≡ mac_key_by (last) (goal_secret plan)
  key-by last same = ap (λ a. mac_key_by a (goal_secret plan)) same

  -- the field without a key, and with the value
  hmac-none : auth_of_path plan.path.moves ≡ lasts.Neither → goal_hmac plan session (caller_nonce plan.nonce_seed number) ≡ []
  hmac-none same =
      ap (λ a. hmac_by a plan session (caller_nonce plan.nonce_seed number)) same
      ∙ ap (λ (key : List ℕ). unless_empty key (command_mac key (plan_cp_hash plan) (caller_nonce plan.nonce_seed number).bytes session.nonce 0)) (key-by lasts.Neither same)

  pub hmac-value : auth_of_path plan.path.moves ≡ lasts.AuthValue → goal_hmac plan session (caller_nonce plan.nonce_seed number)
      ≡ unless_empty (goal_secret plan) (command_mac (goal_secret plan) (plan_cp_hash plan) (caller_nonce plan.nonce_seed number).bytes session.nonce 0)
  hmac-value same =
      ap (λ a. hmac_by a plan session (caller_nonce plan.nonce_seed number)) same
      ∙ ap (λ (key : List ℕ). unless_empty key (command_mac key (plan_cp_hash plan) (caller_nonce plan.nonce_seed number).bytes session.nonce 0)) (key-by lasts.AuthValue same)

  pub secret-same : secret_of plan.grants.secrets found.handle ≡ goal_secret plan
  secret-same = ap (secret_of plan.grants.secrets) handle

  -- what an HMAC of who plans says
  block-same : is_planned plan.grants found lasts.AuthValue ≡ true → is_same_block (goal_secret plan) (auth_value_of found.entity) ≡ true
  block-same planned =
      ap (λ (key : List ℕ). is_same_block key (auth_value_of found.entity)) (sym secret-same)
      ∙ (both (is_same_block (secret_of plan.grants.secrets found.handle) (auth_value_of found.entity))
      (nat_eq (length (secret_of plan.grants.secrets found.handle)) 0 || is_same_name (name_as_is found.handle found.entity) (name_in_directory found.handle found.entity)) planned).0

  name-same : is_planned plan.grants found lasts.AuthValue ≡ true → nat_eq (length (goal_secret plan)) 0 ≡ false → is_same_name (name_as_is found.handle found.entity) (name_in_directory found.handle found.entity) ≡ true
  name-same planned some =
      let parts = both (is_same_block (secret_of plan.grants.secrets found.handle) (auth_value_of found.entity))
      (nat_eq (length (secret_of plan.grants.secrets found.handle)) 0 || is_same_name (name_as_is found.handle found.entity) (name_in_directory found.handle found.entity)) planned in
      sym (ap (λ b. b || is_same_name (name_as_is found.handle found.entity) (name_in_directory found.handle found.entity)) (ap (λ (key : List ℕ). nat_eq (length key) 0) secret-same ∙ some)) ∙ parts.1

  -- the field as the machine reads it
  abbrev pub field : Digest32 → Digest32 → Field
  field over nonce = record {
    hmac = goal_hmac plan session (caller_nonce plan.nonce_seed number);
    cp_hash = over;
    nonce_caller = (caller_nonce plan.nonce_seed number).bytes;
    nonce_tpm = nonce;
    attributes = 0;
  }

  pub field-right : (last : LastAuth) (over nonce : Digest32) → auth_of_path plan.path.moves ≡ last → nonce ≡ session.nonce
      → (is_same_name (name_as_is found.handle found.entity) (name_in_directory found.handle found.entity) ≡ true → plan_cp_hash plan ≡ over)
      → is_planned plan.grants found last ≡ true → proves (field over nonce) (auth_value_of found.entity) last ≡ true
  field-right lasts.Neither over nonce same known names planned = ap (λ (h : List ℕ). is_command_mac [] over (caller_nonce plan.nonce_seed number).bytes nonce 0 h) (hmac-none same)
  field-right lasts.Password over nonce same known names planned =
      ap (λ (h : List ℕ). is_password (auth_value_of found.entity) h) (ap (λ a. hmac_by a plan session (caller_nonce plan.nonce_seed number)) same ∙ sym secret-same) ∙ planned
  field-right lasts.AuthValue over nonce same known names planned =
      ap (λ (h : List ℕ). is_command_mac (auth_value_of found.entity) over (caller_nonce plan.nonce_seed number).bytes nonce 0 h) (hmac-value same)
      ∙ mac-right (goal_secret plan) (auth_value_of found.entity) (plan_cp_hash plan) over (caller_nonce plan.nonce_seed number).bytes session.nonce nonce is
      (block-same planned) (λ some. names (name-same planned some)) known

  -- the reply's field as the run expects it
  expected-by : (last : LastAuth) (reply : Reply) (nonce : Digest32) → auth_of_path plan.path.moves ≡ last
      → right_hmac plan number reply nonce.bytes ≡ unless_empty (mac_key_by (last) (goal_secret plan)) (reply_mac (mac_key_by (last) (goal_secret plan)) (plan_rp_hash plan reply) nonce (caller_nonce plan.nonce_seed number).bytes 0)
  expected-by last reply nonce same =
      ap (λ (key : List ℕ). unless_empty key (reply_mac key (plan_rp_hash plan reply) (digest_of_bytes nonce.bytes) (caller_nonce plan.nonce_seed number).bytes 0)) (key-by last same)
      ∙ ap (λ (d : Digest32). unless_empty (mac_key_by (last) (goal_secret plan)) (reply_mac (mac_key_by (last) (goal_secret plan)) (plan_rp_hash plan reply) d (caller_nonce plan.nonce_seed number).bytes 0)) (digest_again nonce)

  pub reply-right : (last : LastAuth) (reply : Reply) (nonce : Digest32) → auth_of_path plan.path.moves ≡ last → is_planned plan.grants found last ≡ true
      → reply_hmac last (auth_value_of found.entity) (goal_hmac plan session (caller_nonce plan.nonce_seed number)) (λ key. reply_mac key (plan_rp_hash plan reply) nonce (caller_nonce plan.nonce_seed number).bytes 0)
      ≡ right_hmac plan number reply nonce.bytes
  reply-right lasts.Neither reply nonce same planned =
      ap (λ (h : List ℕ). reply_hmac lasts.Neither (auth_value_of found.entity) h (λ key. reply_mac key (plan_rp_hash plan reply) nonce (caller_nonce plan.nonce_seed number).bytes 0)) (hmac-none same)
      ∙ sym (expected-by lasts.Neither reply nonce same)
  reply-right lasts.Password reply nonce same planned = sym (expected-by lasts.Password reply nonce same)
  reply-right lasts.AuthValue reply nonce same planned =
      ap (λ (h : List ℕ). reply_hmac lasts.AuthValue (auth_value_of found.entity) h (λ key. reply_mac key (plan_rp_hash plan reply) nonce (caller_nonce plan.nonce_seed number).bytes 0)) (hmac-value same)
      ∙ reply-same (goal_secret plan) (auth_value_of found.entity)
      (command_mac (goal_secret plan) (plan_cp_hash plan) (caller_nonce plan.nonce_seed number).bytes session.nonce 0) (plan_rp_hash plan reply) nonce (caller_nonce plan.nonce_seed number).bytes is (block-same planned)
      ∙ sym (expected-by lasts.AuthValue reply nonce same)

-- an area with the right field is right
pub right-area : (plan : Plan) (number : ℕ) (reply : Reply) (nonce : Digest32) (hmac : List ℕ) → hmac ≡ right_hmac plan number reply nonce.bytes
    → is_right_area plan number reply (record { nonce = nonce.bytes; attributes = 0; hmac = hmac }) ≡ true
right-area plan number reply nonce hmac same =
    ap (λ b. b && nat_eq 0 0 && bytes_eq hmac (right_hmac plan number reply nonce.bytes)) (eq-eqb (length nonce.bytes) 32 nonce.whole)
    ∙ ap (λ (h : List ℕ). bytes_eq h (right_hmac plan number reply nonce.bytes)) same
    ∙ same-bytes (right_hmac plan number reply nonce.bytes)

-- ---- bounds

pub unless-short : (key : List ℕ) (mac : Digest32) → length (unless_empty key mac) ≤ 64
unless-short key mac = at (nat_eq (length key) 0)
  where
    at : (b : Bool) → length (if b then [] else mac.bytes) ≤ 64
    at true = omega arith
    at false = omega (arith, mac.whole)

pub hmac-short : (plan : Plan) (session : Session) (caller : Digest32) (last : LastAuth) → length (goal_secret plan) ≤ 32 → length (hmac_by (last) plan session caller) ≤ 64
hmac-short plan session caller lasts.Password short = omega (arith, short)
hmac-short plan session caller lasts.Neither short = unless-short (mac_key plan) (command_mac (mac_key plan) (plan_cp_hash plan) caller.bytes session.nonce 0)
hmac-short plan session caller lasts.AuthValue short = unless-short (mac_key plan) (command_mac (mac_key plan) (plan_cp_hash plan) caller.bytes session.nonce 0)
