-- Sessions that rules cannot tell apart: the same rules hold of both.
use Rattle.std.proofs.Common.{◌≡◌, ℕ, ◌+◌, ◌==◌, ◌&&◌, ◌||◌, not, Bool, true, false, List, [], ◌∷◌, ◌++◌, fold, map, length, nat_eq, nat_le, bit_and, unsigned_abs, refl, ap, sym, ◌∙◌, arith}
use Rattle.std.specs.Prelude.{ℤ, Option, Some, None, if◌then◌else◌}
use Rattle.std.specs.Bool.{beq}
use Rattle.std.specs.List.{list_all, list_any}
use Rattle.std.proofs.lemmas.Bool.Decides.{nat_tests}
use Rattle.std.proofs.lemmas.Slice.Eq.{bytes_eq-Decides}
use Rattle.tpol_base.specs.declared.digest.Digest32.{Digest32}
use Rattle.tpol_base.specs.ResponseCode.{of_parameter, rc_command_code, rc_cphash, rc_expired, rc_hash, rc_nonce, rc_nv_uninitialized, rc_pcr_changed, rc_range, rc_signature, rc_value}
use Rattle.tpol_digest.specs.Digest.{after_update, digest_after, digest_from, digest_of_moves, zero_digest}
use Rattle.tpol_digest.specs.Update.{update_of}
use Rattle.tpol_name.specs.declared.entries.IndexEntry.{IndexEntry}
use Rattle.tpol_name.specs.Areas.{is_written}
use Rattle.tpol_tree.specs.declared.closed.Assertion.{Assertion}
use Rattle.tpol_tree.specs.declared.closed.Assertion.TheVariants as assertions
use Rattle.tpol_tree.specs.declared.facts.Fact.{Fact}
use Rattle.tpol_tree.specs.declared.path.Move.{Move}
use Rattle.tpol_tree.specs.declared.path.Move.TheVariants.{Assert, Or, Approve, ApproveNv}
use Rattle.tpm_bindings.specs.declared.last_auth.LastAuth.{LastAuth}
use Rattle.tpm_bindings.specs.Facts.{auth_in, auths_of, code_in, codes_of, cp_hash_in, cp_hashes_of, deadlines_of, in_assertion, is_before, is_in_time, is_pcr, is_presence, limits_of, localities_of, locality_in, moves_of, name_hash_in, name_hashes_of, parent_hash_in, parent_hashes_of, written_in, written_of}
use Rattle.tpol_base.specs.Digest.{is_same_digest as same_digest}
use Rattle.tpm_bindings.specs.Held.{all_are, any_of, each_of, listed}
use Rattle.tpm_bindings.specs.State.{SessionState}
use Rattle.tpm_rules.specs.Deadline.{counted_from, deadline_of, is_nonce_or_none, milliseconds}
use Rattle.tpm_rules.specs.PolicyAuthorize.{policy_authorize_rule}
use Rattle.tpm_rules.specs.PolicyAuthorizeNv.{begins_with_sha256, has_digest_behind, policy_authorize_nv_rule}
use Rattle.tpm_rules.specs.PolicyCommandCode.{policy_command_code_rule}
use Rattle.tpm_rules.specs.PolicyCpHash.{policy_cp_hash_rule}
use Rattle.tpm_rules.specs.PolicyDuplicationSelect.{policy_duplication_select_rule}
use Rattle.tpm_rules.specs.PolicyLocality.{is_locality_set, policy_locality_rule}
use Rattle.tpm_rules.specs.PolicyNameHash.{policy_name_hash_rule}
use Rattle.tpm_rules.specs.PolicyNvWritten.{policy_nv_written_rule}
use Rattle.tpm_rules.specs.PolicyOr.{policy_or_rule}
use Rattle.tpm_rules.specs.PolicyPcr.{is_digest_or_none, policy_pcr_rule}
use Rattle.tpm_rules.specs.PolicySecret.{policy_secret_rule}
use Rattle.tpm_rules.specs.PolicySigned.{policy_signed_rule}
use Rattle.tpm_rules.specs.Rule.{or_else, unless}
use Rattle.tpm_rules.specs.Session.{is_counter_now}
use Rattle.tpm_rules.specs.Slot.{takes_optional_cp_hash}
use Rattle.tpol_laws.proofs.Binds.{AreAlike, bind_of, bound_assertion, bound_move}

-- ---- what rules read of facts

pub record Reads : Type 0 where
  pub codes : List ℕ
  pub localities : List ℕ
  pub cp_hashes : List Digest32
  pub name_hashes : List Digest32
  pub parent_hashes : List Digest32
  pub written : List Bool
  pub auths : List LastAuth
  pub presence : Bool
  pub limits : List Digest32
  pub digest : Digest32

abbrev pub reads : List Fact → Reads
reads facts = record {
  codes = codes_of (moves_of facts);
  localities = localities_of (moves_of facts);
  cp_hashes = cp_hashes_of (moves_of facts);
  name_hashes = name_hashes_of (moves_of facts);
  parent_hashes = parent_hashes_of (moves_of facts);
  written = written_of (moves_of facts);
  auths = auths_of (moves_of facts);
  presence = list_any is_presence (moves_of facts);
  limits = limits_of facts;
  digest = digest_of_moves (moves_of facts);
}

-- ---- none of it is left out of a bind

in-bound : {A : Type 0} (f : Assertion → Option A) → ((assertion : Assertion) → f (bound_assertion assertion) ≡ f assertion) → (act : Move) → in_assertion f (bound_move act) ≡ in_assertion f act
in-bound f same (Assert assertion) = same assertion
in-bound f same (Or digests) = refl
in-bound f same (Approve key policy_ref approved signature) = refl
in-bound f same (ApproveNv index approved) = refl

each-bound : {A : Type 0} (f : Move → Option A) → ((act : Move) → f (bound_move act) ≡ f act) → (facts : List Fact) → each_of f (moves_of (map bind_of facts)) ≡ each_of f (moves_of facts)
each-bound f same [] = refl
each-bound f same (fact ∷ facts) =
    ap (λ o. listed o ++ each_of f (moves_of (map bind_of facts))) (same fact.act) ∙ ap (λ rest. listed (f fact.act) ++ rest) (each-bound f same facts)

any-bound : (f : Move → Bool) → ((act : Move) → f (bound_move act) ≡ f act) → (facts : List Fact) → list_any f (moves_of (map bind_of facts)) ≡ list_any f (moves_of facts)
any-bound f same [] = refl
any-bound f same (fact ∷ facts) =
    ap (λ b. b || list_any f (moves_of (map bind_of facts))) (same fact.act) ∙ ap (λ rest. f fact.act || rest) (any-bound f same facts)

limits-bound : (facts : List Fact) → limits_of (map bind_of facts) ≡ limits_of facts
limits-bound [] = refl
limits-bound (fact ∷ facts) = ap (λ rest. listed fact.cp_hash ++ rest) (limits-bound facts)

code-bound : (assertion : Assertion) → code_in (bound_assertion assertion) ≡ code_in assertion
code-bound (assertions.Pcr mask digest values) = refl
code-bound assertion = refl

locality-bound : (assertion : Assertion) → locality_in (bound_assertion assertion) ≡ locality_in assertion
locality-bound (assertions.Pcr mask digest values) = refl
locality-bound assertion = refl

cp_hash-bound : (assertion : Assertion) → cp_hash_in (bound_assertion assertion) ≡ cp_hash_in assertion
cp_hash-bound (assertions.Pcr mask digest values) = refl
cp_hash-bound assertion = refl

name_hash-bound : (assertion : Assertion) → name_hash_in (bound_assertion assertion) ≡ name_hash_in assertion
name_hash-bound (assertions.Pcr mask digest values) = refl
name_hash-bound assertion = refl

parent_hash-bound : (assertion : Assertion) → parent_hash_in (bound_assertion assertion) ≡ parent_hash_in assertion
parent_hash-bound (assertions.Pcr mask digest values) = refl
parent_hash-bound assertion = refl

written-bound : (assertion : Assertion) → written_in (bound_assertion assertion) ≡ written_in assertion
written-bound (assertions.Pcr mask digest values) = refl
written-bound assertion = refl

auth-bound : (assertion : Assertion) → auth_in (bound_assertion assertion) ≡ auth_in assertion
auth-bound (assertions.Pcr mask digest values) = refl
auth-bound assertion = refl

presence-bound : (act : Move) → is_presence (bound_move act) ≡ is_presence act
presence-bound (Assert (assertions.Pcr mask digest values)) = refl
presence-bound act = refl

pub pcr-bound : (act : Move) → is_pcr (bound_move act) ≡ is_pcr act
pcr-bound (Assert (assertions.Pcr mask digest values)) = refl
pcr-bound act = refl

update-bound : (act : Move) → update_of (bound_move act) ≡ update_of act
update-bound (Assert (assertions.Pcr mask digest values)) = refl
update-bound act = refl

digest-bound : (d : Digest32) (facts : List Fact) → digest_from d (moves_of (map bind_of facts)) ≡ digest_from d (moves_of facts)
digest-bound d [] = refl
digest-bound d (fact ∷ facts) =
    ap (λ u. digest_from (after_update u d) (moves_of (map bind_of facts))) (update-bound fact.act) ∙ digest-bound (digest_after fact.act d) facts

reads-bound : (facts : List Fact) → reads (map bind_of facts) ≡ reads facts
reads-bound facts =
    let codes = each-bound (in_assertion code_in) (in-bound code_in code-bound) facts in
    let localities = each-bound (in_assertion locality_in) (in-bound locality_in locality-bound) facts in
    let cp_hashes = each-bound (in_assertion cp_hash_in) (in-bound cp_hash_in cp_hash-bound) facts in
    let name_hashes = each-bound (in_assertion name_hash_in) (in-bound name_hash_in name_hash-bound) facts in
    let parent_hashes = each-bound (in_assertion parent_hash_in) (in-bound parent_hash_in parent_hash-bound) facts in
    let written = each-bound (in_assertion written_in) (in-bound written_in written-bound) facts in
    let auths = each-bound (in_assertion auth_in) (in-bound auth_in auth-bound) facts in
    let presence = any-bound is_presence presence-bound facts in
    let limits = limits-bound facts in
    let digest = digest-bound zero_digest facts in
    λ i. record {
      codes = codes i;
      localities = localities i;
      cp_hashes = cp_hashes i;
      name_hashes = name_hashes i;
      parent_hashes = parent_hashes i;
      written = written i;
      auths = auths i;
      presence = presence i;
      limits = limits i;
      digest = digest i;
    }

pub same-reads : (kept chosen : SessionState) → AreAlike kept chosen → reads kept.facts ≡ reads chosen.facts
same-reads kept chosen alike = sym (reads-bound kept.facts) ∙ ap reads alike.binds ∙ reads-bound chosen.facts

-- ---- nonces of 32 bytes

-- a session's own nonce is the session's
nonce-right : (nonce : Digest32) → is_nonce_or_none nonce nonce.bytes ≡ true
nonce-right nonce = at nonce.bytes refl
  where
    at : (bytes : List ℕ) → bytes ≡ nonce.bytes → is_nonce_or_none nonce bytes ≡ true
    at [] e = refl
    at (byte ∷ bytes) e = (bytes_eq-Decides (byte ∷ bytes) nonce.bytes).1 e

-- with one a deadline counts from the session's start
abbrev deadline_from : ℕ → ℤ → Option ℕ
deadline_from start expiration = if unsigned_abs expiration == 0 then None else Some (start + milliseconds expiration)

from-start : (start : ℕ) (bytes : List ℕ) → length bytes ≡ 32 → counted_from start bytes ≡ start
from-start start [] whole = absurd (omega (arith, whole))
from-start start (byte ∷ bytes) whole = refl

deadline-same : (start : ℕ) (nonce : Digest32) (expiration : ℤ) → deadline_of start nonce.bytes expiration ≡ deadline_from start expiration
deadline-same start nonce expiration =
    ap (λ n. if unsigned_abs expiration == 0 then None else Some (n + milliseconds expiration)) (from-start start nonce.bytes nonce.whole)

-- which has not passed at its start
pub before-deadline : (start : ℕ) (nonce : Digest32) (expiration : ℤ) → is_before start (deadline_of start nonce.bytes expiration) ≡ true
before-deadline start nonce expiration = ap (is_before start) (deadline-same start nonce expiration) ∙ at (unsigned_abs expiration == 0)
  where
    later : nat_le start (start + milliseconds expiration) ≡ true
    later = grind (arith, nat_tests)

    at : (b : Bool) → is_before start (if b then None else Some (start + milliseconds expiration)) ≡ true
    at true = refl
    at false = later

-- ---- one more fact

first-in-time : (deadline : Option ℕ) (rest : List ℕ) (time : ℕ) → list_all (nat_le time) (listed deadline ++ rest) ≡ (is_before time deadline && list_all (nat_le time) rest)
first-in-time None rest time = refl
first-in-time (Some n) rest time = refl

both-true : (b : Bool) → (b && true) ≡ b
both-true true = refl
both-true false = refl

three : (a b c : Bool) → (a && (b && c)) ≡ ((a && b) && c)
three true b c = refl
three false b c = refl

-- all are in time where those before are and the last is
pub more-in-time : (facts : List Fact) (fact : Fact) (time : ℕ) → is_in_time (facts ++ fact ∷ []) time ≡ (is_in_time facts time && is_before time fact.deadline)
more-in-time [] fact time = first-in-time fact.deadline [] time ∙ both-true (is_before time fact.deadline)
more-in-time (first ∷ facts) fact time =
    first-in-time first.deadline (deadlines_of (facts ++ fact ∷ [])) time
    ∙ ap (λ b. is_before time first.deadline && b) (more-in-time facts fact time)
    ∙ three (is_before time first.deadline) (is_in_time facts time) (is_before time fact.deadline)
    ∙ ap (λ b. b && is_before time fact.deadline) (sym (first-in-time first.deadline (deadlines_of facts) time))

-- ---- rules

module _ (kept chosen : SessionState) (alike : AreAlike kept chosen) where
  same : reads kept.facts ≡ reads chosen.facts
  same = same-reads kept chosen alike

  pub code-alike : (code : ℕ) → policy_command_code_rule kept code ≡ policy_command_code_rule chosen code
  code-alike code = ap (λ (r : Reads). unless (all_are nat_eq code r.codes) (rc_value + of_parameter 1)) same

  pub locality-alike : (localities : ℕ) → policy_locality_rule kept localities ≡ policy_locality_rule chosen localities
  locality-alike localities =
      ap (λ (r : Reads). unless (is_locality_set localities && not (nat_eq (bit_and localities (fold bit_and 0xff r.localities)) 0)) (rc_range + of_parameter 1)) same

  abbrev takes_cp : Reads → Digest32 → Bool
  takes_cp r digest = not (any_of r.name_hashes || any_of r.parent_hashes) && (all_are same_digest digest r.cp_hashes && all_are same_digest digest r.limits)

  pub cp_hash-alike : (digest : Digest32) → policy_cp_hash_rule kept digest ≡ policy_cp_hash_rule chosen digest
  cp_hash-alike digest = ap (λ (r : Reads). unless (takes_cp r digest) rc_cphash) same

  pub name_hash-alike : (digest : Digest32) → policy_name_hash_rule kept digest ≡ policy_name_hash_rule chosen digest
  name_hash-alike digest =
      ap (λ (r : Reads). unless (not (any_of r.cp_hashes || any_of r.limits) && (all_are same_digest digest r.name_hashes && all_are same_digest digest r.parent_hashes)) rc_cphash) same

  pub written-alike : (written : Bool) → policy_nv_written_rule kept written ≡ policy_nv_written_rule chosen written
  written-alike written = ap (λ (r : Reads). unless (all_are beq written r.written) (rc_value + of_parameter 1)) same

  pub duplication-alike : policy_duplication_select_rule kept ≡ policy_duplication_select_rule chosen
  duplication-alike =
      ap (λ (r : Reads). or_else (unless (not ((any_of r.cp_hashes || any_of r.limits) || (any_of r.name_hashes || any_of r.parent_hashes))) rc_cphash)
      (unless (not (any_of r.codes)) rc_command_code)) same

  pub or-alike : (digests : List Digest32) → policy_or_rule kept digests ≡ policy_or_rule chosen digests
  or-alike digests = ap (λ (r : Reads). unless (list_any (same_digest r.digest) digests) (rc_value + of_parameter 1)) same

  pub authorize-alike : (approved : Digest32) (right : Bool) → policy_authorize_rule kept approved right ≡ policy_authorize_rule chosen approved right
  authorize-alike approved right =
      ap (λ (r : Reads). or_else (unless (same_digest r.digest approved) (rc_value + of_parameter 1)) (unless right (rc_value + of_parameter 4))) same

  pub authorize_nv-alike : (entry : IndexEntry) → policy_authorize_nv_rule kept entry ≡ policy_authorize_nv_rule chosen entry
  authorize_nv-alike entry =
      ap (λ (r : Reads). or_else (unless (is_written entry.public.attributes) rc_nv_uninitialized)
      (or_else (unless (begins_with_sha256 entry.content) rc_hash)
      (unless (has_digest_behind entry.content r.digest) rc_value))) same

  pub pcr-alike : (counter : ℕ) (selected : Digest32) (given : Option Digest32) → policy_pcr_rule kept counter selected given ≡ policy_pcr_rule chosen counter selected given
  pcr-alike counter selected given =
      ap (λ (first : Option ℕ). or_else (unless (is_counter_now first counter) rc_pcr_changed) (unless (is_digest_or_none selected given) (rc_value + of_parameter 1))) alike.counter

  pub optional-alike : (cp_hash : Option Digest32) → takes_optional_cp_hash kept.facts cp_hash ≡ takes_optional_cp_hash chosen.facts cp_hash
  optional-alike None = refl
  optional-alike (Some digest) = ap (λ (r : Reads). takes_cp r digest) same

  -- with the session's own nonce, which may be another on each side
  abbrev behind_nonce : Bool → Option ℕ → Bool → ℕ → Option ℕ
  behind_nonce right deadline takes time =
      or_else (unless right (rc_nonce + of_parameter 1)) (or_else (unless (is_before time deadline) (rc_expired + of_parameter 4)) (unless takes rc_cphash))

  secret-plain : (state : SessionState) (time : ℕ) (cp_hash : Option Digest32) (expiration : ℤ)
      → policy_secret_rule state time state.nonce.bytes cp_hash expiration ≡ behind_nonce true (deadline_from state.start expiration) (takes_optional_cp_hash state.facts cp_hash) time
  secret-plain state time cp_hash expiration =
      ap (λ right. behind_nonce right (deadline_of state.start state.nonce.bytes expiration) (takes_optional_cp_hash state.facts cp_hash) time) (nonce-right state.nonce)
      ∙ ap (λ deadline. behind_nonce true deadline (takes_optional_cp_hash state.facts cp_hash) time) (deadline-same state.start state.nonce expiration)

  pub secret-alike : (nonce : Digest32) → kept.nonce ≡ nonce → (time : ℕ) (cp_hash : Option Digest32) (expiration : ℤ)
      → policy_secret_rule kept time nonce.bytes cp_hash expiration ≡ policy_secret_rule chosen time chosen.nonce.bytes cp_hash expiration
  secret-alike nonce own time cp_hash expiration =
      ap (λ (d : Digest32). policy_secret_rule kept time d.bytes cp_hash expiration) (sym own)
      ∙ secret-plain kept time cp_hash expiration
      ∙ ap (λ start. behind_nonce true (deadline_from start expiration) (takes_optional_cp_hash kept.facts cp_hash) time) alike.start
      ∙ ap (λ takes. behind_nonce true (deadline_from chosen.start expiration) takes time) (optional-alike cp_hash)
      ∙ sym (secret-plain chosen time cp_hash expiration)

  pub deadline-alike : (nonce : Digest32) (expiration : ℤ) → deadline_of kept.start nonce.bytes expiration ≡ deadline_of chosen.start chosen.nonce.bytes expiration
  deadline-alike nonce expiration =
      deadline-same kept.start nonce expiration ∙ ap (λ start. deadline_from start expiration) alike.start ∙ sym (deadline-same chosen.start chosen.nonce expiration)

  pub signed-alike : (nonce : Digest32) → kept.nonce ≡ nonce → (time : ℕ) (cp_hash : Option Digest32) (expiration : ℤ) (right : Bool)
      → policy_signed_rule kept time nonce.bytes cp_hash expiration right ≡ policy_signed_rule chosen time chosen.nonce.bytes cp_hash expiration right
  signed-alike nonce own time cp_hash expiration right =
      ap (λ rule. or_else rule (unless right (rc_signature + of_parameter 5))) (secret-alike nonce own time cp_hash expiration)
