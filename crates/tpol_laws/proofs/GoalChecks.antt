-- The deferred checks of sessions that rules cannot tell apart, and of one session by two judges of the value.
use Rattle.std.proofs.Common.{◌≡◌, ℕ, ◌&&◌, ◌||◌, not, Bool, true, List, fold, Option, None, Some, nat_eq, bit_and, refl, ap, sym, subst, ◌∙◌}
use Rattle.std.specs.Bool.{beq}
use Rattle.std.specs.Str.{bytes_eq}
use Rattle.tpol_base.specs.declared.check.Check.TheVariants.{PcrChanged, PolicyFail, Expired, CommandCode, RoleNeedsCode, Locality, Presence, Hashes, NvWritten, AuthValue}
use Rattle.tpol_tree.specs.declared.facts.Fact.{Fact}
use Rattle.tpm_bindings.specs.declared.last_auth.LastAuth.{LastAuth}
use Rattle.tpm_bindings.specs.declared.last_auth.LastAuth.TheVariants.{Neither}
use Rattle.tpm_bindings.specs.Facts.{every_cp_hash, every_name_hash, has_locality, is_in_time, last_auth, moves_of, written_of}
use Rattle.tpol_base.specs.Digest.{is_same_digest as same_digest}
use Rattle.tpm_bindings.specs.Held.{all_are, any_of}
use Rattle.tpm_bindings.specs.State.{SessionState}
use Rattle.tpm_engine.proofs.Stopping.{or_else-none, unless-none}
use Rattle.tpm_rules.specs.declared.checks.Use.{Use}
use Rattle.tpm_rules.specs.Checks.{broken_before_auth, broken_command, broken_digest, broken_hashes, broken_surroundings, first_broken_check, is_written_as_asked}
use Rattle.tpm_rules.specs.Rule.{or_else, unless}
use Rattle.tpm_rules.specs.Session.{is_counter_now, policy_digest_of}
use Rattle.tpol_laws.proofs.Alike.{Reads, same-reads}
use Rattle.tpol_laws.proofs.Binds.{AreAlike}

-- ---- two sessions

-- the state of an index, over what is asked for
abbrev as_asked : List Bool → Option Bool → Bool
as_asked asked None = not (any_of asked)
as_asked asked (Some written) = all_are beq written asked

asked-plain : (facts : List Fact) (written : Option Bool) → is_written_as_asked facts written ≡ as_asked (written_of (moves_of facts)) written
asked-plain facts None = refl
asked-plain facts (Some written) = refl

module _ (kept chosen : SessionState) (alike : AreAlike kept chosen) (occasion : Use) (still : occasion.time ≡ chosen.start) where
  -- the time of the use is that at which the session began
  in-time : is_in_time kept.facts occasion.time ≡ is_in_time chosen.facts occasion.time
  in-time = subst (λ (t : ℕ). is_in_time kept.facts t ≡ is_in_time chosen.facts t) (sym still) alike.in_time

  digest-alike : (policy : List ℕ) → broken_digest kept occasion policy ≡ broken_digest chosen occasion policy
  digest-alike policy =
      ap (λ (first : Option ℕ). or_else (unless (is_counter_now first occasion.pcr_counter) PcrChanged)
      (or_else (unless (bytes_eq (policy_digest_of kept).bytes policy) PolicyFail) (unless (is_in_time kept.facts occasion.time) Expired))) alike.counter
      ∙ ap (λ (r : Reads). or_else (unless (is_counter_now chosen.counter occasion.pcr_counter) PcrChanged)
      (or_else (unless (bytes_eq r.digest.bytes policy) PolicyFail) (unless (is_in_time kept.facts occasion.time) Expired))) (same-reads kept chosen alike)
      ∙ ap (λ (timely : Bool). or_else (unless (is_counter_now chosen.counter occasion.pcr_counter) PcrChanged)
      (or_else (unless (bytes_eq (policy_digest_of chosen).bytes policy) PolicyFail) (unless timely Expired))) in-time

  command-alike : broken_command kept occasion ≡ broken_command chosen occasion
  command-alike =
      ap (λ (r : Reads). or_else (unless (all_are nat_eq occasion.code r.codes) CommandCode)
      (unless (not occasion.duplicate_role || any_of r.codes) RoleNeedsCode)) (same-reads kept chosen alike)

  surroundings-alike : broken_surroundings kept occasion ≡ broken_surroundings chosen occasion
  surroundings-alike =
      ap (λ (r : Reads). or_else (unless (has_locality (fold bit_and 0xff r.localities) occasion.locality) Locality)
      (unless (not r.presence || occasion.presence) Presence)) (same-reads kept chosen alike)

  hashes-alike : broken_hashes kept occasion ≡ broken_hashes chosen occasion
  hashes-alike =
      ap (λ (r : Reads). or_else (unless ((all_are same_digest occasion.cp_hash r.cp_hashes && all_are same_digest occasion.cp_hash r.limits)
      && (all_are same_digest occasion.name_hash r.name_hashes && all_are same_digest occasion.name_hash r.parent_hashes)) Hashes)
      (unless (is_written_as_asked kept.facts occasion.written) NvWritten)) (same-reads kept chosen alike)
      ∙ ap (λ b. or_else (unless (every_cp_hash chosen.facts occasion.cp_hash && every_name_hash chosen.facts occasion.name_hash) Hashes) (unless b NvWritten))
      (asked-plain kept.facts occasion.written ∙ ap (λ (r : Reads). as_asked r.written occasion.written) (same-reads kept chosen alike) ∙ sym (asked-plain chosen.facts occasion.written))

  pub before-alike : (policy : List ℕ) → broken_before_auth kept occasion policy ≡ broken_before_auth chosen occasion policy
  before-alike policy =
      ap (λ first. or_else first (or_else (broken_command kept occasion) (or_else (broken_surroundings kept occasion) (broken_hashes kept occasion)))) (digest-alike policy)
      ∙ ap (λ first. or_else (broken_digest chosen occasion policy) (or_else first (or_else (broken_surroundings kept occasion) (broken_hashes kept occasion)))) command-alike
      ∙ ap (λ first. or_else (broken_digest chosen occasion policy) (or_else (broken_command chosen occasion) (or_else first (broken_hashes kept occasion)))) surroundings-alike
      ∙ ap (λ first. or_else (broken_digest chosen occasion policy) (or_else (broken_command chosen occasion) (or_else (broken_surroundings chosen occasion) first))) hashes-alike

pub auth-alike : (kept chosen : SessionState) → AreAlike kept chosen → last_auth kept.facts ≡ last_auth chosen.facts
auth-alike kept chosen alike = ap (λ (r : Reads). fold (λ (before auth : LastAuth). auth) Neither r.auths) (same-reads kept chosen alike)

-- ---- two judges

-- where no check is broken the value is proved
pub is-proved : (chosen : SessionState) (occasion : Use) (policy : List ℕ) (planned : LastAuth → Bool) → first_broken_check chosen occasion policy planned ≡ None
    → (broken_before_auth chosen occasion policy ≡ None) × (planned (last_auth chosen.facts) ≡ true)
is-proved chosen occasion policy planned none =
    let parts = or_else-none (broken_before_auth chosen occasion policy) (unless (planned (last_auth chosen.facts)) AuthValue) none in
    (parts.0, unless-none (planned (last_auth chosen.facts)) AuthValue parts.1)

-- where the value is right for who plans, it is right for the machine: no check is broken
pub no-check : (kept chosen : SessionState) → AreAlike kept chosen → (occasion : Use) → occasion.time ≡ chosen.start → (policy : List ℕ) (planned made : LastAuth → Bool)
    → first_broken_check chosen occasion policy planned ≡ None
    → (planned (last_auth kept.facts) ≡ true → made (last_auth kept.facts) ≡ true)
    → first_broken_check kept occasion policy made ≡ None
no-check kept chosen alike occasion still policy planned made none right =
    let parts = is-proved chosen occasion policy planned none in
    ap (λ first. or_else first (unless (made (last_auth kept.facts)) AuthValue)) (before-alike kept chosen alike occasion still policy ∙ parts.0)
    ∙ ap (λ b. unless b AuthValue) (right (ap planned (auth-alike kept chosen alike) ∙ parts.1))
