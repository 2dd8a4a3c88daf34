-- What a command's deed tells of the command: which one loads or saves a session, and that a command that acts
-- on a session's facts has it among its handles.
use Rattle.std.proofs.Common.{◌≡◌, ℕ, ◌||◌, Bool, true, false, List, [], ◌∷◌, Option, None, Some, nat_eq, refl, ap, sym, ◌∙◌, arith}
use Rattle.std.specs.List.{list_any}
use Rattle.std.specs.Option.{option_and_then, option_map_or}
use Rattle.std.proofs.lemmas.Bool.Decides.{nat_tests}
use Rattle.std.proofs.lemmas.Option.{none-some, same_Some}
use Rattle.tpol_base.specs.declared.command_code.CommandCode.TheVariants.{StartAuthSession}
use Rattle.tpol_base.specs.declared.digest.Digest32.{Digest32}
use Rattle.tpol_base.specs.CommandCode.{number_of_code}
use Rattle.tpol_wire.specs.declared.auth_area.AuthArea.{AuthArea}
use Rattle.tpol_wire.specs.declared.command.Command.{Command}
use Rattle.tpol_wire.specs.declared.command.Command.TheVariants as commands
use Rattle.tpol_wire.specs.ReplyReading.{reply_reading}
use Rattle.tpol_wire.specs.Handles.{area_of, handles_of}
use Rattle.tpm_engine.specs.Deeds.{Deed, Idle, Loads, Restarts, Saves, Shows, Starts, command_deed, started_session}

-- the session that a deed loads, saves, or acts on as a live one
abbrev pub loaded : Deed → Option ℕ
loaded (Loads session) = Some session
loaded _ = None

abbrev pub saving : Deed → Option ℕ
saving (Saves session) = Some session
saving _ = None

abbrev pub acting : Deed → Option ℕ
acting (Restarts session) = Some session
acting (Saves session) = Some session
acting (Shows session fact) = Some session
acting _ = None

started-none : (word : Deed → Option ℕ) (session : Option ℕ) → word Idle ≡ None → ((s : ℕ) → word (Starts s) ≡ None) → word (option_map_or Starts session Idle) ≡ None
started-none word None idle starts = idle
started-none word (Some s) idle starts = starts s

pub record IsLoad (command : Command) (session : ℕ) : Type 0 where
  pub sequence : ℕ
  pub digest : Digest32
  pub is : command ≡ commands.ContextLoad sequence session digest

pub loads-by : (command : Command) (reply : List ℕ) (session : ℕ) → loaded (command_deed command reply) ≡ Some session → IsLoad command session
loads-by (commands.StartAuthSession tpm_key bind nonce) reply session h = absurd (none-some session (sym (started-none loaded (option_and_then (λ found. started_session found.0) (reply_reading (number_of_code StartAuthSession) reply)) refl (λ s. refl)) ∙ h))
loads-by (commands.ContextLoad sequence loads digest) reply session h = record { sequence = sequence; digest = digest; is = ap (λ s. commands.ContextLoad sequence s digest) (same_Some _ _ h) }
loads-by _ reply session h = absurd (none-some session h)

pub saves-by : (command : Command) (reply : List ℕ) (session : ℕ) → saving (command_deed command reply) ≡ Some session → ◌≡◌ {A = Option AuthArea} (area_of command) None
saves-by (commands.StartAuthSession tpm_key bind nonce) reply session h = absurd (none-some session (sym (started-none saving (option_and_then (λ found. started_session found.0) (reply_reading (number_of_code StartAuthSession) reply)) refl (λ s. refl)) ∙ h))
saves-by (commands.ContextSave own) reply session h = refl
saves-by _ reply session h = absurd (none-some session h)

same-handle : (session own : ℕ) → own ≡ session → nat_eq session own ≡ true
same-handle session own same = grind (arith, nat_tests)

among-0 : (session own : ℕ) → own ≡ session → list_any (nat_eq session) (own ∷ []) ≡ true
among-0 session own same = ap (λ b. b || false) (same-handle session own same)

among-later : (b c : Bool) → c ≡ true → (b || c) ≡ true
among-later true c h = refl
among-later false c h = h

among-1 : (session own first : ℕ) → own ≡ session → list_any (nat_eq session) (first ∷ own ∷ []) ≡ true
among-1 session own first same = among-later (nat_eq session first) (list_any (nat_eq session) (own ∷ [])) (among-0 session own same)

among-2 : (session own first second : ℕ) → own ≡ session → list_any (nat_eq session) (first ∷ second ∷ own ∷ []) ≡ true
among-2 session own first second same = among-later (nat_eq session first) (list_any (nat_eq session) (second ∷ own ∷ [])) (among-1 session own second same)

pub acts-by : (command : Command) (reply : List ℕ) (session : ℕ) → acting (command_deed command reply) ≡ Some session → list_any (nat_eq session) (handles_of command) ≡ true
acts-by (commands.StartAuthSession tpm_key bind nonce) reply session h = absurd (none-some session (sym (started-none acting (option_and_then (λ found. started_session found.0) (reply_reading (number_of_code StartAuthSession) reply)) refl (λ s. refl)) ∙ h))
acts-by (commands.ContextSave own) reply session h = among-0 session own (same_Some _ _ h)
acts-by (commands.PolicyRestart own) reply session h = among-0 session own (same_Some _ _ h)
acts-by (commands.PolicyNv authority index own auth operand offset operation) reply session h = among-2 session own authority index (same_Some _ _ h)
acts-by (commands.PolicyCpHash own digest) reply session h = among-0 session own (same_Some _ _ h)
acts-by (commands.PolicyNameHash own digest) reply session h = among-0 session own (same_Some _ _ h)
acts-by (commands.PolicyAuthValue own) reply session h = among-0 session own (same_Some _ _ h)
acts-by (commands.PolicyPassword own) reply session h = among-0 session own (same_Some _ _ h)
acts-by (commands.PolicyPhysicalPresence own) reply session h = among-0 session own (same_Some _ _ h)
acts-by (commands.PolicyCommandCode own code) reply session h = among-0 session own (same_Some _ _ h)
acts-by (commands.PolicyCounterTimer own operand offset operation) reply session h = among-0 session own (same_Some _ _ h)
acts-by (commands.PolicyLocality own locality) reply session h = among-0 session own (same_Some _ _ h)
acts-by (commands.PolicyPcr own given mask) reply session h = among-0 session own (same_Some _ _ h)
acts-by (commands.PolicyDuplicationSelect own object parent include) reply session h = among-0 session own (same_Some _ _ h)
acts-by (commands.PolicyNvWritten own written) reply session h = among-0 session own (same_Some _ _ h)
acts-by (commands.PolicySigned key own nonce cp_hash policy_ref expiration signature) reply session h = among-1 session own key (same_Some _ _ h)
acts-by (commands.PolicySecret entity own auth nonce cp_hash policy_ref expiration) reply session h = among-1 session own entity (same_Some _ _ h)
acts-by (commands.PolicyTicket own timeout cp_hash policy_ref key ticket) reply session h = among-0 session own (same_Some _ _ h)
acts-by (commands.PolicyAuthorize own approved policy_ref key ticket) reply session h = among-0 session own (same_Some _ _ h)
acts-by (commands.PolicyOr own digests) reply session h = among-0 session own (same_Some _ _ h)
acts-by (commands.PolicyAuthorizeNv authority index own auth) reply session h = among-2 session own authority index (same_Some _ _ h)
acts-by _ reply session h = absurd (none-some session h)
