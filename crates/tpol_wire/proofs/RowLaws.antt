-- The rows of the table: their kinds are sound, no command is longer than 4,096 bytes, and a row's fields are those of the command that they make.
use Rattle.std.proofs.Common.{◌≡◌, ℕ, ◌+◌, ◌≤◌, Bool, true, eqb, leb, ◌&&◌, List, [], ◌∷◌, ◌++◌, length, Some, Ok, refl, sym, ap, subst, ◌∙◌, append_assoc, arith}
use Rattle.std.proofs.lemmas.Bool.{eqb-true}
use Rattle.std.proofs.lemmas.List.{append-nil, length-append}
use Rattle.tpol_wire.specs.declared.command.Command.{Command}
use Rattle.tpol_wire.specs.declared.command.Command.TheVariants as commands
use Rattle.tpol_base.specs.declared.command_code.CommandCode.{CommandCode}
use Rattle.tpol_base.specs.declared.command_code.CommandCode.TheVariants as codes
use Rattle.tpol_base.specs.CommandCode.{number_of_code, code_of_number, commands as all_commands}
use Rattle.tpol_base.specs.Answers.{◌>>=◌}
use Rattle.tpol_fields.specs.Kinds.{Kind, spell, Fits, read}
use Rattle.tpol_wire.specs.Rows.{row}
use Rattle.tpol_wire.specs.Commands.{Values, Fields, spell_values, ValuesFit, code_of_command, fields_of, command_of}
use Rattle.tpol_base.specs.ResponseCode.{of_parameter}
use Rattle.tpol_wire.specs.declared.reply.Reply.{Reply}
use Rattle.tpol_wire.specs.Reading.{reply_at, values_at}
use Rattle.tpol_wire.specs.Replies.{reply_of}
use Rattle.tpol_fields.proofs.Takes.{IsBytes, bind_ok, ok_is, Takes, Takes-then}
use Rattle.tpol_fields.proofs.KindLaws.{both, find_passes, is_sound, greatest_length, kind_found, kind_again, kind_length}

-- ---- values one after the other

abbrev pub are_sound : List Kind → Bool
are_sound [] = true
are_sound (kind ∷ kinds) = is_sound kind && are_sound kinds

pub values_found : (kinds : List Kind) (position : ℕ) (bytes : List ℕ) (x : Values kinds × List ℕ) → are_sound kinds ≡ true → IsBytes bytes → values_at position kinds bytes ≡ Ok x → Takes bytes (spell_values kinds x.0) x.1 × ValuesFit kinds x.0
unfolding values_at spell_values ValuesFit
values_found [] position bytes x sound fits e =
    subst (λ (y : Unit {0} × List ℕ). Takes bytes [] y.1 × Unit {0}) (ok_is (tt, bytes) x e) (record { parts = refl; rest_fits = fits }, tt)
values_found (kind ∷ kinds) position bytes x sound fits e =
    let s = both (is_sound kind) (are_sound kinds) sound in
    let a = bind_ok (read position kind bytes) (λ first. values_at (position + 0x100) kinds first.1 >>= λ others. Ok ((first.0, others.0), others.1)) x e in
    let b = bind_ok (values_at (position + 0x100) kinds a.0.1) (λ others. Ok ((a.0.0, others.0), others.1)) x a.2 in
    let first = kind_found kind position bytes a.0 s.0 fits a.1 in
    let second = values_found kinds (position + 0x100) a.0.1 b.0 s.1 first.0.rest_fits b.1 in
    let joined = Takes-then bytes (spell kind a.0.0) a.0.1 (spell_values kinds b.0.0) b.0.1 first.0 second.0 in
    let made : Values (kind ∷ kinds) × List ℕ = ((a.0.0, b.0.0), b.0.1) in
    subst (λ (y : Values (kind ∷ kinds) × List ℕ). Takes bytes (spell kind y.0.0 ++ spell_values kinds y.0.1) y.1 × (Fits kind y.0.0 × ValuesFit kinds y.0.1)) (ok_is made x b.2) (joined, (first.1, second.1))

pub values_again : (kinds : List Kind) (position : ℕ) (values : Values kinds) (rest : List ℕ) → are_sound kinds ≡ true → ValuesFit kinds values → values_at position kinds (spell_values kinds values ++ rest) ≡ Ok (values, rest)
unfolding values_at spell_values ValuesFit
values_again [] position values rest sound fits = refl
values_again (kind ∷ kinds) position values rest sound fits =
    let s = both (is_sound kind) (are_sound kinds) sound in
    let regrouped : (spell kind values.0 ++ spell_values kinds values.1) ++ rest ≡ spell kind values.0 ++ (spell_values kinds values.1 ++ rest) = append_assoc (spell kind values.0) (spell_values kinds values.1) rest in
    let one = kind_again kind position values.0 (spell_values kinds values.1 ++ rest) s.0 fits.0 in
    let two = values_again kinds (position + 0x100) values.1 rest s.1 fits.1 in
    ap (values_at position (kind ∷ kinds)) regrouped ∙ rw (one, two) refl

abbrev pub greatest_lengths : List Kind → ℕ
greatest_lengths [] = 0
greatest_lengths (kind ∷ kinds) = greatest_length kind + greatest_lengths kinds

pub values_length : (kinds : List Kind) (values : Values kinds) → are_sound kinds ≡ true → ValuesFit kinds values → length (spell_values kinds values) ≤ greatest_lengths kinds
unfolding spell_values ValuesFit
values_length [] values sound fits = omega arith
values_length (kind ∷ kinds) values sound fits =
    let s = both (is_sound kind) (are_sound kinds) sound in
    let one = kind_length kind values.0 s.0 fits.0 in
    let two = values_length kinds values.1 s.1 fits.1 in
    let l = length-append (spell kind values.0) (spell_values kinds values.1) in
    omega arith

-- ---- the fields of a reply

pub record ReplyFound (code : CommandCode) (bytes : List ℕ) (x : Reply × List ℕ) : Type 0 where
  pub values : Values (row code).reply
  pub made : reply_of code values ≡ x.0
  pub taken : Takes bytes (spell_values (row code).reply values) x.1
  pub fits : ValuesFit (row code).reply values

pub reply_found_at : (code : CommandCode) (bytes : List ℕ) (x : Reply × List ℕ) → are_sound (row code).reply ≡ true → IsBytes bytes → reply_at code bytes ≡ Ok x → ReplyFound code bytes x
unfolding reply_at
reply_found_at code bytes x sound fits e =
    let v = bind_ok (values_at (of_parameter 1) (row code).reply bytes) (λ values. Ok (reply_of code values.0, values.1)) x e in
    let t = values_found (row code).reply (of_parameter 1) bytes v.0 sound fits v.1 in
    let made : Reply × List ℕ = (reply_of code v.0.0, v.0.1) in
    subst (λ (y : Reply × List ℕ). ReplyFound code bytes y) (ok_is made x v.2) (record { values = v.0.0; made = refl; taken = t.0; fits = t.1 })

pub reply_again_at : (code : CommandCode) (values : Values (row code).reply) → are_sound (row code).reply ≡ true → ValuesFit (row code).reply values → reply_at code (spell_values (row code).reply values) ≡ Ok (reply_of code values, [])
unfolding reply_at
reply_again_at code values sound fits =
    let one : values_at (of_parameter 1) (row code).reply (spell_values (row code).reply values) ≡ Ok (values, []) = ap (values_at (of_parameter 1) (row code).reply) (sym (append-nil (spell_values (row code).reply values))) ∙ values_again (row code).reply (of_parameter 1) values [] sound fits in
    rw one refl

-- ---- the table

-- sound kinds, and 4,096 bytes hold header, handles, the longest authorization and parameters
abbrev pub is_sound_row : CommandCode → Bool
is_sound_row code = are_sound (row code).handles && (are_sound (row code).parameters && leb (greatest_lengths (row code).handles + greatest_lengths (row code).parameters) 3900)

pub sound_row : (code : CommandCode) → is_sound_row code ≡ true
sound_row codes.StartAuthSession = refl
sound_row code = refl

pub code_again : (code : CommandCode) → code_of_number (number_of_code code) ≡ Some code
unfolding code_of_number
code_again codes.StartAuthSession = refl
code_again code = refl

pub code_found : (number : ℕ) (code : CommandCode) → code_of_number number ≡ Some code → number_of_code code ≡ number
unfolding code_of_number
code_found number code e = eqb-true _ _ (find_passes (λ command. eqb (number_of_code command) number) all_commands code e)

pub code_below : (code : CommandCode) → number_of_code code ≤ 0x192
code_below codes.StartAuthSession = omega arith
code_below code = omega arith

-- a command is made of its fields
pub command_again : (command : Command) → command_of (code_of_command command) (fields_of command) ≡ command
command_again (commands.StartAuthSession tpm_key bind nonce) = refl
command_again command = refl

-- what holds of a row and its fields holds of the command that they make
pub of_command : (P : (code : CommandCode) → Fields (row code) → Type 0) (code : CommandCode) (fields : Fields (row code)) → P code fields → P (code_of_command (command_of code fields)) (fields_of (command_of code fields))
of_command P codes.StartAuthSession fields h = h
of_command P code fields h = h
