-- Replies: what is read is spelled so, and what is spelled so is read.
use Rattle.std.proofs.Common.{◌≡◌, ◌⊎◌, ℕ, ◌+◌, ◌^◌, ◌<◌, ◌≤◌, ◌≢◌, Bool, true, false, cond, eqb, ltb, leb, ◌&&◌, ◌||◌, List, [], ◌++◌, length, Option, Some, None, Result, Ok, Err, refl, sym, ap, subst, ◌∙◌, arith, eq-eqb, inl, inr}
use Rattle.std.specs.Int.{w16, w32, to_be_bytes}
use Rattle.std.specs.Prelude.{IfOk}
use Rattle.std.specs.Result.{result_ok}
use Rattle.std.proofs.lemmas.Bool.{eqb-true, ltb-false, le-ltb, leb-true, ne_eqb}
use Rattle.std.proofs.lemmas.List.{append-nil, length-append, nil_from_length}
use Rattle.tpol_base.specs.CommandCode.{code_of_number}
use Rattle.tpol_base.specs.Constants.{st_no_sessions, st_rsp_command}
use Rattle.tpol_base.specs.declared.command_code.CommandCode.{CommandCode}
use Rattle.tpol_base.specs.declared.command_code.CommandCode.TheVariants as codes
use Rattle.tpol_base.specs.ResponseCode.{rc_bad_tag}
use Rattle.tpol_wire.specs.declared.auth_area.ReplyAuth.{ReplyAuth}
use Rattle.tpol_wire.specs.declared.fault.ReplyFault.{ReplyFault}
use Rattle.tpol_wire.specs.declared.reply.Reply.{Reply}
use Rattle.tpol_wire.specs.declared.reply.Reply.TheVariants as replies
use Rattle.tpol_wire.specs.Answers.{GivesReply}
use Rattle.tpol_wire.specs.Authorizations.{spell_reply_auth, ReplyAuthFits, tail_of}
use Rattle.tpol_wire.specs.Commands.{Values, spell_values, ValuesFit, tag}
use Rattle.tpol_fields.specs.Kinds.{number_at, bytes_at}
use Rattle.tpol_wire.specs.Reading.{reply_at}
use Rattle.tpol_wire.specs.Replies.{Parts, Served, Refusal, parts_of, reply_of, reply_body, refusal_tag, spell_parts, AuthFits, PartsFit, PartsAnswer, SpellsReply}
use Rattle.tpol_wire.specs.ReplyReading.{◌>>=◌, all_fields_of, reply_auth_of, served_at, refusal_of, answer_of, reply_reading}
use Rattle.tpol_wire.specs.Rows.{row}
use Rattle.tpol_wire.specs.Spellings.{message_bytes}
use Rattle.tpol_fields.proofs.Takes.{IsBytes, neither, wide16, wide32, number_takes, number_again, bytes_take, bytes_again}
use Rattle.tpol_fields.proofs.KindLaws.{both}
use Rattle.tpol_wire.proofs.AuthorizationLaws.{tail_found, tail_again, tail_length}
use Rattle.tpol_wire.proofs.RowLaws.{are_sound, values_length, greatest_lengths, code_again, code_found, reply_found_at, reply_again_at}

-- the value of a step that gave one
bind_some : {A B : Type 0} (o : Option A) (f : A → Option B) (y : B) → (o >>= f) ≡ Some y → (x : A) × (o ≡ Some x) × (f x ≡ Some y)
bind_some (Some x) f y e = (x, refl, e)
bind_some None f y e = absurd cc

ok_some : {A : Type 0} (r : Result A ℕ) (x : A) → result_ok r ≡ Some x → r ≡ Ok x
ok_some (Ok y) x e = let same : y ≡ x = cc in ap (λ z. Ok z) same
ok_some (Err code) x e = absurd cc

-- a choice that gave a value, and a test that was passed
chosen_some : {A : Type 0} (b : Bool) (o : Option A) (y : A) → cond b o None ≡ Some y → (b ≡ true) × (o ≡ Some y)
chosen_some true o y e = (refl, e)
chosen_some false o y e = absurd cc

passed_some : {A : Type 0} (b : Bool) (o : Option A) (y : A) → cond b None o ≡ Some y → (b ≡ false) × (o ≡ Some y)
passed_some true o y e = absurd cc
passed_some false o y e = (refl, e)

abbrev present : {A : Type 0} → A → Option A
present x = Some x

pub some_is : {A : Type 0} (x y : A) → present x ≡ present y → x ≡ y
some_is x y e = cc

-- the kinds of every reply are sound
sound_reply : (code : CommandCode) → (are_sound (row code).reply && leb (greatest_lengths (row code).reply) 3900) ≡ true
sound_reply codes.StartAuthSession = refl
sound_reply code = refl

-- a reply is made of its fields
made_again : (code : CommandCode) (values : Values (row code).reply) → parts_of (reply_of code values) ≡ Served code values
made_again codes.StartAuthSession values = refl
made_again code values = refl

-- the reply that parts make
abbrev whole_of : Parts → Reply
whole_of (Served code values) = reply_of code values
whole_of (Refusal rc) = replies.Refused rc

parts_again : (reply : Reply) → whole_of (parts_of reply) ≡ reply
parts_again (replies.StartAuthSession session nonce) = refl
parts_again reply = refl

-- ---- fields, and authorizations

record FieldsFound (code : CommandCode) (bytes : List ℕ) (reply : Reply) : Type 0 where
  values : Values (row code).reply
  made : reply_of code values ≡ reply
  whole : bytes ≡ spell_values (row code).reply values
  fits : ValuesFit (row code).reply values

fields_found : (code : CommandCode) (bytes : List ℕ) (reply : Reply) → IsBytes bytes → all_fields_of code bytes ≡ Some reply → FieldsFound code bytes reply
unfolding all_fields_of
fields_found code bytes reply fits e =
    let s = both (are_sound (row code).reply) (leb (greatest_lengths (row code).reply) 3900) (sound_reply code) in
    let f = bind_some (result_ok (reply_at code bytes)) (λ found. cond (eqb (length found.1) 0) (Some found.0) None) reply e in
    let g = chosen_some (eqb (length f.0.1) 0) (Some f.0.0) reply f.2 in
    let t = reply_found_at code bytes f.0 s.0 fits (ok_some (reply_at code bytes) f.0 f.1) in
    let nothing : f.0.1 ≡ [] = nil_from_length f.0.1 (eqb-true _ _ g.0) in
    record {
      values = t.values;
      made = t.made ∙ some_is f.0.0 reply g.1;
      whole = t.taken.parts ∙ ap (λ (r : List ℕ). spell_values (row code).reply t.values ++ r) nothing ∙ append-nil (spell_values (row code).reply t.values);
      fits = t.fits;
    }

fields_again : (code : CommandCode) (values : Values (row code).reply) → ValuesFit (row code).reply values → all_fields_of code (spell_values (row code).reply values) ≡ Some (reply_of code values)
unfolding all_fields_of
fields_again code values fits =
    let s = both (are_sound (row code).reply) (leb (greatest_lengths (row code).reply) 3900) (sound_reply code) in
    let one : reply_at code (spell_values (row code).reply values) ≡ Ok (reply_of code values, []) = reply_again_at code values s.0 fits in
    rw one refl

auth_found : (bytes : List ℕ) (auth : ReplyAuth) → IsBytes bytes → reply_auth_of bytes ≡ Some auth → (bytes ≡ spell_reply_auth auth) × ReplyAuthFits auth
unfolding reply_auth_of
auth_found bytes auth fits e =
    let t = bind_some (result_ok (tail_of bytes)) (λ tail. cond (ltb 32 (length tail.0) || ltb 64 (length tail.2)) None (Some (record { nonce = tail.0; attributes = tail.1; hmac = tail.2 }))) auth e in
    let made : ReplyAuth = record { nonce = t.0.0; attributes = t.0.1; hmac = t.0.2 } in
    let p = passed_some (ltb 32 (length t.0.0) || ltb 64 (length t.0.2)) (Some made) auth t.2 in
    let l = neither (ltb 32 (length t.0.0)) (ltb 64 (length t.0.2)) p.0 in
    let f = tail_found bytes t.0 fits (ok_some (tail_of bytes) t.0 t.1) in
    subst (λ (a : ReplyAuth). (bytes ≡ spell_reply_auth a) × ReplyAuthFits a) (some_is made auth p.1) (f.0, record { nonce = ltb-false _ _ l.0; attributes = f.1; hmac = ltb-false _ _ l.1 })

auth_again : (auth : ReplyAuth) → ReplyAuthFits auth → reply_auth_of (spell_reply_auth auth) ≡ Some auth
unfolding reply_auth_of
auth_again auth fits =
    let nonce = fits.nonce in
    let hmac = fits.hmac in
    let one = tail_again auth.nonce auth.attributes auth.hmac (omega arith) fits.attributes (omega arith) in
    let short : ltb 32 (length auth.nonce) ≡ false = le-ltb _ _ fits.nonce in
    let small : ltb 64 (length auth.hmac) ≡ false = le-ltb _ _ fits.hmac in
    rw (one, short, small) refl

-- ---- what stands behind the code 0

record ServedFound (code : CommandCode) (authorized : Bool) (bytes : List ℕ) (x : Reply × Option ReplyAuth) : Type 0 where
  values : Values (row code).reply
  made : reply_of code values ≡ x.0
  whole : bytes ≡ reply_body (spell_values (row code).reply values) x.1
  fits : ValuesFit (row code).reply values
  auth-fits : AuthFits authorized x.1

served_found : (code : CommandCode) (authorized : Bool) (bytes : List ℕ) (x : Reply × Option ReplyAuth) → IsBytes bytes → served_at code authorized bytes ≡ Some x → ServedFound code authorized bytes x
unfolding served_at
served_found code false bytes x fits e =
    let f = bind_some (all_fields_of code bytes) (λ reply. Some (reply, None)) x e in
    let found = fields_found code bytes f.0 fits f.1 in
    subst (λ (y : Reply × Option ReplyAuth). ServedFound code false bytes y) (some_is (f.0, None) x f.2) (record { values = found.values; made = found.made; whole = found.whole; fits = found.fits; auth-fits = refl })
served_found code true bytes x fits e =
    let n = bind_some (result_ok (number_at 0 w32 bytes)) (λ size. result_ok (bytes_at 0 size.0 size.1) >>= λ fields. all_fields_of code fields.0 >>= λ reply. reply_auth_of fields.1 >>= λ auth. Some (reply, Some auth)) x e in
    let t = bind_some (result_ok (bytes_at 0 n.0.0 n.0.1)) (λ fields. all_fields_of code fields.0 >>= λ reply. reply_auth_of fields.1 >>= λ auth. Some (reply, Some auth)) x n.2 in
    let f = bind_some (all_fields_of code t.0.0) (λ reply. reply_auth_of t.0.1 >>= λ auth. Some (reply, Some auth)) x t.2 in
    let a = bind_some (reply_auth_of t.0.1) (λ auth. Some (f.0, Some auth)) x f.2 in
    let front = number_takes 0 w32 wide32 bytes n.0.0 n.0.1 fits (ok_some (number_at 0 w32 bytes) n.0 n.1) in
    let middle = bytes_take 0 n.0.0 n.0.1 t.0.0 t.0.1 front.0.rest_fits (ok_some (bytes_at 0 n.0.0 n.0.1) t.0 t.1) in
    let found = fields_found code t.0.0 f.0 middle.2 f.1 in
    let auth = auth_found t.0.1 a.0 middle.0.rest_fits a.1 in
    let V = spell_values (row code).reply found.values in
    let len : n.0.0 ≡ length V = sym middle.1 ∙ ap length found.whole in
    let whole : bytes ≡ to_be_bytes w32 (length V) ++ V ++ spell_reply_auth a.0 =
    front.0.parts ∙ ap (λ (r : List ℕ). to_be_bytes w32 n.0.0 ++ r) middle.0.parts ∙ ap (λ (k : ℕ). to_be_bytes w32 k ++ (t.0.0 ++ t.0.1)) len
    ∙ ap (λ (v : List ℕ). to_be_bytes w32 (length V) ++ (v ++ t.0.1)) found.whole ∙ ap (λ (r : List ℕ). to_be_bytes w32 (length V) ++ (V ++ r)) auth.0 in
    subst (λ (y : Reply × Option ReplyAuth). ServedFound code true bytes y) (some_is (f.0, Some a.0) x a.2) (record { values = found.values; made = found.made; whole = whole; fits = found.fits; auth-fits = auth.1 })

served_again : (code : CommandCode) (authorized : Bool) (values : Values (row code).reply) (auth : Option ReplyAuth) → ValuesFit (row code).reply values → AuthFits authorized auth → served_at code authorized (reply_body (spell_values (row code).reply values) auth) ≡ Some (reply_of code values, auth)
unfolding served_at
served_again code true values None fits auth-fits = absurd auth-fits
served_again code true values (Some auth) fits auth-fits =
    let s = both (are_sound (row code).reply) (leb (greatest_lengths (row code).reply) 3900) (sound_reply code) in
    let V = spell_values (row code).reply values in
    let short = values_length (row code).reply values s.0 fits in
    let most = leb-true _ _ s.1 in
    let one = number_again 0 w32 wide32 (length V) (V ++ spell_reply_auth auth) (omega arith) in
    let two = bytes_again 0 (length V) V (spell_reply_auth auth) refl in
    rw (one, two, fields_again code values fits, auth_again auth auth-fits) refl
served_again code false values auth fits auth-fits = rw (auth-fits, fields_again code values fits) refl

-- ---- the whole

record Answered (o : Option CommandCode) (t : ℕ) (rest : List ℕ) (x : Reply × Option ReplyAuth) : Type 0 where
  code : CommandCode
  known : o ≡ Some code
  tag-is : t ≡ tag (row code).is_authorized
  served : served_at code (row code).is_authorized rest ≡ Some x

answer_ok : (o : Option CommandCode) (t : ℕ) (rest : List ℕ) (x : Reply × Option ReplyAuth) → answer_of o t rest ≡ Some x → Answered o t rest x
unfolding answer_of
answer_ok None t rest x e = absurd cc
answer_ok (Some code) t rest x e =
    let g = chosen_some (eqb t (tag (row code).is_authorized)) (served_at code (row code).is_authorized rest) x e in
    record { code = code; known = refl; tag-is = eqb-true _ _ g.0; served = g.1 }

abbrev IsReply : ℕ → List ℕ → Option ReplyAuth → Parts → Type 0
IsReply number bytes auth parts = (bytes ≡ spell_parts parts auth) × PartsFit parts auth × PartsAnswer number parts

spells_reply : (number : ℕ) (bytes : List ℕ) (reply : Reply) (auth : Option ReplyAuth) → IsReply number bytes auth (parts_of reply) → SpellsReply number bytes reply auth
spells_reply number bytes reply auth h = record { whole = h.0; fits = h.1; answers = h.2 }

-- the code is 0 or not
zero_or_not : (n : ℕ) (b : Bool) → eqb n 0 ≡ b → (n ≡ 0) ⊎ ((b ≡ false) × (n ≢ 0))
zero_or_not n true h = inl (eqb-true _ _ h)
zero_or_not n false h = inr (refl, λ e. let t : eqb n 0 ≡ true = eq-eqb n 0 e in cc)

served_spells : (number : ℕ) (bytes rest : List ℕ) (t : ℕ) (x : Reply × Option ReplyAuth) → IsBytes rest → bytes ≡ message_bytes t 0 rest → answer_of (code_of_number number) t rest ≡ Some x → SpellsReply number bytes x.0 x.1
served_spells number bytes rest t x fits whole e =
    let a = answer_ok (code_of_number number) t rest x e in
    let f = served_found a.code (row a.code).is_authorized rest x fits a.served in
    let spelled : bytes ≡ spell_parts (Served a.code f.values) x.1 = whole ∙ ap (λ (k : ℕ). message_bytes k 0 rest) a.tag-is ∙ ap (λ (r : List ℕ). message_bytes (tag (row a.code).is_authorized) 0 r) f.whole in
    let parts : Served a.code f.values ≡ parts_of x.0 = sym (made_again a.code f.values) ∙ ap parts_of f.made in
    spells_reply number bytes x.0 x.1 (subst (λ (p : Parts). IsReply number bytes x.1 p) parts (spelled, (f.fits, f.auth-fits), code_found number a.code a.known))

refused_spells : (number : ℕ) (bytes rest : List ℕ) (t n : ℕ) (x : Reply × Option ReplyAuth) → n < 2 ^ 32 → n ≢ 0 → bytes ≡ message_bytes t n rest → refusal_of t n rest ≡ Some x → SpellsReply number bytes x.0 x.1
unfolding refusal_of
refused_spells number bytes rest t n x below not-zero whole e =
    let made : Reply × Option ReplyAuth = (replies.Refused (record { code = n }), None) in
    let g = chosen_some (eqb t (refusal_tag n) && eqb (length rest) 0) (Some made) x e in
    let b = both (eqb t (refusal_tag n)) (eqb (length rest) 0) g.0 in
    let nothing : rest ≡ [] = nil_from_length rest (eqb-true _ _ b.1) in
    let spelled : bytes ≡ message_bytes (refusal_tag n) n [] = whole ∙ ap (λ (k : ℕ). message_bytes k n rest) (eqb-true _ _ b.0) ∙ ap (λ (r : List ℕ). message_bytes (refusal_tag n) n r) nothing in
    subst (λ (y : Reply × Option ReplyAuth). SpellsReply number bytes y.0 y.1) (some_is made x g.1) (record { whole = spelled; fits = (not-zero, below, refl); answers = tt })

reply_found : (number : ℕ) (bytes : List ℕ) (x : Reply × Option ReplyAuth) → IsBytes bytes → reply_reading number bytes ≡ Some x → SpellsReply number bytes x.0 x.1
unfolding reply_reading
reply_found number bytes x fits e =
    let a = bind_some (result_ok (number_at 0 w16 bytes)) (λ tag. result_ok (number_at 0 w32 tag.1) >>= λ size. result_ok (number_at 0 w32 size.1) >>= λ code. cond (eqb size.0 (length bytes)) (cond (eqb code.0 0) (answer_of (code_of_number number) tag.0 code.1) (refusal_of tag.0 code.0 code.1)) None) x e in
    let b = bind_some (result_ok (number_at 0 w32 a.0.1)) (λ size. result_ok (number_at 0 w32 size.1) >>= λ code. cond (eqb size.0 (length bytes)) (cond (eqb code.0 0) (answer_of (code_of_number number) a.0.0 code.1) (refusal_of a.0.0 code.0 code.1)) None) x a.2 in
    let c = bind_some (result_ok (number_at 0 w32 b.0.1)) (λ code. cond (eqb b.0.0 (length bytes)) (cond (eqb code.0 0) (answer_of (code_of_number number) a.0.0 code.1) (refusal_of a.0.0 code.0 code.1)) None) x b.2 in
    let g = chosen_some (eqb b.0.0 (length bytes)) (cond (eqb c.0.0 0) (answer_of (code_of_number number) a.0.0 c.0.1) (refusal_of a.0.0 c.0.0 c.0.1)) x c.2 in
    let t0 = number_takes 0 w16 wide16 bytes a.0.0 a.0.1 fits (ok_some (number_at 0 w16 bytes) a.0 a.1) in
    let t1 = number_takes 0 w32 wide32 a.0.1 b.0.0 b.0.1 t0.0.rest_fits (ok_some (number_at 0 w32 a.0.1) b.0 b.1) in
    let t2 = number_takes 0 w32 wide32 b.0.1 c.0.0 c.0.1 t1.0.rest_fits (ok_some (number_at 0 w32 b.0.1) c.0 c.1) in
    let e1 : a.0.1 ≡ to_be_bytes w32 b.0.0 ++ (to_be_bytes w32 c.0.0 ++ c.0.1) = t1.0.parts ∙ ap (λ (r : List ℕ). to_be_bytes w32 b.0.0 ++ r) t2.0.parts in
    let e0 : bytes ≡ to_be_bytes w16 a.0.0 ++ (to_be_bytes w32 b.0.0 ++ (to_be_bytes w32 c.0.0 ++ c.0.1)) = t0.0.parts ∙ ap (λ (r : List ℕ). to_be_bytes w16 a.0.0 ++ r) e1 in
    let l : length bytes ≡ length (to_be_bytes w16 a.0.0 ++ (to_be_bytes w32 b.0.0 ++ (to_be_bytes w32 c.0.0 ++ c.0.1))) = ap length e0 in
    let long : length bytes ≡ 10 + length c.0.1 = omega arith in
    let size : b.0.0 ≡ 10 + length c.0.1 = eqb-true _ _ g.0 ∙ long in
    let whole : bytes ≡ message_bytes a.0.0 c.0.0 c.0.1 = e0 ∙ ap (λ (n : ℕ). to_be_bytes w16 a.0.0 ++ (to_be_bytes w32 n ++ (to_be_bytes w32 c.0.0 ++ c.0.1))) size in
    let answer = answer_of (code_of_number number) a.0.0 c.0.1 in
    let refusal = refusal_of a.0.0 c.0.0 c.0.1 in
    elim (zero_or_not c.0.0 (eqb c.0.0 0) refl) [
      | inl zero-is ↦
          let picked : answer ≡ Some x = sym (ap (λ (n : ℕ). cond (eqb n 0) answer refusal) zero-is) ∙ g.1 in
          served_spells number bytes c.0.1 a.0.0 x t2.0.rest_fits (subst (λ (n : ℕ). bytes ≡ message_bytes a.0.0 n c.0.1) zero-is whole) picked
      | inr other ↦
          let picked : refusal ≡ Some x = sym (ap (λ (v : Bool). cond v answer refusal) other.0) ∙ g.1 in
          refused_spells number bytes c.0.1 a.0.0 c.0.0 x t2.1 other.1 whole picked
    ]

body_short : (code : CommandCode) (values : Values (row code).reply) (authorized : Bool) (auth : Option ReplyAuth) → ValuesFit (row code).reply values → AuthFits authorized auth → length (reply_body (spell_values (row code).reply values) auth) ≤ 4009
body_short code values authorized None fits auth-fits =
    let s = both (are_sound (row code).reply) (leb (greatest_lengths (row code).reply) 3900) (sound_reply code) in
    let short = values_length (row code).reply values s.0 fits in
    let most = leb-true _ _ s.1 in
    omega arith
body_short code values true (Some auth) fits auth-fits =
    let s = both (are_sound (row code).reply) (leb (greatest_lengths (row code).reply) 3900) (sound_reply code) in
    let V = spell_values (row code).reply values in
    let short = values_length (row code).reply values s.0 fits in
    let most = leb-true _ _ s.1 in
    let nonce = auth-fits.nonce in
    let hmac = auth-fits.hmac in
    let l = tail_length auth.nonce auth.attributes auth.hmac in
    let j = length-append V (spell_reply_auth auth) in
    omega arith
body_short code values false (Some auth) fits auth-fits = absurd cc

parts_read : (number : ℕ) (parts : Parts) (auth : Option ReplyAuth) → PartsFit parts auth → PartsAnswer number parts → reply_reading number (spell_parts parts auth) ≡ Some (whole_of parts, auth)
unfolding reply_reading answer_of refusal_of
parts_read number (Served code values) auth fits answers =
    let B = reply_body (spell_values (row code).reply values) auth in
    let is = (row code).is_authorized in
    let short = body_short code values is auth fits.0 fits.1 in
    let one = number_again 0 w16 wide16 (tag is) (to_be_bytes w32 (10 + length B) ++ (to_be_bytes w32 0 ++ B)) (tag_below is) in
    let two = number_again 0 w32 wide32 (10 + length B) (to_be_bytes w32 0 ++ B) (omega arith) in
    let three = number_again 0 w32 wide32 0 B (omega arith) in
    let len : length (to_be_bytes w16 (tag is) ++ (to_be_bytes w32 (10 + length B) ++ (to_be_bytes w32 0 ++ B))) ≡ 10 + length B = omega arith in
    let size = eq-eqb (10 + length B) _ (sym len) in
    let known : code_of_number number ≡ Some code = subst (λ (n : ℕ). code_of_number n ≡ Some code) answers (code_again code) in
    let same = eq-eqb (tag is) (tag is) refl in
    rw (one, two, three, size, known, same, served_again code is values auth fits.0 fits.1) refl
  where
    tag_below : (b : Bool) → tag b < 2 ^ 16
    tag_below true = omega arith
    tag_below false = omega arith
parts_read number (Refusal rc) auth fits answers =
    let n = rc.code in
    let t = refusal_tag n in
    let one = wide16.again t (refusal_tag_below n) in
    let three = wide32.again n fits.1 in
    let not-zero : eqb n 0 ≡ false = ne_eqb n 0 fits.0 in
    let same = eq-eqb t t refl in
    rw (one, three, not-zero, same, fits.2) refl
  where
    refusal_tag_below : (n : ℕ) → refusal_tag n < 2 ^ 16
    refusal_tag_below n = elim (eqb n rc_bad_tag) as (λ b. cond b st_rsp_command st_no_sessions < 2 ^ 16) [ true ↦ omega arith | false ↦ omega arith ]

pub reply_read : (number : ℕ) (bytes : List ℕ) (reply : Reply) (auth : Option ReplyAuth) → SpellsReply number bytes reply auth → reply_reading number bytes ≡ Some (reply, auth)
reply_read number bytes reply auth spelled = ap (reply_reading number) spelled.whole ∙ parts_read number (parts_of reply) auth spelled.fits spelled.answers ∙ ap (λ (r : Reply). done (r, auth)) (parts_again reply)
  where
    done : Reply × Option ReplyAuth → Option (Reply × Option ReplyAuth)
    done x = Some x

-- ---- what a call answers

pub given_reply : (number : ℕ) (bytes : List ℕ) (result : Result (Reply × Option ReplyAuth) ReplyFault) → IsBytes bytes → GivesReply result (reply_reading number bytes) → IfOk result (λ found. SpellsReply number bytes found.0 found.1)
given_reply number bytes (Ok found) fits given = reply_found number bytes found fits given
given_reply number bytes (Err fault) fits given = tt
