-- Commands: what is read is spelled so, and what is spelled so is read.
use Rattle.std.proofs.Common.{◌≡◌, ℕ, ◌+◌, ◌^◌, ◌<◌, ◌≤◌, Bool, true, false, cond, not, eqb, ltb, leb, ◌&&◌, ◌||◌, List, [], ◌++◌, length, take, drop, Option, Some, None, Result, Ok, Err, refl, sym, ap, subst, ◌∙◌, append_assoc, arith}
use Rattle.std.specs.Int.{Width, w16, w32, byte_len, from_be_bytes, to_be_bytes}
use Rattle.std.proofs.lemmas.Bool.{eqb-true, leb-true, ltb-false, le-ltb}
use Rattle.std.proofs.lemmas.List.{append-nil, length-append, length-drop, drop-drop, nil_from_length, take_at, drop_at}
use Rattle.tpol_base.specs.Cursor.{NumberTaken}
use Rattle.std.specs.Prelude.{IfOk}
use Rattle.tpol_fields.specs.declared.fault.WireFault.{WireFault}
use Rattle.tpol_wire.specs.declared.command.Command.{Command}
use Rattle.tpol_base.specs.declared.command_code.CommandCode.{CommandCode}
use Rattle.tpol_wire.specs.Authorizations.{AreaOf, AuthorizationFits, authorization, authorization_at}
use Rattle.tpol_base.specs.CommandCode.{number_of_code, code_of_number}
use Rattle.tpol_wire.specs.Commands.{Fields, Values, ValuesFit, spell_values, code_of_command, fields_of, command_of, tag, body, layout, FieldsFit, Spells}
use Rattle.tpol_fields.specs.Kinds.{Kind, limit, number_at}
use Rattle.tpol_wire.specs.FieldRules.{number_in}
use Rattle.tpol_wire.specs.Reading.{values_at, front_at, body_at, known, header_of, reading}
use Rattle.tpol_base.specs.Answers.{◌>>=◌}
use Rattle.tpol_base.specs.ResponseCode.{of_handle, of_parameter, rc_size, rc_bad_tag, rc_command_size}
use Rattle.tpol_fields.specs.Answers.{Gives}
use Rattle.tpol_wire.specs.Rows.{row}
use Rattle.tpol_fields.proofs.Takes.{IsBytes, IsBytes-drop, bind_ok, chosen_ok, passed, neither, unnot, ok_is, Takes, Takes-then, IsWide, wide16, wide32, number_takes}
use Rattle.tpol_fields.proofs.KindLaws.{both}
use Rattle.tpol_wire.proofs.AuthorizationLaws.{authorization_found, authorization_again, authorization_length}
use Rattle.tpol_wire.proofs.RowLaws.{are_sound, values_found, values_again, values_length, greatest_lengths, sound_row, code_again, code_found, code_below, command_again, of_command}
use Rattle.tpol_wire.proofs.Header.{header_taken}

-- ---- the header

known_ok : (o : Option CommandCode) (announced : Bool) (x : CommandCode × Bool) → known o announced ≡ Ok x → (o ≡ Some x.0) × (announced ≡ x.1)
known_ok None announced x e = absurd cc
known_ok (Some code) announced x e = let p : (code, announced) ≡ x = ok_is (code, announced) x e in (ap (λ (y : CommandCode × Bool). Some y.0) p, ap (λ (y : CommandCode × Bool). y.1) p)

tagged_ok : (t : ℕ) (o : Option CommandCode) (x : CommandCode × Bool) (a b : Bool) → eqb t (tag false) ≡ a → eqb t (tag true) ≡ b → cond a (known o false) (cond b (known o true) (Err rc_bad_tag)) ≡ Ok x → (t ≡ tag x.1) × (o ≡ Some x.0)
tagged_ok t o x true b h k e = let p = known_ok o false x e in (subst (λ (c : Bool). t ≡ tag c) p.1 (eqb-true _ _ h), p.0)
tagged_ok t o x false true h k e = let p = known_ok o true x e in (subst (λ (c : Bool). t ≡ tag c) p.1 (eqb-true _ _ k), p.0)
tagged_ok t o x false false h k e = absurd cc

-- a number that stands at the front
number_front : (w : Width) (wide : IsWide w) (bytes : List ℕ) → IsBytes bytes → byte_len w ≤ length bytes → Takes bytes (to_be_bytes w (from_be_bytes w (take (byte_len w) bytes))) (drop (byte_len w) bytes)
number_front w wide bytes fits long =
    let enough : ltb (length bytes) (byte_len w) ≡ false = le-ltb _ _ long in
    let e : number_at 0 w bytes ≡ Ok (from_be_bytes w (take (byte_len w) bytes), drop (byte_len w) bytes) = rw enough refl in
    (number_takes 0 w wide bytes (from_be_bytes w (take (byte_len w) bytes)) (drop (byte_len w) bytes) fits e).0

abbrev head : ℕ → ℕ → ℕ → List ℕ
head t size n = to_be_bytes w16 t ++ (to_be_bytes w32 size ++ to_be_bytes w32 n)

header_parts : (bytes : List ℕ) → IsBytes bytes → 10 ≤ length bytes → Takes bytes (head (number_in w16 0 bytes) (number_in w32 2 bytes) (number_in w32 6 bytes)) (drop 10 bytes)
header_parts bytes fits long =
    let l2 = length-drop 2 bytes in
    let l6 = length-drop 6 bytes in
    let first = number_front w16 wide16 bytes fits (omega arith) in
    let second : Takes (drop 2 bytes) (to_be_bytes w32 (number_in w32 2 bytes)) (drop 6 bytes) = subst (λ (r : List ℕ). Takes (drop 2 bytes) (to_be_bytes w32 (number_in w32 2 bytes)) r) (drop-drop 4 2 bytes) (number_front w32 wide32 (drop 2 bytes) (IsBytes-drop 2 bytes fits) (omega arith)) in
    let third : Takes (drop 6 bytes) (to_be_bytes w32 (number_in w32 6 bytes)) (drop 10 bytes) = subst (λ (r : List ℕ). Takes (drop 6 bytes) (to_be_bytes w32 (number_in w32 6 bytes)) r) (drop-drop 4 6 bytes) (number_front w32 wide32 (drop 6 bytes) (IsBytes-drop 6 bytes fits) (omega arith)) in
    Takes-then bytes (to_be_bytes w16 (number_in w16 0 bytes)) (drop 2 bytes) (to_be_bytes w32 (number_in w32 2 bytes) ++ to_be_bytes w32 (number_in w32 6 bytes)) (drop 10 bytes) first
    (Takes-then (drop 2 bytes) (to_be_bytes w32 (number_in w32 2 bytes)) (drop 6 bytes) (to_be_bytes w32 (number_in w32 6 bytes)) (drop 10 bytes) second third)

header_found : (bytes : List ℕ) (x : CommandCode × Bool) → IsBytes bytes → header_of bytes ≡ Ok x → Takes bytes (head (tag x.1) (length bytes) (number_of_code x.0)) (drop 10 bytes) × (length bytes ≡ 10 + length (drop 10 bytes))
unfolding header_of
header_found bytes x fits e =
    let lengths = ltb (length bytes) 10 || ltb 4096 (length bytes) in
    let t = number_in w16 0 bytes in
    let o = code_of_number (number_in w32 6 bytes) in
    let rest = cond (eqb t (tag false)) (known o false) (cond (eqb t (tag true)) (known o true) (Err rc_bad_tag)) in
    let p = passed (lengths || not (eqb (number_in w32 2 bytes) (length bytes))) rc_command_size rest x e in
    let q = neither lengths (not (eqb (number_in w32 2 bytes) (length bytes))) p.0 in
    let r = neither (ltb (length bytes) 10) (ltb 4096 (length bytes)) q.0 in
    let long : 10 ≤ length bytes = ltb-false _ _ r.0 in
    let size : number_in w32 2 bytes ≡ length bytes = eqb-true _ _ (unnot (eqb (number_in w32 2 bytes) (length bytes)) q.1) in
    let s = tagged_ok t o x (eqb t (tag false)) (eqb t (tag true)) refl refl p.1 in
    let code : number_of_code x.0 ≡ number_in w32 6 bytes = code_found (number_in w32 6 bytes) x.0 s.1 in (
      subst (λ (n : ℕ). Takes bytes (head (tag x.1) (length bytes) n) (drop 10 bytes)) (sym code)
          (subst (λ (n : ℕ). Takes bytes (head (tag x.1) n (number_in w32 6 bytes)) (drop 10 bytes)) size
          (subst (λ (n : ℕ). Takes bytes (head n (number_in w32 2 bytes) (number_in w32 6 bytes)) (drop 10 bytes)) s.0 (header_parts bytes fits long))),
      omega (arith, length-drop 10 bytes),
    )

number_taken : (w : Width) (wide : IsWide w) (n : ℕ) (rest : List ℕ) → n < limit w → NumberTaken w (to_be_bytes w n ++ rest) rest (Some n)
number_taken w wide n rest lt =
    let len = wide.len n in
    let taken : take (byte_len w) (to_be_bytes w n ++ rest) ≡ to_be_bytes w n = take_at (to_be_bytes w n) rest (byte_len w) len in
    (omega (arith, length-append (to_be_bytes w n) rest), sym (ap (from_be_bytes w) taken ∙ wide.again n lt), sym (drop_at (to_be_bytes w n) rest (byte_len w) len))

header_again : (announced : Bool) (code : CommandCode) (rest : List ℕ) → 10 + length rest ≤ 4096 → header_of (head (tag announced) (10 + length rest) (number_of_code code) ++ rest) ≡ Ok (code, announced)
header_again announced code rest short =
    let n = number_of_code code in
    let third = to_be_bytes w32 n ++ rest in
    let second = to_be_bytes w32 (10 + length rest) ++ third in
    let small = code_below code in
    let one = number_taken w16 wide16 (tag announced) second (tag_below announced) in
    let two = number_taken w32 wide32 (10 + length rest) third (omega arith) in
    let three = number_taken w32 wide32 n rest (omega arith) in
    let whole : head (tag announced) (10 + length rest) n ++ rest ≡ to_be_bytes w16 (tag announced) ++ second = refl in
    let len : length (to_be_bytes w16 (tag announced) ++ second) ≡ 10 + length rest = omega arith in
    header_taken announced (to_be_bytes w16 (tag announced) ++ second) second third rest (tag announced) (10 + length rest) n one two three (omega arith) (sym len) refl
    ∙ ap (λ (o : Option CommandCode). known o announced) (code_again code)
  where
    tag_below : (b : Bool) → tag b < 2 ^ 16
    tag_below true = omega arith
    tag_below false = omega arith

-- ---- the body

record FrontFound (handles : List Kind) (is : Bool) (tagged : Bool) (bytes : List ℕ) (x : (Values handles × AreaOf is) × List ℕ) : Type 0 where
  taken : Takes bytes (spell_values handles x.0.0 ++ authorization is x.0.1) x.1
  handles-fit : ValuesFit handles x.0.0
  area-fits : AuthorizationFits is x.0.1
  tag-is : tagged ≡ is

front_found : (handles : List Kind) (is : Bool) (tagged : Bool) (bytes : List ℕ) (x : (Values handles × AreaOf is) × List ℕ) → are_sound handles ≡ true → IsBytes bytes → front_at handles is tagged bytes ≡ Ok x → FrontFound handles is tagged bytes x
unfolding front_at
front_found handles is tagged bytes x sound fits e =
    let h = bind_ok (values_at (of_handle 1) handles bytes) (λ values. authorization_at is tagged values.1 >>= λ area. Ok ((values.0, area.0), area.1)) x e in
    let a = bind_ok (authorization_at is tagged h.0.1) (λ area. Ok ((h.0.0, area.0), area.1)) x h.2 in
    let ht = values_found handles (of_handle 1) bytes h.0 sound fits h.1 in
    let at = authorization_found is tagged h.0.1 a.0 ht.0.rest_fits a.1 in
    let taken = Takes-then bytes (spell_values handles h.0.0) h.0.1 (authorization is a.0.0) a.0.1 ht.0 at.0 in
    let made : (Values handles × AreaOf is) × List ℕ = ((h.0.0, a.0.0), a.0.1) in
    subst (FrontFound handles is tagged bytes) (ok_is made x a.2) (record { taken = taken; handles-fit = ht.1; area-fits = at.1; tag-is = at.2 })

front_again : (handles : List Kind) (is : Bool) (values : Values handles) (area : AreaOf is) (rest : List ℕ) → are_sound handles ≡ true → ValuesFit handles values → AuthorizationFits is area
    → front_at handles is is (spell_values handles values ++ (authorization is area ++ rest)) ≡ Ok ((values, area), rest)
unfolding front_at
front_again handles is values area rest sound values-fit area-fits =
    let one = values_again handles (of_handle 1) values (authorization is area ++ rest) sound values-fit in
    let two = authorization_again is area rest area-fits in
    rw (one, two) refl

record BodyFound (code : CommandCode) (tagged : Bool) (bytes : List ℕ) (x : Command × List ℕ) : Type 0 where
  fields : Fields (row code)
  made : command_of code fields ≡ x.0
  taken : Takes bytes (body code fields) x.1
  fits : FieldsFit code fields
  tag-is : tagged ≡ (row code).is_authorized

body_found : (code : CommandCode) (tagged : Bool) (bytes : List ℕ) (x : Command × List ℕ) → IsBytes bytes → body_at code tagged bytes ≡ Ok x → BodyFound code tagged bytes x
unfolding body_at
body_found code tagged bytes x fits e =
    let h-kinds = (row code).handles in
    let p-kinds = (row code).parameters in
    let is = (row code).is_authorized in
    let s = both (are_sound h-kinds) (are_sound p-kinds && leb (greatest_lengths h-kinds + greatest_lengths p-kinds) 3900) (sound_row code) in
    let t = both (are_sound p-kinds) (leb (greatest_lengths h-kinds + greatest_lengths p-kinds) 3900) s.1 in
    let f = bind_ok (front_at h-kinds is tagged bytes) (λ front. values_at (of_parameter 1) p-kinds front.1 >>= λ parameters. Ok (command_of code (record { handles = front.0.0; area = front.0.1; parameters = parameters.0 }), parameters.1)) x e in
    let p = bind_ok (values_at (of_parameter 1) p-kinds f.0.1) (λ parameters. Ok (command_of code (record { handles = f.0.0.0; area = f.0.0.1; parameters = parameters.0 }), parameters.1)) x f.2 in
    let front = front_found h-kinds is tagged bytes f.0 s.0 fits f.1 in
    let pt = values_found p-kinds (of_parameter 1) f.0.1 p.0 t.0 front.taken.rest_fits p.1 in
    let fields : Fields (row code) = record { handles = f.0.0.0; area = f.0.0.1; parameters = p.0.0 } in
    let all = Takes-then bytes (spell_values h-kinds f.0.0.0 ++ authorization is f.0.0.1) f.0.1 (spell_values p-kinds p.0.0) p.0.1 front.taken pt.0 in
    let same = ok_is (command_of code fields, p.0.1) x p.2 in
    record {
      fields = fields;
      made = ap (λ (y : Command × List ℕ). y.0) same;
      taken = subst (λ (r : List ℕ). Takes bytes (body code fields) r) (ap (λ (y : Command × List ℕ). y.1) same) all;
      fits = record { handles = front.handles-fit; area = front.area-fits; parameters = pt.1 };
      tag-is = front.tag-is;
    }

body_again : (code : CommandCode) (fields : Fields (row code)) → FieldsFit code fields → body_at code (row code).is_authorized (body code fields) ≡ Ok (command_of code fields, [])
unfolding body_at
body_again code fields fits =
    let h-kinds = (row code).handles in
    let p-kinds = (row code).parameters in
    let is = (row code).is_authorized in
    let s = both (are_sound h-kinds) (are_sound p-kinds && leb (greatest_lengths h-kinds + greatest_lengths p-kinds) 3900) (sound_row code) in
    let t = both (are_sound p-kinds) (leb (greatest_lengths h-kinds + greatest_lengths p-kinds) 3900) s.1 in
    let H = spell_values h-kinds fields.handles in
    let A = authorization is fields.area in
    let P = spell_values p-kinds fields.parameters in
    let regrouped : body code fields ≡ H ++ (A ++ (P ++ [])) = append_assoc H A P ∙ ap (λ (r : List ℕ). H ++ (A ++ r)) (sym (append-nil P)) in
    let one = front_again h-kinds is fields.handles fields.area (P ++ []) s.0 fits.handles fits.area in
    let two = values_again p-kinds (of_parameter 1) fields.parameters [] t.0 fits.parameters in
    ap (body_at code is) regrouped ∙ rw (one, two) refl

body_length : (code : CommandCode) (fields : Fields (row code)) → FieldsFit code fields → length (body code fields) ≤ 4009
body_length code fields fits =
    let h-kinds = (row code).handles in
    let p-kinds = (row code).parameters in
    let is = (row code).is_authorized in
    let s = both (are_sound h-kinds) (are_sound p-kinds && leb (greatest_lengths h-kinds + greatest_lengths p-kinds) 3900) (sound_row code) in
    let t = both (are_sound p-kinds) (leb (greatest_lengths h-kinds + greatest_lengths p-kinds) 3900) s.1 in
    let most : greatest_lengths h-kinds + greatest_lengths p-kinds ≤ 3900 = leb-true _ _ t.1 in
    let h = values_length h-kinds fields.handles s.0 fits.handles in
    let a = authorization_length is fields.area fits.area in
    let p = values_length p-kinds fields.parameters t.0 fits.parameters in
    let l1 = length-append (spell_values h-kinds fields.handles) (authorization is fields.area) in
    let l2 = length-append (spell_values h-kinds fields.handles ++ authorization is fields.area) (spell_values p-kinds fields.parameters) in
    omega arith

-- ---- the whole

abbrev IsSpelled : List ℕ → (code : CommandCode) → Fields (row code) → Type 0
IsSpelled bytes code fields = (bytes ≡ layout code fields) × FieldsFit code fields

pub command_found : (bytes : List ℕ) (command : Command) → IsBytes bytes → reading bytes ≡ Ok command → Spells bytes command
unfolding reading
command_found bytes command fits e =
    let h = bind_ok (header_of bytes) (λ header. body_at header.0 header.1 (drop 10 bytes) >>= λ found. cond (eqb (length found.1) 0) (Ok found.0) (Err rc_size)) command e in
    let code = h.0.0 in
    let b = bind_ok (body_at code h.0.1 (drop 10 bytes)) (λ found. cond (eqb (length found.1) 0) (Ok found.0) (Err rc_size)) command h.2 in
    let g = chosen_ok (eqb (length b.0.1) 0) rc_size (Ok b.0.0) command b.2 in
    let head-found = header_found bytes h.0 fits h.1 in
    let found = body_found code h.0.1 (drop 10 bytes) b.0 head-found.0.rest_fits b.1 in
    let nothing : b.0.1 ≡ [] = nil_from_length b.0.1 (eqb-true _ _ g.0) in
    let rest : drop 10 bytes ≡ body code found.fields = found.taken.parts ∙ ap (λ (r : List ℕ). body code found.fields ++ r) nothing ∙ append-nil (body code found.fields) in
    let len : length bytes ≡ 10 + length (body code found.fields) = head-found.1 ∙ ap (λ (r : List ℕ). 10 + length r) rest in
    let whole : bytes ≡ head (tag h.0.1) (length bytes) (number_of_code code) ++ body code found.fields = head-found.0.parts ∙ ap (λ (r : List ℕ). head (tag h.0.1) (length bytes) (number_of_code code) ++ r) rest in
    let spelled : bytes ≡ layout code found.fields =
    whole ∙ ap (λ (n : ℕ). head (tag h.0.1) n (number_of_code code) ++ body code found.fields) len
    ∙ ap (λ (c : Bool). head (tag c) (10 + length (body code found.fields)) (number_of_code code) ++ body code found.fields) found.tag-is in
    let of-made = of_command (IsSpelled bytes) code found.fields (spelled, found.fits) in
    subst (λ (c : Command). Spells bytes c) (found.made ∙ ok_is b.0.0 command g.1) (record { whole = of-made.0; fits = of-made.1 })

layout_again : (code : CommandCode) (fields : Fields (row code)) → FieldsFit code fields → reading (layout code fields) ≡ Ok (command_of code fields)
unfolding reading
layout_again code fields fits =
    let short = body_length code fields fits in
    let one : header_of (layout code fields) ≡ Ok (code, (row code).is_authorized) = header_again (row code).is_authorized code (body code fields) (omega arith) in
    let two = body_again code fields fits in
    rw (one, two) refl

pub command_read : (bytes : List ℕ) (command : Command) → Spells bytes command → reading bytes ≡ Ok command
command_read bytes command spelled = ap reading spelled.whole ∙ layout_again (code_of_command command) (fields_of command) spelled.fits ∙ ap (λ (c : Command). done c) (command_again command)
  where
    done : Command → Result Command ℕ
    done c = Ok c

-- ---- what a call answers

pub given_found : (bytes : List ℕ) (result : Result Command WireFault) → IsBytes bytes → Gives result (reading bytes) → IfOk result (λ command. Spells bytes command)
given_found bytes (Ok command) fits given = command_found bytes command fits given
given_found bytes (Err fault) fits given = tt
