-- The first rule of the wire that a buffer breaks is what a reading of it is refused with.
use Rattle.std.proofs.Common.{◌≡◌, ℕ, ◌+◌, ◌<◌, ◌≤◌, Bool, true, false, cond, not, eqb, ltb, leb, ◌&&◌, ◌||◌, List, [], ◌∷◌, ◌++◌, length, take, drop, Option, Some, None, Result, Ok, Err, refl, sym, ap, subst, ◌∙◌, append_assoc, arith, inl, inr, eq-eqb}
use Rattle.std.specs.Prelude.{IsOk}
use Rattle.std.specs.Int.{Width, w8, w16, w32, byte_len}
use Rattle.std.specs.Option.{is_some, option_map_or}
use Rattle.std.specs.Result.{result_err}
use Rattle.std.proofs.lemmas.Bool.{false≢true, and_from, cases_Bool, cases_lt, eqb-true, false_from_ne_true, lt-ltb, le-ltb, lt-leb, le-leb, ne_eqb}
use Rattle.std.proofs.lemmas.List.{drop-drop, length-drop, length-take, length-take-le}
use Rattle.tpol_wire.specs.declared.auth_area.AuthArea.{AuthArea}
use Rattle.tpol_wire.specs.declared.command.Command.{Command}
use Rattle.tpol_base.specs.declared.command_code.CommandCode.{CommandCode}
use Rattle.tpol_base.specs.Answers.{◌>>=◌}
use Rattle.tpol_base.specs.CommandCode.{code_of_number}
use Rattle.tpol_base.specs.Constants.{st_no_sessions, st_sessions}
use Rattle.tpol_base.specs.Handle.{rs_pw}
use Rattle.tpol_base.specs.ResponseCode.{of_handle, of_parameter, of_session, rc_attributes, rc_authsize, rc_bad_tag, rc_command_code, rc_command_size, rc_nonce, rc_size, rc_value}
use Rattle.tpol_fields.specs.Answers.{Gives}
use Rattle.tpol_fields.specs.declared.fault.WireFault.{WireFault}
use Rattle.tpol_fields.specs.declared.fault.WireFault.TheVariants.{Refused, NoMemory}
use Rattle.tpol_fields.specs.Kinds.{Kind, is_any_length, number_at, bytes_at, sized_at}
use Rattle.tpol_fields.proofs.Takes.{bind_ok, chosen_ok, ok_is}
use Rattle.tpol_fields.proofs.KindLaws.{both}
use Rattle.tpol_wire.specs.Answers.{RefusesBy, with_code}
use Rattle.tpol_wire.specs.Authorizations.{AreaOf, area_at, area_with, authorization_at, is_auth_session, judged, sized_area, tail_of, whole_area}
use Rattle.tpol_wire.specs.Commands.{Fields, Values, command_of, tag}
use Rattle.tpol_wire.specs.FieldRules.{Rule, rule, first_broken, bytes_in, number_in, place_behind_sized, place_behind_all, fields_rules}
use Rattle.tpol_wire.specs.Reading.{body_at, front_at, header_of, known, reading, values_at}
use Rattle.tpol_wire.specs.Rows.{Row, row}
use Rattle.tpol_wire.specs.WireRules.{area_bytes, area_rules, attributes_place, bounds_rules, code_in, end_rule, handle_rules, hmac_place, is_area, is_tagged, parameter_rules, place_behind_area, place_behind_authorization, place_behind_handles, row_rules, tagged_rule, wire_refusal, wire_rules}
use Rattle.tpol_wire.proofs.FieldRuleLaws.{Agrees, agrees-map, agrees-then, broken-joined, bytes-are, fields-agree, first_or, number-is, sized-is, some-bytes}

-- ---- what a step that gave a value read

number-of : (position : ℕ) (w : Width) (place : ℕ) (bytes : List ℕ) (x : ℕ × List ℕ) → number_at position w (drop place bytes) ≡ Ok x
    → (place + byte_len w ≤ length bytes) × (x ≡ (number_in w place bytes, drop (place + byte_len w) bytes))
number-of position w place bytes x e =
    elim (cases_lt (length bytes) (place + byte_len w)) [
      | inl short ↦
          let some = some-bytes w in
          let cut : ltb (length (drop place bytes)) (byte_len w) ≡ true = lt-ltb _ _ (omega (arith, length-drop place bytes)) in
          absurd (let impossible = rw cut at e in cc)
      | inr long ↦ (long, ok_is x (number_in w place bytes, drop (place + byte_len w) bytes) (sym e ∙ number-is position w place bytes long))
    ]

bytes-of : (position n place : ℕ) (bytes : List ℕ) (x : List ℕ × List ℕ) → (length bytes < place + n → length (drop place bytes) < n) → bytes_at position n (drop place bytes) ≡ Ok x
    → (place + n ≤ length bytes) × (x ≡ (bytes_in place n bytes, drop (place + n) bytes))
bytes-of position n place bytes x cut-there e =
    elim (cases_lt (length bytes) (place + n)) [
      | inl short ↦
          let cut : ltb (length (drop place bytes)) n ≡ true = lt-ltb _ _ (cut-there short) in
          absurd (let impossible = rw cut at e in cc)
      | inr long ↦ (long, ok_is x (bytes_in place n bytes, drop (place + n) bytes) (sym e ∙ bytes-are position n place bytes long))
    ]

sized-of : (position place : ℕ) (bytes : List ℕ) (x : List ℕ × List ℕ) → sized_at position is_any_length (drop place bytes) ≡ Ok x
    → (place_behind_sized place bytes ≤ length bytes) × (x ≡ (bytes_in (place + 2) (number_in w16 place bytes) bytes, drop (place_behind_sized place bytes) bytes))
unfolding sized_at
sized-of position place bytes x e =
    let b = bind_ok (number_at position w16 (drop place bytes)) (λ n. bytes_at position n.0 n.1) x e in
    let n = number-of position w16 place bytes b.0 b.1 in
    let long = n.0 in
    let rest : bytes_at position (number_in w16 place bytes) (drop (place + 2) bytes) ≡ Ok x = subst (λ (y : ℕ × List ℕ). bytes_at position y.0 y.1 ≡ Ok x) n.1 b.2 in
    bytes-of position (number_in w16 place bytes) (place + 2) bytes x (λ short. omega (arith, length-drop (place + 2) bytes)) rest

-- ---- the authorization

abbrev Tail : Type 0
Tail = List ℕ × ℕ × List ℕ

abbrev tail-last : List ℕ → ℕ → List ℕ × List ℕ → Result Tail ℕ
tail-last nonce attributes hmac = cond (eqb (length hmac.1) 0) (Ok (nonce, attributes, hmac.0)) (Err rc_size)

abbrev tail-second : List ℕ → ℕ × List ℕ → Result Tail ℕ
tail-second nonce attributes = sized_at 0 is_any_length attributes.1 >>= tail-last nonce attributes.0

abbrev tail-first : List ℕ × List ℕ → Result Tail ℕ
tail-first nonce = number_at 0 w8 nonce.1 >>= tail-second nonce.0

tail-ends : (place : ℕ) (bytes : List ℕ) (x : Tail) → tail_of (drop place bytes) ≡ Ok x → place_behind_sized (place_behind_sized place bytes + 1) bytes ≡ length bytes
unfolding tail_of
tail-ends place bytes x e =
    let p = place_behind_sized place bytes in
    let q = place_behind_sized (p + 1) bytes in
    let a = bind_ok (sized_at 0 is_any_length (drop place bytes)) tail-first x e in
    let a-is = sized-of 0 place bytes a.0 a.1 in
    let rest : tail-first (bytes_in (place + 2) (number_in w16 place bytes) bytes, drop p bytes) ≡ Ok x = subst (λ (y : List ℕ × List ℕ). tail-first y ≡ Ok x) a-is.1 a.2 in
    let nonce = bytes_in (place + 2) (number_in w16 place bytes) bytes in
    let b = bind_ok (number_at 0 w8 (drop p bytes)) (tail-second nonce) x rest in
    let b-is = number-of 0 w8 p bytes b.0 b.1 in
    let last : tail-second nonce (number_in w8 p bytes, drop (p + 1) bytes) ≡ Ok x = subst (λ (y : ℕ × List ℕ). tail-second nonce y ≡ Ok x) b-is.1 b.2 in
    let c = bind_ok (sized_at 0 is_any_length (drop (p + 1) bytes)) (tail-last nonce (number_in w8 p bytes)) x last in
    let c-is = sized-of 0 (p + 1) bytes c.0 c.1 in
    let g = chosen_ok (eqb (length c.0.1) 0) rc_size (Ok (nonce, number_in w8 p bytes, c.0.0)) x c.2 in
    let none : length c.0.1 ≡ 0 = eqb-true _ _ g.0 in
    let left : length c.0.1 ≡ length (drop q bytes) = ap (λ (y : List ℕ × List ℕ). length y.1) c-is.1 in
    let long = c-is.0 in
    omega (arith, length-drop q bytes)

-- the area that stands there
abbrev area_in : List ℕ → AuthArea
area_in area =
    area_with (number_in w32 0 area) (bytes_in 6 (number_in w16 4 area) area) (number_in w8 (attributes_place area) area)
    (bytes_in (hmac_place area + 2) (number_in w16 (hmac_place area) area) area)

whole-ends : (area : List ℕ) (x : AuthArea) → whole_area area ≡ Ok x → place_behind_sized (hmac_place area) area ≡ length area
unfolding whole_area
whole-ends area x e =
    let s = bind_ok (number_at 0 w32 area) (λ session. tail_of session.1 >>= λ rest. Ok (area_with session.0 rest.0 rest.1 rest.2)) x e in
    let s-is = number-of 0 w32 0 area s.0 s.1 in
    let t = bind_ok (tail_of s.0.1) (λ rest. Ok (area_with s.0.0 rest.0 rest.1 rest.2)) x s.2 in
    tail-ends 4 area t.0 (subst (λ (y : ℕ × List ℕ). tail_of y.1 ≡ Ok t.0) s-is.1 t.1)

whole-is : (area : List ℕ) → place_behind_sized (hmac_place area) area ≡ length area → whole_area area ≡ Ok (area_in area)
unfolding whole_area tail_of
whole-is area ends =
    let p = attributes_place area in
    let q = place_behind_sized (hmac_place area) area in
    let one = number-is 0 w32 0 area (omega arith) in
    let two = sized-is 0 is_any_length 4 area refl (omega arith) in
    let three = number-is 0 w8 p area (omega arith) in
    let four = sized-is 0 is_any_length (p + 1) area refl (omega arith) in
    let five : eqb (length (drop q area)) 0 ≡ true = eq-eqb _ _ (omega (arith, length-drop q area)) in
    rw (one, two, three, four, five) refl

abbrev area-last : List ℕ × List ℕ → Result (AuthArea × List ℕ) ℕ
area-last taken = whole_area taken.0 >>= λ area. Ok (area, taken.1)

abbrev area-first : ℕ × List ℕ → Result (AuthArea × List ℕ) ℕ
area-first size = bytes_at 0 size.0 size.1 >>= area-last

sized_area-fits : (place : ℕ) (bytes : List ℕ) (x : AuthArea × List ℕ) → sized_area (drop place bytes) ≡ Ok x → is_area (number_in w32 place bytes) (area_bytes place bytes) ≡ true
unfolding sized_area
sized_area-fits place bytes x e =
    let size = number_in w32 place bytes in
    let s = bind_ok (number_at 0 w32 (drop place bytes)) area-first x e in
    let s-is = number-of 0 w32 place bytes s.0 s.1 in
    let room = s-is.0 in
    let rest : area-first (size, drop (place + 4) bytes) ≡ Ok x = subst (λ (y : ℕ × List ℕ). area-first y ≡ Ok x) s-is.1 s.2 in
    let t = bind_ok (bytes_at 0 size (drop (place + 4) bytes)) area-last x rest in
    let t-is = bytes-of 0 size (place + 4) bytes t.0 (λ short. omega (arith, length-drop (place + 4) bytes)) t.1 in
    let long = t-is.0 in
    let a = bind_ok (whole_area t.0.0) (λ area. Ok (area, t.0.1)) x t.2 in
    let whole : whole_area (area_bytes place bytes) ≡ Ok a.0 = subst (λ (y : List ℕ × List ℕ). whole_area y.0 ≡ Ok a.0) t-is.1 a.1 in
    let len : length (area_bytes place bytes) ≡ size = length-take-le size (drop (place + 4) bytes) (omega (arith, length-drop (place + 4) bytes)) in
    and_from _ _ (eq-eqb _ _ (sym len)) (eq-eqb _ _ (whole-ends (area_bytes place bytes) a.0 whole))

sized_area-is : (place : ℕ) (bytes : List ℕ) → is_area (number_in w32 place bytes) (area_bytes place bytes) ≡ true
    → sized_area (drop place bytes) ≡ Ok (area_in (area_bytes place bytes), drop (place + 4 + number_in w32 place bytes) bytes)
unfolding sized_area
sized_area-is place bytes fits =
    let size = number_in w32 place bytes in
    let area = area_bytes place bytes in
    let f = both (eqb size (length area)) (eqb (place_behind_sized (hmac_place area) area) (length area)) fits in
    let size-is : size ≡ length area = eqb-true _ _ f.0 in
    let ends : place_behind_sized (hmac_place area) area ≡ length area = eqb-true _ _ f.1 in
    let taken = length-take size (drop (place + 4) bytes) in
    let left = length-drop (place + 4) bytes in
    let long : place + 4 + size ≤ length bytes = omega arith in
    rw (number-is 0 w32 place bytes (omega arith), bytes-are 0 size (place + 4) bytes long, whole-is area ends) refl

coded-not : {A : Type 0} (code : ℕ) (r : Result A ℕ) → ((x : A) → r ≡ Ok x → ⊥) → with_code code r ≡ Err code
coded-not code (Ok x) none = absurd (none x refl)
coded-not code (Err other) none = refl

false-true : (b : Bool) → b ≡ false → b ≡ true → ⊥
false-true true e h = cc
false-true false e h = cc

over : (a b : ℕ) → ltb b a ≡ not (leb a b)
over a b =
    elim (cases_lt b a) [
      | inl lt ↦ rw (lt-ltb b a lt, lt-leb a b lt) refl
      | inr le ↦ rw (le-ltb b a le, le-leb a b le) refl
    ]

under : (a b : ℕ) → leb b a ≡ not (ltb a b)
under a b =
    elim (cases_lt a b) [
      | inl lt ↦ rw (lt-ltb a b lt, lt-leb b a lt) refl
      | inr le ↦ rw (le-ltb a b le, le-leb b a le) refl
    ]

bounds-by : (n h s c p e : Bool) (area : AuthArea) (rest : List ℕ)
    → Agrees (cond (not n || not h) (Err (rc_size + of_session 1)) (cond (not s) (Err (rc_value + of_session 1)) (cond (not c) (Err (rc_attributes + of_session 1)) (cond (p && not e) (Err (rc_nonce + of_session 1)) (Ok area)))) >>= λ (x : AuthArea). Ok (x, rest))
    (cond n (cond h (cond s (cond c (cond (not p || e) None (Some (rc_nonce + of_session 1))) (Some (rc_attributes + of_session 1))) (Some (rc_value + of_session 1))) (Some (rc_size + of_session 1))) (Some (rc_size + of_session 1))) rest
bounds-by false h s c p e area rest = refl
bounds-by true false s c p e area rest = refl
bounds-by true true false c p e area rest = refl
bounds-by true true true false p e area rest = refl
bounds-by true true true true false e area rest = refl
bounds-by true true true true true true area rest = refl
bounds-by true true true true true false area rest = refl

bounds-agree : (area rest : List ℕ) → place_behind_sized (hmac_place area) area ≡ length area → Agrees (judged (area_in area) >>= λ (x : AuthArea). Ok (x, rest)) (first_broken (bounds_rules area)) rest
unfolding judged
bounds-agree area rest ends =
    let n = number_in w16 4 area in
    let h = number_in w16 (hmac_place area) area in
    let nonce : length (bytes_in 6 n area) ≡ n = length-take-le n (drop 6 area) (omega (arith, length-drop 6 area)) in
    let hmac : length (bytes_in (hmac_place area + 2) h area) ≡ h = length-take-le h (drop (hmac_place area + 2) area) (omega (arith, length-drop (hmac_place area + 2) area)) in
    rw (nonce, hmac, over n 32, over h 64, under (number_in w8 (attributes_place area) area) 2)
    (bounds-by (leb n 32) (leb h 64) (is_auth_session (number_in w32 0 area)) (ltb (number_in w8 (attributes_place area) area) 2) (eqb (number_in w32 0 area) rs_pw) (eqb n 0) (area_in area) rest)

authorization-agrees : (authorized tagged : Bool) (place : ℕ) (bytes : List ℕ)
    → Agrees (authorization_at authorized tagged (drop place bytes)) (first_broken (tagged_rule authorized tagged ∷ area_rules authorized place bytes)) (drop (place_behind_area authorized place bytes) bytes)
unfolding area_at
authorization-agrees false false place bytes = refl
authorization-agrees false true place bytes = refl
authorization-agrees true false place bytes = refl
authorization-agrees true true place bytes =
    let area = area_bytes place bytes in
    let size = number_in w32 place bytes in
    elim (cases_Bool (is_area size area)) [
      | inl fits ↦
          let f = both (eqb size (length area)) (eqb (place_behind_sized (hmac_place area) area) (length area)) fits in
          rw (sized_area-is place bytes fits, fits) (bounds-agree area (drop (place + 4 + size) bytes) (eqb-true _ _ f.1))
      | inr fails ↦
          let refused = coded-not rc_authsize (sized_area (drop place bytes)) (λ x e. false-true (is_area size area) fails (sized_area-fits place bytes x e)) in
          rw (refused, fails) refl
    ]

-- ---- what stands behind the header

abbrev front_rules : Row → Bool → List ℕ → List Rule
front_rules row tagged bytes = handle_rules row bytes ++ (tagged_rule row.is_authorized tagged ∷ area_rules row.is_authorized (place_behind_handles row bytes) bytes)

front-agrees : (row : Row) (tagged : Bool) (bytes : List ℕ)
    → Agrees (front_at row.handles row.is_authorized tagged (drop 10 bytes)) (first_broken (front_rules row tagged bytes)) (drop (place_behind_authorization row bytes) bytes)
unfolding front_at
front-agrees row tagged bytes =
    let mid = place_behind_handles row bytes in
    let end = place_behind_authorization row bytes in
    let more = tagged_rule row.is_authorized tagged ∷ area_rules row.is_authorized mid bytes in
    agrees-then (values_at (of_handle 1) row.handles (drop 10 bytes)) (λ values. authorization_at row.is_authorized tagged values.1 >>= λ area. Ok ((values.0, area.0), area.1)) (handle_rules row bytes) more (drop mid bytes) (drop end bytes)
    (fields-agree row.handles (of_handle 1) 10 bytes)
    (λ (v : Values row.handles). agrees-map {A = AreaOf row.is_authorized} {B = Values row.handles × AreaOf row.is_authorized} (λ area. (v, area)) (authorization_at row.is_authorized tagged (drop mid bytes)) (first_broken more) (drop end bytes)
    (authorization-agrees row.is_authorized tagged mid bytes))

body-agrees : (code : CommandCode) (tagged : Bool) (bytes : List ℕ)
    → Agrees (body_at code tagged (drop 10 bytes)) (first_broken (front_rules (row code) tagged bytes ++ parameter_rules (row code) bytes))
    (drop (place_behind_all (row code).parameters (place_behind_authorization (row code) bytes) bytes) bytes)
unfolding body_at
body-agrees code tagged bytes =
    let mid = place_behind_authorization (row code) bytes in
    let end = place_behind_all (row code).parameters mid bytes in
    agrees-then (front_at (row code).handles (row code).is_authorized tagged (drop 10 bytes))
    (λ front. values_at (of_parameter 1) (row code).parameters front.1 >>= λ parameters. Ok (command_of code (record { handles = front.0.0; area = front.0.1; parameters = parameters.0 }), parameters.1))
    (front_rules (row code) tagged bytes) (parameter_rules (row code) bytes) (drop mid bytes) (drop end bytes)
    (front-agrees (row code) tagged bytes)
    (λ (front : Values (row code).handles × AreaOf (row code).is_authorized). agrees-map {A = Values (row code).parameters} {B = Command} (λ parameters. command_of code (record { handles = front.0; area = front.1; parameters = parameters }))
    (values_at (of_parameter 1) (row code).parameters (drop mid bytes)) (first_broken (parameter_rules (row code) bytes)) (drop end bytes)
    (fields-agree (row code).parameters (of_parameter 1) mid bytes))

-- ---- the whole

err-by : (b : Bool) (command : Command) → result_err (cond b (Ok command) (Err rc_size)) ≡ cond b None (Some rc_size)
err-by true command = refl
err-by false command = refl

abbrev command-last : Command × List ℕ → Result Command ℕ
command-last found = cond (eqb (length found.1) 0) (Ok found.0) (Err rc_size)

ended : (r : Result (Command × List ℕ) ℕ) (o : Option ℕ) (rest : List ℕ) → Agrees r o rest → result_err (r >>= command-last) ≡ first_or o (cond (eqb (length rest) 0) None (Some rc_size))
ended (Ok x) None rest h = err-by (eqb (length x.1) 0) x.0 ∙ ap (λ (l : List ℕ). cond (eqb (length l) 0) None (Some rc_size)) h
ended (Ok x) (Some broken) rest h = absurd h
ended (Err code) None rest h = absurd h
ended (Err code) (Some broken) rest h = ap (λ (n : ℕ). Some n) h

end-is : (place : ℕ) (bytes : List ℕ) → eqb (length (drop place bytes)) 0 ≡ leb (length bytes) place
end-is place bytes =
    elim (cases_lt place (length bytes)) [
      | inl lt ↦
          let some : eqb (length (drop place bytes)) 0 ≡ false = false_from_ne_true _ (λ e. let none = eqb-true _ _ e in omega (arith, length-drop place bytes)) in
          rw (some, lt-leb (length bytes) place lt) refl
      | inr le ↦
          let none : eqb (length (drop place bytes)) 0 ≡ true = eq-eqb _ _ (omega (arith, length-drop place bytes)) in
          rw (none, le-leb (length bytes) place le) refl
    ]

row-refused : (code : CommandCode) (tagged : Bool) (bytes : List ℕ) → is_tagged bytes ≡ tagged → result_err (body_at code tagged (drop 10 bytes) >>= command-last) ≡ first_broken (row_rules (row code) bytes)
row-refused code tagged bytes tag-is =
    let place = place_behind_all (row code).parameters (place_behind_authorization (row code) bytes) bytes in
    let handles = handle_rules (row code) bytes in
    let area = tagged_rule (row code).is_authorized tagged ∷ area_rules (row code).is_authorized (place_behind_handles (row code) bytes) bytes in
    let parameters = parameter_rules (row code) bytes in
    let last = end_rule (row code) bytes ∷ [] in
    ended (body_at code tagged (drop 10 bytes)) (first_broken ((handles ++ area) ++ parameters)) (drop place bytes) (body-agrees code tagged bytes)
    ∙ ap (λ (b : Bool). first_or (first_broken ((handles ++ area) ++ parameters)) (cond b None (Some rc_size))) (end-is place bytes)
    ∙ sym (broken-joined ((handles ++ area) ++ parameters) last)
    ∙ ap (λ (t : Bool). first_broken (((handles ++ (tagged_rule (row code).is_authorized t ∷ area_rules (row code).is_authorized (place_behind_handles (row code) bytes) bytes)) ++ parameters) ++ last)) (sym tag-is)

abbrev command-first : List ℕ → CommandCode × Bool → Result Command ℕ
command-first bytes header = body_at header.0 header.1 (drop 10 bytes) >>= command-last

known-refused : (o : Option CommandCode) (tagged : Bool) (bytes : List ℕ) → is_tagged bytes ≡ tagged
    → result_err (known o tagged >>= command-first bytes) ≡ first_broken (rule (is_some o) rc_command_code ∷ option_map_or (λ code. row_rules (row code) bytes) o [])
known-refused None tagged bytes tag-is = refl
known-refused (Some code) tagged bytes tag-is = row-refused code tagged bytes tag-is

-- a tag is one of the two, or another
tags-refused : (plain tagged : Bool) (bytes : List ℕ) → eqb (number_in w16 0 bytes) st_no_sessions ≡ plain → eqb (number_in w16 0 bytes) st_sessions ≡ tagged
    → result_err (cond plain (known (code_in bytes) false) (cond tagged (known (code_in bytes) true) (Err rc_bad_tag)) >>= command-first bytes)
    ≡ cond (plain || tagged) (first_broken (rule (is_some (code_in bytes)) rc_command_code ∷ option_map_or (λ code. row_rules (row code) bytes) (code_in bytes) [])) (Some rc_bad_tag)
tags-refused true tagged bytes plain-is tagged-is =
    let t-is : number_in w16 0 bytes ≡ st_no_sessions = eqb-true _ _ plain-is in
    known-refused (code_in bytes) false bytes (false_from_ne_true _ (λ e. let other : number_in w16 0 bytes ≡ st_sessions = eqb-true _ _ e in omega arith))
tags-refused false true bytes plain-is tagged-is = known-refused (code_in bytes) true bytes tagged-is
tags-refused false false bytes plain-is tagged-is = refl

-- what a reading is refused with, if it is, is the first rule of the wire that is broken
pub reading-refused : (bytes : List ℕ) → result_err (reading bytes) ≡ wire_refusal bytes
unfolding reading header_of
reading-refused bytes =
    let t = number_in w16 0 bytes in
    let size = number_in w32 2 bytes in
    elim (cases_lt (length bytes) 10) [
      | inl short ↦ rw (lt-ltb (length bytes) 10 short, lt-leb 10 (length bytes) short) refl
      | inr long ↦ elim (cases_lt 4096 (length bytes)) [
        | inl longer ↦ rw (le-ltb (length bytes) 10 long, le-leb 10 (length bytes) long, lt-ltb 4096 (length bytes) longer, lt-leb (length bytes) 4096 longer) refl
        | inr within ↦ elim (cases_Bool (eqb size (length bytes))) [
          | inr other ↦ rw (le-ltb (length bytes) 10 long, le-leb 10 (length bytes) long, le-ltb 4096 (length bytes) within, le-leb (length bytes) 4096 within, other) refl
          | inl same ↦ rw (le-ltb (length bytes) 10 long, le-leb 10 (length bytes) long, le-ltb 4096 (length bytes) within, le-leb (length bytes) 4096 within, same) (tags-refused (eqb t st_no_sessions) (eqb t st_sessions) bytes refl refl)
        ]
      ]
    ]

-- ---- what a call answers

pub given_refusal : (bytes : List ℕ) (result : Result Command WireFault) → Gives result (reading bytes) → RefusesBy result (wire_refusal bytes)
given_refusal bytes (Ok command) given = sym (reading-refused bytes) ∙ ap result_err given
given_refusal bytes (Err (Refused rc)) given = sym (reading-refused bytes) ∙ ap result_err given
given_refusal bytes (Err NoMemory) given = tt

err-is : {A : Type 0} (r : Result A ℕ) (code : ℕ) → result_err r ≡ Some code → r ≡ Err code
err-is (Ok x) code h = absurd cc
err-is (Err other) code h = let same : other ≡ code = cc in ap (λ (n : ℕ). Err n) same

pub refused-exactly : (bytes : List ℕ) (code : ℕ) → (reading bytes ≡ Err code → wire_refusal bytes ≡ Some code) × (wire_refusal bytes ≡ Some code → reading bytes ≡ Err code)
refused-exactly bytes code = (λ e. sym (reading-refused bytes) ∙ ap result_err e, λ e. err-is (reading bytes) code (reading-refused bytes ∙ e))

ok-none : {A : Type 0} (r : Result A ℕ) → IsOk r → result_err r ≡ None
ok-none (Ok x) h = refl
ok-none (Err code) h = absurd (false≢true h)

none-ok : {A : Type 0} (r : Result A ℕ) → result_err r ≡ None → IsOk r
none-ok (Ok x) h = refl
none-ok (Err code) h = absurd cc

pub read-exactly : (bytes : List ℕ) → (IsOk (reading bytes) → wire_refusal bytes ≡ None) × (wire_refusal bytes ≡ None → IsOk (reading bytes))
read-exactly bytes = (λ h. sym (reading-refused bytes) ∙ ok-none (reading bytes) h, λ e. none-ok (reading bytes) (reading-refused bytes ∙ e))
