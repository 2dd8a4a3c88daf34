-- Authorizations: what is read is what is spelled and breaks no rule, and what breaks none is read again.
use Rattle.std.proofs.Common.{◌≡◌, ℕ, ◌+◌, ◌^◌, ◌<◌, ◌≤◌, ◌/◌, Bool, true, false, cond, not, eqb, ltb, leb, ◌&&◌, ◌||◌, List, [], ◌∷◌, ◌++◌, length, Result, Ok, Err, refl, sym, ap, subst, ◌∙◌, append_assoc, arith, inl, inr, eq-eqb}
use Rattle.std.specs.Int.{w8, w32, to_be_bytes}
use Rattle.std.proofs.lemmas.Bool.{eqb-true, ltb-false, le-ltb, leb-false, lt-leb}
use Rattle.std.proofs.lemmas.List.{append-nil, length-append, nil_from_length}
use Rattle.tpol_wire.specs.declared.auth_area.AuthArea.{AuthArea}
use Rattle.tpol_base.specs.Answers.{◌>>=◌}
use Rattle.tpol_base.specs.Handle.{is_policy_session, rs_pw}
use Rattle.tpol_base.specs.ResponseCode.{of_session, rc_authsize, rc_attributes, rc_nonce, rc_size, rc_value}
use Rattle.tpol_wire.specs.Answers.{with_code}
use Rattle.tpol_fields.specs.Kinds.{sized, number_at, bytes_at, sized_at, is_any_length}
use Rattle.tpol_wire.specs.Authorizations.{spell_tail, spell_area, is_auth_session, AreaFits, AreaOf, authorization, AuthorizationFits, area_with, tail_of, whole_area, sized_area, judged, area_at, authorization_at}
use Rattle.tpol_fields.proofs.Takes.{IsBytes, bind_ok, chosen_ok, passed, neither, unnot, ok_is, Takes, Takes-then, wide8, wide32, number_takes, number_again, bytes_take, bytes_again, sized_takes, sized_again}
use Rattle.tpol_fields.proofs.KindLaws.{either}

abbrev Tail : Type 0
Tail = List ℕ × ℕ × List ℕ

pub tail_found : (bytes : List ℕ) (x : Tail) → IsBytes bytes → tail_of bytes ≡ Ok x → (bytes ≡ spell_tail x.0 x.1 x.2) × (x.1 < 2 ^ 8)
unfolding tail_of
tail_found bytes x fits e =
    let a = bind_ok (sized_at 0 is_any_length bytes) (λ nonce. number_at 0 w8 nonce.1 >>= λ attributes. sized_at 0 is_any_length attributes.1 >>= λ hmac. cond (eqb (length hmac.1) 0) (Ok (nonce.0, attributes.0, hmac.0)) (Err rc_size)) x e in
    let b = bind_ok (number_at 0 w8 a.0.1) (λ attributes. sized_at 0 is_any_length attributes.1 >>= λ hmac. cond (eqb (length hmac.1) 0) (Ok (a.0.0, attributes.0, hmac.0)) (Err rc_size)) x a.2 in
    let c = bind_ok (sized_at 0 is_any_length b.0.1) (λ hmac. cond (eqb (length hmac.1) 0) (Ok (a.0.0, b.0.0, hmac.0)) (Err rc_size)) x b.2 in
    let made : Tail = (a.0.0, b.0.0, c.0.0) in
    let g = chosen_ok (eqb (length c.0.1) 0) rc_size (Ok made) x c.2 in
    let t0 = sized_takes 0 is_any_length bytes a.0.0 a.0.1 fits a.1 in
    let t1 = number_takes 0 w8 wide8 a.0.1 b.0.0 b.0.1 t0.0.rest_fits b.1 in
    let t2 = sized_takes 0 is_any_length b.0.1 c.0.0 c.0.1 t1.0.rest_fits c.1 in
    let small : b.0.0 < 256 = t1.1 in
    let byte : to_be_bytes w8 b.0.0 ≡ b.0.0 ∷ [] = ap (λ (n : ℕ). n ∷ []) (omega arith) in
    let nothing : c.0.1 ≡ [] = nil_from_length c.0.1 (eqb-true _ _ g.0) in
    let e3 : b.0.1 ≡ sized c.0.0 = t2.0.parts ∙ ap (λ (r : List ℕ). sized c.0.0 ++ r) nothing ∙ append-nil (sized c.0.0) in
    let e2 : a.0.1 ≡ b.0.0 ∷ sized c.0.0 = t1.0.parts ∙ ap (λ (t : List ℕ). t ++ b.0.1) byte ∙ ap (λ (r : List ℕ). b.0.0 ∷ r) e3 in
    let whole : bytes ≡ spell_tail a.0.0 b.0.0 c.0.0 = t0.0.parts ∙ ap (λ (r : List ℕ). sized a.0.0 ++ r) e2 in
    subst (λ (y : Tail). (bytes ≡ spell_tail y.0 y.1 y.2) × (y.1 < 2 ^ 8)) (ok_is made x g.1) (whole, t1.1)

pub tail_again : (nonce : List ℕ) (attributes : ℕ) (hmac : List ℕ) → length nonce < 2 ^ 16 → attributes < 2 ^ 8 → length hmac < 2 ^ 16 → tail_of (spell_tail nonce attributes hmac) ≡ Ok (nonce, attributes, hmac)
unfolding tail_of
tail_again nonce attributes hmac short byte long =
    let one = sized_again 0 is_any_length nonce (attributes ∷ sized hmac) short refl in
    let small : to_be_bytes w8 attributes ≡ attributes ∷ [] = ap (λ (n : ℕ). n ∷ []) (omega arith) in
    let two : number_at 0 w8 (attributes ∷ sized hmac) ≡ Ok (attributes, sized hmac) = ap (λ (t : List ℕ). number_at 0 w8 (t ++ sized hmac)) (sym small) ∙ number_again 0 w8 wide8 attributes (sized hmac) byte in
    let three : sized_at 0 is_any_length (sized hmac) ≡ Ok (hmac, []) = ap (sized_at 0 is_any_length) (sym (append-nil (sized hmac))) ∙ sized_again 0 is_any_length hmac [] long refl in
    rw (one, two, three) refl

area_found : (bytes : List ℕ) (a : AuthArea) → IsBytes bytes → whole_area bytes ≡ Ok a → bytes ≡ spell_area a
unfolding whole_area
area_found bytes a fits e =
    let s = bind_ok (number_at 0 w32 bytes) (λ session. tail_of session.1 >>= λ rest. Ok (area_with session.0 rest.0 rest.1 rest.2)) a e in
    let t = bind_ok (tail_of s.0.1) (λ rest. Ok (area_with s.0.0 rest.0 rest.1 rest.2)) a s.2 in
    let front = number_takes 0 w32 wide32 bytes s.0.0 s.0.1 fits s.1 in
    let rest = tail_found s.0.1 t.0 front.0.rest_fits t.1 in
    let whole : bytes ≡ to_be_bytes w32 s.0.0 ++ spell_tail t.0.0 t.0.1 t.0.2 = front.0.parts ∙ ap (λ (r : List ℕ). to_be_bytes w32 s.0.0 ++ r) rest.0 in
    subst (λ (b : AuthArea). bytes ≡ spell_area b) (ok_is (area_with s.0.0 t.0.0 t.0.1 t.0.2) a t.2) whole

session_below : (session : ℕ) → is_auth_session session ≡ true → session < 2 ^ 32
session_below session ok =
    elim (either (eqb session rs_pw) (is_policy_session session) ok) [
      | inl p ↦ let is = eqb-true _ _ p in omega arith
      | inr q ↦ let is : session / 2 ^ 24 ≡ 3 = eqb-true _ _ q.1 in omega arith
    ]

area_again : (a : AuthArea) → AreaFits a → whole_area (spell_area a) ≡ Ok a
unfolding whole_area
area_again a fits =
    let nonce = fits.nonce in
    let hmac = fits.hmac in
    let attributes = fits.attributes in
    let one = number_again 0 w32 wide32 a.session (spell_tail a.nonce a.attributes a.hmac) (session_below a.session fits.session) in
    let two = tail_again a.nonce a.attributes a.hmac (omega arith) (omega arith) (omega arith) in
    rw (one, two) refl

sized_area_found : (bytes : List ℕ) (x : AuthArea × List ℕ) → IsBytes bytes → sized_area bytes ≡ Ok x → Takes bytes (authorization true x.0) x.1
unfolding sized_area
sized_area_found bytes x fits e =
    let s = bind_ok (number_at 0 w32 bytes) (λ size. bytes_at 0 size.0 size.1 >>= λ taken. whole_area taken.0 >>= λ area. Ok (area, taken.1)) x e in
    let t = bind_ok (bytes_at 0 s.0.0 s.0.1) (λ taken. whole_area taken.0 >>= λ area. Ok (area, taken.1)) x s.2 in
    let a = bind_ok (whole_area t.0.0) (λ area. Ok (area, t.0.1)) x t.2 in
    let front = number_takes 0 w32 wide32 bytes s.0.0 s.0.1 fits s.1 in
    let middle = bytes_take 0 s.0.0 s.0.1 t.0.0 t.0.1 front.0.rest_fits t.1 in
    let same = area_found t.0.0 a.0 middle.2 a.1 in
    let len : length (spell_area a.0) ≡ s.0.0 = ap length (sym same) ∙ middle.1 in
    let joined = Takes-then bytes (to_be_bytes w32 s.0.0) s.0.1 t.0.0 t.0.1 front.0 middle.0 in
    let made : AuthArea × List ℕ = (a.0, t.0.1) in
    subst (λ (y : AuthArea × List ℕ). Takes bytes (authorization true y.0) y.1) (ok_is made x a.2)
    (subst (λ (n : ℕ). Takes bytes (to_be_bytes w32 n ++ spell_area a.0) t.0.1) (sym len) (subst (λ (text : List ℕ). Takes bytes (to_be_bytes w32 s.0.0 ++ text) t.0.1) same joined))

pub tail_length : (nonce : List ℕ) (attributes : ℕ) (hmac : List ℕ) → length (spell_tail nonce attributes hmac) ≡ length nonce + length hmac + 5
tail_length nonce attributes hmac =
    let l = length-append (sized nonce) (attributes ∷ sized hmac) in
    omega arith

area_length : (a : AuthArea) → AreaFits a → length (spell_area a) ≤ 105
area_length a fits =
    let nonce = fits.nonce in
    let hmac = fits.hmac in
    let l = tail_length a.nonce a.attributes a.hmac in
    omega arith

sized_area_again : (a : AuthArea) (rest : List ℕ) → AreaFits a → sized_area (authorization true a ++ rest) ≡ Ok (a, rest)
unfolding sized_area
sized_area_again a rest fits =
    let n = length (spell_area a) in
    let short = area_length a fits in
    let regrouped : authorization true a ++ rest ≡ to_be_bytes w32 n ++ (spell_area a ++ rest) = append_assoc (to_be_bytes w32 n) (spell_area a) rest in
    let one = number_again 0 w32 wide32 n (spell_area a ++ rest) (omega arith) in
    let two = bytes_again 0 n (spell_area a) rest refl in
    ap sized_area regrouped ∙ rw (one, two, area_again a fits) refl

not_both : (a b : Bool) → (a && b) ≡ false → a ≡ true → b ≡ false
not_both true b e h = e
not_both false b e h = absurd cc

judged_found : (a b : AuthArea) → judged a ≡ Ok b → (a ≡ b) × AreaFits a
unfolding judged
judged_found a b e =
    let lengths = ltb 32 (length a.nonce) || ltb 64 (length a.hmac) in
    let is-password = eqb a.session rs_pw in
    let last = cond (is-password && not (eqb (length a.nonce) 0)) (Err (rc_nonce + of_session 1)) (Ok a) in
    let third = cond (leb 2 a.attributes) (Err (rc_attributes + of_session 1)) last in
    let second = cond (not (is_auth_session a.session)) (Err (rc_value + of_session 1)) third in
    let p = passed lengths (rc_size + of_session 1) second b e in
    let q = passed (not (is_auth_session a.session)) (rc_value + of_session 1) third b p.1 in
    let r = passed (leb 2 a.attributes) (rc_attributes + of_session 1) last b q.1 in
    let s = passed (is-password && not (eqb (length a.nonce) 0)) (rc_nonce + of_session 1) (Ok a) b r.1 in
    let l = neither (ltb 32 (length a.nonce)) (ltb 64 (length a.hmac)) p.0 in (
      ok_is a b s.1,
      record {
        nonce = ltb-false _ _ l.0;
        hmac = ltb-false _ _ l.1;
        session = unnot (is_auth_session a.session) q.0;
        attributes = leb-false _ _ r.0;
        password = λ is. nil_from_length a.nonce (eqb-true _ _ (unnot (eqb (length a.nonce) 0) (not_both is-password (not (eqb (length a.nonce) 0)) s.0 (eq-eqb _ _ is))));
      },
    )

no_password_nonce : (a : AuthArea) → AreaFits a → (eqb a.session rs_pw && not (eqb (length a.nonce) 0)) ≡ false
no_password_nonce a fits = password_test (eqb a.session rs_pw) refl
  where
    password_test : (b : Bool) → eqb a.session rs_pw ≡ b → (b && not (eqb (length a.nonce) 0)) ≡ false
    password_test false h = refl
    password_test true h = let empty : a.nonce ≡ [] = fits.password (eqb-true _ _ h) in rw empty refl

judged_again : (a : AuthArea) → AreaFits a → judged a ≡ Ok a
unfolding judged
judged_again a fits =
    let short : ltb 32 (length a.nonce) ≡ false = le-ltb _ _ fits.nonce in
    let small : ltb 64 (length a.hmac) ≡ false = le-ltb _ _ fits.hmac in
    let known : is_auth_session a.session ≡ true = fits.session in
    let bits : leb 2 a.attributes ≡ false = lt-leb _ _ fits.attributes in
    let last = no_password_nonce a fits in
    rw (short, small, known, bits, last) refl

pub coded_ok : {A : Type 0} (code : ℕ) (r : Result A ℕ) (x : A) → with_code code r ≡ Ok x → r ≡ Ok x
coded_ok code (Ok y) x e = e
coded_ok code (Err d) x e = absurd cc

area_at_found : (tagged : Bool) (bytes : List ℕ) (x : AuthArea × List ℕ) → IsBytes bytes → area_at tagged bytes ≡ Ok x → Takes bytes (authorization true x.0) x.1 × AreaFits x.0 × (tagged ≡ true)
unfolding area_at
area_at_found true bytes x fits e =
    let f = bind_ok (with_code rc_authsize (sized_area bytes)) (λ found. judged found.0 >>= λ area. Ok (area, found.1)) x e in
    let j = bind_ok (judged f.0.0) (λ area. Ok (area, f.0.1)) x f.2 in
    let t = sized_area_found bytes f.0 fits (coded_ok rc_authsize (sized_area bytes) f.0 f.1) in
    let k = judged_found f.0.0 j.0 j.1 in
    let made : AuthArea × List ℕ = (j.0, f.0.1) in
    subst (λ (y : AuthArea × List ℕ). Takes bytes (authorization true y.0) y.1 × AreaFits y.0 × (true ≡ true)) (ok_is made x j.2)
    (subst (λ (b : AuthArea). Takes bytes (authorization true b) f.0.1 × AreaFits b × (true ≡ true)) k.0 (t, k.1, refl))
area_at_found false bytes x fits e = absurd cc

pub authorization_found : (authorized tagged : Bool) (bytes : List ℕ) (x : AreaOf authorized × List ℕ) → IsBytes bytes → authorization_at authorized tagged bytes ≡ Ok x → Takes bytes (authorization authorized x.0) x.1 × AuthorizationFits authorized x.0 × (tagged ≡ authorized)
authorization_found true tagged bytes x fits e = area_at_found tagged bytes x fits e
authorization_found false true bytes x fits e = absurd cc
authorization_found false false bytes x fits e =
    subst (λ (y : Unit {0} × List ℕ). Takes bytes [] y.1 × Unit {0} × (false ≡ false)) (ok_is (tt, bytes) x e) (record { parts = refl; rest_fits = fits }, tt, refl)

area_at_again : (area : AuthArea) (rest : List ℕ) → AreaFits area → area_at true (authorization true area ++ rest) ≡ Ok (area, rest)
unfolding area_at
area_at_again area rest fits = rw (sized_area_again area rest fits, judged_again area fits) refl

pub authorization_again : (authorized : Bool) (area : AreaOf authorized) (rest : List ℕ) → AuthorizationFits authorized area → authorization_at authorized authorized (authorization authorized area ++ rest) ≡ Ok (area, rest)
authorization_again true area rest fits = area_at_again area rest fits
authorization_again false area rest fits = refl

pub authorization_length : (authorized : Bool) (area : AreaOf authorized) → AuthorizationFits authorized area → length (authorization authorized area) ≤ 109
authorization_length true area fits = let l = area_length area fits in omega (arith, length-append (to_be_bytes w32 (length (spell_area area))) (spell_area area))
authorization_length false area fits = omega arith
