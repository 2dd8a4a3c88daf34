-- A reading from a place refuses with the first rule that the field there breaks, and else goes on behind the field.
use Rattle.std.proofs.Common.{◌≡◌, ℕ, zero, suc, ◌+◌, ◌*◌, ◌<◌, ◌≤◌, Bool, true, false, cond, eqb, ltb, leb, ◌&&◌, List, [], ◌∷◌, ◌++◌, length, drop, Option, Some, None, Result, Ok, Err, refl, sym, ap, subst, ◌∙◌, arith, inl, inr}
use Rattle.std.specs.Int.{Width, w8, w16, w32, w64, w128, byte_len, cast_signed}
use Rattle.std.specs.Option.{is_some}
use Rattle.std.proofs.lemmas.Bool.{cases_Bool, cases_lt, eqb-true, lt-ltb, le-ltb, lt-leb, le-leb}
use Rattle.std.proofs.lemmas.List.{drop-drop, length-drop}
use Rattle.tpol_base.specs.declared.digest.Digest32.{Digest32}
use Rattle.tpol_base.specs.Answers.{◌>>=◌}
use Rattle.tpol_base.specs.Compare.{compare_of_number}
use Rattle.tpol_base.specs.Digest.{digest_of_bytes}
use Rattle.tpol_base.specs.Name.{name_of_bytes}
use Rattle.tpol_base.specs.ResponseCode.{rc_insufficient, rc_size, rc_value}
use Rattle.tpol_fields.specs.declared.ticket.Ticket.{Ticket}
use Rattle.tpol_fields.specs.Kinds.{Kind, Nothing, Number, Signed, Truth, Operation, Digest, Mask, Sized, Optional, Named, Ticketed, TimedTicket, Digests, Behind, Together, ValueOf, goes_with, is_any_length, is_digest_length, is_optional_length, is_timeout_length, mask_of_bytes, optional_of_bytes, or_refused, timeout_of_bytes, number_at, bytes_at, sized_at, listed_digest, digests_at, ticket_at, timeout_at, read}
use Rattle.tpol_wire.specs.Commands.{Values}
use Rattle.tpol_wire.specs.FieldRules.{Rule, rule, first_broken, bytes_in, number_in, ticket_in, place_behind_sized, place_behind, there, sized_rules, listed_rules, ticket_rules, are_together, field_rules, place_behind_all, fields_rules}
use Rattle.tpol_wire.specs.Reading.{values_at}

-- ---- readings and rules one after the other

-- a reading refuses with what is broken, and where nothing is it leaves these bytes
abbrev pub Agrees : {A : Type 0} → Result (A × List ℕ) ℕ → Option ℕ → List ℕ → Type 0
Agrees (Ok x) None rest = x.1 ≡ rest
Agrees (Ok x) (Some broken) rest = ⊥
Agrees (Err code) None rest = ⊥
Agrees (Err code) (Some broken) rest = code ≡ broken

abbrev pub first_or : Option ℕ → Option ℕ → Option ℕ
first_or None second = second
first_or (Some code) second = Some code

broken-by : (holds : Bool) (code : ℕ) (first second : Option ℕ) → cond holds (first_or first second) (Some code) ≡ first_or (cond holds first (Some code)) second
broken-by true code first second = refl
broken-by false code first second = refl

pub broken-joined : (rules more : List Rule) → first_broken (rules ++ more) ≡ first_or (first_broken rules) (first_broken more)
broken-joined [] more = refl
broken-joined (first ∷ rules) more =
    ap (λ (o : Option ℕ). cond first.holds o (Some first.code)) (broken-joined rules more)
    ∙ broken-by first.holds first.code (first_broken rules) (first_broken more)

both-agree : {A B : Type 0} (r : Result (A × List ℕ) ℕ) (f : A × List ℕ → Result (B × List ℕ) ℕ) (first second : Option ℕ) (mid end : List ℕ)
    → Agrees r first mid → ((x : A) → Agrees (f (x, mid)) second end) → Agrees (r >>= f) (first_or first second) end
both-agree (Ok x) f None second mid end h next = subst (λ (l : List ℕ). Agrees (f (x.0, l)) second end) (sym h) (next x.0)
both-agree (Ok x) f (Some broken) second mid end h next = absurd h
both-agree (Err code) f None second mid end h next = absurd h
both-agree (Err code) f (Some broken) second mid end h next = h

pub agrees-then : {A B : Type 0} (r : Result (A × List ℕ) ℕ) (f : A × List ℕ → Result (B × List ℕ) ℕ) (rules more : List Rule) (mid end : List ℕ)
    → Agrees r (first_broken rules) mid → ((x : A) → Agrees (f (x, mid)) (first_broken more) end) → Agrees (r >>= f) (first_broken (rules ++ more)) end
agrees-then r f rules more mid end h next =
    subst (λ (o : Option ℕ). Agrees (r >>= f) o end) (sym (broken-joined rules more)) (both-agree r f (first_broken rules) (first_broken more) mid end h next)

pub agrees-map : {A B : Type 0} (g : A → B) (r : Result (A × List ℕ) ℕ) (o : Option ℕ) (rest : List ℕ) → Agrees r o rest → Agrees (r >>= λ x. Ok (g x.0, x.1)) o rest
agrees-map g (Ok x) None rest h = h
agrees-map g (Ok x) (Some broken) rest h = absurd h
agrees-map g (Err code) None rest h = absurd h
agrees-map g (Err code) (Some broken) rest h = h

bind-assoc : {A B C : Type 0} (r : Result A ℕ) (g : A → Result B ℕ) (f : B → Result C ℕ) → ((r >>= g) >>= f) ≡ (r >>= λ x. g x >>= f)
bind-assoc (Ok x) g f = refl
bind-assoc (Err code) g f = refl

abbrev done : {A : Type 0} → A → Result A ℕ
done x = Ok x

bind-same : {A : Type 0} (r : Result A ℕ) → (r >>= done) ≡ r
bind-same (Ok x) = refl
bind-same (Err code) = refl

-- one test in a reading, and the rule of it
tested : {A : Type 0} (b : Bool) (x : A × List ℕ) (code : ℕ) → Agrees (cond b (Ok x) (Err code)) (cond b None (Some code)) x.1
tested true x code = refl
tested false x code = refl

refused-agrees : {A : Type 0} (o : Option A) (code : ℕ) (rest : List ℕ) → Agrees (or_refused o code rest) (cond (is_some o) None (Some code)) rest
refused-agrees None code rest = refl
refused-agrees (Some x) code rest = refl

judged-then : {A : Type 0} (b : Bool) (r : Result (A × List ℕ) ℕ) (more : List Rule) (code : ℕ) (end : List ℕ)
    → Agrees r (first_broken more) end → Agrees (cond b r (Err code)) (cond b (first_broken more) (Some code)) end
judged-then true r more code end h = h
judged-then false r more code end h = refl

-- ---- numbers, bytes and 2Bs

pub some-bytes : (w : Width) → 0 < byte_len w
some-bytes w8 = omega arith
some-bytes w16 = omega arith
some-bytes w32 = omega arith
some-bytes w64 = omega arith
some-bytes w128 = omega arith

pub number-is : (position : ℕ) (w : Width) (place : ℕ) (bytes : List ℕ) → place + byte_len w ≤ length bytes
    → number_at position w (drop place bytes) ≡ Ok (number_in w place bytes, drop (place + byte_len w) bytes)
number-is position w place bytes long =
    let whole : ltb (length (drop place bytes)) (byte_len w) ≡ false = le-ltb _ _ (omega (arith, length-drop place bytes)) in
    rw (whole, drop-drop (byte_len w) place bytes) refl

pub bytes-are : (position n place : ℕ) (bytes : List ℕ) → place + n ≤ length bytes → bytes_at position n (drop place bytes) ≡ Ok (bytes_in place n bytes, drop (place + n) bytes)
bytes-are position n place bytes long =
    let whole : ltb (length (drop place bytes)) n ≡ false = le-ltb _ _ (omega (arith, length-drop place bytes)) in
    rw (whole, drop-drop n place bytes) refl

pub sized-is : (position : ℕ) (test : ℕ → Bool) (place : ℕ) (bytes : List ℕ) → test (number_in w16 place bytes) ≡ true → place_behind_sized place bytes ≤ length bytes
    → sized_at position test (drop place bytes) ≡ Ok (bytes_in (place + 2) (number_in w16 place bytes) bytes, drop (place_behind_sized place bytes) bytes)
unfolding sized_at
sized-is position test place bytes passes long =
    let one = number-is position w16 place bytes (omega arith) in
    let two = bytes-are position (number_in w16 place bytes) (place + 2) bytes long in
    rw (one, passes, two) refl

pub number-then : {B : Type 0} (position : ℕ) (w : Width) (place : ℕ) (bytes : List ℕ) (f : ℕ × List ℕ → Result (B × List ℕ) ℕ) (more : List Rule) (end : List ℕ)
    → (place + byte_len w ≤ length bytes → Agrees (f (number_in w place bytes, drop (place + byte_len w) bytes)) (first_broken more) end)
    → Agrees (number_at position w (drop place bytes) >>= f) (first_broken (there position place (byte_len w) bytes ∷ more)) end
number-then position w place bytes f more end next =
    elim (cases_lt (length bytes) (place + byte_len w)) [
      | inl short ↦
          let some = some-bytes w in
          let cut : ltb (length (drop place bytes)) (byte_len w) ≡ true = lt-ltb _ _ (omega (arith, length-drop place bytes)) in
          let broken : leb (place + byte_len w) (length bytes) ≡ false = lt-leb _ _ short in
          rw (cut, broken) refl
      | inr long ↦
          let found : leb (place + byte_len w) (length bytes) ≡ true = le-leb _ _ long in
          rw (number-is position w place bytes long, found) (next long)
    ]

pub bytes-then : {B : Type 0} (position n place : ℕ) (bytes : List ℕ) (f : List ℕ × List ℕ → Result (B × List ℕ) ℕ) (more : List Rule) (end : List ℕ)
    → (length bytes < place + n → length (drop place bytes) < n)
    → (place + n ≤ length bytes → Agrees (f (bytes_in place n bytes, drop (place + n) bytes)) (first_broken more) end)
    → Agrees (bytes_at position n (drop place bytes) >>= f) (first_broken (there position place n bytes ∷ more)) end
bytes-then position n place bytes f more end cut-there next =
    elim (cases_lt (length bytes) (place + n)) [
      | inl short ↦
          let cut : ltb (length (drop place bytes)) n ≡ true = lt-ltb _ _ (cut-there short) in
          let broken : leb (place + n) (length bytes) ≡ false = lt-leb _ _ short in
          rw (cut, broken) refl
      | inr long ↦
          let found : leb (place + n) (length bytes) ≡ true = le-leb _ _ long in
          rw (bytes-are position n place bytes long, found) (next long)
    ]

-- the bytes of a 2B whose length was read
abbrev sized-rest : ℕ → (ℕ → Bool) → ℕ × List ℕ → Result (List ℕ × List ℕ) ℕ
sized-rest position test n = cond (test n.0) (bytes_at position n.0 n.1) (Err (rc_size + position))

sized-on : {B : Type 0} (position : ℕ) (test : ℕ → Bool) (place : ℕ) (bytes : List ℕ) (f : List ℕ × List ℕ → Result (B × List ℕ) ℕ) (more : List Rule) (end : List ℕ) → place + 2 ≤ length bytes
    → (test (number_in w16 place bytes) ≡ true → Agrees (f (bytes_in (place + 2) (number_in w16 place bytes) bytes, drop (place_behind_sized place bytes) bytes)) (first_broken more) end)
    → (b : Bool) → test (number_in w16 place bytes) ≡ b
    → Agrees (cond b (bytes_at position (number_in w16 place bytes) (drop (place + 2) bytes)) (Err (rc_size + position)) >>= f)
    (cond b (first_broken (there position (place + 2) (number_in w16 place bytes) bytes ∷ more)) (Some (rc_size + position))) end
sized-on position test place bytes f more end long next true passes =
    bytes-then position (number_in w16 place bytes) (place + 2) bytes f more end (λ short. omega (arith, length-drop (place + 2) bytes)) (λ all. next passes)
sized-on position test place bytes f more end long next false fails = refl

pub sized-then : {B : Type 0} (position : ℕ) (test : ℕ → Bool) (place : ℕ) (bytes : List ℕ) (f : List ℕ × List ℕ → Result (B × List ℕ) ℕ) (more : List Rule) (end : List ℕ)
    → (test (number_in w16 place bytes) ≡ true → Agrees (f (bytes_in (place + 2) (number_in w16 place bytes) bytes, drop (place_behind_sized place bytes) bytes)) (first_broken more) end)
    → Agrees (sized_at position test (drop place bytes) >>= f) (first_broken (sized_rules position test place bytes ++ more)) end
unfolding sized_at
sized-then position test place bytes f more end next =
    subst (λ (r : Result (_ × List ℕ) ℕ). Agrees r (first_broken (sized_rules position test place bytes ++ more)) end)
    (sym (bind-assoc (number_at position w16 (drop place bytes)) (sized-rest position test) f))
    (number-then position w16 place bytes (λ n. sized-rest position test n >>= f)
    (rule (test (number_in w16 place bytes)) (rc_size + position) ∷ there position (place + 2) (number_in w16 place bytes) bytes ∷ more) end
    (λ long. sized-on position test place bytes f more end long next (test (number_in w16 place bytes)) refl))

pub sized-agrees : (position : ℕ) (test : ℕ → Bool) (place : ℕ) (bytes : List ℕ)
    → Agrees (sized_at position test (drop place bytes)) (first_broken (sized_rules position test place bytes)) (drop (place_behind_sized place bytes) bytes)
sized-agrees position test place bytes =
    subst (λ (r : Result (List ℕ × List ℕ) ℕ). Agrees r (first_broken (sized_rules position test place bytes)) (drop (place_behind_sized place bytes) bytes))
    (bind-same (sized_at position test (drop place bytes)))
    (sized-then position test place bytes done [] (drop (place_behind_sized place bytes) bytes) (λ passes. refl))

-- ---- tickets

abbrev ticket-last : ℕ → ℕ → List ℕ × List ℕ → Result (Ticket × List ℕ) ℕ
ticket-last tag hierarchy digest = Ok (record { tag = tag; hierarchy = hierarchy; digest = digest.0 }, digest.1)

abbrev ticket-second : ℕ → ℕ → ℕ × List ℕ → Result (Ticket × List ℕ) ℕ
ticket-second position tag hierarchy = sized_at position (λ n. leb n 64) hierarchy.1 >>= ticket-last tag hierarchy.0

abbrev ticket-first : ℕ → ℕ × List ℕ → Result (Ticket × List ℕ) ℕ
ticket-first position tag = number_at position w32 tag.1 >>= ticket-second position tag.0

ticket-then : {B : Type 0} (position place : ℕ) (bytes : List ℕ) (f : Ticket × List ℕ → Result (B × List ℕ) ℕ) (more : List Rule) (end : List ℕ)
    → Agrees (f (ticket_in place bytes, drop (place_behind_sized (place + 2 + 4) bytes) bytes)) (first_broken more) end
    → Agrees (ticket_at position (drop place bytes) >>= f) (first_broken (ticket_rules position place bytes ++ more)) end
unfolding ticket_at
ticket-then position place bytes f more end next =
    let tag = number_in w16 place bytes in
    let hierarchy = number_in w32 (place + 2) bytes in
    let third = sized_rules position (λ n. leb n 64) (place + 2 + 4) bytes ++ more in
    let second = there position (place + 2) 4 bytes ∷ third in
    subst (λ (r : Result (_ × List ℕ) ℕ). Agrees r (first_broken (there position place 2 bytes ∷ second)) end)
    (sym (bind-assoc (number_at position w16 (drop place bytes)) (ticket-first position) f))
    (number-then position w16 place bytes (λ x. ticket-first position x >>= f) second end (λ long.
    subst (λ (r : Result (_ × List ℕ) ℕ). Agrees r (first_broken second) end)
    (sym (bind-assoc (number_at position w32 (drop (place + 2) bytes)) (ticket-second position tag) f))
    (number-then position w32 (place + 2) bytes (λ x. ticket-second position tag x >>= f) third end (λ longer.
    subst (λ (r : Result (_ × List ℕ) ℕ). Agrees r (first_broken third) end)
    (sym (bind-assoc (sized_at position (λ n. leb n 64) (drop (place + 2 + 4) bytes)) (ticket-last tag hierarchy) f))
    (sized-then position (λ n. leb n 64) (place + 2 + 4) bytes (λ x. ticket-last tag hierarchy x >>= f) more end (λ passes. next))))))

ticket-agrees : (position place : ℕ) (bytes : List ℕ) → Agrees (ticket_at position (drop place bytes)) (first_broken (ticket_rules position place bytes)) (drop (place_behind_sized (place + 2 + 4) bytes) bytes)
ticket-agrees position place bytes =
    subst (λ (r : Result (Ticket × List ℕ) ℕ). Agrees r (first_broken (ticket_rules position place bytes)) (drop (place_behind_sized (place + 2 + 4) bytes) bytes))
    (bind-same (ticket_at position (drop place bytes)))
    (ticket-then position place bytes done [] (drop (place_behind_sized (place + 2 + 4) bytes) bytes) refl)

abbrev deadline-of : List ℕ × List ℕ → Result (Option ℕ × List ℕ) ℕ
deadline-of taken = Ok (timeout_of_bytes taken.0, taken.1)

abbrev timed-last : ℕ → ℕ → Option ℕ → Ticket × List ℕ → Result ((Option ℕ × Ticket) × List ℕ) ℕ
timed-last position tag deadline ticket = cond (eqb ticket.0.tag tag && goes_with deadline ticket.0) (Ok ((deadline, ticket.0), ticket.1)) (Err (rc_value + position))

abbrev timed-second : ℕ → ℕ → Option ℕ × List ℕ → Result ((Option ℕ × Ticket) × List ℕ) ℕ
timed-second position tag deadline = ticket_at position deadline.1 >>= timed-last position tag deadline.0

timed-agrees : (position tag place : ℕ) (bytes : List ℕ)
    → Agrees (read position (TimedTicket tag) (drop place bytes)) (first_broken (field_rules position (TimedTicket tag) place bytes)) (drop (place_behind (TimedTicket tag) place bytes) bytes)
unfolding read field_rules place_behind timeout_at
timed-agrees position tag place bytes =
    let after = place_behind_sized place bytes in
    let deadline = timeout_of_bytes (bytes_in (place + 2) (number_in w16 place bytes) bytes) in
    let end = drop (place_behind_sized (after + 2 + 4) bytes) bytes in
    let last = rule (are_together tag place after bytes) (rc_value + position) ∷ [] in
    subst (λ (r : Result ((Option ℕ × Ticket) × List ℕ) ℕ). Agrees r (first_broken (sized_rules position is_timeout_length place bytes ++ (ticket_rules position after bytes ++ last))) end)
    (sym (bind-assoc (sized_at position is_timeout_length (drop place bytes)) deadline-of (timed-second position tag)))
    (sized-then position is_timeout_length place bytes (λ x. deadline-of x >>= timed-second position tag) (ticket_rules position after bytes ++ last) end (λ passes.
    ticket-then position after bytes (timed-last position tag deadline) last end
    (tested (are_together tag place after bytes) ((deadline, ticket_in after bytes), end) (rc_value + position))))

-- ---- lists of digests

abbrev digest-of : List ℕ × List ℕ → Result (Digest32 × List ℕ) ℕ
digest-of taken = Ok (digest_of_bytes taken.0, taken.1)

abbrev others-of : ℕ → ℕ → Digest32 × List ℕ → Result (List Digest32 × List ℕ) ℕ
others-of position n first = digests_at position n first.1 >>= λ others. Ok (first.0 ∷ others.0, others.1)

listed-agree : (position n place : ℕ) (bytes : List ℕ) → Agrees (digests_at position n (drop place bytes)) (first_broken (listed_rules position n place bytes)) (drop (place + 34 * n) bytes)
unfolding digests_at listed_digest listed_rules
listed-agree position zero place bytes = ap (λ (p : ℕ). drop p bytes) (omega arith)
listed-agree position (suc n) place bytes =
    let end = drop (place + 34 * suc n) bytes in
    let digest = digest_of_bytes (bytes_in (place + 2) (number_in w16 place bytes) bytes) in
    let later = listed_rules position n (place + 34) bytes in
    let over : (place + 34) + 34 * n ≡ place + 34 * suc n = omega arith in
    subst (λ (r : Result (List Digest32 × List ℕ) ℕ). Agrees r (first_broken (sized_rules position is_digest_length place bytes ++ later)) end)
    (sym (bind-assoc (sized_at position is_digest_length (drop place bytes)) digest-of (others-of position n)))
    (sized-then position is_digest_length place bytes (λ x. digest-of x >>= others-of position n) later end (λ passes.
    let is : number_in w16 place bytes ≡ 32 = eqb-true _ _ passes in
    let same : place_behind_sized place bytes ≡ place + 34 = omega arith in
    let rest : Agrees (digests_at position n (drop (place + 34) bytes)) (first_broken later) end =
    subst (λ (p : ℕ). Agrees (digests_at position n (drop (place + 34) bytes)) (first_broken later) (drop p bytes)) over (listed-agree position n (place + 34) bytes) in
    subst (λ (p : ℕ). Agrees (others-of position n (digest, drop p bytes)) (first_broken later) end) (sym same)
    (agrees-map (λ (ds : List Digest32). digest ∷ ds) (digests_at position n (drop (place + 34) bytes)) (first_broken later) end rest)))

-- ---- all kinds

pub field-agrees : (kind : Kind) (position place : ℕ) (bytes : List ℕ)
    → Agrees (read position kind (drop place bytes)) (first_broken (field_rules position kind place bytes)) (drop (place_behind kind place bytes) bytes)
unfolding read field_rules place_behind
field-agrees Nothing position place bytes = refl
field-agrees (Number w test code) position place bytes =
    number-then position w place bytes (λ n. cond (test n.0) (Ok n) (Err (code + position))) (rule (test (number_in w place bytes)) (code + position) ∷ []) (drop (place + byte_len w) bytes)
    (λ long. tested (test (number_in w place bytes)) (number_in w place bytes, drop (place + byte_len w) bytes) (code + position))
field-agrees Signed position place bytes = number-then position w32 place bytes (λ n. Ok (cast_signed w32 n.0, n.1)) [] (drop (place + 4) bytes) (λ long. refl)
field-agrees Truth position place bytes =
    number-then position w8 place bytes (λ n. cond (ltb n.0 2) (Ok (eqb n.0 1, n.1)) (Err (rc_value + position))) (rule (ltb (number_in w8 place bytes) 2) (rc_value + position) ∷ []) (drop (place + 1) bytes)
    (λ long. tested (ltb (number_in w8 place bytes) 2) (eqb (number_in w8 place bytes) 1, drop (place + 1) bytes) (rc_value + position))
field-agrees Operation position place bytes =
    number-then position w16 place bytes (λ n. or_refused (compare_of_number n.0) (rc_value + position) n.1)
    (rule (is_some (compare_of_number (number_in w16 place bytes))) (rc_value + position) ∷ []) (drop (place + 2) bytes)
    (λ long. refused-agrees (compare_of_number (number_in w16 place bytes)) (rc_value + position) (drop (place + 2) bytes))
field-agrees Digest position place bytes =
    bytes-then position 32 place bytes (λ taken. Ok (digest_of_bytes taken.0, taken.1)) [] (drop (place + 32) bytes) (λ short. omega (arith, length-drop place bytes)) (λ long. refl)
field-agrees Mask position place bytes =
    bytes-then position 3 place bytes (λ taken. Ok (mask_of_bytes taken.0, taken.1)) [] (drop (place + 3) bytes) (λ short. omega (arith, length-drop place bytes)) (λ long. refl)
field-agrees (Sized most) position place bytes = sized-agrees position (λ n. leb n most) place bytes
field-agrees Optional position place bytes =
    sized-then position is_optional_length place bytes (λ taken. Ok (optional_of_bytes taken.0, taken.1)) [] (drop (place_behind_sized place bytes) bytes) (λ passes. refl)
field-agrees Named position place bytes =
    let name = name_of_bytes (bytes_in (place + 2) (number_in w16 place bytes) bytes) in
    sized-then position is_any_length place bytes (λ taken. or_refused (name_of_bytes taken.0) (rc_size + position) taken.1) (rule (is_some name) (rc_size + position) ∷ []) (drop (place_behind_sized place bytes) bytes)
    (λ passes. refused-agrees name (rc_size + position) (drop (place_behind_sized place bytes) bytes))
field-agrees Ticketed position place bytes = ticket-agrees position place bytes
field-agrees (TimedTicket tag) position place bytes = timed-agrees position tag place bytes
field-agrees (Digests least most) position place bytes =
    let n = number_in w32 place bytes in
    let end = drop (place + 4 + 34 * n) bytes in
    number-then position w32 place bytes (λ x. cond (leb least x.0 && leb x.0 most) (digests_at position x.0 x.1) (Err (rc_size + position)))
    (rule (leb least n && leb n most) (rc_size + position) ∷ listed_rules position n (place + 4) bytes) end (λ long.
    judged-then (leb least n && leb n most) (digests_at position n (drop (place + 4) bytes)) (listed_rules position n (place + 4) bytes) (rc_size + position) end (listed-agree position n (place + 4) bytes))
field-agrees (Behind w n code kind) position place bytes =
    let end = drop (place_behind kind (place + byte_len w) bytes) bytes in
    number-then position w place bytes (λ x. cond (eqb x.0 n) (read position kind x.1) (Err (code + position)))
    (rule (eqb (number_in w place bytes) n) (code + position) ∷ field_rules position kind (place + byte_len w) bytes) end (λ long.
    judged-then (eqb (number_in w place bytes) n) (read position kind (drop (place + byte_len w) bytes)) (field_rules position kind (place + byte_len w) bytes) (code + position) end
    (field-agrees kind position (place + byte_len w) bytes))
field-agrees (Together first second) position place bytes =
    let mid = place_behind first place bytes in
    let end = place_behind second mid bytes in
    agrees-then (read position first (drop place bytes)) (λ a. read position second a.1 >>= λ b. Ok ((a.0, b.0), b.1)) (field_rules position first place bytes) (field_rules position second mid bytes) (drop mid bytes) (drop end bytes)
    (field-agrees first position place bytes)
    (λ (a : ValueOf first). agrees-map {A = ValueOf second} {B = ValueOf first × ValueOf second} (λ b. (a, b)) (read position second (drop mid bytes)) (first_broken (field_rules position second mid bytes)) (drop end bytes) (field-agrees second position mid bytes))

-- ---- fields one after the other

pub fields-agree : (kinds : List Kind) (position place : ℕ) (bytes : List ℕ)
    → Agrees (values_at position kinds (drop place bytes)) (first_broken (fields_rules position kinds place bytes)) (drop (place_behind_all kinds place bytes) bytes)
unfolding values_at fields_rules place_behind_all
fields-agree [] position place bytes = refl
fields-agree (kind ∷ kinds) position place bytes =
    let mid = place_behind kind place bytes in
    let end = place_behind_all kinds mid bytes in
    agrees-then (read position kind (drop place bytes)) (λ first. values_at (position + 0x100) kinds first.1 >>= λ others. Ok ((first.0, others.0), others.1)) (field_rules position kind place bytes) (fields_rules (position + 0x100) kinds mid bytes) (drop mid bytes) (drop end bytes)
    (field-agrees kind position place bytes)
    (λ (v : ValueOf kind). agrees-map {A = Values kinds} {B = ValueOf kind × Values kinds} (λ vs. (v, vs)) (values_at (position + 0x100) kinds (drop mid bytes)) (first_broken (fields_rules (position + 0x100) kinds mid bytes)) (drop end bytes) (fields-agree kinds (position + 0x100) mid bytes))
