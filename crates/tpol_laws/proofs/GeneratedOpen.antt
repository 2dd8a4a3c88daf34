-- Which paths of what `gen` makes up are open on its machine at the start: those that ask for no locality.
use Rattle.std.proofs.Common.{◌≡◌, ◌≤◌, inl, inr, ◌∙◌, ℕ, zero, suc, ◌+◌, ◌&&◌, ◌||◌, not, Bool, true, false, List, [], ◌∷◌, ◌++◌, fold, map, nat_eq, nat_le, bit_and, slice_get, Option, Some, None, if◌then◌else◌, refl, ap, sym, subst, arith, append_assoc, append-nil, codes}
use Rattle.std.specs.Prelude.{⊤, is_none, option_map}
use Rattle.std.specs.List.{AllByRecursion, list_all, list_any}
use Rattle.std.proofs.lemmas.Bool.{eq-eqb, false≢true}
use Rattle.std.proofs.lemmas.List.{map-append}
use Rattle.std.proofs.lemmas.List.Elements.{All-nil, recursion_from_All}
use Rattle.std.proofs.lemmas.Slice.Eq.{bytes_eq-Decides}
use Rattle.tpm_bindings.specs.declared.last_auth.LastAuth.{LastAuth}
use Rattle.tpm_bindings.specs.declared.last_auth.LastAuth.TheVariants as lasts
use Rattle.tpm_bindings.specs.Facts.{code_in, codes_of, common_localities, cp_hash_in, deadlines_of, has_locality, in_assertion, is_pcr, is_presence, last_auth, limits_of, localities_of, moves_of, name_hash_in, parent_hash_in, written_in, written_of}
use Rattle.tpm_bindings.specs.Held.{all_are, any_of, each_of, listed}
use Rattle.tpm_bindings.specs.Merged.{fact_of}
use Rattle.tpm_bindings.specs.State.{SessionState}
use Rattle.tpm_engine.specs.Sights.{sight_after}
use Rattle.tpm_engine.specs.Views.{is_held, pcrs_of, sequence_of, table, view_of, world_at}
use Rattle.tpm_pcr.specs.Pcrs.{selection_digest}
use Rattle.tpm_rules.specs.declared.checks.Use.{Use}
use Rattle.tpm_rules.specs.Rule.{or_else, unless}
use Rattle.tpm_rules.specs.Session.{is_counter_now}
use Rattle.tpm_session.specs.Slots.{count_below}
use Rattle.tpol_base.specs.declared.check.Check.{Check}
use Rattle.tpol_base.specs.declared.check.Check.TheVariants as checks
use Rattle.tpol_base.specs.declared.digest.Digest32.{Digest32}
use Rattle.tpol_base.specs.Digest.{is_same_digest}
use Rattle.tpol_base.specs.TrailingZeros.{without_trailing_zeros}
use Rattle.tpol_base.specs.ResponseCode.{of_parameter, rc_pcr_changed, rc_value}
use Rattle.tpol_choose.specs.declared.block.Block.{Block}
use Rattle.tpol_choose.specs.declared.block.Why.{Why}
use Rattle.tpol_choose.specs.declared.block.Why.TheVariants.{Deferred, NoSession}
use Rattle.tpol_choose.specs.Blocks.{block_of, chosen_path, client_of, first_block, is_open, moves_block, whole_block}
use Rattle.tpol_choose.specs.Clients.{Client}
use Rattle.tpol_choose.specs.Entities.{object_at}
use Rattle.tpol_choose.specs.Facts.{counter_after, fact_of_move, session_after}
use Rattle.tpol_choose.specs.Goals.{broken_check, goal_block, goal_use, judged, judged_block, proves}
use Rattle.tpol_choose.specs.Hopes.{is_hopeless, meets}
use Rattle.tpol_choose.specs.Moves.{answered, move_block}
use Rattle.tpol_choose.specs.Tracks.{TrackState}
use Rattle.tpol_choose.proofs.Hopeless.{hopeless_end}
use Rattle.tpol_digest.specs.Digest.{digest_of_moves, policy_digest, zero_digest}
use Rattle.tpol_digest.specs.Paths.{document_paths, paths_of}
use Rattle.tpol_digest.specs.Sound.{Among, IsSound, IsSoundFrom}
use Rattle.tpol_digest.specs.Walks.{first_path}
use Rattle.tpol_digest.specs.WellFormed.{IsWellFormed, IsWellFormedDocument}
use Rattle.tpol_digest.proofs.Meeting.{digest_from-append, paths_of_meet}
use Rattle.tpol_digest.proofs.Products.{Each-append}
use Rattle.tpol_digest.proofs.Soundness.{paths_of_sound}
use Rattle.tpol_fill.specs.Filling.{fill_faults}
use Rattle.tpol_generate.specs.Generate.{generated_object, generated_or, generated_ors, generated_policy, generated_run, generated_setup, zero_pcrs}
use Rattle.tpol_hash.specs.Hmac.{block_key}
use Rattle.tpol_hash.specs.Sha256.{sha256_digest}
use Rattle.tpol_json.specs.Places.{at_member, root}
use Rattle.tpol_name.specs.declared.sight.Sight.{Sight}
use Rattle.tpol_name.specs.Areas.{object_area}
use Rattle.tpol_steps.specs.Filled.{IsReady}
use Rattle.tpol_tree.specs.Bounds.{ElementHasBounds}
use Rattle.tpol_tree.specs.Elements.{EachElement, EachElementWithin, HasBranchCount}
use Rattle.tpol_tree.specs.declared.closed.Assertion.{Assertion}
use Rattle.tpol_tree.specs.declared.closed.Assertion.TheVariants.{AuthValue, Locality, Pcr}
use Rattle.tpol_tree.specs.declared.facts.Fact.{Fact}
use Rattle.tpol_tree.specs.declared.path.Move.{Move}
use Rattle.tpol_tree.specs.declared.path.Move.TheVariants.{Assert, Or}
use Rattle.tpol_tree.specs.declared.path.Path.{Path}
use Rattle.tpol_laws.specs.GeneratedRun.{choices_of_b, closed_of, paths_before_b}
use Rattle.tpol_laws.proofs.FilledForms.{filled-ready}
use Rattle.tpol_laws.proofs.Generated.{no-faults}
use Rattle.tpol_laws.proofs.GeneratedPaths.{FirstFree, IsMade, Made, all-made, first-free, free, is_free}

-- ---- moves that bind nothing

-- a PolicyPCR of PCRs as they are at the start, PolicyAuthValue, or PolicyOR
abbrev IsQuiet : Move → Type 0
IsQuiet (Assert (Pcr mask digest values)) = selection_digest zero_pcrs mask ≡ digest
IsQuiet (Assert AuthValue) = ⊤
IsQuiet (Or digests) = ⊤
IsQuiet _ = ⊥

quiet-made : (moves : List Move) → AllByRecursion IsMade moves → is_free moves ≡ true → AllByRecursion IsQuiet moves
quiet-made [] made is = tt
quiet-made (Assert (Pcr mask digest values) ∷ rest) made is = (made.0, quiet-made rest made.1 is)
quiet-made (Assert AuthValue ∷ rest) made is = (tt, quiet-made rest made.1 is)
quiet-made (Or digests ∷ rest) made is = (tt, quiet-made rest made.1 is)
quiet-made (Assert (Locality localities) ∷ rest) made is = absurd (false≢true is)
quiet-made (act ∷ rest) made is = absurd made.0

made-quiet : (moves : List Move) → AllByRecursion IsQuiet moves → AllByRecursion IsMade moves
made-quiet [] quiet = tt
made-quiet (Assert (Pcr mask digest values) ∷ rest) quiet = (quiet.0, made-quiet rest quiet.1)
made-quiet (Assert AuthValue ∷ rest) quiet = (tt, made-quiet rest quiet.1)
made-quiet (Or digests ∷ rest) quiet = (tt, made-quiet rest quiet.1)
made-quiet (act ∷ rest) quiet = absurd quiet.0

no-word : {A : Type 0} (f : Assertion → Option A) → ((mask : ℕ) (digest : Digest32) (values : List Digest32) → f (Pcr mask digest values) ≡ None) → f AuthValue ≡ None → (moves : List Move) → AllByRecursion IsQuiet moves
    → each_of (in_assertion f) moves ≡ []
no-word f pcr auth [] quiet = refl
no-word f pcr auth (Assert (Pcr mask digest values) ∷ rest) quiet = ap (λ o. listed o ++ each_of (in_assertion f) rest) (pcr mask digest values) ∙ no-word f pcr auth rest quiet.1
no-word f pcr auth (Assert AuthValue ∷ rest) quiet = ap (λ o. listed o ++ each_of (in_assertion f) rest) auth ∙ no-word f pcr auth rest quiet.1
no-word f pcr auth (Or digests ∷ rest) quiet = no-word f pcr auth rest quiet.1
no-word f pcr auth (act ∷ rest) quiet = absurd quiet.0

no-presence : (moves : List Move) → AllByRecursion IsQuiet moves → list_any is_presence moves ≡ false
no-presence [] quiet = refl
no-presence (Assert (Pcr mask digest values) ∷ rest) quiet = no-presence rest quiet.1
no-presence (Assert AuthValue ∷ rest) quiet = no-presence rest quiet.1
no-presence (Or digests ∷ rest) quiet = no-presence rest quiet.1
no-presence (act ∷ rest) quiet = absurd quiet.0

-- ---- localities

both-localities : (moves : List Move) → AllByRecursion IsMade moves → fold bit_and 2 (localities_of moves) ≡ 2
both-localities [] made = refl
both-localities (Assert (Pcr mask digest values) ∷ rest) made = both-localities rest made.1
both-localities (Assert AuthValue ∷ rest) made = both-localities rest made.1
both-localities (Or digests ∷ rest) made = both-localities rest made.1
both-localities (Assert (Locality localities) ∷ rest) made =
    ap (λ n. fold bit_and (bit_and 2 n) (localities_of rest)) made.0 ∙ both-localities rest made.1
both-localities (act ∷ rest) made = absurd made.0

some-locality : (moves : List Move) → AllByRecursion IsMade moves → is_free moves ≡ false → common_localities moves ≡ 2
some-locality [] made is = absurd (false≢true (sym is))
some-locality (Assert (Pcr mask digest values) ∷ rest) made is = some-locality rest made.1 is
some-locality (Assert AuthValue ∷ rest) made is = some-locality rest made.1 is
some-locality (Or digests ∷ rest) made is = some-locality rest made.1 is
some-locality (Assert (Locality localities) ∷ rest) made is =
    ap (λ n. fold bit_and (bit_and 0xff n) (localities_of rest)) made.0 ∙ both-localities rest made.1
some-locality (act ∷ rest) made is = absurd made.0

-- ---- sessions that have made these moves

abbrev shown : Move → Fact
shown act = fact_of 0 act None None

abbrev session_with : ℕ → Digest32 → Option ℕ → List Move → SessionState
session_with start nonce counter moves = record { start = start; nonce = nonce; facts = map shown moves; counter = counter }

moves-shown : (moves : List Move) → moves_of (map shown moves) ≡ moves
moves-shown [] = refl
moves-shown (act ∷ rest) = ap (λ l. act ∷ l) (moves-shown rest)

-- each digest that they ask for, of which there is none, is any one
each-same : (f : Assertion → Option Digest32) → ((mask : ℕ) (digest : Digest32) (values : List Digest32) → f (Pcr mask digest values) ≡ None) → f AuthValue ≡ None → (moves : List Move) → AllByRecursion IsQuiet moves → (digest : Digest32)
    → all_are is_same_digest digest (each_of (in_assertion f) (moves_of (map shown moves))) ≡ true
each-same f pcr auth moves quiet digest =
    ap (λ (ms : List Move). all_are is_same_digest digest (each_of (in_assertion f) ms)) (moves-shown moves) ∙ ap (all_are is_same_digest digest) (no-word f pcr auth moves quiet)

no-deadlines : (moves : List Move) → deadlines_of (map shown moves) ≡ []
no-deadlines [] = refl
no-deadlines (act ∷ rest) = no-deadlines rest

no-limits : (moves : List Move) → limits_of (map shown moves) ≡ []
no-limits [] = refl
no-limits (act ∷ rest) = no-limits rest

fact-made : (sight : Sight) (session : SessionState) (act : Move) → IsMade act → fact_of_move sight session act ≡ shown act
fact-made sight session (Assert (Pcr mask digest values)) made = refl
fact-made sight session (Assert (Locality localities)) made = refl
fact-made sight session (Assert AuthValue) made = refl
fact-made sight session (Or digests) made = refl
fact-made sight session act made = absurd made

next-session : (sight : Sight) (start : ℕ) (nonce : Digest32) (counter : Option ℕ) (before : List Move) (act : Move) → IsMade act
    → session_after sight (session_with start nonce counter before) act ≡ session_with start nonce (counter_after sight.pcr_counter counter act) (before ++ act ∷ [])
next-session sight start nonce counter before act made =
    ap (λ (facts : List Fact). record { start = start; nonce = nonce; facts = facts; counter = counter_after sight.pcr_counter counter act })
    (ap (λ (fact : Fact). map shown before ++ fact ∷ []) (fact-made sight (session_with start nonce counter before) act made) ∙ sym (map-append shown before (act ∷ [])))

counter-stays : (now : ℕ) (counter : Option ℕ) (act : Move) → is_counter_now counter now ≡ true → is_counter_now (counter_after now counter act) now ≡ true
counter-stays now (Some first) act is = is
counter-stays now None act is = at (is_pcr act)
  where
    at : (b : Bool) → is_counter_now (if b then Some now else None) now ≡ true
    at true = eq-eqb now now refl
    at false = refl

-- ---- digests

same-digests : (a b : Digest32) → a ≡ b → is_same_digest a b ≡ true
same-digests a b same = (bytes_eq-Decides a.bytes b.bytes).1 (ap (λ (d : Digest32). d.bytes) same)

among-any : (d : Digest32) (digests : List Digest32) → Among d digests → list_any (is_same_digest d) digests ≡ true
among-any d [] among = absurd among
among-any d (first ∷ rest) (inl same) = ap (λ b. b || list_any (is_same_digest d) rest) (same-digests d first same)
among-any d (first ∷ rest) (inr later) = either (is_same_digest d first) (among-any d rest later)
  where
    either : (b : Bool) → list_any (is_same_digest d) rest ≡ true → (b || list_any (is_same_digest d) rest) ≡ true
    either true h = refl
    either false h = h

-- ---- checks

all-hold : (counter digest time code role locality presence hashes written auth : Bool) → counter ≡ true → digest ≡ true → time ≡ true → code ≡ true → role ≡ true → locality ≡ true → presence ≡ true → hashes ≡ true → written ≡ true → auth ≡ true
    → ◌≡◌ {A = Option Check} (or_else (or_else (or_else (unless counter checks.PcrChanged) (or_else (unless digest checks.PolicyFail) (unless time checks.Expired))) (or_else (or_else (unless code checks.CommandCode) (unless role checks.RoleNeedsCode)) (or_else (or_else (unless locality checks.Locality) (unless presence checks.Presence)) (or_else (unless hashes checks.Hashes) (unless written checks.NvWritten))))) (unless auth checks.AuthValue)) None
all-hold counter digest time code role locality presence hashes written auth a b c d e f g h i j = rw (a, b, c, d, e, f, g, h, i, j) refl

both-hold : (a b c d : Bool) → a ≡ true → b ≡ true → c ≡ true → d ≡ true → ((a && b) && (c && d)) ≡ true
both-hold a b c d ha hb hc hd = rw (ha, hb, hc, hd) refl

two-hold : (a b : Bool) → a ≡ true → b ≡ true → (a && b) ≡ true
two-hold a b ha hb = rw (ha, hb) refl

unmet : (a b c d : Bool) → c ≡ false → (a && (b && (c && d))) ≡ false
unmet true true c d h = ap (λ x. x && d) h
unmet true false c d h = refl
unmet false b c d h = refl

behind : (first second : Option Block) → is_none second ≡ false → is_none (or_else first second) ≡ false
behind (Some block) second h = refl
behind None second h = h

-- ---- the machine at its start

module _ (order : ℕ) (digest : Digest32) where
  abbrev sight : Sight
  sight = sight_after (generated_setup order digest) []

  abbrev client : Client
  client = client_of sight generated_run.grants generated_run.goal 0

  pcrs-are : sight.pcrs ≡ zero_pcrs
  unfolding sight_after view_of world_at pcrs_of generated_setup
  pcrs-are = refl

  free-are : sight.free_sessions ≡ 64
  unfolding sight_after view_of table is_held sequence_of count_below
  free-are = refl

  found-is : judged sight generated_run.goal ≡ Some (record { found = object_at (generated_object digest); rule = None })
  unfolding sight_after view_of world_at generated_setup
  found-is = refl

  whole-none : whole_block sight false ≡ None
  whole-none = ap (λ n. block_of 0 (unless (not (nat_eq n 0)) NoSession)) free-are

  -- ---- the goal

  -- its value is proved with what is granted
  is-proved : (last : LastAuth) → proves generated_run.grants (object_at (generated_object digest)) last ≡ true
  unfolding without_trailing_zeros
  is-proved lasts.Neither = refl
  is-proved lasts.Password = refl
  is-proved lasts.AuthValue =
      two-hold _ _ ((bytes_eq-Decides (block_key (1 ∷ [])) (block_key (1 ∷ []))).1 refl)
      (same-digests (sha256_digest (object_area (generated_object digest).public)) (sha256_digest (object_area (generated_object digest).public)) refl)

  abbrev used : Use
  used = goal_use client (object_at (generated_object digest))

  goal-checks : (start : ℕ) (nonce : Digest32) (counter : Option ℕ) (moves : List Move) → AllByRecursion IsQuiet moves → is_counter_now counter sight.pcr_counter ≡ true
      → digest_of_moves moves ≡ digest → broken_check client (session_with start nonce counter moves) (object_at (generated_object digest)) ≡ None
  goal-checks start nonce counter moves quiet now same =
      let words = moves-shown moves in
      all-hold _ _ _ _ _ _ _ _ _ _ now
      (same-digests (digest_of_moves (moves_of (map shown moves))) digest (ap digest_of_moves words ∙ same))
      (ap (list_all (nat_le sight.time)) (no-deadlines moves))
      (ap (λ ms. all_are nat_eq 0x15e (codes_of ms)) words ∙ ap (all_are nat_eq 0x15e) (no-word code_in (λ mask d values. refl) refl moves quiet))
      refl
      (ap (λ ms. has_locality (common_localities ms) 0) words ∙ ap (λ l. has_locality (fold bit_and 0xff l) 0) (no-word _ (λ mask d values. refl) refl moves quiet))
      (ap (λ ms. not (list_any is_presence ms) || sight.presence) words ∙ ap (λ b. not b || sight.presence) (no-presence moves quiet))
      (both-hold _ _ _ _
      (each-same cp_hash_in (λ mask d values. refl) refl moves quiet used.cp_hash)
      (ap (all_are is_same_digest used.cp_hash) (no-limits moves))
      (each-same name_hash_in (λ mask d values. refl) refl moves quiet used.name_hash)
      (each-same parent_hash_in (λ mask d values. refl) refl moves quiet used.name_hash))
      (ap (λ ms. not (any_of (written_of ms))) words ∙ ap (λ (l : List Bool). not (any_of l)) (no-word written_in (λ mask d values. refl) refl moves quiet))
      (is-proved (last_auth (map shown moves)))

  goal-open : (start : ℕ) (nonce : Digest32) (counter : Option ℕ) (moves : List Move) → AllByRecursion IsQuiet moves → is_counter_now counter sight.pcr_counter ≡ true
      → digest_of_moves moves ≡ digest → goal_block client (session_with start nonce counter moves) ≡ None
  goal-open start nonce counter moves quiet now same =
      ap (judged_block client (session_with start nonce counter moves)) found-is
      ∙ ap (λ (broken : Option Check). or_else (option_map Deferred broken) None) (goal-checks start nonce counter moves quiet now same)

  goal-shut : (start : ℕ) (nonce : Digest32) (counter : Option ℕ) (moves : List Move) → AllByRecursion IsMade moves → is_free moves ≡ false
      → is_none (block_of 0 (goal_block client (session_with start nonce counter moves))) ≡ false
  goal-shut start nonce counter moves made is =
      let track : TrackState = record { session = session_with start nonce counter moves; done = 0; block = None; outside = false } in
      let elsewhere : has_locality (common_localities (moves_of (map shown moves))) 0 ≡ false =
      ap (λ ms. has_locality (common_localities ms) 0) (moves-shown moves) ∙ ap (λ n. has_locality n 0) (some-locality moves made is) in
      let hopeless : is_hopeless client track ≡ true = ap not (unmet _ _ _ _ elsewhere) in
      subst (λ (w : Option Block). is_none (or_else w (block_of 0 (goal_block client (session_with start nonce counter moves)))) ≡ false) whole-none (hopeless_end client track hopeless)

  -- ---- move after move

  move-open : (start : ℕ) (nonce : Digest32) (counter : Option ℕ) (before : List Move) (act : Move) → IsQuiet act → is_counter_now counter sight.pcr_counter ≡ true
      → IsSoundFrom (digest_of_moves before) (act ∷ []) → move_block client (session_with start nonce counter before) act ≡ None
  move-open start nonce counter before (Assert (Pcr mask pcr_digest values)) quiet now sound =
      ap (λ b. answered (or_else (unless b rc_pcr_changed) (unless (is_same_digest pcr_digest (selection_digest sight.pcrs mask)) (rc_value + of_parameter 1)))) now
      ∙ ap (λ b. answered (unless b (rc_value + of_parameter 1)))
      (same-digests pcr_digest (selection_digest sight.pcrs mask) (sym (ap (λ ps. selection_digest ps mask) pcrs-are ∙ quiet)))
  move-open start nonce counter before (Assert AuthValue) quiet now sound = refl
  move-open start nonce counter before (Or digests) quiet now sound =
      ap (λ b. answered (unless b (rc_value + of_parameter 1)))
      (among-any (digest_of_moves (moves_of (map shown before))) digests (subst (λ (ms : List Move). Among (digest_of_moves ms) digests) (sym (moves-shown before)) sound.0))
  move-open start nonce counter before act quiet now sound = absurd quiet

  walk-open : (rest before : List Move) (start : ℕ) (nonce : Digest32) (counter : Option ℕ) (number : ℕ) → AllByRecursion IsQuiet before → AllByRecursion IsQuiet rest
      → is_counter_now counter sight.pcr_counter ≡ true → IsSoundFrom (digest_of_moves before) rest → digest_of_moves (before ++ rest) ≡ digest
      → moves_block client number (session_with start nonce counter before) rest ≡ None
  walk-open [] before start nonce counter number quiet others now sound same =
      ap (block_of 0) (goal-open start nonce counter before quiet now (ap digest_of_moves (sym (append-nil before)) ∙ same))
  walk-open (act ∷ rest) before start nonce counter number quiet others now sound same =
      let later : moves_block client (number + 1) (session_with start nonce (counter_after sight.pcr_counter counter act) (before ++ act ∷ [])) rest ≡ None =
      walk-open rest (before ++ act ∷ []) start nonce (counter_after sight.pcr_counter counter act) (number + 1) (Each-append IsQuiet before (act ∷ []) quiet (others.0, tt)) others.1
      (counter-stays sight.pcr_counter counter act now)
      (subst (λ d. IsSoundFrom d rest) (sym (digest_from-append zero_digest before (act ∷ []))) sound.1)
      (ap digest_of_moves (append_assoc before (act ∷ []) rest) ∙ same) in
      ap (λ (why : Option Why). or_else (block_of number why) (moves_block client (number + 1) (session_after sight (session_with start nonce counter before) act) rest))
      (move-open start nonce counter before act others.0 now (sound.0, tt))
      ∙ ap (λ (s : SessionState). moves_block client (number + 1) s rest)
      (next-session sight start nonce counter before act (made-quiet (act ∷ []) (others.0, tt)).0)
      ∙ later

  walk-shut : (rest before : List Move) (start : ℕ) (nonce : Digest32) (counter : Option ℕ) (number : ℕ) → AllByRecursion IsMade before → AllByRecursion IsMade rest → is_free (before ++ rest) ≡ false
      → is_none (moves_block client number (session_with start nonce counter before) rest) ≡ false
  walk-shut [] before start nonce counter number made others is =
      goal-shut start nonce counter before made (ap is_free (sym (append-nil before)) ∙ is)
  walk-shut (act ∷ rest) before start nonce counter number made others is =
      let later = walk-shut rest (before ++ act ∷ []) start nonce (counter_after sight.pcr_counter counter act) (number + 1) (Each-append IsMade before (act ∷ []) made (others.0, tt)) others.1
      (ap is_free (append_assoc before (act ∷ []) rest) ∙ is) in
      behind (block_of number (move_block client (session_with start nonce counter before) act)) (moves_block client (number + 1) (session_after sight (session_with start nonce counter before) act) rest)
      (subst (λ (s : SessionState). is_none (moves_block client (number + 1) s rest) ≡ false)
      (sym (next-session sight start nonce counter before act others.0)) later)

  -- ---- a path

  first-blocks : (path : Path) → path.outside ≡ false
      → first_block path sight generated_run.grants generated_run.goal 0
      ≡ moves_block client 1 (session_with sight.time zero_digest None []) path.moves
  unfolding first_block
  first-blocks path inside =
      ap (λ outside. or_else (whole_block sight outside) (moves_block client 1 (session_with sight.time zero_digest None []) path.moves)) inside
      ∙ ap (λ (w : Option Block). or_else w (moves_block client 1 (session_with sight.time zero_digest None []) path.moves)) whole-none

  pub free-opens : (path : Path) → Made path → IsSound path.moves → digest_of_moves path.moves ≡ digest → free path ≡ true
      → first_block path sight generated_run.grants generated_run.goal 0 ≡ None
  free-opens path made sound same is =
      first-blocks path made.0
      ∙ walk-open path.moves [] sight.time zero_digest None 1 tt (quiet-made path.moves made.1 is) refl sound same

  open-free : (path : Path) → Made path → IsSound path.moves → digest_of_moves path.moves ≡ digest
      → is_open sight generated_run.grants generated_run.goal 0 path ≡ free path
  open-free path made sound same = by (free path) refl
    where
      by : (b : Bool) → free path ≡ b → is_open sight generated_run.grants generated_run.goal 0 path ≡ b
      by true is = ap is_none (free-opens path made sound same is)
      by false is =
          ap is_none (first-blocks path made.0)
          ∙ walk-shut path.moves [] sight.time zero_digest None 1 tt made.1 is

-- ---- all paths

record Good (digest : Digest32) (path : Path) : Type 0 where
  made : Made path
  sound : IsSound path.moves
  meets : digest_of_moves path.moves ≡ digest

all-good : (digest : Digest32) (paths : List Path) → AllByRecursion Made paths → AllByRecursion (λ p. IsSound p.moves) paths → AllByRecursion (λ p. digest_of_moves p.moves ≡ digest) paths → AllByRecursion (Good digest) paths
all-good digest [] made sound meets = tt
all-good digest (path ∷ rest) made sound meets = (record { made = made.0; sound = sound.0; meets = meets.0 }, all-good digest rest made.1 sound.1 meets.1)

same-first : (f g : Path → Bool) (paths : List Path) (n : ℕ) → AllByRecursion (λ p. f p ≡ g p) paths → first_path f n paths ≡ first_path g n paths
same-first f g [] n same = refl
same-first f g (path ∷ rest) n same =
    ap (λ b. if b then Some n else first_path f (n + 1) rest) same.0 ∙ ap (λ (o : Option ℕ). if g path then Some n else o) (same-first f g rest (n + 1) same.1)

opens-all : (order : ℕ) (digest : Digest32) (paths : List Path) → AllByRecursion (Good digest) paths
    → AllByRecursion (λ p. is_open (sight_after (generated_setup order digest) []) generated_run.grants generated_run.goal 0 p ≡ free p) paths
opens-all order digest [] good = tt
opens-all order digest (path ∷ rest) good = (open-free order digest path good.0.made good.0.sound good.0.meets, opens-all order digest rest good.1)

good-at : (digest : Digest32) (paths : List Path) (k : ℕ) (path : Path) → AllByRecursion (Good digest) paths → slice_get paths k ≡ Some path → Good digest path
good-at digest [] zero path good there = absurd cc
good-at digest [] (suc k) path good there = absurd cc
good-at digest (first ∷ rest) zero path good there = let same : first ≡ path = cc in subst (Good digest) same good.0
good-at digest (first ∷ rest) (suc k) path good there = good-at digest rest k path good.1 there

-- ---- what is made up is within its bounds

or-counted : (swapped : Bool) (pcr : ℕ) → EachElementWithin HasBranchCount (generated_or swapped pcr)
or-counted true pcr = ((omega arith, omega arith), ((tt, tt), ((tt, tt), tt)))
or-counted false pcr = ((omega arith, omega arith), ((tt, tt), ((tt, tt), tt)))

ors-counted : (n pcr bits : ℕ) → EachElement HasBranchCount (generated_ors n pcr bits)
unfolding generated_ors
ors-counted zero pcr bits = (tt, tt)
ors-counted (suc n) pcr bits = (or-counted _ pcr, ors-counted n _ _)

or-bounded : (swapped : Bool) (pcr : ℕ) → EachElementWithin ElementHasBounds (generated_or swapped pcr)
or-bounded true pcr = (tt, ((tt, tt), (((omega arith, omega arith), tt), tt)))
or-bounded false pcr = (tt, (((omega arith, omega arith), tt), ((tt, tt), tt)))

ors-bounded : (n pcr bits : ℕ) → EachElement ElementHasBounds (generated_ors n pcr bits)
unfolding generated_ors
ors-bounded zero pcr bits = (tt, tt)
ors-bounded (suc n) pcr bits = (or-bounded _ pcr, ors-bounded n _ _)

module _ (ors order : ℕ) (few : ors ≤ 12) where
  pub ready : IsReady (closed_of ors order)
  ready =
      let clear : fill_faults (generated_policy ors order) None ≡ [] = no-faults ors 0 order true (at_member root (codes "policy")) 0 (omega (arith, few)) in
      filled-ready (generated_policy ors order) None (ors-counted ors 0 order, ors-bounded ors 0 order) clear

  good : AllByRecursion (Good (policy_digest (closed_of ors order))) (paths_of (closed_of ors order) [])
  good =
      let well : IsWellFormed (closed_of ors order) [] = record { policy_itself = ready.form.well_formed; documents = All-nil IsWellFormedDocument } in
      all-good (policy_digest (closed_of ors order)) (paths_of (closed_of ors order) [])
      (all-made (document_paths [] 4) ors 0 order zero_digest (omega (arith, few)))
      (recursion_from_All (λ (p : Path). IsSound p.moves) (paths_of (closed_of ors order) []) (paths_of_sound (closed_of ors order) [] well))
      (recursion_from_All (λ (p : Path). digest_of_moves p.moves ≡ policy_digest (closed_of ors order)) (paths_of (closed_of ors order) []) (paths_of_meet (closed_of ors order) []))

  pub by-b : FirstFree (paths_of (closed_of ors order) []) (paths_before_b ors order) (choices_of_b ors order)
  by-b = first-free (document_paths [] 4) ors 0 order zero_digest

  pub made-by-b : Made by-b.path
  made-by-b = (good-at (policy_digest (closed_of ors order)) (paths_of (closed_of ors order) []) (paths_before_b ors order) by-b.path good by-b.there).made

  pub opens-by-b : first_block by-b.path (sight_after (generated_setup order (policy_digest (closed_of ors order))) []) generated_run.grants generated_run.goal 0 ≡ None
  opens-by-b =
      let it = good-at (policy_digest (closed_of ors order)) (paths_of (closed_of ors order) []) (paths_before_b ors order) by-b.path good by-b.there in
      free-opens order (policy_digest (closed_of ors order)) by-b.path it.made it.sound it.meets by-b.passes

  -- the path by each `b` is chosen
  pub chosen-by-b : chosen_path (paths_of (closed_of ors order) []) (sight_after (generated_setup order (policy_digest (closed_of ors order))) []) generated_run.grants generated_run.goal 0 ≡ Some (1 + paths_before_b ors order)
  unfolding chosen_path
  chosen-by-b =
      same-first (is_open (sight_after (generated_setup order (policy_digest (closed_of ors order))) []) generated_run.grants generated_run.goal 0) free (paths_of (closed_of ors order) []) 1
      (opens-all order (policy_digest (closed_of ors order)) (paths_of (closed_of ors order) []) good)
      ∙ by-b.first 1
