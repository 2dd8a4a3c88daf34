-- A track on which something stands in the way keeps it, to the end.
use Rattle.std.proofs.Common.{◌≡◌, ℕ, ◌≤◌, ◌++◌, Bool, true, false, List, [], ◌∷◌, fold, Option, Some, None, refl, ap, ◌∙◌, bit_and, nat_eq, nat_le, nat_lt, arith}
use Rattle.std.specs.Prelude.{◌||◌, ◌&&◌, is_none, is_some, not, option_map}
use Rattle.std.specs.Int.{bit_at}
use Rattle.std.specs.List.{list_all}
use Rattle.std.proofs.lemmas.Bool.{eqb-false, ne_eqb}
use Rattle.std.proofs.lemmas.List.Folds.{list_all-append}
use Rattle.std.proofs.lemmas.List.Sums.{fold-append}
use Rattle.std.proofs.lemmas.Nat.{and_le_l}
use Rattle.std.proofs.lemmas.Nat.Bits.{bit_at-lt, bit_at_and}
use Rattle.tpol_base.specs.CommandCode.{number_of_code}
use Rattle.tpol_base.specs.declared.check.Check.{Check}
use Rattle.tpol_base.specs.declared.check.Check.TheVariants.{PcrChanged, PolicyFail, Expired, CommandCode, RoleNeedsCode, Locality, Presence, Hashes, NvWritten, AuthValue}
use Rattle.tpol_digest.specs.Paths.{outside_path}
use Rattle.tpol_goal.specs.Goals.{code_of_goal}
use Rattle.tpol_name.specs.declared.sight.Sight.{Sight}
use Rattle.tpol_tree.specs.declared.facts.Fact.{Fact}
use Rattle.tpol_tree.specs.declared.path.Move.{Move}
use Rattle.tpol_tree.specs.declared.path.Move.TheVariants.{Assert}
use Rattle.tpol_tree.specs.declared.path.Path.{Path}
use Rattle.tpm_bindings.specs.Facts.{allows_locality, asks_presence, code_in, common_localities, deadlines_of, codes_of, every_code, has_locality, in_assertion, is_in_time, is_presence, localities_of, locality_in, moves_of}
use Rattle.tpm_bindings.specs.Held.{listed}
use Rattle.tpm_bindings.specs.State.{SessionState}
use Rattle.tpm_bindings.proofs.Merging.{any_move-push, each_move-push, each_of-push}
use Rattle.tpm_rules.specs.Rule.{or_else, unless}
use Rattle.tpol_choose.specs.declared.assert_move.AssertMove.{AssertMove}
use Rattle.tpol_choose.specs.declared.block.Block.{Block}
use Rattle.tpol_choose.specs.declared.block.Why.{Why}
use Rattle.tpol_choose.specs.declared.block.Why.TheVariants.{Deferred}
use Rattle.tpol_choose.specs.Blocks.{block_of, whole_block}
use Rattle.tpol_choose.specs.Clients.{Client}
use Rattle.tpol_choose.specs.Entities.{EntityAt}
use Rattle.tpol_choose.specs.Goals.{Judged, broken_check, goal_block, judged, judged_block}
use Rattle.tpol_choose.specs.Hopes.{is_hopeless, meets}
use Rattle.tpol_choose.specs.Tracks.{TrackState, after_first, block_at_end, is_lost, track_after, track_along}

-- ---- what stands in the way of the moves so far

or_true : (b : Bool) → (b || true) ≡ true
or_true true = refl
or_true false = refl

lost_by : (o : Bool) (b c : Option Block) → (o || is_some b) ≡ true → (is_some b ≡ true → is_some c ≡ true) → (p : Bool) → ((o || p) || is_some c) ≡ true
lost_by true b c h f p = refl
lost_by false b c h f true = refl
lost_by false b c h f false = f h

still_blocked : (b c : Option Block) → is_some b ≡ true → is_some (or_else b c) ≡ true
still_blocked None c h = absurd cc
still_blocked (Some block) c h = refl

lost_moves : (client : Client) (track : TrackState) (moves : List Move) → is_some track.block ≡ true → is_some (fold (track_after client) track moves).block ≡ true
lost_moves client track [] h = h
lost_moves client track (act ∷ rest) h =
    lost_moves client (track_after client track act) rest (still_blocked track.block _ h)

lost_along : (client : Client) (track : TrackState) (way : Path) → is_lost track ≡ true → is_lost (track_along client track way) ≡ true
lost_along client track way h =
    lost_by track.outside track.block (fold (track_after client) track way.moves).block h (lost_moves client track way.moves) way.outside

lost_more : (o : Bool) (b c : Option Block) → (o || is_some b) ≡ true → (o || is_some (or_else b c)) ≡ true
lost_more true b c h = refl
lost_more false b c h = still_blocked b c h

lost_after : (client : Client) (track : TrackState) (act : Move) → is_lost track ≡ true → is_lost (track_after client track act) ≡ true
lost_after client track act h = lost_more track.outside track.block _ h

-- ---- what one more fact asks for

both_stay : (a b c d : Bool) → (a ≡ false → c ≡ false) → (b ≡ false → d ≡ false) → (a && b) ≡ false → (c && d) ≡ false
both_stay false b c d f g h = ap (λ x. x && d) (f refl)
both_stay true b false d f g h = refl
both_stay true b true d f g h = g h

still_not : (a b c : Bool) → c ≡ (a && b) → a ≡ false → c ≡ false
still_not a b c e h = e ∙ ap (λ x. x && b) h

still_late : (facts : List Fact) (fact : Fact) (time : ℕ) → is_in_time facts time ≡ false → is_in_time (facts ++ fact ∷ []) time ≡ false
still_late facts fact time h =
    still_not (is_in_time facts time) (list_all (nat_le time) (listed fact.deadline)) (is_in_time (facts ++ fact ∷ []) time) (ap (list_all (nat_le time)) (each_of-push (λ (f : Fact). f.deadline) facts fact) ∙ list_all-append (nat_le time) (deadlines_of facts) (listed fact.deadline)) h

still_other_code : (facts : List Fact) (fact : Fact) (code : ℕ) → every_code facts code ≡ false → every_code (facts ++ fact ∷ []) code ≡ false
still_other_code facts fact code h =
    let more = listed (in_assertion code_in fact.act) in
    still_not (every_code facts code) (list_all (nat_eq code) more) (every_code (facts ++ fact ∷ []) code) (ap (list_all (nat_eq code)) (each_move-push (in_assertion code_in) facts fact) ∙ list_all-append (nat_eq code) (codes_of (moves_of facts)) more) h

-- a smaller set of localities
has_fewer : (localities more locality : ℕ) → localities ≤ 0xff → has_locality localities locality ≡ false → has_locality (bit_and localities more) locality ≡ false
has_fewer localities more locality few h = by (nat_eq localities 0xff) refl h
  where
    bit : nat_eq localities 0xff ≡ false → (nat_lt locality 8 && nat_eq (bit_at localities locality) 1) ≡ false → (nat_lt locality 8 && nat_eq (bit_at (bit_and localities more) locality) 1) ≡ false
    bit e = both_stay (nat_lt locality 8) (nat_eq (bit_at localities locality) 1) (nat_lt locality 8) (nat_eq (bit_at (bit_and localities more) locality) 1) (λ x. x) (λ x. ne_eqb (bit_at (bit_and localities more) locality) 1 (λ one. let no = eqb-false (bit_at localities locality) 1 x in let both = bit_at_and localities more locality in no (omega (arith, both, one, bit_at-lt localities locality))))

    by : (all : Bool) → nat_eq localities 0xff ≡ all → (all || (nat_lt locality 8 && nat_eq (bit_at localities locality) 1)) ≡ false → has_locality (bit_and localities more) locality ≡ false
    by true e h = absurd cc
    by false e h =
        let part = and_le_l localities more in
        let no = eqb-false localities 0xff e in
        ap (λ b. b || (nat_lt locality 8 && nat_eq (bit_at (bit_and localities more) locality) 1)) (ne_eqb (bit_and localities more) 0xff (λ all. no (omega (arith, part, all, few))))
        ∙ bit e h

all_within : (localities : ℕ) (more : List ℕ) → fold bit_and localities more ≤ localities
all_within localities [] = omega arith
all_within localities (first ∷ rest) =
    let one = and_le_l localities first in
    let others = all_within (bit_and localities first) rest in
    omega (arith, one, others)

still_elsewhere : (facts : List Fact) (fact : Fact) (locality : ℕ) → allows_locality facts locality ≡ false → allows_locality (facts ++ fact ∷ []) locality ≡ false
still_elsewhere facts fact locality h =
    ap (λ l. has_locality (fold bit_and 0xff l) locality) (each_move-push (in_assertion locality_in) facts fact)
    ∙ ap (λ n. has_locality n locality) (fold-append bit_and 0xff (localities_of (moves_of facts)) (listed (in_assertion locality_in fact.act)))
    ∙ by (in_assertion locality_in fact.act)
  where
    before : ℕ
    before = common_localities (moves_of facts)

    by : (more : Option ℕ) → has_locality (fold bit_and before (listed more)) locality ≡ false
    by None = h
    by (Some more) = has_fewer before more locality (all_within 0xff (localities_of (moves_of facts))) h

still_asked : (asked more present : Bool) → (not asked || present) ≡ false → (not (asked || more) || present) ≡ false
still_asked true more present h = h
still_asked false more present h = absurd cc

still_absent : (facts : List Fact) (fact : Fact) (present : Bool) → (not (asks_presence facts) || present) ≡ false → (not (asks_presence (facts ++ fact ∷ [])) || present) ≡ false
still_absent facts fact present h =
    ap (λ b. not b || present) (any_move-push is_presence facts fact) ∙ still_asked (asks_presence facts) (is_presence fact.act) present h

still_unmet : (client : Client) (facts : List Fact) (fact : Fact) → meets client facts ≡ false → meets client (facts ++ fact ∷ []) ≡ false
still_unmet client facts fact =
    let after = facts ++ fact ∷ [] in
    let time = client.sight.time in
    let code = number_of_code (code_of_goal client.goal) in
    let locality = client.locality in
    let present = client.sight.presence in
    both_stay (is_in_time facts time) (every_code facts code && (allows_locality facts locality && (not (asks_presence facts) || present))) (is_in_time after time) (every_code after code && (allows_locality after locality && (not (asks_presence after) || present))) (still_late facts fact time) (both_stay (every_code facts code) (allows_locality facts locality && (not (asks_presence facts) || present)) (every_code after code) (allows_locality after locality && (not (asks_presence after) || present)) (still_other_code facts fact code) (both_stay (allows_locality facts locality) (not (asks_presence facts) || present) (allows_locality after locality) (not (asks_presence after) || present) (still_elsewhere facts fact locality) (still_absent facts fact present)))

unmet_moves : (client : Client) (track : TrackState) (moves : List Move) → meets client track.session.facts ≡ false → meets client (fold (track_after client) track moves).session.facts ≡ false
unmet_moves client track [] h = h
unmet_moves client track (act ∷ rest) h =
    unmet_moves client (track_after client track act) rest (still_unmet client track.session.facts _ h)

-- ---- a track that goes on

either_stays : (a b c d : Bool) → (a ≡ true → c ≡ true) → (b ≡ false → d ≡ false) → (a || not b) ≡ true → (c || not d) ≡ true
either_stays true b c d f g h = ap (λ x. x || not d) (f refl)
either_stays false false c d f g h = ap (λ x. c || not x) (g refl) ∙ or_true c
either_stays false true c d f g h = absurd cc

pub hopeless_after : (client : Client) (track : TrackState) (act : Move) → is_hopeless client track ≡ true → is_hopeless client (track_after client track act) ≡ true
hopeless_after client track act =
    either_stays (is_lost track) (meets client track.session.facts) (is_lost (track_after client track act)) (meets client (track_after client track act).session.facts) (lost_after client track act) (still_unmet client track.session.facts _)

pub hopeless_first : (client : Client) (track : TrackState) (first : Option AssertMove) → is_hopeless client track ≡ true → is_hopeless client (after_first client track first) ≡ true
hopeless_first client track None hopeless = hopeless
hopeless_first client track (Some step) hopeless = hopeless_after client track (Assert step.assertion.now) hopeless

pub hopeless_along : (client : Client) (track : TrackState) (way : Path) → is_hopeless client track ≡ true → is_hopeless client (track_along client track way) ≡ true
hopeless_along client track way =
    either_stays (is_lost track) (meets client track.session.facts) (is_lost (track_along client track way)) (meets client (track_along client track way).session.facts) (lost_along client track way) (unmet_moves client track way.moves)

-- by a policy that no listed document has
pub hopeless_outside : (client : Client) (track : TrackState) (act : Move) → is_hopeless client (track_along client track (outside_path act)) ≡ true
hopeless_outside client track act =
    let gone = track_along client track (outside_path act) in
    ap (λ o. (o || is_some gone.block) || not (meets client gone.session.facts)) (or_true track.outside)

-- ---- the end

some_broken : (counter digest time code role locality presence hashes written auth : Bool) → (time && (code && (locality && presence))) ≡ false → is_none (or_else (or_else (or_else (unless counter PcrChanged) (or_else (unless digest PolicyFail) (unless time Expired))) (or_else (or_else (unless code CommandCode) (unless role RoleNeedsCode)) (or_else (or_else (unless locality Locality) (unless presence Presence)) (or_else (unless hashes Hashes) (unless written NvWritten))))) (unless auth AuthValue)) ≡ false
some_broken false digest time code role locality presence hashes written auth h = refl
some_broken true false time code role locality presence hashes written auth h = refl
some_broken true true false code role locality presence hashes written auth h = refl
some_broken true true true false role locality presence hashes written auth h = refl
some_broken true true true true false locality presence hashes written auth h = refl
some_broken true true true true true false presence hashes written auth h = refl
some_broken true true true true true true false hashes written auth h = refl
some_broken true true true true true true true hashes written auth h = absurd cc

unmet_check : (client : Client) (session : SessionState) (found : EntityAt) → meets client session.facts ≡ false → is_none (broken_check client session found) ≡ false
unmet_check client session found h = some_broken _ _ _ _ _ _ _ _ _ _ h

shut : (available : Bool) (why : Why) (check : Option Check) (own : Option Why) → is_none check ≡ false → is_none (or_else (or_else (unless available why) (option_map Deferred check)) own) ≡ false
shut false why check own h = refl
shut true why (Some check) own h = refl
shut true why None own h = absurd cc

unmet_goal : (client : Client) (session : SessionState) → meets client session.facts ≡ false → is_none (goal_block client session) ≡ false
unmet_goal client session h = by (judged client.sight client.goal)
  where
    by : (goal : Option Judged) → is_none (judged_block client session goal) ≡ false
    by None = refl
    by (Some goal) = shut _ _ (broken_check client session goal.found) _ (unmet_check client session goal.found h)

is_block : (number : ℕ) (why : Option Why) → is_none (block_of number why) ≡ is_none why
is_block number None = refl
is_block number (Some why) = refl

behind : (first second : Option Block) → is_none second ≡ false → is_none (or_else first second) ≡ false
behind (Some block) second h = refl
behind None second h = h

ends_by : (sight : Sight) (outside : Bool) (block : Option Block) (met : Bool) (goal : Option Block) → ((outside || is_some block) || not met) ≡ true → (met ≡ false → is_none goal ≡ false) → is_none (or_else (whole_block sight outside) (or_else block goal)) ≡ false
ends_by sight true block met goal h f = refl
ends_by sight false (Some block) met goal h f = behind (whole_block sight false) (Some block) refl
ends_by sight false None false goal h f = behind (whole_block sight false) goal (f refl)
ends_by sight false None true goal h f = absurd cc

pub hopeless_end : (client : Client) (track : TrackState) → is_hopeless client track ≡ true → is_none (block_at_end client track) ≡ false
hopeless_end client track h =
    ends_by client.sight track.outside track.block (meets client track.session.facts) (block_of 0 (goal_block client track.session)) h (λ unmet. is_block 0 (goal_block client track.session) ∙ unmet_goal client track.session unmet)
