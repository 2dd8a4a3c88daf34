-- A command that hashes twice has a first digest, its half. No half is the digest after whole commands, so
-- the last command of a chain can be told from the digest.
use Rattle.std.proofs.Common.{◌≡◌, ℕ, Bool, true, false, List, [], ◌∷◌, ◌++◌, Option, Some, None, inl, inr, refl, sym, ap, ◌∙◌, subst}
use Rattle.std.specs.Prelude.{◌⊎◌, is_some}
use Rattle.std.specs.List.{AllByRecursion}
use Rattle.std.specs.Option.{option_to_list}
use Rattle.std.proofs.lemmas.Bool.{false≢true}
use Rattle.tpol_base.specs.declared.digest.Digest32.{Digest32}
use Rattle.tpol_hash.specs.Sha256.{sha256_digest}
use Rattle.tpol_tree.specs.declared.path.Move.{Move}
use Rattle.tpol_digest.specs.Digest.{zero_digest, start_of, head_of, first_string, after_second, after_update, digest_after, digest_of_moves}
use Rattle.tpol_digest.specs.Inputs.{strings_of}
use Rattle.tpol_digest.specs.Update.{Update, update_of}
use Rattle.tpol_trace.proofs.Codes.{IsRegular, hashes_twice, regular, same_parts}
use Rattle.tpol_trace.proofs.Strings.{IsSane, IsSameFirst, split_digest, first_in, inner_in, second_in, same_first}
use Rattle.tpol_trace.proofs.Chains.{HasLast, last_of, digest_of_last, AreHashed, hashed_last}

-- the first digest of an update
abbrev pub half_of : Update → Digest32 → Digest32
half_of u d = sha256_digest (first_string u d)

-- the digest after an update of one hash, and of two
pub after_one : (u : Update) (d : Digest32) → u.policy_ref ≡ None → after_update u d ≡ half_of u d
after_one u d e = ap (λ p. after_second p (half_of u d)) e

pub after_two : (u : Update) (d : Digest32) (policy_ref : List ℕ) → u.policy_ref ≡ Some policy_ref → after_update u d ≡ sha256_digest ((half_of u d).bytes ++ policy_ref)
after_two u d policy_ref e = ap (λ p. after_second p (half_of u d)) e

-- updates of one code hash equally often
one_and_two : (a b : Update) (policy_ref : List ℕ) → IsRegular a → IsRegular b → a.code ≡ b.code → a.policy_ref ≡ None → b.policy_ref ≡ Some policy_ref → ⊥
one_and_two a b policy_ref ra rb code none some =
    false≢true (sym (ap is_some none) ∙ ra.second ∙ ap hashes_twice code ∙ sym rb.second ∙ ap is_some some)

-- no command of a chain with such strings has this digest as its half
abbrev pub IsNoHalf : (List ℕ → Type 0) → Digest32 → Type 0
IsNoHalf In d =
    (before : List Move) (last : Move) (policy_ref : List ℕ) → AreHashed In before → AllByRecursion In (strings_of (update_of last) (digest_of_moves before)) → (update_of last).policy_ref ≡ Some policy_ref → half_of (update_of last) (digest_of_moves before) ≡ d → ⊥

-- the strings that are hashed for the half of an update are of a kind
pub record IsHalfIn (In : List ℕ → Type 0) (u : Update) (d : Digest32) : Type 0 where
  pub inner : AllByRecursion In (option_to_list u.inner)
  pub first : In (first_string u d)

module _ (In : List ℕ → Type 0) (sane : IsSane In) where
  pub half_in : (u : Update) (d : Digest32) → AllByRecursion In (strings_of u d) → IsHalfIn In u d
  half_in u d h = record { inner = inner_in In sane u d h; first = first_in In sane u d h }

  pub zero_no_half : IsNoHalf In zero_digest
  zero_no_half before last policy_ref hashed strings two e =
      sane.some (first_string (update_of last) (digest_of_moves before)) (first_in In sane (update_of last) (digest_of_moves before) strings) e

  -- nor has it zero
  start_no_half : (d : Digest32) (fresh : Bool) → IsNoHalf In d → IsNoHalf In (start_of fresh d)
  start_no_half d true none = zero_no_half
  start_no_half d false none = none

  after_not_zero_by : (u : Update) (d : Digest32) (second : Option (List ℕ)) → u.policy_ref ≡ second → AllByRecursion In (strings_of u d) → after_update u d ≡ zero_digest → ⊥
  after_not_zero_by u d None is strings e =
      sane.some (first_string u d) (first_in In sane u d strings) (sym (after_one u d is) ∙ e)
  after_not_zero_by u d (Some policy_ref) is strings e =
      sane.some ((half_of u d).bytes ++ policy_ref) (second_in In sane u d policy_ref is strings) (sym (after_two u d policy_ref is) ∙ e)

  pub after_not_zero : (u : Update) (d : Digest32) → AllByRecursion In (strings_of u d) → after_update u d ≡ zero_digest → ⊥
  after_not_zero u d strings e = after_not_zero_by u d u.policy_ref refl strings e

  -- two equal first digests
  pub same_half : (a b : Update) (x y : Digest32) → IsRegular a → IsRegular b → IsHalfIn In a x → IsHalfIn In b y → half_of a x ≡ half_of b y → IsSameFirst a b x y
  same_half a b x y ra rb h k e =
      same_first In sane a b x y ra rb h.inner k.inner (sane.one (first_string a x) (first_string b y) h.first k.first e)

  -- a digest after two hashes that is a first digest: its own first digest is what the other starts from
  pub half_below : (a b : Update) (x y : Digest32) (policy_ref : List ℕ) → a.policy_ref ≡ Some policy_ref → AllByRecursion In (strings_of a x) → IsHalfIn In b y → sha256_digest ((half_of a x).bytes ++ policy_ref) ≡ half_of b y → half_of a x ≡ start_of b.fresh y
  half_below a b x y policy_ref two h k e =
      (split_digest (half_of a x) (start_of b.fresh y) policy_ref (head_of b) (sane.one ((half_of a x).bytes ++ policy_ref) (first_string b y) (second_in In sane a x policy_ref two h) k.first e)).0

  -- the half of an update is not the digest after a chain
  last_not_half : (d : Digest32) → IsNoHalf In d → (u : Update) (policy_ref : List ℕ) → IsRegular u → u.policy_ref ≡ Some policy_ref → IsHalfIn In u d → (front : List Move) (last : Move) (second : Option (List ℕ)) → (update_of last).policy_ref ≡ second → AreHashed In front → AllByRecursion In (strings_of (update_of last) (digest_of_moves front)) → digest_after last (digest_of_moves front) ≡ half_of u d → ⊥
  last_not_half d none u policy_ref ru two strings front last None is hashed h e =
      one_and_two (update_of last) u policy_ref (regular last) ru (same_half (update_of last) u (digest_of_moves front) d (regular last) ru (half_in (update_of last) (digest_of_moves front) h) strings (sym (after_one (update_of last) (digest_of_moves front) is) ∙ e)).code is two
  last_not_half d none u policy_ref ru two strings front last (Some other) is hashed h e =
      start_no_half d u.fresh none front last other hashed h is (half_below (update_of last) u (digest_of_moves front) d other is h strings (sym (after_two (update_of last) (digest_of_moves front) other is) ∙ e))

  pub whole_not_half : (d : Digest32) → IsNoHalf In d → (u : Update) (policy_ref : List ℕ) → IsRegular u → u.policy_ref ≡ Some policy_ref → IsHalfIn In u d → (moves : List Move) → AreHashed In moves → digest_of_moves moves ≡ half_of u d → ⊥
  whole_not_half d none u policy_ref ru two strings moves hashed e = by_last (last_of moves)
    where
      by_last : (moves ≡ []) ⊎ HasLast moves → ⊥
      by_last (inl empty) =
          sane.some (first_string u d) strings.first (sym e ∙ ap digest_of_moves empty)
      by_last (inr l) =
          let parts = hashed_last In l.front l.last (subst (AreHashed In) l.is hashed) in
          last_not_half d none u policy_ref ru two strings l.front l.last (update_of l.last).policy_ref refl parts.0 parts.1 (sym (digest_of_last l.front l.last) ∙ ap digest_of_moves (sym l.is) ∙ e)

  -- the digest after an update is no half where the one before is none
  pub no_half_after : (d : Digest32) → IsNoHalf In d → (u : Update) → IsRegular u → AllByRecursion In (strings_of u d) → IsNoHalf In (after_update u d)
  no_half_after d none u ru strings before last policy_ref hashed h two e = by_second u.policy_ref refl
    where
      x : Digest32
      x = digest_of_moves before

      v : Update
      v = update_of last

      by_start : (fresh : Bool) (second : List ℕ) → u.policy_ref ≡ Some second → half_of u d ≡ start_of fresh x → ⊥
      by_start true second is zero = sane.some (first_string u d) (first_in In sane u d strings) zero
      by_start false second is whole = whole_not_half d none u second ru is (half_in u d strings) before hashed (sym whole)

      by_second : (second : Option (List ℕ)) → u.policy_ref ≡ second → ⊥
      by_second None is =
          one_and_two u v policy_ref ru (regular last) (sym (same_half v u x d (regular last) ru (half_in v x h) (half_in u d strings) (e ∙ after_one u d is)).code) is two
      by_second (Some second) is =
          by_start v.fresh second is (half_below u v d x second is strings (half_in v x h) (sym (after_two u d second is) ∙ sym e))

  -- the last of moves that give the digest after an update is that update
  pub record EndsWith (moves : List Move) (u : Update) (d : Digest32) : Type 0 where
    pub front : List Move
    pub last : Move
    pub is : moves ≡ front ++ last ∷ []
    pub hashed : update_of last ≡ u
    pub start : start_of u.fresh (digest_of_moves front) ≡ start_of u.fresh d

  ends_with : (moves front : List Move) (last : Move) (u : Update) (d : Digest32) → moves ≡ front ++ last ∷ [] → IsSameFirst (update_of last) u (digest_of_moves front) d → (update_of last).policy_ref ≡ u.policy_ref → EndsWith moves u d
  ends_with moves front last u d is same second = record {
    front = front;
    last = last;
    is = is;
    hashed = same_parts (update_of last) u same.fresh same.code same.inner same.rest second;
    start = ap (λ fresh. start_of fresh (digest_of_moves front)) (sym same.fresh) ∙ same.start;
  }

  pub back : (d : Digest32) → IsNoHalf In d → (u : Update) → IsRegular u → AllByRecursion In (strings_of u d) → (moves : List Move) → AreHashed In moves → digest_of_moves moves ≡ after_update u d → EndsWith moves u d
  back d none u ru strings moves hashed e = by_last (last_of moves)
    where
      by_seconds : (l : HasLast moves) (one two : Option (List ℕ)) → (update_of l.last).policy_ref ≡ one → u.policy_ref ≡ two → AreHashed In l.front → AllByRecursion In (strings_of (update_of l.last) (digest_of_moves l.front)) → digest_after l.last (digest_of_moves l.front) ≡ after_update u d → EndsWith moves u d
      by_seconds l None None a b before h same =
          ends_with moves l.front l.last u d l.is (same_half (update_of l.last) u (digest_of_moves l.front) d (regular l.last) ru (half_in (update_of l.last) (digest_of_moves l.front) h) (half_in u d strings) (sym (after_one (update_of l.last) (digest_of_moves l.front) a) ∙ same ∙ after_one u d b)) (a ∙ sym b)
      by_seconds l (Some p) (Some q) a b before h same =
          let v = update_of l.last in
          let x = digest_of_moves l.front in
          let parts = split_digest (half_of v x) (half_of u d) p q (sane.one ((half_of v x).bytes ++ p) ((half_of u d).bytes ++ q) (second_in In sane v x p a h) (second_in In sane u d q b strings) (sym (after_two v x p a) ∙ same ∙ after_two u d q b)) in
          ends_with moves l.front l.last u d l.is (same_half v u x d (regular l.last) ru (half_in v x h) (half_in u d strings) parts.0) (a ∙ ap Some parts.1 ∙ sym b)
      by_seconds l (Some p) None a b before h same =
          absurd (start_no_half d u.fresh none l.front l.last p before h a (half_below (update_of l.last) u (digest_of_moves l.front) d p a h (half_in u d strings) (sym (after_two (update_of l.last) (digest_of_moves l.front) p a) ∙ same ∙ after_one u d b)))
      by_seconds l None (Some q) a b before h same =
          absurd (by_start (update_of l.last).fresh (half_below u (update_of l.last) d (digest_of_moves l.front) q b strings (half_in (update_of l.last) (digest_of_moves l.front) h) (sym (after_two u d q b) ∙ sym same ∙ after_one (update_of l.last) (digest_of_moves l.front) a)))
        where
          by_start : (fresh : Bool) → half_of u d ≡ start_of fresh (digest_of_moves l.front) → ⊥
          by_start true zero = sane.some (first_string u d) (first_in In sane u d strings) zero
          by_start false whole = whole_not_half d none u q ru b (half_in u d strings) l.front before (sym whole)

      by_last : (moves ≡ []) ⊎ HasLast moves → EndsWith moves u d
      by_last (inl empty) = absurd (after_not_zero u d strings (sym e ∙ ap digest_of_moves empty))
      by_last (inr l) =
          let parts = hashed_last In l.front l.last (subst (AreHashed In) l.is hashed) in
          by_seconds l (update_of l.last).policy_ref u.policy_ref refl refl parts.0 parts.1 (sym (digest_of_last l.front l.last) ∙ ap digest_of_moves (sym l.is) ∙ e)

  -- moves of digest zero are none
  pub none_of_zero : (moves : List Move) → AreHashed In moves → digest_of_moves moves ≡ zero_digest → moves ≡ []
  none_of_zero moves hashed e = by_last (last_of moves)
    where
      by_last : (moves ≡ []) ⊎ HasLast moves → moves ≡ []
      by_last (inl empty) = empty
      by_last (inr l) =
          absurd (after_not_zero (update_of l.last) (digest_of_moves l.front) (hashed_last In l.front l.last (subst (AreHashed In) l.is hashed)).1 (sym (digest_of_last l.front l.last) ∙ ap digest_of_moves (sym l.is) ∙ e))
