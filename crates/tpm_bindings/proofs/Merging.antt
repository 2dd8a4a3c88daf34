-- What is bound by facts with one more.
use Rattle.std.proofs.Common.{◌≡◌, ℕ, Bool, ◌||◌, List, [], ◌∷◌, ◌++◌, fold, Option, None, refl, ap, sym, ◌∙◌, nat_eq, nat_le, ◌&&◌, min, arith, bit_and, true, false}
use Rattle.std.specs.Bool.{beq}
use Rattle.std.specs.List.{list_all, list_any}
use Rattle.std.proofs.lemmas.List.{map-append, append-nil}
use Rattle.std.proofs.lemmas.List.Concat.{flat_map-append}
use Rattle.std.proofs.lemmas.List.Sums.{fold-append}
use Rattle.std.proofs.lemmas.List.Folds.{list_any-append}
use Rattle.std.proofs.lemmas.Bool.Decides.{nat_tests}
use Rattle.tpol_base.specs.declared.digest.Digest32.{Digest32}
use Rattle.tpol_tree.specs.declared.closed.Assertion.{Assertion}
use Rattle.tpol_tree.specs.declared.path.Move.{Move}
use Rattle.tpol_tree.specs.declared.path.Move.TheVariants.{Assert, Or, Approve, ApproveNv}
use Rattle.tpol_tree.specs.declared.facts.Fact.{Fact}
use Rattle.tpm_bindings.specs.declared.last_auth.LastAuth.{LastAuth}
use Rattle.tpm_bindings.specs.declared.last_auth.LastAuth.TheVariants.{Neither}
use Rattle.tpm_bindings.specs.Held.{each_of, listed, held}
use Rattle.tpm_bindings.specs.Facts.{moves_of, codes_of, common_localities, localities_of, cp_hashes_of, limits_of, name_hashes_of, parent_hashes_of, written_of, deadlines_of, auths_of, asks_presence, last_auth, has_pcr, in_assertion, is_before, code_in, locality_in, cp_hash_in, name_hash_in, parent_hash_in, written_in, auth_in, is_pcr, is_presence}
use Rattle.tpol_base.specs.Digest.{is_same_digest}
use Rattle.tpm_bindings.specs.Merged.{fact_of, least, merged}

pub each_of-push : {A B : Type 0} (f : A → Option B) (xs : List A) (x : A) → each_of f (xs ++ x ∷ []) ≡ each_of f xs ++ listed (f x)
each_of-push f xs x = flat_map-append (λ y. listed (f y)) xs (x ∷ []) ∙ ap (λ ys. each_of f xs ++ ys) (append-nil (listed (f x)))

pub moves_of-push : (facts : List Fact) (fact : Fact) → moves_of (facts ++ fact ∷ []) ≡ moves_of facts ++ fact.act ∷ []
moves_of-push facts fact = map-append _ facts (fact ∷ [])

-- what each move of facts gives, with one more fact
pub each_move-push : {B : Type 0} (f : Move → Option B) (facts : List Fact) (fact : Fact) → each_of f (moves_of (facts ++ fact ∷ [])) ≡ each_of f (moves_of facts) ++ listed (f fact.act)
each_move-push f facts fact = ap (each_of f) (moves_of-push facts fact) ∙ each_of-push f (moves_of facts) fact.act

pub or_false : (b : Bool) → (b || false) ≡ b
or_false true = refl
or_false false = refl

pub any_move-push : (f : Move → Bool) (facts : List Fact) (fact : Fact) → list_any f (moves_of (facts ++ fact ∷ [])) ≡ (list_any f (moves_of facts) || f fact.act)
any_move-push f facts fact = ap (list_any f) (moves_of-push facts fact) ∙ (list_any-append f (moves_of facts) (fact.act ∷ []) ∙ ap (λ b. list_any f (moves_of facts) || b) (or_false (f fact.act)))

pub merged-push : (facts : List Fact) (fact : Fact) → merged (facts ++ fact ∷ []) ≡ record {
  codes = held nat_eq (codes_of (moves_of facts) ++ listed (in_assertion code_in fact.act));
  localities = fold bit_and (common_localities (moves_of facts)) (listed (in_assertion locality_in fact.act));
  cp_hash = held is_same_digest (cp_hashes_of (moves_of facts) ++ listed (in_assertion cp_hash_in fact.act));
  limit = held is_same_digest (limits_of facts ++ listed fact.cp_hash);
  name_hash = held is_same_digest (name_hashes_of (moves_of facts) ++ listed (in_assertion name_hash_in fact.act));
  parent_hash = held is_same_digest (parent_hashes_of (moves_of facts) ++ listed (in_assertion parent_hash_in fact.act));
  written = held beq (written_of (moves_of facts) ++ listed (in_assertion written_in fact.act));
  deadline = least (deadlines_of facts ++ listed fact.deadline);
  presence = asks_presence facts || is_presence fact.act;
  auth = fold (λ before auth. auth) (last_auth facts) (listed (in_assertion auth_in fact.act));
  pcr = has_pcr facts || is_pcr fact.act;
}
merged-push facts fact =
    rw (
      each_move-push (in_assertion code_in) facts fact,
      each_move-push (in_assertion locality_in) facts fact,
      each_move-push (in_assertion cp_hash_in) facts fact,
      each_of-push (λ f. f.cp_hash) facts fact,
      each_move-push (in_assertion name_hash_in) facts fact,
      each_move-push (in_assertion parent_hash_in) facts fact,
      each_move-push (in_assertion written_in) facts fact,
      each_of-push (λ f. f.deadline) facts fact,
      each_move-push (in_assertion auth_in) facts fact,
      any_move-push is_presence facts fact,
      any_move-push is_pcr facts fact,
      fold-append bit_and 0xff (localities_of (moves_of facts)) (listed (in_assertion locality_in fact.act)),
      fold-append (λ (before auth : LastAuth). auth) Neither (auths_of (moves_of facts)) (listed (in_assertion auth_in fact.act)),
    )
    refl

and_true : (b : Bool) → (b && true) ≡ b
and_true true = refl
and_true false = refl

and_assoc : (a b c : Bool) → ((a && b) && c) ≡ (a && (b && c))
and_assoc true b c = refl
and_assoc false b c = refl

-- a number is at most the least of some exactly where it is at most each
pub nat_le-min : (time a b : ℕ) → nat_le time (min a b) ≡ (nat_le time a && nat_le time b)
nat_le-min time a b = grind (arith, nat_tests)

pub nat_le-least : (time first : ℕ) (rest : List ℕ) → nat_le time (fold min first rest) ≡ (nat_le time first && list_all (nat_le time) rest)
nat_le-least time first [] = sym (and_true (nat_le time first))
nat_le-least time first (next ∷ rest) =
    nat_le-least time (min first next) rest
    ∙ ap (λ b. b && list_all (nat_le time) rest) (nat_le-min time first next)
    ∙ and_assoc (nat_le time first) (nat_le time next) (list_all (nat_le time) rest)

-- the least deadline is that which comes first
pub before-least : (time : ℕ) (deadlines : List ℕ) → is_before time (least deadlines) ≡ list_all (nat_le time) deadlines
before-least time [] = refl
before-least time (first ∷ rest) = nat_le-least time first rest

-- what a fact binds does not depend on its event
pub merged-event : (facts : List Fact) (event other : ℕ) (act : Move) (cp_hash : Option Digest32) (deadline : Option ℕ)
    → merged (facts ++ fact_of event act cp_hash deadline ∷ []) ≡ merged (facts ++ fact_of other act cp_hash deadline ∷ [])
merged-event facts event other act cp_hash deadline =
    merged-push facts (fact_of event act cp_hash deadline) ∙ sym (merged-push facts (fact_of other act cp_hash deadline))

nothing_more : (facts : List Fact) → record {
  codes = held nat_eq (codes_of (moves_of facts) ++ []);
  localities = common_localities (moves_of facts);
  cp_hash = held is_same_digest (cp_hashes_of (moves_of facts) ++ []);
  limit = held is_same_digest (limits_of facts ++ []);
  name_hash = held is_same_digest (name_hashes_of (moves_of facts) ++ []);
  parent_hash = held is_same_digest (parent_hashes_of (moves_of facts) ++ []);
  written = held beq (written_of (moves_of facts) ++ []);
  deadline = least (deadlines_of facts ++ []);
  presence = asks_presence facts || false;
  auth = last_auth facts;
  pcr = has_pcr facts || false;
} ≡ merged facts
nothing_more facts =
    rw (
      append-nil (codes_of (moves_of facts)),
      append-nil (cp_hashes_of (moves_of facts)),
      append-nil (limits_of facts),
      append-nil (name_hashes_of (moves_of facts)),
      append-nil (parent_hashes_of (moves_of facts)),
      append-nil (written_of (moves_of facts)),
      append-nil (deadlines_of facts),
      or_false (asks_presence facts),
      or_false (has_pcr facts),
    )
    refl

-- a move that is no assertion binds nothing by itself
pub merged-nothing : (facts : List Fact) (event : ℕ) (act : Move) → ((assertion : Assertion) → act ≡ Assert assertion → ⊥)
    → merged (facts ++ fact_of event act None None ∷ []) ≡ merged facts
merged-nothing facts event (Assert assertion) none = absurd (none assertion refl)
merged-nothing facts event (Or digests) none = merged-push facts (fact_of event (Or digests) None None) ∙ nothing_more facts
merged-nothing facts event (Approve key policy_ref approved signature) none =
    merged-push facts (fact_of event (Approve key policy_ref approved signature) None None) ∙ nothing_more facts
merged-nothing facts event (ApproveNv index approved) none = merged-push facts (fact_of event (ApproveNv index approved) None None) ∙ nothing_more facts
