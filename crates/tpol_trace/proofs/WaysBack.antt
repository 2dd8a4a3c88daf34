-- The way that moves went, back to a digest: a path of a list, with what stands before its moves.
use Rattle.std.proofs.Common.{◌≡◌, ℕ, ◌<◌, ◌≤◌, true, false, List, [], ◌∷◌, ◌++◌, map, inl, inr, ap, ◌∙◌, subst, append_assoc, arith}
use Rattle.std.specs.Prelude.{◌⊎◌, ◌||◌}
use Rattle.tpol_base.specs.declared.digest.Digest32.{Digest32}
use Rattle.tpol_tree.specs.declared.path.ApprovedDoc.{ApprovedDoc}
use Rattle.tpol_tree.specs.declared.path.Move.{Move}
use Rattle.tpol_tree.specs.declared.path.Path.{Path}
use Rattle.tpol_tree.specs.declared.path.PathStep.{PathStep}
use Rattle.tpol_tree.specs.declared.path.PathStep.TheVariants.{Branch, Document, Outside}
use Rattle.tpol_digest.specs.Digest.{zero_digest, digest_of_moves}
use Rattle.tpol_digest.specs.Paths.{followed_by, product, between}
use Rattle.tpol_digest.specs.Update.{update_of}
use Rattle.tpol_trace.specs.Matching.{IsListed, documents_before}
use Rattle.tpol_trace.specs.Same.{IsSameMove, AreSame}

-- ---- items of lists

abbrev pub IsIn : {A : Type 0} → A → List A → Type 0
IsIn x [] = ⊥
IsIn x (y ∷ rest) = (x ≡ y) ⊎ IsIn x rest

pub in_left : {A : Type 0} (x : A) (xs ys : List A) → IsIn x xs → IsIn x (xs ++ ys)
in_left x [] ys h = absurd h
in_left x (y ∷ xs) ys (inl e) = inl e
in_left x (y ∷ xs) ys (inr h) = inr (in_left x xs ys h)

pub in_right : {A : Type 0} (x : A) (xs ys : List A) → IsIn x ys → IsIn x (xs ++ ys)
in_right x [] ys h = h
in_right x (y ∷ xs) ys h = inr (in_right x xs ys h)

pub in_map : {A B : Type 0} (f : A → B) (x : A) (xs : List A) → IsIn x xs → IsIn (f x) (map f xs)
in_map f x [] h = absurd h
in_map f x (y ∷ xs) (inl e) = inl (ap f e)
in_map f x (y ∷ xs) (inr h) = inr (in_map f x xs h)

pub in_product : (p q : Path) (ps qs : List Path) → IsIn p ps → IsIn q qs → IsIn (followed_by p q) (product ps qs)
in_product p q [] qs h k = absurd h
in_product p q (x ∷ ps) qs (inl e) k =
    in_left (followed_by p q) (map (followed_by x) qs) (product ps qs) (subst (λ y. IsIn (followed_by p q) (map (followed_by y) qs)) e (in_map (followed_by p) q qs k))
in_product p q (x ∷ ps) qs (inr h) k =
    in_right (followed_by p q) (map (followed_by x) qs) (product ps qs) (in_product p q ps qs h k)

-- ---- moves that are the same in order

pub same-append : (a b c d : List Move) → AreSame a b → AreSame c d → AreSame (a ++ c) (b ++ d)
same-append [] [] c d h k = k
same-append [] (y ∷ b) c d h k = absurd h
same-append (x ∷ a) [] c d h k = absurd h
same-append (x ∷ a) (y ∷ b) c d h k = (h.0, same-append a b c d h.1 k)

documents_before-append : (a b : List PathStep) → documents_before a ≤ documents_before (a ++ b)
documents_before-append [] b = omega arith
documents_before-append (Branch position name ∷ a) b = documents_before-append a b
documents_before-append (Document name ∷ a) b = omega (arith, documents_before-append a b)
documents_before-append (Outside ∷ a) b = omega arith

-- ---- ways

-- the last moves are those of a path that is not outside, and the ones in front of them lead to a digest
pub record IsInside (paths : List Path) (d : Digest32) (moves : List Move) : Type 0 where
  pub path : Path
  pub listed : IsIn path paths
  pub inside : path.outside ≡ false
  pub front : List Move
  pub rest : List Move
  pub split : moves ≡ front ++ rest
  pub reached : digest_of_moves front ≡ d
  pub same : AreSame path.moves rest

-- the last moves are those of an outside path, which starts from zero; `level` documents may be entered
pub record IsOutside (documents : List ApprovedDoc) (level : ℕ) (paths : List Path) (d : Digest32) (moves : List Move) : Type 0 where
  pub starts : d ≡ zero_digest
  pub path : Path
  pub listed : IsIn path paths
  pub outside : path.outside ≡ true
  pub approval : Move
  pub rest : List Move
  pub begins : path.moves ≡ approval ∷ rest
  pub before : List Move
  pub approving : Move
  pub after : List Move
  pub split : moves ≡ before ++ approving ∷ after
  pub hashed : update_of approval ≡ update_of approving
  pub same : AreSame rest after
  pub unlisted : documents_before path.steps < level → IsListed documents approval approving → ⊥

abbrev pub HasWay : List ApprovedDoc → ℕ → List Path → Digest32 → List Move → Type 0
HasWay documents level paths d moves = IsInside paths d moves ⊎ IsOutside documents level paths d moves

module _ (documents : List ApprovedDoc) (level : ℕ) where
  -- among more paths
  pub widen : (paths more : List Path) (d : Digest32) (moves : List Move) → ((p : Path) → IsIn p paths → IsIn p more) → HasWay documents level paths d moves → HasWay documents level more d moves
  widen paths more d moves f (inl i) = inl (record {
    path = i.path;
    listed = f i.path i.listed;
    inside = i.inside;
    front = i.front;
    rest = i.rest;
    split = i.split;
    reached = i.reached;
    same = i.same;
  })
  widen paths more d moves f (inr o) = inr (record {
    starts = o.starts;
    path = o.path;
    listed = f o.path o.listed;
    outside = o.outside;
    approval = o.approval;
    rest = o.rest;
    begins = o.begins;
    before = o.before;
    approving = o.approving;
    after = o.after;
    split = o.split;
    hashed = o.hashed;
    same = o.same;
    unlisted = o.unlisted;
  })

  -- one way and then another that is not outside
  pub follow : (firsts rests : List Path) (d e : Digest32) (moves : List Move) (i : IsInside rests e moves) → HasWay documents level firsts d i.front → HasWay documents level (product firsts rests) d moves
  follow firsts rests d e moves i (inl h) = inl (record {
    path = followed_by h.path i.path;
    listed = in_product h.path i.path firsts rests h.listed i.listed;
    inside = ap (λ b. b || i.path.outside) h.inside ∙ i.inside;
    front = h.front;
    rest = h.rest ++ i.rest;
    split = i.split ∙ ap (λ l. l ++ i.rest) h.split ∙ append_assoc h.front h.rest i.rest;
    reached = h.reached;
    same = same-append h.path.moves h.rest i.path.moves i.rest h.same i.same;
  })
  follow firsts rests d e moves i (inr o) = inr (record {
    starts = o.starts;
    path = followed_by o.path i.path;
    listed = in_product o.path i.path firsts rests o.listed i.listed;
    outside = ap (λ b. b || i.path.outside) o.outside;
    approval = o.approval;
    rest = o.rest ++ i.path.moves;
    begins = ap (λ l. l ++ i.path.moves) o.begins;
    before = o.before;
    approving = o.approving;
    after = o.after ++ i.rest;
    split = i.split ∙ ap (λ l. l ++ i.rest) o.split ∙ append_assoc o.before (o.approving ∷ o.after) i.rest;
    hashed = o.hashed;
    same = same-append o.rest o.after i.path.moves i.rest o.same i.same;
    unlisted = λ less. o.unlisted (omega (arith, documents_before-append o.path.steps i.path.steps));
  })

-- a way behind a choice and before a move, where the choice counts among the documents or does not
pub behind : (documents : List ApprovedDoc) (level deeper : ℕ) (step : PathStep) → ((steps : List PathStep) → documents_before (step ∷ steps) < level → documents_before steps < deeper) → (paths : List Path) (d : Digest32) (front moves : List Move) (act last : Move) → moves ≡ front ++ last ∷ [] → IsSameMove act last → HasWay documents deeper paths d front → HasWay documents level (map (between step act) paths) d moves
behind documents level deeper step counts paths d front moves act last is one (inl i) = inl (record {
  path = between step act i.path;
  listed = in_map (between step act) i.path paths i.listed;
  inside = i.inside;
  front = i.front;
  rest = i.rest ++ last ∷ [];
  split = is ∙ ap (λ l. l ++ last ∷ []) i.split ∙ append_assoc i.front i.rest (last ∷ []);
  reached = i.reached;
  same = same-append i.path.moves i.rest (act ∷ []) (last ∷ []) i.same (one, tt);
})
behind documents level deeper step counts paths d front moves act last is one (inr o) = inr (record {
  starts = o.starts;
  path = between step act o.path;
  listed = in_map (between step act) o.path paths o.listed;
  outside = o.outside;
  approval = o.approval;
  rest = o.rest ++ act ∷ [];
  begins = ap (λ l. l ++ act ∷ []) o.begins;
  before = o.before;
  approving = o.approving;
  after = o.after ++ last ∷ [];
  split = is ∙ ap (λ l. l ++ last ∷ []) o.split ∙ append_assoc o.before (o.approving ∷ o.after) (last ∷ []);
  hashed = o.hashed;
  same = same-append o.rest o.after (act ∷ []) (last ∷ []) o.same (one, tt);
  unlisted = λ less. o.unlisted (counts o.path.steps less);
})
