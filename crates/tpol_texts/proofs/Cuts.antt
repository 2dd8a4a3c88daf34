-- Bytes that are cut at ends.
use Rattle.std.proofs.Common.{◌≡◌, ◌-◌, ◌<◌, ◌≤◌, ◌++◌, ℕ, zero, suc, List, [], ◌∷◌, Some, slice_get, length, take, drop, get_or, refl, sym, ap, subst, ◌∙◌, arith, length-append, length-drop}
use Rattle.std.proofs.Math.Seq.{drop-append_seam}
use Rattle.std.proofs.lemmas.List.{drop-append-le, length-take, take-append-drop, take-append-le, take_all}
use Rattle.std.specs.Prelude.{slice_range}
use Rattle.tpol_texts.specs.Buffer.{AreEnds, cut}

pub start_within : (start : ℕ) (ends : List ℕ) (all : ℕ) → AreEnds start ends all → start ≤ all
start_within start [] all h = omega (arith, h)
start_within start (end ∷ ends) all h = omega (arith, h.0, start_within end ends all h.1)

pub ends_more : (start : ℕ) (ends : List ℕ) (all more : ℕ) → AreEnds start ends all → all ≤ more → AreEnds start (ends ++ more ∷ []) more
ends_more start [] all more h le = (omega (arith, h, le), refl)
ends_more start (end ∷ ends) all more h le = (h.0, ends_more end ends all more h.1 le)

pub length-cut : (start : ℕ) (ends bytes : List ℕ) → length (cut start ends bytes) ≡ length ends
length-cut start [] bytes = refl
length-cut start (end ∷ ends) bytes = ap suc (length-cut end ends bytes)

-- what stands behind all bytes
behind : (bytes line : List ℕ) (start all : ℕ) → start ≡ length bytes → all ≡ length (bytes ++ line) → slice_range (bytes ++ line) start all ≡ line
behind bytes line start all h e =
    ap (λ n. take (all - start) (drop n (bytes ++ line))) h
    ∙ ap (take (all - start)) (drop-append_seam bytes line)
    ∙ take_all (all - start) line (omega (arith, h, e, length-append bytes line))

-- a line that stands there is the same when another comes behind all bytes
stays : (bytes line : List ℕ) (start end : ℕ) → start ≤ end → end ≤ length bytes → slice_range (bytes ++ line) start end ≡ slice_range bytes start end
stays bytes line start end h within =
    ap (take (end - start)) (drop-append-le start bytes line (omega (arith, h, within)))
    ∙ take-append-le (end - start) (drop start bytes) line (omega (arith, h, within, length-drop start bytes))

pub cut_more : (start : ℕ) (ends bytes line : List ℕ) (all : ℕ) → AreEnds start ends (length bytes) → all ≡ length (bytes ++ line) → cut start (ends ++ all ∷ []) (bytes ++ line) ≡ cut start ends bytes ++ line ∷ []
cut_more start [] bytes line all h e = ap (λ l. l ∷ []) (behind bytes line start all h e)
cut_more start (end ∷ ends) bytes line all h e =
    ap (λ l. l ∷ cut end (ends ++ all ∷ []) (bytes ++ line)) (stays bytes line start end h.0 (start_within end ends (length bytes) h.1))
    ∙ ap (λ l. slice_range bytes start end ∷ l) (cut_more end ends bytes line all h.1 e)

-- where the line at a place stands
pub line_within : (first : ℕ) (ends : List ℕ) (all i start end : ℕ) → AreEnds first ends all → i < length ends → start ≡ get_or (first ∷ ends) i start → end ≡ get_or ends i end → (start ≤ end) × (end ≤ all)
line_within first [] all i start end h within s e = absurd (omega arith)
line_within first (one ∷ ends) all zero start end h within s e = (omega (arith, s, e, h.0), omega (arith, e, start_within one ends all h.1))
line_within first (one ∷ ends) all (suc i) start end h within s e = line_within one ends all i start end h.1 (omega arith) s e

pub line_at : (first : ℕ) (ends bytes : List ℕ) (i start end : ℕ) (other : List ℕ) → i < length ends → start ≡ get_or (first ∷ ends) i start → end ≡ get_or ends i end → slice_range bytes start end ≡ get_or (cut first ends bytes) i other
line_at first [] bytes i start end other within s e = absurd (omega arith)
line_at first (one ∷ ends) bytes zero start end other within s e = ap (λ n. slice_range bytes n end) s ∙ ap (slice_range bytes first) e
line_at first (one ∷ ends) bytes (suc i) start end other within s e = line_at one ends bytes i start end other (omega arith) s e

-- ---- a line that is added

module _ (ends bytes line new_ends new_bytes : List ℕ) (all : ℕ) (h : AreEnds 0 ends (length bytes)) (grown : new_bytes ≡ bytes ++ line) (count : all ≡ length new_bytes) (more : new_ends ≡ ends ++ all ∷ []) where
  pub ends_added : AreEnds 0 new_ends (length new_bytes)
  ends_added =
      let further = ends_more 0 ends (length bytes) all h (omega (arith, count, ap length grown, length-append bytes line)) in
      subst (λ l. AreEnds 0 l (length new_bytes)) (sym more) (subst (λ n. AreEnds 0 (ends ++ all ∷ []) n) count further)

  pub line_added : cut 0 new_ends new_bytes ≡ cut 0 ends bytes ++ line ∷ []
  line_added =
      ap (λ l. cut 0 l new_bytes) more
      ∙ ap (cut 0 (ends ++ all ∷ [])) grown
      ∙ cut_more 0 ends bytes line all h (count ∙ ap length grown)

-- ---- a line that is read

module _ (ends lent bytes : List ℕ) (lines : List (List ℕ)) (i start end : ℕ) (view : cut 0 ends bytes ≡ lines) (same : lent ≡ ends) (within : i < length lines) (starts : start ≡ get_or (0 ∷ lent) i start) (stops : end ≡ get_or ends i end) where
  inside : i < length ends
  inside = omega (arith, within, ap length view, length-cut 0 ends bytes)

  from : start ≡ get_or (0 ∷ ends) i start
  from = starts ∙ ap (λ (l : List ℕ). get_or (0 ∷ l) i start) same

  pub bounds_read : AreEnds 0 ends (length bytes) → (start ≤ end) × (end ≤ length bytes)
  bounds_read h = line_within 0 ends (length bytes) i start end h inside from stops

  pub line_read : (other : List ℕ) → slice_range bytes start end ≡ get_or lines i other
  line_read other = line_at 0 ends bytes i start end other inside from stops ∙ ap (λ l. get_or l i other) view

-- ---- the first lines alone

stop_within : (first : ℕ) (ends : List ℕ) (all n stop : ℕ) → AreEnds first ends all → n ≤ length ends → stop ≡ get_or (first ∷ ends) n stop → (first ≤ stop) × (stop ≤ all)
stop_within first ends all zero stop h within e = (omega (arith, e), omega (arith, e, start_within first ends all h))
stop_within first [] all (suc n) stop h within e = absurd (omega arith)
stop_within first (one ∷ ends) all (suc n) stop h within e =
    let later = stop_within one ends all n stop h.1 (omega arith) e in
    (omega (arith, h.0, later.0), later.1)

ends_first : (first : ℕ) (ends bytes : List ℕ) (n stop : ℕ) → AreEnds first ends (length bytes) → n ≤ length ends → stop ≡ get_or (first ∷ ends) n stop → AreEnds first (take n ends) (length (take stop bytes))
ends_first first ends bytes zero stop h within e = omega (arith, e, start_within first ends (length bytes) h, length-take stop bytes)
ends_first first [] bytes (suc n) stop h within e = absurd (omega arith)
ends_first first (one ∷ ends) bytes (suc n) stop h within e = (h.0, ends_first one ends bytes n stop h.1 (omega arith) e)

cut_first : (first : ℕ) (ends bytes : List ℕ) (n stop : ℕ) → AreEnds first ends (length bytes) → n ≤ length ends → stop ≡ get_or (first ∷ ends) n stop → cut first (take n ends) (take stop bytes) ≡ take n (cut first ends bytes)
cut_first first ends bytes zero stop h within e = refl
cut_first first [] bytes (suc n) stop h within e = absurd (omega arith)
cut_first first (one ∷ ends) bytes (suc n) stop h within e =
    let later = stop_within one ends (length bytes) n stop h.1 (omega arith) e in
    let same : slice_range (take stop bytes) first one ≡ slice_range bytes first one =
    sym (stays (take stop bytes) (drop stop bytes) first one h.0 (omega (arith, later, length-take stop bytes)))
    ∙ ap (λ l. slice_range l first one) (take-append-drop stop bytes) in
    ap (λ l. l ∷ cut one (take n ends) (take stop bytes)) same
    ∙ ap (λ l. slice_range bytes first one ∷ l) (cut_first one ends bytes n stop h.1 (omega arith) e)

module _ (ends lent bytes new_ends new_bytes : List ℕ) (lines : List (List ℕ)) (n stop : ℕ) (h : AreEnds 0 ends (length bytes)) (view : cut 0 ends bytes ≡ lines) (same : lent ≡ ends) (within : n ≤ length lines) (stops : stop ≡ get_or (0 ∷ lent) n stop) (left : new_bytes ≡ take stop bytes) (fewer : new_ends ≡ take n ends) where
  within_ends : n ≤ length ends
  within_ends = omega (arith, within, ap length view, length-cut 0 ends bytes)

  stops_there : stop ≡ get_or (0 ∷ ends) n stop
  stops_there = stops ∙ ap (λ (l : List ℕ). get_or (0 ∷ l) n stop) same

  pub ends_kept : AreEnds 0 new_ends (length new_bytes)
  ends_kept = subst (λ l. AreEnds 0 l (length new_bytes)) (sym fewer) (subst (λ (l : List ℕ). AreEnds 0 (take n ends) (length l)) (sym left) (ends_first 0 ends bytes n stop h within_ends stops_there))

  pub lines_kept : cut 0 new_ends new_bytes ≡ take n lines
  lines_kept =
      ap (λ l. cut 0 l new_bytes) fewer
      ∙ ap (cut 0 (take n ends)) left
      ∙ cut_first 0 ends bytes n stop h within_ends stops_there
      ∙ ap (take n) view

-- ---- a text that is the last one

pub last_of : (texts : List (List ℕ)) (text : List ℕ) → slice_get (texts ++ text ∷ []) (length texts) ≡ Some text
last_of [] text = refl
last_of (first ∷ texts) text = last_of texts text
