-- What a walk through a policy finds, part by part: for the walks that hold no list of paths.
use Rattle.std.proofs.Common.{◌≡◌, ℕ, zero, suc, ◌+◌, ◌*◌, Bool, true, false, List, [], ◌∷◌, ◌++◌, map, length, Option, Some, None, refl, sym, ap, ◌∙◌, append_assoc, length-append, arith}
use Rattle.std.specs.Prelude.{if◌then◌else◌}
use Rattle.std.specs.List.{slice_get}
use Rattle.std.specs.Option.{option_and_then}
use Rattle.std.proofs.lemmas.List.{append-nil, length-map, map-append}
use Rattle.std.proofs.lemmas.List.Concat.{flat_map-append}
use Rattle.tpol_tree.specs.declared.path.Move.{Move}
use Rattle.tpol_tree.specs.declared.path.Path.{Path}
use Rattle.tpol_tree.specs.declared.path.PathStep.{PathStep}
use Rattle.tpol_digest.specs.Paths.{path_of_move, followed_by, product, between}
use Rattle.tpol_digest.specs.Positions.{path_of_step}
use Rattle.tpol_digest.specs.Walks.{run_moves, ends_well, first_path, first_way}
use Rattle.tpol_digest.proofs.Products.{same_path}

-- ---- moves in a row

pub run_moves-append : {S : Type 0} (step : S → Move → Option S) (s : S) (xs ys : List Move) → run_moves step s (xs ++ ys) ≡ option_and_then (λ t. run_moves step t ys) (run_moves step s xs)
run_moves-append step s [] ys = refl
run_moves-append {S} step s (x ∷ xs) ys = next (step s x) (λ t. run_moves-append step t xs ys)
  where
    next : (found : Option S) → ((t : S) → run_moves step t (xs ++ ys) ≡ option_and_then (λ u. run_moves step u ys) (run_moves step t xs)) → option_and_then (λ t. run_moves step t (xs ++ ys)) found ≡ option_and_then (λ t. run_moves step t ys) (option_and_then (λ t. run_moves step t xs) found)
    next None h = refl
    next (Some t) h = h t

-- ---- the first path of a list in two parts, of a list of changed paths, by another test

pub first_path-append_some : (test : Path → Bool) (n k : ℕ) (xs ys : List Path) → first_path test n xs ≡ Some k → first_path test n (xs ++ ys) ≡ Some k
first_path-append_some test n k [] ys h = cc
first_path-append_some test n k (x ∷ xs) ys h = cases (test x) (first_path-append_some test (n + 1) k xs ys) h
  where
    cases : (b : Bool) → (first_path test (n + 1) xs ≡ Some k → first_path test (n + 1) (xs ++ ys) ≡ Some k) → (if b then Some n else first_path test (n + 1) xs) ≡ Some k → (if b then Some n else first_path test (n + 1) (xs ++ ys)) ≡ Some k
    cases true later e = e
    cases false later e = later e

pub first_path-append_none : (test : Path → Bool) (n : ℕ) (xs ys : List Path) → first_path test n xs ≡ None → first_path test n (xs ++ ys) ≡ first_path test (n + length xs) ys
first_path-append_none test n [] ys h = let e : n ≡ n + 0 = omega arith in ap (λ m. first_path test m ys) e
first_path-append_none test n (x ∷ xs) ys h = cases (test x) (first_path-append_none test (n + 1) xs ys) h
  where
    cases : (b : Bool) → (first_path test (n + 1) xs ≡ None → first_path test (n + 1) (xs ++ ys) ≡ first_path test (n + 1 + length xs) ys) → (if b then Some n else first_path test (n + 1) xs) ≡ None → (if b then Some n else first_path test (n + 1) (xs ++ ys)) ≡ first_path test (n + suc (length xs)) ys
    cases true later e = cc
    cases false later e =
        let same : n + 1 + length xs ≡ n + suc (length xs) = omega arith in
        later e ∙ ap (λ m. first_path test m ys) same

pub first_path-map : (test : Path → Bool) (f : Path → Path) (n : ℕ) (xs : List Path) → first_path test n (map f xs) ≡ first_path (λ p. test (f p)) n xs
first_path-map test f n [] = refl
first_path-map test f n (x ∷ xs) =
    ap (λ rest. if test (f x) then Some n else rest) (first_path-map test f (n + 1) xs)

pub first_path-same : (test other : Path → Bool) → ((p : Path) → test p ≡ other p) → (n : ℕ) (xs : List Path) → first_path test n xs ≡ first_path other n xs
first_path-same test other same n [] = refl
first_path-same test other same n (x ∷ xs) =
    ap (λ b. if b then Some n else first_path test (n + 1) xs) (same x)
    ∙ ap (λ rest. if other x then Some n else rest) (first_path-same test other same (n + 1) xs)

pub first_path-none : (test : Path → Bool) → ((p : Path) → test p ≡ false) → (n : ℕ) (xs : List Path) → first_path test n xs ≡ None
first_path-none test none n [] = refl
first_path-none test none n (x ∷ xs) =
    ap (λ b. if b then Some n else first_path test (n + 1) xs) (none x) ∙ first_path-none test none (n + 1) xs

-- ---- the first way behind a part that has been walked: where its moves ran, the rest is walked from the
-- state that they led to; where one refused, all ways behind it are passed over

module _ {S : Type 0} (step : S → Move → Option S) (test : S → Bool) where
  ends_behind : (s t : S) (a p : Path) → run_moves step s a.moves ≡ Some t → ends_well test (run_moves step s (followed_by a p).moves) ≡ ends_well test (run_moves step t p.moves)
  ends_behind s t a p h =
      ap (ends_well test) (run_moves-append step s a.moves p.moves ∙ ap (option_and_then (λ u. run_moves step u p.moves)) h)

  ends_refused : (s : S) (a p : Path) → run_moves step s a.moves ≡ None → ends_well test (run_moves step s (followed_by a p).moves) ≡ false
  ends_refused s a p h =
      ap (ends_well test) (run_moves-append step s a.moves p.moves ∙ ap (option_and_then (λ u. run_moves step u p.moves)) h)

  pub first_way-behind : (n : ℕ) (s t : S) (a : Path) (ways : List Path) → run_moves step s a.moves ≡ Some t → first_way step test n s (map (followed_by a) ways) ≡ first_way step test n t ways
  first_way-behind n s t a ways h =
      first_path-map (λ p. ends_well test (run_moves step s p.moves)) (followed_by a) n ways
      ∙ first_path-same (λ p. ends_well test (run_moves step s (followed_by a p).moves)) (λ p. ends_well test (run_moves step t p.moves)) (λ p. ends_behind s t a p h) n ways

  pub first_way-refused : (n : ℕ) (s : S) (a : Path) (ways : List Path) → run_moves step s a.moves ≡ None → first_way step test n s (map (followed_by a) ways) ≡ None
  first_way-refused n s a ways h =
      first_path-map (λ p. ends_well test (run_moves step s p.moves)) (followed_by a) n ways
      ∙ first_path-none (λ p. ends_well test (run_moves step s (followed_by a p).moves)) (λ p. ends_refused s a p h) n ways

-- ---- the ways of elements, and of what comes behind them, as a walk goes through them: an element, and
-- then the rest; a branch, and then its OR's move and what comes behind the OR

pub product-one : (a : Path) (ways : List Path) → product (a ∷ []) ways ≡ map (followed_by a) ways
product-one a ways = append-nil (map (followed_by a) ways)

pub product-append : (xs ys ways : List Path) → product (xs ++ ys) ways ≡ product xs ways ++ product ys ways
product-append xs ys ways = flat_map-append (λ first. map (followed_by first) ways) xs ys

pub length-product : (xs ys : List Path) → length (product xs ys) ≡ length xs * length ys
length-product [] ys = omega arith
length-product (x ∷ xs) ys =
    length-append (map (followed_by x) ys) (product xs ys)
    ∙ ap (λ n. n + length (product xs ys)) (length-map ys (followed_by x))
    ∙ ap (λ n. length ys + n) (length-product xs ys)
    ∙ omega arith

pub between-followed : (step : PathStep) (act : Move) (p q : Path) → followed_by (between step act p) q ≡ followed_by (path_of_step step) (followed_by p (followed_by (path_of_move act) q))
between-followed step act p q =
    same_path (followed_by (between step act p) q) (followed_by (path_of_step step) (followed_by p (followed_by (path_of_move act) q))) refl (append_assoc p.moves (act ∷ []) q.moves) refl

map-between : (step : PathStep) (act : Move) (p : Path) (ways : List Path) → map (followed_by (between step act p)) ways ≡ map (followed_by (path_of_step step)) (map (followed_by p) (map (followed_by (path_of_move act)) ways))
map-between step act p [] = refl
map-between step act p (way ∷ ways) =
    ap (λ q. q ∷ map (followed_by (between step act p)) ways) (between-followed step act p way)
    ∙ ap (λ l. followed_by (path_of_step step) (followed_by p (followed_by (path_of_move act) way)) ∷ l) (map-between step act p ways)

pub product-between : (step : PathStep) (act : Move) (inner ways : List Path) → product (map (between step act) inner) ways ≡ map (followed_by (path_of_step step)) (product inner (map (followed_by (path_of_move act)) ways))
product-between step act [] ways = refl
product-between step act (p ∷ rest) ways =
    ap (λ l. l ++ product (map (between step act) rest) ways) (map-between step act p ways)
    ∙ ap (λ l. map (followed_by (path_of_step step)) (map (followed_by p) (map (followed_by (path_of_move act)) ways)) ++ l) (product-between step act rest ways)
    ∙ sym (map-append (followed_by (path_of_step step)) (map (followed_by p) (map (followed_by (path_of_move act)) ways)) (product rest (map (followed_by (path_of_move act)) ways)))

-- ---- the path at a position: earlier choices vary slowest

pub path_at-first : (xs ys : List Path) (i : ℕ) (p : Path) → slice_get xs i ≡ Some p → slice_get (xs ++ ys) i ≡ Some p
path_at-first [] ys i p h = cc
path_at-first (x ∷ xs) ys zero p h = h
path_at-first (x ∷ xs) ys (suc i) p h = path_at-first xs ys i p h

slice_get-right : (xs ys : List Path) (i : ℕ) (p : Path) → slice_get ys i ≡ Some p → slice_get (xs ++ ys) (length xs + i) ≡ Some p
slice_get-right [] ys i p h = let e : i ≡ 0 + i = omega arith in ap (slice_get ys) (sym e) ∙ h
slice_get-right (x ∷ xs) ys i p h =
    let e : suc (length xs) + i ≡ suc (length xs + i) = omega arith in
    ap (slice_get (x ∷ (xs ++ ys))) e ∙ slice_get-right xs ys i p h

pub path_at-later : (xs ys : List Path) (i j : ℕ) (p : Path) → j ≡ length xs + i → slice_get ys i ≡ Some p → slice_get (xs ++ ys) j ≡ Some p
path_at-later xs ys i j p e h = ap (slice_get (xs ++ ys)) e ∙ slice_get-right xs ys i p h

pub path_at-map : (f : Path → Path) (xs : List Path) (i : ℕ) (p : Path) → slice_get xs i ≡ Some p → slice_get (map f xs) i ≡ Some (f p)
path_at-map f [] i p h = cc
path_at-map f (x ∷ xs) zero p h = cc
path_at-map f (x ∷ xs) (suc i) p h = path_at-map f xs i p h

pub path_at-product : (xs ys : List Path) (i j k : ℕ) (p q : Path) → slice_get xs i ≡ Some p → slice_get ys j ≡ Some q → k ≡ i * length ys + j → slice_get (product xs ys) k ≡ Some (followed_by p q)
path_at-product [] ys i j k p q h g e = cc
path_at-product (x ∷ xs) ys zero j k p q h g e =
    let here : k ≡ j = omega (arith, e) in
    let same : x ≡ p = cc in
    ap (slice_get (map (followed_by x) ys ++ product xs ys)) here
    ∙ path_at-first (map (followed_by x) ys) (product xs ys) j (followed_by x q) (path_at-map (followed_by x) ys j q g)
    ∙ ap (λ first. Some (followed_by first q)) same
path_at-product (x ∷ xs) ys (suc i) j k p q h g e =
    let later : k ≡ length (map (followed_by x) ys) + (i * length ys + j) = omega (arith, e, length-map ys (followed_by x)) in
    path_at-later (map (followed_by x) ys) (product xs ys) (i * length ys + j) k (followed_by p q) later (path_at-product xs ys i j (i * length ys + j) p q h g refl)
