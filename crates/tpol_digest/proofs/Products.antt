-- Paths one after another.
use Rattle.std.proofs.Common.{◌≡◌, Bool, true, false, List, [], ◌∷◌, ◌++◌, map, refl, sym, ap, ◌∙◌, append_assoc}
use Rattle.std.specs.Prelude.{◌||◌}
use Rattle.std.specs.List.{flat_map, AllByRecursion}
use Rattle.std.proofs.lemmas.List.{append-nil, map-append}
use Rattle.std.proofs.lemmas.List.Concat.{flat_map-append}
use Rattle.tpol_tree.specs.declared.path.Path.{Path}
use Rattle.tpol_digest.specs.Paths.{empty_path, followed_by, product}

pub same_path : (a b : Path) → a.steps ≡ b.steps → a.moves ≡ b.moves → a.outside ≡ b.outside → a ≡ b
same_path a b steps moves outside = λ i. record { steps = steps i; moves = moves i; outside = outside i }

pub or_false : (b : Bool) → (b || false) ≡ b
or_false true = refl
or_false false = refl

or_assoc : (a b c : Bool) → ((a || b) || c) ≡ (a || (b || c))
or_assoc true b c = refl
or_assoc false b c = refl

pub followed_by_empty : (p : Path) → followed_by p empty_path ≡ p
followed_by_empty p =
    same_path (followed_by p empty_path) p (append-nil p.steps) (append-nil p.moves) (or_false p.outside)

pub followed_by_assoc : (a b c : Path) → followed_by (followed_by a b) c ≡ followed_by a (followed_by b c)
followed_by_assoc a b c =
    same_path (followed_by (followed_by a b) c) (followed_by a (followed_by b c)) (append_assoc a.steps b.steps c.steps) (append_assoc a.moves b.moves c.moves) (or_assoc a.outside b.outside c.outside)

pub product_empty : (paths : List Path) → product paths (empty_path ∷ []) ≡ paths
product_empty [] = refl
product_empty (p ∷ rest) = ap (λ q. q ∷ product rest (empty_path ∷ [])) (followed_by_empty p) ∙ ap (λ l. p ∷ l) (product_empty rest)

map_empty : (paths : List Path) → map (followed_by empty_path) paths ≡ paths
map_empty [] = refl
map_empty (p ∷ rest) = ap (λ l. p ∷ l) (map_empty rest)

pub empty_product : (paths : List Path) → product (empty_path ∷ []) paths ≡ paths
empty_product paths = append-nil (map (followed_by empty_path) paths) ∙ map_empty paths

map_followed : (a b : Path) (paths : List Path) → map (followed_by (followed_by a b)) paths ≡ map (followed_by a) (map (followed_by b) paths)
map_followed a b [] = refl
map_followed a b (p ∷ rest) =
    ap (λ q. q ∷ map (followed_by (followed_by a b)) rest) (followed_by_assoc a b p)
    ∙ ap (λ l. followed_by a (followed_by b p) ∷ l) (map_followed a b rest)

product_map : (a : Path) (bs cs : List Path) → product (map (followed_by a) bs) cs ≡ map (followed_by a) (product bs cs)
product_map a [] cs = refl
product_map a (b ∷ bs) cs =
    ap (λ l. l ++ product (map (followed_by a) bs) cs) (map_followed a b cs)
    ∙ ap (λ l. map (followed_by a) (map (followed_by b) cs) ++ l) (product_map a bs cs)
    ∙ sym (map-append (followed_by a) (map (followed_by b) cs) (product bs cs))

pub product_none : (paths : List Path) → product paths [] ≡ []
product_none [] = refl
product_none (p ∷ rest) = product_none rest

pub product_assoc : (xs ys zs : List Path) → product (product xs ys) zs ≡ product xs (product ys zs)
product_assoc [] ys zs = refl
product_assoc (x ∷ xs) ys zs =
    flat_map-append (λ first. map (followed_by first) zs) (map (followed_by x) ys) (product xs ys)
    ∙ ap (λ l. l ++ product (product xs ys) zs) (product_map x ys zs)
    ∙ ap (λ l. map (followed_by x) (product ys zs) ++ l) (product_assoc xs ys zs)

-- ---- a fact of each path

module _ {A : Type 0} (P : A → Type 0) where
  pub Each-append : (xs ys : List A) → AllByRecursion P xs → AllByRecursion P ys → AllByRecursion P (xs ++ ys)
  Each-append [] ys h k = k
  Each-append (x ∷ xs) ys h k = (h.0, Each-append xs ys h.1 k)

module _ {A B : Type 0} (P : A → Type 0) (Q : B → Type 0) where
  pub Each-map : (f : A → B) (xs : List A) → ((x : A) → P x → Q (f x)) → AllByRecursion P xs → AllByRecursion Q (map f xs)
  Each-map f [] g h = tt
  Each-map f (x ∷ xs) g h = (g x h.0, Each-map f xs g h.1)

  pub Each-flat_map : (f : A → List B) (xs : List A) → ((x : A) → P x → AllByRecursion Q (f x)) → AllByRecursion P xs → AllByRecursion Q (flat_map f xs)
  Each-flat_map f [] g h = tt
  Each-flat_map f (x ∷ xs) g h = Each-append Q (f x) (flat_map f xs) (g x h.0) (Each-flat_map f xs g h.1)

pub Each-product : (P Q R : Path → Type 0) (xs ys : List Path) → ((x y : Path) → P x → Q y → R (followed_by x y)) → AllByRecursion P xs → AllByRecursion Q ys → AllByRecursion R (product xs ys)
Each-product P Q R xs ys f h k =
    Each-flat_map P R (λ x. map (followed_by x) ys) xs (λ x px. Each-map Q R (followed_by x) ys (λ y qy. f x y px qy) k) h
