-- The paths of what `gen` makes up: the first that asks for no locality is the one by each `b`.
use Rattle.std.proofs.Common.{◌≡◌, ◌≤◌, ◌<◌, ◌∙◌, ℕ, zero, suc, ◌+◌, ◌/◌, ◌%◌, ◌^◌, ◌==◌, ◌&&◌, ◌||◌, not, Bool, true, false, codes, length, map, List, [], ◌∷◌, ◌++◌, Option, Some, None, slice_get, if◌then◌else◌, refl, ap, sym, subst, arith, zero-add}
use Rattle.std.specs.Prelude.{⊤}
use Rattle.std.specs.List.{AllByRecursion}
use Rattle.std.proofs.lemmas.List.{length-map}
use Rattle.std.proofs.lemmas.Option.{none-some}
use Rattle.tpol_base.specs.declared.digest.Digest32.{Digest32}
use Rattle.tpol_base.specs.Pcr.{mask_of_pcrs}
use Rattle.tpol_digest.specs.Digest.{digest_at_element, zero_digest}
use Rattle.tpol_digest.specs.Paths.{followed_by, paths_at, paths_at_element, product}
use Rattle.tpol_digest.specs.Update.{joined}
use Rattle.tpol_digest.specs.Walks.{first_path}
use Rattle.tpol_digest.proofs.Products.{Each-append, Each-product}
use Rattle.tpol_fill.specs.Filling.{filled_element, filled_elements}
use Rattle.tpol_generate.specs.Generate.{generated_or, generated_ors, zero_pcrs}
use Rattle.tpol_hash.specs.Sha256.{sha256_digest}
use Rattle.tpol_tree.specs.declared.closed.Assertion.TheVariants.{AuthValue, Locality, Pcr}
use Rattle.tpol_tree.specs.declared.path.ApprovedDoc.{ApprovedDoc}
use Rattle.tpol_tree.specs.declared.path.Move.{Move}
use Rattle.tpol_tree.specs.declared.path.Move.TheVariants.{Assert, Or}
use Rattle.tpol_tree.specs.declared.path.Path.{Path}
use Rattle.tpol_tree.specs.declared.path.PathStep.{PathStep}
use Rattle.tpol_tree.specs.declared.path.PathStep.TheVariants.{Branch}
use Rattle.tpm_pcr.specs.Pcrs.{selected, selection_digest}
use Rattle.tpol_laws.specs.GeneratedRun.{choices_of_b, paths_before_b, place_of_b}
use Rattle.tpol_laws.proofs.Generated.{ways}

-- ---- paths that ask for no locality

abbrev pub names_locality : Move → Bool
names_locality (Assert (Locality localities)) = true
names_locality _ = false

abbrev pub is_free : List Move → Bool
is_free [] = true
is_free (act ∷ rest) = not (names_locality act) && is_free rest

abbrev pub free : Path → Bool
free path = is_free path.moves

-- the first of these paths that is free has so many before it, and these choices
pub record FirstFree (paths : List Path) (before : ℕ) (choices : List PathStep) : Type 0 where
  pub first : (n : ℕ) → first_path free n paths ≡ Some (n + before)
  pub path : Path
  pub there : slice_get paths before ≡ Some path
  pub chosen : path.steps ≡ choices
  pub passes : free path ≡ true

-- ---- the first in lists that are joined

find-left : (test : Path → Bool) (xs ys : List Path) (n m : ℕ) → first_path test n xs ≡ Some m → first_path test n (xs ++ ys) ≡ Some m
find-left test [] ys n m h = absurd (none-some m h)
find-left test (x ∷ xs) ys n m h = at (test x) h (find-left test xs ys (n + 1) m)
  where
    at : (b : Bool) → (if b then Some n else first_path test (n + 1) xs) ≡ Some m → (first_path test (n + 1) xs ≡ Some m → first_path test (n + 1) (xs ++ ys) ≡ Some m)
        → (if b then Some n else first_path test (n + 1) (xs ++ ys)) ≡ Some m
    at true h later = h
    at false h later = later h

find-right : (test : Path → Bool) (xs ys : List Path) (n : ℕ) → AllByRecursion (λ p. test p ≡ false) xs → first_path test n (xs ++ ys) ≡ first_path test (n + length xs) ys
find-right test [] ys n fails = let same : n ≡ n + 0 = omega arith in ap (λ k. first_path test k ys) same
find-right test (x ∷ xs) ys n fails =
    let same : n + 1 + length xs ≡ n + suc (length xs) = omega arith in
    ap (λ b. if b then Some n else first_path test (n + 1) (xs ++ ys)) fails.0
    ∙ find-right test xs ys (n + 1) fails.1
    ∙ ap (λ k. first_path test k ys) same

find-map : (f : Path → Path) → ((q : Path) → free (f q) ≡ free q) → (paths : List Path) (n : ℕ) → first_path free n (map f paths) ≡ first_path free n paths
find-map f same [] n = refl
find-map f same (q ∷ rest) n =
    ap (λ b. if b then Some n else first_path free (n + 1) (map f rest)) (same q)
    ∙ ap (λ (o : Option ℕ). if free q then Some n else o) (find-map f same rest (n + 1))

none-map : (f : Path → Path) → ((q : Path) → free (f q) ≡ false) → (paths : List Path) → AllByRecursion (λ p. free p ≡ false) (map f paths)
none-map f fails [] = tt
none-map f fails (q ∷ rest) = (fails q, none-map f fails rest)

at-left : (xs ys : List Path) (k : ℕ) (x : Path) → slice_get xs k ≡ Some x → slice_get (xs ++ ys) k ≡ Some x
at-left [] ys zero x h = absurd (none-some x h)
at-left [] ys (suc k) x h = absurd (none-some x h)
at-left (y ∷ xs) ys zero x h = h
at-left (y ∷ xs) ys (suc k) x h = at-left xs ys k x h

at-right : (xs ys : List Path) (k : ℕ) → slice_get (xs ++ ys) (length xs + k) ≡ slice_get ys k
at-right [] ys k = ap (slice_get ys) (zero-add k)
at-right (x ∷ xs) ys k = let same : suc (length xs) + k ≡ suc (length xs + k) = omega arith in ap (slice_get (x ∷ (xs ++ ys))) same ∙ at-right xs ys k

at-map : (f : Path → Path) (xs : List Path) (k : ℕ) (x : Path) → slice_get xs k ≡ Some x → slice_get (map f xs) k ≡ Some (f x)
at-map f [] zero x h = absurd (none-some x h)
at-map f [] (suc k) x h = absurd (none-some x h)
at-map f (y ∷ xs) zero x h = let same : y ≡ x = cc in ap (λ z. Some (f z)) same
at-map f (y ∷ xs) (suc k) x h = at-map f xs k x h

-- ---- one OR before the others

-- where `b` stands first, the first free path goes by it
b-first : (b a : Path) (rest : List Path) (before : ℕ) (choices : List PathStep) (step : PathStep) → ((q : Path) → free (followed_by b q) ≡ free q) → b.steps ≡ step ∷ []
    → FirstFree rest before choices → FirstFree (product (b ∷ a ∷ []) rest) before (step ∷ choices)
b-first b a rest before choices step same steps is = record {
  first = λ n. find-left free (map (followed_by b) rest) (map (followed_by a) rest ++ []) n (n + before) (find-map (followed_by b) same rest n ∙ is.first n);
  path = followed_by b is.path;
  there = at-left (map (followed_by b) rest) (map (followed_by a) rest ++ []) before (followed_by b is.path) (at-map (followed_by b) rest before is.path is.there);
  chosen = ap (λ s. s ++ is.path.steps) steps ∙ ap (λ s. step ∷ s) is.chosen;
  passes = same is.path ∙ is.passes;
}

-- where `a` does, it stands behind all that go by `a`
a-first : (a b : Path) (rest : List Path) (many before : ℕ) (choices : List PathStep) (step : PathStep) → length rest ≡ many → ((q : Path) → free (followed_by a q) ≡ false) → ((q : Path) → free (followed_by b q) ≡ free q) → b.steps ≡ step ∷ []
    → FirstFree rest before choices → FirstFree (product (a ∷ b ∷ []) rest) (many + before) (step ∷ choices)
a-first a b rest many before choices step count fails same steps is =
    let all : length (map (followed_by a) rest) ≡ many = length-map rest (followed_by a) ∙ count in
    record {
      first = λ n.
          let sum : n + many + before ≡ n + (many + before) = omega arith in
          find-right free (map (followed_by a) rest) (map (followed_by b) rest ++ []) n (none-map (followed_by a) fails rest)
          ∙ ap (λ l. first_path free (n + l) (map (followed_by b) rest ++ [])) all
          ∙ find-left free (map (followed_by b) rest) [] (n + many) (n + many + before) (find-map (followed_by b) same rest (n + many) ∙ is.first (n + many))
          ∙ ap Some sum;
      path = followed_by b is.path;
      there = ap (λ l. slice_get (map (followed_by a) rest ++ (map (followed_by b) rest ++ [])) (l + before)) (sym all)
          ∙ at-right (map (followed_by a) rest) (map (followed_by b) rest ++ []) before
          ∙ at-left (map (followed_by b) rest) [] before (followed_by b is.path) (at-map (followed_by b) rest before is.path is.there);
      chosen = ap (λ s. s ++ is.path.steps) steps ∙ ap (λ s. step ∷ s) is.chosen;
      passes = same is.path ∙ is.passes;
    }

-- by one branch of an OR
abbrev path_a : ℕ → List Digest32 → Path
path_a position digests = record { steps = Branch position (codes "a") ∷ []; moves = Assert (Locality 2) ∷ Or digests ∷ []; outside = false }

abbrev pcr_move : ℕ → Move
pcr_move pcr = Assert (Pcr (mask_of_pcrs (pcr ∷ [])) (sha256_digest (joined (zero_digest ∷ []))) (zero_digest ∷ []))

abbrev path_b : ℕ → ℕ → List Digest32 → Path
path_b position pcr digests = record { steps = Branch position (codes "b") ∷ []; moves = pcr_move pcr ∷ Or digests ∷ []; outside = false }

-- ---- moves that are made up

-- PolicyLocality of locality 1, a PolicyPCR of PCRs as they are at the start, PolicyAuthValue, or PolicyOR
abbrev pub IsMade : Move → Type 0
IsMade (Assert (Pcr mask digest values)) = selection_digest zero_pcrs mask ≡ digest
IsMade (Assert (Locality localities)) = localities ≡ 2
IsMade (Assert AuthValue) = ⊤
IsMade (Or digests) = ⊤
IsMade _ = ⊥

abbrev pub Made : Path → Type 0
Made path = (path.outside ≡ false) × AllByRecursion IsMade path.moves

followed-made : (p q : Path) → Made p → Made q → Made (followed_by p q)
followed-made p q one other = (ap (λ b. b || q.outside) one.0 ∙ other.0, Each-append IsMade p.moves q.moves one.1 other.1)

-- the one PCR that is selected
one-selected : (pcr : ℕ) → pcr < 12 → selected zero_pcrs (mask_of_pcrs (pcr ∷ [])) ≡ zero_digest ∷ []
unfolding zero_pcrs
one-selected zero few = refl
one-selected (suc zero) few = refl
one-selected (suc (suc zero)) few = refl
one-selected (suc (suc (suc zero))) few = refl
one-selected (suc (suc (suc (suc zero)))) few = refl
one-selected (suc (suc (suc (suc (suc zero))))) few = refl
one-selected (suc (suc (suc (suc (suc (suc zero)))))) few = refl
one-selected (suc (suc (suc (suc (suc (suc (suc zero))))))) few = refl
one-selected (suc (suc (suc (suc (suc (suc (suc (suc zero)))))))) few = refl
one-selected (suc (suc (suc (suc (suc (suc (suc (suc (suc zero))))))))) few = refl
one-selected (suc (suc (suc (suc (suc (suc (suc (suc (suc (suc zero)))))))))) few = refl
one-selected (suc (suc (suc (suc (suc (suc (suc (suc (suc (suc (suc zero))))))))))) few = refl
one-selected (suc (suc (suc (suc (suc (suc (suc (suc (suc (suc (suc (suc n)))))))))))) few = absurd (omega (arith, few))

pcr-made : (pcr : ℕ) → pcr < 12 → selection_digest zero_pcrs (mask_of_pcrs (pcr ∷ [])) ≡ sha256_digest (joined (zero_digest ∷ []))
unfolding selection_digest
pcr-made pcr few = ap (λ (values : List Digest32). sha256_digest (joined values)) (one-selected pcr few)

module _ (below : ApprovedDoc → List Path) where
  or-made : (swapped : Bool) (pcr : ℕ) (d : Digest32) → pcr < 12 → AllByRecursion Made (paths_at_element below [] (filled_element None (generated_or swapped pcr)) d)
  or-made true pcr d few = ((refl, (pcr-made pcr few, (tt, tt))), ((refl, (refl, (tt, tt))), tt))
  or-made false pcr d few = ((refl, (refl, (tt, tt))), ((refl, (pcr-made pcr few, (tt, tt))), tt))

  pub all-made : (n pcr bits : ℕ) (d : Digest32) → pcr + n ≤ 12 → AllByRecursion Made (paths_at below [] (filled_elements None (generated_ors n pcr bits)) d)
  unfolding generated_ors
  all-made zero pcr bits d few = ((refl, (tt, tt)), tt)
  all-made (suc n) pcr bits d few =
      let swapped = bits % 2 == 1 in
      let later = digest_at_element (filled_element None (generated_or swapped pcr)) d in
      Each-product Made Made Made
      (paths_at_element below [] (filled_element None (generated_or swapped pcr)) d) (paths_at below [] (filled_elements None (generated_ors n (pcr + 1) (bits / 2))) later)
      followed-made (or-made swapped pcr d (omega (arith, few))) (all-made n (pcr + 1) (bits / 2) later (omega (arith, few)))

  -- ---- the first that is free

  -- the two ways through one OR
  record TwoWays (swapped : Bool) (pcr : ℕ) (firsts : List Path) : Type 0 where
    digests : List Digest32
    are : firsts ≡ (if swapped then path_b 1 pcr digests ∷ path_a 2 digests ∷ [] else path_a 1 digests ∷ path_b 2 pcr digests ∷ [])

  two-ways : (swapped : Bool) (pcr : ℕ) (d : Digest32) → TwoWays swapped pcr (paths_at_element below [] (filled_element None (generated_or swapped pcr)) d)
  two-ways true pcr d = record { digests = _; are = refl }
  two-ways false pcr d = record { digests = _; are = refl }

  or-first : (swapped : Bool) (pcr : ℕ) (d : Digest32) (rest : List Path) (many before : ℕ) (choices : List PathStep) → length rest ≡ many → FirstFree rest before choices
      → FirstFree (product (paths_at_element below [] (filled_element None (generated_or swapped pcr)) d) rest) ((if swapped then 0 else many) + before) (Branch (place_of_b swapped) (codes "b") ∷ choices)
  or-first true pcr d rest many before choices count is =
      let two = two-ways true pcr d in
      subst (λ firsts. FirstFree (product firsts rest) (0 + before) (Branch 1 (codes "b") ∷ choices)) (sym two.are)
      (subst (λ k. FirstFree (product (path_b 1 pcr two.digests ∷ path_a 2 two.digests ∷ []) rest) k (Branch 1 (codes "b") ∷ choices)) (sym (zero-add before))
      (b-first (path_b 1 pcr two.digests) (path_a 2 two.digests) rest before choices (Branch 1 (codes "b")) (λ q. refl) refl is))
  or-first false pcr d rest many before choices count is =
      let two = two-ways false pcr d in
      subst (λ firsts. FirstFree (product firsts rest) (many + before) (Branch 2 (codes "b") ∷ choices)) (sym two.are)
      (a-first (path_a 1 two.digests) (path_b 2 pcr two.digests) rest many before choices (Branch 2 (codes "b")) count (λ q. refl) (λ q. refl) refl is)

  pub first-free : (n pcr bits : ℕ) (d : Digest32) → FirstFree (paths_at below [] (filled_elements None (generated_ors n pcr bits)) d) (paths_before_b n bits) (choices_of_b n bits)
  unfolding generated_ors paths_before_b choices_of_b
  first-free zero pcr bits d = record {
    first = λ n. let same : n ≡ n + 0 = omega arith in ap Some same;
    path = _;
    there = refl;
    chosen = refl;
    passes = refl;
  }
  first-free (suc n) pcr bits d =
      let swapped = bits % 2 == 1 in
      let later = digest_at_element (filled_element None (generated_or swapped pcr)) d in
      or-first swapped pcr d (paths_at below [] (filled_elements None (generated_ors n (pcr + 1) (bits / 2))) later) (2 ^ n) (paths_before_b n (bits / 2)) (choices_of_b n (bits / 2))
      (ways below n (pcr + 1) (bits / 2) later) (first-free n (pcr + 1) (bits / 2) later)
