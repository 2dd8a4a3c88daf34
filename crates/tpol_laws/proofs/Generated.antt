-- What `gen` makes up has two paths for each OR, and no step of the command refuses it.
use Rattle.std.proofs.Common.{◌≡◌, ◌≤◌, ◌<◌, ◌∙◌, ℕ, zero, suc, ◌+◌, ◌*◌, ◌/◌, ◌%◌, ◌^◌, ◌==◌, Bool, true, false, get_or, codes, length, map, List, [], ◌∷◌, ◌++◌, None, Ok, refl, ap, sym, subst, arith}
use Rattle.std.proofs.lemmas.Bool.{lt-ltb}
use Rattle.std.proofs.lemmas.List.{length-append, length-map}
use Rattle.std.proofs.lemmas.Nat.{pow_below}
use Rattle.std.proofs.lemmas.List.Elements.{All-from_recursion}
use Rattle.std.specs.List.{AllByRecursion}
use Rattle.tpol_base.specs.declared.digest.Digest32.{Digest32}
use Rattle.tpol_base.specs.Handle.{is_pcr}
use Rattle.tpol_digest.specs.Digest.{digest_at_element, zero_digest}
use Rattle.tpol_digest.specs.Limits.{AreWithinLimits}
use Rattle.tpol_digest.specs.Paths.{followed_by, paths_at, paths_at_element, paths_of, product}
use Rattle.tpol_digest.proofs.Products.{Each-product}
use Rattle.tpol_fill.specs.Filling.{element_faults, elements_faults, fill_faults, filled, filled_element, filled_elements}
use Rattle.tpol_fill.specs.Outcome.{Fault}
use Rattle.tpol_generate.specs.Generate.{generate_step, generated_answer, generated_or, generated_ors, generated_policy}
use Rattle.tpol_json.specs.declared.place.Place.{Place}
use Rattle.tpol_json.specs.Places.{at_item, at_member, root}
use Rattle.tpol_steps.proofs.PathSteps.{within}
use Rattle.tpol_steps.specs.Filled.{filled_step}
use Rattle.tpol_steps.specs.Limits.{limit_step}
use Rattle.tpol_tree.specs.ClosedErased.{erased}
use Rattle.tpol_tree.specs.declared.closed.Closed.{Closed}
use Rattle.tpol_tree.specs.declared.path.ApprovedDoc.{ApprovedDoc}
use Rattle.tpol_tree.specs.declared.path.Path.{Path}
use Rattle.tpol_laws.proofs.FilledForms.{filled-elements-lie}

-- ---- paths

doubled : (firsts rests : List Path) → length firsts ≡ 2 → length (product firsts rests) ≡ length rests + length rests
doubled [] rests two = absurd (omega (arith, two))
doubled (one ∷ []) rests two = absurd (omega (arith, two))
doubled (one ∷ other ∷ []) rests two =
    omega (arith, length-append (map (followed_by one) rests) (map (followed_by other) rests ++ []), length-append (map (followed_by other) rests) [], length-map rests (followed_by one), length-map rests (followed_by other))
doubled (one ∷ other ∷ third ∷ more) rests two = absurd (omega (arith, two))

-- so many moves
abbrev HasMoves : ℕ → Path → Type 0
HasMoves n path = length path.moves ≡ n

module _ (below : ApprovedDoc → List Path) where
  two-paths : (swapped : Bool) (pcr : ℕ) (d : Digest32) → length (paths_at_element below [] (filled_element None (generated_or swapped pcr)) d) ≡ 2
  two-paths true pcr d = refl
  two-paths false pcr d = refl

  two-moves : (swapped : Bool) (pcr : ℕ) (d : Digest32) → AllByRecursion (HasMoves 2) (paths_at_element below [] (filled_element None (generated_or swapped pcr)) d)
  two-moves true pcr d = (refl, (refl, tt))
  two-moves false pcr d = (refl, (refl, tt))

  pub ways : (n pcr bits : ℕ) (d : Digest32) → length (paths_at below [] (filled_elements None (generated_ors n pcr bits)) d) ≡ 2 ^ n
  unfolding generated_ors
  ways zero pcr bits d = refl
  ways (suc n) pcr bits d =
      let swapped = bits % 2 == 1 in
      let later = digest_at_element (filled_element None (generated_or swapped pcr)) d in
      let rest : length (paths_at below [] (filled_elements None (generated_ors n (pcr + 1) (bits / 2))) later) ≡ 2 ^ n = ways n (pcr + 1) (bits / 2) later in
      doubled (paths_at_element below [] (filled_element None (generated_or swapped pcr)) d) (paths_at below [] (filled_elements None (generated_ors n (pcr + 1) (bits / 2))) later) (two-paths swapped pcr d)
      ∙ omega (arith, rest)

  pub moves : (n pcr bits : ℕ) (d : Digest32) → AllByRecursion (HasMoves (2 * n + 1)) (paths_at below [] (filled_elements None (generated_ors n pcr bits)) d)
  unfolding generated_ors
  moves zero pcr bits d = (refl, tt)
  moves (suc n) pcr bits d =
      let swapped = bits % 2 == 1 in
      let later = digest_at_element (filled_element None (generated_or swapped pcr)) d in
      Each-product (HasMoves 2) (HasMoves (2 * n + 1)) (HasMoves (2 * suc n + 1))
      (paths_at_element below [] (filled_element None (generated_or swapped pcr)) d) (paths_at below [] (filled_elements None (generated_ors n (pcr + 1) (bits / 2))) later)
      (λ one other two many. omega (arith, two, many, length-append one.moves other.moves)) (two-moves swapped pcr d) (moves n (pcr + 1) (bits / 2) later)

-- ---- no step refuses it

or-faults : (swapped leads : Bool) (place : Place) (pcr : ℕ) → is_pcr pcr ≡ true → element_faults None leads place (generated_or swapped pcr) ≡ []
or-faults true leads place pcr is = rw is refl
or-faults false leads place pcr is = rw is refl

pub no-faults : (n pcr bits : ℕ) (leads : Bool) (list : Place) (k : ℕ) → pcr + n ≤ 24 → elements_faults None leads list k (generated_ors n pcr bits) ≡ []
unfolding generated_ors
no-faults zero pcr bits leads list k few = refl
no-faults (suc n) pcr bits leads list k few =
    let is : is_pcr pcr ≡ true = lt-ltb pcr 24 (omega (arith, few)) in
    ap (λ (faults : List Fault). faults ++ elements_faults None false list (k + 1) (generated_ors n (pcr + 1) (bits / 2))) (or-faults (bits % 2 == 1) leads (at_item list k) pcr is)
    ∙ no-faults n (pcr + 1) (bits / 2) false list (k + 1) (omega (arith, few))

module _ (ors order : ℕ) (few : ors ≤ 12) where
  abbrev closed : Closed
  closed = filled (generated_policy ors order) None

  pub two-for-each : length (paths_of closed []) ≡ 2 ^ ors
  two-for-each = ways _ ors 0 order zero_digest

  at-most : (n : ℕ) → n ≤ 12 → 2 ^ n ≤ 65536
  at-most n few = let below : 2 ^ n < 2 ^ 16 = pow_below n 16 (omega (arith, few)) in omega (arith, below)

  limits : limit_step None closed [] ≡ Ok tt
  limits =
      let lies : erased closed ≡ closed = ap (λ elements. record { elements = elements }) (filled-elements-lie None (generated_ors ors 0 order)) in
      let short = moves _ ors 0 order zero_digest in
      let are : AreWithinLimits (paths_of closed []) = record {
        few = subst (λ n. n ≤ 65536) (sym two-for-each) (at-most ors few);
        short = λ i path there. let same : length (get_or (paths_of closed []) i path).moves ≡ 2 * ors + 1 = All-from_recursion (HasMoves (2 * ors + 1)) (paths_of closed []) short i path there in omega (arith, same, few);
      } in
      ap (λ (c : Closed). limit_step None c []) (sym lies) ∙ within None closed [] are

  pub not-refused : generate_step ors order ≡ Ok (generated_answer ors order closed)
  unfolding generate_step filled_step
  not-refused =
      let clear : fill_faults (generated_policy ors order) None ≡ [] = no-faults ors 0 order true (at_member root (codes "policy")) 0 (omega (arith, few)) in
      rw (clear, limits) refl
