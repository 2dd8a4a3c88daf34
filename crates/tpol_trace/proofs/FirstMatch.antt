-- The table of a whole policy has the first path that matches.
use Rattle.std.proofs.Common.{◌≡◌, ℕ, suc, ◌+◌, ◌<◌, ◌≤◌, min, Bool, true, false, List, [], ◌∷◌, ◌++◌, length, take, get_or, Option, Some, None, refl, sym, ap, ◌∙◌, subst, arith}
use Rattle.std.specs.Prelude.{if◌then◌else◌, IfSome}
use Rattle.std.specs.List.{AllByRecursion}
use Rattle.std.specs.Option.{option_map}
use Rattle.std.proofs.lemmas.List.{get_or_default, map-append, take_more}
use Rattle.tpol_base.specs.declared.digest.Digest32.{Digest32}
use Rattle.tpol_base.proofs.Digests.{same_digest}
use Rattle.tpol_tree.specs.declared.closed.Closed.{Closed}
use Rattle.tpol_tree.specs.declared.facts.Fact.{Fact}
use Rattle.tpol_tree.specs.declared.path.ApprovedDoc.{ApprovedDoc}
use Rattle.tpol_tree.specs.declared.path.Move.{Move}
use Rattle.tpol_tree.specs.declared.path.Path.{Path}
use Rattle.tpol_digest.specs.Digest.{zero_digest}
use Rattle.tpol_digest.specs.Limits.{AreWithinLimits}
use Rattle.tpol_digest.specs.Paths.{empty_path, product, paths_at, document_paths, paths_of}
use Rattle.tpol_tree.specs.Facts.{moves_of}
use Rattle.tpol_digest.proofs.Products.{product_empty}
use Rattle.tpol_trace.specs.declared.ways.Ways.{Ways}
use Rattle.tpol_trace.specs.Matching.{matches_by, matches}
use Rattle.tpol_trace.specs.Openings.{first_index, first_match}
use Rattle.tpol_trace.specs.Tables.{goes_by, goes, capped, IsTable}
use Rattle.tpol_trace.proofs.Firsts.{first_index-kept}

pub first_bound : {A : Type 0} (test : A → Bool) (xs : List A) → IfSome (first_index test xs) (λ i. i < length xs)
first_bound test [] = tt
first_bound {A} test (x ∷ rest) = by (test x) (first_index test rest) (first_bound test rest)
  where
    by : (t : Bool) (o : Option ℕ) → IfSome o (λ i. i < length rest) → IfSome (if t then Some 0 else option_map (λ i. i + 1) o) (λ i. i < suc (length rest))
    by true o h = omega arith
    by false None h = tt
    by false (Some i) h = omega arith

capped_exact : (o : Option ℕ) (n : ℕ) → n ≤ 65536 → IfSome o (λ i. i < n) → capped o ≡ o
capped_exact None n few h = refl
capped_exact (Some i) n few h = let e : min i 65536 ≡ i = omega arith in ap Some e

whole_by : (approvals : List ApprovedDoc) (facts : List Move) (way : Path) (outside : Bool) → goes_by outside approvals 4 facts 0 way ≡ matches_by outside approvals way facts
whole_by approvals facts way true = refl
whole_by approvals facts way false = refl

module _ (policy : Closed) (approvals : List ApprovedDoc) (facts : List Fact) (within : AreWithinLimits (paths_of policy approvals)) where
  wholes : (some : List Path) → AllByRecursion (λ way. goes approvals 4 (moves_of facts) 0 way ≡ matches approvals way (moves_of facts)) some
  wholes [] = tt
  wholes (way ∷ rest) = (whole_by approvals (moves_of facts) way way.outside, wholes rest)

  first_of_table : (ways : Ways) → IsTable approvals 4 (moves_of facts) ways (paths_of policy approvals) → get_or ways.first.items 0 None ≡ first_match policy approvals facts
  first_of_table ways t =
      t.first 0 (omega arith)
      ∙ ap capped (first_index-kept true (goes approvals 4 (moves_of facts) 0) (λ way. matches approvals way (moves_of facts)) (paths_of policy approvals) (wholes (paths_of policy approvals)))
      ∙ capped_exact (first_match policy approvals facts) (length (paths_of policy approvals)) within.few (first_bound (λ way. matches approvals way (moves_of facts)) (paths_of policy approvals))

  pub first_is : (read : List ApprovedDoc) (moves : List Move) (d : Digest32) (ways : Ways) (result : Option ℕ) → read ≡ approvals → moves ≡ moves_of facts → d.bytes ≡ zero_digest.bytes → IsTable read 4 moves ways (product (paths_at (document_paths read 4) read policy.elements d) (empty_path ∷ [])) → result ≡ get_or ways.first.items 0 result → result ≡ first_match policy approvals facts
  first_is read moves d ways result a m z t is =
      let s = t.size in
      is
      ∙ get_or_default ways.first.items 0 result None (omega arith)
      ∙ first_of_table ways (subst (λ x. IsTable x 4 (moves_of facts) ways (paths_of policy x)) a (subst (λ x. IsTable read 4 x ways (paths_of policy read)) m (subst (IsTable read 4 moves ways) (product_empty (paths_at (document_paths read 4) read policy.elements d) ∙ ap (paths_at (document_paths read 4) read policy.elements) (same_digest d zero_digest z)) t)))

  pub few_paths : (result : Option ℕ) → result ≡ first_match policy approvals facts → IfSome result (λ index. index < 65536)
  few_paths result e =
      subst (λ o. IfSome o (λ index. index < 65536)) (sym e) (weaker (first_match policy approvals facts) (first_bound (λ way. matches approvals way (moves_of facts)) (paths_of policy approvals)))
    where
      weaker : (o : Option ℕ) → IfSome o (λ i. i < length (paths_of policy approvals)) → IfSome o (λ i. i < 65536)
      weaker None h = tt
      weaker (Some i) h = let few = within.few in omega arith

-- one fact more
pub moves_more : (facts : List Fact) (i : ℕ) (fact : Fact) → i < length facts → fact ≡ get_or facts i fact → moves_of (take (i + 1) facts) ≡ moves_of (take i facts) ++ fact.act ∷ []
moves_more facts i fact inside is =
    ap moves_of (take_more facts i fact inside)
    ∙ ap (λ x. moves_of (take i facts ++ x ∷ [])) (sym is)
    ∙ map-append (λ (f : Fact). f.act) (take i facts) (fact ∷ [])
