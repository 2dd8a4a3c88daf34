-- How much is left to walk, for the end of the walk.
use Rattle.std.proofs.Common.{◌≡◌, ℕ, zero, suc, ◌+◌, ◌-◌, ◌*◌, ◌<◌, ◌≤◌, List, [], ◌∷◌, arith}
use Rattle.std.proofs.Math.Nat.{mul-le-mul_left}
use Rattle.tpol_tree.specs.declared.path.ApprovedDoc.{ApprovedDoc}
use Rattle.tpol_digest.proofs.Weights.{weight, greatest}
use Rattle.tpol_choose.specs.declared.ahead.Ahead.{Ahead}
use Rattle.tpol_choose.specs.declared.ahead.Ahead.TheVariants.{Nothing, After'}

-- what one part of a policy weighs where documents may be entered so many levels deep
abbrev pub share : List ApprovedDoc → ℕ → ℕ
share documents zero = 1
share documents (suc levels) = 4 * (greatest documents * share documents levels)

-- what comes behind a branch or a document
abbrev pub load : List ApprovedDoc → Ahead → ℕ
load documents Nothing = 0
load documents (After' act first rest before levels p ahead) =
    4 * (weight rest.now * share documents levels) + load documents ahead + 1

greatest_some : (documents : List ApprovedDoc) → 1 ≤ greatest documents
greatest_some [] = omega arith
greatest_some (document ∷ rest) = let some = greatest_some rest in omega arith

pub mul_some : (a b : ℕ) → 1 ≤ a → 1 ≤ b → 1 ≤ a * b
mul_some a b h k = grind arith

pub share_some : (documents : List ApprovedDoc) (levels : ℕ) → 1 ≤ share documents levels
share_some documents zero = omega arith
share_some documents (suc levels) =
    let some = mul_some (greatest documents) (share documents levels) (greatest_some documents) (share_some documents levels) in
    omega arith

more_of : (a b c : ℕ) → a ≤ b → a * c ≤ b * c
more_of a b c le = let h = mul-le-mul_left c le in omega (arith, h)

-- a document one level deeper weighs less than what asked for it
pub entered_lighter : (documents : List ApprovedDoc) (levels w : ℕ) → 1 ≤ levels → w < greatest documents → 4 * (w * share documents (levels - 1)) < share documents levels
entered_lighter documents zero w h k = absurd (omega arith)
entered_lighter documents (suc levels) w h k =
    let e : suc levels - 1 ≡ levels = omega arith in
    let some = share_some documents levels in
    let whole : (w + 1) * share documents levels ≤ greatest documents * share documents levels = more_of (w + 1) (greatest documents) (share documents levels) (omega arith) in
    rw e (omega (arith, whole, some))
