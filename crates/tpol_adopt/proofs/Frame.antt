-- What no row names stays.
use Rattle.std.proofs.Common.{◌≡◌, ℕ, ◌||◌, List, [], ◌∷◌, Bool, true, false, bytes_eq, refl, ap, ◌∙◌, if◌then◌else◌}
use Rattle.tpol_adopt.specs.Laws.{LeavesOthers, has_row}
use Rattle.tpol_adopt.specs.Rules.{Rows, member_rule, rows_of, rule_in}
use Rattle.tpol_adopt.specs.declared.rules.Rule.TheVariants.{Same}
use Rattle.tpol_adopt.proofs.Ruled.{other-same}

neither : (x y : Bool) → (x || y) ≡ false → (x ≡ false) × (y ≡ false)
neither true y is = cc
neither false y is = (refl, is)

no_row : (name : List ℕ) (rows : Rows) → has_row name rows ≡ false → rule_in rows name ≡ Same
no_row name [] is = refl
no_row name (row ∷ rows) is =
    let parts = neither (bytes_eq name row.0) (has_row name rows) is in
    ap (λ b. if b then row.1 else rule_in rows name) parts.0 ∙ no_row name rows parts.1

pub leaves_others : LeavesOthers
unfolding member_rule
leaves_others part d name none other = other-same part d name other (no_row name (rows_of part d) none)
