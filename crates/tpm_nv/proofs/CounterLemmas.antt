-- The greatest count of all written counters, one index further.
use Rattle.std.proofs.Common.{◌≡◌, ℕ, List, [], ◌∷◌, ◌++◌, Some, None, sym, ap, ◌∙◌, arith}
use Rattle.std.specs.Prelude.{fold, max}
use Rattle.std.specs.Ordering.{nat_cmp, ord_max}
use Rattle.std.specs.List.{cons_option, filter_map}
use Rattle.std.proofs.lemmas.List.{append-nil}
use Rattle.std.proofs.lemmas.List.Elements.{filter_map-append}
use Rattle.std.proofs.lemmas.List.Sums.{fold_push}
use Rattle.tpol_name.specs.declared.entries.IndexEntry.{IndexEntry}
use Rattle.tpm_nv.specs.Counters.{greatest_count, written_count}

-- the greater of two numbers, as the code takes it
pub ord_max-nat : (a b : ℕ) → ord_max nat_cmp a b ≡ max a b
ord_max-nat a b = grind arith

more_counts : (indices : List IndexEntry) (entry : IndexEntry) → filter_map written_count (indices ++ entry ∷ []) ≡ filter_map written_count indices ++ cons_option (written_count entry) []
more_counts indices entry = filter_map-append written_count indices (entry ∷ [])

pub greatest_count-counter : (indices : List IndexEntry) (entry : IndexEntry) (count : ℕ) → Some count ≡ written_count entry
    → max (greatest_count indices) count ≡ greatest_count (indices ++ entry ∷ [])
greatest_count-counter indices entry count is =
    sym (fold_push max 0 (filter_map written_count indices) count)
    ∙ ap (λ found. fold max 0 (filter_map written_count indices ++ cons_option found [])) is
    ∙ ap (λ counts. fold max 0 counts) (sym (more_counts indices entry))

pub greatest_count-other : (indices : List IndexEntry) (entry : IndexEntry) → None ≡ written_count entry
    → greatest_count indices ≡ greatest_count (indices ++ entry ∷ [])
greatest_count-other indices entry is =
    ap (λ counts. fold max 0 counts) (sym (append-nil (filter_map written_count indices)))
    ∙ ap (λ found. fold max 0 (filter_map written_count indices ++ cons_option found [])) is
    ∙ ap (λ counts. fold max 0 counts) (sym (more_counts indices entry))
