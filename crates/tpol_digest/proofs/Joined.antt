-- The bytes of digests, joined, as a loop over the digests puts them.
use Rattle.std.proofs.Common.{◌≡◌, ℕ, ◌+◌, ◌<◌, List, [], ◌∷◌, ◌++◌, length, get_or, take, sym, ap, ◌∙◌, append_assoc}
use Rattle.std.proofs.lemmas.List.{append-nil, take_more}
use Rattle.std.proofs.lemmas.List.Concat.{flat_map-append}
use Rattle.tpol_base.specs.declared.digest.Digest32.{Digest32}
use Rattle.tpol_digest.specs.Update.{joined}

pub joined_more : (base : List ℕ) (digests : List Digest32) (i : ℕ) (d : Digest32) → i < length digests → d ≡ get_or digests i d → (base ++ joined (take i digests)) ++ d.bytes ≡ base ++ joined (take (i + 1) digests)
joined_more base digests i d within is =
    append_assoc base (joined (take i digests)) d.bytes
    ∙ ap (λ l. base ++ l)
    (ap (λ e. joined (take i digests) ++ e.bytes) is
    ∙ ap (λ l. joined (take i digests) ++ l) (sym (append-nil (get_or digests i d).bytes))
    ∙ sym (flat_map-append (λ e. e.bytes) (take i digests) (get_or digests i d ∷ []))
    ∙ ap joined (sym (take_more digests i d within)))
