-- A content that is cut short has no digest behind its first two bytes.
use Rattle.std.specs.Prelude.{◌≡◌, ◌<◌, ◌-◌, min, ℕ, Bool, true, false, List, length, take, drop, refl}
use Rattle.std.specs.Str.{bytes_eq}
use Rattle.std.proofs.Common.{ap, arith}
use Rattle.std.proofs.lemmas.List.{length-drop, length-take}
use Rattle.std.proofs.lemmas.Slice.Eq.{bytes_eq-Decides}
use Rattle.tpol_base.specs.declared.digest.Digest32.{Digest32}
use Rattle.tpm_rules.specs.PolicyAuthorizeNv.{has_digest_behind}

untrue : (b : Bool) → (b ≡ true → ⊥) → false ≡ b
untrue true never = search
untrue false never = refl

-- bytes of different lengths differ
shorter_differs : (xs ys : List ℕ) → length xs < length ys → false ≡ bytes_eq xs ys
shorter_differs xs ys shorter =
    untrue (bytes_eq xs ys) (λ e. let same : length xs ≡ length ys = ap length ((bytes_eq-Decides xs ys).0 e) in omega arith)

cut : (content : List ℕ) → length content < 34 → length (take 32 (drop 2 content)) < 32
cut content short =
    let taken : length (take 32 (drop 2 content)) ≡ min 32 (length (drop 2 content)) = length-take 32 (drop 2 content) in
    let dropped : length (drop 2 content) ≡ length content - 2 = length-drop 2 content in
    omega arith

pub cut_short : (content : List ℕ) (digest : Digest32) → length content < 34 → false ≡ has_digest_behind content digest
cut_short content digest short =
    shorter_differs (take 32 (drop 2 content)) digest.bytes
    (let whole : length digest.bytes ≡ 32 = digest.whole in let less : length (take 32 (drop 2 content)) < 32 = cut content short in omega arith)
