-- What is written in turn.
use Rattle.std.proofs.Common.{◌≡◌, List, [], ◌++◌, Result, Ok, Err, OnOk, ap, ◌∙◌, append_assoc, append-nil, sym}
use Rattle.json.specs.Token.{Token}
use Rattle.tpol_write.specs.Drafts.{Adds}

-- behind a first piece, the rest
pub step : {old middle new first rest : List Token} → Adds old middle first → Adds middle new rest → Adds old new (first ++ rest)
step {old} {middle} {new} {first} {rest} here there = record { is = there.is ∙ ap (λ ts. ts ++ rest) here.is ∙ append_assoc old first rest }

-- the same pieces, spelled otherwise
pub spelled : {old new pieces whole : List Token} → pieces ≡ whole → Adds old new pieces → Adds old new whole
spelled {old} same adds = record { is = adds.is ∙ ap (λ ts. old ++ ts) same }

-- nothing
pub nothing : (old : List Token) → Adds old old []
nothing old = record { is = sym (append-nil old) }

pub on_ok : {A E : Type 0} {P Q : Type 0} → (r : Result A E) → (P → Q) → OnOk r P → OnOk r Q
on_ok (Ok x) f holds = f holds
on_ok (Err e) f holds = tt
