-- Hashes that no fact binds: the checks of a session do not tell one from another.
use Rattle.std.proofs.Common.{◌≡◌, ℕ, List, [], ◌∷◌, Bool, false, ◌&&◌, ◌||◌, refl, ap, ◌∙◌}
use Rattle.tpm_bindings.specs.declared.last_auth.LastAuth.{LastAuth}
use Rattle.tpm_bindings.specs.Facts.{cp_hashes_of, every_cp_hash, every_name_hash, last_auth, limits_of, moves_of, name_hashes_of, parent_hashes_of, sets_cp_hash, sets_name_hash}
use Rattle.tpm_bindings.specs.Held.{all_are, any_of}
use Rattle.tpm_bindings.specs.State.{SessionState}
use Rattle.tpm_rules.specs.declared.checks.Use.{Use}
use Rattle.tpm_rules.specs.Checks.{broken_command, broken_digest, broken_surroundings, first_broken_check, is_written_as_asked}
use Rattle.tpm_rules.specs.Rule.{or_else, unless}
use Rattle.tpol_base.specs.declared.check.Check.TheVariants.{AuthValue, Hashes, NvWritten}
use Rattle.tpol_base.specs.declared.digest.Digest32.{Digest32}
use Rattle.tpol_base.specs.Digest.{is_same_digest}
use Rattle.tpol_choose.specs.Hashes.{with_hashes}
use Rattle.tpol_tree.specs.declared.facts.Fact.{Fact}

all_of_none : {A : Type 0} (same : A → A → Bool) (a b : A) (xs ys : List A) → (any_of xs || any_of ys) ≡ false → (all_are same a xs && all_are same a ys) ≡ (all_are same b xs && all_are same b ys)
all_of_none same a b [] [] h = refl
all_of_none same a b [] (y ∷ ys) h = cc
all_of_none same a b (x ∷ xs) ys h = cc

pub unbound_cp_hash : (facts : List Fact) (a b : Digest32) → sets_cp_hash facts ≡ false → every_cp_hash facts a ≡ every_cp_hash facts b
unbound_cp_hash facts a b h = all_of_none is_same_digest a b (cp_hashes_of (moves_of facts)) (limits_of facts) h

pub unbound_name_hash : (facts : List Fact) (a b : Digest32) → sets_name_hash facts ≡ false → every_name_hash facts a ≡ every_name_hash facts b
unbound_name_hash facts a b h = all_of_none is_same_digest a b (name_hashes_of (moves_of facts)) (parent_hashes_of (moves_of facts)) h

-- the checks look at a use's hashes only through what the facts bind
pub same_check : (session : SessionState) (occasion : Use) (cp_hash name_hash : Digest32) (auth_policy : List ℕ) (right : LastAuth → Bool) → every_cp_hash session.facts cp_hash ≡ every_cp_hash session.facts occasion.cp_hash → every_name_hash session.facts name_hash ≡ every_name_hash session.facts occasion.name_hash → first_broken_check session (with_hashes occasion cp_hash name_hash) auth_policy right ≡ first_broken_check session occasion auth_policy right
same_check session occasion cp_hash name_hash auth_policy right cp name =
    ap (λ holds. or_else (or_else (broken_digest session occasion auth_policy) (or_else (broken_command session occasion) (or_else (broken_surroundings session occasion) (or_else (unless holds Hashes) (unless (is_written_as_asked session.facts occasion.written) NvWritten))))) (unless (right (last_auth session.facts)) AuthValue))
    (ap (λ one. one && every_name_hash session.facts name_hash) cp ∙ ap (λ other. every_cp_hash session.facts occasion.cp_hash && other) name)
