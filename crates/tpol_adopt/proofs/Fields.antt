-- Members that are read alike where they are alike.
use Rattle.std.proofs.Common.{◌≡◌, ℕ, List, Option, Some, None, option_map, codes, sym, ap, subst}
use Rattle.serde_json.specs.Data.{Data}
use Rattle.serde_json.specs.Find.{get}
use Rattle.tpol_json.specs.Members as json
use Rattle.tpol_json.specs.Places.{at_member}
use Rattle.tpol_json.specs.declared.place.Place.{Place}
use Rattle.tpol_members.specs.Faults.{Found}
use Rattle.tpol_members.specs.Fields.{policy_ref_in, cp_hash_in, expiration_in, operand_in, offset_in, operation_member_in}
use Rattle.tpol_members.specs.Members.{needed, read_needed}
use Rattle.tpol_adopt.proofs.Keeping.{Follows, follows_same}

module _ {A : Type 0} where
  pub needed-same : (read : Data → Place → Found A) (name : List ℕ) (d d' : Data) (place : Place) → get name d' ≡ get name d → Follows (needed read name d place) (needed read name d' place)
  needed-same read name d d' place is = follows_same _ _ (ap (λ o. read_needed read o (at_member place name)) is)

  pub optional-same : (read : Data → Place → Found A) (default : A) (name : List ℕ) (d d' : Data) (place : Place) → get name d' ≡ get name d → Follows (json.optional read default name d place) (json.optional read default name d' place)
  optional-same read default name d d' place is = follows_same _ _ (ap (λ o. json.read_optional read default o (at_member place name)) is)

  needed_at : (read : Data → Place → Found A) (f : Data → Data) (o : Option Data) (place : Place) → ((d : Data) (at : Place) → Follows (read d at) (read (f d) at)) → Follows (read_needed read o place) (read_needed read (option_map f o) place)
  needed_at read f None place all = tt {0}
  needed_at read f (Some d) place all = all d place

  -- a member that is spelled otherwise
  pub needed-mapped : (read : Data → Place → Found A) (f : Data → Data) (name : List ℕ) (d d' : Data) (place : Place) → get name d' ≡ option_map f (get name d) → ((e : Data) (at : Place) → Follows (read e at) (read (f e) at)) → Follows (needed read name d place) (needed read name d' place)
  needed-mapped read f name d d' place is all =
      subst (λ o. Follows (needed read name d place) (read_needed read o (at_member place name))) (sym is) (needed_at read f (get name d) (at_member place name) all)

module _ (d d' : Data) (place : Place) where
  pub policy_ref-same : get (codes "policyRef") d' ≡ get (codes "policyRef") d → Follows (policy_ref_in d place) (policy_ref_in d' place)
  unfolding policy_ref_in
  policy_ref-same is = optional-same _ _ (codes "policyRef") d d' place is

  pub cp_hash-same : get (codes "cpHashA") d' ≡ get (codes "cpHashA") d → Follows (cp_hash_in d place) (cp_hash_in d' place)
  unfolding cp_hash_in
  cp_hash-same is = optional-same _ _ (codes "cpHashA") d d' place is

  pub expiration-same : get (codes "expiration") d' ≡ get (codes "expiration") d → Follows (expiration_in d place) (expiration_in d' place)
  unfolding expiration_in
  expiration-same is = optional-same _ _ (codes "expiration") d d' place is

  pub operand-same : get (codes "operandB") d' ≡ get (codes "operandB") d → Follows (operand_in d place) (operand_in d' place)
  unfolding operand_in
  operand-same is = needed-same _ (codes "operandB") d d' place is

  pub offset-same : get (codes "offset") d' ≡ get (codes "offset") d → Follows (offset_in d place) (offset_in d' place)
  unfolding offset_in
  offset-same is = optional-same _ _ (codes "offset") d d' place is

  pub operation-same : get (codes "operation") d' ≡ get (codes "operation") d → Follows (operation_member_in d place) (operation_member_in d' place)
  unfolding operation_member_in
  operation-same is = optional-same _ _ (codes "operation") d d' place is
