-- The machine of `gen` is one that can start.
use Rattle.std.proofs.Common.{◌≡◌, ◌≢◌, ◌+◌, ◌-◌, ◌/◌, ◌%◌, ◌==◌, zero, suc, refl, inl, inr, ℕ, [], ◌∷◌, ◌++◌, length, arith}
use Rattle.std.proofs.lemmas.List.Elements.{All-cons, All-nil}
use Rattle.std.proofs.lemmas.Map.Keys.{IsDistinct-cons}
use Rattle.std.specs.Prelude.{codes, nat_eq}
use Rattle.std.specs.List.{IsDistinct}
use Rattle.tpol_base.specs.declared.digest.Digest32.{Digest32}
use Rattle.tpol_name.specs.Paths.{is_same_path}
use Rattle.tpol_name.specs.Setups.{IsAuthValue, IsIndex, IsObject, IsSetup, hierarchy_paths}
use Rattle.tpol_generate.specs.Generate.{before, generated_object, generated_or, generated_ors, generated_setup, zero_pcrs}

empty_value : IsAuthValue []
empty_value = record { size = omega arith; trimmed = refl }

is_object : (digest : Digest32) → IsObject (generated_object digest)
is_object digest = record {
  least_handle = omega arith;
  greatest_handle = omega arith;
  auth_policy = inr digest.whole;
  unique = inl refl;
  auth = record { size = omega arith; trimmed = refl };
  secret = omega arith;
}

none_nat : IsDistinct nat_eq []
unfolding IsDistinct
none_nat = tt

one_handle : (handle : ℕ) → IsDistinct nat_eq (handle ∷ [])
one_handle handle = IsDistinct-cons nat_eq handle [] tt none_nat

four_paths : IsDistinct is_same_path (hierarchy_paths ++ codes "gen" ∷ [])
unfolding IsDistinct
four_paths = ((refl, (refl, (refl, tt))), ((refl, (refl, tt)), ((refl, tt), (tt, tt))))

all_pcrs : length zero_pcrs ≡ 24
unfolding zero_pcrs
all_pcrs = refl

pub generated_is_setup : (order : ℕ) (digest : Digest32) → IsSetup (generated_setup order digest)
unfolding generated_setup
generated_is_setup order digest = record {
  owner = empty_value;
  endorsement = empty_value;
  lockout = empty_value;
  pcrs = all_pcrs;
  time = omega arith;
  entities = record {
    each_object = All-cons IsObject (generated_object digest) [] (is_object digest) (All-nil IsObject);
    each_index = All-nil IsIndex;
    object_handles = one_handle (generated_object digest).handle;
    index_handles = none_nat;
    paths = four_paths;
  };
}

-- one OR more
pub ors_step : (more pcr bits : ℕ) → more ≢ 0 → generated_ors more pcr bits ≡ before (generated_or (bits % 2 == 1) pcr) (generated_ors (more - 1) (pcr + 1) (bits / 2))
unfolding generated_ors
ors_step zero pcr bits h = absurd (h refl)
ors_step (suc n) pcr bits h = let e : suc n - 1 ≡ n = omega arith in rw e refl
