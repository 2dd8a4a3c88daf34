-- What holds of all that a reading may find.
use Rattle.std.proofs.Common.{◌≡◌, Option, Some, None, Ok, Err, Bool, true, false, refl, if◌then◌else◌}
use Rattle.serde_json.specs.Data.{Data}
use Rattle.tpol_base.specs.Answers.{◌>>=◌}
use Rattle.tpol_json.specs.Members.{read_needed, read_optional}
use Rattle.tpol_json.specs.Reading.{ReadAs, read_as}
use Rattle.tpol_json.specs.declared.place.Place.{Place}

-- what is found, if anything, is so
abbrev pub AllFound : {K A : Type 0} → (A → Type 0) → ReadAs K A → Type 0
AllFound P (Ok x) = P x
AllFound P (Err fault) = Unit {0}

module _ {K A B : Type 0} where
  pub all_after : (P : B → Type 0) (found : ReadAs K A) (next : A → ReadAs K B) → ((x : A) → AllFound P (next x)) → AllFound P (found >>= next)
  all_after P (Ok x) next all = all x
  all_after P (Err fault) next all = tt {0}

  -- the same where it rests on what was found before
  pub all_then : (P : A → Type 0) (Q : B → Type 0) (found : ReadAs K A) (next : A → ReadAs K B) → AllFound P found → ((x : A) → P x → AllFound Q (next x)) → AllFound Q (found >>= next)
  all_then P Q (Ok x) next all next_so = next_so x all
  all_then P Q (Err fault) next all next_so = tt {0}

module _ {K A : Type 0} where
  pub all_map : (P Q : A → Type 0) (found : ReadAs K A) → AllFound P found → ((x : A) → P x → Q x) → AllFound Q found
  all_map P Q (Ok x) all next_so = next_so x all
  all_map P Q (Err fault) all next_so = tt {0}

  pub all_if : (P : A → Type 0) (test : Bool) (one other : ReadAs K A) → (test ≡ true → AllFound P one) → AllFound P other → AllFound P (if test then one else other)
  all_if P true one other all others = all refl
  all_if P false one other all others = others

  -- a member that has to be there, and one that may be left out
  pub needed-fits : (P : A → Type 0) (missing : K) (read : Data → Place → ReadAs K A) (there : Option Data) (place : Place) → ((d : Data) (at : Place) → AllFound P (read d at)) → AllFound P (read_needed missing read there place)
  needed-fits P missing read None place all = tt {0}
  needed-fits P missing read (Some d) place all = all d place

  pub optional-fits : (P : A → Type 0) (read : Data → Place → ReadAs K A) (default : A) (there : Option Data) (place : Place) → P default → ((d : Data) (at : Place) → AllFound P (read d at)) → AllFound P (read_optional read default there place)
  optional-fits P read default None place so all = so
  optional-fits P read default (Some d) place so all = all d place

-- the same with faults of another kind
pub all_read : {K L A : Type 0} (P : A → Type 0) (kind_of : K → L) (found : ReadAs K A) → AllFound P found → AllFound P (read_as kind_of found)
all_read P kind_of (Ok x) all = all
all_read P kind_of (Err fault) all = tt {0}
