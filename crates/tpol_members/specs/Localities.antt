-- Localities as sets, bit n for locality n.
use Rattle.std.specs.Prelude.{ℕ, suc, bit_or, codes, Option, Some, None, Ok}
use Rattle.serde_json.specs.Data.{Data, Items, no_items, item}
use Rattle.serde_json.specs.Find.{as_array}
use Rattle.tpol_base.specs.Answers.{◌>>=◌}
use Rattle.tpol_json.specs.Places.{at_item}
use Rattle.tpol_json.specs.declared.place.Place.{Place}
use Rattle.tpol_members.specs.declared.fault.PolicyKind.TheVariants.{BadNumber}
use Rattle.tpol_members.specs.Faults.{Found}
use Rattle.tpol_json.specs.Reading.{bad}
use Rattle.tpol_members.specs.Values.{unsigned_in}
use Rattle.tpol_members.specs.Words.{only_word, localities}

-- an item of a list of localities, as its bit
abbrev pub locality_word_in : Data → Place → Found ℕ
locality_word_in = only_word (codes "TPM2_LOC_") localities BadNumber

-- the set with the localities of a list from this index on
abbrev pub localities_from : ℕ → ℕ → Items → Place → Found ℕ
localities_from set index no_items place = Ok set
localities_from set index (item d ds) place = locality_word_in d (at_item place index) >>= λ bit. localities_from (bit_or set bit) (suc index) ds place

abbrev pub locality_list : Items → Place → Found ℕ
locality_list no_items place = bad BadNumber place
locality_list (item d ds) place = localities_from 0 0 (item d ds) place

abbrev pub localities_or : Option Items → Found ℕ → Place → Found ℕ
localities_or None number place = number
localities_or (Some ds) number place = locality_list ds place

-- a set of localities: a number from 1 to 31, or a list of at least one name
abbrev pub locality_in : Data → Place → Found ℕ
locality_in d place = localities_or (as_array d) (unsigned_in 1 31 d place) place
