-- Comparisons and commands, by their names or their numbers.
use Rattle.std.specs.Prelude.{ℕ, codes}
use Rattle.serde_json.specs.Data.{Data}
use Rattle.tpol_base.specs.Answers.{◌>>=◌}
use Rattle.tpol_base.specs.CommandCode.{command_codes}
use Rattle.tpol_base.specs.Compare.{compare_of_number, names_of_comparisons}
use Rattle.tpol_base.specs.declared.compare.Compare.{Compare}
use Rattle.tpol_json.specs.Words.{word_in}
use Rattle.tpol_json.specs.declared.place.Place.{Place}
use Rattle.tpol_members.specs.declared.fault.PolicyKind.TheVariants.{BadNumber}
use Rattle.tpol_members.specs.Faults.{Found}
use Rattle.tpol_json.specs.Reading.{bad}
use Rattle.tpol_members.specs.Values.{unsigned_in, u32_in}
use Rattle.tpol_members.specs.Words.{found_or}

-- a comparison by its number, TPM 2.0 Part 2, TPM_EO
abbrev pub operation_number_in : Data → Place → Found Compare
operation_number_in d place =
    unsigned_in 0 65535 d place >>= λ n. found_or (compare_of_number n) (bad BadNumber place)

-- a comparison by its name or its number
abbrev pub operation_in : Data → Place → Found Compare
operation_in d place = found_or (word_in (codes "TPM2_EO_") names_of_comparisons d) (operation_number_in d place)

-- a command by its name or its code
abbrev pub code_in : Data → Place → Found ℕ
code_in d place = found_or (word_in (codes "TPM2_CC_") command_codes d) (u32_in d place)
