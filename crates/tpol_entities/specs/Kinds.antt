-- The kinds of entities.
use Rattle.std.specs.Prelude.{ℕ, List, codes, Ok, if◌then◌else◌}
use Rattle.std.specs.Str.{bytes_eq}
use Rattle.serde_json.specs.Data.{Data}
use Rattle.tpol_base.specs.Answers.{◌>>=◌}
use Rattle.tpol_json.specs.declared.place.Place.{Place}
use Rattle.tpol_entities.specs.declared.kinds.EntityKind.{EntityKind}
use Rattle.tpol_entities.specs.declared.kinds.EntityKind.TheVariants.{Seal, Key, Nv}
use Rattle.tpol_entities.specs.declared.fault.SceneKind.TheVariants.{UnknownKind}
use Rattle.tpol_entities.specs.Faults.{Found}
use Rattle.tpol_json.specs.Reading.{bad}
use Rattle.tpol_entities.specs.Values.{text_in}

-- one of the words `seal`, `key` and `nv`, exactly
abbrev pub kind_of_word : List ℕ → Place → Found EntityKind
kind_of_word word place =
    if bytes_eq word (codes "seal") then Ok Seal else
    (if bytes_eq word (codes "key") then Ok Key else (if bytes_eq word (codes "nv") then Ok Nv else bad UnknownKind place))

abbrev pub kind_in : Data → Place → Found EntityKind
kind_in d place = text_in d place >>= λ word. kind_of_word word place

-- the handles of transient objects and of NV indices (TPM 2.0 Part 2, TPM_HT)
abbrev pub least_handle : EntityKind → ℕ
least_handle Seal = 0x80000000
least_handle Key = 0x80000000
least_handle Nv = 0x01000000

abbrev pub greatest_handle : EntityKind → ℕ
greatest_handle Seal = 0x80ffffff
greatest_handle Key = 0x80ffffff
greatest_handle Nv = 0x01ffffff
