-- What a policy in FAPI's spelling reads as.
use Rattle.std.specs.Prelude.{◌≡◌, List, [], Ok}
use Rattle.serde_json.specs.Data.{Data}
use Rattle.tpol_adopt.specs.Normal.{normal}
use Rattle.tpol_export.specs.Named.{named}
use Rattle.tpol_export.specs.Spelling.{policy_spelling}
use Rattle.tpol_json.specs.declared.place.Place.{Place}
use Rattle.tpol_read.specs.Documents.{StandsForPolicy, policy_of}
use Rattle.tpol_tree.specs.Erased.{erased_policy}
use Rattle.tpol_tree.specs.declared.policy.Policy.{Policy}

-- A policy that any document stands for is what its spelling reads as by the rules for exports, without a note; a
-- hierarchy that a path names is named by its handle.
abbrev pub IsReadBack : Type 0
IsReadBack =
    (d : Data) (policy : Policy) (notes : List Place) → StandsForPolicy d (erased_policy policy) notes
    → policy_of (normal (policy_spelling policy)) ≡ Ok (named (erased_policy policy), [])
