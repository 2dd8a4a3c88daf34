-- The lines of `digests`.
use Rattle.std.specs.Prelude.{ℕ, List, [], ◌∷◌, ◌++◌, codes, if◌then◌else◌}
use Rattle.std.specs.List.{flat_map}
use Rattle.std.specs.Str.{bytes_eq}
use Rattle.hex.specs.Hex.{encode_lower}
use Rattle.serde_json.specs.Data.{Data}
use Rattle.tpol_base.specs.declared.digest.Digest32.{Digest32}
use Rattle.tpol_marks.specs.declared.marks.Mark.{Mark}
use Rattle.tpol_marks.specs.Owns.{own_digests}
use Rattle.tpol_json.specs.declared.place.Place.{Place}
use Rattle.tpol_json.specs.PlaceText.{text_of_place}
use Rattle.tpol_lines.specs.Lines.{line_of}

-- the line of an authorization that is left out
abbrev pub dropped_line : Place → List ℕ
dropped_line place = codes "dropped " ++ text_of_place place

-- a word, a place and a digest
abbrev pub digest_line_at : List ℕ → Place → Digest32 → List ℕ
digest_line_at word place digest = word ++ text_of_place place ++ codes " " ++ encode_lower digest.bytes

-- the digest after the element at a place
abbrev pub after_line : Mark → List ℕ
after_line mark = digest_line_at (codes "after ") mark.place mark.digest

-- a digest that the export tells of it, where it is another one
abbrev pub other_lines : Mark → Digest32 → List (List ℕ)
other_lines mark own =
    if bytes_eq own.bytes mark.digest.bytes then [] else line_of (digest_line_at (codes "other ") mark.place own) ∷ []

-- the lines of an element of this export
abbrev pub mark_lines : Data → Mark → List (List ℕ)
mark_lines d mark = line_of (after_line mark) ∷ flat_map (other_lines mark) (own_digests mark.place d)
