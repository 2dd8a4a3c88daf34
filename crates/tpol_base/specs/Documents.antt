-- Documents of a shelf, by name.
use Rattle.std.specs.Prelude.{ℕ, Bool, List, [], ◌∷◌, ◌++◌, Option, take, map, find, position, slice_set, unwrap_or}
use Rattle.std.specs.Option.{option_map}
use Rattle.std.specs.Str.{bytes_eq}
use Rattle.tpol_base.specs.declared.document.Document.{Document}

-- whether a document has this name
abbrev pub is_named : List ℕ → Document → Bool
is_named name document = bytes_eq document.name name

-- the bytes of the document of this name
abbrev pub document_of : List ℕ → List Document → Option (List ℕ)
document_of name all = option_map (λ document. document.bytes) (find (is_named name) all)

-- the number of bytes that a shelf hands out of a document at most: one more than a document may have
unfoldable pub most_handed_out : ℕ
most_handed_out = 1048577

-- what a shelf hands out of a document: all of it, or its first 1,048,577 bytes
abbrev pub handed_out : Option (List ℕ) → Option (List ℕ)
handed_out found = option_map (take most_handed_out) found

-- the documents with this one in the place of the one of its name, or behind all where there is none
abbrev pub put_document : List ℕ → List ℕ → List Document → List Document
put_document name bytes all =
    let document : Document = record { name = name; bytes = bytes } in
    unwrap_or (option_map (λ place. slice_set all place document) (position (is_named name) all)) (all ++ document ∷ [])

-- the names of all documents
abbrev pub names_of : List Document → List (List ℕ)
names_of all = map (λ document. document.name) all
