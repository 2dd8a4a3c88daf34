-- Documents that are filled: their names, and one more of them.
use Rattle.std.proofs.Common.{◌≡◌, refl, ap, List, [], ◌∷◌, ◌++◌, map, false, Option, Ok}
use Rattle.std.proofs.lemmas.List.{map-append}
use Rattle.std.specs.Prelude.{ℕ, ◌||◌}
use Rattle.std.specs.Str.{bytes_eq}
use Rattle.tpol_name.specs.declared.sight.Sight.{Sight}
use Rattle.tpol_store.specs.Stores.{NamedPolicy}
use Rattle.tpol_prepare.specs.declared.references.Reference.{Reference}
use Rattle.tpol_prepare.specs.FilledDocuments.{document_step, is_filled, reference_step}
use Rattle.tpol_steps.specs.declared.filled.FilledDocument.{FilledDocument}
use Rattle.tpol_steps.specs.Filled.{erased_filled}

pub is_filled_erased : (name : List ℕ) (documents : List FilledDocument) → is_filled name (map erased_filled documents) ≡ is_filled name documents
is_filled_erased name [] = refl
is_filled_erased name (document ∷ rest) = ap (λ b. bytes_eq document.name name || b) (is_filled_erased name rest)

-- a document that was not there is filled
pub document_added : (store : List NamedPolicy) (sight : Option Sight) (documents seen after : List FilledDocument) (reference : Reference) (name : List ℕ) (document : FilledDocument) → seen ≡ documents → name ≡ reference.name → is_filled name seen ≡ false → reference_step store sight reference ≡ Ok (erased_filled document) → after ≡ documents ++ document ∷ [] → document_step store sight (map erased_filled documents) reference ≡ Ok (map erased_filled after)
unfolding document_step
document_added store sight documents seen after reference name document same_documents same_name absent gives adds =
    let is_absent : is_filled reference.name documents ≡ false = rw same_documents at (rw same_name at absent) in
    rw (is_filled_erased reference.name documents, is_absent, gives, adds, map-append erased_filled documents (document ∷ [])) refl
