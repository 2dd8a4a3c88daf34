-- What is found in a sight.
use Rattle.std.proofs.Common.{◌≡◌, ℕ, Bool, true, false, List, [], ◌∷◌, Option, Some, None, inl, inr, sym, subst, arith}
use Rattle.std.specs.Prelude.{IfSome, find, option_map, if◌then◌else◌}
use Rattle.std.specs.List.{AllByRecursion}
use Rattle.std.proofs.lemmas.List.Elements.{recursion_from_All}
use Rattle.tpm_nv.specs.Contents.{HasContent}
use Rattle.tpol_base.specs.Attributes.{index_type}
use Rattle.tpol_name.specs.declared.entries.IndexEntry.{IndexEntry}
use Rattle.tpol_name.specs.declared.sight.Sight.{Sight}
use Rattle.tpol_name.specs.Setups.{IsIndex, IsSight, IsTypeOfSize}

found_each : {A : Type 0} (P : A → Type 0) (test : A → Bool) (xs : List A) → AllByRecursion P xs → IfSome (find test xs) P
found_each P test [] h = tt
found_each P test (x ∷ xs) h = first_or (test x) (found_each P test xs h.1)
  where
    first_or : (b : Bool) → IfSome (find test xs) P → IfSome (if b then Some x else find test xs) P
    first_or true later = h.0
    first_or false later = later

counted : (kind size : ℕ) → IsTypeOfSize kind size → kind ≡ 1 → size ≡ 8
counted kind size (inl h) e = absurd (omega arith)
counted kind size (inr (inl h)) e = h.1
counted kind size (inr (inr (inl h))) e = h.1
counted kind size (inr (inr (inr h))) e = absurd (omega (arith, h.0))

has_content : (entry : IndexEntry) → IsIndex entry → HasContent entry
has_content entry h = record {
  size = h.content;
  counter = λ e. counted (index_type entry.public.attributes) entry.public.size h.type_of_size e;
}

-- an index that is found, and lent
pub found_content : {B : Type 0} (now : B → IndexEntry) (sight : Sight) (test : IndexEntry → Bool) (found : Option B) → IsSight sight → option_map now found ≡ find test sight.indices → IfSome found (λ lent. HasContent (now lent))
found_content now sight test None h e = tt
found_content now sight test (Some lent) h e =
    has_content (now lent) (subst (λ (o : Option IndexEntry). IfSome o IsIndex) (sym e) (found_each IsIndex test sight.indices (recursion_from_All IsIndex sight.indices h.entities.each_index)))
