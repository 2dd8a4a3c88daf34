-- Entities in the other order, whichever memory their policies lie in.
use Rattle.std.proofs.Common.{◌≡◌, ◌∙◌, ap, refl, sym, List, [], ◌∷◌, ◌++◌, map, reverse}
use Rattle.std.proofs.lemmas.List.{map-append, reverse-append}
use Rattle.tpol_prepare.specs.declared.entities.CompiledEntity.{CompiledEntity}
use Rattle.tpol_prepare.specs.Entities.{erased_entity}

pub reversed_erased : (entities : List CompiledEntity) → reverse (map erased_entity entities) ≡ map erased_entity (reverse entities)
reversed_erased [] = refl
reversed_erased (entity ∷ rest) =
    reverse-append (erased_entity entity ∷ []) (map erased_entity rest)
    ∙ (ap (λ (l : List CompiledEntity). l ++ erased_entity entity ∷ []) (reversed_erased rest)
    ∙ (sym (map-append erased_entity (reverse rest) (entity ∷ [])) ∙ sym (ap (map erased_entity) (reverse-append (entity ∷ []) rest))))
