-- The entity that the code lends.
use Rattle.tpm_rules.specs.declared.entity.Entity.{Entity as LentEntity}
use Rattle.tpm_rules.specs.declared.entity.Entity.TheVariants.{Hierarchy as LentHierarchy, Pcr as LentPcr, Object as LentObject, Index as LentIndex}
use Rattle.tpm_rules.specs.Entity.{Entity, Hierarchy, Pcr, Object, Index}

abbrev pub entity_of : LentEntity → Entity
entity_of (LentHierarchy handle auth) = Hierarchy handle auth.now
entity_of LentPcr = Pcr
entity_of (LentObject object) = Object object.now
entity_of (LentIndex index) = Index index.now
