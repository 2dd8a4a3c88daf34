-- The tokens of each row, in the order in which they are written, and that they read back.
use Rattle.std.proofs.Common.{◌≡◌, ℕ, ℤ, List, [], ◌∷◌, ◌++◌, map, Bool, Option, Some, None, codes, refl}
use Rattle.json.specs.Token.{Token, begin_object}
use Rattle.serde_json.specs.Data.{Data, boolean, string, no_members}
use Rattle.tpol_base.specs.declared.compare.Compare.{Compare}
use Rattle.tpol_base.specs.declared.digest.Digest32.{Digest32}
use Rattle.tpol_base.specs.declared.name.Name.{Name}
use Rattle.tpol_tree.specs.declared.wishes.KeyWish.{KeyWish}
use Rattle.tpol_tree.specs.declared.wishes.KeyWish.TheVariants as key
use Rattle.tpol_tree.specs.declared.wishes.IndexWish.{IndexWish}
use Rattle.tpol_tree.specs.declared.wishes.IndexWish.TheVariants as index
use Rattle.tpol_tree.specs.declared.wishes.EntityWish.{EntityWish}
use Rattle.tpol_tree.specs.declared.wishes.EntityWish.TheVariants as entity
use Rattle.tpol_tree.specs.declared.wishes.ParentWish.{ParentWish}
use Rattle.tpol_tree.specs.declared.wishes.ParentWish.TheVariants as parent
use Rattle.tpol_tree.specs.declared.wishes.NamesWish.{NamesWish}
use Rattle.tpol_tree.specs.declared.wishes.NamesWish.TheVariants as names
use Rattle.tpol_tree.specs.declared.wishes.PcrWish.{PcrWish}
use Rattle.tpol_tree.specs.declared.wishes.PcrWish.TheVariants.{Values, Current}
use Rattle.tpol_tree.specs.declared.policy.Element.TheVariants.{Pcr, Nv, Secret, Signed, Authorize, AuthorizeNv, NameHash, CounterTimer, Duplication}
use Rattle.tpol_write.specs.Drafts.{AllMembersRead, AllRead, Reads, comparison_tokens, member_tokens, members_tokens, tokens_of, type_and_end}
use Rattle.tpol_write.specs.Elements.{comparison_members, element_value, signing_members, typed}
use Rattle.tpol_write.specs.Objects.{Entry, hex_text, integer, natural, with_members}
use Rattle.tpol_write.specs.Wishes.{cp_hash_members, entity_member, index_member, key_member, name_value, names_member, parent_member, pcrs_member}
use Rattle.tpol_write.proofs.Reading.{again, list_reads, object_reads}

-- members that stand in the order in which they are read
abbrev pub InOrder : List Entry → Type 0
InOrder entries = again (with_members entries no_members) no_members ≡ with_members entries no_members

pub typed_reads : (type : List ℕ) (entries : List Entry) → AllMembersRead entries → InOrder ((codes "type", string type) ∷ entries) → Reads (typed type entries)
typed_reads type entries each same = object_reads ((codes "type", string type) ∷ entries) (refl, each) same

all_read : {A : Type 0} (value : A → Data) (xs : List A) → ((x : A) → Reads (value x)) → AllRead (map value xs)
all_read value [] each = tt
all_read value (x ∷ xs) each = (each x, all_read value xs each)

-- ---- POLICYPCR, POLICYNAMEHASH

pub pcr_tokens : (p : PcrWish) → begin_object ∷ (member_tokens (pcrs_member p) ++ type_and_end (codes "POLICYPCR")) ≡ tokens_of (element_value (Pcr p))
pcr_tokens (Values values) = refl
pcr_tokens (Current mask) = refl

pub pcr_reads : (p : PcrWish) → Reads (pcrs_member p).1 → Reads (element_value (Pcr p))
pcr_reads (Values values) reads = typed_reads (codes "POLICYPCR") (pcrs_member (Values values) ∷ []) (reads, tt) refl
pcr_reads (Current mask) reads = typed_reads (codes "POLICYPCR") (pcrs_member (Current mask) ∷ []) (reads, tt) refl

names_read : (n : NamesWish) → Reads (names_member n).1
names_read (names.Digest digest) = refl
names_read (names.Names list) = list_reads (map name_value list) (all_read name_value list (λ x. refl))
names_read (names.Paths paths) = list_reads (map string paths) (all_read string paths (λ x. refl))

pub name_hash_tokens : (n : NamesWish) → begin_object ∷ (member_tokens (names_member n) ++ type_and_end (codes "POLICYNAMEHASH")) ≡ tokens_of (element_value (NameHash n))
name_hash_tokens (names.Digest digest) = refl
name_hash_tokens (names.Names list) = refl
name_hash_tokens (names.Paths paths) = refl

pub name_hash_reads : (n : NamesWish) → Reads (element_value (NameHash n))
name_hash_reads (names.Digest digest) = refl
name_hash_reads (names.Names list) = typed_reads (codes "POLICYNAMEHASH") (names_member (names.Names list) ∷ []) (names_read (names.Names list), tt) refl
name_hash_reads (names.Paths paths) = typed_reads (codes "POLICYNAMEHASH") (names_member (names.Paths paths) ∷ []) (names_read (names.Paths paths), tt) refl

-- ---- POLICYNV, POLICYCOUNTERTIMER, POLICYAUTHORIZENV

comparison_reads : (operand : List ℕ) (offset : ℕ) (operation : Compare) → Reads (natural offset) → AllMembersRead (comparison_members operand offset operation)
comparison_reads operand offset operation reads = (refl, (reads, (refl, tt)))

pub nv_tokens : (i : IndexWish) (operand : List ℕ) (offset : ℕ) (operation : Compare)
    → begin_object ∷ (member_tokens (index_member i) ++ (comparison_tokens operand offset operation ++ type_and_end (codes "POLICYNV"))) ≡ tokens_of (element_value (Nv i operand offset operation))
nv_tokens (index.Path path) operand offset operation = refl
nv_tokens (index.Public area) operand offset operation = refl

pub nv_reads : (i : IndexWish) (operand : List ℕ) (offset : ℕ) (operation : Compare) → Reads (index_member i).1 → Reads (natural offset) → Reads (element_value (Nv i operand offset operation))
nv_reads (index.Path path) operand offset operation reads number =
    typed_reads (codes "POLICYNV") (index_member (index.Path path) ∷ comparison_members operand offset operation) (reads, comparison_reads operand offset operation number) refl
nv_reads (index.Public area) operand offset operation reads number =
    typed_reads (codes "POLICYNV") (index_member (index.Public area) ∷ comparison_members operand offset operation) (reads, comparison_reads operand offset operation number) refl

pub counter_timer_reads : (operand : List ℕ) (offset : ℕ) (operation : Compare) → Reads (natural offset) → Reads (element_value (CounterTimer operand offset operation))
counter_timer_reads operand offset operation number =
    typed_reads (codes "POLICYCOUNTERTIMER") (comparison_members operand offset operation) (comparison_reads operand offset operation number) refl

pub authorize_nv_tokens : (i : IndexWish) → begin_object ∷ (member_tokens (index_member i) ++ type_and_end (codes "POLICYAUTHORIZENV")) ≡ tokens_of (element_value (AuthorizeNv i))
authorize_nv_tokens (index.Path path) = refl
authorize_nv_tokens (index.Public area) = refl

pub authorize_nv_reads : (i : IndexWish) → Reads (index_member i).1 → Reads (element_value (AuthorizeNv i))
authorize_nv_reads (index.Path path) reads = refl
authorize_nv_reads (index.Public area) reads = typed_reads (codes "POLICYAUTHORIZENV") (index_member (index.Public area) ∷ []) (reads, tt) refl

-- ---- POLICYSECRET, POLICYSIGNED, POLICYAUTHORIZE

entity_reads : (e : EntityWish) → Reads (entity_member e).1
entity_reads (entity.Path path) = refl
entity_reads (entity.Named n) = refl

cp_hash_reads : (cp_hash : Option Digest32) → AllMembersRead (cp_hash_members cp_hash)
cp_hash_reads None = tt
cp_hash_reads (Some digest) = (refl, tt)

signing_reads : (policy_ref : List ℕ) (cp_hash : Option Digest32) (expiration : ℤ) → Reads (integer expiration) → AllMembersRead (signing_members policy_ref cp_hash expiration)
signing_reads policy_ref cp_hash expiration reads = (refl, (reads, cp_hash_reads cp_hash))

-- the members of these two in the order of their names, around the entity's or key's
abbrev pub around : Option Digest32 → ℤ → Entry → List ℕ → List Token → List Token
around cp_hash expiration entry policy_ref rest =
    begin_object ∷ (members_tokens (cp_hash_members cp_hash) ++ (member_tokens (codes "expiration", integer expiration)
    ++ (member_tokens entry ++ (member_tokens (codes "policyRef", hex_text policy_ref) ++ rest))))

pub secret_tokens : (e : EntityWish) (policy_ref : List ℕ) (cp_hash : Option Digest32) (expiration : ℤ)
    → around cp_hash expiration (entity_member e) policy_ref (type_and_end (codes "POLICYSECRET")) ≡ tokens_of (element_value (Secret e policy_ref cp_hash expiration))
secret_tokens (entity.Path path) policy_ref None expiration = refl
secret_tokens (entity.Path path) policy_ref (Some digest) expiration = refl
secret_tokens (entity.Named n) policy_ref None expiration = refl
secret_tokens (entity.Named n) policy_ref (Some digest) expiration = refl

pub secret_reads : (e : EntityWish) (policy_ref : List ℕ) (cp_hash : Option Digest32) (expiration : ℤ) → Reads (integer expiration) → Reads (element_value (Secret e policy_ref cp_hash expiration))
secret_reads e policy_ref cp_hash expiration reads =
    typed_reads (codes "POLICYSECRET") (entity_member e ∷ signing_members policy_ref cp_hash expiration) (entity_reads e, signing_reads policy_ref cp_hash expiration reads) (in_order e cp_hash)
  where
    in_order : (e : EntityWish) (cp_hash : Option Digest32) → InOrder ((codes "type", string (codes "POLICYSECRET")) ∷ entity_member e ∷ signing_members policy_ref cp_hash expiration)
    in_order (entity.Path path) None = refl
    in_order (entity.Path path) (Some digest) = refl
    in_order (entity.Named n) None = refl
    in_order (entity.Named n) (Some digest) = refl

pub signed_tokens : (k : KeyWish) (policy_ref : List ℕ) (cp_hash : Option Digest32) (expiration : ℤ)
    → around cp_hash expiration (key_member k) policy_ref (type_and_end (codes "POLICYSIGNED")) ≡ tokens_of (element_value (Signed k policy_ref cp_hash expiration))
signed_tokens (key.Path path) policy_ref None expiration = refl
signed_tokens (key.Path path) policy_ref (Some digest) expiration = refl
signed_tokens (key.Public area) policy_ref None expiration = refl
signed_tokens (key.Public area) policy_ref (Some digest) expiration = refl

pub signed_reads : (k : KeyWish) (policy_ref : List ℕ) (cp_hash : Option Digest32) (expiration : ℤ) → Reads (key_member k).1 → Reads (integer expiration) → Reads (element_value (Signed k policy_ref cp_hash expiration))
signed_reads k policy_ref cp_hash expiration key_reads reads =
    typed_reads (codes "POLICYSIGNED") (key_member k ∷ signing_members policy_ref cp_hash expiration) (key_reads, signing_reads policy_ref cp_hash expiration reads) (in_order k cp_hash)
  where
    in_order : (k : KeyWish) (cp_hash : Option Digest32) → InOrder ((codes "type", string (codes "POLICYSIGNED")) ∷ key_member k ∷ signing_members policy_ref cp_hash expiration)
    in_order (key.Path path) None = refl
    in_order (key.Path path) (Some digest) = refl
    in_order (key.Public area) None = refl
    in_order (key.Public area) (Some digest) = refl

pub authorize_tokens : (k : KeyWish) (policy_ref : List ℕ)
    → begin_object ∷ (member_tokens (key_member k) ++ (member_tokens (codes "policyRef", hex_text policy_ref) ++ type_and_end (codes "POLICYAUTHORIZE"))) ≡ tokens_of (element_value (Authorize k policy_ref))
authorize_tokens (key.Path path) policy_ref = refl
authorize_tokens (key.Public area) policy_ref = refl

pub authorize_reads : (k : KeyWish) (policy_ref : List ℕ) → Reads (key_member k).1 → Reads (element_value (Authorize k policy_ref))
authorize_reads (key.Path path) policy_ref reads = refl
authorize_reads (key.Public area) policy_ref reads =
    typed_reads (codes "POLICYAUTHORIZE") (key_member (key.Public area) ∷ (codes "policyRef", hex_text policy_ref) ∷ []) (reads, (refl, tt)) refl

-- ---- POLICYDUPLICATIONSELECT

pub duplication_tokens : (n : Name) (p : ParentWish) (include : Bool)
    → begin_object ∷ (member_tokens (codes "includeObject", boolean include) ++ (member_tokens (parent_member p) ++ (member_tokens (codes "objectName", name_value n) ++ type_and_end (codes "POLICYDUPLICATIONSELECT"))))
    ≡ tokens_of (element_value (Duplication n p include))
duplication_tokens n (parent.Path path) include = refl
duplication_tokens n (parent.Public area) include = refl
duplication_tokens n (parent.Named other) include = refl

pub duplication_reads : (n : Name) (p : ParentWish) (include : Bool) → Reads (parent_member p).1 → Reads (element_value (Duplication n p include))
duplication_reads n p include reads =
    typed_reads (codes "POLICYDUPLICATIONSELECT") (parent_member p ∷ (codes "includeObject", boolean include) ∷ (codes "objectName", name_value n) ∷ []) (reads, (refl, (refl, tt))) (in_order p)
  where
    in_order : (p : ParentWish) → InOrder ((codes "type", string (codes "POLICYDUPLICATIONSELECT")) ∷ parent_member p ∷ (codes "includeObject", boolean include) ∷ (codes "objectName", name_value n) ∷ [])
    in_order (parent.Path path) = refl
    in_order (parent.Public area) = refl
    in_order (parent.Named other) = refl
