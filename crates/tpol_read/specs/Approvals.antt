-- The authorizations of a document.
use Rattle.std.specs.Prelude.{ℕ, suc, ◌++◌, nat_lt, List, [], ◌∷◌, codes, Option, Some, None, Ok, if◌then◌else◌}
use Rattle.serde_json.specs.Data.{Data, Items, no_items, item}
use Rattle.serde_json.specs.Find.{get, as_array}
use Rattle.tpol_base.specs.declared.digest.Digest32.{Digest32}
use Rattle.tpol_json.specs.declared.place.Place.{Place}
use Rattle.tpol_json.specs.Places.{at_member, at_item}
use Rattle.tpol_read.specs.declared.approvals.ApprovalType.{ApprovalType}
use Rattle.tpol_read.specs.declared.approvals.ApprovalType.TheVariants.{Key, Index, Pem}
use Rattle.tpol_members.specs.declared.fault.PolicyKind.TheVariants as kinds
use Rattle.tpol_members.specs.Values.{digest_in}
use Rattle.tpol_base.specs.Answers.{◌>>=◌}
use Rattle.tpol_members.specs.Faults.{Found}
use Rattle.tpol_json.specs.Reading.{bad}
use Rattle.tpol_members.specs.Fields.{policy_ref_in}
use Rattle.tpol_members.specs.Members.{object_in, needed, noted}
use Rattle.tpol_elements.specs.Rows.{without_pem}
use Rattle.tpol_members.specs.Walks.{Reading}
use Rattle.tpol_elements.specs.Wishes.{key_in, index_in}
use Rattle.tpol_members.specs.Words.{only_word}
use Rattle.tpol_tree.specs.declared.wishes.ApprovalWish.{ApprovalWish}
use Rattle.tpol_tree.specs.declared.wishes.ApprovalWish.TheVariants.{ByKey, ByIndex}

-- the types of authorizations, in any case
abbrev pub approval_types : List (List ℕ × ApprovalType)
approval_types = (codes "tpm", Key) ∷ (codes "nv", Index) ∷ (codes "pem", Pem) ∷ []

-- a text that names a type of authorizations
abbrev pub type_of_approval : Data → Place → Found ApprovalType
type_of_approval = only_word [] approval_types kinds.UnknownType

unfoldable pub approval_type_in : Data → Place → Found ApprovalType
approval_type_in = needed type_of_approval (codes "type")

-- `signature`: 32 bytes
unfoldable pub signature_member : Data → Place → Found Digest32
signature_member = needed digest_in (codes "signature")

-- an authorization by a key's signature
unfoldable pub by_key : Data → Place → Reading ApprovalWish
by_key d place walk = do
  key ← key_in (codes "key") d place walk
  policy_ref ← policy_ref_in d place
  signature ← signature_member d place
  Ok (
    ByKey key.0 policy_ref signature,
    noted (codes "type" ∷ codes "keyPath" ∷ codes "keyPublic" ∷ codes "key" ∷ codes "policyRef" ∷ codes "signature" ∷ []) d place key.1,
  )

-- an authorization by an index
unfoldable pub by_index : Data → Place → Reading ApprovalWish
by_index d place walk = do
  index ← index_in d place walk
  Ok (ByIndex index.0, noted (codes "type" ∷ codes "nvPath" ∷ codes "nvPublic" ∷ []) d place index.1)

abbrev pub approval_of_type : ApprovalType → Data → Place → Reading ApprovalWish
approval_of_type Key d place walk = by_key d place walk
approval_of_type Index d place walk = by_index d place walk
approval_of_type Pem d place walk = bad kinds.AsymmetricKey (at_member place (codes "type"))

-- an authorization
unfoldable pub approval_in : Data → Place → Reading ApprovalWish
approval_in d place walk = do
  is_object ← object_in d place
  no_pem ← without_pem d place
  type ← approval_type_in d place
  approval_of_type type d place walk

-- an authorization past the eighth is refused before it is read
unfoldable pub counted_approval : ℕ → Data → Place → Reading ApprovalWish
counted_approval index d place walk = if nat_lt index 8 then approval_in d place walk else bad kinds.TooMany place

-- the authorizations of a list from this index on, behind those before
unfoldable pub approvals_from : List ApprovalWish → ℕ → Items → Place → Reading (List ApprovalWish)
approvals_from before index no_items place walk = Ok (before, walk)
approvals_from before index (item d ds) place walk = do
  found ← counted_approval index d (at_item place index) walk
  approvals_from (before ++ found.0 ∷ []) (suc index) ds place found.1

abbrev pub approvals_of : Option Items → Place → Reading (List ApprovalWish)
approvals_of None place walk = bad kinds.WrongKind place
approvals_of (Some ds) place walk = approvals_from [] 0 ds place walk

abbrev pub approvals_or_none : Option Data → Place → Reading (List ApprovalWish)
approvals_or_none None place walk = Ok ([], walk)
approvals_or_none (Some d) place walk = approvals_of (as_array d) place walk

-- `policyAuthorizations`, without it none
unfoldable pub approvals_member : Data → Place → Reading (List ApprovalWish)
approvals_member d place walk =
    approvals_or_none (get (codes "policyAuthorizations") d) (at_member place (codes "policyAuthorizations")) walk
