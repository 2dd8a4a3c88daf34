-- How canonical text writes the authorizations of a policy.
use Rattle.std.specs.Prelude.{List, [], ◌∷◌, codes, map}
use Rattle.serde_json.specs.Data.{Data}
use Rattle.tpol_tree.specs.declared.wishes.ApprovalWish.{ApprovalWish}
use Rattle.tpol_tree.specs.declared.wishes.ApprovalWish.TheVariants.{ByKey, ByIndex}
use Rattle.tpol_write.specs.Elements.{typed}
use Rattle.tpol_write.specs.Objects.{Entry, hex_text, list_of}
use Rattle.tpol_write.specs.Wishes.{key_member, index_member}

abbrev pub approval_value : ApprovalWish → Data
approval_value (ByKey key policy_ref signature) = typed (codes "tpm") (
    key_member key ∷ (codes "policyRef", hex_text policy_ref) ∷ (codes "signature", hex_text signature.bytes) ∷ [])
approval_value (ByIndex index) = typed (codes "nv") (index_member index ∷ [])

-- they are written where there are any
abbrev pub approvals_members : List ApprovalWish → List Entry
approvals_members [] = []
approvals_members (approval ∷ approvals) =
    (codes "policyAuthorizations", list_of (map approval_value (approval ∷ approvals))) ∷ []
