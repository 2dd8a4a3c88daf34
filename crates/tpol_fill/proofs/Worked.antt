-- Worked values of the definitions: policies of one or two elements, without a sight.
use Rattle.std.proofs.Common.{◌≡◌, ℕ, List, [], ◌∷◌, ◌++◌, codes, refl, ap, arith}
use Rattle.std.proofs.lemmas.Fmt.{decimal_digit}
use Rattle.std.specs.Prelude.{None, Ok, pos, true, take, map, ◌^◌}
use Rattle.tpol_base.specs.declared.name.Name.TheVariants.{Handle}
use Rattle.tpol_digest.specs.Digest.{zero_digest}
use Rattle.tpol_fill.specs.declared.fault.FillKind.TheVariants.{NoSuchPath, NoSuchPcr, NotKeyedHash, VoidPrefix}
use Rattle.tpol_fill.specs.Entities.{entity_name}
use Rattle.tpol_tree.specs.Erased.{nowhere}
use Rattle.tpol_base.specs.Pcr.{mask_of_pcrs, pcrs_of_mask}
use Rattle.tpol_fill.specs.Filling.{fill_faults}
use Rattle.tpol_fill.specs.Groups.{NamedBranch, grouped, or_of}
use Rattle.tpol_json.specs.declared.place.Place.{Place}
use Rattle.tpol_json.specs.declared.place.PlaceStep.{PlaceStep}
use Rattle.tpol_json.specs.declared.place.PlaceStep.TheVariants.{Member, Item}
use Rattle.tpol_tree.specs.declared.closed.ClosedElements.TheVariants as closed
use Rattle.tpol_tree.specs.declared.policy.Branches.TheVariants.{More' as MoreBranches', End as EndBranches}
use Rattle.tpol_tree.specs.declared.policy.Element.{Element}
use Rattle.tpol_tree.specs.declared.policy.Element.TheVariants.{Or, Pcr, Signed, Authorize, AuthValue}
use Rattle.tpol_tree.specs.declared.policy.Elements.{Elements}
use Rattle.tpol_tree.specs.declared.policy.Elements.TheVariants.{More', End}
use Rattle.tpol_tree.specs.declared.policy.Policy.{Policy}
use Rattle.tpol_tree.specs.declared.wishes.EntityWish.TheVariants.{Path as EntityPath}
use Rattle.tpol_tree.specs.declared.wishes.KeyWish.TheVariants.{Path as KeyPath, Public as KeyPublic}
use Rattle.tpol_tree.specs.declared.wishes.PcrWish.TheVariants.{Values, Current}

-- a document of these elements, and a place in it
abbrev document : Elements → Policy
document elements = record { description = []; elements = elements; approvals = [] }

abbrev then : Element → Elements → Elements
then element rest = More' nowhere element nowhere rest

abbrev in_policy : ℕ → List PlaceStep → Place
in_policy n steps = record { steps = Member (codes "policy") ∷ Item n ∷ steps }

abbrev approved : Element
approved = Authorize (KeyPath (codes "/k")) []

approval_behind_an_element : fill_faults (document (then AuthValue (then approved End))) None
    ≡ (VoidPrefix, in_policy 1 []) ∷ (NoSuchPath, in_policy 1 (Member (codes "keyPath") ∷ [])) ∷ []
approval_behind_an_element = refl

approval_alone : fill_faults (document (then approved End)) None
    ≡ (NoSuchPath, in_policy 0 (Member (codes "keyPath") ∷ [])) ∷ []
approval_alone = refl

-- the second of two elements is an OR whose branch begins with an approval
approval_in_a_branch : fill_faults (document (then AuthValue (then (Or (MoreBranches' nowhere [] [] (then approved End) nowhere EndBranches)) End))) None
    ≡ (VoidPrefix, in_policy 1 (Member (codes "branches") ∷ Item 0 ∷ Member (codes "policy") ∷ Item 0 ∷ []))
    ∷ (NoSuchPath, in_policy 1 (Member (codes "branches") ∷ Item 0 ∷ Member (codes "policy") ∷ Item 0 ∷ Member (codes "keyPath") ∷ []))
    ∷ []
approval_in_a_branch = refl

pcr_past_the_last : fill_faults (document (then (Pcr (Values ((24, zero_digest) ∷ []))) End)) None
    ≡ (NoSuchPcr, in_policy 0 (Member (codes "pcrs") ∷ Item 0 ∷ Member (codes "pcr") ∷ [])) ∷ []
pcr_past_the_last = refl

current_without_a_sight : fill_faults (document (then (Pcr (Current (2 ^ 23))) End)) None
    ≡ (NoSuchPcr, in_policy 0 (Member (codes "currentPCRs") ∷ Item 0 ∷ [])) ∷ []
unfolding pcrs_of_mask
current_without_a_sight = refl

-- an HMAC key without the attribute sign
key_that_may_not_sign : fill_faults (document (then (Signed (KeyPublic (record { attributes = 0x40; auth_policy = []; hmac = true; unique = [] })) [] None (pos 0)) End)) None
    ≡ (NotKeyedHash, in_policy 0 (Member (codes "keyPublic") ∷ [])) ∷ []
key_that_may_not_sign = refl

endorsement_hierarchy : entity_name (EntityPath (codes "/HE")) None ≡ Ok (Handle 0x4000000b)
endorsement_hierarchy = refl

lockout_of_a_profile : entity_name (EntityPath (codes "/P_RSA2048SHA256/LOCKOUT")) None ≡ Ok (Handle 0x4000000a)
lockout_of_a_profile = refl

pcrs_in_rising_order : pcrs_of_mask 0x800005 ≡ 0 ∷ 2 ∷ 23 ∷ []
unfolding pcrs_of_mask
pcrs_in_rising_order = refl

set_of_pcrs : mask_of_pcrs (0 ∷ 2 ∷ 23 ∷ []) ≡ 0x800005
set_of_pcrs = refl

-- nine branches without elements: a group of eight, and the ninth as it is
abbrev empty_branch : ℕ → NamedBranch
empty_branch digit = (98 ∷ digit ∷ [], closed.End)

abbrev nine : List NamedBranch
nine = map empty_branch (49 ∷ 50 ∷ 51 ∷ 52 ∷ 53 ∷ 54 ∷ 55 ∷ 56 ∷ 57 ∷ [])

nine_branches : grouped nine ≡ (codes "#1", or_of (take 8 nine)) ∷ (codes "b9", closed.End) ∷ []
nine_branches = ap (λ digits. (codes "#" ++ digits, or_of (take 8 nine)) ∷ (codes "b9", closed.End) ∷ []) (decimal_digit 1 (omega arith))

eight_branches : grouped (take 8 nine) ≡ take 8 nine
eight_branches = refl
