-- A filled policy without faults is well formed.
use Rattle.std.proofs.Common.{◌≡◌, ◌+◌, ◌≤◌, ◌∙◌, ℕ, add-one, length, Bool, true, false, List, [], ◌∷◌, ◌++◌, IsTrue, codes, refl, rules, sym, ap, subst}
use Rattle.std.specs.Prelude.{Option}
use Rattle.tpol_digest.specs.WellFormed.{HasPcrDigest, IsWellFormedPolicy}
use Rattle.tpol_tree.specs.Elements.{HasBranchCount, EachElement, EachElementWithin, EachElementOfBranches}
use Rattle.tpol_tree.specs.Elements as written
use Rattle.tpol_tree.specs.ClosedErased.{erased_elements}
use Rattle.tpol_fill.specs.Forms.{IsFilledPolicy}
use Rattle.tpol_fill.specs.Filling.{branches_faults, element_faults, elements_faults, filled_branches, filled_element, filled_elements, void_prefix}
use Rattle.tpol_fill.specs.Groups.{NamedBranch, branches_of, grouped}
use Rattle.tpol_fill.specs.Outcome.{Fault}
use Rattle.tpol_json.specs.declared.place.Place.{Place}
use Rattle.tpol_json.specs.Places.{at_item, at_member}
use Rattle.tpol_name.specs.declared.sight.Sight.{Sight}
use Rattle.tpol_tree.specs.declared.closed.Closed.{Closed}
use Rattle.tpol_tree.specs.declared.closed.ClosedElement.TheVariants.{Or as Or'}
use Rattle.tpol_tree.specs.declared.policy.Branches.{Branches}
use Rattle.tpol_tree.specs.declared.policy.Branches.TheVariants.{More' as MoreBranches', End as EndBranches}
use Rattle.tpol_tree.specs.declared.policy.Element.{Element}
use Rattle.tpol_tree.specs.declared.policy.Element.TheVariants.{Or, Pcr, Nv, Secret, Signed, Authorize, AuthorizeNv, Locality, CommandCode, CpHash, NameHash, CounterTimer, Duplication, NvWritten, AuthValue, Password, PhysicalPresence}
use Rattle.tpol_tree.specs.declared.policy.Elements.{Elements}
use Rattle.tpol_tree.specs.declared.policy.Elements.TheVariants.{More', End}
use Rattle.tpol_tree.specs.declared.wishes.PcrWish.TheVariants.{Values, Current}
use Rattle.tpol_tree.specs.Closed.{ApprovalsLead, ApprovalsLeadBranches, ApprovalsLeadElement, BranchesHaveBranchCounts, EachAssertion, EachAssertionOfBranches, EachAssertionOfElement, ElementHasBranchCounts, HasBranchCounts, IsBranchCount}
use Rattle.tpol_digest.proofs.Erasures.{counts-erased, each-erased, lead-erased}
use Rattle.tpol_fill.proofs.GroupLemmas.{AllBranches, branch_count_of, each_grouped, length_grouped}

-- both parts of an empty list are empty
pub no_first : (a b : List Fault) → a ++ b ≡ [] → a ≡ []
no_first [] b h = refl
no_first (x ∷ a) b h = cc

pub no_second : (a b : List Fault) → a ++ b ≡ [] → b ≡ []
no_second [] b h = h
no_second (x ∷ a) b h = cc

no_void : (leads : Bool) (place : Place) → void_prefix leads place ≡ [] → IsTrue leads
no_void true place h = search rules
no_void false place h = cc

-- what holds of each branch, as facts about closed policies say it
lead_of : (leads : Bool) (branches : List NamedBranch) → AllBranches (ApprovalsLead leads) branches → ApprovalsLeadBranches leads (branches_of branches)
lead_of leads [] h = tt
lead_of leads (branch ∷ rest) h = (h.0, lead_of leads rest h.1)

lead_grouped : (leads : Bool) (branches : List NamedBranch) → AllBranches (ApprovalsLead leads) branches → ApprovalsLeadBranches leads (branches_of (grouped branches))
lead_grouped leads branches h =
    lead_of leads (grouped branches) (each_grouped (ApprovalsLead leads) (λ group two eight each. (lead_of leads group each, tt)) branches h)

pcrs_of : (branches : List NamedBranch) → AllBranches (EachAssertion HasPcrDigest) branches → EachAssertionOfBranches HasPcrDigest (branches_of branches)
pcrs_of [] h = tt
pcrs_of (branch ∷ rest) h = (h.0, pcrs_of rest h.1)

pcrs_grouped : (branches : List NamedBranch) → AllBranches (EachAssertion HasPcrDigest) branches → EachAssertionOfBranches HasPcrDigest (branches_of (grouped branches))
pcrs_grouped branches h =
    pcrs_of (grouped branches) (each_grouped (EachAssertion HasPcrDigest) (λ group two eight each. (pcrs_of group each, tt)) branches h)

counts_of : (branches : List NamedBranch) → AllBranches HasBranchCounts branches → BranchesHaveBranchCounts (branches_of branches)
counts_of [] h = tt
counts_of (branch ∷ rest) h = (h.0, counts_of rest h.1)

-- two to 64 branches become an OR of two to eight, and so do those of each group
counts_or : (branches : List NamedBranch) → 2 ≤ length branches → length branches ≤ 8 → AllBranches HasBranchCounts branches → ElementHasBranchCounts (Or' (branches_of branches))
counts_or branches two eight each = (subst IsBranchCount (sym (branch_count_of branches)) (two, eight), counts_of branches each)

counts_grouped : (branches : List NamedBranch) → written.IsBranchCount (length branches) → AllBranches HasBranchCounts branches → ElementHasBranchCounts (Or' (branches_of (grouped branches)))
counts_grouped branches count h =
    let size : IsBranchCount (length (grouped branches)) = length_grouped branches count.0 count.1 in
    counts_or (grouped branches) size.0 size.1 (each_grouped HasBranchCounts (λ group two eight each. (counts_or group two eight each, tt)) branches h)

mutual
  lead-filled : (sight : Option Sight) (leads : Bool) (list : Place) (n : ℕ) (elements : Elements) → elements_faults sight leads list n elements ≡ [] → ApprovalsLead leads (filled_elements sight elements)
  lead-filled sight leads list n End h = tt
  lead-filled sight leads list n (More' p element q rest) h =
      (lead_element-filled sight leads (at_item list n) element (no_first _ _ h), lead-filled sight false list (n + 1) rest (no_second _ _ h))

  lead_element-filled : (sight : Option Sight) (leads : Bool) (place : Place) (element : Element) → element_faults sight leads place element ≡ [] → ApprovalsLeadElement leads (filled_element sight element)
  lead_element-filled sight leads place (Or branches) h =
      lead_grouped leads _ (lead_branches-filled sight leads (at_member place (codes "branches")) 0 branches h)
  lead_element-filled sight leads place (Authorize key policy_ref) h = no_void leads place (no_first _ _ h)
  lead_element-filled sight leads place (AuthorizeNv index) h = no_void leads place (no_first _ _ h)
  lead_element-filled sight leads place (Pcr wish) h = tt
  lead_element-filled sight leads place (Nv index operand offset operation) h = tt
  lead_element-filled sight leads place (Secret entity policy_ref cp_hash expiration) h = tt
  lead_element-filled sight leads place (Signed key policy_ref cp_hash expiration) h = tt
  lead_element-filled sight leads place (Locality locality) h = tt
  lead_element-filled sight leads place (CommandCode code) h = tt
  lead_element-filled sight leads place (CpHash digest) h = tt
  lead_element-filled sight leads place (NameHash wish) h = tt
  lead_element-filled sight leads place (CounterTimer operand offset operation) h = tt
  lead_element-filled sight leads place (Duplication object parent include) h = tt
  lead_element-filled sight leads place (NvWritten written) h = tt
  lead_element-filled sight leads place AuthValue h = tt
  lead_element-filled sight leads place Password h = tt
  lead_element-filled sight leads place PhysicalPresence h = tt

  lead_branches-filled : (sight : Option Sight) (leads : Bool) (list : Place) (n : ℕ) (branches : Branches) → branches_faults sight leads list n branches ≡ [] → AllBranches (ApprovalsLead leads) (filled_branches sight branches)
  lead_branches-filled sight leads list n EndBranches h = tt
  lead_branches-filled sight leads list n (MoreBranches' p name description elements q rest) h =
      (lead-filled sight leads (at_member (at_item list n) (codes "policy")) 0 elements (no_first _ _ h), lead_branches-filled sight leads list (n + 1) rest (no_second _ _ h))

mutual
  pcrs-filled : (sight : Option Sight) (elements : Elements) → EachAssertion HasPcrDigest (filled_elements sight elements)
  pcrs-filled sight End = tt
  pcrs-filled sight (More' p element q rest) = (pcrs_element-filled sight element, pcrs-filled sight rest)

  pcrs_element-filled : (sight : Option Sight) (element : Element) → EachAssertionOfElement HasPcrDigest (filled_element sight element)
  pcrs_element-filled sight (Or branches) = pcrs_grouped _ (pcrs_branches-filled sight branches)
  pcrs_element-filled sight (Pcr (Values values)) = refl
  pcrs_element-filled sight (Pcr (Current mask)) = refl
  pcrs_element-filled sight (Authorize key policy_ref) = tt
  pcrs_element-filled sight (AuthorizeNv index) = tt
  pcrs_element-filled sight (Nv index operand offset operation) = tt
  pcrs_element-filled sight (Secret entity policy_ref cp_hash expiration) = tt
  pcrs_element-filled sight (Signed key policy_ref cp_hash expiration) = tt
  pcrs_element-filled sight (Locality locality) = tt
  pcrs_element-filled sight (CommandCode code) = tt
  pcrs_element-filled sight (CpHash digest) = tt
  pcrs_element-filled sight (NameHash wish) = tt
  pcrs_element-filled sight (CounterTimer operand offset operation) = tt
  pcrs_element-filled sight (Duplication object parent include) = tt
  pcrs_element-filled sight (NvWritten written) = tt
  pcrs_element-filled sight AuthValue = tt
  pcrs_element-filled sight Password = tt
  pcrs_element-filled sight PhysicalPresence = tt

  pcrs_branches-filled : (sight : Option Sight) (branches : Branches) → AllBranches (EachAssertion HasPcrDigest) (filled_branches sight branches)
  pcrs_branches-filled sight EndBranches = tt
  pcrs_branches-filled sight (MoreBranches' p name description elements q rest) = (pcrs-filled sight elements, pcrs_branches-filled sight rest)

branch_count-filled : (sight : Option Sight) (branches : Branches) → written.branch_count branches ≡ length (filled_branches sight branches)
branch_count-filled sight EndBranches = refl
branch_count-filled sight (MoreBranches' p name description elements q rest) = ap (λ n. n + 1) (branch_count-filled sight rest) ∙ add-one _

mutual
  counts-filled : (sight : Option Sight) (elements : Elements) → written.HasBranchCounts elements → HasBranchCounts (filled_elements sight elements)
  counts-filled sight End h = tt
  counts-filled sight (More' p element q rest) h = (counts_element-filled sight element h.0, counts-filled sight rest h.1)

  counts_element-filled : (sight : Option Sight) (element : Element) → EachElementWithin HasBranchCount element → ElementHasBranchCounts (filled_element sight element)
  counts_element-filled sight (Or branches) h =
      counts_grouped _ (subst written.IsBranchCount (branch_count-filled sight branches) h.0) (counts_branches-filled sight branches h.1)
  counts_element-filled sight (Pcr wish) h = tt
  counts_element-filled sight (Authorize key policy_ref) h = tt
  counts_element-filled sight (AuthorizeNv index) h = tt
  counts_element-filled sight (Nv index operand offset operation) h = tt
  counts_element-filled sight (Secret entity policy_ref cp_hash expiration) h = tt
  counts_element-filled sight (Signed key policy_ref cp_hash expiration) h = tt
  counts_element-filled sight (Locality locality) h = tt
  counts_element-filled sight (CommandCode code) h = tt
  counts_element-filled sight (CpHash digest) h = tt
  counts_element-filled sight (NameHash wish) h = tt
  counts_element-filled sight (CounterTimer operand offset operation) h = tt
  counts_element-filled sight (Duplication object parent include) h = tt
  counts_element-filled sight (NvWritten written) h = tt
  counts_element-filled sight AuthValue h = tt
  counts_element-filled sight Password h = tt
  counts_element-filled sight PhysicalPresence h = tt

  counts_branches-filled : (sight : Option Sight) (branches : Branches) → EachElementOfBranches HasBranchCount branches → AllBranches HasBranchCounts (filled_branches sight branches)
  counts_branches-filled sight EndBranches h = tt
  counts_branches-filled sight (MoreBranches' p name description elements q rest) h =
      (counts-filled sight elements h.0, counts_branches-filled sight rest h.1)

-- in what is filled without faults each approval leads
pub approvals_lead-filled : (list : Place) (elements : Elements) (sight : Option Sight) (closed : Closed) → elements_faults sight true list 0 elements ≡ [] → erased_elements closed.elements ≡ filled_elements sight elements → ApprovalsLead true closed.elements
approvals_lead-filled list elements sight closed none same =
    lead-erased true closed.elements (subst (ApprovalsLead true) (sym same) (lead-filled sight true list 0 elements none))

-- in what is filled the digest of PCRs is that of their values
pub pcr_digests-filled : (elements : Elements) (sight : Option Sight) (closed : Closed) → erased_elements closed.elements ≡ filled_elements sight elements → EachAssertion HasPcrDigest closed.elements
pcr_digests-filled elements sight closed same =
    each-erased HasPcrDigest closed.elements (subst (EachAssertion HasPcrDigest) (sym same) (pcrs-filled sight elements))

-- what is filled has two to eight branches at each OR
pub branches-filled : (elements : Elements) (sight : Option Sight) (closed : Closed) → written.HasBranchCounts elements → erased_elements closed.elements ≡ filled_elements sight elements → HasBranchCounts closed.elements
branches-filled elements sight closed counts same =
    counts-erased closed.elements (subst HasBranchCounts (sym same) (counts-filled sight elements counts))

-- what is filled without faults is well formed
pub well_formed-filled : (list : Place) (elements : Elements) (sight : Option Sight) (closed : Closed) → elements_faults sight true list 0 elements ≡ [] → erased_elements closed.elements ≡ filled_elements sight elements → IsWellFormedPolicy closed
well_formed-filled list elements sight closed none same =
    record {
      approvals_lead = approvals_lead-filled list elements sight closed none same;
      pcr_digests = pcr_digests-filled elements sight closed same;
    }

-- and what was read, with 2 to 64 branches at each OR, has 2 to 8 at each
pub form-filled : (list : Place) (elements : Elements) (sight : Option Sight) (closed : Closed) → written.HasBranchCounts elements → elements_faults sight true list 0 elements ≡ [] → erased_elements closed.elements ≡ filled_elements sight elements → IsFilledPolicy closed
form-filled list elements sight closed counts none same = record {
  well_formed = well_formed-filled list elements sight closed none same;
  branch_counts = branches-filled elements sight closed counts same;
}
