-- Policies whose fields are within the bounds of the wire, so that each command of a path through them has a
-- spelling. A document's reader makes sure of it, and filling keeps it.
use Rattle.std.specs.Prelude.{ℕ, ◌<◌, ◌≤◌, ◌^◌, ⊤, List, length, FitsSigned}
use Rattle.std.specs.Int.{w32}
use Rattle.tpol_base.specs.declared.name.Name.{Name}
use Rattle.tpol_base.specs.declared.name.Name.TheVariants.{Empty, Handle, Hash}
use Rattle.tpol_tree.specs.declared.closed.Assertion.{Assertion}
use Rattle.tpol_tree.specs.declared.closed.Assertion.TheVariants as assertions
use Rattle.tpol_tree.specs.declared.closed.Closed.{Closed}
use Rattle.tpol_tree.specs.declared.closed.ClosedElement.{ClosedElement}
use Rattle.tpol_tree.specs.declared.closed.ClosedElement.TheVariants as closed
use Rattle.tpol_tree.specs.declared.policy.Element.{Element}
use Rattle.tpol_tree.specs.declared.policy.Element.TheVariants.{Pcr, Nv, Secret, Signed, Authorize, Locality, CommandCode, CounterTimer, Duplication}
use Rattle.tpol_tree.specs.declared.policy.Policy.{Policy}
use Rattle.tpol_tree.specs.declared.wishes.EntityWish.{EntityWish}
use Rattle.tpol_tree.specs.declared.wishes.EntityWish.TheVariants as entities
use Rattle.tpol_tree.specs.declared.wishes.ParentWish.{ParentWish}
use Rattle.tpol_tree.specs.declared.wishes.ParentWish.TheVariants as parents
use Rattle.tpol_tree.specs.declared.wishes.PcrWish.{PcrWish}
use Rattle.tpol_tree.specs.declared.wishes.PcrWish.TheVariants as pcrs
use Rattle.tpol_tree.specs.Closed as closed_facts
use Rattle.tpol_tree.specs.Elements.{EachElement}

-- a Name that is a handle has 32 bits
abbrev pub NameHasBounds : Name → Type 0
NameHasBounds Empty = ⊤
NameHasBounds (Handle handle) = handle < 2 ^ 32
NameHasBounds (Hash digest) = ⊤

-- policyRef and what is compared have at most 64 bytes, an offset has 16 bits
abbrev pub ReferenceHasBounds : List ℕ → Type 0
ReferenceHasBounds bytes = length bytes ≤ 64

abbrev pub OffsetHasBounds : ℕ → Type 0
OffsetHasBounds offset = offset < 2 ^ 16

-- a set of localities is not empty and has none above 4
abbrev pub LocalityHasBounds : ℕ → Type 0
LocalityHasBounds localities = (1 ≤ localities) × (localities ≤ 31)

-- ---- as they are written

abbrev pub EntityHasBounds : EntityWish → Type 0
EntityHasBounds (entities.Path path) = ⊤
EntityHasBounds (entities.Named name) = NameHasBounds name

abbrev pub ParentHasBounds : ParentWish → Type 0
ParentHasBounds (parents.Path path) = ⊤
ParentHasBounds (parents.Public text) = ⊤
ParentHasBounds (parents.Named name) = NameHasBounds name

-- a set of PCRs has 32 bits; those above 23, which are not there, are refused when the policy is filled
abbrev pub PcrsHaveBounds : PcrWish → Type 0
PcrsHaveBounds (pcrs.Values values) = ⊤
PcrsHaveBounds (pcrs.Current mask) = mask < 2 ^ 32

-- the fields of an element, those of the elements within it aside
abbrev pub ElementHasBounds : Element → Type 0
ElementHasBounds (Pcr wish) = PcrsHaveBounds wish
ElementHasBounds (Nv index operand offset operation) = ReferenceHasBounds operand × OffsetHasBounds offset
ElementHasBounds (Secret entity policy_ref cp_hash expiration) =
    EntityHasBounds entity × ReferenceHasBounds policy_ref × FitsSigned w32 expiration
ElementHasBounds (Signed key policy_ref cp_hash expiration) = ReferenceHasBounds policy_ref × FitsSigned w32 expiration
ElementHasBounds (Authorize key policy_ref) = ReferenceHasBounds policy_ref
ElementHasBounds (Locality localities) = LocalityHasBounds localities
ElementHasBounds (CommandCode code) = code < 2 ^ 32
ElementHasBounds (CounterTimer operand offset operation) = ReferenceHasBounds operand × OffsetHasBounds offset
ElementHasBounds (Duplication object parent include) = NameHasBounds object × ParentHasBounds parent
ElementHasBounds _ = ⊤

abbrev pub HasBounds : Policy → Type 0
HasBounds policy = EachElement ElementHasBounds policy.elements

-- ---- closed

abbrev pub AssertionHasBounds : Assertion → Type 0
AssertionHasBounds (assertions.Pcr mask pcr_digest values) = mask < 2 ^ 24
AssertionHasBounds (assertions.Nv index operand offset operation) =
    NameHasBounds index × ReferenceHasBounds operand × OffsetHasBounds offset
AssertionHasBounds (assertions.Secret entity policy_ref cp_hash expiration) =
    NameHasBounds entity × ReferenceHasBounds policy_ref × FitsSigned w32 expiration
AssertionHasBounds (assertions.Signed key policy_ref cp_hash expiration) =
    NameHasBounds key × ReferenceHasBounds policy_ref × FitsSigned w32 expiration
AssertionHasBounds (assertions.CounterTimer operand offset operation) = ReferenceHasBounds operand × OffsetHasBounds offset
AssertionHasBounds (assertions.CommandCode code) = code < 2 ^ 32
AssertionHasBounds (assertions.Locality localities) = LocalityHasBounds localities
AssertionHasBounds (assertions.Duplication object parent include) = NameHasBounds object × NameHasBounds parent
AssertionHasBounds _ = ⊤

abbrev pub ClosedElementHasBounds : ClosedElement → Type 0
ClosedElementHasBounds (closed.Assert assertion) = AssertionHasBounds assertion
ClosedElementHasBounds (closed.Or branches) = ⊤
ClosedElementHasBounds (closed.Authorize key policy_ref) = NameHasBounds key × ReferenceHasBounds policy_ref
ClosedElementHasBounds (closed.AuthorizeNv index) = NameHasBounds index

abbrev pub HasClosedBounds : Closed → Type 0
HasClosedBounds policy = closed_facts.EachElement ClosedElementHasBounds policy.elements
