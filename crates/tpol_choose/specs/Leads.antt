-- What a list of elements begins with.
use Rattle.std.specs.Prelude.{◌≡◌, Option, Some, None}
use Rattle.tpol_base.specs.declared.digest.Digest32.{Digest32}
use Rattle.tpol_choose.specs.declared.assert_move.AssertMove.{AssertMove}
use Rattle.tpol_choose.specs.declared.lead.Lead.{Lead}
use Rattle.tpol_digest.specs.Digest.{digest_after_assertion}
use Rattle.tpol_tree.specs.declared.closed.ClosedElement.TheVariants.{Assert}
use Rattle.tpol_tree.specs.declared.closed.ClosedElements.{ClosedElements}
use Rattle.tpol_tree.specs.declared.closed.ClosedElements.TheVariants.{More'}

-- the list is an assertion and a rest, before which stands the digest that the assertion leads to
abbrev pub Begins : AssertMove → ClosedElements → Digest32 → ClosedElements → Digest32 → Type 0
Begins step (More' p (Assert assertion) q others) d rest before =
    (step.assertion.now ≡ assertion) × (rest ≡ others) × (before ≡ digest_after_assertion assertion d)
Begins step elements d rest before = ⊥

-- or nothing of it is made to a move
abbrev pub leads : Option AssertMove → ClosedElements → Digest32 → ClosedElements → Digest32 → Type 0
leads None elements d rest before = (rest ≡ elements) × (before ≡ d)
leads (Some step) elements d rest before = Begins step elements d rest before

abbrev pub IsLead : Lead → ClosedElements → Digest32 → Type 0
IsLead lead elements d = leads lead.first elements d lead.rest.now lead.before.digest
