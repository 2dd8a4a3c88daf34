-- What a walk through a policy has ahead of it.
use Rattle.std.specs.Prelude.{ℕ, ◌*◌, List, ⊤}
use Rattle.tpol_choose.specs.declared.ahead.Ahead.{Ahead}
use Rattle.tpol_choose.specs.declared.ahead.Ahead.TheVariants.{Nothing, After'}
use Rattle.tpol_digest.specs.Extent.{document_extent, extent_at}
use Rattle.tpol_digest.specs.Memos.{Knows}
use Rattle.tpol_choose.specs.Few.{HasFewBranches}
use Rattle.tpol_tree.specs.declared.path.ApprovedDoc.{ApprovedDoc}

-- each OR in it, at any depth, has at most 8 branches, and what is kept of each rest's digests is known to be theirs
abbrev pub IsSoundAhead : Ahead → Type 0
IsSoundAhead Nothing = ⊤
IsSoundAhead (After' act first rest before levels p ahead) =
    HasFewBranches rest.now × (Knows before rest.now × IsSoundAhead ahead)

-- how many ways there are through it
abbrev pub ways_ahead : List ApprovedDoc → Ahead → ℕ
ways_ahead documents Nothing = 1
ways_ahead documents (After' act first rest before levels p ahead) =
    (extent_at (document_extent documents levels) documents rest.now).paths * ways_ahead documents ahead
