-- The digests of the branches of an OR, kept or made.
use Rattle.std.specs.Prelude.{List}
use Rattle.tpol_base.specs.declared.digest.Digest32.{Digest32}
use Rattle.tpol_choose.specs.declared.or_digests.OrDigests.{OrDigests}
use Rattle.tpol_choose.specs.declared.or_digests.OrDigests.TheVariants.{Kept, Made}

abbrev pub digests_of : OrDigests → List Digest32
digests_of (Kept digests) = digests.now
digests_of (Made digests) = digests
