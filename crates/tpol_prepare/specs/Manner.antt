-- What the commands tell that carry out a scene, and how the runs of its script are driven.
use Rattle.std.specs.Prelude.{Bool, true, false}
use Rattle.tpol_prepare.specs.declared.manner.Manner.{Manner}
use Rattle.tpol_prepare.specs.declared.manner.Manner.TheVariants.{Run, Explain, Certify}
use Rattle.tpol_prepare.specs.declared.manner.Way.{Way}
use Rattle.tpol_prepare.specs.declared.manner.Way.TheVariants.{Sighted}

-- by which path of its policy an entity was opened
abbrev pub explains : Manner → Bool
explains (Run way) = false
explains (Explain way) = true
explains Certify = true

-- the certificate of that path
abbrev pub certifies : Manner → Bool
certifies (Run way) = false
certifies (Explain way) = false
certifies Certify = true

-- how runs are driven
abbrev pub way_of : Manner → Way
way_of (Run way) = way
way_of (Explain way) = way
way_of Certify = Sighted
