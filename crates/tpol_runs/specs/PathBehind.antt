-- Drivers on one path behind a reply.
use Rattle.std.specs.Prelude.{◌≡◌, Some, None}
use Rattle.tpol_runs.specs.declared.path_behind.PathBehind.{PathBehind}
use Rattle.tpol_runs.specs.declared.path_behind.PathBehind.TheVariants as behinds
use Rattle.tpol_runs.specs.Courses.{sighted_end}
use Rattle.tpol_runs.specs.Underway.{Driven}

-- a driver that stands here: it goes on, or it is at its end
abbrev pub IsPathBehind : Driven → PathBehind → Type 0
IsPathBehind driven (behinds.Goes state) = (state ≡ driven) × (sighted_end driven.earned driven.standing ≡ None)
IsPathBehind driven (behinds.Ends ended) = sighted_end driven.earned driven.standing ≡ Some ended
