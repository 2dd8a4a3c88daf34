-- What a run of the program prints and answers, and what it leaves on the shelf.
use Rattle.std.specs.Prelude.{ℕ, List, Option}
use Rattle.tpol_base.specs.declared.document.Document.{Document}
use Rattle.tpol_bridge.specs.Commands.{bridge_commands}
use Rattle.tpol_front.specs.Report as front
use Rattle.tpol_front.specs.Report.{Report}

-- The report of a run: of its words, of the source's bytes up to byte 16,777,217, and of the shelf's
-- documents.
abbrev pub report_of : List (List ℕ) → List ℕ → List Document → Report
report_of words input all = front.report_of bridge_commands words input all

-- where source and shelf tell what they hold, the run's report has P
abbrev pub OfReport : List (List ℕ) → Option (List ℕ) → Option (List Document) → (Report → Type 0) → Type 0
OfReport words left documents P = front.OfReport bridge_commands words left documents P
