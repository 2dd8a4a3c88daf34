-- What a run of a program prints and answers, and what it leaves on the shelf.
use Rattle.std.specs.Prelude.{ℕ, List, [], take, length, codes, nat_le, Bool, false, Option, None, Some, IfSome, if◌then◌else◌}
use Rattle.std.specs.Option.{option_map_or}
use Rattle.tpol_base.specs.declared.document.Document.{Document}
use Rattle.tpol_front.specs.Commands.{Commands}
use Rattle.tpol_steps.specs.declared.answer.Answer.{Answer}
use Rattle.tpol_steps.specs.declared.answer.Verdict.TheVariants.{Usage, TooLarge}
use Rattle.tpol_steps.specs.Answer.{one_line}
use Rattle.tpol_steps.specs.Steps.{answer_of}

-- the lines, how the run ends, and the shelf's documents afterwards
pub record Report : Type 0 where
  pub answer : Answer
  pub documents : List Document

-- a report that leaves the shelf as it was
abbrev pub leaves : Answer → List Document → Report
leaves answer all = record { answer = answer; documents = all }

-- the number of bytes that are read of a source at most: one more than a document may have
unfoldable pub most_read : ℕ
most_read = 16777217

-- the report of a command on a source that is not too large
abbrev pub report_of_command : {C : Type 0} → Commands C → C → List ℕ → List Document → Report
report_of_command commands command input all = record {
  answer = answer_of (commands.step command input all);
  documents = commands.documents_after command input all;
}

-- the report of a command on what was read of the source
abbrev pub report_of_input : {C : Type 0} → Commands C → C → List ℕ → List Document → Report
report_of_input commands command input all =
    if nat_le most_read (length input) then leaves (one_line (codes "error TooLarge") TooLarge) all
    else report_of_command commands command input all

-- what a command sees of the source: nothing where it does not read it
abbrev pub seen_by : {C : Type 0} → Commands C → C → List ℕ → List ℕ
seen_by commands command input = if commands.reads command then input else []

-- the report of what the words are
abbrev pub report_of_choice : {C : Type 0} → Commands C → Option C → List ℕ → List Document → Report
report_of_choice commands None input all = leaves (one_line (codes "error Usage") Usage) all
report_of_choice commands (Some command) input all =
    report_of_input commands command (seen_by commands command input) all

-- The report of a run: of its words, of the source's bytes up to byte 16,777,217, and of the shelf's
-- documents.
abbrev pub report_of : {C : Type 0} → Commands C → List (List ℕ) → List ℕ → List Document → Report
report_of commands words input all = report_of_choice commands (commands.command_of words) input all

-- where source and shelf tell what they hold, P of what is read of the source and of the documents
abbrev pub OfHeld : Option (List ℕ) → Option (List Document) → (List ℕ → List Document → Type 0) → Type 0
OfHeld left documents P = IfSome left (λ held. IfSome documents (λ all. P (take most_read held) all))

-- where source and shelf tell what they hold, the run's report has P
abbrev pub OfReport : {C : Type 0} → Commands C → List (List ℕ) → Option (List ℕ) → Option (List Document) → (Report → Type 0) → Type 0
OfReport commands words left documents P = OfHeld left documents (λ input all. P (report_of commands words input all))

-- whether the words are a command that reads the source
abbrev pub reads_source : {C : Type 0} → Commands C → List (List ℕ) → Bool
reads_source commands words = option_map_or commands.reads (commands.command_of words) false

-- whether the words are a command that uses the shelf
abbrev pub uses_shelf : {C : Type 0} → Commands C → List (List ℕ) → Bool
uses_shelf commands words = option_map_or commands.uses (commands.command_of words) false
