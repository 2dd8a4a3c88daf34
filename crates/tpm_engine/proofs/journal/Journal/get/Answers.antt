use Rattle.std.proofs.Common.{◌∙◌, Some, ap, length, refl, slice_get, sym}
use Rattle.std.proofs.lemmas.Option.{slice_get_read}
use Rattle.tpm_engine.proofs.Kept.{kept-at}
use Rattle.tpm_engine.proofs.journal.Journal.get.Goals as goal

pub returns : goal.returns
returns c =
    let read = c.in_ok-entry.ensures.lookup in
    let found = slice_get_read c.deref.result.now (length c.deref.result.now) c.args.index c.in_ok-entry.entry.now refl read.3.0 read.1 in
    record {
      event =
          ap Some c.view_of.ensures.event
          ∙ kept-at c.self.inside.commands c.self.inside.replies c.self.inside.entries.items c.args.index c.in_ok-entry.entry.now c.args.self.now.events
          (ap (λ l. slice_get l c.args.index) (sym c.deref.ensures.value) ∙ found) (ap (λ j. j.events) c.self.view_is);
    }
