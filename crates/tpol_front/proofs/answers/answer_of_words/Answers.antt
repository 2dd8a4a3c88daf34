use Rattle.std.proofs.Common.{rules, inr, refl, arith}
use Rattle.tpol_front.proofs.Losses.{loses_nothing}
use Rattle.tpol_front.specs.Report.{most_read}
use Rattle.tpol_front.proofs.answers.answer_of_words.Goals as goal

-- words of no command read nothing
pub returns-in_default-clause-reads : goal.returns-in_default-clause-reads
returns-in_default-clause-reads g c =
    record {
      untouched = λ may. refl;
      whole = search rules;
      at_most = loses_nothing most_read (g.S.Source.left c.args.source.now);
      later = omega arith;
      failed = search rules;
      stays = inr refl;
      named = search rules;
    }
