use Rattle.std.proofs.Common.{◌≡◌, true, [], Option, IfSome, ap, subst, sym, ◌∙◌}
use Rattle.std.specs.Option.{option_map}
use Rattle.tpm_session.specs.Slots.{is_live}
use Rattle.tpm_engine.specs.declared.closing_use.Closing.{Closing}
use Rattle.tpm_engine.specs.Answers.{succeeding}
use Rattle.tpm_engine.specs.Closings.{opened_by, use_of_closing}
use Rattle.tpm_engine.specs.Deeds.{after_use}
use Rattle.tpm_engine.proofs.Serving.{after-closing, closing-empty, closing-live, opened-before}
use Rattle.tpm_engine.proofs.tables.Tables.succeed.Goals as goal

-- src/respond.rt
pub close-requires-clause-live : goal.close-requires-clause-live
close-requires-clause-live c =
    let ready = c.requires.ready in
    let command = c.args.command in
    subst (λ (o : Option Closing). IfSome o (λ it. is_live c.carry_out.new.self.sessions it.session ≡ true)) (sym ready.closing)
    (closing-live c.args.self.now c.carry_out.new.self c.args.number command (succeeding c.args.self.now c.args.number command).reply ready.session c.carry_out.ensures.tables)

-- src/respond.rt
pub close-requires-clause-empty : goal.close-requires-clause-empty
close-requires-clause-empty c =
    subst (λ (o : Option Closing). IfSome o (λ it. it.facts ≡ [])) (sym c.requires.ready.closing) (closing-empty c.args.command)

-- src/respond.rt
pub returns-clause-tables : goal.returns-clause-tables
returns-clause-tables c =
    let mid = c.carry_out.new.self in
    after-closing c.args.self.now mid c.close.new.self c.args.number c.args.command c.carry_out.ensures.tables
    (c.close.ensures.tables ∙ ap (λ (o : Option Closing). after_use c.args.number (option_map use_of_closing o) mid) c.requires.ready.closing)

-- src/respond.rt
pub returns-clause-opened : goal.returns-clause-opened
returns-clause-opened c =
    let mid = c.carry_out.new.self in
    let command = c.args.command in
    c.close.ensures.opened
    ∙ (ap (opened_by mid) c.requires.ready.closing
    ∙ opened-before c.args.self.now mid c.args.number command (succeeding c.args.self.now c.args.number command).reply c.requires.ready.session c.carry_out.ensures.tables)
