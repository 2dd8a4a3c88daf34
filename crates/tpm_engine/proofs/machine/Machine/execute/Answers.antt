use Rattle.std.proofs.Common.{◌≡◌, ◌↔◌, ℕ, IsSome, Some, ap, sym, subst, ◌∙◌, rules}
use Rattle.std.specs.Option.{option_map}
use Rattle.tpol_digest.specs.Digest.{digest_of_moves}
use Rattle.tpol_wire.specs.Reading.{reading}
use Rattle.tpm_bindings.specs.Facts.{moves_of}
use Rattle.tpm_rules.specs.declared.outcome.Outcome.TheVariants.{Served}
use Rattle.tpm_rules.specs.Entity.{auth_policy_of}
use Rattle.tpm_world.specs.Entities.{entity_at}
use Rattle.tpm_world.specs.World.{world_of}
use Rattle.tpm_engine.specs.Answers.{opened_of}
use Rattle.tpm_engine.specs.Events.{Answered}
use Rattle.tpm_engine.specs.Legal.{answer_to, opened_to}
use Rattle.tpm_engine.specs.Responses.{IsAnswer}
use Rattle.tpm_engine.specs.Tables.{TableState}
use Rattle.tpm_engine.specs.Uses.{AreOfPcrs, IsNotDeniedByCheck, IsServed, IsServedBySession, Passes, session_in}
use Rattle.tpm_engine.specs.Views.{facts_of, next_number, pcrs_of, view_of}
use Rattle.tpm_engine.proofs.Headline.{authorizes, serves}
use Rattle.tpm_engine.proofs.Machines.{if-opened, machine-answer, machine-executed}
use Rattle.tpm_engine.proofs.Opening.{opened-facts, opened-pcrs, opened-policy, opens-served}
use Rattle.tpm_engine.proofs.machine.Machine.execute.Goals as goal
use Rattle.tpm_engine.proofs.machine.Machine.execute.Goals.{After-finish-opened}

-- what was prepared, the outcome and what is opened, over the journal
prepared-is : (c : After-finish-opened) → IsAnswer c.self.inside.tables c.next_number-event.result c.args.locality c.args.buffer.now c.read_command-read.result c.in-Ok.field-0
prepared-is c = c.in-Ok.ensures.answer c.args.buffer.now c.read_command-read.ensures.reading

outcome-same : (c : After-finish-opened) → c.in-Ok.outcome ≡ c.in-Ok.field-0.outcome
outcome-same c = search rules

outcome-is : (c : After-finish-opened) → c.in-Ok.field-0.outcome ≡ (answer_to c.args.self.now.setup c.args.self.now.events c.args.locality c.args.buffer.now).outcome
outcome-is c =
    let past = c.self.inside.journal.events in
    (prepared-is c).outcome
    ∙ (ap (λ (answered : Answered). answered.outcome)
    (machine-answer c.self.inside.setup past c.self.inside.tables c.self.invariant c.next_number-event.result c.args.locality c.args.buffer.now c.next_number-event.ensures.number)
    ∙ ap (λ m. (answer_to m.setup m.events c.args.locality c.args.buffer.now).outcome) c.self.view_is)

opened-is : (c : After-finish-opened) → c.finish-opened.result ≡ opened_to c.args.self.now.setup c.args.self.now.events c.args.locality c.args.buffer.now
opened-is c =
    let past = c.self.inside.journal.events in
    c.finish-opened.ensures.opened
    ∙ ((prepared-is c).opens
    ∙ (ap (λ (tables : TableState). opened_of tables c.next_number-event.result c.args.locality c.args.buffer.now) c.self.invariant.tables
    ∙ (ap (λ (number : ℕ). opened_of (view_of c.self.inside.setup past) number c.args.locality c.args.buffer.now) c.next_number-event.ensures.number
    ∙ ap (λ m. opened_to m.setup m.events c.args.locality c.args.buffer.now) c.self.view_is)))

pub invariant_of-self-2 : goal.invariant_of-self-2
invariant_of-self-2 c =
    let past = c.self.inside.journal.events in
    let count : c.next_number-event.result ≡ next_number past = c.next_number-event.ensures.number in
    machine-executed c.self.inside.setup past c.self.inside.tables c.self.invariant
    c.next_number-event.result c.args.client c.args.locality c.args.buffer.now c.as_slice.result.now c.in-Ok.outcome c.push_command-pushed.new.self.events c.finish-opened.new.self
    count (c.as_slice.ensures ∙ (prepared-is c).reply) (outcome-same c ∙ (prepared-is c).outcome) (c.finish-opened.ensures.tables ∙ (prepared-is c).tables c.args.client)
    (search rules)

pub returns-clause-opens : goal.returns-clause-opens
returns-clause-opens c =
    subst (λ opened. IsSome opened ↔ IsServedBySession c.args.self.now.setup c.args.self.now.events c.args.locality c.args.buffer.now) (sym (opened-is c))
    (opens-served c.args.self.now.setup c.args.self.now.events c.args.locality c.args.buffer.now)

pub returns-clause-facts : goal.returns-clause-facts
returns-clause-facts c =
    if-opened (λ opened. option_map (facts_of c.args.self.now.setup c.args.self.now.events) (session_in (reading c.args.buffer.now)) ≡ Some opened.facts)
    c.finish-opened.result (opened_to c.args.self.now.setup c.args.self.now.events c.args.locality c.args.buffer.now) (opened-is c)
    (opened-facts c.args.self.now.setup c.args.self.now.events c.args.locality c.args.buffer.now)

pub returns-clause-pcrs : goal.returns-clause-pcrs
returns-clause-pcrs c =
    if-opened (λ opened. AreOfPcrs (pcrs_of c.args.self.now.setup c.args.self.now.events) opened.facts)
    c.finish-opened.result (opened_to c.args.self.now.setup c.args.self.now.events c.args.locality c.args.buffer.now) (opened-is c)
    (opened-pcrs c.args.self.now.setup c.args.self.now.events c.args.locality c.args.buffer.now)

pub returns-clause-policy : goal.returns-clause-policy
returns-clause-policy c =
    if-opened (λ opened. option_map auth_policy_of (entity_at (world_of c.args.self.now.setup) opened.entity) ≡ Some (digest_of_moves (moves_of opened.facts)).bytes)
    c.finish-opened.result (opened_to c.args.self.now.setup c.args.self.now.events c.args.locality c.args.buffer.now) (opened-is c)
    (opened-policy c.args.self.now.setup c.args.self.now.events c.args.locality c.args.buffer.now)

pub returns-clause-authorizes : goal.returns-clause-authorizes
returns-clause-authorizes c command session asks =
    subst (λ outcome. IsNotDeniedByCheck outcome ↔ Passes c.args.self.now.setup c.args.self.now.events c.args.locality command session) (sym (outcome-is c))
    (authorizes c.args.self.now.setup c.args.self.now.events c.args.locality c.args.buffer.now command session asks)

pub returns-clause-serves : goal.returns-clause-serves
returns-clause-serves c command session asks =
    subst (λ outcome. (outcome ≡ Served) ↔ IsServed c.args.self.now.setup c.args.self.now.events c.args.locality command session) (sym (outcome-is c))
    (serves c.args.self.now.setup c.args.self.now.events c.args.locality c.args.buffer.now command session asks)
