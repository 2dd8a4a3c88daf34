-- From the response to a command to the answer to its bytes.
use Rattle.std.proofs.Common.{◌≡◌, ℕ, false, List, Option, None, Some, Result, Ok, Err, IfOk, refl, ap, sym, subst, ◌∙◌}
use Rattle.tpol_base.specs.declared.no_memory.NoMemory.{NoMemory}
use Rattle.tpol_fields.specs.declared.fault.WireFault.{WireFault}
use Rattle.tpol_wire.specs.declared.command.Command.{Command}
use Rattle.tpol_wire.specs.Reading.{reading}
use Rattle.tpm_engine.specs.declared.opened.Opened.{Opened}
use Rattle.tpm_engine.specs.declared.prepared.Prepared.{Prepared}
use Rattle.tpm_engine.specs.declared.stop.Stop.{Stop}
use Rattle.tpm_engine.specs.Answers.{answer, answer_to_command, answer_to_reading, answer_unless, first_stop, opened_by_command, opened_by_reading, opened_of, opened_unless, opening_of, stopped, succeeding}
use Rattle.tpm_engine.specs.Deeds.{after_event}
use Rattle.tpm_engine.specs.Events.{Answered, event_of, is_success}
use Rattle.tpm_engine.specs.Responses.{IsAnswer, IsPrepared}
use Rattle.tpm_engine.specs.Stops.{refuses}
use Rattle.tpm_engine.specs.Tables.{TableState}
use Rattle.tpm_engine.proofs.Serving.{Fails, event-after, event-fails, first-fails, none-stops, stopped-response}

pub ok-map : {A E : Type 0} (P Q : A → Type 0) (result : Result A E) → ((x : A) → P x → Q x) → IfOk result P → IfOk result Q
ok-map P Q (Ok x) f h = f x h
ok-map P Q (Err e) f h = tt

-- what a call that answers with a stop says of its answer
pub record IsStopped (stop : Stop) (result : Result Prepared NoMemory) : Type 0 where
  pub reply : IfOk result (λ done. done.reply ≡ (stopped stop).reply)
  pub outcome : IfOk result (λ done. done.outcome ≡ stop.outcome)
  pub nothing : IfOk result (λ done. done.success ≡ None)

pub stop-response : (tables : TableState) (number : ℕ) (command : Command) (result : Result Prepared NoMemory) (stop : Stop) (answered : Answered) (opened : Option Opened)
    → answered ≡ stopped stop → opened ≡ None → is_success stop.outcome ≡ false → IsStopped stop result
    → IfOk result (λ done. IsPrepared tables number command answered opened done)
stop-response tables number command (Ok done) stop answered opened is none fails how =
    stopped-response tables number command done stop answered opened is none fails how.reply how.outcome how.nothing
stop-response tables number command (Err e) stop answered opened is none fails how = tt

-- the first rule that is broken refuses a command
pub first-response : (tables : TableState) (number locality : ℕ) (command : Command) (result : Result Prepared NoMemory) (stop : Stop) → first_stop tables locality command ≡ Some stop → IsStopped stop result
    → IfOk result (λ done. IsPrepared tables number command (answer_to_command tables number locality command) (opened_by_command tables locality command) done)
first-response tables number locality command result stop is how =
    stop-response tables number command result stop _ _
    (ap (λ s. answer_unless s (succeeding tables number command)) is) (ap (λ s. opened_unless s (opening_of tables command)) is)
    (subst Fails is (first-fails tables locality command)) how

-- where no rule stops a command its response is that of its success
pub none-response : (tables : TableState) (number locality : ℕ) (command : Command) (result : Result Prepared NoMemory) → first_stop tables locality command ≡ None
    → IfOk result (λ done. IsPrepared tables number command (succeeding tables number command) (opening_of tables command) done)
    → IfOk result (λ done. IsPrepared tables number command (answer_to_command tables number locality command) (opened_by_command tables locality command) done)
none-response tables number locality command (Ok done) none h = none-stops tables number locality command done none h
none-response tables number locality command (Err e) none h = tt

-- ---- the answer to bytes

answer-read : (before : TableState) (number locality : ℕ) (buffer : List ℕ) (read : Result Command ℕ) → reading buffer ≡ read → answer before number locality buffer ≡ answer_to_reading before number locality read
unfolding answer
answer-read before number locality buffer read is = ap (answer_to_reading before number locality) is

opened-read : (before : TableState) (number locality : ℕ) (buffer : List ℕ) (read : Result Command ℕ) → reading buffer ≡ read → opened_of before number locality buffer ≡ opened_by_reading before locality read
unfolding opened_of
opened-read before number locality buffer read is = ap (opened_by_reading before locality) is

response-answer : (tables : TableState) (number locality : ℕ) (buffer : List ℕ) (command : Command) (done : Prepared) → reading buffer ≡ Ok command
    → IsPrepared tables number command (answer_to_command tables number locality command) (opened_by_command tables locality command) done
    → IsAnswer tables number locality buffer (Ok command) done
response-answer tables number locality buffer command done read response =
    let is = answer-read tables number locality buffer (Ok command) read in
    record {
      reply = response.reply ∙ ap (λ (a : Answered). a.reply) (sym is);
      outcome = response.outcome ∙ ap (λ (a : Answered). a.outcome) (sym is);
      ready = response.ready;
      tables = λ client. response.tables ∙ (sym (event-after tables number client locality buffer command read)
          ∙ ap (λ (a : Answered). after_event tables number (event_of client locality buffer a)) (sym is));
      opens = response.opens ∙ sym (opened-read tables number locality buffer (Ok command) read);
    }

pub refusal-answer : (tables : TableState) (number locality : ℕ) (buffer : List ℕ) (fault : WireFault) (code : ℕ) (result : Result Prepared NoMemory) → reading buffer ≡ Err code → IsStopped (refuses code) result
    → IfOk result (IsAnswer tables number locality buffer (Err fault))
refusal-answer tables number locality buffer fault code (Err e) read how = tt
refusal-answer tables number locality buffer fault code (Ok done) read how =
    let is = answer-read tables number locality buffer (Err code) read in
    record {
      reply = how.reply ∙ ap (λ (a : Answered). a.reply) (sym is);
      outcome = how.outcome ∙ ap (λ (a : Answered). a.outcome) (sym is);
      ready = tt;
      tables = λ client. sym (event-fails tables number client locality buffer (stopped (refuses code)) refl)
          ∙ ap (λ (a : Answered). after_event tables number (event_of client locality buffer a)) (sym is);
      opens = sym (opened-read tables number locality buffer (Err code) read);
    }

pub ok-answers : (tables : TableState) (number locality : ℕ) (buffer : List ℕ) (command : Command) (result : Result Prepared NoMemory) → reading buffer ≡ Ok command
    → IfOk result (λ done. IsPrepared tables number command (answer_to_command tables number locality command) (opened_by_command tables locality command) done)
    → IfOk result (IsAnswer tables number locality buffer (Ok command))
ok-answers tables number locality buffer command (Ok done) read h = response-answer tables number locality buffer command done read h
ok-answers tables number locality buffer command (Err e) read h = tt
