-- What does not succeed changes nothing, and calls make a legal journal in their order.
use Rattle.std.proofs.Common.{◌≡◌, ℕ, false, List, [], ◌∷◌, ◌++◌, map, reverse, refl, ap, sym, ◌∙◌, append_assoc, append-nil}
use Rattle.std.proofs.lemmas.Bool.{false≢true}
use Rattle.std.proofs.lemmas.List.{map-append, reverse-append}
use Rattle.tpol_name.specs.declared.setup.Setup.{Setup}
use Rattle.tpm_rules.specs.declared.outcome.Outcome.TheVariants.{Denied, Refused}
use Rattle.tpm_engine.specs.declared.event.Event.{Event}
use Rattle.tpm_engine.specs.declared.event.Event.TheVariants as events
use Rattle.tpm_engine.specs.Calls.{Call, Execute, Advance, SetPresence, Reset, call_of, event_by, journal_after}
use Rattle.tpm_engine.specs.Deeds.{after_event}
use Rattle.tpm_engine.specs.Events.{succeeded}
use Rattle.tpm_engine.specs.Legal.{IsAnswered, IsLegal}
use Rattle.tpm_engine.specs.Tables.{TableState}
use Rattle.tpm_engine.specs.Views.{next_number, view_of}
use Rattle.tpm_engine.proofs.Link.{link}

failed : (tables : TableState) (number : ℕ) (event : Event) → succeeded event ≡ false → after_event tables number event ≡ tables
failed tables number (events.Command client locality buffer reply (Denied denial)) h = refl
failed tables number (events.Command client locality buffer reply (Refused rc)) h = refl
failed tables number _ h = absurd (false≢true (sym h))

pub failed-view : (setup : Setup) (past : List Event) (event : Event) → succeeded event ≡ false → view_of setup (event ∷ past) ≡ view_of setup past
failed-view setup past event h = link setup past event ∙ failed (view_of setup past) (next_number past) event h

answered-by : (setup : Setup) (past : List Event) (call : Call) → IsAnswered setup past (event_by setup past call)
answered-by setup past (Execute client locality buffer) = refl
answered-by setup past (Advance ms) = tt
answered-by setup past (SetPresence on) = tt
answered-by setup past Reset = tt

pub calls-legal : (setup : Setup) (calls : List Call) (past : List Event) → IsLegal setup past → IsLegal setup (journal_after setup calls past)
unfolding IsLegal journal_after
calls-legal setup [] past legal = legal
calls-legal setup (call ∷ calls) past legal = calls-legal setup calls (event_by setup past call ∷ past) (answered-by setup past call, legal)

same-call : (setup : Setup) (past : List Event) (call : Call) → call_of (event_by setup past call) ≡ call
same-call setup past (Execute client locality buffer) = refl
same-call setup past (Advance ms) = refl
same-call setup past (SetPresence on) = refl
same-call setup past Reset = refl

pub calls-in-order : (setup : Setup) (calls : List Call) (past : List Event) → map call_of (reverse (journal_after setup calls past)) ≡ map call_of (reverse past) ++ calls
unfolding journal_after
calls-in-order setup [] past = sym (append-nil (map call_of (reverse past)))
calls-in-order setup (call ∷ calls) past =
    calls-in-order setup calls (event_by setup past call ∷ past)
    ∙ (ap (λ front. map call_of front ++ calls) (reverse-append (event_by setup past call ∷ []) past)
    ∙ (ap (λ front. front ++ calls) (map-append call_of (reverse past) (event_by setup past call ∷ []))
    ∙ (ap (λ one. (map call_of (reverse past) ++ one ∷ []) ++ calls) (same-call setup past call)
    ∙ append_assoc (map call_of (reverse past)) (call ∷ []) calls)))
