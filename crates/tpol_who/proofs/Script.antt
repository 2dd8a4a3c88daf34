-- The events of a script, one after another, and what is told of them.
use Rattle.std.proofs.Common.{◌≡◌, ◌∙◌, ap, refl, sym, ℕ, ◌+◌, ◌<◌, ◌≤◌, List, [], ◌∷◌, ◌++◌, drop, get_or, length, append_assoc, append-nil}
use Rattle.std.proofs.lemmas.List.{drop_all, drop_more}
use Rattle.tpol_perform.specs.Performance.{PerformanceState}
use Rattle.tpol_perform.specs.Script.{all_happened, happened}
use Rattle.tpol_prepare.specs.declared.scenario.Scenario.{Scenario}
use Rattle.tpol_scene.specs.declared.script.ScriptEvent.{ScriptEvent}
use Rattle.tpol_who.specs.Who.{event_told, events_told}

module _ (scenario : Scenario) where
  -- one event more, which is the one at the index
  pub event_step : (script : List ScriptEvent) (index : ℕ) (event : ScriptEvent) (p : PerformanceState) (old new : List (List ℕ)) → index < length script → event ≡ get_or script index event → new ≡ old ++ event_told scenario event p
      → new ++ events_told scenario (drop (index + 1) script) (happened scenario event p) ≡ old ++ events_told scenario (drop index script) p
  unfolding events_told
  event_step script index event p old new h at added =
      let later = events_told scenario (drop (index + 1) script) (happened scenario event p) in
      let rest = drop (index + 1) script in
      ap (λ l. l ++ later) added
      ∙ append_assoc old (event_told scenario event p) later
      ∙ ap (λ (e : ScriptEvent). old ++ events_told scenario (e ∷ rest) p) at
      ∙ ap (λ events. old ++ events_told scenario events p) (sym (drop_more script index event h))

  -- behind the last
  pub events_over : (script : List ScriptEvent) (index : ℕ) (p : PerformanceState) (lines : List (List ℕ)) → length script ≤ index → lines ++ events_told scenario (drop index script) p ≡ lines
  unfolding events_told
  events_over script index p lines h = ap (λ rest. lines ++ events_told scenario rest p) (drop_all index script h) ∙ append-nil lines

  -- what is told of events in the middle of a script
  pub told_between : (before : List ScriptEvent) (event : ScriptEvent) (after : List ScriptEvent) (p : PerformanceState)
      → events_told scenario (before ++ event ∷ after) p
      ≡ events_told scenario before p ++ (event_told scenario event (all_happened scenario before p) ++ events_told scenario after (happened scenario event (all_happened scenario before p)))
  unfolding events_told all_happened
  told_between [] event after p = refl
  told_between (first ∷ rest) event after p =
      let q = all_happened scenario rest (happened scenario first p) in
      ap (λ l. event_told scenario first p ++ l) (told_between rest event after (happened scenario first p))
      ∙ sym (append_assoc (event_told scenario first p) (events_told scenario rest (happened scenario first p)) (event_told scenario event q ++ events_told scenario after (happened scenario event q)))
