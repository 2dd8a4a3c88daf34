-- Ticket after ticket is kept, and is given to a run.
use Rattle.std.proofs.Common.{◌≡◌, ◌∙◌, ap, sym, ℕ, ◌+◌, ◌<◌, Bool, true, false, not, if◌then◌else◌, List, [], ◌∷◌, ◌++◌, append_assoc, get_or, length, map, take}
use Rattle.std.proofs.lemmas.List.{map-append, take_more}
use Rattle.std.proofs.lemmas.List.Elements.{filter-append}
use Rattle.std.specs.List.{filter}
use Rattle.tpol_driver.specs.declared.tickets.HeldTicket.{HeldTicket}
use Rattle.tpol_name.specs.declared.entries.DirEntry.{DirEntry}
use Rattle.tpol_name.specs.declared.sight.Sight.{Sight}
use Rattle.tpol_perform.specs.declared.tickets.Kept.{Kept}
use Rattle.tpol_perform.specs.Performance.{PerformanceState}
use Rattle.tpol_perform.specs.Tickets.{is_of_index, is_usable, kept_of, tickets_for, with_kept}

-- ---- what is kept

module _ (directory : List DirEntry) (client : ℕ) where
  kept_both : (front more : List HeldTicket) → kept_of directory client (front ++ more) ≡ kept_of directory client front ++ kept_of directory client more
  kept_both front more =
      let is_kept : HeldTicket → Bool = λ ticket. not (is_of_index directory ticket) in
      let keep : HeldTicket → Kept = λ ticket. record { client = client; ticket = ticket } in
      ap (map keep) (filter-append is_kept front more) ∙ map-append keep (filter is_kept front) (filter is_kept more)

  pub kept_step : (earned : List HeldTicket) (index : ℕ) (ticket : HeldTicket) (first now next : PerformanceState) → index < length earned → ticket ≡ get_or earned index ticket
      → now ≡ with_kept directory client (take index earned) first
      → next ≡ record now { kept = now.kept ++ kept_of directory client (ticket ∷ []) }
      → next ≡ with_kept directory client (take (index + 1) earned) first
  kept_step earned index ticket first now next within is so step =
      let one : List HeldTicket = ticket ∷ [] in
      let whole : take (index + 1) earned ≡ take index earned ++ one =
      take_more earned index ticket within ∙ ap (λ (t : HeldTicket). take index earned ++ t ∷ []) (sym is) in
      let kept : (first.kept ++ kept_of directory client (take index earned)) ++ kept_of directory client one ≡ first.kept ++ kept_of directory client (take (index + 1) earned) =
      append_assoc first.kept (kept_of directory client (take index earned)) (kept_of directory client one)
      ∙ ap (λ l. first.kept ++ l) (sym (kept_both (take index earned) one) ∙ ap (kept_of directory client) (sym whole)) in
      step
      ∙ (ap (λ (p : PerformanceState). record p { kept = p.kept ++ kept_of directory client one }) so
      ∙ ap (λ (l : List Kept). record first { kept = l }) kept)

-- ---- what a run is given

module _ (client : ℕ) (sight : Sight) where
  for_both : (front more : List Kept) → tickets_for client sight (front ++ more) ≡ tickets_for client sight front ++ tickets_for client sight more
  for_both front more =
      let ticket_of : Kept → HeldTicket = λ entry. entry.ticket in
      ap (map ticket_of) (filter-append (is_usable client sight) front more)
      ∙ map-append ticket_of (filter (is_usable client sight) front) (filter (is_usable client sight) more)

  -- one more of them is usable, or not
  pub given_step : (kept : List Kept) (index : ℕ) (entry : Kept) → index < length kept → entry ≡ get_or kept index entry
      → tickets_for client sight (take (index + 1) kept) ≡ tickets_for client sight (take index kept) ++ tickets_for client sight (entry ∷ [])
  given_step kept index entry within is =
      ap (tickets_for client sight) (take_more kept index entry within ∙ ap (λ (e : Kept). take index kept ++ e ∷ []) (sym is))
      ∙ for_both (take index kept) (entry ∷ [])

  pub usable_one : (entry : Kept) → is_usable client sight entry ≡ true → tickets_for client sight (entry ∷ []) ≡ entry.ticket ∷ []
  usable_one entry usable = ap (λ b. map (λ (e : Kept). e.ticket) (if b then entry ∷ [] else [])) usable

  pub unusable_none : (entry : Kept) → is_usable client sight entry ≡ false → tickets_for client sight (entry ∷ []) ≡ []
  unusable_none entry unusable = ap (λ b. map (λ (e : Kept). e.ticket) (if b then entry ∷ [] else [])) unusable
