-- The events that a journal keeps by its texts, also where more texts come behind them.
use Rattle.std.proofs.Common.{◌≡◌, ℕ, ◌<◌, ◌≤◌, ◌⊎◌, inl, inr, List, [], ◌∷◌, ◌++◌, length, map, reverse, get_or, slice_get, Some, refl, ap, sym, ◌∙◌, arith}
use Rattle.std.specs.List.{All}
use Rattle.std.specs.Option.{option_map}
use Rattle.std.proofs.Math.ListN.{get_or-append}
use Rattle.std.proofs.lemmas.List.{append-nil, length-append, map-append, reverse-append, reverse-reverse}
use Rattle.std.proofs.lemmas.List.Elements.{All-head, All-push, All-same, All-tail, All-weaker}
use Rattle.std.proofs.lemmas.Option.{get_or_from_slice_get, slice_get-map, slice_get_within}
use Rattle.tpm_rules.specs.declared.outcome.Outcome.{Outcome}
use Rattle.tpm_engine.specs.declared.entry.Entry.{Entry}
use Rattle.tpm_engine.specs.declared.entry.Entry.TheVariants as entries
use Rattle.tpm_engine.specs.declared.event.Event.{Event}
use Rattle.tpm_engine.specs.declared.event.Event.TheVariants as events
use Rattle.tpm_engine.specs.Journals.{LiesWithin, event_kept}

-- ---- texts behind which others may have come

-- the later texts begin with the earlier ones
abbrev pub Begin : List (List ℕ) → List (List ℕ) → Type 0
Begin texts later = (more : List (List ℕ)) × (later ≡ texts ++ more)

pub unchanged : (texts later : List (List ℕ)) → later ≡ texts → Begin texts later
unchanged texts later same = ([], same ∙ sym (append-nil texts))

-- a text was kept
pub begin : (texts later : List (List ℕ)) (text : List ℕ) → (later ≡ texts) ⊎ (later ≡ texts ++ text ∷ []) → Begin texts later
begin texts later text (inl same) = unchanged texts later same
begin texts later text (inr longer) = (text ∷ [], longer)

same-text : (texts later : List (List ℕ)) (index : ℕ) → Begin texts later → index < length texts → get_or later index [] ≡ get_or texts index []
same-text texts later index begins within =
    ap (λ (l : List (List ℕ)). get_or l index []) begins.1 ∙ get_or-append texts begins.0 [] index within

no-fewer : (texts later : List (List ℕ)) → Begin texts later → length texts ≤ length later
no-fewer texts later begins = omega (arith, ap length begins.1, length-append texts begins.0)

-- ---- each entry keeps its event

module _ (commands replies later_commands later_replies : List (List ℕ)) (first : Begin commands later_commands) (second : Begin replies later_replies) where
  abbrev Before : Entry → Type 0
  Before = LiesWithin (length commands) (length replies)

  abbrev Later : Entry → Type 0
  Later = LiesWithin (length later_commands) (length later_replies)

  same-kept : (entry : Entry) → Before entry → event_kept later_commands later_replies entry ≡ event_kept commands replies entry
  same-kept (entries.Command locality client outcome buffer reply) within =
      ap (λ bytes. events.Command client locality bytes (get_or later_replies reply []) outcome) (same-text commands later_commands buffer first within.0)
      ∙ ap (λ bytes. events.Command client locality (get_or commands buffer []) bytes outcome) (same-text replies later_replies reply second within.1)
  same-kept (entries.Change change) within = refl

  pub all-kept : (kept : List Entry) → All Before kept → map (event_kept later_commands later_replies) kept ≡ map (event_kept commands replies) kept
  all-kept [] within = refl
  all-kept (entry ∷ kept) within =
      ap (λ event. event ∷ map (event_kept later_commands later_replies) kept) (same-kept entry (All-head Before entry kept within))
      ∙ ap (λ rest. event_kept commands replies entry ∷ rest) (all-kept kept (All-tail Before entry kept within))

  within-later : (entry : Entry) → Before entry → Later entry
  within-later (entries.Command locality client outcome buffer reply) within =
      (omega (arith, within.0, no-fewer commands later_commands first), omega (arith, within.1, no-fewer replies later_replies second))
  within-later (entries.Change change) within = tt

  pub all-within : (kept : List Entry) → All Before kept → All Later kept
  all-within kept within = All-weaker Before Later within-later kept within

  -- ---- a command more

  module _ (kept later : List Entry) (within : All Before kept) (client locality : ℕ) (outcome : Outcome) (buffer reply : ℕ) (buffer_bytes reply_bytes : List ℕ) (buffer-is : slice_get later_commands buffer ≡ Some buffer_bytes) (reply-is : slice_get later_replies reply ≡ Some reply_bytes) (entries-are : later ≡ kept ++ entries.Command locality client outcome buffer reply ∷ []) where
    abbrev entry : Entry
    entry = entries.Command locality client outcome buffer reply

    abbrev event : Event
    event = events.Command client locality buffer_bytes reply_bytes outcome

    pub pushed-within : All Later later
    pushed-within =
        All-same Later later (kept ++ entry ∷ []) entries-are
        (All-push Later kept entry (all-within kept within)
        (slice_get_within later_commands buffer buffer_bytes buffer-is, slice_get_within later_replies reply reply_bytes reply-is))

    event-is : event_kept later_commands later_replies entry ≡ event
    event-is =
        ap (λ bytes. events.Command client locality bytes (get_or later_replies reply []) outcome) (get_or_from_slice_get later_commands buffer buffer_bytes [] buffer-is)
        ∙ ap (λ bytes. events.Command client locality buffer_bytes bytes outcome) (get_or_from_slice_get later_replies reply reply_bytes [] reply-is)

    pub command-pushed : reverse (map (event_kept later_commands later_replies) later) ≡ event ∷ reverse (map (event_kept commands replies) kept)
    command-pushed =
        let of = event_kept later_commands later_replies in
        ap (λ l. reverse (map of l)) entries-are
        ∙ ap reverse (map-append of kept (entry ∷ []))
        ∙ reverse-append (map of kept) (of entry ∷ [])
        ∙ ap (λ one. one ∷ reverse (map of kept)) event-is
        ∙ ap (λ l. event ∷ reverse l) (all-kept kept within)

-- ---- the event at a place

pub kept-at : (commands replies : List (List ℕ)) (kept : List Entry) (index : ℕ) (one : Entry) (past : List Event) → slice_get kept index ≡ Some one
    → reverse (map (event_kept commands replies) kept) ≡ past → Some (event_kept commands replies one) ≡ slice_get (reverse past) index
kept-at commands replies kept index one past found is =
    let of = event_kept commands replies in
    sym (ap (option_map of) found)
    ∙ sym (slice_get-map of kept index)
    ∙ ap (λ l. slice_get l index) (sym (reverse-reverse (map of kept)))
    ∙ ap (λ l. slice_get (reverse l) index) is
