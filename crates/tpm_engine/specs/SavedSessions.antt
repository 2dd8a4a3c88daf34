-- Words of the laws on saved sessions.
use Rattle.std.specs.Prelude.{ℕ, ◌||◌, ◌==◌, Bool, false, List, [], ◌∷◌}
use Rattle.tpm_engine.specs.declared.event.Event.{Event}
use Rattle.tpm_engine.specs.Deeds.{Deed, Saves, deed_of}

abbrev pub is_save : ℕ → Deed → Bool
is_save session (Saves saved) = saved == session
is_save session _ = false

-- whether one of these events saves the session
unfoldable pub has_save : ℕ → List Event → Bool
has_save session [] = false
has_save session (event ∷ past) = is_save session (deed_of event) || has_save session past
