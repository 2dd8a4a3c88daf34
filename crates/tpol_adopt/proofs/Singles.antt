-- A value that is read says the same in its new spelling: what is spelled otherwise is not read.
use Rattle.std.proofs.Common.{◌≡◌, ℕ, List, [], ◌∷◌, Option, Some, None, codes, Bool, true, false, ◌&&◌, bytes_eq, refl, subst, if◌then◌else◌}
use Rattle.std.proofs.lemmas.Slice.Eq.{bytes_eq-Decides}
use Rattle.std.specs.List.{list_all}
use Rattle.std.specs.Prelude.{is_none}
use Rattle.serde_json.specs.Data.{Data, null, boolean, number, string, array, object}
use Rattle.tpol_base.specs.CommandCode.{command_codes}
use Rattle.tpol_json.specs.Numbers.{number_of_text}
use Rattle.tpol_json.specs.Words.{find_word}
use Rattle.tpol_json.specs.declared.place.Place.{Place}
use Rattle.tpol_members.specs.Localities.{locality_in}
use Rattle.tpol_members.specs.Operations.{code_in}
use Rattle.tpol_members.specs.Values.{digest_in, u32_in}
use Rattle.tpol_adopt.specs.Codes.{other_codes}
use Rattle.tpol_adopt.specs.Edits.{edited, number_or}
use Rattle.tpol_adopt.specs.Words.{meaning_of_word}
use Rattle.tpol_adopt.specs.declared.edits.Edit.TheVariants.{Number, Code, Signature}
use Rattle.tpol_adopt.specs.declared.flags.Flags.{Flags}
use Rattle.tpol_adopt.proofs.Keeping.{Follows, follows_same}

pub attributes-follow : (flags : Flags) (d : Data) (place : Place) → Follows (u32_in d place) (u32_in (edited (Number flags) d) place)
attributes-follow flags null place = tt {0}
attributes-follow flags (boolean b) place = tt {0}
attributes-follow flags (number n) place = follows_same (u32_in (number n) place) _ refl
attributes-follow flags (string s) place = follows_same (u32_in (string s) place) _ refl
attributes-follow flags (array ds) place = tt {0}
attributes-follow flags (object ms) place = tt {0}

pub locality-follows : (flags : Flags) (d : Data) (place : Place) → Follows (locality_in d place) (locality_in (edited (Number flags) d) place)
locality-follows flags null place = tt {0}
locality-follows flags (boolean b) place = tt {0}
locality-follows flags (number n) place = follows_same (locality_in (number n) place) _ refl
locality-follows flags (string s) place = follows_same (locality_in (string s) place) _ refl
locality-follows flags (array ds) place = follows_same (locality_in (array ds) place) _ refl
locality-follows flags (object ms) place = tt {0}

pub signature-follows : (d : Data) (place : Place) → Follows (digest_in d place) (digest_in (edited Signature d) place)
signature-follows null place = tt {0}
signature-follows (boolean b) place = tt {0}
signature-follows (number n) place = tt {0}
signature-follows (string s) place = follows_same (digest_in (string s) place) _ refl
signature-follows (array ds) place = follows_same (digest_in (array ds) place) _ refl
signature-follows (object ms) place = tt {0}

-- the profile's reader knows none of the other names
abbrev is_unread : List ℕ × ℕ → Bool
is_unread row = is_none (find_word (codes "TPM2_CC_") command_codes row.0) && is_none (number_of_text row.0)

all_unread : list_all is_unread other_codes ≡ true
unfolding find_word
all_unread = refl

both : (x y : Bool) → (x && y) ≡ true → (x ≡ true) × (y ≡ true)
both true y is = (refl, is)
both false y is = cc

is_none-none : {A : Type 0} (o : Option A) → is_none o ≡ true → o ≡ None
is_none-none None is = refl
is_none-none (Some x) is = cc

-- a text that the reader knows neither as a name nor as a number
abbrev IsUnread : List ℕ → Type 0
IsUnread text = (find_word (codes "TPM2_CC_") command_codes text ≡ None) × (number_of_text text ≡ None)

unread_at : (test : Bool) (row : List ℕ × ℕ) (text : List ℕ) (code : ℕ) (rest : Option ℕ) → bytes_eq row.0 text ≡ test → is_unread row ≡ true
    → (rest ≡ Some code → IsUnread text) → (if test then Some row.1 else rest) ≡ Some code → IsUnread text
unread_at true row text code rest same here later is =
    let apart = both (is_none (find_word (codes "TPM2_CC_") command_codes row.0)) (is_none (number_of_text row.0)) here in
    subst IsUnread ((bytes_eq-Decides row.0 text).0 same) (is_none-none _ apart.0, is_none-none _ apart.1)
unread_at false row text code rest other here later is = later is

unread : (rows : List (List ℕ × ℕ)) (text : List ℕ) (code : ℕ) → list_all is_unread rows ≡ true → meaning_of_word rows text ≡ Some code → IsUnread text
unfolding meaning_of_word
unread [] text code all is = cc
unread (row ∷ rows) text code all is =
    let here = both (is_unread row) (list_all is_unread rows) all in
    unread_at (bytes_eq row.0 text) row text code (meaning_of_word rows text) refl here.0 (unread rows text code here.1) is

code_of_text : (found : Option ℕ) (text : List ℕ) (place : Place) → (meaning_of_word other_codes text ≡ found) → Follows (code_in (string text) place) (code_in (number_or found (string text)) place)
code_of_text None text place is = follows_same (code_in (string text) place) _ refl
code_of_text (Some code) text place is =
    let apart = unread other_codes text code all_unread is in
    rw (apart.0, apart.1) (tt {0})

pub code-follows : (d : Data) (place : Place) → Follows (code_in d place) (code_in (edited Code d) place)
code-follows null place = tt {0}
code-follows (boolean b) place = tt {0}
code-follows (number n) place = follows_same (code_in (number n) place) _ refl
code-follows (string s) place = code_of_text (meaning_of_word other_codes s) s place refl
code-follows (array ds) place = tt {0}
code-follows (object ms) place = tt {0}
