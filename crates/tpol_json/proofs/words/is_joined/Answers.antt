use Rattle.std.proofs.Common.{◌≡◌, ◌∙◌, sym, true≢false, length, drop}
use Rattle.std.specs.Prelude.{map}
use Rattle.std.specs.Char.{to_ascii_lowercase}
use Rattle.tpol_json.proofs.WordsLemmas.{joined, front_of_joined, back_of_joined}
use Rattle.tpol_json.proofs.words.is_joined.Goals as goal

pub returns-then-eq_ignore_ascii_case : goal.returns-then-eq_ignore_ascii_case
returns-then-eq_ignore_ascii_case c =
    let text = c.args.text.now in
    let prefix = c.args.prefix.now in
    let word = c.args.word.now in
    let back : map to_ascii_lowercase (drop (length prefix) text) ≡ map to_ascii_lowercase word = rw c.split_at.ensures.back at (c.eq_ignore_ascii_case.ensures.test.0 c.if-eq_ignore_ascii_case.true) in (
      λ h. joined to_ascii_lowercase text prefix word (rw c.split_at.ensures.front at (c.eq_ignore_ascii_case-then-eq_ignore_ascii_case.ensures.test.0 h)) back,
      λ h. c.eq_ignore_ascii_case-then-eq_ignore_ascii_case.ensures.test.1 (rw c.split_at.ensures.front (front_of_joined to_ascii_lowercase text prefix word h)),
    )

pub returns-else-eq_ignore_ascii_case : goal.returns-else-eq_ignore_ascii_case
returns-else-eq_ignore_ascii_case c =
    let text = c.args.text.now in
    let prefix = c.args.prefix.now in
    let word = c.args.word.now in (
      λ h. absurd (true≢false (sym h ∙ c.if-eq_ignore_ascii_case.false)),
      λ h. c.eq_ignore_ascii_case.ensures.test.1 (rw c.split_at.ensures.back (back_of_joined to_ascii_lowercase text prefix word h)),
    )
