use Rattle.std.proofs.Common.{true≢false, ◌≡◌, ◌<◌, ◌-◌, ◌∷◌, ◌++◌, [], length, ap, ◌∙◌, sym, slice_get, Some, arith}
use Rattle.std.proofs.lemmas.Option.{same_Some, slice_get_read, slice_get_within}
use Rattle.std.proofs.lemmas.Slice.Eq.{bytes_eq-Decides}
use Rattle.tpol_texts.proofs.Cuts.{last_of}
use Rattle.tpol_texts.proofs.texts.Texts.keep.Goals.{in-Some+else-eq, in_default}
use Rattle.tpol_texts.proofs.texts.Texts.keep.Goals as goal

pub returns-then-eq-clause-kept : goal.returns-then-eq-clause-kept
returns-then-eq-clause-kept c =
    let last = c.get.result.now in
    let same : last ≡ c.args.text.now = (bytes_eq-Decides last c.args.text.now).0 (sym c.eq.ensures ∙ c.if-eq.true) in
    let within : c.in-Some.last < c.len.result = omega (arith, c.in-Some.ensures.0, c.in-Some.ensures.1) in
    slice_get_read c.args.self.now c.len.result c.in-Some.last last c.len.ensures within c.get.ensures
    ∙ ap Some same

pub returns-clause-kept : goal.returns-clause-kept
returns-clause-kept c =
    ap (λ texts. slice_get texts c.len-index.result) c.in_ok-push.ensures.ok
    ∙ ap (slice_get (c.args.self.now ++ c.args.text.now ∷ [])) c.len-index.ensures
    ∙ last_of c.args.self.now c.args.text.now

pub returns-clause-same : goal.returns-clause-same
returns-clause-same c = λ same. elim c.match-checked_sub.branch [
  | in-Some+else-eq w ↦
      let last = w.get.result.now in
      let within : w.in-Some.last < c.len.result = omega (arith, w.in-Some.ensures.0, w.in-Some.ensures.1) in
      let there = slice_get_read c.args.self.now c.len.result w.in-Some.last last c.len.ensures within w.get.ensures in
      let index : w.in-Some.last ≡ length c.args.self.now - 1 = omega (arith, w.in-Some.ensures.0, w.in-Some.ensures.1, c.len.ensures) in
      let alike = same_Some last c.args.text.now (sym there ∙ ap (slice_get c.args.self.now) index ∙ same) in
      absurd (true≢false (sym ((bytes_eq-Decides last c.args.text.now).1 alike) ∙ sym w.if-eq.ensures))
  | in_default w ↦
      let within = slice_get_within c.args.self.now (length c.args.self.now - 1) c.args.text.now same in
      absurd (w.in_default.ensures (omega (arith, within, c.len.ensures)))
]
