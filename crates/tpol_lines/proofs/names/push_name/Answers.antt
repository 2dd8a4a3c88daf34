use Rattle.std.proofs.Common.{◌≡◌, ℕ, List, [], ◌∷◌, ◌++◌, true, rules, sym, ap, ◌∙◌}
use Rattle.std.proofs.lemmas.List.{append_assoc}
use Rattle.std.specs.List.{list_all}
use Rattle.json.specs.Run.{is_plain}
use Rattle.tpol_lines.proofs.PlainNames.{plain_quoted}
use Rattle.tpol_lines.proofs.names.push_name.Goals as goal

pub returns : goal.returns
returns c =
    let before = c.args.text.now.items in
    let name = c.args.name.now in
    let plain : list_all is_plain name ≡ true = search rules in
    let opened =
    c.in_ok-extend_from_slice.ensures.items
    ∙ ap (λ (line : List ℕ). line ++ c.as_bytes.result.now) c.in_ok-push.ensures.items
    ∙ ap (λ (text : List ℕ). (before ++ 34 ∷ []) ++ text) c.as_bytes.ensures.value in
    c.in_ok-push-2.ensures.items
    ∙ ap (λ (line : List ℕ). line ++ 34 ∷ []) opened
    ∙ append_assoc (before ++ 34 ∷ []) name (34 ∷ [])
    ∙ append_assoc before (34 ∷ []) (name ++ 34 ∷ [])
    ∙ ap (λ (text : List ℕ). before ++ text) (sym (plain_quoted name plain))
