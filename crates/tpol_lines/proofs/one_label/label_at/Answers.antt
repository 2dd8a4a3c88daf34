use Rattle.std.proofs.Common.{◌≡◌, ℕ, ◌-◌, ◌≤◌, ◌++◌, List, [], codes, length, min, slice_get, subst, ap, ◌∙◌, arith}
use Rattle.std.specs.Prelude.{unwrap_or}
use Rattle.std.proofs.lemmas.List.{length-map}
use Rattle.std.proofs.lemmas.Result.{IfOk-weaker}
use Rattle.tpol_tree.specs.declared.closed.Closed.{Closed}
use Rattle.tpol_tree.specs.declared.closed.ClosedElements.{ClosedElements}
use Rattle.tpol_tree.specs.declared.path.ApprovedDoc.{ApprovedDoc}
use Rattle.tpol_digest.specs.Paths.{paths_of}
use Rattle.tpol_lines.specs.OpeningLine.{steps_of}
use Rattle.tpol_lines.specs.PathLine.{label}
use Rattle.tpol_lines.specs.Texts.{GoesOn, behind_slash, element_list_choices, element_list_texts, texts_of}
use Rattle.tpol_lines.proofs.LabelLaws.{as_many, at_path, counted, goes_alike}
use Rattle.tpol_lines.proofs.one_label.label_at.Goals as goal

-- the ways of the policy, as they were counted for the walk, behind its first assertions
all_counted : (policy : Closed) (approvals lent : List ApprovedDoc) (behind : ClosedElements) (count : ℕ) → lent ≡ approvals → length (paths_of policy approvals) ≤ 65536 → element_list_choices lent 4 behind ≡ element_list_choices lent 4 policy.elements → count ≡ min (length (element_list_texts lent 4 behind)) 65537 → (count ≡ length (element_list_texts lent 4 behind)) × (count ≡ length (paths_of policy approvals))
all_counted policy approvals lent behind count same few alike h =
    let whole = as_many (element_list_texts lent 4 behind) (element_list_texts lent 4 policy.elements) alike in
    let ways = ap (λ l. length (element_list_texts l 4 policy.elements)) same ∙ length-map (paths_of policy approvals) texts_of in
    (omega (arith, whole, ways, h, few), omega (arith, whole, ways, h, few))

-- what the walk behind the first assertions wrote
told : (policy : Closed) (approvals lent : List ApprovedDoc) (behind : ClosedElements) (index : ℕ) (start written made : List ℕ) → lent ≡ approvals → element_list_choices lent 4 behind ≡ element_list_choices lent 4 policy.elements → start ≡ [] → GoesOn start (element_list_texts lent 4 behind) index written → made ≡ unwrap_or (behind_slash written) (codes "-") → made ≡ label (steps_of (slice_get (paths_of policy approvals) index))
told policy approvals lent behind index start written made same alike empty gone e =
    let whole = goes_alike start written (element_list_texts lent 4 behind) (element_list_texts lent 4 policy.elements) index alike gone in
    let g = subst (λ l. GoesOn start (element_list_texts l 4 policy.elements) index written) same whole in
    at_path (paths_of policy approvals) index g.one made g.is_there (e ∙ ap (λ l. unwrap_or (behind_slash l) (codes "-")) (g.follows ∙ ap (λ l. l ++ g.one.choices) empty))

pub push_elements-requires-clause-counted : goal.push_elements-requires-clause-counted
push_elements-requires-clause-counted c =
    let lent = c.as_slice.result.now in
    let behind = c.behind_assertions-elements.result.now in
    let all = all_counted c.args.policy.now c.args.approvals.now lent behind c.count_ways-count.result c.as_slice.ensures c.requires.within.few (c.behind_assertions-elements.ensures lent 4) (counted lent 4 behind c.count_ways-count.result c.count_ways-count.ensures.ways) in
    all.0

pub push_elements-requires-clause-few : goal.push_elements-requires-clause-few
push_elements-requires-clause-few c =
    let lent = c.as_slice.result.now in
    let behind = c.behind_assertions-elements.result.now in
    let all = all_counted c.args.policy.now c.args.approvals.now lent behind c.count_ways-count.result c.as_slice.ensures c.requires.within.few (c.behind_assertions-elements.ensures lent 4) (counted lent 4 behind c.count_ways-count.result c.count_ways-count.ensures.ways) in
    omega (arith, all.1, c.requires.within.few)

pub push_elements-requires-clause-inside : goal.push_elements-requires-clause-inside
push_elements-requires-clause-inside c =
    let lent = c.as_slice.result.now in
    let behind = c.behind_assertions-elements.result.now in
    let all = all_counted c.args.policy.now c.args.approvals.now lent behind c.count_ways-count.result c.as_slice.ensures c.requires.within.few (c.behind_assertions-elements.ensures lent 4) (counted lent 4 behind c.count_ways-count.result c.count_ways-count.ensures.ways) in
    omega (arith, all.1, c.requires.positions)

pub returns-in-Some : goal.returns-in-Some
returns-in-Some c =
    let lent = c.as_slice.result.now in
    let behind = c.behind_assertions-elements.result.now in
    let start = c.new-choices.result in
    let written = c.push_elements.new.choices in
    let gone = subst (λ i. GoesOn start (element_list_texts lent 4 behind) i written) c.from-index.ensures c.in_ok-push_elements.ensures in
    let rest = c.in-Some.ensures ∙ ap behind_slash c.as_str.ensures in
    IfOk-weaker c.from_str.result _ _ (λ text e. told c.args.policy.now c.args.approvals.now lent behind (c.args.position - 1) start written text c.as_slice.ensures (c.behind_assertions-elements.ensures lent 4) c.new-choices.ensures gone (e ∙ ap (λ o. unwrap_or o (codes "-")) rest)) c.from_str.ensures

pub returns : goal.returns
returns c =
    let lent = c.as_slice.result.now in
    let behind = c.behind_assertions-elements.result.now in
    let start = c.new-choices.result in
    let written = c.push_elements.new.choices in
    let gone = subst (λ i. GoesOn start (element_list_texts lent 4 behind) i written) c.from-index.ensures c.in_ok-push_elements.ensures in
    let rest = c.in-None.ensures ∙ ap behind_slash c.as_str.ensures in
    IfOk-weaker c.from_str-in-None.result _ _ (λ text e. told c.args.policy.now c.args.approvals.now lent behind (c.args.position - 1) start written text c.as_slice.ensures (c.behind_assertions-elements.ensures lent 4) c.new-choices.ensures gone (e ∙ ap (λ o. unwrap_or o (codes "-")) rest)) c.from_str-in-None.ensures
