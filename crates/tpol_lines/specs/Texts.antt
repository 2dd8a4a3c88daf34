-- The choices and the kinds of paths, as text.
use Rattle.std.specs.Prelude.{◌≡◌, ℕ, ◌+◌, List, [], ◌∷◌, ◌++◌, codes, drop, length, map, nat_eq, Option, Some, None, if◌then◌else◌}
use Rattle.std.specs.List.{flat_map, slice_get, starts_with}
use Rattle.tpol_tree.specs.declared.closed.ClosedElements.{ClosedElements}
use Rattle.tpol_tree.specs.declared.closed.ClosedElement.{ClosedElement}
use Rattle.tpol_tree.specs.declared.closed.ClosedBranches.{ClosedBranches}
use Rattle.tpol_tree.specs.declared.path.ApprovedDoc.{ApprovedDoc}
use Rattle.tpol_tree.specs.declared.path.Move.{Move}
use Rattle.tpol_tree.specs.declared.path.Path.{Path}
use Rattle.tpol_tree.specs.declared.path.PathStep.{PathStep}
use Rattle.tpol_digest.specs.Images as images
use Rattle.tpol_lines.specs.declared.path_lines.Ahead.{Ahead}
use Rattle.tpol_lines.specs.declared.path_lines.Ahead.TheVariants.{Nothing, After'}
use Rattle.tpol_lines.specs.declared.pen.Form.{Form}
use Rattle.tpol_lines.specs.declared.pen.Pen.{Pen}
use Rattle.tpol_lines.specs.PathLine.{move_kind, step_text}
use Rattle.tpol_lines.specs.Pen.{written}

-- the choices, each behind a `/`, and the kinds of the policy commands, each behind a `,`
pub record Texts : Type 0 where
  pub choices : List ℕ
  pub kinds : List ℕ

-- nothing; one choice; one kind
abbrev pub no_text : Texts
no_text = record { choices = []; kinds = [] }

abbrev pub of_choice : List ℕ → Texts
of_choice text = record { choices = 47 ∷ text; kinds = [] }

abbrev pub of_kind : List ℕ → Texts
of_kind text = record { choices = []; kinds = 44 ∷ text }

-- one and then the other, and each of the first with each of the others
abbrev pub join : Texts → Texts → Texts
join a b = record { choices = a.choices ++ b.choices; kinds = a.kinds ++ b.kinds }

abbrev pub both : List Texts → List Texts → List Texts
both firsts rests = images.both join firsts rests

-- of a path
abbrev pub texts_of : Path → Texts
texts_of path = record { choices = flat_map (λ step. 47 ∷ step_text step) path.steps; kinds = flat_map (λ act. 44 ∷ move_kind act) path.moves }

-- of one choice and of one move
abbrev pub step_texts : PathStep → Texts
step_texts step = of_choice (step_text step)

abbrev pub move_texts : Move → Texts
move_texts act = of_kind (move_kind act)

-- of the paths of elements, of one element, of branches without the move of their OR, of documents that an element's approver
-- approved and of all ways by an approval, these without the move of the approval; documents may be entered so many levels
-- deep
abbrev pub element_list_texts : List ApprovedDoc → ℕ → ClosedElements → List Texts
element_list_texts documents levels elements = images.element_list_images texts_of documents levels elements

-- the choices alone of the paths of elements
abbrev pub element_list_choices : List ApprovedDoc → ℕ → ClosedElements → List (List ℕ)
element_list_choices documents levels elements = map (λ (t : Texts). t.choices) (element_list_texts documents levels elements)

abbrev pub element_texts : List ApprovedDoc → ℕ → ClosedElement → List Texts
element_texts documents levels element = images.element_images texts_of documents levels element

abbrev pub branch_texts : List ApprovedDoc → ℕ → ClosedBranches → List Texts
branch_texts documents levels branches = images.branch_images texts_of join step_texts documents levels branches

abbrev pub document_texts : List ApprovedDoc → ℕ → ClosedElement → List ApprovedDoc → List Texts
document_texts documents levels element some = images.documents_images texts_of join step_texts documents levels element some

abbrev pub approval_texts : List ApprovedDoc → ℕ → ClosedElement → List Texts
approval_texts documents levels element = images.approval_images texts_of join step_texts documents levels element

-- of what comes behind a branch or a document: the move that closes it, and the rest of the list that it
-- stands in
abbrev pub texts_ahead : List ApprovedDoc → Ahead → List Texts
texts_ahead documents Nothing = no_text ∷ []
texts_ahead documents (After' kind rest levels p ahead) =
    map (join (of_kind kind.now)) (both (element_list_texts documents levels rest.now) (texts_ahead documents ahead))

-- what is written of each, from this position on, behind the texts so far
abbrev pub lines_behind : Form → ℕ → Texts → List Texts → List (List ℕ)
lines_behind form position before [] = []
lines_behind form position before (texts ∷ rest) =
    written form position (before.choices ++ texts.choices) (before.kinds ++ texts.kinds) ∷ lines_behind form (position + 1) before rest

-- a pen's texts so far
abbrev pub texts_of_pen : Pen → Texts
texts_of_pen pen = record { choices = pen.choices.items; kinds = pen.kinds.items }

-- the pen has written of each of these, behind its texts, and its texts are as before
pub record Writes (form : Form) (before after : Pen) (texts : List Texts) : Type 0 where
  pub lines : after.lines ≡ before.lines ++ lines_behind form (length before.lines + 1) (texts_of_pen before) texts
  pub choices : after.choices.items ≡ before.choices.items
  pub kinds : after.kinds.items ≡ before.kinds.items

-- a text goes on by the choices of one of these, by its index from 0
pub record GoesOn (before : List ℕ) (texts : List Texts) (index : ℕ) (after : List ℕ) : Type 0 where
  pub one : Texts
  pub is_there : slice_get texts index ≡ Some one
  pub follows : after ≡ before ++ one.choices

-- what follows a slash at the front of a text
abbrev pub behind_slash : List ℕ → Option (List ℕ)
behind_slash text = if starts_with nat_eq text (codes "/") then Some (drop 1 text) else None
