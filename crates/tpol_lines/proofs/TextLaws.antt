-- The lines of a walk's parts, put together.
use Rattle.std.proofs.Common.{◌≡◌, ℕ, suc, ◌+◌, List, [], ◌∷◌, ◌++◌, map, length, take, codes, decimal, refl, sym, ap, ◌∙◌, append_assoc, length-append, arith}
use Rattle.std.specs.List.{flat_map}
use Rattle.std.proofs.Math.Seq.{take-append_seam}
use Rattle.std.proofs.lemmas.List.{append-nil}
use Rattle.std.proofs.lemmas.List.Concat.{flat_map-append}
use Rattle.tpol_tree.specs.declared.path.Move.{Move}
use Rattle.tpol_tree.specs.declared.path.Path.{Path}
use Rattle.tpol_tree.specs.declared.path.PathStep.{PathStep}
use Rattle.tpol_tree.specs.declared.path.PathStep.TheVariants.{Outside}
use Rattle.tpol_digest.proofs.Images.{both-second_none}
use Rattle.tpol_digest.specs.Images.{IsImage}
use Rattle.tpol_digest.specs.Paths.{path_of_move, followed_by, between, outside_path}
use Rattle.tpol_lines.specs.declared.pen.Form.{Form}
use Rattle.tpol_lines.specs.declared.pen.Form.TheVariants.{Line, Label}
use Rattle.tpol_lines.specs.declared.pen.Pen.{Pen}
use Rattle.tpol_lines.specs.Lines.{line_of}
use Rattle.tpol_lines.specs.PathLine.{move_kind, step_text, label, kinds, path_line, path_lines}
use Rattle.tpol_lines.specs.Pen.{behind_separator, written}
use Rattle.tpol_lines.specs.Texts.{Texts, no_text, of_choice, of_kind, join, both, texts_of, step_texts, move_texts, lines_behind, texts_of_pen, Writes}

pub same_texts : (a b : Texts) → a.choices ≡ b.choices → a.kinds ≡ b.kinds → a ≡ b
same_texts a b choices kinds = λ i. record { choices = choices i; kinds = kinds i }

-- ---- texts one after the other

join_assoc : (a b c : Texts) → join (join a b) c ≡ join a (join b c)
join_assoc a b c =
    same_texts (join (join a b) c) (join a (join b c)) (append_assoc a.choices b.choices c.choices) (append_assoc a.kinds b.kinds c.kinds)

join_none : (a : Texts) → join a no_text ≡ a
join_none a = same_texts (join a no_text) a (append-nil a.choices) (append-nil a.kinds)

-- ---- what is written

pub lines-length : (form : Form) (n : ℕ) (before : Texts) (ts : List Texts) → length (lines_behind form n before ts) ≡ length ts
lines-length form n before [] = refl
lines-length form n before (t ∷ ts) = ap suc (lines-length form (n + 1) before ts)

pub lines-append : (form : Form) (n : ℕ) (before : Texts) (xs ys : List Texts) → lines_behind form n before (xs ++ ys) ≡ lines_behind form n before xs ++ lines_behind form (n + length xs) before ys
lines-append form n before [] ys = let e : n ≡ n + 0 = omega arith in ap (λ m. lines_behind form m before ys) e
lines-append form n before (x ∷ xs) ys =
    let line = written form n (before.choices ++ x.choices) (before.kinds ++ x.kinds) in
    let e : n + 1 + length xs ≡ n + suc (length xs) = omega arith in
    ap (λ l. line ∷ l) (lines-append form (n + 1) before xs ys)
    ∙ ap (λ m. line ∷ (lines_behind form (n + 1) before xs ++ lines_behind form m before ys)) e

pub lines-join : (form : Form) (n : ℕ) (before a : Texts) (ts : List Texts) → lines_behind form n before (map (join a) ts) ≡ lines_behind form n (join before a) ts
lines-join form n before a [] = refl
lines-join form n before a (t ∷ ts) =
    ap (λ choices. written form n choices (before.kinds ++ (a.kinds ++ t.kinds)) ∷ lines_behind form (n + 1) before (map (join a) ts)) (sym (append_assoc before.choices a.choices t.choices))
    ∙ ap (λ kinds. written form n ((before.choices ++ a.choices) ++ t.choices) kinds ∷ lines_behind form (n + 1) before (map (join a) ts)) (sym (append_assoc before.kinds a.kinds t.kinds))
    ∙ ap (λ l. written form n ((before.choices ++ a.choices) ++ t.choices) ((before.kinds ++ a.kinds) ++ t.kinds) ∷ l) (lines-join form (n + 1) before a ts)

-- ---- what a pen has written

pub writes_then : (form : Form) (a b c : Pen) (xs ys : List Texts) → Writes form a b xs → Writes form b c ys → Writes form a c (xs ++ ys)
writes_then form a b c xs ys g h = record {
  lines =
      let count : length b.lines ≡ length a.lines + length xs =
      ap length g.lines ∙ length-append a.lines (lines_behind form (length a.lines + 1) (texts_of_pen a) xs) ∙ ap (λ n. length a.lines + n) (lines-length form (length a.lines + 1) (texts_of_pen a) xs) in
      let position : length b.lines + 1 ≡ length a.lines + 1 + length xs = omega arith in
      let texts : texts_of_pen b ≡ texts_of_pen a = same_texts (texts_of_pen b) (texts_of_pen a) g.choices g.kinds in
      h.lines
      ∙ ap (λ n. b.lines ++ lines_behind form n (texts_of_pen b) ys) position
      ∙ ap (λ t. b.lines ++ lines_behind form (length a.lines + 1 + length xs) t ys) texts
      ∙ ap (λ l. l ++ lines_behind form (length a.lines + 1 + length xs) (texts_of_pen a) ys) g.lines
      ∙ append_assoc a.lines (lines_behind form (length a.lines + 1) (texts_of_pen a) xs) (lines_behind form (length a.lines + 1 + length xs) (texts_of_pen a) ys)
      ∙ ap (λ l. a.lines ++ l) (sym (lines-append form (length a.lines + 1) (texts_of_pen a) xs ys));
  choices = h.choices ∙ g.choices;
  kinds = h.kinds ∙ g.kinds;
}

pub writes_nothing : (form : Form) (a : Pen) → Writes form a a []
writes_nothing form a = record { lines = sym (append-nil a.lines); choices = refl; kinds = refl }

-- the pen took a choice or a kind, wrote, and gave it back
pub writes_behind : (form : Form) (a b c d : Pen) (text : Texts) (ts : List Texts) → b.lines ≡ a.lines → texts_of_pen b ≡ join (texts_of_pen a) text → Writes form b c ts → d.lines ≡ c.lines → d.choices.items ≡ a.choices.items → d.kinds.items ≡ a.kinds.items → Writes form a d (map (join text) ts)
writes_behind form a b c d text ts same longer g kept choices kinds = record {
  lines =
      kept
      ∙ g.lines
      ∙ ap (λ l. l ++ lines_behind form (length l + 1) (texts_of_pen b) ts) same
      ∙ ap (λ t. a.lines ++ lines_behind form (length a.lines + 1) t ts) longer
      ∙ ap (λ l. a.lines ++ l) (sym (lines-join form (length a.lines + 1) (texts_of_pen a) text ts));
  choices = choices;
  kinds = kinds;
}

-- what was taken for a while is given back
given_back : (n : ℕ) (old more now : List ℕ) → n ≡ length old → now ≡ old ++ more → take n now ≡ old
given_back n old more now e f = ap (λ m. take m now) e ∙ ap (take (length old)) f ∙ take-append_seam old more

-- a kind, and what was written behind it
pub kind_written : (form : Form) (a b c d : Pen) (kind : List ℕ) (ts : List Texts) (n : ℕ) → b.lines ≡ a.lines → b.choices ≡ a.choices → b.kinds.items ≡ a.kinds.items ++ 44 ∷ kind → Writes form b c ts → n ≡ length a.kinds.items → d.lines ≡ c.lines → d.choices ≡ c.choices → d.kinds.items ≡ take n c.kinds.items → Writes form a d (map (join (of_kind kind)) ts)
kind_written form a b c d kind ts n lines choices longer g kept same_lines same_choices cut =
    let choice : b.choices.items ≡ a.choices.items = ap (λ v. v.items) choices in
    writes_behind form a b c d (of_kind kind) ts lines (same_texts (texts_of_pen b) (join (texts_of_pen a) (of_kind kind)) (choice ∙ sym (append-nil a.choices.items)) longer) g same_lines (ap (λ v. v.items) same_choices ∙ g.choices ∙ choice) (cut ∙ given_back n a.kinds.items (44 ∷ kind) c.kinds.items kept (g.kinds ∙ longer))

-- choices alone tell no kind
labels-kind : (n : ℕ) (before : Texts) (kind : List ℕ) (ts : List Texts) → lines_behind Label n before (map (join (of_kind kind)) ts) ≡ lines_behind Label n before ts
labels-kind n before kind [] = refl
labels-kind n before kind (t ∷ ts) = ap (λ l. behind_separator (before.choices ++ t.choices) (codes "-") ∷ l) (labels-kind (n + 1) before kind ts)

pub kind_left_out : (form : Form) (a b : Pen) (kind : List ℕ) (ts : List Texts) → form ≡ Label → Writes form a b ts → Writes form a b (map (join (of_kind kind)) ts)
kind_left_out form a b kind ts is g = record {
  lines =
      let n = length a.lines + 1 in
      let before = texts_of_pen a in
      g.lines
      ∙ ap (λ f. a.lines ++ lines_behind f n before ts) is
      ∙ ap (λ l. a.lines ++ l) (sym (labels-kind n before kind ts))
      ∙ ap (λ f. a.lines ++ lines_behind f n before (map (join (of_kind kind)) ts)) (sym is);
  choices = g.choices;
  kinds = g.kinds;
}

-- a choice, and what was written behind it
pub choice_written : (form : Form) (a b c d : Pen) (text : List ℕ) (ts : List Texts) (n : ℕ) → b.lines ≡ a.lines → b.kinds ≡ a.kinds → b.choices.items ≡ a.choices.items ++ 47 ∷ text → Writes form b c ts → n ≡ length a.choices.items → d.lines ≡ c.lines → d.kinds ≡ c.kinds → d.choices.items ≡ take n c.choices.items → Writes form a d (map (join (of_choice text)) ts)
choice_written form a b c d text ts n lines kinds longer g kept same_lines same_kinds cut =
    let kind : b.kinds.items ≡ a.kinds.items = ap (λ v. v.items) kinds in
    writes_behind form a b c d (of_choice text) ts lines (same_texts (texts_of_pen b) (join (texts_of_pen a) (of_choice text)) longer (kind ∙ sym (append-nil a.kinds.items))) g same_lines (cut ∙ given_back n a.choices.items (47 ∷ text) c.choices.items kept (g.choices ∙ longer)) (ap (λ v. v.items) same_kinds ∙ g.kinds ∙ kind)

-- what is written of a path that is whole
pub line_written : (form : Form) (a b : Pen) → b.lines ≡ a.lines ++ written form (length a.lines + 1) a.choices.items a.kinds.items ∷ [] → b.choices ≡ a.choices → b.kinds ≡ a.kinds → Writes form a b (no_text ∷ [])
line_written form a b lines choices kinds = record {
  lines =
      lines
      ∙ ap (λ l. a.lines ++ written form (length a.lines + 1) l a.kinds.items ∷ []) (sym (append-nil a.choices.items))
      ∙ ap (λ l. a.lines ++ written form (length a.lines + 1) (a.choices.items ++ []) l ∷ []) (sym (append-nil a.kinds.items));
  choices = ap (λ v. v.items) choices;
  kinds = ap (λ v. v.items) kinds;
}

-- ---- the texts of paths

flat-two : {A : Type 0} (f : A → List ℕ) (xs ys : List A) → flat_map f (xs ++ ys) ≡ flat_map f xs ++ flat_map f ys
flat-two f xs ys = flat_map-append f xs ys

texts-followed : (p q : Path) → texts_of (followed_by p q) ≡ join (texts_of p) (texts_of q)
texts-followed p q =
    same_texts (texts_of (followed_by p q)) (join (texts_of p) (texts_of q)) (flat-two (λ step. 47 ∷ step_text step) p.steps q.steps) (flat-two (λ act. 44 ∷ move_kind act) p.moves q.moves)

-- a path behind a choice and before a move
texts-between : (step : PathStep) (act : Move) (p : Path) → texts_of (between step act p) ≡ join (join (of_choice (step_text step)) (texts_of p)) (of_kind (move_kind act))
texts-between step act p =
    same_texts (texts_of (between step act p)) (join (join (of_choice (step_text step)) (texts_of p)) (of_kind (move_kind act))) (sym (append-nil ((47 ∷ step_text step) ++ flat_map (λ s. 47 ∷ step_text s) p.steps))) (flat-two (λ a. 44 ∷ move_kind a) p.moves (act ∷ []) ∙ ap (λ l. flat_map (λ a. 44 ∷ move_kind a) p.moves ++ l) (append-nil (44 ∷ move_kind act)))

texts-one : (act : Move) → texts_of (path_of_move act) ≡ move_texts act
texts-one act = same_texts (texts_of (path_of_move act)) (move_texts act) refl (append-nil (44 ∷ move_kind act))

texts-outside : (act : Move) → texts_of (outside_path act) ≡ join (step_texts Outside) (move_texts act)
texts-outside act = same_texts (texts_of (outside_path act)) (join (step_texts Outside) (move_texts act)) refl (append-nil (44 ∷ move_kind act))

pub texts : IsImage texts_of no_text join step_texts move_texts
texts = record {
  assoc = join_assoc;
  first_none = λ a. refl;
  second_none = join_none;
  followed = texts-followed;
  closed = λ step act p inside. texts-between step act p;
  one = texts-one;
  outside = texts-outside;
  branch = λ number name. refl;
  or = λ digests. refl;
  by_key = λ key policy_ref approved signature. refl;
  by_index = λ index approved. refl;
}

-- ---- the whole list

pub label_is : (steps : List PathStep) → label steps ≡ behind_separator (flat_map (λ step. 47 ∷ step_text step) steps) (codes "-")
label_is [] = refl
label_is (step ∷ rest) = ap (λ l. step_text step ++ l) (pieces rest)
  where
    pieces : (rest : List PathStep) → flat_map (λ piece. 47 ∷ piece) (map step_text rest) ≡ flat_map (λ x. 47 ∷ step_text x) rest
    pieces [] = refl
    pieces (x ∷ xs) = ap (λ l. (47 ∷ step_text x) ++ l) (pieces xs)

kinds_are : (moves : List Move) → kinds moves ≡ behind_separator (flat_map (λ act. 44 ∷ move_kind act) moves) []
kinds_are [] = refl
kinds_are (act ∷ rest) = ap (λ l. move_kind act ++ l) (pieces rest)
  where
    pieces : (rest : List Move) → flat_map (λ piece. 44 ∷ piece) (map move_kind rest) ≡ flat_map (λ x. 44 ∷ move_kind x) rest
    pieces [] = refl
    pieces (x ∷ xs) = ap (λ l. (44 ∷ move_kind x) ++ l) (pieces xs)

pub lines_of_paths : (n : ℕ) (paths : List Path) → lines_behind Line n no_text (map texts_of paths) ≡ path_lines n paths
lines_of_paths n [] = refl
lines_of_paths n (path ∷ rest) =
    ap (λ l. line_of (codes "path " ++ decimal n ++ codes " " ++ l ++ codes " " ++ behind_separator (texts_of path).kinds []) ∷ lines_behind Line (n + 1) no_text (map texts_of rest)) (sym (label_is path.steps))
    ∙ ap (λ l. line_of (codes "path " ++ decimal n ++ codes " " ++ label path.steps ++ codes " " ++ l) ∷ lines_behind Line (n + 1) no_text (map texts_of rest)) (sym (kinds_are path.moves))
    ∙ ap (λ l. line_of (path_line n path) ∷ l) (lines_of_paths (n + 1) rest)

pub labels_of_paths : (n : ℕ) (paths : List Path) → lines_behind Label n no_text (map texts_of paths) ≡ map (λ path. label path.steps) paths
labels_of_paths n [] = refl
labels_of_paths n (path ∷ rest) =
    ap (λ l. l ∷ lines_behind Label (n + 1) no_text (map texts_of rest)) (sym (label_is path.steps))
    ∙ ap (λ l. label path.steps ∷ l) (labels_of_paths (n + 1) rest)

pub whole_lines : (form : Form) (start end : Pen) (paths : List Path) → start.lines ≡ [] → start.choices.items ≡ [] → start.kinds.items ≡ [] → Writes form start end (both (map texts_of paths) (no_text ∷ [])) → end.lines ≡ lines_behind form 1 no_text (map texts_of paths)
whole_lines form start end paths lines choices kinds g =
    g.lines
    ∙ ap (λ l. l ++ lines_behind form (length l + 1) (texts_of_pen start) (both (map texts_of paths) (no_text ∷ []))) lines
    ∙ ap (λ t. lines_behind form 1 t (both (map texts_of paths) (no_text ∷ []))) (same_texts (texts_of_pen start) no_text choices kinds)
    ∙ ap (lines_behind form 1 no_text) (both-second_none texts (map texts_of paths))
