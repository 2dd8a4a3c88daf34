-- The choices at an index, part by part.
use Rattle.std.proofs.Common.{◌≡◌, ◌≢◌, ℕ, zero, suc, ◌+◌, ◌-◌, ◌*◌, ◌<◌, ◌≤◌, min, true, false, List, [], ◌∷◌, ◌++◌, map, length, codes, get_or, drop, Some, refl, sym, ap, ◌∙◌, append_assoc, length-append, arith}
use Rattle.std.specs.Prelude.{is_some, unwrap_or, ⊤}
use Rattle.std.specs.List.{flat_map, slice_get}
use Rattle.std.proofs.lemmas.List.{append-nil, drop_more, length-map}
use Rattle.std.proofs.Math.ListN.{drop_of_length-le}
use Rattle.json.specs.Print.{quoted}
use Rattle.tpol_base.specs.declared.digest.Digest32.{Digest32}
use Rattle.tpol_tree.specs.declared.closed.Assertion.{Assertion}
use Rattle.tpol_tree.specs.declared.closed.ClosedElements.{ClosedElements}
use Rattle.tpol_tree.specs.declared.closed.ClosedElement.{ClosedElement}
use Rattle.tpol_tree.specs.declared.closed.ClosedElement.TheVariants.{Assert, Or, Authorize, AuthorizeNv}
use Rattle.tpol_tree.specs.declared.path.ApprovedDoc.{ApprovedDoc}
use Rattle.tpol_tree.specs.declared.path.Path.{Path}
use Rattle.tpol_tree.specs.declared.path.PathStep.{PathStep}
use Rattle.tpol_tree.specs.declared.path.PathStep.TheVariants.{Outside}
use Rattle.tpol_digest.specs.Digest.{zero_digest}
use Rattle.tpol_digest.specs.Paths.{approval_of}
use Rattle.tpol_digest.specs.Positions.{element_list_ways, element_ways}
use Rattle.tpol_digest.proofs.Images.{of_assertion, of_key, of_index, document_entered, document_passed, no_documents}
use Rattle.tpol_digest.proofs.Positions.{Parted, parted}
use Rattle.tpol_choose.proofs.Counts.{IsCount}
use Rattle.tpol_lines.specs.OpeningLine.{steps_of}
use Rattle.tpol_lines.specs.PathLine.{assertion_kind, label, step_text}
use Rattle.tpol_lines.specs.Pen.{behind_separator}
use Rattle.tpol_lines.specs.Texts.{GoesOn, Texts, approval_texts, behind_slash, both, document_texts, element_list_choices, element_list_texts, element_texts, join, of_choice, of_kind, step_texts, texts_of}
use Rattle.tpol_lines.proofs.TextLaws.{label_is, texts}

-- ---- at an index of a list that is made of parts

at_first : (xs ys : List Texts) (i : ℕ) (t : Texts) → slice_get xs i ≡ Some t → slice_get (xs ++ ys) i ≡ Some t
at_first [] ys i t h = cc
at_first (x ∷ xs) ys zero t h = h
at_first (x ∷ xs) ys (suc i) t h = at_first xs ys i t h

at_right : (xs ys : List Texts) (i : ℕ) (t : Texts) → slice_get ys i ≡ Some t → slice_get (xs ++ ys) (length xs + i) ≡ Some t
at_right [] ys i t h = let e : i ≡ 0 + i = omega arith in ap (slice_get ys) (sym e) ∙ h
at_right (x ∷ xs) ys i t h =
    let e : suc (length xs) + i ≡ suc (length xs + i) = omega arith in
    ap (slice_get (x ∷ (xs ++ ys))) e ∙ at_right xs ys i t h

at_later : (xs ys : List Texts) (i j : ℕ) (t : Texts) → j ≡ length xs + i → slice_get ys i ≡ Some t → slice_get (xs ++ ys) j ≡ Some t
at_later xs ys i j t e h = ap (slice_get (xs ++ ys)) e ∙ at_right xs ys i t h

at_map : (f : Texts → Texts) (xs : List Texts) (i : ℕ) (t : Texts) → slice_get xs i ≡ Some t → slice_get (map f xs) i ≡ Some (f t)
at_map f [] i t h = cc
at_map f (x ∷ xs) zero t h = cc
at_map f (x ∷ xs) (suc i) t h = at_map f xs i t h

at_both : (xs ys : List Texts) (i j k : ℕ) (s t : Texts) → slice_get xs i ≡ Some s → slice_get ys j ≡ Some t → k ≡ i * length ys + j → slice_get (both xs ys) k ≡ Some (join s t)
at_both [] ys i j k s t h g e = cc
at_both (x ∷ xs) ys zero j k s t h g e =
    let here : k ≡ j = omega (arith, e) in
    let same : x ≡ s = cc in
    ap (slice_get (map (join x) ys ++ both xs ys)) here
    ∙ at_first (map (join x) ys) (both xs ys) j (join x t) (at_map (join x) ys j t g)
    ∙ ap (λ first. Some (join first t)) same
at_both (x ∷ xs) ys (suc i) j k s t h g e =
    let later : k ≡ length (map (join x) ys) + (i * length ys + j) = omega (arith, e, length-map ys (join x)) in
    at_later (map (join x) ys) (both xs ys) (i * length ys + j) k (join s t) later (at_both xs ys i j (i * length ys + j) s t h g refl)

length-both : (xs ys : List Texts) → length (both xs ys) ≡ length xs * length ys
length-both [] ys = omega arith
length-both (x ∷ xs) ys =
    length-append (map (join x) ys) (both xs ys)
    ∙ ap (λ n. n + length (both xs ys)) (length-map ys (join x))
    ∙ ap (λ n. length ys + n) (length-both xs ys)
    ∙ omega arith

-- ---- a text that goes on by the choices of a part

pub goes_nowhere : (a : List ℕ) (one : Texts) (i : ℕ) → i < 1 → one.choices ≡ [] → GoesOn a (one ∷ []) i a
goes_nowhere a one zero h e = record { one = one; is_there = refl; follows = sym (append-nil a) ∙ ap (λ l. a ++ l) (sym e) }
goes_nowhere a one (suc i) h e = absurd (omega arith)

pub goes_outside : (a b : List ℕ) (i : ℕ) → i < 1 → b ≡ a ++ codes "/@*" → GoesOn a (step_texts Outside ∷ []) i b
goes_outside a b zero h e = record { one = step_texts Outside; is_there = refl; follows = e }
goes_outside a b (suc i) h e = absurd (omega arith)

pub goes_through : (a b c : List ℕ) (xs ys : List Texts) (i j k : ℕ) → GoesOn a xs i b → GoesOn b ys j c → k ≡ i * length ys + j → GoesOn a (both xs ys) k c
goes_through a b c xs ys i j k g h e = record {
  one = join g.one h.one;
  is_there = at_both xs ys i j k g.one h.one g.is_there h.is_there e;
  follows = h.follows ∙ ap (λ x. x ++ h.one.choices) g.follows ∙ append_assoc a g.one.choices h.one.choices;
}

pub goes_first : (a b : List ℕ) (xs ys : List Texts) (i : ℕ) → GoesOn a xs i b → GoesOn a (xs ++ ys) i b
goes_first a b xs ys i g = record { one = g.one; is_there = at_first xs ys i g.one g.is_there; follows = g.follows }

pub goes_later : (a b : List ℕ) (xs ys : List Texts) (i j : ℕ) → j ≡ length xs + i → GoesOn a ys i b → GoesOn a (xs ++ ys) j b
goes_later a b xs ys i j e g = record { one = g.one; is_there = at_later xs ys i j g.one e g.is_there; follows = g.follows }

pub goes_behind : (a next b text : List ℕ) (xs : List Texts) (i : ℕ) → next ≡ a ++ 47 ∷ text → GoesOn next xs i b → GoesOn a (map (join (of_choice text)) xs) i b
goes_behind a next b text xs i e g = record {
  one = join (of_choice text) g.one;
  is_there = at_map (join (of_choice text)) xs i g.one g.is_there;
  follows = g.follows ∙ ap (λ x. x ++ g.one.choices) e ∙ append_assoc a (47 ∷ text) g.one.choices;
}

pub goes_closed : (a b kind : List ℕ) (xs : List Texts) (i : ℕ) → GoesOn a xs i b → GoesOn a (map (λ x. join x (of_kind kind)) xs) i b
goes_closed a b kind xs i g = record {
  one = join g.one (of_kind kind);
  is_there = at_map (λ x. join x (of_kind kind)) xs i g.one g.is_there;
  follows = g.follows ∙ ap (λ l. a ++ l) (sym (append-nil g.one.choices));
}

-- ---- choices alone

choices_behind_kind : (kind : List ℕ) (ts : List Texts) → map (λ (t : Texts). t.choices) (map (join (of_kind kind)) ts) ≡ map (λ (t : Texts). t.choices) ts
choices_behind_kind kind [] = refl
choices_behind_kind kind (t ∷ ts) = ap (λ l. t.choices ∷ l) (choices_behind_kind kind ts)

-- an assertion leaves none
pub choices_behind : (documents : List ApprovedDoc) (levels : ℕ) (assertion : Assertion) (rest : ClosedElements) → map (λ (t : Texts). t.choices) (both (element_texts documents levels (Assert assertion)) (element_list_texts documents levels rest)) ≡ element_list_choices documents levels rest
choices_behind documents levels assertion rest =
    let ts = element_list_texts documents levels rest in
    ap (λ firsts. map (λ (t : Texts). t.choices) (both firsts ts)) (of_assertion texts documents levels assertion)
    ∙ ap (map (λ (t : Texts). t.choices)) (append-nil (map (join (of_kind (assertion_kind assertion))) ts))
    ∙ choices_behind_kind (assertion_kind assertion) ts

pub as_many : (xs ys : List Texts) → map (λ (t : Texts). t.choices) xs ≡ map (λ (t : Texts). t.choices) ys → length xs ≡ length ys
as_many xs ys e =
    sym (length-map xs (λ (t : Texts). t.choices)) ∙ ap length e ∙ length-map ys (λ (t : Texts). t.choices)

pub goes_alike : (a b : List ℕ) (xs ys : List Texts) (i : ℕ) → map (λ (t : Texts). t.choices) xs ≡ map (λ (t : Texts). t.choices) ys → GoesOn a xs i b → GoesOn a ys i b
goes_alike a b [] ys i e g = let none = g.is_there in cc
goes_alike a b (x ∷ xs) [] i e g = cc
goes_alike a b (x ∷ xs) (y ∷ ys) zero e g =
    let there = g.is_there in
    let one : x ≡ g.one = cc in
    let same : x.choices ≡ y.choices = cc in
    record {
      one = y;
      is_there = refl;
      follows = g.follows ∙ ap (λ (t : Texts). a ++ t.choices) (sym one) ∙ ap (λ l. a ++ l) same;
    }
goes_alike a b (x ∷ xs) (y ∷ ys) (suc i) e g =
    let rest : map (λ (t : Texts). t.choices) xs ≡ map (λ (t : Texts). t.choices) ys = cc in
    let r = goes_alike a b xs ys i rest (record { one = g.one; is_there = g.is_there; follows = g.follows }) in
    record { one = r.one; is_there = r.is_there; follows = r.follows }

-- ---- how many there are

pub counted : (documents : List ApprovedDoc) (levels : ℕ) (elements : ClosedElements) (count : ℕ) → IsCount documents levels elements count → count ≡ min (length (element_list_texts documents levels elements)) 65537
counted documents levels elements count h =
    h zero_digest ∙ ap (λ n. min n 65537) (sym (length-map (element_list_ways documents levels elements zero_digest) texts_of))

-- an index among the ways of elements, where those of the first, `lent` to the count, are counted
pub parts : (documents : List ApprovedDoc) (levels : ℕ) (element lent : ClosedElement) (rest : ClosedElements) (ways count index : ℕ) → lent ≡ element → ((before : Digest32) → ways ≡ min (length (element_ways documents levels lent before)) 65537) → count ≡ length (both (element_texts documents levels element) (element_list_texts documents levels rest)) → count ≤ 65536 → index < count → Parted ways count index (length (element_texts documents levels element)) (length (element_list_texts documents levels rest))
parts documents levels element lent rest ways count index same first all few inside =
    let firsts = element_texts documents levels element in
    let rests = element_list_texts documents levels rest in
    let exact = first zero_digest ∙ ap (λ e. min (length (element_ways documents levels e zero_digest)) 65537) same ∙ ap (λ n. min n 65537) (sym (length-map (element_ways documents levels element zero_digest) texts_of)) in
    parted ways count index (length firsts) (length rests) (all ∙ length-both firsts rests) few exact inside

-- a branch, or a document, and what stands behind it
pub counted_first : (count : ℕ) (text : List ℕ) (xs others : List Texts) → count ≡ min (length xs) 65537 → length (map (join (of_choice text)) xs ++ others) ≤ 65536 → (count ≡ length xs) × (length (map (join (of_choice text)) xs ++ others) ≡ count + length others)
counted_first count text xs others h few =
    let total = length-append (map (join (of_choice text)) xs) others in
    let same = length-map xs (join (of_choice text)) in
    let exact : count ≡ length xs = omega arith in
    (exact, omega arith)

-- ---- approvals

-- the element asks for one
abbrev pub IsAsking : ClosedElement → Type 0
IsAsking (Authorize key policy_ref) = ⊤
IsAsking (AuthorizeNv index) = ⊤
IsAsking element = ⊥

abbrev pub approval_kind : ClosedElement → List ℕ
approval_kind (Authorize key policy_ref) = codes "Approve"
approval_kind element = codes "ApproveNv"

pub approval_closed : (documents : List ApprovedDoc) (levels : ℕ) (element : ClosedElement) → IsAsking element → element_texts documents levels element ≡ map (λ x. join x (of_kind (approval_kind element))) (approval_texts documents levels element)
approval_closed documents levels (Assert assertion) h = absurd h
approval_closed documents levels (Or branches) h = absurd h
approval_closed documents levels (Authorize key policy_ref) h = of_key texts documents levels key policy_ref
approval_closed documents levels (AuthorizeNv index) h = of_index texts documents levels index

pub no_level : (documents : List ApprovedDoc) (levels : ℕ) (element : ClosedElement) → levels ≤ 0 → approval_texts documents levels element ≡ step_texts Outside ∷ []
no_level documents levels element h = ap (λ l. l ++ step_texts Outside ∷ []) (no_documents texts documents levels element h)

module _ (documents : List ApprovedDoc) (levels : ℕ) (element : ClosedElement) where
  -- by the documents from one on, and by another policy
  abbrev pub texts_from : ℕ → List Texts
  texts_from i = document_texts documents levels element (drop i documents) ++ step_texts Outside ∷ []

  drop_one : (i : ℕ) (document : ApprovedDoc) → i < length documents → document ≡ get_or documents i document → drop i documents ≡ document ∷ drop (i + 1) documents
  drop_one i document inside is = drop_more documents i document inside ∙ ap (λ x. x ∷ drop (i + 1) documents) (sym is)

  pub from_passed : (i : ℕ) (document : ApprovedDoc) → i < length documents → document ≡ get_or documents i document → is_some (approval_of element document) ≡ false → texts_from i ≡ texts_from (i + 1)
  from_passed i document inside is h =
      ap (λ l. document_texts documents levels element l ++ step_texts Outside ∷ []) (drop_one i document inside is)
      ∙ ap (λ l. (l ++ document_texts documents levels element (drop (i + 1) documents)) ++ step_texts Outside ∷ []) (document_passed texts documents levels element document h)

  pub from_entered : (i : ℕ) (document : ApprovedDoc) → i < length documents → document ≡ get_or documents i document → levels ≢ 0 → is_some (approval_of element document) ≡ true → texts_from i ≡ map (join (of_choice (64 ∷ quoted document.document))) (element_list_texts documents (levels - 1) document.closed.elements) ++ texts_from (i + 1)
  from_entered i document inside is level h =
      ap (λ l. document_texts documents levels element l ++ step_texts Outside ∷ []) (drop_one i document inside is)
      ∙ ap (λ l. (l ++ document_texts documents levels element (drop (i + 1) documents)) ++ step_texts Outside ∷ []) (document_entered texts documents levels element document level h)
      ∙ append_assoc (map (join (of_choice (64 ∷ quoted document.document))) (element_list_texts documents (levels - 1) document.closed.elements)) (document_texts documents levels element (drop (i + 1) documents)) (step_texts Outside ∷ [])

  pub from_none : (i : ℕ) → length documents ≤ i → texts_from i ≡ step_texts Outside ∷ []
  from_none i h =
      ap (λ l. document_texts documents levels element l ++ step_texts Outside ∷ []) (drop_of_length-le documents h)

-- ---- the whole path

slash_first : (steps : List PathStep) → unwrap_or (behind_slash (flat_map (λ step. 47 ∷ step_text step) steps)) (codes "-") ≡ behind_separator (flat_map (λ step. 47 ∷ step_text step) steps) (codes "-")
slash_first [] = refl
slash_first (step ∷ rest) = refl

pub at_path : (paths : List Path) (i : ℕ) (t : Texts) (made : List ℕ) → slice_get (map texts_of paths) i ≡ Some t → made ≡ unwrap_or (behind_slash t.choices) (codes "-") → made ≡ label (steps_of (slice_get paths i))
at_path [] i t made h e = cc
at_path (path ∷ rest) zero t made h e =
    let same : texts_of path ≡ t = cc in
    e
    ∙ ap (λ (x : Texts). unwrap_or (behind_slash x.choices) (codes "-")) (sym same)
    ∙ slash_first path.steps
    ∙ sym (label_is path.steps)
at_path (path ∷ rest) (suc i) t made h e = at_path rest i t made h e
