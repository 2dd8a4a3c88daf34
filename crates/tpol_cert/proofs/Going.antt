-- The choices at an index, part by part.
use Rattle.std.proofs.Common.{◌≡◌, ◌≢◌, ℕ, zero, suc, ◌+◌, ◌-◌, ◌*◌, ◌<◌, ◌≤◌, min, Bool, true, false, List, [], ◌∷◌, ◌++◌, map, length, get_or, drop, Some, refl, sym, ap, ◌∙◌, subst, append_assoc, length-append, arith}
use Rattle.std.specs.Prelude.{is_some, if◌then◌else◌}
use Rattle.std.specs.List.{AllByRecursion, slice_get}
use Rattle.std.proofs.lemmas.List.{append-nil, drop_more, length-map}
use Rattle.std.proofs.Math.ListN.{drop_of_length-le}
use Rattle.tpol_tree.specs.declared.closed.ClosedElements.{ClosedElements}
use Rattle.tpol_tree.specs.declared.closed.ClosedElement.{ClosedElement}
use Rattle.tpol_tree.specs.declared.path.ApprovedDoc.{ApprovedDoc}
use Rattle.tpol_base.specs.declared.digest.Digest32.{Digest32}
use Rattle.tpol_digest.specs.Digest.{zero_digest}
use Rattle.tpol_digest.specs.Paths.{approval_of}
use Rattle.tpol_digest.specs.Positions.{element_list_ways, element_ways}
use Rattle.tpol_digest.proofs.Positions.{Parted, parted as parted_by}
use Rattle.tpol_cert.specs.declared.choice.Choice.{Choice}
use Rattle.tpol_cert.specs.declared.choice.Choice.TheVariants.{Document, Outside}
use Rattle.tpol_cert.specs.Going.{GoesOn}
use Rattle.tpol_cert.specs.Choices.{approval_choices, approved_choices, behind, document_choices, each_with, element_choices, element_list_choices}
use Rattle.tpol_cert.specs.Spelling.{ChoiceFits}
use Rattle.tpol_cert.proofs.Beside.{beside-length, element_ways_beside, ways_beside}

-- ---- at an index of a list that is made of parts

pub at_first : (xs ys : List (List Choice)) (i : ℕ) (p : List Choice) → slice_get xs i ≡ Some p → slice_get (xs ++ ys) i ≡ Some p
at_first [] ys i p h = cc
at_first (x ∷ xs) ys zero p h = h
at_first (x ∷ xs) ys (suc i) p h = at_first xs ys i p h

at_right : (xs ys : List (List Choice)) (i : ℕ) (p : List Choice) → slice_get ys i ≡ Some p → slice_get (xs ++ ys) (length xs + i) ≡ Some p
at_right [] ys i p h = let e : i ≡ 0 + i = omega arith in ap (slice_get ys) (sym e) ∙ h
at_right (x ∷ xs) ys i p h =
    let e : suc (length xs) + i ≡ suc (length xs + i) = omega arith in
    ap (slice_get (x ∷ (xs ++ ys))) e ∙ at_right xs ys i p h

pub at_later : (xs ys : List (List Choice)) (i j : ℕ) (p : List Choice) → j ≡ length xs + i → slice_get ys i ≡ Some p → slice_get (xs ++ ys) j ≡ Some p
at_later xs ys i j p e h = ap (slice_get (xs ++ ys)) e ∙ at_right xs ys i p h

pub at_map : (f : List Choice → List Choice) (xs : List (List Choice)) (i : ℕ) (p : List Choice) → slice_get xs i ≡ Some p → slice_get (map f xs) i ≡ Some (f p)
at_map f [] i p h = cc
at_map f (x ∷ xs) zero p h = cc
at_map f (x ∷ xs) (suc i) p h = at_map f xs i p h

pub at_product : (xs ys : List (List Choice)) (i j k : ℕ) (p q : List Choice) → slice_get xs i ≡ Some p → slice_get ys j ≡ Some q → k ≡ i * length ys + j → slice_get (each_with xs ys) k ≡ Some (p ++ q)
at_product [] ys i j k p q h g e = cc
at_product (x ∷ xs) ys zero j k p q h g e =
    let here : k ≡ j = omega (arith, e) in
    let same : x ≡ p = cc in
    ap (slice_get (map (λ rest. x ++ rest) ys ++ each_with xs ys)) here
    ∙ at_first (map (λ rest. x ++ rest) ys) (each_with xs ys) j (x ++ q) (at_map (λ rest. x ++ rest) ys j q g)
    ∙ ap (λ first. Some (first ++ q)) same
at_product (x ∷ xs) ys (suc i) j k p q h g e =
    let later : k ≡ length (map (λ rest. x ++ rest) ys) + (i * length ys + j) = omega (arith, e, length-map ys (λ rest. x ++ rest)) in
    at_later (map (λ rest. x ++ rest) ys) (each_with xs ys) (i * length ys + j) k (p ++ q) later (at_product xs ys i j (i * length ys + j) p q h g refl)

pub length-product : (xs ys : List (List Choice)) → length (each_with xs ys) ≡ length xs * length ys
length-product [] ys = omega arith
length-product (x ∷ xs) ys =
    length-append (map (λ rest. x ++ rest) ys) (each_with xs ys)
    ∙ ap (λ n. n + length (each_with xs ys)) (length-map ys (λ rest. x ++ rest))
    ∙ ap (λ n. length ys + n) (length-product xs ys)
    ∙ omega arith

-- ---- choices that go on by those of a part

all_fit : (xs ys : List Choice) → AllByRecursion ChoiceFits xs → AllByRecursion ChoiceFits ys → AllByRecursion ChoiceFits (xs ++ ys)
all_fit [] ys h k = k
all_fit (x ∷ xs) ys h k = (h.0, all_fit xs ys h.1 k)

pub goes_nowhere : (a : List Choice) (i : ℕ) → i < 1 → GoesOn a ([] ∷ []) i a
goes_nowhere a zero h = record { choices = []; is_there = refl; fits = tt; follows = sym (append-nil a) }
goes_nowhere a (suc i) h = absurd (omega arith)

pub goes_outside : (a b : List Choice) (i : ℕ) → i < 1 → b ≡ a ++ Outside ∷ [] → GoesOn a ((Outside ∷ []) ∷ []) i b
goes_outside a b zero h e = record { choices = Outside ∷ []; is_there = refl; fits = (tt, tt); follows = e }
goes_outside a b (suc i) h e = absurd (omega arith)

pub goes_through : (a b c : List Choice) (xs ys : List (List Choice)) (i j k : ℕ) → GoesOn a xs i b → GoesOn b ys j c → k ≡ i * length ys + j → GoesOn a (each_with xs ys) k c
goes_through a b c xs ys i j k g h e = record {
  choices = g.choices ++ h.choices;
  is_there = at_product xs ys i j k g.choices h.choices g.is_there h.is_there e;
  fits = all_fit g.choices h.choices g.fits h.fits;
  follows = h.follows ∙ ap (λ x. x ++ h.choices) g.follows ∙ append_assoc a g.choices h.choices;
}

pub goes_first : (a b : List Choice) (xs ys : List (List Choice)) (i : ℕ) → GoesOn a xs i b → GoesOn a (xs ++ ys) i b
goes_first a b xs ys i g = record { choices = g.choices; is_there = at_first xs ys i g.choices g.is_there; fits = g.fits; follows = g.follows }

pub goes_later : (a b : List Choice) (xs ys : List (List Choice)) (i j : ℕ) → j ≡ length xs + i → GoesOn a ys i b → GoesOn a (xs ++ ys) j b
goes_later a b xs ys i j e g = record { choices = g.choices; is_there = at_later xs ys i j g.choices e g.is_there; fits = g.fits; follows = g.follows }

pub goes_behind : (a next b : List Choice) (choice : Choice) (xs : List (List Choice)) (i : ℕ) → ChoiceFits choice → next ≡ a ++ choice ∷ [] → GoesOn next xs i b → GoesOn a (behind choice xs) i b
goes_behind a next b choice xs i fit e g = record {
  choices = choice ∷ g.choices;
  is_there = at_map (λ rest. choice ∷ rest) xs i g.choices g.is_there;
  fits = (fit, g.fits);
  follows = g.follows ∙ ap (λ x. x ++ g.choices) e ∙ append_assoc a (choice ∷ []) g.choices;
}

-- ---- how many there are

pub counted : (documents : List ApprovedDoc) (levels : ℕ) (elements : ClosedElements) (count : ℕ) → ((before : Digest32) → count ≡ min (length (element_list_ways documents levels elements before)) 65537) → count ≡ min (length (element_list_choices documents levels elements)) 65537
counted documents levels elements count h =
    h zero_digest ∙ ap (λ n. min n 65537) (sym (beside-length (element_list_choices documents levels elements) (element_list_ways documents levels elements zero_digest) (ways_beside documents levels elements zero_digest)))

counted_element : (documents : List ApprovedDoc) (levels : ℕ) (element : ClosedElement) (count : ℕ) → ((before : Digest32) → count ≡ min (length (element_ways documents levels element before)) 65537) → count ≡ min (length (element_choices documents levels element)) 65537
counted_element documents levels element count h =
    h zero_digest ∙ ap (λ n. min n 65537) (sym (beside-length (element_choices documents levels element) (element_ways documents levels element zero_digest) (element_ways_beside documents levels element zero_digest)))

-- an index among the ways of elements, where those of the first, `lent` to the count, are counted
pub parted : (documents : List ApprovedDoc) (levels : ℕ) (element lent : ClosedElement) (rest : ClosedElements) (ways count index : ℕ) → lent ≡ element → ((before : Digest32) → ways ≡ min (length (element_ways documents levels lent before)) 65537) → count ≡ length (each_with (element_choices documents levels element) (element_list_choices documents levels rest)) → count ≤ 65536 → index < count → Parted ways count index (length (element_choices documents levels element)) (length (element_list_choices documents levels rest))
parted documents levels element lent rest ways count index same first counted few inside =
    let firsts = element_choices documents levels element in
    let rests = element_list_choices documents levels rest in
    parted_by ways count index (length firsts) (length rests) (counted ∙ length-product firsts rests) few (subst (λ e. ways ≡ min (length (element_choices documents levels e)) 65537) same (counted_element documents levels lent ways first)) inside

-- a branch, or a document, and what stands behind it
pub counted_first : (count : ℕ) (choice : Choice) (xs others : List (List Choice)) → count ≡ min (length xs) 65537 → length (behind choice xs ++ others) ≤ 65536 → (count ≡ length xs) × (length (behind choice xs ++ others) ≡ count + length others)
counted_first count choice xs others h few =
    let total = length-append (behind choice xs) others in
    let same = length-map xs (λ rest. choice ∷ rest) in
    let exact : count ≡ length xs = omega arith in
    (exact, omega arith)

-- ---- documents, as a loop over them goes

pub document_choices-some : (documents : List ApprovedDoc) (levels : ℕ) (document : ApprovedDoc) → levels ≢ 0 → document_choices documents levels document ≡ element_list_choices documents (levels - 1) document.closed.elements
unfolding document_choices
document_choices-some documents zero document h = absurd (h refl)
document_choices-some documents (suc levels) document h =
    let e : levels ≡ suc levels - 1 = omega arith in
    ap (λ n. element_list_choices documents n document.closed.elements) e

approved_none : (documents some : List ApprovedDoc) (number : ℕ) (element : ClosedElement) → approved_choices (document_choices documents zero) number element some ≡ []
unfolding document_choices
approved_none documents [] number element = refl
approved_none documents (document ∷ rest) number element =
    by (is_some (approval_of element document)) (approved_none documents rest number element) (approved_none documents rest (number + 1) element)
  where
    by : (b : Bool) → approved_choices (document_choices documents zero) number element rest ≡ [] → approved_choices (document_choices documents zero) (number + 1) element rest ≡ []
        → (if b then behind (Document number) (document_choices documents zero document) ++ approved_choices (document_choices documents zero) (number + 1) element rest else approved_choices (document_choices documents zero) number element rest) ≡ []
    by true h k = k
    by false h k = h

pub no_documents : (documents : List ApprovedDoc) (levels : ℕ) (element : ClosedElement) → levels ≤ 0 → approval_choices documents levels element ≡ (Outside ∷ []) ∷ []
no_documents documents levels element h =
    let e : levels ≡ 0 = omega arith in
    ap (λ n. approval_choices documents n element) e ∙ ap (λ l. l ++ (Outside ∷ []) ∷ []) (approved_none documents documents 1 element)

module _ (documents : List ApprovedDoc) (levels : ℕ) (element : ClosedElement) where
  -- the choices by the documents from one on, the next of which has this number, and by another policy
  abbrev pub choices_from : ℕ → ℕ → List (List Choice)
  choices_from number i = approved_choices (document_choices documents levels) number element (drop i documents) ++ (Outside ∷ []) ∷ []

  drop_one : (i : ℕ) (document : ApprovedDoc) → i < length documents → document ≡ get_or documents i document → drop i documents ≡ document ∷ drop (i + 1) documents
  drop_one i document inside is = drop_more documents i document inside ∙ ap (λ x. x ∷ drop (i + 1) documents) (sym is)

  pub from_passed : (number i : ℕ) (document : ApprovedDoc) → i < length documents → document ≡ get_or documents i document → is_some (approval_of element document) ≡ false → choices_from number i ≡ choices_from number (i + 1)
  from_passed number i document inside is h =
      ap (λ l. approved_choices (document_choices documents levels) number element l ++ (Outside ∷ []) ∷ []) (drop_one i document inside is)
      ∙ ap (λ b. (if b then behind (Document number) (document_choices documents levels document) ++ approved_choices (document_choices documents levels) (number + 1) element (drop (i + 1) documents) else approved_choices (document_choices documents levels) number element (drop (i + 1) documents)) ++ (Outside ∷ []) ∷ []) h

  pub from_entered : (number i : ℕ) (document : ApprovedDoc) → i < length documents → document ≡ get_or documents i document → levels ≢ 0 → is_some (approval_of element document) ≡ true → choices_from number i ≡ behind (Document number) (element_list_choices documents (levels - 1) document.closed.elements) ++ choices_from (number + 1) (i + 1)
  from_entered number i document inside is level h =
      ap (λ l. approved_choices (document_choices documents levels) number element l ++ (Outside ∷ []) ∷ []) (drop_one i document inside is)
      ∙ ap (λ b. (if b then behind (Document number) (document_choices documents levels document) ++ approved_choices (document_choices documents levels) (number + 1) element (drop (i + 1) documents) else approved_choices (document_choices documents levels) number element (drop (i + 1) documents)) ++ (Outside ∷ []) ∷ []) h
      ∙ append_assoc (behind (Document number) (document_choices documents levels document)) (approved_choices (document_choices documents levels) (number + 1) element (drop (i + 1) documents)) ((Outside ∷ []) ∷ [])
      ∙ ap (λ l. behind (Document number) l ++ choices_from (number + 1) (i + 1)) (document_choices-some documents levels document level)

  pub from_none : (number i : ℕ) → length documents ≤ i → choices_from number i ≡ (Outside ∷ []) ∷ []
  from_none number i h =
      ap (λ l. approved_choices (document_choices documents levels) number element l ++ (Outside ∷ []) ∷ []) (drop_of_length-le documents h)
