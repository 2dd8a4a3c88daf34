-- What a filled policy is made of, part by part, and marks that are added one after another.
use Rattle.std.proofs.Common.{◌≡◌, List, ◌++◌, ap, sym, ◌∙◌}
use Rattle.std.proofs.lemmas.List.{append_assoc}
use Rattle.std.specs.Prelude.{Option}
use Rattle.tpol_base.specs.declared.digest.Digest32.{Digest32}
use Rattle.tpol_digest.proofs.Erasures.{digest_at_element-erased}
use Rattle.tpol_digest.specs.Digest.{digest_at_element}
use Rattle.tpol_fill.specs.Filling.{filled_element}
use Rattle.tpol_marks.specs.declared.marks.Mark.{Mark}
use Rattle.tpol_name.specs.declared.sight.Sight.{Sight}
use Rattle.tpol_tree.specs.ClosedErased.{erased_element}
use Rattle.tpol_tree.specs.Erased.{nowhere}
use Rattle.tpol_tree.specs.declared.closed.ClosedElement.{ClosedElement}
use Rattle.tpol_tree.specs.declared.closed.ClosedElements.{ClosedElements}
use Rattle.tpol_tree.specs.declared.closed.ClosedElements.TheVariants.{More', End}
use Rattle.tpol_tree.specs.declared.policy.Element.{Element}

abbrev pub first_or : ClosedElement → ClosedElements → ClosedElement
first_or other End = other
first_or other (More' p element q rest) = element

abbrev rest_of : ClosedElements → ClosedElements
rest_of End = End
rest_of (More' p element q rest) = rest

-- the first elements of equal lists, and the elements behind them
pub first_same : (a b : ClosedElement) (xs ys : ClosedElements) → More' nowhere a nowhere xs ≡ More' nowhere b nowhere ys → a ≡ b
first_same a b xs ys h = ap (first_or a) h

pub rest_same : (a b : ClosedElement) (xs ys : ClosedElements) → More' nowhere a nowhere xs ≡ More' nowhere b nowhere ys → xs ≡ ys
rest_same a b xs ys h = ap rest_of h

-- the digest after an element that was filled
pub digest_same : (sight : Option Sight) (closed : ClosedElement) (written : Element) (d : Digest32) → erased_element closed ≡ filled_element sight written → digest_at_element closed d ≡ digest_at_element (filled_element sight written) d
digest_same sight closed written d h = sym (digest_at_element-erased closed d) ∙ ap (λ element. digest_at_element element d) h

-- marks that are added one after another
pub added : (marks within one rest : List Mark) → ((marks ++ within) ++ one) ++ rest ≡ marks ++ ((within ++ one) ++ rest)
added marks within one rest =
    ap (λ l. l ++ rest) (append_assoc marks within one) ∙ append_assoc marks (within ++ one) rest
