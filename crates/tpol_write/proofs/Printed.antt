-- Tokens that are printed are the text of their value, and a document of just that value.
use Rattle.std.proofs.Common.{◌≡◌, suc, ◌≤◌, max, [], true, Some, refl, sym, ap, ap₂, ◌∙◌, arith, append-nil}
use Rattle.std.proofs.lemmas.Str.{is_utf8-from_IsUtf8}
use Rattle.std.specs.Option.{option_and_then}
use Rattle.std.specs.Str.{IsUtf8, is_utf8}
use Rattle.json.specs.Json as json
use Rattle.json.specs.Lex.{tokens}
use Rattle.json.specs.Print.{print}
use Rattle.json.specs.Tree as tree
use Rattle.json.proofs.Printed.Trees.{value-json_tokens}
use Rattle.serde_json.specs.Data.{Data, null, boolean, number, string, array, object, Items, no_items, item, Members, no_members, member, depth, items_depth, members_depth}
use Rattle.serde_json.specs.Read.{max_depth, of_json, read}
use Rattle.serde_json.specs.Written.{items_outline, members_outline, outline}
use Rattle.tpol_json.specs.Document.{document_of}
use Rattle.tpol_write.specs.Drafts.{Reads, tokens_of}

mutual
  same_depth : (d : Data) → tree.depth (outline d) ≡ depth d
  same_depth null = refl
  same_depth (boolean b) = refl
  same_depth (number n) = refl
  same_depth (string s) = refl
  same_depth (array ds) = ap suc (same_items_depth ds)
  same_depth (object ms) = ap suc (same_members_depth ms)

  same_items_depth : (ds : Items) → tree.items_depth (items_outline ds) ≡ items_depth ds
  same_items_depth no_items = refl
  same_items_depth (item d ds) = ap₂ max (same_depth d) (same_items_depth ds)

  same_members_depth : (ms : Members) → tree.members_depth (members_outline ms) ≡ members_depth ms
  same_members_depth no_members = refl
  same_members_depth (member k d ms) = ap₂ max (same_depth d) (same_members_depth ms)

pub document_is : (d : Data) → tokens (print (tokens_of d)) ≡ tokens_of d → IsUtf8 (print (tokens_of d)) → Reads d → depth d ≤ max_depth → document_of (print (tokens_of d)) ≡ Some d
document_is d same utf8 reads shallow =
    let text = print (tokens_of d) in
    let valid : is_utf8 text ≡ true = is_utf8-from_IsUtf8 text utf8 in
    let few : tree.depth (outline d) ≤ max_depth = omega (arith, same_depth d) in
    let whole : read text ≡ Some d =
    ap (λ ts. option_and_then of_json (option_and_then (λ p. json.if_last p.0 p.1) (json.value max_depth ts))) (same ∙ sym (append-nil (tokens_of d)))
    ∙ ap (λ o. option_and_then of_json (option_and_then (λ p. json.if_last p.0 p.1) o)) (value-json_tokens (outline d) max_depth [] few) ∙ reads in
    rw valid whole
