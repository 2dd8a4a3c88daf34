-- The tokens of values and members, and what reads back.
use Rattle.std.specs.Prelude.{◌≡◌, ℕ, List, [], ◌∷◌, ◌++◌, codes, flat_map, Some}
use Rattle.json.specs.Token.{Token, end_object, key}
use Rattle.json.specs.Tree.{json_tokens}
use Rattle.serde_json.specs.Data.{Data, string}
use Rattle.serde_json.specs.Read.{of_json}
use Rattle.serde_json.specs.Written.{outline}
use Rattle.tpol_base.specs.Compare.{name_of_compare}
use Rattle.tpol_base.specs.declared.compare.Compare.{Compare}
use Rattle.tpol_write.specs.Objects.{Entry, hex_text, natural}

-- the tokens are added
pub record Adds (old new tokens : List Token) : Type 0 where
  pub is : new ≡ old ++ tokens

abbrev pub tokens_of : Data → List Token
tokens_of d = json_tokens (outline d)

-- the tokens of a member
abbrev pub member_tokens : Entry → List Token
member_tokens entry = key entry.0 ∷ tokens_of entry.1

-- the tokens of members in turn
abbrev pub members_tokens : List Entry → List Token
members_tokens = flat_map member_tokens

-- the tokens of values in turn
abbrev pub values_tokens : List Data → List Token
values_tokens = flat_map tokens_of

-- what is written for the value reads as the value
abbrev pub Reads : Data → Type 0
Reads d = of_json (outline d) ≡ Some d

abbrev pub AllRead : List Data → Type 0
AllRead [] = Unit {0}
AllRead (d ∷ ds) = Reads d × AllRead ds

abbrev pub AllMembersRead : List Entry → Type 0
AllMembersRead [] = Unit {0}
AllMembersRead (entry ∷ entries) = Reads entry.1 × AllMembersRead entries

-- an object's type as its last member, and its end
abbrev pub type_and_end : List ℕ → List Token
type_and_end name = member_tokens (codes "type", string name) ++ end_object ∷ []

-- the members of what an index's content or the time is compared with, in the order of their names
abbrev pub comparison_tokens : List ℕ → ℕ → Compare → List Token
comparison_tokens operand offset operation =
    member_tokens (codes "offset", natural offset) ++ (member_tokens (codes "operandB", hex_text operand)
    ++ member_tokens (codes "operation", string (name_of_compare operation)))
