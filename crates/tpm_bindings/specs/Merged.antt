-- Facts merged: what each list of bound values says together.
use Rattle.std.specs.Prelude.{ℕ, List, [], ◌∷◌, fold, Option, Some, None, nat_eq, min}
use Rattle.tpol_base.specs.declared.digest.Digest32.{Digest32}
use Rattle.std.specs.Bool.{beq}
use Rattle.tpol_tree.specs.declared.path.Move.{Move}
use Rattle.tpol_tree.specs.declared.facts.Fact.{Fact}
use Rattle.tpm_bindings.specs.declared.bindings.Bindings.{Bindings}
use Rattle.tpm_bindings.specs.Facts.{moves_of, codes_of, common_localities, cp_hashes_of, limits_of, name_hashes_of, parent_hashes_of, written_of, deadlines_of, asks_presence, last_auth, has_pcr}
use Rattle.tpol_base.specs.Digest.{is_same_digest}
use Rattle.tpm_bindings.specs.Held.{held}

-- the least of the numbers
abbrev pub least : List ℕ → Option ℕ
least [] = None
least (first ∷ rest) = Some (fold min first rest)

-- what the facts bind
abbrev pub merged : List Fact → Bindings
merged facts =
    record {
      codes = held nat_eq (codes_of (moves_of facts));
      localities = common_localities (moves_of facts);
      cp_hash = held is_same_digest (cp_hashes_of (moves_of facts));
      limit = held is_same_digest (limits_of facts);
      name_hash = held is_same_digest (name_hashes_of (moves_of facts));
      parent_hash = held is_same_digest (parent_hashes_of (moves_of facts));
      written = held beq (written_of (moves_of facts));
      deadline = least (deadlines_of facts);
      presence = asks_presence facts;
      auth = last_auth facts;
      pcr = has_pcr facts;
    }

-- the fact of this event and this move, with its cpHashA and its deadline in milliseconds
abbrev pub fact_of : ℕ → Move → Option Digest32 → Option ℕ → Fact
fact_of event act cp_hash deadline = record { event = event; act = act; cp_hash = cp_hash; deadline = deadline }
