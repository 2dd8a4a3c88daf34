use Rattle.std.proofs.Common.{◌≡◌, map, drop}
use Rattle.serde_json.specs.View.{members_view}
use Rattle.tpol_export.specs.Values.{flag_entries}
use Rattle.tpol_export.proofs.values.put_flags.Given as goal
use Rattle.tpol_write.specs.Objects.{with_members}

-- the flags that are left give what all flags give
abbrev pub invariant-loop-name : goal.invariant-loop-name
invariant-loop-name l =
    with_members (flag_entries (map (λ word. (word.0.now, word.1)) (drop l.name-index l.flags)) l.number) (members_view l.object.entries)
    ≡ with_members (flag_entries (map (λ word. (word.0.now, word.1)) l.flags) l.number) (members_view l.initial.object.entries)
