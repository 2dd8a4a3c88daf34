use Rattle.std.proofs.Common.{◌≤◌, ◌+◌, ◌∙◌, length, sym, ap, subst, true≢false, Option, Some, None}
use Rattle.std.specs.Option.{is_some}
use Rattle.std.specs.Prelude.{IfSome}
use Rattle.tpol_name.specs.declared.entries.IndexEntry.{IndexEntry}
use Rattle.tpm_nv.specs.Contents.{written_entry}
use Rattle.tpm_nv.specs.Indices.{written_at}
use Rattle.tpm_nv.proofs.TableLemmas.{found_index, found_under, set_by_handle, set_index, written_content}
use Rattle.tpm_nv.proofs.table.NvTable.overwrite.Goals as goal
use Rattle.tpm_nv.proofs.table.NvTable.overwrite.Goals.{in-Some, in_default}

pub write_at-requires : goal.write_at-requires
write_at-requires c =
    let found = found_index c.args.index c.self.inside.indices.entries c.args.self.now (Some c.in-Some.entry.now) c.self.invariant c.self.view_is c.in-Some.ensures.value in
    let Within : Option IndexEntry → Type 0 = λ found. IfSome found (λ entry. c.args.offset + length c.args.bytes.now ≤ length entry.content) in
    record { within = subst Within (sym found) c.requires.within }

pub invariant_of-self : goal.invariant_of-self
invariant_of-self c =
    let index = c.args.index in
    let entries = c.self.inside.indices.entries in
    elim c.match-get_mut.branch [
      | in-Some w ↦
          let entry = w.in-Some.entry.now in
          let found = found_index index entries c.args.self.now (Some entry) c.self.invariant c.self.view_is w.in-Some.ensures.value in
          let Within : Option IndexEntry → Type 0 = λ found. IfSome found (λ entry. c.args.offset + length c.args.bytes.now ≤ length entry.content) in
          let under = found_under index entries entry c.self.invariant (sym w.in-Some.ensures.value) in
          let within = subst Within (sym found) c.requires.within in
          let kept = set_by_handle index entries (written_entry c.args.offset c.args.bytes.now entry) c.self.invariant under.handle
          (written_content c.args.offset c.args.bytes.now entry within under.content) in
          rw (w.self-inside-is, (c.get_mut.follows.holds w.write_at.new.entry).0, w.write_at.ensures.written) kept
      | in_default w ↦ rw (w.self-inside-is, c.get_mut.follows.holds-at-none) c.self.invariant
    ]

pub returns : goal.returns
returns c =
    let index = c.args.index in
    let entries = c.self.inside.indices.entries in
    record {
      written = elim c.match-get_mut.branch [
        | in-Some w ↦
            let set = set_index index (written_entry c.args.offset c.args.bytes.now) entries w.in-Some.entry.now w.write_at.new.entry c.self.invariant
            c.get_mut.ensures.unique (sym w.in-Some.ensures.value) w.write_at.ensures.written in
            rw (w.self-inside-is, (c.get_mut.follows.holds w.write_at.new.entry).0)
            (set ∙ ap (written_at index c.args.offset c.args.bytes.now) c.self.view_is)
        | in_default w ↦
            let found = found_index index entries c.args.self.now None c.self.invariant c.self.view_is w.in_default.ensures.value in
            absurd (true≢false (sym c.requires.there ∙ ap is_some (sym found)))
      ];
    }
