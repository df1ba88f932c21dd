use Rattle.std.proofs.Common.{◌≡◌, ℕ, ◌+◌, ap, sym, ◌∙◌, map}
use Rattle.std.proofs.lemmas.List.{map-append, append-nil}
use Rattle.fuse_spec.specs.Files.Operations.{Dirent}
use Rattle.fuse_spec.specs.Files.Trees.{record_length}
use Rattle.fs_tree.specs.Stored.{fitting_with, lead_in, in_directory}
use Rattle.fs_tree.specs.Views.{lead_of}
use Rattle.fs_tree.specs.EntryViews.{leaf_entry}
use Rattle.fs_tree.proofs.NameLinks.{names-after, fitting-more, fitting-end, over, under}
use Rattle.fs_tree.proofs.entries.Entries.list.Goals.{in-None, in-Some+then-len-room}
use Rattle.fs_tree.proofs.entries.Entries.list.Goals as goal

pub loop-cookie-init : goal.loop-cookie-init
loop-cookie-init g c =
    let listed = c.into_iter-cookie-iterator.ensures.into_iter_gives ∙ c.range-cookie-items.ensures.between tt in
    rw (← c.self.view_is, listed, c.in_ok-records.ensures.items)
    (ap (λ l. fitting_with c.args.more c.args.size (map (lead_in c.args.files.now) l))
    (names-after c.args.after c.self.inside.names.entries))

pub loop-cookie-preserved : goal.loop-cookie-preserved
loop-cookie-preserved g c =
    let files = c.args.files.now in
    let more = c.args.more in
    let r : ℕ × Dirent = lead_in files (in_directory 0 (leaf_entry (c.in-Some.cookie.now, c.in-Some.leaf.now))) in
    let rest = map (lead_in files) (map (in_directory 0) (map leaf_entry c.next.new.self)) in
    let size : more + record_length r.1 ≡ more + c.record_len.result =
    ap (λ n. more + n) (rw c.deref.ensures.value at (sym c.record_len.ensures.len)) in
    let fits = under (more + c.record_len.result) c.loop-cookie.room c.if-len-room.false in
    let done = rw c.in-Some.ensures.steps at c.loop-cookie.invariant in
    rw (c.in_ok-push.ensures.items, map-append, c.cookie.view_is, c.kind.ensures, c.deref-in-loop-cookie.ensures.value)
    (sym (fitting-more more rest r c.loop-cookie.room (more + c.record_len.result) size
    (map lead_of c.loop-cookie.records.items) fits) ∙ done)

pub returns : goal.returns
returns g c = elim c.match-next.branch [
  | in-None w ↦ sym (append-nil
      (map lead_of c.loop-cookie.records.items)) ∙ rw w.in-None.ensures.steps.0 at c.loop-cookie.invariant
  | in-Some+then-len-room w ↦
      let files = c.args.files.now in
      let more = c.args.more in
      let r : ℕ × Dirent = lead_in files (in_directory 0 (leaf_entry (w.in-Some.cookie.now, w.in-Some.leaf.now))) in
      let rest = map (lead_in files) (map (in_directory 0) (map leaf_entry c.next.new.self)) in
      let size : more + record_length r.1 ≡ more + w.record_len.result =
      ap (λ n. more + n) (rw w.deref.ensures.value at (sym w.record_len.ensures.len)) in
      let fails = over (more + w.record_len.result) c.loop-cookie.room w.if-len-room.true in
      let done = rw w.in-Some.ensures.steps at c.loop-cookie.invariant in
      sym (fitting-end more rest r c.loop-cookie.room (more + w.record_len.result) size
      (map lead_of c.loop-cookie.records.items) fails) ∙ done
]
