use Rattle.std.proofs.Common.{◌≡◌, ◌-◌, ℕ, ◌+◌, ◌++◌, [], ap, sym, ◌∙◌, map, arith, length}
use Rattle.std.proofs.lemmas.List.{append-nil, append_assoc}
use Rattle.fuse_spec.specs.Files.Operations.{Dirent, first_listed, listed_by}
use Rattle.fuse_spec.specs.Files.Trees.{record_length}
use Rattle.fs_tree.specs.Stored.{files_led, fitting_with, lead_in, lead_pair, in_directory}
use Rattle.fs_tree.specs.EntryViews.{leaf_entry}
use Rattle.fs_tree.proofs.NameLinks.{names-after, files-more, files-end, over, told-append, under}
use Rattle.fs_tree.proofs.entries.Entries.files_listed.Goals as goal

pub loop-leaf-init : goal.loop-leaf-init
loop-leaf-init g c =
    let listed = c.into_iter-leaf-iterator.ensures.into_iter_gives ∙ c.range-leaf-items.ensures.between tt in
    let none = ap length c.new-listed.ensures in (
      (λ files. rw (← c.self.view_is, listed, c.new-listed.ensures)
          (ap (λ l. files_led (fitting_with 128 c.args.size (map (lead_in files) l)))
          (names-after c.args.after c.self.inside.names.entries))),
      omega (arith, none, c.requires),
    )

pub list_file-requires : goal.list_file-requires
list_file-requires g c = omega (arith, c.loop-leaf.invariant.1, c.if-len-room.false, c.record_len-len.ensures.least)

pub loop-leaf-preserved : goal.loop-leaf-preserved
loop-leaf-preserved g c =
    let len = 128 + c.record_len-len.result in
    let fits = under len c.loop-leaf.room c.if-len-room.false in (
      (λ files.
          let r : ℕ × Dirent = lead_in files (in_directory 0
          (leaf_entry (c.in-Some.field-0-0.now, c.in-Some.leaf.now))) in
          let rest = map (lead_in files) (map (in_directory 0) (map leaf_entry c.next.new.self)) in
          let size : 128 + record_length r.1 ≡ len = ap (λ n. 128 + n)
          (rw c.deref.ensures.value at (sym c.record_len-len.ensures.len)) in
          let done = rw c.in-Some.ensures.steps at (c.loop-leaf.invariant.0 files) in
          let told = files_led (fitting_with 128 (c.loop-leaf.room - len) rest) in
          rw (c.list_file.ensures.items, c.deref-in-loop-leaf.ensures.value)
          (append_assoc c.loop-leaf.listed.items (first_listed (listed_by (lead_pair 0 r)) []) told
          ∙ ap (λ l. c.loop-leaf.listed.items ++ l) (told-append (listed_by (lead_pair 0 r)) told)
          ∙ sym (files-more 128 rest r c.loop-leaf.room len size c.loop-leaf.listed.items fits) ∙ done)),
      omega (
        arith,
        c.loop-leaf.invariant.1,
        c.if-len-room.false,
        c.record_len-len.ensures.least,
        c.list_file.ensures.len,
      ),
    )

pub returns-in-None : goal.returns-in-None
returns-in-None g c = λ files. sym (append-nil c.loop-leaf.listed.items) ∙ rw c.in-None.ensures.steps.0 at
    (c.loop-leaf.invariant.0 files)

pub returns-then-len-room : goal.returns-then-len-room
returns-then-len-room g c =
    let len = 128 + c.record_len-len.result in
    let fails = over len c.loop-leaf.room c.if-len-room.true in
    λ files.
    let r : ℕ × Dirent = lead_in files (in_directory 0 (leaf_entry (c.in-Some.field-0-0.now, c.in-Some.leaf.now))) in
    let rest = map (lead_in files) (map (in_directory 0) (map leaf_entry c.next.new.self)) in
    let size : 128 + record_length r.1 ≡ len = ap (λ n. 128 + n)
    (rw c.deref.ensures.value at (sym c.record_len-len.ensures.len)) in
    let done = rw c.in-Some.ensures.steps at (c.loop-leaf.invariant.0 files) in
    sym (files-end 128 rest r c.loop-leaf.room len size c.loop-leaf.listed.items fails) ∙ done
