use Rattle.fs_files.proofs.plan.unrefused_needs.Goals as goal

pub needs_of_rename-requires : goal.needs_of_rename-requires
needs_of_rename-requires g c =
    record {
      unrefused = rw (
        c.file_of-from.ensures,
        c.file_of-in-Rename.ensures,
        c.deref-in-Rename.ensures.value,
        c.deref-in-Rename-2.ensures.value,
      ) (rw c.in-Rename.is at c.requires.unrefused);
    }

pub returns-in-Rename : goal.returns-in-Rename
returns-in-Rename g c = rw c.in-Rename.is (rw (
  c.file_of-from.ensures,
  c.file_of-in-Rename.ensures,
  c.deref-in-Rename.ensures.value,
  c.deref-in-Rename-2.ensures.value,
) at c.needs_of_rename.ensures)
