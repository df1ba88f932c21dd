use Rattle.fs_files.proofs.plan.may_do.Goals as goal

pub returns-in-Rename : goal.returns-in-Rename
returns-in-Rename g c =
    rw c.in-Rename.is (rw (
      c.file_of-file.ensures,
      c.header_node.ensures,
      c.file_of.ensures,
      c.deref-in-Rename.ensures.value,
      c.deref-in-Rename-2.ensures.value,
      c.in-Rename.is,
    ) at c.may_rename.ensures)

pub returns-in-Link : goal.returns-in-Link
returns-in-Link g c = rw c.in-Link.is (rw (
  c.file_of-file.ensures,
  c.header_node.ensures,
  c.file_of-in-Link.ensures,
  c.in-Link.is,
  c.deref-in-Link.ensures.value,
) at c.may_link.ensures.refusal)

pub returns-in-Mkdir : goal.returns-in-Mkdir
returns-in-Mkdir g c = rw c.in-Mkdir.is (rw (
  c.file_of-file.ensures,
  c.header_node.ensures,
  c.in-Mkdir.is,
  c.deref.ensures.value,
) at c.may_create.ensures.refusal)

pub returns-in-Create : goal.returns-in-Create
returns-in-Create g c = rw c.in-Create.is (rw (
  c.file_of-file.ensures,
  c.header_node.ensures,
  c.in-Create.is,
  c.deref-in-Create.ensures.value,
) at c.may_create-in-Create.ensures.refusal)
