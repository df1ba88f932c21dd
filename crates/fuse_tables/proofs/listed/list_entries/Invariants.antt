use Rattle.std.proofs.Common.{◌≡◌, ◌++◌, drop}
use Rattle.fuse_tables.specs.LateValues.{entries_of}
use Rattle.fuse_tables.proofs.ListedRows.{AreLeft}
use Rattle.fuse_tables.proofs.listed.list_entries.Given as goal

-- the list so far, and the entries of the rows and the late values that are left
abbrev pub invariant-loop-key : goal.invariant-loop-key
invariant-loop-key g l = (l.list.items ++ entries_of (drop l.from l.rows.items) l.key-iterator
    ≡ entries_of l.rows.items l.late.entries) × AreLeft l.rows.items l.from l.key-iterator
