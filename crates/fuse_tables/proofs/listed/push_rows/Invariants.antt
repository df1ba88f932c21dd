use Rattle.std.proofs.Common.{◌≡◌, ◌++◌, drop, take}
use Rattle.fuse_tables.specs.LiveRows.{live}
use Rattle.fuse_tables.proofs.listed.push_rows.Given as goal

-- the list so far, and the entries of the rows that are left
abbrev pub invariant-loop-place : goal.invariant-loop-place
invariant-loop-place g l = l.list.items ++ live (drop l.place (take l.to l.rows.items))
    ≡ l.initial.list.items ++ live (drop l.from (take l.to l.rows.items))
