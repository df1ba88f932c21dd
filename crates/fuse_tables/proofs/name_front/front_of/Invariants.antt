use Rattle.std.proofs.Common.{◌≡◌, drop}
use Rattle.fuse_tables.specs.NameFronts.{front_of, number_behind}
use Rattle.fuse_tables.proofs.name_front.front_of.Given as goal

-- The bytes that are left, behind the number so far, give the whole number.
abbrev pub invariant-loop-byte : goal.invariant-loop-byte
invariant-loop-byte l = number_behind l.front (drop l.byte-index l.byte-items) ≡ front_of l.name
