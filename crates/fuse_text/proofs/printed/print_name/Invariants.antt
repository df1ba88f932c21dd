use Rattle.std.proofs.Common.{map, take}
use Rattle.std.specs.Io.KnownBytes.{Appends}
use Rattle.fuse_text.specs.Printed.{printed_byte}
use Rattle.fuse_text.proofs.printed.print_name.Given as goal

abbrev pub invariant-loop-byte : goal.invariant-loop-byte
invariant-loop-byte g l =
    Appends (g.W.Write.contents l.initial.out) (g.W.Write.contents l.out) (map printed_byte (take l.byte-index l.name))
