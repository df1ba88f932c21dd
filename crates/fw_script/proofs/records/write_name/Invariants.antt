use Rattle.std.proofs.Common.{map, take}
use Rattle.std.specs.Io.KnownBytes.{Appends}
use Rattle.fw_script.specs.Records.{shown_byte}
use Rattle.fw_script.proofs.records.write_name.Given as goal

abbrev pub invariant-loop-byte : goal.invariant-loop-byte
invariant-loop-byte g l =
    Appends (g.W.Write.contents l.initial.out) (g.W.Write.contents l.out) (map shown_byte (take l.byte-index l.name))
