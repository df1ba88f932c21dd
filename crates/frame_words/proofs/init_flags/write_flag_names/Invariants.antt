use Rattle.std.specs.Prelude.{flat_map}
use Rattle.std.specs.List.{range_with_len}
use Rattle.std.specs.Io.KnownBytes.{Appends}
use Rattle.frame_words.specs.InitFlags.{flag_words}
use Rattle.frame_words.proofs.init_flags.write_flag_names.Given as goal

abbrev pub invariant-loop-bit : goal.invariant-loop-bit
invariant-loop-bit g l =
    Appends (g.W.Write.contents l.initial.out) (g.W.Write.contents l.out) (flat_map (flag_words l.flags) (range_with_len 0 l.bit))
