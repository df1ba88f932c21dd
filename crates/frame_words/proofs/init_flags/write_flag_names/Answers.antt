use Rattle.std.proofs.Common.{◌≡◌, ℕ, arith, subst}
use Rattle.std.specs.Prelude.{flat_map}
use Rattle.std.specs.List.{range_with_len}
use Rattle.std.specs.Io.KnownBytes.{Appends}
use Rattle.frame_words.specs.InitFlags.{flag_names_words, flag_words}
use Rattle.frame_words.proofs.Ranges.{flat_map-range_more}
use Rattle.std.proofs.KnownBytes.{Appends-trans}
use Rattle.frame_words.proofs.init_flags.write_flag_names.Goals as goal

pub loop-bit-preserved : goal.loop-bit-preserved
loop-bit-preserved g c =
    let now = g.W.Write.contents in
    let words = flag_words c.args.flags in
    let bit = c.loop-bit.bit in
    rw (flat_map-range_more words bit) (Appends-trans (now c.args.out.now) (now c.loop-bit.out)
    (now c.write_flag.new.out) (flat_map words (range_with_len 0 bit)) (words bit) c.loop-bit.invariant
    c.in_ok-write_flag.ensures)

pub returns : goal.returns
unfolding flag_names_words
returns g c =
    let now = g.W.Write.contents in
    let all : c.loop-bit.bit ≡ 64 = omega arith in
    subst (λ (n : ℕ). Appends (now c.args.out.now) (now c.loop-bit.out) (flat_map (flag_words c.args.flags)
    (range_with_len 0 n))) all c.loop-bit.invariant
