use Rattle.std.specs.Prelude.{codes}
use Rattle.fw_frames.specs.Words.{flag_word}
use Rattle.fuse_text.proofs.Writes.{Appends-four, OnOk-map}
use Rattle.fw_frames.proofs.flag_words.write_bits.Goals as goal

pub returns : goal.returns
returns g c =
    let now = g.W.Write.contents in
    OnOk-map _ _ c.write_flag-3.result (λ wrote. Appends-four (now c.args.out.now) (now c.write_all.new.self)
    (now c.write_flag.new.out) (now c.write_flag-2.new.out) (now c.write_flag-3.new.out) (codes " flags")
    (flag_word c.args.bits 1 (codes " ASYNC_READ")) (flag_word c.args.bits 0x2000 (codes " DO_READDIRPLUS"))
    (flag_word c.args.bits 0x40000 (codes " PARALLEL_DIROPS")) c.in_ok-write_all.ensures.bytes
    c.in_ok-write_flag.ensures c.in_ok-write_flag-2.ensures wrote) c.write_flag-3.ensures
