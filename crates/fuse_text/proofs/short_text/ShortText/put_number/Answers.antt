use Rattle.std.proofs.Common.{length, ap, arith, length-drop}
use Rattle.std.proofs.lemmas.Fmt.{length-decimal-le}
use Rattle.fuse_text.proofs.short_text.ShortText.put_number.Goals as goal

pub write_digits-self-inside-requires : goal.write_digits-self-inside-requires
write_digits-self-inside-requires c =
    let short = length-decimal-le 20 c.args.number (omega arith) (omega arith) c.ranges.number.fits in
    let left = length-drop c.self.inside.start c.self.inside.bytes in
    let size = ap length c.self.view_is in
    (omega (arith, short, left, size, c.requires), omega arith)

pub returns-clause-room : goal.returns-clause-room
returns-clause-room c =
    let short = length-decimal-le 20 c.args.number (omega arith) (omega arith) c.ranges.number.fits in
    let before = length-drop c.self.inside.start c.self.inside.bytes in
    let after = length-drop c.write_digits-self-inside.result c.write_digits-self-inside.new.buf in
    let size = ap length c.self.view_is in
    omega (arith, short, before, after, size, c.write_digits-self-inside.ensures.start)
