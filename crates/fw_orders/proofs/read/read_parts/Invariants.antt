use Rattle.std.proofs.Common.{◌≡◌, ◌++◌, length, map}
use Rattle.std.specs.Prelude.{option_copied}
use Rattle.fuse_text.specs.Lines.{lines_left, lines_of}
use Rattle.fw_orders.specs.FileLines.{HaveParts}
use Rattle.fw_orders.specs.Saying.{parts_of}
use Rattle.fw_orders.proofs.read.read_parts.Given as goal

abbrev pub invariant-loop-line : goal.invariant-loop-line
invariant-loop-line g l = record {
  counted : l.number ≡ length l.yielded;
  split : lines_of l.fn.text ≡ map (λ line. line.now) l.yielded ++ lines_left (option_copied l.line-iterator.rest);
  have : HaveParts (map (λ line. line.now) l.yielded) (parts_of l.parts.items);
  lines : l.lines ≡ length have.said;
}
