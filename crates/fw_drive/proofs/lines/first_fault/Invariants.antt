use Rattle.std.proofs.Common.{◌≡◌, ◌++◌, length, map}
use Rattle.std.specs.Prelude.{All, option_copied}
use Rattle.fuse_text.specs.Lines.{lines_left, lines_of}
use Rattle.fw_drive.specs.DriveLines.{IsGoodDriveLine}
use Rattle.fw_drive.proofs.lines.first_fault.Given as goal

abbrev pub invariant-loop-line : goal.invariant-loop-line
invariant-loop-line l = record {
  counted : l.number ≡ length l.yielded;
  split : lines_of l.fn.script ≡ map (λ line. line.now) l.yielded ++ lines_left (option_copied l.line-iterator.rest);
  good : All (IsGoodDriveLine l.fn.form) (map (λ line. line.now) l.yielded);
}
