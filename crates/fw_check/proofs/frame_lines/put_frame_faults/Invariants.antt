use Rattle.std.proofs.Common.{◌≡◌, ◌++◌, take}
use Rattle.fw_check.specs.FrameLines.{frame_faults}
use Rattle.fw_check.proofs.frame_lines.put_frame_faults.Given as goal

abbrev pub invariant-loop-place : goal.invariant-loop-place
invariant-loop-place g l =
    l.text.items ≡ l.initial.text.items ++ frame_faults l.number (take l.place l.acts) (take l.place l.verdicts)
