use Rattle.std.proofs.Common.{◌≡◌, length}
use Rattle.fw_sides.specs.KernelRuns.{all_collected}
use Rattle.fw_sides.proofs.kernel_text.print_answers.Given as goal

-- What is collected of the kernel are answers alone.
abbrev pub invariant-loop-call : goal.invariant-loop-call
invariant-loop-call g l = all_collected l.kernel ≡ all_collected l.fn.kernel

abbrev pub decreases-loop-call : goal.decreases-loop-call
decreases-loop-call g l = length l.kernel.vfs.answers
