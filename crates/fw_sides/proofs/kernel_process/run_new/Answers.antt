use Rattle.std.proofs.Common.{subst}
use Rattle.std.proofs.lemmas.Result.{on_ok_weaker}
use Rattle.fuse_spec.specs.Kernel.Kernel.{Kernel}
use Rattle.fw_sides.specs.KernelRuns.{DoesKernelLine}
use Rattle.fw_sides.specs.Lines.{DoLines}
use Rattle.fw_sides.proofs.kernel_process.run_new.Goals as goal

pub returns : goal.returns
returns g c = on_ok_weaker c.do_lines-ended.result (λ done. (
  done.0,
  c.do_lines-ended.new.side,
  subst (λ (first : Kernel). DoLines (DoesKernelLine g.row.T-Heap.Denot) first done.0 c.do_lines-ended.new.side) c.new-kernel.ensures
      done.1,
)) c.do_lines-ended.ensures
