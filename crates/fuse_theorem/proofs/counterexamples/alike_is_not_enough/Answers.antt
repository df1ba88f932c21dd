use Rattle.std.proofs.Common.{◌≡◌, None, arith}
use Rattle.fuse_spec.specs.Kernel.Messages.{forget}
use Rattle.fuse_spec.specs.Server.Server.{fault_of}
use Rattle.fuse_theorem.specs.Counterexamples.{with_a_stray_forget}
use Rattle.fuse_theorem.proofs.WholeLists.NoPremise.{stray_alike}
use Rattle.fuse_theorem.proofs.counterexamples.alike_is_not_enough.Goals as goal

pub returns : goal.returns
returns g = (
  stray_alike,
  λ keeps. let none : fault_of with_a_stray_forget.server
      (record { unique = 2; body = forget (2, 1) }) ≡ None =
      keeps.no_fault 0 (record { unique = 2; body = forget (2, 1) }) (omega arith) in cc (none),
)
