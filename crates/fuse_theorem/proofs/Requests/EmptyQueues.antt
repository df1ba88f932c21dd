-- Empty queues are sound.
use Rattle.std.proofs.Common.{refl, arith}
use Rattle.fuse_spec.specs.declared.Purpose.{Purpose}
use Rattle.fuse_spec.specs.Kernel.Queues.{empty_queues, IsSound}

pub empty_sound : IsSound {W = Purpose} empty_queues
empty_sound = record {
  next = record { even = refl; low = omega arith; high = omega arith };
  requests = λ u. omega arith;
  interrupts = λ u. omega arith;
}
