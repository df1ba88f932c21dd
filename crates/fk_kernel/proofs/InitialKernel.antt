-- A kernel before its first mount, and one that is mounted, is sound.
use Rattle.std.proofs.Common.{ℕ, [], true≢false, refl, arith}
use Rattle.fuse_spec.specs.Values.Maps.{Map}
use Rattle.fuse_spec.specs.Calls.Vfs.{CallState}
use Rattle.fuse_spec.specs.declared.Counted.{Counted}
use Rattle.fuse_spec.specs.declared.Opened.{Opened}
use Rattle.fuse_spec.specs.declared.Phase.{Phase}
use Rattle.fuse_spec.specs.declared.Purpose.{Purpose}
use Rattle.fuse_spec.specs.declared.Purpose.TheVariants.{Init}
use Rattle.fuse_spec.specs.declared.Phase.TheVariants.{Down, Starting}
use Rattle.fuse_spec.specs.Kernel.Queues.{QueueState, empty_queues}
use Rattle.fuse_spec.specs.Kernel.QueueCalls.{after_enqueue}
use Rattle.fk_kernel.specs.Soundness.{IsSoundKernel}
use Rattle.fk_queues.specs.Room.{Room}
use Rattle.fk_kernel.proofs.OpenFilesKept.{no_files}
use Rattle.fk_kernel.proofs.Nodes.{none_counted}
use Rattle.fk_kernel.proofs.Served.{none_served, init_served}

pub sound_first : {W : Type 0} (free : ℕ) (space : Room)
    → IsSoundKernel {W = W} Down [] [] free 1 [] [] empty_queues space [] 0
sound_first free space = record {
  numbers = record {
    calls_below = λ n le. refl;
    answers_below = λ n le. refl;
    apart = λ n there. refl;
    room = omega arith;
    next = omega arith;
  };
  idle = λ down. refl;
  sorted = tt;
  files = no_files [] 1;
  releases = omega arith;
  nodes = none_counted space.forgets;
  served = none_served [];
  clock_low = omega arith;
}

pub sound_mounted : {W : Type 0} {phase : Phase} {calls : Map (CallState Opened)} {answers : Map W} {free coming : ℕ}
    {opens closing : Map Opened} {queues : QueueState Purpose} {space : Room} {known : Map Counted} {clock : ℕ}
    → IsSoundKernel phase calls answers free coming opens closing queues space known clock
    → (left : Room)
    → IsSoundKernel Starting [] answers free coming [] [] (after_enqueue empty_queues Init) left [] clock
sound_mounted {coming = coming} old left = record {
  numbers = record {
    calls_below = λ n le. refl;
    answers_below = old.numbers.answers_below;
    apart = λ n there. absurd (there refl);
    room = omega arith;
    next = old.numbers.next;
  };
  idle = λ down. absurd (true≢false down);
  sorted = tt;
  files = no_files [] coming;
  releases = omega arith;
  nodes = none_counted left.forgets;
  served = init_served [];
  clock_low = old.clock_low;
}
