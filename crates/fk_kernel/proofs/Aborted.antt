-- The unanswered calls of a mount that is aborted are answered, and the kernel stays sound.
use Rattle.std.proofs.Common.{ℕ, [], refl, arith}
use Rattle.fuse_spec.specs.Calls.Answers.{Answer, failed}
use Rattle.fuse_spec.specs.Values.Maps.{Map}
use Rattle.fuse_spec.specs.Values.Numbers.{econnaborted}
use Rattle.fuse_spec.specs.Kernel.Queues.{QueueState, empty_queues}
use Rattle.fuse_spec.specs.Calls.Vfs.{CallState, all_answered}
use Rattle.fuse_spec.specs.declared.Counted.{Counted}
use Rattle.fuse_spec.specs.declared.Opened.{Opened}
use Rattle.fuse_spec.specs.declared.Phase.{Phase}
use Rattle.fuse_spec.specs.declared.Phase.TheVariants.{Aborted}
use Rattle.fuse_spec.specs.declared.Purpose.{Purpose}
use Rattle.fk_queues.specs.Room.{Room}
use Rattle.fk_kernel.specs.Soundness.{IsSoundKernel}
use Rattle.fk_calls.proofs.Answered.{answer_unchanged}
use Rattle.fk_kernel.proofs.OpenFilesKept.{no_files}
use Rattle.fk_kernel.proofs.Nodes.{none_counted}
use Rattle.fk_kernel.proofs.Served.{none_served}

-- An aborted kernel is sound.
pub sound_aborted : (phase : Phase) (calls : Map (CallState Opened)) (answers : Map Answer) (free more coming : ℕ)
    (opens closing : Map Opened) (s : QueueState Purpose) (space left : Room) (known : Map Counted) (clock : ℕ)
    → IsSoundKernel phase calls answers free coming opens closing s space known clock
    → IsSoundKernel Aborted []
    (all_answered (failed econnaborted) calls answers) more coming [] [] empty_queues left [] clock
sound_aborted phase calls answers free more coming opens closing s space left known clock old = record {
  numbers = record {
    calls_below = λ n le. refl;
    answers_below = λ n le. answer_unchanged (failed econnaborted) calls answers n (old.numbers.calls_below n le)
        (old.numbers.answers_below n le);
    apart = λ n there. absurd (there refl);
    room = omega arith;
    next = old.numbers.next;
  };
  idle = λ down. refl;
  sorted = tt;
  files = no_files [] coming;
  releases = omega arith;
  nodes = none_counted left.forgets;
  served = none_served [];
  clock_low = old.clock_low;
}
