-- The kernel stays sound as room grows, as requests are read and end, and as a forget is queued.
use Rattle.std.proofs.Common.{◌≡◌, ℕ, ◌+◌, ◌≤◌, length, refl}
use Rattle.fuse_spec.specs.Values.Maps.{Map}
use Rattle.fuse_spec.specs.Kernel.Queues.{QueueState}
use Rattle.fuse_spec.specs.Kernel.QueueCalls.{after_forget}
use Rattle.fuse_spec.specs.Calls.Vfs.{CallState}
use Rattle.fuse_spec.specs.declared.Counted.{Counted}
use Rattle.fuse_spec.specs.declared.Opened.{Opened}
use Rattle.fuse_spec.specs.declared.Phase.{Phase}
use Rattle.fuse_spec.specs.declared.Purpose.{Purpose}
use Rattle.fk_queues.specs.Room.{Room, KeepsRoom}
use Rattle.fk_kernel.specs.Soundness.{IsSoundKernel}
use Rattle.fk_kernel.proofs.Nodes.{still_counted}
use Rattle.fk_kernel.proofs.Rooms.{still_room, room_left}
use Rattle.fk_kernel.proofs.Served.{ServesNoMore, same_requests, served_less}

module _ {W : Type 0} {phase : Phase} {calls : Map (CallState Opened)} {answers : Map W} {free coming : ℕ}
    {opens closing : Map Opened} {queues : QueueState Purpose} {space : Room} {known : Map Counted} {clock : ℕ}
    (old : IsSoundKernel phase calls answers free coming opens closing queues space known clock) where
  -- there is room for more answers
  pub more_answers : {free' : ℕ} → free ≤ free'
      → IsSoundKernel phase calls answers free' coming opens closing queues space known clock
  more_answers kept = record {
    numbers = record {
      calls_below = old.numbers.calls_below;
      answers_below = old.numbers.answers_below;
      apart = old.numbers.apart;
      room = still_room old.numbers.room kept;
      next = old.numbers.next;
    };
    idle = old.idle;
    sorted = old.sorted;
    files = old.files;
    releases = old.releases;
    nodes = old.nodes;
    served = old.served;
    clock_low = old.clock_low;
  }

  -- there is as much room in the queues, or more
  pub more_room : {space' : Room} → KeepsRoom space space'
      → IsSoundKernel phase calls answers free coming opens closing queues space' known clock
  more_room {space'} kept = record {
    numbers = old.numbers;
    idle = old.idle;
    sorted = old.sorted;
    files = old.files;
    releases = still_room old.releases kept.requests;
    nodes = still_counted known space.forgets space'.forgets old.nodes kept.forgets;
    served = old.served;
    clock_low = old.clock_low;
  }

  -- and no call has more requests
  pub more_queued : {queues' after : QueueState Purpose} {space' : Room} → queues' ≡ after → ServesNoMore queues after
      → KeepsRoom space space'
      → IsSoundKernel phase calls answers free coming opens closing queues' space' known clock
  more_queued {space'} is fewer kept = record {
    numbers = old.numbers;
    idle = old.idle;
    sorted = old.sorted;
    files = old.files;
    releases = still_room old.releases kept.requests;
    nodes = still_counted known space.forgets space'.forgets old.nodes kept.forgets;
    served = rw is (served_less old.served fewer);
    clock_low = old.clock_low;
  }

  -- a forget is queued in room for one more
  pub forget_queued : {more left : Room} (node count : ℕ) → KeepsRoom space more
      → length known + 1 ≤ more.forgets → more.requests ≤ left.requests → more.forgets ≤ left.forgets + 1
      → IsSoundKernel phase calls answers free coming opens closing (after_forget queues node count) left known clock
  forget_queued node count kept room requests forgets = record {
    numbers = old.numbers;
    idle = old.idle;
    sorted = old.sorted;
    files = old.files;
    releases = still_room (still_room old.releases kept.requests) requests;
    nodes = record { below = old.nodes.below; room = room_left room forgets };
    served = served_less old.served (same_requests refl);
    clock_low = old.clock_low;
  }
