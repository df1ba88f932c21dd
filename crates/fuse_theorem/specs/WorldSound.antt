-- What is true of every world to which events lead from the first one, and the events that need no more.
use Rattle.fuse_spec.specs.Kernel.Queues.{IsSound}
use Rattle.fuse_spec.specs.World.Worlds.{World}
use Rattle.fuse_spec.specs.World.Events.{Event}
use Rattle.fuse_spec.specs.World.Events as event
use Rattle.fuse_theorem.specs.EachEvent.{IsRooted}
use Rattle.fuse_theorem.specs.Lookups.{LookupsSound}
use Rattle.fuse_theorem.specs.Unperformed.{RequestsSound}

-- The root and the answers, the queues, the lookups and the requests that are not performed are sound.
pub record WorldSound (w : World) : Type 0 where
  pub rooted : IsRooted w.kernel.vfs
  pub queues : IsSound w.kernel.queues
  pub lookups : LookupsSound w
  pub requests : RequestsSound w

-- A mount, a call, the reading of requests, one more copy, a signal, the time, a name that is dropped, and an abort
-- need no more of the world than that.
abbrev pub NeedsNoMore : Event → Type 0
NeedsNoMore (event.mount found_ms missing_ms minor) = Unit {0}
NeedsNoMore (event.call call) = Unit {0}
NeedsNoMore event.read_interrupt = Unit {0}
NeedsNoMore (event.read_forgets n) = Unit {0}
NeedsNoMore (event.read_pending k) = Unit {0}
NeedsNoMore (event.take k) = ⊥
NeedsNoMore (event.perform unique) = ⊥
NeedsNoMore (event.again unique) = Unit {0}
NeedsNoMore (event.write k) = ⊥
NeedsNoMore (event.settle k) = ⊥
NeedsNoMore (event.intr call fatal) = Unit {0}
NeedsNoMore (event.tick ms) = Unit {0}
NeedsNoMore (event.drop_name directory name) = Unit {0}
NeedsNoMore (event.evict node) = ⊥
NeedsNoMore event.abort = Unit {0}
