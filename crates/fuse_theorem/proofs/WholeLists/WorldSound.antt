-- Worlds stay sound, whatever happens, and that is all that most events need.
use Rattle.std.proofs.Common.{ℕ, refl}
use Rattle.fuse_spec.specs.World.Worlds.{World, first_world}
use Rattle.fuse_spec.specs.World.Events.{Event, Outcome}
use Rattle.fuse_spec.specs.World.Events as event
use Rattle.fuse_spec.specs.World.Steps.{Happens}
use Rattle.fuse_spec.specs.Reference.Plain.{Plain}
use Rattle.fuse_theorem.specs.EachEvent.{Needs}
use Rattle.fuse_theorem.specs.WorldSound.{WorldSound, NeedsNoMore}
use Rattle.fuse_theorem.proofs.Requests.EmptyQueues.{empty_sound}
use Rattle.fuse_theorem.proofs.Refining.LookedUp.{one_to_one}
use Rattle.fuse_theorem.proofs.Lookups.LookupsStay.{first_lookups, lookups_stay, known_held}
use Rattle.fuse_theorem.proofs.Requests.QueuesSound.{stays_sound}
use Rattle.fuse_theorem.proofs.Requests.RequestsSound.{first_requests, requests_stay}
use Rattle.fuse_theorem.proofs.Nodes.Rooted.{stays_rooted}
use Rattle.fuse_theorem.proofs.Nodes.ServerSound.{one_id}
use Rattle.fuse_theorem.proofs.Requests.StandsOnce.{unread_unsent}

pub first_world_sound : WorldSound first_world
first_world_sound = record {
  rooted = record { root = refl; answers = tt };
  queues = empty_sound;
  lookups = first_lookups;
  requests = first_requests;
}

-- Worlds stay sound, whatever the event.
pub worlds_stay : (w : World) → WorldSound w → (e : Event) (o : Outcome) (after : World) → Happens w e o after
    → WorldSound after
worlds_stay w s e o after h =
    let lookups = s.lookups in
    record {
      rooted = stays_rooted h.0 w s.rooted o after e h.2;
      queues = stays_sound h.0 w s.queues o after e h.2;
      lookups = lookups_stay w s.lookups e o after h;
      requests = requests_stay h.0 w s.requests lookups.numbers e o after h.2;
    }

-- What these events need of a sound world holds.
pub needs_met : (w : World) → WorldSound w → (choice : ℕ → ℕ) (p : Plain) (e : Event) → NeedsNoMore e
    → Needs choice w p e
needs_met w s choice p e no_more = by e no_more
  where
    by : (x : Event) → NeedsNoMore x → Needs choice w p x
    by (event.mount f m v) _ = s.rooted
    by (event.call call) _ = let lookups = s.lookups in let server =
        lookups.server in (
          lookups.numbers,
          one_to_one w.kernel.nodes w.server.nodes
              (one_id w.server.nodes server.nodes),
        )
    by event.read_interrupt _ = s.queues
    by (event.read_forgets n) _ = s.queues
    by (event.read_pending k) _ = s.queues
    by (event.take k) never = absurd never
    by (event.perform unique) never = absurd never
    by (event.again unique) _ = let lookups = s.lookups in let server =
        lookups.server in (one_id w.server.nodes server.nodes, known_held w s.lookups)
    by (event.write k) never = absurd never
    by (event.settle k) never = absurd never
    by (event.intr call fatal) _ =
        let lookups = s.lookups in
        let server = lookups.server in
        let requests = s.requests in
        (lookups.numbers, (one_id w.server.nodes server.nodes, unread_unsent w requests.once s.queues))
    by (event.tick ms) _ = tt
    by (event.drop_name directory name) _ = let lookups = s.lookups in let server =
        lookups.server in one_to_one w.kernel.nodes w.server.nodes (one_id w.server.nodes server.nodes)
    by (event.evict node) never = absurd never
    by event.abort _ = s.rooted
