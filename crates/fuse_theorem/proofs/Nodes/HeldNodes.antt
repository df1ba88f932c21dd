-- The server holds the nodes that the kernel knows, and those that what it holds, keeps or has sent names.
use Rattle.std.proofs.Common.{◌≡◌, ◌≢◌, ◌≤◌, ℕ, Bool, true, false, List, Some, None, get_or, refl, sym, subst, All}
use Rattle.std.specs.Prelude.{Contains}
use Rattle.std.proofs.lemmas.List.Elements.{All-nil, All-head, All-tail, All-contains}
use Rattle.fuse_spec.specs.declared.Entry.{Entry}
use Rattle.fuse_spec.specs.Values.Maps.{get}
use Rattle.fuse_spec.specs.Kernel.Messages.{WireReply}
use Rattle.fuse_spec.specs.Files.Operations.{files_in_reply}
use Rattle.fuse_spec.specs.Kernel.Queues.{request_under}
use Rattle.fuse_spec.specs.Kernel.Kernel.{is_live}
use Rattle.fuse_spec.specs.Server.Nodes.{NodeTable}
use Rattle.fuse_spec.specs.Server.Server.{HeldRequest}
use Rattle.fuse_spec.specs.World.Worlds.{World, Sent}
use Rattle.fuse_theorem.specs.Conditions.{EntriesAreHeld, HoldsAll}
use Rattle.fuse_theorem.specs.Copies.{SomeHas, here, there, KeptAreSent}
use Rattle.fuse_theorem.specs.Links.{LinksSound}
use Rattle.fuse_theorem.specs.Lookups.{IsHeldAs, EntriesHeld}
use Rattle.fuse_theorem.specs.StillHeld.{NodesStillHeld}
use Rattle.fuse_theorem.specs.WorldSound.{WorldSound}
use Rattle.fuse_theorem.proofs.Requests.LinksSound.{none_in}
use Rattle.fuse_theorem.proofs.Lookups.LookupsStay.{known_held}

entries_held : (t : NodeTable) (wire : WireReply) → EntriesHeld t wire → EntriesAreHeld t wire
entries_held t wire held g among = (All-contains (λ (x : Entry). (2 ≤ x.nodeid) × IsHeldAs t x.nodeid x.generation)
    (files_in_reply wire) g held among).1

-- what each element has, some element has too
some_of : {X : Type 0} (P Q : X → Type 0) (xs : List X) → All Q xs → SomeHas P xs → (x : X) × P x × Q x
some_of P Q xs all (here x rest p) = (x, p, All-head Q x rest all)
some_of P Q xs all (there x rest h) = some_of P Q rest (All-tail Q x rest all) h

-- Where it holds the nodes of the requests that it holds.
pub nodes_held : (w : World) → WorldSound w → LinksSound w → KeptAreSent w
    → ((unique : ℕ) (t : HeldRequest) → get w.server.held unique ≡ Some t → NodesStillHeld w.server.nodes t)
    → HoldsAll w w.server.nodes
nodes_held w sound links kept held = by (is_live w.kernel.phase) refl
  where
    held_nodes : (unique : ℕ) (t : HeldRequest) → get w.server.held unique ≡ Some t → (id generation : ℕ)
        → Contains t.generations (id, generation) → IsHeldAs w.server.nodes id generation
    held_nodes unique t at id generation among = let now =
        held unique t at in All-contains (λ (g : ℕ × ℕ). IsHeldAs w.server.nodes g.0 g.1) t.generations
        (id, generation) now.held among

    by : (b : Bool) → is_live w.kernel.phase ≡ b → HoldsAll w w.server.nodes
    by true live =
        let lookups = sound.lookups in
        let balanced = lookups.balanced live in
        record {
          known = known_held w sound.lookups;
          held = held_nodes;
          kept = λ unique k at awaited.
              let sent = some_of (λ (s : Sent). (s.unique ≡ unique) × (s.wire ≡ k.wire))
              (λ (s : Sent). EntriesHeld w.server.nodes s.wire) w.replies balanced.copies
              (kept unique k at awaited) in
              entries_held w.server.nodes k.wire (subst (EntriesHeld w.server.nodes) sent.1.1 sent.2);
          copies = λ i s lt awaited. entries_held w.server.nodes (get_or w.replies i s).wire (balanced.copies i s lt);
        }
    by false dead =
        let idle = links.idle dead in
        record {
          known = known_held w sound.lookups;
          held = held_nodes;
          kept = λ unique k at awaited. none_in w.server.kept unique k idle.kept at;
          copies = subst (All (λ (s : Sent). request_under w.kernel.queues s.unique ≢ None
              → EntriesAreHeld w.server.nodes s.wire)) (sym idle.replies) (All-nil (λ (s : Sent). _));
        }
