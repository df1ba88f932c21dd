-- In a live mount the server holds the nodes that the kernel knows, those of held requests, and those that copies and
-- kept replies name.
use Rattle.fuse_spec.specs.Values.Numbers.{init_flags}
use Rattle.std.proofs.Common.{◌≡◌, ◌≢◌, ◌≤◌, ℕ, true, List, Option, Some, None, refl, sym, subst, All}
use Rattle.std.proofs.lemmas.List.Elements.{All-nil, All-head, All-tail, All-contains}
use Rattle.fuse_spec.specs.declared.Entry.{Entry}
use Rattle.fuse_spec.specs.declared.Opened.{Opened}
use Rattle.fuse_spec.specs.declared.Purpose.{Purpose}
use Rattle.fuse_spec.specs.declared.Purpose.TheVariants as purpose
use Rattle.fuse_spec.specs.Kernel.Kernel.{Kernel, is_live, asked_by, body_of}
use Rattle.fuse_spec.specs.Values.Maps.{get, remove}
use Rattle.fuse_spec.specs.Kernel.Messages.{RequestBody, init, asks, release, forget, batch_forget, interrupt, WireReply}
use Rattle.fuse_spec.specs.Server.Nodes.{NodeTable}
use Rattle.fuse_spec.specs.Files.Operations.{Operation, files_in_reply}
use Rattle.fuse_spec.specs.Kernel.Queues.{request_under}
use Rattle.fuse_spec.specs.Server.Server.{HeldRequest}
use Rattle.fuse_spec.specs.Calls.Vfs.{CallState, asked}
use Rattle.fuse_spec.specs.Claim.Denotes.{generation_known}
use Rattle.fuse_spec.specs.World.Worlds.{World, Sent}
use Rattle.fuse_theorem.specs.AskedRequests.{IsAsked, RequestsAskedWhileLive}
use Rattle.fuse_theorem.specs.Conditions.{EntriesAreHeld, HoldsAll}
use Rattle.fuse_theorem.specs.Copies.{SomeHas, here, there, KeptAreSent}
use Rattle.fuse_theorem.specs.HeldKnown.{HeldKnownWhileLive}
use Rattle.fuse_theorem.specs.Links.{LinksSound}
use Rattle.fuse_theorem.specs.Lookups.{IsHeldAs, EntriesHeld}
use Rattle.fuse_theorem.specs.ReleasesKnown.{ReleasesKnown}
use Rattle.fuse_theorem.specs.WorldSound.{WorldSound}
use Rattle.fuse_theorem.proofs.Lookups.LookupsStay.{known_held}
use Rattle.fuse_theorem.proofs.Nodes.NodesKnown.{All-more}
use Rattle.fuse_theorem.proofs.Nodes.NodesSound.{left_found}

-- What a request that awaits a reply asks: INIT, a call's operation or a RELEASE.
pub data AwaitsReply : RequestBody → Type 0 where
  of_init : (flags : ℕ) → AwaitsReply (init flags)
  of_call : (operation : Operation ℕ Opened) → AwaitsReply (asks operation)
  of_release : (o : Opened) → AwaitsReply (release o)

pub asks_reply : (k : Kernel) (kept : Purpose) (body : RequestBody) → body_of k kept ≡ Some body → AwaitsReply body
asks_reply k purpose.Init body e = let same : init init_flags ≡ body =
    cc (e) in subst AwaitsReply same (of_init init_flags)
asks_reply k (purpose.Release o) body e = let same : release o ≡ body = cc (e) in subst AwaitsReply same (of_release o)
asks_reply k (purpose.Call call) body e = called (get k.vfs.calls call) e
  where
    called : (o : Option (CallState Opened)) → asked_by o ≡ Some body → AwaitsReply body
    called None e = absurd (cc (e))
    called (Some state) e = let same : asks (asked state) ≡ body =
        cc (e) in subst AwaitsReply same (of_call (asked state))

pub awaits_reply : (k : Kernel) (unique : ℕ) (body : RequestBody) → IsAsked k unique body → AwaitsReply body
awaits_reply k unique body is = asks_reply k is.request.kept body is.asks

-- one of a list has both
found_among : {X : Type 0} (P Q : X → Type 0) (xs : List X) → SomeHas P xs → All Q xs → (x : X) × P x × Q x
found_among P Q xs (here x rest p) all = (x, p, All-head Q x rest all)
found_among P Q xs (there x rest more) all = found_among P Q rest more (All-tail Q x rest all)

entries_held : (t : NodeTable) (wire : WireReply) → EntriesHeld t wire → EntriesAreHeld t wire
entries_held t wire held g among = (All-contains (λ (x : Entry). (2 ≤ x.nodeid) × IsHeldAs t x.nodeid x.generation)
    (files_in_reply wire) g held among).1

module _ (w : World) (sound : WorldSound w) (requests : RequestsAskedWhileLive w) (links : LinksSound w)
    (held : HeldKnownWhileLive w) (releases : ReleasesKnown w) (live : is_live w.kernel.phase ≡ true) where
  abbrev KnownAs : ℕ × ℕ → Type 0
  KnownAs g = generation_known w.kernel.nodes g.0 ≡ Some g.1

  -- Every held request names its nodes as the kernel knows them.
  pub held_known : (unique : ℕ) (t : HeldRequest) → get w.server.held unique ≡ Some t
      → All (λ (g : ℕ × ℕ). generation_known w.kernel.nodes g.0 ≡ Some g.1) t.generations
  held_known unique t at = by t.body refl (awaits_reply w.kernel unique t.body
      ((requests live).held unique t at).is_asked)
    where
      by : (body : RequestBody) → t.body ≡ body → AwaitsReply body
          → All (λ (g : ℕ × ℕ). generation_known w.kernel.nodes g.0 ≡ Some g.1) t.generations
      by (init flags) is (of_init _) = subst (All KnownAs) (sym (links.held unique t at flags is)) (All-nil KnownAs)
      by (asks operation) is (of_call x) = (held live unique t at).known operation is
      by (release o) is (of_release x) = releases.held live unique t at o is
      by (forget f) is awaits = elim awaits [ ]
      by (batch_forget fs) is awaits = elim awaits [ ]
      by (interrupt original) is awaits = elim awaits [ ]

  -- So the server holds all that is known, held and on its way.
  pub holds_all : KeptAreSent w → HoldsAll w w.server.nodes
  holds_all sent =
      let lookups = sound.lookups in
      let balanced = lookups.balanced live in
      record {
        known = known_held w lookups;
        held = λ unique t at id generation among. known_held w lookups id generation
            (All-contains KnownAs t.generations (id, generation) (held_known unique t at) among);
        kept = λ unique k at awaited.
            let found = found_among (λ (s : Sent). (s.unique ≡ unique) × (s.wire ≡ k.wire))
            (λ (s : Sent). EntriesHeld w.server.nodes s.wire) w.replies
            (sent unique k at awaited) balanced.copies in
            entries_held w.server.nodes k.wire (subst (EntriesHeld w.server.nodes) found.1.1 found.2);
        copies = All-more {P = λ (s : Sent). EntriesHeld w.server.nodes s.wire} {Q =
            λ (s : Sent). request_under w.kernel.queues s.unique ≢ None
            → EntriesAreHeld w.server.nodes s.wire} w.replies
            (λ s h awaited. entries_held w.server.nodes s.wire h) balanced.copies;
      }

-- Fewer requests are held.
pub holds_fewer : (w : World) (t : NodeTable) (unique : ℕ) → HoldsAll w t
    → HoldsAll (record w { server = record w.server { held = remove w.server.held unique } }) t
holds_fewer w t unique holds = record {
  known = holds.known;
  held = λ u x at id generation among. holds.held u x (left_found w.server.held unique u x at) id generation among;
  kept = holds.kept;
  copies = holds.copies;
}
