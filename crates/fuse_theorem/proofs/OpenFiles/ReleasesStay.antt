-- The kernel knows the nodes of closed files and of RELEASEs, and the server holds RELEASEs as the kernel knows them,
-- whatever the event.
use Rattle.fuse_spec.specs.Calls.Calls.{for_minor}
use Rattle.std.proofs.Common.{◌≡◌, ℕ, ◌+◌, Bool, drop, true, false, true≢false, cond, [], ◌∷◌, Option, Some, None, nat_eq, slice_get, refl, sym, subst, ◌∙◌, get_or, All}
use Rattle.std.specs.List.{list_any, remove as without_at}
use Rattle.std.proofs.lemmas.List.Elements.{All-nil, All-cons, All-head}
use Rattle.fuse_spec.specs.declared.Counted.{Counted}
use Rattle.fuse_spec.specs.declared.Opened.{Opened}
use Rattle.fuse_spec.specs.declared.Purpose.{Purpose}
use Rattle.fuse_spec.specs.declared.Purpose.TheVariants as purpose
use Rattle.fuse_spec.specs.declared.QueuedRequest.{QueuedRequest}
use Rattle.fuse_spec.specs.Claim.Counts.{opens_of}
use Rattle.fuse_spec.specs.Files.Operations.{opened_nodes}
use Rattle.fuse_spec.specs.Kernel.Kernel.{Kernel, asked_by, body_of, is_released_by, is_pinned, is_bound}
use Rattle.fuse_spec.specs.Values.Maps.{Map, get, remove, values}
use Rattle.fuse_spec.specs.Kernel.Messages.{RequestBody, release, WireReply}
use Rattle.fuse_spec.specs.Files.Operations.{Operation, read, write, files_in}
use Rattle.fuse_spec.specs.Server.Performs.{served}
use Rattle.fuse_spec.specs.Kernel.QueueCalls.{can_read_forgets}
use Rattle.fuse_spec.specs.Kernel.Queues.{pending}
use Rattle.fuse_spec.specs.Server.Server.{nodes_of_body}
use Rattle.fuse_spec.specs.Server.Taking.{taking}
use Rattle.fuse_spec.specs.Calls.Vfs.{CallState, using, Vfs}
use Rattle.fuse_spec.specs.World.Worlds.{World, first_world, copy_put}
use Rattle.fuse_spec.specs.World.Events.{Event, Outcome}
use Rattle.fuse_spec.specs.World.Steps.{Happens}
use Rattle.fuse_theorem.specs.AskedRequests.{IsAsked, RequestsAskedWhileLive}
use Rattle.fuse_theorem.specs.ClosedFiles.{ClosedFiles}
use Rattle.fuse_theorem.specs.HeldKnown.{HeldKnownWhileLive}
use Rattle.fuse_theorem.specs.KnownNodes.{IsKnown, VfsKnown, NodesKnown}
use Rattle.fuse_theorem.specs.Links.{LinksSound}
use Rattle.fuse_theorem.specs.ReleasesKnown.{ReleaseKnown, ReleasesKnown}
use Rattle.fuse_theorem.specs.WorldSound.{WorldSound}
use Rattle.fuse_theorem.proofs.OpenFiles.ClosedStay.{closed_stay, first_closed}
use Rattle.fuse_theorem.proofs.Refining.Evicting.{or_false}
use Rattle.fuse_theorem.proofs.Calls.Finding.{All-found, same_is}
use Rattle.fuse_theorem.proofs.RefusalCases.Happened.{Happened, by_mount, by_call, by_read_interrupt, by_read_forgets, by_read_pending, by_take, by_perform, by_again, by_write, by_settle, by_signal, by_tick, by_drop, by_evict, by_abort, happened}
use Rattle.fuse_theorem.proofs.Nodes.HeldStays.{HeldOfWhileLive, NamesKnown, held_of_stay}
use Rattle.fuse_theorem.proofs.Calls.KnownWalks.{StateKnown, OpenKnown}
use Rattle.fuse_theorem.proofs.Nodes.NodesKnown.{nodes_stay_known, still_known}
use Rattle.fuse_theorem.proofs.Requests.NumbersStay.{replying_kernel}
use Rattle.fuse_theorem.proofs.OpenFiles.ReleasesKept.{KeptReleases, begun_kept, signalled_kept, read_kept, written_kept}
use Rattle.fuse_theorem.proofs.Nodes.UnsentNodes.{each_fails}
use Rattle.fuse_theorem.proofs.Calls.UsedFiles.{user_of}
use Rattle.fuse_theorem.proofs.Lists.Values.{All-get, All-found_values}

-- ---- closed files

-- An operation on an open file names its node.
names_file : (P : ℕ → Type 0) (operation : Operation ℕ Opened) (o : Opened) → opens_of operation ≡ o ∷ []
    → All P (files_in opened_nodes operation) → P o.nodeid
names_file P (read x offset size) o e h = let same : x ≡ o =
    cc (e) in subst (λ (y : Opened). P y.nodeid) same (All-head P x.nodeid [] h)
names_file P (write x offset bytes) o e h = let same : x ≡ o =
    cc (e) in subst (λ (y : Opened). P y.nodeid) same (All-head P x.nodeid [] h)
names_file P other o e h = absurd (cc (e))

-- The call that uses a closed file keeps its node known.
pub closing_known : (nodes : Map Counted) (c : Vfs Opened) (closing : Map Opened) → ClosedFiles c closing
    → VfsKnown nodes c → All (λ (o : Opened). IsKnown nodes o.nodeid) (values closing)
closing_known nodes c closing files known =
    All-found_values (OpenKnown nodes) closing files.closing_in_order (λ open_call o at.
    let user = user_of c closing files open_call o at in
    names_file (IsKnown nodes) user.1 o user.3 (All-get (StateKnown nodes) c.calls user.0
    (using open_call user.1) known.calls user.2))

-- ---- requests

abbrev Fine : Map Counted → ℕ × QueuedRequest Purpose → Type 0
Fine nodes e = ReleaseKnown nodes e.1.kept

module _ (w : World) (nodes : NodesKnown w.kernel) (old : ReleasesKnown w) where
  releases : KeptReleases w.kernel
  releases = record { closing = old.closing; requests = old.requests }

  -- a node that goes is of no RELEASE
  unreleased : (node : ℕ) → list_any
      (λ (e : ℕ × QueuedRequest Purpose). is_released_by node e.1.kept) w.kernel.queues.requests ≡ false
      → All (λ (e : ℕ × QueuedRequest Purpose). ReleaseKnown
      (remove w.kernel.nodes node) e.1.kept) w.kernel.queues.requests
  unreleased node none = λ i d lt. let e = get_or w.kernel.queues.requests i d in
      by e.1.kept (each_fails (λ
      (x : ℕ × QueuedRequest Purpose). is_released_by node x.1.kept) w.kernel.queues.requests none i d lt)
      (old.requests i d lt)
    where
      by : (purpose : Purpose) → is_released_by node purpose ≡ false → ReleaseKnown w.kernel.nodes purpose
          → ReleaseKnown (remove w.kernel.nodes node) purpose
      by purpose.Init free h = tt
      by (purpose.Release o) free h = still_known w.kernel.nodes node o.nodeid
          (λ e. true≢false (sym (subst (λ (n : ℕ). nat_eq n node ≡ true) (sym e) (same_is node)) ∙ free)) h
      by (purpose.Call call) free h = tt

  requests_same : (v : World) (number unique : ℕ) (o : Option WireReply) → v.kernel ≡ w.kernel
      → All (λ (e : ℕ × QueuedRequest Purpose). ReleaseKnown (copy_put v number unique o).kernel.nodes e.1.kept)
      (copy_put v number unique o).kernel.queues.requests
  requests_same v number unique o same = subst (λ (k : Kernel). All
      (λ (e : ℕ × QueuedRequest Purpose). ReleaseKnown k.nodes e.1.kept) k.queues.requests)
      (sym (replying_kernel v number unique o ∙ same)) old.requests

  by_event : (choice : ℕ → ℕ) (e : Event) (o : Outcome) (after : World) → Happened choice w e o after
      → All (λ (x : ℕ × QueuedRequest Purpose). ReleaseKnown after.kernel.nodes x.1.kept) after.kernel.queues.requests
  by_event choice e o after (by_mount f m v idle) = All-cons (Fine []) _ [] tt (All-nil (Fine []))
  by_event choice e o after (by_call call ready room within) = let now =
      begun_kept w.kernel nodes releases (for_minor w.kernel.lists_files call) in now.requests
  by_event choice e o after (by_read_interrupt original rest live there within) = old.requests
  by_event choice e o after (by_read_forgets n live free can within few) = by (can_read_forgets w.kernel.queues n)
    where
      by : (b : Bool) → All (λ (x : ℕ × QueuedRequest Purpose). ReleaseKnown w.kernel.nodes x.1.kept)
          (cond b (record w.kernel.queues {
            forgets = drop n w.kernel.queues.forgets;
            next = w.kernel.queues.next + 2;
          }) w.kernel.queues).requests
      by true = old.requests
      by false = old.requests
  by_event choice e o after (by_read_pending k unique kept body live free there says within) =
      read_kept w.kernel.nodes w.kernel.queues old.requests (slice_get (pending w.kernel.queues) k)
  by_event choice e o after (by_take k r there within) = let took =
      taking w.server r.unique r.body in requests_same
      (record w {
        requests = without_at w.requests k;
        server =
            took.server;
      }) w.server.next_copy r.unique took.reply refl
  by_event choice e o after (by_perform unique t there within) =
      let did = served choice w.server unique t in requests_same
      (record w { server = did.server }) w.server.next_copy unique (cond w.server.aborted None (Some did.wire)) refl
  by_event choice e o after (by_again unique x there current within) = old.requests
  by_event choice e o after (by_write k sent there within) = let now =
      written_kept w.kernel releases sent.unique sent.wire in now.requests
  by_event choice e o after (by_settle k result there) = old.requests
  by_event choice e o after (by_signal call fatal state live there within) = let now =
      signalled_kept w.kernel releases call state fatal in now.requests
  by_event choice e o after (by_tick ms timely) = old.requests
  by_event choice e o after (by_drop directory name bound live there) = old.requests
  by_event choice e o after (by_evict node counted live there unused) =
      let unpinned = (or_false (is_pinned w.kernel node) (is_bound w.kernel node) unused).0 in
      unreleased node (or_false _
      (list_any (λ (x : ℕ × QueuedRequest Purpose). is_released_by node x.1.kept) w.kernel.queues.requests)
      (or_false _ _ unpinned).1).1
  by_event choice e o after (by_abort live) = All-nil (Fine [])

-- ---- held RELEASEs

abbrev OfReleases : RequestBody → Type 0
OfReleases body = (o : Opened) × (body ≡ release o)

-- The node of a RELEASE that the kernel asks is known.
pub release_known : (w : World) → ReleasesKnown w → (unique : ℕ) (o : Opened) → IsAsked w.kernel unique (release o)
    → IsKnown w.kernel.nodes o.nodeid
release_known w old unique o is =
    by is.request.kept (All-found
    (λ (e : ℕ × QueuedRequest Purpose). ReleaseKnown w.kernel.nodes e.1.kept) unique w.kernel.queues.requests is.request old.requests is.under) is.asks
  where
    of_call : (x : Option (CallState Opened)) → asked_by x ≡ Some (release o) → IsKnown w.kernel.nodes o.nodeid
    of_call None e = absurd (cc (e))
    of_call (Some state) e = absurd (cc (e))

    by : (purpose : Purpose) → ReleaseKnown w.kernel.nodes purpose → body_of w.kernel purpose ≡ Some (release o)
        → IsKnown w.kernel.nodes o.nodeid
    by purpose.Init h e = absurd (cc (e))
    by (purpose.Release x) h e = let same : x ≡ o = cc (e) in
        subst (λ (y : Opened). IsKnown w.kernel.nodes y.nodeid) same h
    by (purpose.Call call) h e = of_call (get w.kernel.vfs.calls call) e

-- The nodes of RELEASEs stay known, whatever the event.
pub releases_stay_known : (w : World) → WorldSound w → RequestsAskedWhileLive w → LinksSound w → NodesKnown w.kernel
    → HeldKnownWhileLive w → ReleasesKnown w → (e : Event) (o : Outcome) (after : World) → Happens w e o after
    → ReleasesKnown after
releases_stay_known w sound requests links nodes held old e o after h =
    let files = closed_stay w old.files e o after h in
    record {
      files = files;
      closing = closing_known after.kernel.nodes after.kernel.vfs after.kernel.closing files
          (nodes_stay_known w sound nodes e o after h);
      requests = by_event w nodes old h.0 e o after (happened h.0 w o after e h.2);
      held = λ live u t at x is. let stays =
          held_of_stay OfReleases w sound requests links named was e o after h live u t at in stays.known (x, is);
    }
  where
    was : HeldOfWhileLive OfReleases w
    was live u t at = let before = held live u t at in
        record { names = before.names; known = λ which. old.held live u t at which.0 which.1 }

    named : NamesKnown OfReleases w
    named unique body is which =
        subst (λ (b : RequestBody). All (IsKnown w.kernel.nodes) (nodes_of_body b)) (sym which.1)
        (All-cons (IsKnown w.kernel.nodes) which.0.nodeid []
        (release_known w old unique which.0 (subst (IsAsked w.kernel unique) which.1 is))
        (All-nil (IsKnown w.kernel.nodes)))

pub first_releases : ReleasesKnown first_world
first_releases = record {
  files = first_closed;
  closing = All-nil (OpenKnown []);
  requests = All-nil (Fine []);
  held = λ live u t at. absurd (cc);
}
