-- A request that lists a directory waits as long as the directory is open for it, and lists the same node.
use Rattle.std.proofs.Common.{◌≡◌, ◌⊎◌, inl, inr, ℕ, ◌+◌, ◌≤◌, ◌<◌, Bool, true, false, true≢false, cond, List, [], ◌∷◌, Option, Some, None, nat_eq, nat_lt, option_map, slice_get, refl, ap, sym, subst, ◌∙◌, arith, All}
use Rattle.std.specs.Map.{lookup}
use Rattle.std.specs.Option.{option_map_or}
use Rattle.std.proofs.lemmas.Bool.{false≢true}
use Rattle.std.proofs.lemmas.Bool.Decides.{nat_tests}
use Rattle.fuse_spec.specs.declared.Mark.{Mark}
use Rattle.fuse_spec.specs.declared.Mark.TheVariants as mark
use Rattle.fuse_spec.specs.declared.Purpose.{Purpose}
use Rattle.fuse_spec.specs.declared.QueuedRequest.{QueuedRequest}
use Rattle.fuse_spec.specs.declared.WriteResult.{WriteResult}
use Rattle.fuse_spec.specs.Files.Operations as operation
use Rattle.fuse_spec.specs.Kernel.Kernel.{Kernel, body_of, is_live}
use Rattle.fuse_spec.specs.Kernel.Messages.{Forget, Request, RequestBody, asks}
use Rattle.fuse_spec.specs.Kernel.QueueCalls.{after_reading, set_mark}
use Rattle.fuse_spec.specs.Kernel.Queues.{QueueState, is_unread, pending, request_under}
use Rattle.fuse_spec.specs.Server.Server.{forgets_of, nodes_of_body}
use Rattle.fuse_spec.specs.World.Worlds.{forget_body}
use Rattle.fuse_spec.proofs.QueueCounts.{key_count, lookup-no_key}
use Rattle.fuse_theorem.specs.KnownNodes.{IsKnown}
use Rattle.fuse_theorem.specs.ReleasesKnown.{ReleaseKnown}
use Rattle.fuse_theorem.proofs.Calls.Finding.{All-found}
use Rattle.fuse_theorem.proofs.Requests.AskKept.{StillThere, asks_same, lookup_marked}
use Rattle.std.proofs.lemmas.List.Elements.{All-head}
use Rattle.fk_kernel.specs.AwaitedReplies.{head_unique}
use Rattle.fk_kernel.specs.Picks.{IsPicked, after_pick}
use Rattle.fk_kernel.specs.declared.read.Pick.{Pick}
use Rattle.fk_kernel.specs.declared.read.Pick.TheVariants.{Interrupt, Forgets, Pending}
use Rattle.fk_drive_frames.specs.OwnRequests.{ListsNode, readdir, readdirplus}
use Rattle.fk_drive.specs.KernelSteps.{ActsAlone, IsReplyTaken}
use Rattle.fk_drive_theorem.specs.TakenOnce.{mounts_alone}
use Rattle.fk_drive_theorem.proofs.OneEach.{OneEach}
use Rattle.fk_drive_theorem.proofs.Stable.{Stable, same_number, same_truth}
use Rattle.fk_drive_theorem.proofs.Taken.{TakenAs, refused_whole, is_read, holds_as_taken}
use Rattle.fk_drive_theorem.proofs.WrittenCounted.{EmptyUnlessLive}
use Rattle.driven_sessions.proofs.Asking.{once_each}
use Rattle.driven_sessions.proofs.InitNumbers.{picked_passed}
use Rattle.driven_sessions.proofs.KnownNodes.{Knowing}
use Rattle.driven_sessions.proofs.Numbers.{Each, Entry, Passed, each_at, moves_passed, passed_stable, reading_passes}
use Rattle.driven_sessions.proofs.Picking.{found_pending}
use Rattle.driven_sessions.proofs.Replying.{WellNumbered, alone_moves, by_live, moved, picked_moves}
use Rattle.driven_sessions.proofs.Steps.{alone_dead, alone_keeps, taken_dead, taken_keeps}
use Rattle.driven_sessions.proofs.PickedNodes.{purpose_known}

-- ---- a request that lists a node

-- What is asked lists this node.
abbrev pub lists_body : Option RequestBody → ℕ → Type 0
lists_body (Some (asks (operation.readdir d after size))) node = d ≡ node
lists_body (Some (asks (operation.readdirplus d after size))) node = d ≡ node
lists_body other node = ⊥

pub lists_of : (body : RequestBody) (node : ℕ) → ListsNode body node → lists_body (Some body) node
lists_of body node (readdir d after size) = refl
lists_of body node (readdirplus d after size) = refl

body_stable : (o : Option RequestBody) (node : ℕ) → Stable (lists_body o node)
body_stable (Some (asks (operation.readdir d after size))) node s = same_number d node s
body_stable (Some (asks (operation.readdirplus d after size))) node s = same_number d node s
body_stable other node s = s (λ none. none)

-- It forgets nothing, and names that node.
pub lists_forgets_none : (body : RequestBody) (node : ℕ) → lists_body (Some body) node → forgets_of body ≡ []
lists_forgets_none (asks op) node lists = refl
lists_forgets_none body node lists = absurd lists

pub lists_names : (P : ℕ → Type 0) (body : RequestBody) (node : ℕ) → lists_body (Some body) node → All P (nodes_of_body body) → P node
lists_names P (asks (operation.readdir d after size)) node lists all = subst P lists (All-head P d [] all)
lists_names P (asks (operation.readdirplus d after size)) node lists all = subst P lists (All-head P d [] all)
lists_names P body node lists all = absurd lists

-- A request was read and lists this node.
abbrev pub lists_request : Kernel → Option (QueuedRequest Purpose) → ℕ → Type 0
lists_request k None node = ⊥
lists_request k (Some r) node = (is_unread r.mark ≡ false) × lists_body (body_of k r.kept) node

-- So does the request under this number.
abbrev pub Lists : Kernel → (u node : ℕ) → Type 0
Lists k u node = lists_request k (request_under k.queues u) node

request_stable : (k : Kernel) (o : Option (QueuedRequest Purpose)) (node : ℕ) → Stable (lists_request k o node)
request_stable k None node s = s (λ none. none)
request_stable k (Some r) node s =
    (same_truth _ _ (λ no. s (λ p. no p.0)), body_stable (body_of k r.kept) node (λ no. s (λ p. no p.1)))

lists_on : (k l : Kernel) (u node : ℕ) → Lists k u node
    → ((r : QueuedRequest Purpose) → request_under k.queues u ≡ Some r → is_unread r.mark ≡ false → StillThere k l u r) → Lists l u node
lists_on k l u node lists still = by (request_under k.queues u) refl lists
  where
    by : (o : Option (QueuedRequest Purpose)) → request_under k.queues u ≡ o → lists_request k o node → Lists l u node
    by None under lists = absurd lists
    by (Some r) under (read, lists) =
        let x = still r under read in
        subst (λ (o : Option (QueuedRequest Purpose)). lists_request l o node) (sym x.under) (
          x.read,
          subst (λ (b : Option RequestBody). lists_body b node) (sym (ap (body_of l) x.same_kept ∙ x.asks)) lists,
        )

staying : {X Y : Type 0} (u v : ℕ) → (u ≡ v → ⊥) → X ⊎ ((u ≡ v) × Y) → X
staying u v apart (inl x) = x
staying u v apart (inr (same, y)) = absurd (apart same)

another : (u : ℕ) → u ≡ u + 1 → ⊥
another u same = omega (arith, same)

-- The node that it lists is known.
pub lists_known : (k : Kernel) → Knowing k → (u node : ℕ) → Lists k u node → IsKnown k.nodes node
lists_known k w u node lists = by (request_under k.queues u) refl lists
  where
    of : (r : QueuedRequest Purpose) → request_under k.queues u ≡ Some r → (o : Option RequestBody) → body_of k r.kept ≡ o
        → lists_body o node → IsKnown k.nodes node
    of r under None is lists = absurd lists
    of r under (Some body) is lists = lists_names (IsKnown k.nodes) body node lists (purpose_known k w r.kept
        (All-found (λ (e : ℕ × QueuedRequest Purpose). ReleaseKnown k.nodes e.1.kept) u k.queues.requests r w.releases.requests under)
        body is)

    by : (o : Option (QueuedRequest Purpose)) → request_under k.queues u ≡ o → lists_request k o node → IsKnown k.nodes node
    by None under lists = absurd lists
    by (Some r) under (read, lists) = of r under (body_of k r.kept) refl lists

-- ---- while the kernel is live

-- A number was passed, and its request waits and lists this node.
abbrev pub Tracks : (u node : ℕ) → Kernel → Type 0
Tracks u node k = is_live k.phase ≡ true → Passed u k.queues × Lists k u node

pub tracks_stable : (u node : ℕ) (k : Kernel) → Stable (Tracks u node k)
tracks_stable u node k s live = (
  passed_stable u k.queues (λ no. s (λ t. no (t live).0)),
  request_stable k (request_under k.queues u) node (λ no. s (λ t. no (t live).1)),
)

module _ (old new : Kernel) (one : OneEach old.queues) (empty : EmptyUnlessLive old) (well : WellNumbered old) (u node : ℕ)
    (tracks : Tracks u node old) where
  pub alone_tracks : (acts : ActsAlone old new) → mounts_alone acts ≡ 0 → Tracks u node new
  alone_tracks acts none live = by_live old (λ alive.
      let was = tracks alive in
      let moves = alone_moves (u + 1) old new acts none live one (well alive) in (
        alone_keeps (Passed u) (passed_stable u) (moves_passed u) old new acts none (λ l. (tracks l).0) live,
        lists_on old new u node was.1
            (λ r under read. staying u (u + 1) (another u) (moves.still u r was.0.read under read)),
      )) (λ dead. absurd (true≢false (sym live ∙ alone_dead old new acts none dead)))

  pub taken_tracks : (bytes : List ℕ) (result : WriteResult) → IsReplyTaken old bytes result new → (u ≡ head_unique bytes → ⊥)
      → Tracks u node new
  taken_tracks bytes result taken apart live = by_live old (λ alive.
      let was = tracks alive in (
        taken_keeps (Passed u) (passed_stable u) (moves_passed u) old bytes result new taken empty (λ l. (tracks l).0) live,
        holds_as_taken old bytes result new taken (Lists new u node) (request_stable new (request_under new.queues u) node)
            (goes alive),
      )) (λ dead. absurd (true≢false (sym live ∙ taken_dead old bytes result new taken empty dead)))
    where
      goes : is_live old.phase ≡ true → TakenAs old bytes result new → Lists new u node
      goes alive (refused_whole refused no_entry same) =
          subst (λ (k : Kernel). Lists k u node) (sym same) (tracks alive).1
      goes alive (is_read o wire awaits means same) =
          let was = tracks alive in
          let moves = moved old bytes result new taken live one (well alive) o wire same in
          lists_on old new u node was.1
          (λ r under read. staying u (head_unique bytes) apart (moves.still u r was.0.read under read))

module _ (k : Kernel) (pick : Pick) (well : WellNumbered k) where
  pub picked_tracks : (u node : ℕ) → Tracks u node k → Tracks u node (record k { queues = after_pick k.queues pick })
  picked_tracks u node tracks live =
      let was = tracks live in
      let moves = picked_moves (u + 1) k pick (well live) in (
        picked_passed u k.queues pick was.0,
        lists_on k (record k { queues = after_pick k.queues pick }) u node was.1
            (λ r under read. staying u (u + 1) (another u) (moves.still u r was.0.read under read)),
      )

-- ---- a request that is read

module _ (k : Kernel) (one : OneEach k.queues) where
  -- It waits then, and was not read before.
  pub record PicksList (pick : Pick) (r : Request) (node : ℕ) : Type 0 where
    pub passed : Passed r.unique (after_pick k.queues pick)
    pub lists : Lists (record k { queues = after_pick k.queues pick }) r.unique node
    pub unread : (other : ℕ) → Lists k r.unique other → ⊥

  pub picked_lists : (pick : Pick) (r : Request) → IsPicked k pick r → (node : ℕ) → lists_body (Some r.body) node → PicksList pick r node
  picked_lists Interrupt r is node lists =
      absurd (subst (λ (q : Request). lists_body (Some q.body) node) is.is lists)
  picked_lists (Forgets count) r is node lists =
      absurd (none is.forgets (subst (λ (q : Request). lists_body (Some q.body) node) is.is lists))
    where
      none : (fs : List Forget) → lists_body (Some (forget_body fs)) node → ⊥
      none [] lists = lists
      none (f ∷ []) lists = lists
      none (f ∷ g ∷ fs) lists = lists
  picked_lists (Pending place) r is node lists = by (slice_get (pending k.queues) place) refl is.pending
    where
      number : Option (ℕ × Purpose) → ℕ
      number None = 0
      number (Some x) = x.0

      purpose : Option (ℕ × Purpose) → Purpose
      purpose None = is.purpose
      purpose (Some x) = x.1

      of : (e : Entry) → slice_get (pending k.queues) place ≡ Some e → e.0 ≡ r.unique → e.1.kept ≡ is.purpose → (new : Kernel)
          → new.vfs.calls ≡ k.vfs.calls → (m : Mark) → is_unread m ≡ false → new.queues.requests ≡ set_mark e.0 k.queues.requests m
          → Lists new r.unique node
      of e at unique kept new calls m read requests =
          let there = found_pending k.queues.requests place e (once_each k.queues one e.0) at in
          let under : request_under new.queues r.unique ≡ Some (record { mark = m; kept = e.1.kept }) =
          ap (request_under new.queues) (sym unique) ∙ ap (lookup (nat_eq e.0)) requests
          ∙ lookup_marked e.0 m e.1 k.queues.requests there in
          let body : body_of new e.1.kept ≡ Some r.body = asks_same k new e.1.kept calls ∙ ap (body_of k) kept ∙ is.body in
          subst (λ (o : Option (QueuedRequest Purpose)). lists_request new o node) (sym under)
          (read, subst (λ (b : Option RequestBody). lists_body b node) (sym body) lists)

      read_as : (e : Entry) → (m : Mark) → is_unread m ≡ true
          → ((new : Kernel) → new.vfs.calls ≡ k.vfs.calls → (m : Mark) → is_unread m ≡ false
          → new.queues.requests ≡ set_mark e.0 k.queues.requests m → Lists new r.unique node)
          → Lists (record k { queues = after_reading k.queues e.0 m }) r.unique node
      read_as e mark.Unread unread only = only (record k { queues = after_reading k.queues e.0 mark.Unread }) refl mark.Read refl refl
      read_as e mark.Flagged unread only =
          only (record k { queues = after_reading k.queues e.0 mark.Flagged }) refl mark.Interrupted refl refl
      read_as e mark.Read unread only = absurd (false≢true unread)
      read_as e mark.Interrupted unread only = absurd (false≢true unread)

      by : (o : Option Entry) → slice_get (pending k.queues) place ≡ o
          → option_map {U = ℕ × Purpose} (λ (e : Entry). (e.0, e.1.kept)) o ≡ Some (r.unique, is.purpose)
          → PicksList (Pending place) r node
      by None at found = absurd (cc found)
      by (Some e) at found =
          let unique : e.0 ≡ r.unique = ap number found in
          let kept : e.1.kept ≡ is.purpose = ap purpose found in
          let there = found_pending k.queues.requests place e (once_each k.queues one e.0) at in
          let under : request_under k.queues r.unique ≡ Some e.1 = ap (request_under k.queues) (sym unique) ∙ there in
          let unread = (each_at (λ x. Unit {0}) (λ x. is_unread x.1.mark) k.queues.requests place e (each_unit k.queues.requests) at).0 in
          let same : after_pick k.queues (Pending place) ≡ after_reading k.queues e.0 e.1.mark =
          ap (λ (o : Option Entry). option_map_or (λ (x : Entry). after_reading k.queues x.0 x.1.mark) o k.queues) at in
          let below : r.unique < k.queues.next = low e.0 e.1 there (nat_lt e.0 k.queues.next) refl unique in
          record {
            passed = subst (Passed r.unique) (sym same) (subst (λ (n : ℕ). Passed n (after_reading k.queues e.0 e.1.mark)) unique
                (reading_passes k.queues e.0 e.1.mark (omega (arith, below, unique)) (once_each k.queues one e.0) unread));
            lists = subst (λ (q : QueueState Purpose). Lists (record k { queues = q }) r.unique node) (sym same)
                (read_as e e.1.mark unread (of e at unique kept));
            unread = λ other was. true≢false (sym unread
                ∙ (subst (λ (o : Option (QueuedRequest Purpose)). lists_request k o other) under was).0);
          }
        where
          low : (u : ℕ) (x : QueuedRequest Purpose) → request_under k.queues u ≡ Some x → (b : Bool) → nat_lt u k.queues.next ≡ b
              → u ≡ r.unique → r.unique < k.queues.next
          low u x there true is same = let less : u < k.queues.next = grind (arith, nat_tests, is) in omega (arith, less, same)
          low u x there false is same =
              let few : key_count u k.queues.requests ≤ 0 =
              subst (λ (b : Bool). key_count u k.queues.requests ≤ cond b 1 0) is (one u) in
              absurd (cc (there, lookup-no_key u k.queues.requests (omega (arith, few))))

          each_unit : (es : List Entry) → Each (λ x. Unit {0}) es
          each_unit [] = tt
          each_unit (x ∷ es) = (tt, each_unit es)
