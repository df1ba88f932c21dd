-- The handle of each open file stays one of its node's file as the server's tables change.
use Rattle.std.proofs.Common.{◌≡◌, ◌≢◌, ℕ, ◌≤◌, Bool, true, true≢false, cond, List, [], ◌∷◌, ◌++◌, Option, Some, None, is_some, get_or, refl, ap, sym, subst, ◌∙◌, arith, All}
use Rattle.std.specs.Prelude.{sum_by}
use Rattle.std.proofs.lemmas.List.Elements.{All-nil, All-cons, All-head, All-tail, All-append}
use Rattle.std.proofs.lemmas.List.Sums.{get_or-le-sum_by}
use Rattle.fuse_spec.specs.declared.Counted.{Counted}
use Rattle.fuse_spec.specs.declared.Opened.{Opened}
use Rattle.fuse_spec.specs.declared.Purpose.{Purpose}
use Rattle.fuse_spec.specs.declared.Purpose.TheVariants as purpose
use Rattle.fuse_spec.specs.declared.QueuedRequest.{QueuedRequest}
use Rattle.fuse_spec.specs.Values.Maps.{Map, get, values}
use Rattle.fuse_spec.specs.Kernel.Queues.{is_unread, pending}
use Rattle.fuse_spec.specs.Kernel.Messages.{Request, RequestBody, init, asks, release, forget, batch_forget, interrupt}
use Rattle.fuse_spec.specs.Server.Nodes.{file_of, is_open}
use Rattle.fuse_spec.specs.Server.Server.{HeldRequest}
use Rattle.fuse_spec.specs.Claim.Counts.{handle_count}
use Rattle.fuse_spec.specs.Claim.Denotes.{Denotes, generation_known}
use Rattle.fuse_spec.specs.World.Worlds.{World}
use Rattle.fuse_theorem.specs.AskedRequests.{IsAsked, SentAsked, RequestsAsked}
use Rattle.fuse_theorem.specs.Conditions.{KnownAreHeld, IsFileHandle}
use Rattle.fuse_theorem.specs.KnownNodes.{IsKnown, NodesKnown}
use Rattle.fuse_theorem.specs.OpenNumbers.{released_for, released_by, all_released, released_pending, released_sent, released_held, open_files, IsOfItsNode, OpensBalanced}
use Rattle.fuse_theorem.specs.ReleasesKnown.{ReleaseKnown, ReleasesKnown}
use Rattle.fuse_theorem.proofs.Calls.Finding.{same_is, All-filter}
use Rattle.fuse_theorem.proofs.Trees.HeldOperations.{denoted}
use Rattle.fuse_theorem.proofs.Lists.MapSums.{Rises}
use Rattle.fuse_theorem.proofs.Nodes.NodesKnown.{All-more}
use Rattle.fuse_theorem.proofs.OpenFiles.NumberCounts.{SameFiles}
use Rattle.fuse_theorem.proofs.OpenFiles.ReleasesStay.{release_known}
use Rattle.fuse_theorem.proofs.Lists.Values.{All-found_values}
use Rattle.fuse_theorem.proofs.Lists.OpenSums.{has_handle, CountsOpens, opens_counted, fewer_pass}

-- ---- what holds of each open file

pub All-released : {X : Type 0} (P : Opened → Type 0) (released : X → List Opened) (xs : List X)
    → All (λ x. All P (released x)) xs → All P (all_released released xs)
All-released P released [] h = All-nil P
All-released P released (x ∷ xs) h = All-append P (released x) (all_released released xs)
    (All-head (λ y. All P (released y)) x xs h) (All-released P released xs (All-tail (λ y. All P (released y)) x xs h))

-- Each open file's node is known.
module _ (w : World) (nodes : NodesKnown w.kernel) (releases : ReleasesKnown w) (asked : RequestsAsked w)
    (rises : Rises w.server.held) where
  abbrev Known : Opened → Type 0
  Known o = IsKnown w.kernel.nodes o.nodeid

  kept_known : (kept : Purpose) → ReleaseKnown w.kernel.nodes kept → All Known (released_for kept)
  kept_known purpose.Init h = All-nil Known
  kept_known (purpose.Release o) h = All-cons Known o [] h (All-nil Known)
  kept_known (purpose.Call call) h = All-nil Known

  sent_known : (unique : ℕ) (body : RequestBody) → SentAsked w.kernel unique body → All Known (released_by body)
  sent_known unique (init flags) h = All-nil Known
  sent_known unique (asks operation) h = All-nil Known
  sent_known unique (release o) h = All-cons Known o [] (release_known w releases unique o h) (All-nil Known)
  sent_known unique (forget f) h = All-nil Known
  sent_known unique (batch_forget fs) h = All-nil Known
  sent_known unique (interrupt original) h = All-nil Known

  held_known : (unique : ℕ) (body : RequestBody) → IsAsked w.kernel unique body → All Known (released_by body)
  held_known unique (init flags) h = All-nil Known
  held_known unique (asks operation) h = All-nil Known
  held_known unique (release o) h = All-cons Known o [] (release_known w releases unique o h) (All-nil Known)
  held_known unique (forget f) h = All-nil Known
  held_known unique (batch_forget fs) h = All-nil Known
  held_known unique (interrupt original) h = All-nil Known

  pub open_known : All Known (open_files w)
  open_known =
      let opens = values w.kernel.vfs.opens in
      let closing = values w.kernel.closing in
      let waits = released_pending w.kernel.queues in
      let sent = released_sent w.requests in
      let held = released_held w.server.held in
      All-append Known (opens ++ closing ++ waits ++ sent) held
      (All-append Known (opens ++ closing ++ waits) sent
      (All-append Known (opens ++ closing) waits
      (All-append Known opens closing nodes.opens releases.closing) of_pending) of_sent)
      of_held
    where
      of_pending : All Known (released_pending w.kernel.queues)
      of_pending =
          All-released Known (λ (e : ℕ × QueuedRequest Purpose). released_for e.1.kept) (pending w.kernel.queues)
          (All-more (pending w.kernel.queues) (λ e h. kept_known e.1.kept h)
          (All-filter (λ (e : ℕ × QueuedRequest Purpose). is_unread e.1.mark)
          (λ (e : ℕ × QueuedRequest Purpose). ReleaseKnown w.kernel.nodes e.1.kept) w.kernel.queues.requests releases.requests))

      of_sent : All Known (released_sent w.requests)
      of_sent = All-released Known (λ (r : Request). released_by r.body) w.requests
          (λ i r lt. let x = get_or w.requests i r in sent_known x.unique x.body (asked.sent i r lt))

      of_held : All Known (released_held w.server.held)
      of_held =
          All-released Known (λ (t : HeldRequest). released_by t.body) (values w.server.held)
          (All-found_values (λ (t : HeldRequest). All Known (released_by t.body)) w.server.held rises
          (λ unique t at. let is = asked.held unique t at in held_known unique t.body is.is_asked))

-- ---- what is counted is there

-- Each open file's handle is one of the server's.
pub handles_there : (w : World) → CountsOpens w → All (λ (o : Opened). IsFileHandle w.server.handles o.fh) (open_files w)
handles_there w counts i d lt none =
    let o = get_or (open_files w) i d in
    let sum : has_handle o.fh o ≤ sum_by (has_handle o.fh) (open_files w) =
    get_or-le-sum_by (has_handle o.fh) (open_files w) i d lt in
    let here : has_handle o.fh o ≡ 1 = ap {B = ℕ} (λ (b : Bool). cond b 1 0) (same_is o.fh) in
    let whole = counts o.fh in
    let zero_here : handle_count (get w.server.handles.handles o.fh) ≡ 0 = ap handle_count none in
    absurd (omega (arith, sum, here, whole, zero_here))

-- ---- the tables change

-- No more files are open than were, and those that are known are held as before: each handle that is there still is one
-- of its node's file.
pub files_still : (w v : World) → All (λ (o : Opened). IsKnown w.kernel.nodes o.nodeid) (open_files w)
    → v.kernel.nodes ≡ w.kernel.nodes → KnownAreHeld w → KnownAreHeld v
    → ((i generation a b : ℕ) → Denotes w.server.nodes i generation a → Denotes v.server.nodes i generation b → a ≡ b)
    → SameFiles w.server.handles v.server.handles
    → ((f : Opened → ℕ) → sum_by f (open_files v) ≤ sum_by f (open_files w))
    → All (IsOfItsNode w.server) (open_files w) → CountsOpens v → OpensBalanced v
files_still w v known same_nodes held held_after denotes same_files fewer old counts = record {
  balance = opens_counted v counts;
  files = λ i d lt. let o = get_or (open_files v) i d in
      still o (known_left i d lt) (were i d lt) (handles_there v counts i d lt);
}
  where
    is_known : Opened → Bool
    is_known o = is_some (generation_known w.kernel.nodes o.nodeid)

    was_open : Opened → Bool
    was_open o = is_open w.server.handles o.fh (file_of w.server.nodes o.nodeid)

    some_is : (o : Option ℕ) → o ≢ None → is_some o ≡ true
    some_is None h = absurd (h refl)
    some_is (Some n) h = refl

    left : (test : Opened → Bool) → All (λ (o : Opened). test o ≡ true) (open_files w)
        → All (λ (o : Opened). test o ≡ true) (open_files v)
    left test h = fewer_pass test (open_files w) (open_files v) fewer h

    known_left : All (λ (o : Opened). is_known o ≡ true) (open_files v)
    known_left = left is_known (λ i d lt. some_is (generation_known w.kernel.nodes (get_or (open_files w) i d).nodeid)
        (known i d lt))

    were : All (λ (o : Opened). was_open o ≡ true) (open_files v)
    were = left was_open old

    still : (o : Opened) → is_known o ≡ true → was_open o ≡ true → IsFileHandle v.server.handles o.fh
        → IsOfItsNode v.server o
    still o some was there = by (generation_known w.kernel.nodes o.nodeid) refl some
      where
        by : (g : Option ℕ) → generation_known w.kernel.nodes o.nodeid ≡ g → is_some g ≡ true → IsOfItsNode v.server o
        by None at e = absurd (true≢false (sym e))
        by (Some g) at e =
            let before = held o.nodeid g at in
            let after = held_after o.nodeid g (ap (λ (m : Map Counted). generation_known m o.nodeid) same_nodes ∙ at) in
            let same = denotes o.nodeid g before.0 after.0 before.1 after.1 in
            let file_before : file_of w.server.nodes o.nodeid ≡ before.0 =
            denoted w.server.nodes o.nodeid g before.0 before.1 in
            let file_after : file_of v.server.nodes o.nodeid ≡ after.0 =
            denoted v.server.nodes o.nodeid g after.0 after.1 in
            same_files o.fh (file_of v.server.nodes o.nodeid) there
            (subst (λ (n : ℕ). is_open w.server.handles o.fh n ≡ true) (file_before ∙ same ∙ sym file_after) was)
