-- What a request under a number asks of open files, as long as it awaits a reply.
use Rattle.std.proofs.Common.{◌≡◌, ◌⊎◌, inl, inr, ℕ, ◌<◌, true, false, true≢false, List, Option, Some, None, refl, ap, sym, subst, ◌∙◌}
use Rattle.fuse_device.specs.Transfers.{Transfer}
use Rattle.fuse_spec.specs.declared.Purpose.{Purpose}
use Rattle.fuse_spec.specs.declared.QueuedRequest.{QueuedRequest}
use Rattle.fuse_spec.specs.declared.WriteResult.{WriteResult}
use Rattle.fuse_spec.specs.Files.Operations.{opening}
use Rattle.fuse_spec.specs.Kernel.Kernel.{Kernel, body_of, is_live}
use Rattle.fuse_spec.specs.Kernel.Messages.{RequestBody, asks}
use Rattle.fuse_spec.specs.Kernel.Queues.{is_unread, request_under}
use Rattle.fuse_spec.specs.Server.Server.{nodes_of_body}
use Rattle.fuse_theorem.proofs.Requests.AskKept.{StillThere}
use Rattle.fk_kernel.specs.AwaitedReplies.{head_unique}
use Rattle.fk_kernel.specs.Picks.{after_pick}
use Rattle.fk_kernel.specs.declared.read.Pick.{Pick}
use Rattle.fk_drive.specs.Driving.{Driven, DriveStep, alone, answers, reads, writes}
use Rattle.fk_drive.specs.KernelSteps.{ActsAlone, IsReplyTaken}
use Rattle.fk_drive_theorem.specs.TakenOnce.{mounts_alone, mounts_at}
use Rattle.fk_drive_theorem.proofs.OneEach.{OneEach}
use Rattle.fk_drive_theorem.proofs.Stable.{Stable, same_list, same_number}
use Rattle.fk_drive_theorem.proofs.Taken.{TakenAs, holds_as_taken, is_read, refused_whole}
use Rattle.fk_drive_theorem.proofs.WrittenCounted.{EmptyUnlessLive}
use Rattle.driven_sessions.proofs.Asking.{read_under}
use Rattle.driven_sessions.proofs.InitNumbers.{picked_passed}
use Rattle.driven_sessions.proofs.KnownNodes.{same_opened}
use Rattle.driven_sessions.proofs.Numbers.{Each, IsRead, Passed, moves_passed, passed_stable}
use Rattle.driven_sessions.proofs.Replying.{Moves, WellNumbered, alone_moves, by_live, moved, picked_moves}
use Rattle.driven_sessions.proofs.Steps.{alone_dead, alone_keeps, taken_dead, taken_keeps}
use Rattle.driven_sessions.proofs.Files.KernelFiles.{used_by}

-- the node that a request opens, or 0
abbrev pub node_opened_by : RequestBody → ℕ
node_opened_by (asks (opening node)) = node
node_opened_by body = 0

-- Two requests name the same nodes, open one node, and read or write one file, or neither does.
pub record AskAlike (a b : RequestBody) : Type 0 where
  pub nodes : nodes_of_body a ≡ nodes_of_body b
  pub node : node_opened_by a ≡ node_opened_by b
  pub files : used_by a ≡ used_by b

-- What was read under the number, and awaits a reply, asks of open files what this body asks.
abbrev pub AsksAlike : RequestBody → ℕ → Kernel → Type 0
AsksAlike body u k = (r : QueuedRequest Purpose) → request_under k.queues u ≡ Some r → is_unread r.mark ≡ false
    → (b : RequestBody) → body_of k r.kept ≡ Some b → AskAlike b body

alike_stable : (a b : RequestBody) → Stable (AskAlike a b)
alike_stable a b s = record {
  nodes = same_list same_number _ _ (λ no. s (λ e. no e.nodes));
  node = same_number _ _ (λ no. s (λ e. no e.node));
  files = same_list same_opened _ _ (λ no. s (λ e. no e.files));
}

asks_stable : (body : RequestBody) (u : ℕ) (k : Kernel) → Stable (AsksAlike body u k)
asks_stable body u k s r under read b is = alike_stable b body (λ no. s (λ all. no (all r under read b is)))

moves_alike : (body : RequestBody) (u v : ℕ) (k l : Kernel) → u < k.queues.next → Each (IsRead u) k.queues.requests → Moves v k l
    → AsksAlike body u k → AsksAlike body u l
moves_alike body u v k l low read moves all r under was b is = by (request_under k.queues u) refl
  where
    by : (x : Option (QueuedRequest Purpose)) → request_under k.queues u ≡ x → AskAlike b body
    by None none = absurd (cc (under, moves.gone u low none))
    by (Some x) there = one (moves.still u x read there here)
      where
        here : is_unread x.mark ≡ false
        here = read_under u k.queues.requests x read there

        one : StillThere k l u x ⊎ ((u ≡ v) × (request_under l.queues u ≡ None)) → AskAlike b body
        one (inl still) =
            let same : still.now ≡ r = cc (still.under, under) in
            all x there here b (sym still.asks ∙ ap (body_of l) (sym still.same_kept)
            ∙ ap (λ (q : QueuedRequest Purpose). body_of l q.kept) same ∙ is)
        one (inr gone) = absurd (cc (under, gone.1))

-- The number was passed, and what awaits a reply under it asks so.
abbrev pub KnowsFiles : RequestBody → ℕ → Kernel → Type 0
KnowsFiles body u k = is_live k.phase ≡ true → Passed u k.queues × AsksAlike body u k

-- ---- a step

module _ (old new : Kernel) (one : OneEach old.queues) (empty : EmptyUnlessLive old) (well : WellNumbered old) (body : RequestBody)
    (u : ℕ) (knows : KnowsFiles body u old) where
  alone_files : (acts : ActsAlone old new) → mounts_alone acts ≡ 0 → KnowsFiles body u new
  alone_files acts none live = by_live old (λ alive.
      let was = knows alive in
      let low = was.0 in (
        alone_keeps (Passed u) (passed_stable u) (moves_passed u) old new acts none (λ l. (knows l).0) live,
        moves_alike body u 0 old new low.low low.read (alone_moves 0 old new acts none live one (well alive)) was.1,
      )) (λ dead. absurd (true≢false (sym live ∙ alone_dead old new acts none dead)))

  taken_files : (bytes : List ℕ) (result : WriteResult) → IsReplyTaken old bytes result new → KnowsFiles body u new
  taken_files bytes result taken live = by_live old (λ alive.
      let was = knows alive in (
        taken_keeps (Passed u) (passed_stable u) (moves_passed u) old bytes result new taken empty (λ l. (knows l).0) live,
        holds_as_taken old bytes result new taken (AsksAlike body u new) (asks_stable body u new) (by alive),
      )) (λ dead. absurd (true≢false (sym live ∙ taken_dead old bytes result new taken empty dead)))
    where
      by : is_live old.phase ≡ true → TakenAs old bytes result new → AsksAlike body u new
      by alive (refused_whole refused no_entry same) = subst (AsksAlike body u) (sym same) (knows alive).1
      by alive (is_read p wire awaits means same) =
          let was = knows alive in
          let low = was.0 in
          moves_alike body u (head_unique bytes) old new low.low low.read
          (moved old bytes result new taken live one (well alive) p wire same) was.1

picked_files : (k : Kernel) (pick : Pick) → WellNumbered k → (body : RequestBody) (u : ℕ) → KnowsFiles body u k
    → KnowsFiles body u (record k { queues = after_pick k.queues pick })
picked_files k pick well body u knows live =
    let was = knows live in
    let low = was.0 in (
      picked_passed u k.queues pick low,
      moves_alike body u 0 k (record k { queues = after_pick k.queues pick }) low.low low.read (picked_moves 0 k pick (well live)) was.1,
    )

pub step_files : (old : Driven) → OneEach old.kernel.queues → EmptyUnlessLive old.kernel → WellNumbered old.kernel
    → (log : List Transfer) (new : Driven) (step : DriveStep old log new) → mounts_at step ≡ 0 → (body : RequestBody) (u : ℕ)
    → KnowsFiles body u old.kernel → KnowsFiles body u new.kernel
step_files old one empty well log new (alone k acts) none body u knows =
    alone_files old.kernel k one empty well body u knows acts none
step_files old one empty well log new (reads idles pick may request is) none body u knows =
    picked_files old.kernel pick well body u knows
step_files old one empty well log new (answers request error turn bytes written result k taken) none body u knows =
    taken_files old.kernel k one empty well body u knows bytes result taken
step_files old one empty well log new (writes idles frame rest there handed on result k taken log' coming left turn release) none
    body u knows = taken_files old.kernel k one empty well body u knows handed result taken
step_files old one empty well log new step none body u knows = knows
