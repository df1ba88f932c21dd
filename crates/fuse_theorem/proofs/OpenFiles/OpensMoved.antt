-- File handles stay balanced as the kernel goes on and takes replies.
use Rattle.std.proofs.Common.{◌≡◌, ℕ, ◌+◌, Bool, true, false, cond, List, [], ◌∷◌, ◌++◌, drop, take, Option, Some, None, slice_get, refl, ap, ◌∙◌, arith}
use Rattle.std.specs.Prelude.{sum_by}
use Rattle.std.specs.List.{remove as without_at}
use Rattle.std.proofs.lemmas.List.Sums.{sum_by_push}
use Rattle.fuse_spec.specs.declared.Opened.{Opened}
use Rattle.fuse_spec.specs.declared.WriteResult.{WriteResult}
use Rattle.fuse_spec.specs.Claim.Counts.{opens_in, refused, carried, result_carries}
use Rattle.fuse_spec.specs.Values.Maps.{get}
use Rattle.fuse_spec.specs.Kernel.Messages.{Forget, Request, RequestBody, interrupt, WireReply}
use Rattle.fuse_spec.specs.Kernel.Uniques.{interrupt_number}
use Rattle.fuse_spec.specs.Kernel.QueueCalls as queues
use Rattle.fuse_spec.specs.Kernel.Kernel.{Kernel}
use Rattle.fuse_spec.specs.Server.Nodes.{file_of, is_open}
use Rattle.fuse_spec.specs.Server.Server.{Copy}
use Rattle.fuse_spec.specs.World.Worlds.{World, Sent, forget_body, world_after_read_interrupt, world_after_read_forgets, world_after_read_pending, after_write}
use Rattle.fuse_theorem.specs.Copies.{IsKnownCopy, CopiesSound}
use Rattle.fuse_theorem.specs.OpenNumbers.{released_by, open_files, IsOfItsNode, OpensBalanced}
use Rattle.fuse_theorem.proofs.Lists.MapSums.{worth}
use Rattle.fuse_theorem.proofs.Lists.OpenSums.{kernel_sum, sent_sum, open_sum, has_handle, CountsOpens, counts_opens, opens_counted, none_failing, all_pass, failing, fewer_pass}
use Rattle.fuse_theorem.proofs.OpenFiles.OpensKept.{KeepsOpen}
use Rattle.fuse_theorem.proofs.OpenFiles.OpensAfterReply.{ReceivesOpens}
use Rattle.fuse_theorem.proofs.Lists.LinkSums.{sum_removed}
use Rattle.fuse_theorem.proofs.OpenFiles.OpensServed.{replies_carry, results_carry}
use Rattle.fuse_theorem.proofs.Refining.Queuing.{All-at}

-- ---- the kernel moves

-- The kernel has the files that it had, those of the requests that went out among them.
abbrev pub SameOpen : World → Kernel → List Request → Type 0
SameOpen w k requests = (f : Opened → ℕ) → kernel_sum f k + sent_sum f requests
    ≡ kernel_sum f w.kernel + sent_sum f w.requests

-- The kernel moves, and requests go out: the same files are open.
pub open_same : (w : World) (k : Kernel) (requests : List Request) → SameOpen w k requests → (f : Opened → ℕ)
    → sum_by f (open_files (record w { kernel = k; requests = requests })) ≡ sum_by f (open_files w)
open_same w k requests same f = let before = open_sum f w in let after =
    open_sum f (record w { kernel = k; requests = requests }) in let kept = same f in omega (arith, before, after, kept)

pub kernel_moves : (w : World) → OpensBalanced w → (k : Kernel) (requests : List Request) → SameOpen w k requests
    → OpensBalanced (record w { kernel = k; requests = requests })
kernel_moves w old k requests same = record {
  balance = opens_counted v (λ fh. let was = counts_opens w old.balance fh in
      let sum = open_same w k requests same (has_handle fh) in omega (arith, was, sum));
  files = fewer_pass was_open (open_files w) (open_files v)
      (λ f. let sum = open_same w k requests same f in omega (arith, sum)) old.files;
}
  where
    v : World
    v = record w { kernel = k; requests = requests }

    was_open : Opened → Bool
    was_open o = is_open w.server.handles o.fh (file_of w.server.nodes o.nodeid)

pub keeps_same : (w : World) (k : Kernel) → KeepsOpen w.kernel k None → SameOpen w k w.requests
keeps_same w k kept f = let same = kept.sums f in omega (arith, same)

pub interrupt_same : (w : World) (original : ℕ) → SameOpen w (world_after_read_interrupt w original).kernel
    (world_after_read_interrupt w original).requests
interrupt_same w original f = let pushed = sum_by_push (λ (r : Request). sum_by f (released_by r.body)) w.requests
    (record { unique = interrupt_number original; body = interrupt original }) in omega (arith, pushed)

-- A pending request is read, and releases on the link what it released before.
pub pending_same : (w : World) (k unique : ℕ) (body : RequestBody)
    → ((f : Opened → ℕ) → kernel_sum f (record w.kernel {
      queues =
          queues.after_read_pending w.kernel.queues k;
    }) + sum_by f (released_by body) ≡ kernel_sum f w.kernel)
    → SameOpen w (world_after_read_pending w k unique body).kernel (world_after_read_pending w k unique body).requests
pending_same w k unique body moved f =
    let pushed = sum_by_push (λ (r : Request). sum_by f (released_by r.body)) w.requests
    (record { unique = unique; body = body }) in
    let same = moved f in
    omega (arith, pushed, same)

-- forgets release nothing
forgets_release : (f : Opened → ℕ) (fs : List Forget) → ◌≡◌ {A = ℕ} (sum_by f (released_by (forget_body fs))) 0
forgets_release f [] = refl
forgets_release f (x ∷ []) = refl
forgets_release f (x ∷ y ∷ fs) = refl

pub forgets_same : (w : World) (n : ℕ) → SameOpen w (world_after_read_forgets w n (take n w.kernel.queues.forgets)).kernel
    (world_after_read_forgets w n (take n w.kernel.queues.forgets)).requests
forgets_same w n f = by (queues.can_read_forgets w.kernel.queues n)
  where
    pushed : sent_sum f (w.requests ++ record {
      unique = w.kernel.queues.next;
      body = forget_body (take n w.kernel.queues.forgets);
    } ∷ []) ≡ sent_sum f w.requests
    pushed =
        let more = sum_by_push (λ (r : Request). sum_by f (released_by r.body)) w.requests
        (record { unique = w.kernel.queues.next; body = forget_body (take n w.kernel.queues.forgets) }) in
        let nothing = forgets_release f (take n w.kernel.queues.forgets) in
        omega (arith, more, nothing)

    by : (b : Bool) → kernel_sum f (record w.kernel {
      queues =
          cond b (record w.kernel.queues {
            forgets = drop n w.kernel.queues.forgets;
            next = w.kernel.queues.next + 2;
          }) w.kernel.queues;
    })
        + sent_sum f (w.requests ++ record {
          unique = w.kernel.queues.next;
          body = forget_body (take n w.kernel.queues.forgets);
        } ∷ []) ≡ kernel_sum f w.kernel + sent_sum f w.requests
    by true = omega (arith, pushed)
    by false = omega (arith, pushed)

-- ---- a reply is written

module _ (w : World) (old : OpensBalanced w) (copies : CopiesSound w) (k : ℕ) (sent : Sent)
    (there : slice_get w.replies k ≡ Some sent) (taken : WriteResult × Kernel)
    (reply_received : ReceivesOpens (IsOfItsNode w.server) w.kernel sent.wire taken) where
  abbrev written : World
  written = after_write w k sent taken

  copy : IsKnownCopy w.server.copies sent
  copy = All-at (IsKnownCopy w.server.copies) w.replies k sent copies.sent there

  opens : Option Opened
  opens = reply_received.opens

  -- What is opened is open beside the files that were.
  pub moved : (f : Opened → ℕ) → sum_by f (open_files written) ≡ sum_by f (open_files w) + worth f reply_received.opens
  moved f =
      let before = open_sum f w in
      let after = open_sum f written in
      let kept = reply_received.keeps.sums f in
      omega (arith, before, after, kept)

  counted : CountsOpens written
  counted fh =
      let whole = counts_opens w old.balance fh in
      let sum = moved (has_handle fh) in
      let gone : replies_carry fh (without_at w.replies k) + opens_in fh sent.wire ≡ replies_carry fh w.replies =
      sum_removed (λ (s : Sent). opens_in fh s.wire) w.replies k sent there in
      let pushed : results_carry fh w.server (w.results
      ++ record { number = sent.number; unique = sent.unique; result = taken.0 } ∷ [])
      ≡ results_carry fh w.server w.results + refused taken.0
      (carried (opens_in fh) (get w.server.copies sent.number)) =
      sum_by_push (result_carries (opens_in fh) w.server) w.results
      (record { number = sent.number; unique = sent.unique; result = taken.0 }) in
      let carries : refused taken.0 (carried (opens_in fh) (get w.server.copies sent.number))
      ≡ refused taken.0 (opens_in fh sent.wire) =
      ap (λ (o : Option Copy). refused taken.0 (carried (opens_in fh) o)) copy.there ∙ ap
      (λ (x : WireReply). refused taken.0 (opens_in fh x)) copy.same_wire in
      let received_counts = reply_received.counts fh in
      omega (arith, whole, sum, gone, pushed, carries, received_counts)

  abbrev was_open : Opened → Bool
  was_open o = is_open w.server.handles o.fh (file_of w.server.nodes o.nodeid)

  -- the file that is opened has a handle of its node's file
  new_fits : (o : Option Opened) → ((x : Opened) → o ≡ Some x → IsOfItsNode w.server x) → worth (failing was_open) o ≡ 0
  new_fits None each = refl
  new_fits (Some x) each = ap {B = ℕ} (λ (b : Bool). cond b 0 1) (each x refl)

  -- What the copy carried is open now, or refused.
  pub written_balanced : OpensBalanced (after_write w k sent taken)
  written_balanced = record {
    balance = opens_counted written counted;
    files = all_pass was_open (open_files written)
        (let sum = moved (failing was_open) in
        let none = none_failing was_open (open_files w) old.files in
        let new = new_fits reply_received.opens reply_received.fits in
        omega (arith, sum, none, new));
  }
