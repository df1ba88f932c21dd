-- A reply reaches its call in both worlds.
use Rattle.std.proofs.Common.{◌≡◌, ◌≢◌, ℕ, true, not, List, Some, None, nat_eq, remove, filter, refl, sym, subst, ◌∙◌}
use Rattle.fuse_spec.specs.declared.Opened.{Opened}
use Rattle.fuse_spec.specs.declared.Purpose.{Purpose}
use Rattle.fuse_spec.specs.declared.Purpose.TheVariants as purpose
use Rattle.fuse_spec.specs.declared.QueuedRequest.{QueuedRequest}
use Rattle.fuse_spec.specs.declared.ReplyResult.{ReplyResult}
use Rattle.fuse_spec.specs.Values.Maps.{get}
use Rattle.fuse_spec.specs.Files.Operations.{Reply, ReplyAlike}
use Rattle.fuse_spec.specs.Calls.Answers as answer
use Rattle.fuse_spec.specs.Calls.Vfs.{CallState, walking, doing, using, Advance, answered, no_more}
use Rattle.fuse_spec.specs.Calls.CallReplies.{call_replied}
use Rattle.fuse_spec.specs.Kernel.Queues.{request_under, IsSound}
use Rattle.fuse_spec.specs.Kernel.QueueCalls.{without}
use Rattle.fuse_spec.specs.Kernel.Kernel.{Kernel, is_live, advanced, after_use}
use Rattle.fuse_spec.specs.World.Worlds.{World, Sent}
use Rattle.fuse_spec.specs.Reference.Plain.{Plain, Ask, waiting, performed, declined, going_on, ask_delivered, ask_interrupted}
use Rattle.fuse_spec.specs.Claim.Denotes.{NodeDenotesIn, OpenDenotesIn, StateAlike}
use Rattle.fuse_spec.specs.Claim.Alike.{IsStageReplied, Alike}
use Rattle.fuse_spec.proofs.QueueSoundness.{IsSound-without}
use Rattle.fuse_theorem.specs.Numbering.{IsOneToOne, IsNumbered}
use Rattle.fuse_theorem.proofs.Requests.Numbered.{ended_numbered}
use Rattle.fuse_theorem.proofs.Calls.RepliesReceived.{answered_alike}
use Rattle.fuse_theorem.proofs.Calls.RepliesReach.{AdvanceAlike, reply_step_refines}
use Rattle.fuse_theorem.proofs.Calls.Advancing.{StepsAlone, call_replied_alone, answered_alone}
use Rattle.fuse_theorem.proofs.Refining.Asking.{AlikeExceptCall, next_request_refines}
use Rattle.fuse_theorem.proofs.Refining.Releasing.{next_unasked, released_alike}
use Rattle.fuse_theorem.proofs.Refining.Queuing.{All-without}
use Rattle.fuse_theorem.proofs.Refining.Ending.{without_ask, paused_ended, none_sent, none_held}

-- A copy leaves the reply link, and results come onto theirs.
pub unsent_alike : (w : World) (p : Plain) → Alike w p → (k : ℕ) (results : List ReplyResult)
    → Alike (record w { replies = remove w.replies k; results = results }) p
unsent_alike w p same k results = record {
  tree = same.tree;
  vfs = same.vfs;
  requests = record { pending = same.requests.pending; sent = same.requests.sent; held = same.requests.held };
  asks = λ live.
      let old = same.asks live in
      record {
        of_calls = λ q state is.
            let pair = old.of_calls q state is in
            record {
              unique = pair.unique;
              ask = pair.ask;
              request = pair.request;
              there = pair.there;
              by = pair.by;
              same = pair.same;
            };
        no_other = old.no_other;
        signalled = old.signalled;
        kept = old.kept;
        copies = All-without (λ (sent : Sent). (ask : Ask) → get p.asks sent.unique ≡ Some ask
            → IsStageReplied w.server.nodes w.server.handles ask.stage sent.wire) w.replies k old.copies;
      };
  validity = same.validity;
  minor = same.minor;
  agreed = same.agreed;
  aborted = same.aborted;
}

-- An open file is released once its last read or write is answered.
pub used_alike : (w : World) (p : Plain) → IsSound w.kernel.queues → is_live w.kernel.phase ≡ true → Alike w p
    → (state : CallState Opened) → Alike (record w { kernel = after_use w.kernel state }) p
used_alike w p sound live same (walking directory word words plan) = same
used_alike w p sound live same (doing operation) = same
used_alike w p sound live same (using open_call operation) = released_alike w p sound same live open_call

not_waiting : (reply : Reply ℕ ℕ) → performed reply ≢ waiting
not_waiting reply e = cc

not_waiting_declined : declined ≢ waiting
not_waiting_declined e = cc

module _ (w : World) (p : Plain) (numbered : IsNumbered w) (one : IsOneToOne (NodeDenotesIn w)) (same : Alike w p)
    (live : is_live w.kernel.phase ≡ true)
    (unique call : ℕ) (r : QueuedRequest Purpose) (ask : Ask) (state : CallState Opened) (state' : CallState ℕ)
    (under : request_under w.kernel.queues unique ≡ Some r) (serves : r.kept ≡ purpose.Call call)
    (there : get p.asks unique ≡ Some ask) (by_call : ask.call ≡ call)
    (there' : get p.vfs.calls call ≡ Some state') (states : StateAlike (NodeDenotesIn w) (OpenDenotesIn w) state state') where
  abbrev k1 : Kernel
  k1 = record w.kernel { queues = without w.kernel.queues unique }

  abbrev w1 : World
  w1 = record w { kernel = k1 }

  abbrev p1 : Plain
  p1 = without_ask p unique

  sound1 : IsSound k1.queues
  sound1 = IsSound-without w.kernel.queues unique numbered.queues

  abbrev interrupts_left : List ℕ
  interrupts_left = filter (λ i. not (nat_eq unique i)) w.kernel.queues.interrupts

  paused : ask.stage ≢ waiting → AlikeExceptCall w1 p1 call
  paused over = paused_ended w p numbered same unique call r ask under serves there interrupts_left
      (none_sent w p numbered same unique call r ask under serves there over)
      (none_held w p numbered same unique call r ask under serves there over)

  numbered1 : IsNumbered w1
  numbered1 = ended_numbered w numbered unique

  -- where a call takes a step once its request has ended
  stepped : (c : Advance Opened) (d : Advance ℕ) → ask.stage ≢ waiting
      → AdvanceAlike (NodeDenotesIn w) (OpenDenotesIn w) one c d → StepsAlone w.kernel.vfs.calls w.kernel.vfs.next_call call c
      → Alike (record w { kernel = advanced k1 call c }) (going_on p1 w.kernel.queues.next call d)
  stepped c d over alike alone =
      next_request_refines w1 p1 call numbered1
      (paused over) one same.tree same.validity same.minor same.agreed w.kernel.vfs.next_call c d alike alone
      (λ a e. live) same.aborted

  label_free : get p.asks w.kernel.queues.next ≡ None
  label_free = next_unasked w p numbered.queues same live

  -- The call receives a reply that is alike to what its ask came to.
  pub received_alike : (reply : Reply ℕ ℕ) (reply_received : Reply ℕ Opened) → ask.stage ≡ performed reply
      → ReplyAlike (NodeDenotesIn w) (OpenDenotesIn w) reply_received reply
      → Alike (record w { kernel = advanced k1 call (call_replied w.kernel.vfs call state reply_received) })
      (ask_delivered p unique w.kernel.queues.next ask reply state')
  received_alike reply reply_received over fits =
      subst (λ (c : ℕ). Alike (record w {
        kernel = advanced k1 call
            (call_replied w.kernel.vfs call state reply_received);
      })
      (going_on p1 w.kernel.queues.next c (call_replied p.vfs c state' reply))) (sym by_call)
      (stepped (call_replied w.kernel.vfs call state reply_received) (call_replied p.vfs call state' reply)
      (λ e. not_waiting reply (sym over ∙ e))
      (reply_step_refines (NodeDenotesIn w)
      (OpenDenotesIn w) one w.kernel.vfs p.vfs same.vfs call state state' reply_received reply states fits)
      (call_replied_alone w.kernel.vfs call state reply_received))

  -- The call receives that its ask was declined.
  pub declined_alike : ask.stage ≡ declined → Alike
      (record w { kernel = record k1 { vfs = answered w.kernel.vfs call (answer.failed 4) } })
      (ask_interrupted p unique ask)
  declined_alike over =
      subst (λ (c : ℕ). Alike (record w { kernel = record k1 { vfs = answered w.kernel.vfs call (answer.failed 4) } })
      (record p1 { vfs = answered p.vfs c (answer.failed 4) })) (sym by_call)
      (stepped (no_more (answered w.kernel.vfs call (answer.failed 4)))
      (no_more (answered p.vfs call (answer.failed 4))) (λ e. not_waiting_declined (sym over ∙ e))
      (record {
        vfs = answered_alike (NodeDenotesIn w) (OpenDenotesIn w) one w.kernel.vfs p.vfs same.vfs call call
            (answer.failed 4) (answer.failed 4) refl refl;
        operation = tt;
      })
      (answered_alone w.kernel.vfs call (answer.failed 4)))
