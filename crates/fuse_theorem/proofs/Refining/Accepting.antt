-- The kernel accepts a reply to a call's request, for all operations: the call receives of the files what its ask came to.
use Rattle.fuse_theorem.proofs.Refining.JudgedReplies.{received_is}
use Rattle.std.proofs.Common.{◌≡◌, ℕ, Bool, true, not, List, [], ◌∷◌, ◌++◌, Option, Some, None, is_some, refl, ap, sym, subst, ◌∙◌}
use Rattle.fuse_spec.specs.declared.Counted.{Counted}
use Rattle.fuse_spec.specs.declared.Opened.{Opened}
use Rattle.fuse_spec.specs.declared.ReplyResult.{ReplyResult}
use Rattle.fuse_spec.specs.declared.WriteResult.{WriteResult}
use Rattle.fuse_spec.specs.declared.WriteResult.TheVariants.{Accepted}
use Rattle.fuse_spec.specs.Values.Maps.{Map, get}
use Rattle.fuse_spec.specs.Files.Operations.{Reply, files_in_reply, OptionAlike, ReplyAlike}
use Rattle.fuse_spec.specs.Calls.Vfs.{CallState, walking, doing, using, asked, Advance}
use Rattle.fuse_spec.specs.Calls.CallReplies.{call_replied}
use Rattle.fuse_spec.specs.Kernel.QueueCalls.{without}
use Rattle.fuse_spec.specs.Kernel.Kernel.{Kernel, is_live, advanced, after_use}
use Rattle.fuse_spec.specs.Kernel.Replies.{looked_up, kernel_reply, replied, replied_to_call}
use Rattle.fuse_spec.specs.World.Worlds.{World, Sent, after_write}
use Rattle.fuse_spec.specs.World.Events as event
use Rattle.fuse_spec.specs.Reference.Plain.{Plain, Ask, Stage, ask_delivered}
use Rattle.fuse_spec.specs.Reference.PlainSteps.{Takes, delivering, delivering_reply, delivering_to_call, where_so}
use Rattle.fuse_spec.specs.Claim.Denotes.{NodeDenotesIn, OpenDenotesIn, StateAlike}
use Rattle.fuse_spec.specs.Claim.Alike.{Alike}
use Rattle.fuse_spec.proofs.QueueSoundness.{IsSound-without}
use Rattle.fuse_theorem.specs.Numbering.{IsNumbered}
use Rattle.fuse_theorem.specs.Conditions.{OneId, IsReplyToCall}
use Rattle.fuse_theorem.proofs.Refining.TablesReplaced.{grown, replaced_tables_refine}
use Rattle.fuse_theorem.proofs.Refining.LookedUp.{one_to_one, looked_up_known, received_fits}
use Rattle.fuse_theorem.proofs.Refining.Releasing.{next_unasked}
use Rattle.fuse_theorem.proofs.Refining.Writing.{unsent_alike, used_alike, received_alike}

module _ (w : World) (p : Plain) (numbered : IsNumbered w) (one : OneId w.server.nodes) (same : Alike w p)
    (live : is_live w.kernel.phase ≡ true) (k : ℕ) (sent : Sent) (call : ℕ) (state : CallState Opened)
    (reply : Reply ℕ ℕ)
    (is : IsReplyToCall w p sent call state reply) where
  abbrev nodes' : Map Counted
  nodes' = looked_up w.kernel.nodes (files_in_reply sent.wire)

  -- the kernel once it has counted what the reply names
  abbrev wl : World
  wl = record w { kernel = record w.kernel { nodes = nodes' } }

  looked_up_alike : Alike wl p
  looked_up_alike =
      let carries = grown w p nodes' w.server.nodes w.server.handles
      (λ id generation e. looked_up_known (files_in_reply sent.wire) w.kernel.nodes id generation e)
      (λ id generation file d. d) (λ fh file o. o) (one_to_one nodes' w.server.nodes one) in
      replaced_tables_refine w p same nodes' w.server.nodes w.server.handles w.server.tree p.tree carries
      (record {
        names = same.tree.names;
        next_inode = same.tree.next_inode;
        next_cookie = same.tree.next_cookie;
        files = same.tree.files;
      })

  looked_up_numbered : IsNumbered wl
  looked_up_numbered = record {
    queues = numbered.queues;
    calls_below = numbered.calls_below;
    one_request = numbered.one_request;
    sent_below = numbered.sent_below;
    replies_below = numbered.replies_below;
    held_below = numbered.held_below;
    kept_below = numbered.kept_below;
  }

  abbrev reply_received : Reply ℕ Opened
  reply_received = kernel_reply (asked state) sent.wire

  abbrev k1 : Kernel
  k1 = record w.kernel { queues = without w.kernel.queues sent.unique; nodes = nodes' }

  abbrev next : Advance Opened
  next = call_replied w.kernel.vfs call state reply_received

  fits : ReplyAlike (NodeDenotesIn wl) (OpenDenotesIn wl) reply_received reply
  fits = received_fits w.kernel.nodes w.server.nodes w.server.handles
      (asked state) is.ask.operation sent.wire reply is.goes is.used is.opens is.same is.reply_matches

  other_state : (o : Option (CallState ℕ)) → OptionAlike (StateAlike (NodeDenotesIn wl) (OpenDenotesIn wl)) (Some state) o
      → (s : CallState ℕ) × (o ≡ Some s) × StateAlike (NodeDenotesIn wl) (OpenDenotesIn wl) state s
  other_state None h = absurd h
  other_state (Some s) h = (s, refl, h)

  state' : (s : CallState ℕ) × (get p.vfs.calls call ≡ Some s) × StateAlike (NodeDenotesIn wl) (OpenDenotesIn wl) state s
  state' = other_state (get p.vfs.calls call) (subst
      (λ (o : Option (CallState Opened)). OptionAlike (StateAlike (NodeDenotesIn wl) (OpenDenotesIn wl)) o
      (get p.vfs.calls call)) is.state_is (looked_up_alike.vfs.calls call))

  abbrev q : Plain
  q = ask_delivered p sent.unique w.kernel.queues.next is.ask reply state'.0

  advanced_call_alike : Alike (record w { kernel = advanced k1 call next }) q
  advanced_call_alike =
      received_alike wl p looked_up_numbered
      (one_to_one nodes' w.server.nodes one) looked_up_alike live sent.unique call is.request is.ask state state'.0 is.under is.serves is.there is.by_call state'.1 state'.2 reply reply_received is.stage fits

  used_after : (s : CallState Opened) → state ≡ s → Alike
      (record w { kernel = advanced k1 call (call_replied w.kernel.vfs call s (kernel_reply (asked s) sent.wire)) }) q
      → Alike (record w {
        kernel = after_use (advanced k1 call
            (call_replied w.kernel.vfs call s (kernel_reply (asked s) sent.wire))) s;
      }) q
  used_after (walking d word words plan) e h = h
  used_after (doing operation) e h = h
  used_after (using open_call operation) e h =
      used_alike (record w {
        kernel = advanced k1 call
            (call_replied w.kernel.vfs call (using open_call operation) (kernel_reply operation sent.wire));
      }) q
      (IsSound-without w.kernel.queues sent.unique numbered.queues) live h (using open_call operation)

  replied_is : replied_to_call (record w.kernel { queues = without w.kernel.queues sent.unique }) call sent.wire
      (get w.kernel.vfs.calls call) ≡ (Accepted, after_use (advanced k1 call next) state)
  replied_is =
      ap (λ (o : Option (CallState Opened)). replied_to_call
      (record w.kernel { queues = without w.kernel.queues sent.unique }) call sent.wire o) is.state_is
      ∙ ap (λ (b : Bool). replied (record w.kernel {
        queues =
            without w.kernel.queues sent.unique;
      }) call state b sent.wire) is.goes
      ∙ ap (λ (l : Kernel). (Accepted, after_use l state))
      (received_is (record w.kernel { queues = without w.kernel.queues sent.unique }) call state sent.wire is.used)

  pub accepts : (replied_to_call (record w.kernel { queues = without w.kernel.queues sent.unique }) call sent.wire
      (get w.kernel.vfs.calls call)).0 ≡ Accepted
  accepts = ap (λ (took : WriteResult × Kernel). took.0) replied_is

  abbrev results' : List ReplyResult
  results' = w.results ++ record { number = sent.number; unique = sent.unique; result = Accepted } ∷ []

  -- The reply is accepted: the plain world's call receives what its ask came to, and the two are alike again.
  pub accept_goes : (q' : Plain) × Takes p (event.write k) (event.written sent.unique Accepted) q'
      × Alike (after_write w k sent (replied_to_call (record w.kernel {
        queues =
            without w.kernel.queues sent.unique;
      }) call sent.wire (get w.kernel.vfs.calls call))) q'
  accept_goes =
      let free = next_unasked w p numbered.queues same live in (
        q,
        (
          w.kernel.queues.next,
          ap (λ (o : Option Ask). delivering p sent.unique w.kernel.queues.next o) is.there ∙ ap
              (λ (s : Stage). delivering_reply p sent.unique w.kernel.queues.next is.ask s) is.stage
              ∙ ap (λ (o : Option (CallState ℕ)). delivering_to_call p sent.unique w.kernel.queues.next is.ask reply o)
              (ap (λ (n : ℕ). get p.vfs.calls n) is.by_call ∙ state'.1) ∙ ap
              (λ (o : Option Ask). where_so (not (is_some o)) q) free,
        ),
        subst (λ (took : WriteResult × Kernel). Alike (after_write w k sent took) q) (sym replied_is)
            (unsent_alike (record w { kernel = after_use (advanced k1 call next) state }) q
            (used_after state refl advanced_call_alike) k results'),
      )
