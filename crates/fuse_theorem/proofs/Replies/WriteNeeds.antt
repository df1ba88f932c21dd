-- What the kernel needs to take a copy holds: it says what its request's ask came to.
use Rattle.std.proofs.Common.{◌≡◌, ℕ, ◌-◌, ◌≤◌, Bool, true, false, true≢false, cond, Option, Some, None, nat_eq, is_some, slice_get, refl, ap, sym, subst, ◌∙◌, arith}
use Rattle.std.specs.Prelude.{◌%◌}
use Rattle.fuse_spec.specs.declared.Opened.{Opened}
use Rattle.fuse_spec.specs.declared.Purpose.{Purpose}
use Rattle.fuse_spec.specs.declared.Purpose.TheVariants as purpose
use Rattle.fuse_spec.specs.declared.QueuedRequest.{QueuedRequest}
use Rattle.fuse_spec.specs.Values.Maps.{get}
use Rattle.fuse_spec.specs.Values.Numbers.{eintr}
use Rattle.fuse_spec.specs.declared.Mark.{Mark}
use Rattle.fuse_spec.specs.declared.Mark.TheVariants as mark
use Rattle.fuse_spec.specs.Kernel.Queues.{has_interrupt, is_signalled}
use Rattle.fuse_spec.specs.Kernel.Messages.{WireReply}
use Rattle.fuse_spec.specs.Kernel.Replies.{goes_with}
use Rattle.fuse_spec.specs.Files.Operations.{Operation, lookup, getattr, mkdir, create, unlink, rmdir, rename, link, opening, readdir, readdirplus, read, write, Reply, failed, ReplyAlike}
use Rattle.fuse_spec.specs.Calls.Vfs.{CallState, asked}
use Rattle.fuse_spec.specs.Kernel.QueueCalls.{waiting}
use Rattle.fuse_spec.specs.Kernel.Kernel.{is_live, is_for}
use Rattle.fuse_spec.specs.Server.Nodes.{HeldNode, NodeTable, HandleTable}
use Rattle.fuse_spec.specs.Reference.Plain.{Plain, Ask, Stage, performed, declined}
use Rattle.fuse_spec.specs.Reference.Plain as plain
use Rattle.fuse_spec.specs.World.Worlds.{World, Sent}
use Rattle.fuse_spec.specs.World.Events as event
use Rattle.fuse_spec.specs.Claim.Denotes.{Denotes, NodeDenotesIn, OpenDenotesIn, generation_known, Names, Opens}
use Rattle.fuse_spec.specs.Claim.Alike.{Alike, IsStageReplied, IsPaired}
use Rattle.fuse_theorem.specs.AskedRequests.{RequestsAskedWhileLive}
use Rattle.fuse_theorem.specs.PlainWitness.{PlainWitness, AskServed}
use Rattle.fuse_theorem.specs.Conditions.{IsReplyToCall, IsDeclined, OpensItsFile}
use Rattle.fuse_theorem.specs.EachEvent.{CanReceive, Needs}
use Rattle.fuse_theorem.specs.EachEvent as each
use Rattle.fuse_theorem.specs.Links.{LinksSound}
use Rattle.fuse_theorem.specs.Lookups.{EntriesHeld, LookupsBalanced}
use Rattle.fuse_theorem.specs.Numbering.{IsNumbered, requests_for}
use Rattle.fuse_theorem.specs.WorldSound.{WorldSound}
use Rattle.fuse_theorem.proofs.Answers.Answered.{Waits, waiting_is}
use Rattle.fuse_theorem.proofs.Calls.Cases.{same_operation, SameReply, same_found, same_missing, same_created, same_opened, same_attributes, same_listed, same_listed_plus, same_content, same_written, same_agreed, same_done, same_failed, same_reply}
use Rattle.fuse_theorem.proofs.Calls.Finding.{same_is, none_passes, found_one, All-found}
use Rattle.fuse_theorem.proofs.Requests.LinksSound.{AgreesToInit, none_at, init_is_first}
use Rattle.fuse_theorem.proofs.Refining.Queuing.{All-at}
use Rattle.fuse_theorem.proofs.Refining.JudgedReplies.{reply_usable}
use Rattle.fuse_theorem.proofs.Replies.RepliesGo.{wire_goes, wire_opens}
use Rattle.fuse_theorem.proofs.Nodes.ServerSound.{one_id}

-- A reply that fails opens no file.
opens_none : (t : NodeTable) (h : HandleTable) (operation : Operation ℕ Opened) (errno : ℕ)
    → OpensItsFile t h operation (failed errno)
opens_none t h (lookup d name) errno = tt
opens_none t h (getattr x) errno = tt
opens_none t h (mkdir d name) errno = tt
opens_none t h (create d name) errno = tt
opens_none t h (unlink d name) errno = tt
opens_none t h (rmdir d name) errno = tt
opens_none t h (rename d old e new) errno = tt
opens_none t h (link x d name) errno = tt
opens_none t h (opening x) errno = tt
opens_none t h (readdir d after size) errno = tt
opens_none t h (readdirplus d after size) errno = tt
opens_none t h (read o offset size) errno = tt
opens_none t h (write o offset bytes) errno = tt

-- What is alike to an error is that error.
failed_alike : (t : NodeTable) (h : HandleTable) (errno : ℕ) (wire : WireReply) (reply : Reply ℕ ℕ)
    → wire ≡ failed errno → ReplyAlike (Names t) (Opens h) wire reply → reply ≡ failed errno
failed_alike t h errno wire reply is reply_matches = by wire reply is (same_reply (Names t) (Opens h) wire reply reply_matches)
  where
    by : (x : WireReply) (y : Reply ℕ ℕ) → x ≡ failed errno → SameReply (Names t) (Opens h) x y → y ≡ failed errno
    by _ _ e (same_found x0 y0 x1 y1 r q) = absurd (cc (e))
    by _ _ e (same_missing x0 y0 q) = absurd (cc (e))
    by _ _ e (same_created x0 y0 x1 y1 x2 y2 r q s) = absurd (cc (e))
    by _ _ e (same_opened x0 y0 s) = absurd (cc (e))
    by _ _ e (same_attributes x0 y0 q) = absurd (cc (e))
    by _ _ e (same_listed x0 y0 q) = absurd (cc (e))
    by _ _ e (same_listed_plus x0 y0 q) = absurd (cc (e))
    by _ _ e (same_content x0 y0 q) = absurd (cc (e))
    by _ _ e (same_written x0 y0 q) = absurd (cc (e))
    by _ _ e (same_agreed x0 y0 x1 y1 x2 y2 q r s) = absurd (cc (e))
    by _ _ e same_done = absurd (cc (e))
    by _ _ e (same_failed x0 y0 q) = let same : x0 ≡ errno = cc (e) in ap failed (sym q ∙ same)

-- A request whose INTERRUPT was due has a signal.
interrupt_signals : (m : Mark) → has_interrupt m ≡ true → is_signalled m ≡ true
interrupt_signals mark.Unread e = absurd (true≢false (sym e))
interrupt_signals mark.Flagged e = refl
interrupt_signals mark.Read e = absurd (true≢false (sym e))
interrupt_signals mark.Interrupted e = refl

module _ (w : World) (sound : WorldSound w) (asked_so : RequestsAskedWhileLive w) (links : LinksSound w)
    (witness : PlainWitness w) (p : Plain) (same : Alike w p) (live : is_live w.kernel.phase ≡ true) (k : ℕ) (sent : Sent)
    (there : slice_get w.replies k ≡ Some sent) where
  numbered : IsNumbered w
  numbered = let lookups = sound.lookups in let numbers = lookups.numbers in numbers.live live

  balanced : LookupsBalanced w
  balanced = let lookups = sound.lookups in lookups.balanced live

  -- a node that the kernel knows is of one file, whatever the generation
  one_file : (id generation : ℕ) → generation_known w.kernel.nodes id ≡ Some generation → (file : ℕ)
      → Denotes w.server.nodes id generation file → (g f : ℕ) → Denotes w.server.nodes id g f → f ≡ file
  one_file id generation known file a g f b =
      let row : a.row ≡ b.row = cc (a.there, b.there) in
      sym b.same_file ∙ ap (λ (r : HeldNode). r.file) (sym row) ∙ a.same_file

  -- ---- the copy replies to a request of a call

  module _ (call : ℕ) (waits : waiting w.kernel.queues sent.unique ≡ Some (purpose.Call call)) where
    is_wait : Waits w.kernel.queues sent.unique (purpose.Call call)
    is_wait = waiting_is w.kernel.queues sent.unique (purpose.Call call) waits

    mine : is_for call is_wait.request.kept ≡ true
    mine = ap (λ (x : Purpose). is_for call x) is_wait.serves ∙ same_is call

    -- the call is unanswered
    unanswered : (o : Option (CallState Opened)) → get w.kernel.vfs.calls call ≡ o → o ≡ None → ⊥
    unanswered (Some state) at e = absurd (cc (e))
    unanswered None at e =
        let few : requests_for call w.kernel.queues ≤ 0 =
        subst (λ (o : Option (CallState Opened)). requests_for call w.kernel.queues ≤ cond (is_some o) 1 0) at
        (numbered.one_request call) in
        let fails = none_passes (λ (x : ℕ × QueuedRequest Purpose). is_for call x.1.kept) w.kernel.queues.requests
        (omega (arith, few)) in
        true≢false (sym mine ∙ All-found (λ (x : ℕ × QueuedRequest Purpose). is_for call x.1.kept
        ≡ false) sent.unique w.kernel.queues.requests is_wait.request fails is_wait.under)

    module _ (state : CallState Opened) (state_is : get w.kernel.vfs.calls call ≡ Some state) where
      -- its ask, in any plain world that is alike, and what the copy says of it
      module _ (v : Plain) (alike : Alike w v) where
        pair_in : IsPaired w v call state
        pair_in = (alike.asks live).of_calls call state state_is

        same_unique : pair_in.unique ≡ sent.unique
        same_unique =
            let at_most : requests_for call w.kernel.queues ≤ 1 =
            subst (λ (o : Option (CallState Opened)). requests_for call w.kernel.queues ≤ cond
            (is_some o) 1 0) state_is (numbered.one_request call) in
            found_one (λ (x : ℕ × QueuedRequest Purpose). is_for call x.1.kept) sent.unique pair_in.unique is_wait.request w.kernel.queues.requests at_most is_wait.under mine pair_in.request

        there_in : get v.asks sent.unique ≡ Some pair_in.ask
        there_in = subst (λ (n : ℕ). get v.asks n ≡ Some pair_in.ask) same_unique pair_in.there

        said_in : (s : Stage) → pair_in.ask.stage ≡ s → IsStageReplied w.server.nodes w.server.handles s sent.wire
        said_in s stage = subst (λ (x : Stage). IsStageReplied w.server.nodes w.server.handles x sent.wire) stage
            (All-at (λ (x : Sent). (ask : Ask) → get v.asks x.unique ≡ Some ask
            → IsStageReplied w.server.nodes w.server.handles ask.stage x.wire) w.replies k sent
            (alike.asks live).copies there pair_in.ask there_in)

      abbrev pair : IsPaired w p call state
      pair = pair_in p same

      ask_there : get p.asks sent.unique ≡ Some pair.ask
      ask_there = there_in p same

      -- the ask of the plain world that stands beside the world
      abbrev known : IsPaired w witness.plain call state
      known = pair_in witness.plain witness.alike

      is_served : AskServed w.kernel sent.unique known.ask
      is_served = witness.served sent.unique known.ask (there_in witness.plain witness.alike)

      says : (s : Stage) → known.ask.stage ≡ s → IsStageReplied w.server.nodes w.server.handles s sent.wire
      says = said_in witness.plain witness.alike

      goes : (s : Stage) → known.ask.stage ≡ s → goes_with (asked state) sent.wire ≡ true
      goes plain.waiting stage = absurd (says plain.waiting stage)
      goes (performed reply) stage = wire_goes (NodeDenotesIn w) (OpenDenotesIn w) w.server.nodes w.server.handles
          (asked state) known.ask.operation sent.wire reply known.same (says (performed reply) stage)
          (is_served.replied reply stage)
      goes declined stage = ap (goes_with (asked state)) (says declined stage)

      opens : (s : Stage) → known.ask.stage ≡ s
          → OpensItsFile w.server.nodes w.server.handles (asked state) sent.wire
      opens plain.waiting stage = absurd (says plain.waiting stage)
      opens (performed reply) stage = wire_opens w.kernel.nodes w.server.nodes w.server.handles one_file (OpenDenotesIn w)
          (asked state) known.ask.operation sent.wire reply
          (same_operation (NodeDenotesIn w) (OpenDenotesIn w) (asked state) known.ask.operation known.same)
          (same_reply (Names w.server.nodes) (Opens w.server.handles) sent.wire reply (says (performed reply) stage))
          (is_served.replied reply stage)
      opens declined stage = subst (OpensItsFile w.server.nodes w.server.handles (asked state)) (sym
          (says declined stage)) (opens_none w.server.nodes w.server.handles (asked state) eintr)

      -- what is declined was interrupted, so that a signal is noted on its ask
      noted : (s : Stage) → known.ask.stage ≡ s → sent.wire ≡ failed eintr → pair.ask.noted ≡ true
      noted plain.waiting stage wire = absurd (says plain.waiting stage)
      noted (performed reply) stage wire = absurd (is_served.not_interrupted reply stage
          (failed_alike w.server.nodes w.server.handles eintr sent.wire reply wire (says (performed reply) stage)))
      noted declined stage wire =
          let interrupted = is_served.interrupted live stage in
          (same.asks live).signalled sent.unique is_wait.request pair.ask is_wait.under ask_there
          (interrupt_signals is_wait.request.mark (interrupted.marked is_wait.request is_wait.under))

      is_reply : (reply : Reply ℕ ℕ) → pair.ask.stage ≡ performed reply → IsReplyToCall w p sent call state reply
      is_reply reply stage =
          let entries = All-at (λ (s : Sent). EntriesHeld w.server.nodes s.wire) w.replies k sent balanced.copies there in
          record {
            request = is_wait.request;
            under = is_wait.under;
            serves = is_wait.serves;
            state_is = state_is;
            ask = pair.ask;
            there = ask_there;
            by_call = pair.by;
            same = pair.same;
            stage = stage;
            reply_matches = said_in p same (performed reply) stage;
            goes = goes known.ask.stage refl;
            used = reply_usable w.server.nodes w.kernel.nodes
                (λ id node at. let known = balanced.known id node at in known.2) sent.wire entries;
            opens = opens known.ask.stage refl;
          }

      is_declined : pair.ask.stage ≡ declined → IsDeclined w p sent call state
      is_declined stage = record {
        request = is_wait.request;
        under = is_wait.under;
        serves = is_wait.serves;
        state_is = state_is;
        ask = pair.ask;
        there = ask_there;
        by_call = pair.by;
        stage = stage;
        noted = noted known.ask.stage refl (said_in p same declined stage);
        wire_is = said_in p same declined stage;
      }

      reply_received : nat_eq (sent.unique % 2) 1 ≡ false → (s : Stage) → pair.ask.stage ≡ s → CanReceive w p sent
      reply_received even plain.waiting stage = absurd (said_in p same plain.waiting stage)
      reply_received even (performed reply) stage = let lookups = sound.lookups in let server =
          lookups.server in each.of_call call state reply numbered (one_id w.server.nodes server.nodes) live even waits
          (is_reply reply stage)
      reply_received even declined stage = let lookups = sound.lookups in let server =
          lookups.server in each.of_declined call state numbered (one_id w.server.nodes server.nodes) live even waits
          (is_declined stage)

    call_receives : nat_eq (sent.unique % 2) 1 ≡ false → CanReceive w p sent
    call_receives even = by (get w.kernel.vfs.calls call) refl
      where
        by : (o : Option (CallState Opened)) → get w.kernel.vfs.calls call ≡ o → CanReceive w p sent
        by None at = absurd (unanswered None at refl)
        by (Some state) at = reply_received state at even (pair state at).ask.stage refl

  -- ---- whatever awaits the copy

  odd_receives : nat_eq (sent.unique % 2) 1 ≡ true → (o : Option Purpose) → waiting w.kernel.queues (sent.unique - 1) ≡ o
      → CanReceive w p sent
  odd_receives odd None waits = each.nothing (ap (λ (b : Bool). cond b (waiting w.kernel.queues (sent.unique - 1))
      (waiting w.kernel.queues sent.unique)) odd ∙ waits)
  odd_receives odd (Some kept) waits = each.of_interrupt kept numbered live odd waits

  even_receives : nat_eq (sent.unique % 2) 1 ≡ false → (o : Option Purpose) → waiting w.kernel.queues sent.unique ≡ o
      → CanReceive w p sent
  even_receives even None waits = each.nothing (ap (λ (b : Bool). cond b (waiting w.kernel.queues (sent.unique - 1))
      (waiting w.kernel.queues sent.unique)) even ∙ waits)
  even_receives even (Some purpose.Init) waits =
      let request = waiting_is w.kernel.queues sent.unique purpose.Init waits in
      let first = init_is_first w.kernel
      (asked_so live).first sent.unique request.request request.under request.serves in
      each.of_init numbered live even waits (All-at (AgreesToInit w.server.minor) w.replies k sent
      (links.agreed live).copies there first)
  even_receives even (Some (purpose.Release o)) waits = each.of_release o numbered live even waits
  even_receives even (Some (purpose.Call call)) waits = call_receives call waits even

  receives : CanReceive w p sent
  receives = by (nat_eq (sent.unique % 2) 1) refl
    where
      by : (b : Bool) → nat_eq (sent.unique % 2) 1 ≡ b → CanReceive w p sent
      by true odd = odd_receives odd (waiting w.kernel.queues (sent.unique - 1)) refl
      by false even = even_receives even (waiting w.kernel.queues sent.unique) refl

-- What the kernel needs to take any copy holds.
pub write_met : (choice : ℕ → ℕ) (w : World) (p : Plain) → WorldSound w → RequestsAskedWhileLive w → LinksSound w
    → PlainWitness w → Alike w p → (k : ℕ) → Needs choice w p (event.write k)
write_met choice w p sound asked_so links witness same k sent there = by (is_live w.kernel.phase) refl
  where
    by : (b : Bool) → is_live w.kernel.phase ≡ b → CanReceive w p sent
    by true live = receives w sound asked_so links witness p same live k sent there
    by false dead = none_at w.replies k sent (links.idle dead).replies there
