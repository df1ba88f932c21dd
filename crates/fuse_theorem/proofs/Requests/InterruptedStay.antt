-- A plain world stays beside the world, whatever the event: what is interrupted stays so.
use Rattle.fuse_spec.specs.Calls.Calls.{for_minor}
use Rattle.std.proofs.Common.{◌≡◌, ℕ, ◌+◌, ◌≤◌, ◌<◌, Bool, true, false, true≢false, cond, drop, Option, Some, None, nat_eq, refl, ap, sym, subst, ◌∙◌, arith, inl, inr}
use Rattle.std.specs.List.{remove as without_at}
use Rattle.std.specs.Map.{lookup}
use Rattle.fuse_spec.specs.declared.Minor.{Minor}
use Rattle.fuse_spec.specs.declared.ReplyResult.{ReplyResult}
use Rattle.fuse_spec.specs.declared.WriteResult.{WriteResult}
use Rattle.fuse_spec.specs.Values.Maps.{get, remove}
use Rattle.fuse_spec.specs.Kernel.Messages.{RequestBody, init, asks, release, forget, batch_forget, interrupt}
use Rattle.fuse_spec.specs.Server.Copies.{kept_after, after_result}
use Rattle.fuse_spec.specs.Kernel.Queues.{request_under}
use Rattle.fuse_spec.specs.Kernel.QueueCalls.{can_read_forgets}
use Rattle.fuse_spec.specs.Kernel.Kernel.{Kernel, is_live}
use Rattle.fuse_spec.specs.Kernel.Replies.{reply_written}
use Rattle.fuse_spec.specs.Server.Taking.{taking}
use Rattle.fuse_spec.specs.Server.Performs.{served}
use Rattle.fuse_spec.specs.Server.Server.{HeldRequest, Copy}
use Rattle.fuse_spec.specs.World.Worlds.{World, Sent, after_take, after_perform, after_settle}
use Rattle.fuse_spec.specs.World.Events.{Event, Outcome}
use Rattle.fuse_spec.specs.World.Events as event
use Rattle.fuse_spec.specs.World.Steps.{Happens}
use Rattle.fuse_spec.specs.Reference.Plain.{Plain, Ask}
use Rattle.fuse_spec.specs.Reference.PlainSteps.{Takes}
use Rattle.fuse_spec.specs.Claim.Alike.{Alike, RequestBodyAsked, StillDenotes, OpenStillDenotes}
use Rattle.fuse_theorem.specs.AskedRequests.{IsInterrupted, RequestsAskedWhileLive}
use Rattle.fuse_theorem.specs.Numbering.{IsNumbered}
use Rattle.fuse_theorem.specs.PlainWitness.{AsksServed}
use Rattle.fuse_theorem.specs.WorldSound.{WorldSound}
use Rattle.fuse_theorem.proofs.Calls.CallsContinue.{begun_goes_on}
use Rattle.fuse_theorem.proofs.RefusalCases.Happened.{Happened, by_mount, by_call, by_read_interrupt, by_read_forgets, by_read_pending, by_take, by_perform, by_again, by_write, by_settle, by_signal, by_tick, by_drop, by_evict, by_abort, happened}
use Rattle.fuse_theorem.proofs.PlainWorld.PlainAsks.{step_served, mount_served}
use Rattle.fuse_theorem.proofs.Refining.Queuing.{All-at}
use Rattle.fuse_theorem.proofs.Replies.KeptOnLink.{stays_absent}
use Rattle.fuse_theorem.proofs.Requests.NumbersStay.{calls_of, replying_kernel, unreceived}
use Rattle.fuse_theorem.proofs.Requests.PendingCounts.{moves_fewer}
use Rattle.fuse_theorem.proofs.Requests.QueueMoves.{QueueMoves, read_moves, begun_moves, signalled_moves, written_moves}
use Rattle.fuse_theorem.proofs.Requests.RequestsAsked.{Keeps, interrupted_still}
use Rattle.fuse_theorem.proofs.Requests.AskKept.{Follows, unmoved, begun_follows, read_follows, signalled_follows}
use Rattle.fuse_theorem.proofs.Requests.AwaitedKept.{written_answers}

-- While a mount lives on, what is interrupted stays so.
still_by : (k l : Kernel) → Follows k l → k.queues.next ≤ l.queues.next
    → ((unique : ℕ) → unique < k.queues.next → request_under k.queues unique ≡ None
    → request_under l.queues unique ≡ None) → Keeps k l
still_by k l follows rises absent = record {
  rises = rises;
  absent = absent;
  still = λ unique r under read. inl (follows.still unique r under read);
}

quietly : (k l : Kernel) → l.queues.requests ≡ k.queues.requests → l.vfs.calls ≡ k.vfs.calls
    → k.queues.next ≤ l.queues.next → Keeps k l
quietly k l requests calls rises = still_by k l (unmoved k l requests calls rises) rises
    (λ unique low none. ap (lookup (nat_eq unique)) requests ∙ none)

moving : (k l : Kernel) → Follows k l → QueueMoves k.queues l.queues → Keeps k l
moving k l follows moves =
    let fewer = moves_fewer k.queues l.queues moves in
    still_by k l follows fewer.rises (λ unique low none. stays_absent k.queues l.queues moves unique low none)

same : (k l : Kernel) → l ≡ k → Keeps k l
same k l is = quietly k l (ap (λ (x : Kernel). x.queues.requests) is) (ap (λ (x : Kernel). x.vfs.calls) is)
    (let next : l.queues.next ≡ k.queues.next = ap (λ (x : Kernel). x.queues.next) is in omega (arith, next))

settled_same : (w : World) (k : ℕ) (result : ReplyResult) (o : Option Copy) → (after_settle w k result o).kernel
    ≡ w.kernel
settled_same w k result None = refl
settled_same w k result (Some copy) = by result.result
  where
    by : (r : WriteResult) → (record w {
      results = without_at w.results k;
      server = after_result (record w.server {
        copies = remove w.server.copies result.number;
        kept = kept_after w.server.kept copy (get w.server.kept copy.unique);
      }) copy.wire r;
    }).kernel ≡ w.kernel
    by r = refl

module _ (choice : ℕ → ℕ) (w : World) (sound : WorldSound w) where
  numbered : is_live w.kernel.phase ≡ true → IsNumbered w
  numbered live = let lookups = sound.lookups in let numbers = lookups.numbers in numbers.live live

  forgets_requests : (n : ℕ) (b : Bool) → (cond b (record w.kernel.queues {
    forgets = drop n w.kernel.queues.forgets;
    next = w.kernel.queues.next + 2;
  }) w.kernel.queues).requests ≡ w.kernel.queues.requests
  forgets_requests n true = refl
  forgets_requests n false = refl

  forgets_rise : (n : ℕ) (b : Bool) → w.kernel.queues.next ≤
      (cond b (record w.kernel.queues {
        forgets = drop n w.kernel.queues.forgets;
        next = w.kernel.queues.next + 2;
      }) w.kernel.queues).next
  forgets_rise n true = omega arith
  forgets_rise n false = omega arith

  -- Whether the event mounts; or else, whether the kernel keeps what was interrupted.
  data Goes : Event → World → Type 0 where
    mounts : (m n : ℕ) (v : Minor) (after : World) → Goes (event.mount m n v) after
    lives_on : (e : Event) (after : World)
        → (is_live after.kernel.phase ≡ true → (is_live w.kernel.phase ≡ true) × Keeps w.kernel after.kernel)
        → Goes e after

  by_event : (e : Event) (o : Outcome) (after : World) → Happened choice w e o after → Goes e after
  by_event e o after (by_mount m n v idle) = mounts m n v after
  by_event e o after (by_call call ready room within) = lives_on e after (λ live.
      let goes = begun_goes_on w.kernel (for_minor w.kernel.lists_files call) in
      let lives : is_live w.kernel.phase ≡ true = ap is_live (sym goes.phase) ∙ live in (
        lives,
        moving w.kernel after.kernel (begun_follows w.kernel (calls_of w (numbered lives))
            (for_minor w.kernel.lists_files call)) (begun_moves w.kernel (for_minor w.kernel.lists_files call)),
      ))
  by_event e o after (by_read_interrupt original rest lives there within) =
      lives_on e after (λ live. (lives, quietly w.kernel after.kernel refl refl (omega arith)))
  by_event e o after (by_read_forgets n lives free can within few) = lives_on e after (λ live. (
    lives,
    quietly w.kernel after.kernel (forgets_requests n (can_read_forgets w.kernel.queues n)) refl
        (forgets_rise n (can_read_forgets w.kernel.queues n)),
  ))
  by_event e o after (by_read_pending k unique kept body lives free there says within) = lives_on e after (λ live. (
    lives,
    moving w.kernel after.kernel (read_follows w.kernel sound.queues k)
        (read_moves w.kernel.queues sound.queues k),
  ))
  by_event e o after (by_take k r there within) = lives_on e after (λ live.
      let is : (after_take w k r.unique (taking w.server r.unique r.body)).kernel ≡ w.kernel =
      replying_kernel (record w {
        requests = without_at w.requests k;
        server = (taking w.server r.unique r.body).server;
      }) w.server.next_copy r.unique (taking w.server r.unique r.body).reply in
      (ap (λ (q : Kernel). is_live q.phase) (sym is) ∙ live, same w.kernel after.kernel is))
  by_event e o after (by_perform unique t there within) = lives_on e after (λ live.
      let is : (after_perform w unique (served choice w.server unique t)).kernel ≡ w.kernel =
      replying_kernel (record w { server = (served choice w.server unique t).server }) w.server.next_copy unique
      (cond w.server.aborted None (Some (served choice w.server unique t).wire)) in
      (ap (λ (q : Kernel). is_live q.phase) (sym is) ∙ live, same w.kernel after.kernel is))
  by_event e o after (by_again unique kept there current within) =
      lives_on e after (λ live. (live, same w.kernel after.kernel refl))
  by_event e o after (by_write k sent there within) = lives_on e after (λ alive. by (is_live w.kernel.phase) refl alive)
    where
      l : Kernel
      l = (reply_written w.kernel sent.unique sent.wire).1

      by : (b : Bool) → is_live w.kernel.phase ≡ b → is_live l.phase ≡ true
          → (is_live w.kernel.phase ≡ true) × Keeps w.kernel l
      by true live alive =
          let now = numbered live in
          let low = All-at (λ (s : Sent). s.unique < w.kernel.queues.next) w.replies k sent now.replies_below there in
          let moves = written_moves w.kernel sent.unique sent.wire alive in
          let fewer = moves_fewer w.kernel.queues l.queues moves in
          let answers = written_answers w.kernel sound.queues (calls_of w now) sent.unique low sent.wire alive in (
            live,
            record {
              rises = fewer.rises;
              absent = λ unique below none. stays_absent w.kernel.queues l.queues moves unique below none;
              still = λ unique r under read. elim
                  (answers.still unique r under read) [ inl x ↦ inl x | inr gone ↦ inr gone.1 ];
            },
          )
      by false dead alive =
          let lookups = sound.lookups in
          let numbers = lookups.numbers in
          absurd (true≢false (sym alive ∙ ap (λ (q : Kernel). is_live q.phase)
          (unreceived w.kernel (numbers.idle dead) sent.unique sent.wire) ∙ dead))
  by_event e o after (by_settle k result there) = lives_on e after (λ live.
      let is = settled_same w k result (get w.server.copies result.number) in
      (ap (λ (q : Kernel). is_live q.phase) (sym is) ∙ live, same w.kernel after.kernel is))
  by_event e o after (by_signal call fatal state lives there within) = lives_on e after (λ live. (
    lives,
    moving w.kernel after.kernel (signalled_follows w.kernel sound.queues (calls_of w
        (numbered lives)) call state fatal) (signalled_moves w.kernel call state fatal),
  ))
  by_event e o after (by_tick ms timely) = lives_on e after (λ live. (
    live,
    quietly w.kernel after.kernel refl refl
        (omega arith),
  ))
  by_event e o after (by_drop directory name bound lives there) =
      lives_on e after (λ live. (lives, quietly w.kernel after.kernel refl refl (omega arith)))
  by_event e o after (by_evict node counted lives there unused) =
      lives_on e after (λ live. (lives, quietly w.kernel after.kernel refl refl (omega arith)))
  by_event e o after (by_abort lives) = lives_on e after (λ live. absurd (true≢false (sym live)))

-- A request that is performed was held.
held_then : (choice : ℕ → ℕ) (w : World) (e : Event) (o : Outcome) (after : World) → Happened choice w e o after
    → (u : ℕ) → e ≡ event.perform u → (t : HeldRequest) × (get w.server.held u ≡ Some t)
held_then choice w e o after (by_mount m n v idle) u is = absurd (cc (is))
held_then choice w e o after (by_call call ready room within) u is = absurd (cc (is))
held_then choice w e o after (by_read_interrupt original rest lives there within) u is = absurd (cc (is))
held_then choice w e o after (by_read_forgets n lives free can within few) u is = absurd (cc (is))
held_then choice w e o after (by_read_pending k unique kept body lives free there says within) u is = absurd (cc (is))
held_then choice w e o after (by_take k r there within) u is = absurd (cc (is))
held_then choice w e o after (by_perform unique t there within) u is =
    let same_one : unique ≡ u = cc (is) in (t, subst (λ (n : ℕ). get w.server.held n ≡ Some t) same_one there)
held_then choice w e o after (by_again unique kept there current within) u is = absurd (cc (is))
held_then choice w e o after (by_write k sent there within) u is = absurd (cc (is))
held_then choice w e o after (by_settle k result there) u is = absurd (cc (is))
held_then choice w e o after (by_signal call fatal state lives there within) u is = absurd (cc (is))
held_then choice w e o after (by_tick ms timely) u is = absurd (cc (is))
held_then choice w e o after (by_drop directory name bound lives there) u is = absurd (cc (is))
held_then choice w e o after (by_evict node counted lives there unused) u is = absurd (cc (is))
held_then choice w e o after (by_abort lives) u is = absurd (cc (is))

module _ (w : World) (sound : WorldSound w) (asked : RequestsAskedWhileLive w) (p : Plain) (alike : Alike w p)
    (old : AsksServed w.kernel p) where
  -- the request of a marked ask is held, and was interrupted
  held_marks : is_live w.kernel.phase ≡ true → (unique : ℕ) (t : HeldRequest) → get w.server.held unique ≡ Some t
      → (ask : Ask) → get p.asks unique ≡ Some ask → ask.marked ≡ true → IsInterrupted w.kernel unique
  held_marks live unique t held ask at marked =
      ((asked live).held unique t held).interrupted (by t.body (alike.requests.held unique t held))
    where
      by : (body : RequestBody) → RequestBodyAsked p.asks unique false t.marked
          (StillDenotes w.server.nodes t.generations) (OpenStillDenotes w.server.nodes w.server.handles t.generations) body
          → t.marked ≡ true
      by (asks operation) h =
          let is : h.ask ≡ ask = let there = h.there in cc (there, at) in
          sym h.is_waiting.marked_too ∙ ap (λ (x : Ask). x.marked) is ∙ marked
      by (init flags) none = absurd (cc (none, at))
      by (release o) none = absurd (cc (none, at))
      by (forget f) none = absurd (cc (none, at))
      by (batch_forget fs) none = absurd (cc (none, at))
      by (interrupt original) none = absurd (cc (none, at))

  -- The asks of a plain world that is alike stay served, whatever the event.
  pub asks_stay_served : (e : Event) (o : Outcome) (after : World) → Happens w e o after → (q : Plain) → Takes p e o q
      → AsksServed after.kernel q
  asks_stay_served e o after h q t = by e (by_event h.0 w sound e o after did) t refl
    where
      did : Happened h.0 w e o after
      did = happened h.0 w o after e h.2

      by : (x : Event) → Goes h.0 w sound x after → Takes p x o q → x ≡ e → AsksServed after.kernel q
      by _ (mounts m n v l) takes is = mount_served after.kernel p m n v o q takes
      by _ (lives_on x l go) takes is =
          let still : AsksServed after.kernel p = λ unique ask at.
          let was = old unique ask at in
          record {
            replied = was.replied;
            not_interrupted = was.not_interrupted;
            interrupted = λ live stage.
                let went = go live in
                interrupted_still w.kernel after.kernel went.1 unique (was.interrupted went.0 stage);
          } in
          step_served after.kernel p still takes.0 x o q (λ unique performs ask at marked live.
          let went = go live in
          let held = held_then h.0 w e o after did unique (sym is ∙ performs) in
          interrupted_still w.kernel after.kernel went.1 unique
          (held_marks went.0 unique held.0 held.1 ask at marked)) takes.1
