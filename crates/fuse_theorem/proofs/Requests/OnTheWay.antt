-- A request that was read and is unanswered stays on its way, whatever happens.
use Rattle.fuse_spec.specs.Values.Numbers.{init_flags}
use Rattle.fuse_spec.specs.Calls.Calls.{for_minor}
use Rattle.std.proofs.Common.{◌≡◌, ◌≢◌, ℕ, ◌+◌, ◌-◌, Bool, true, false, true≢false, cond, List, drop, Option, Some, None, nat_eq, slice_get, option_map, refl, ap, sym, subst, ◌∙◌, arith, inl, inr}
use Rattle.std.specs.Prelude.{◌%◌}
use Rattle.std.specs.List.{remove as without_at}
use Rattle.std.specs.Option.{option_map_or}
use Rattle.std.proofs.lemmas.Bool.{cases_eq}
use Rattle.fuse_spec.specs.declared.Mark.{Mark}
use Rattle.fuse_spec.specs.declared.Mark.TheVariants as mark
use Rattle.fuse_spec.specs.declared.Opened.{Opened}
use Rattle.fuse_spec.specs.declared.Purpose.{Purpose}
use Rattle.fuse_spec.specs.declared.Purpose.TheVariants as purpose
use Rattle.fuse_spec.specs.declared.QueuedRequest.{QueuedRequest}
use Rattle.fuse_spec.specs.declared.ReplyResult.{ReplyResult}
use Rattle.fuse_spec.specs.declared.WriteResult.{WriteResult}
use Rattle.fuse_spec.specs.declared.WriteResult.TheVariants.{Accepted, NoEntry, Invalid}
use Rattle.fuse_spec.specs.Server.Copies.{kept_after, after_result}
use Rattle.fuse_spec.specs.Values.Maps.{Map, get, put, remove}
use Rattle.fuse_spec.specs.Kernel.Messages.{Request, RequestBody, init, asks, release, forget, batch_forget, interrupt, WireReply}
use Rattle.fuse_spec.specs.Kernel.Queues.{IsSound, is_unread, pending, request_under}
use Rattle.fuse_spec.specs.Kernel.QueueCalls.{after_reading, can_read_forgets, pending_at, waiting, without}
use Rattle.fuse_spec.specs.Calls.Vfs.{CallState, asked}
use Rattle.fuse_spec.specs.Kernel.Kernel.{Kernel, is_live, asked_by, body_of}
use Rattle.fuse_spec.specs.Kernel.Replies.{ended_by, request_reply_written, interrupt_reply_written, reply_written}
use Rattle.fuse_spec.specs.Server.Server.{HeldRequest, Kept, Copy}
use Rattle.fuse_spec.specs.Server.Taking.{taking, interrupting}
use Rattle.fuse_spec.specs.Server.Performs.{served}
use Rattle.fuse_spec.specs.World.Worlds.{World, Sent, first_world, copy_put, world_after_read_pending as world_after_read, after_take, after_perform, after_write, after_settle}
use Rattle.fuse_spec.specs.World.Events.{Event, Outcome}
use Rattle.fuse_spec.specs.Calls.Answers.{Answer}
use Rattle.fuse_spec.specs.World.Steps.{Happens}
use Rattle.fuse_spec.proofs.Tables.{get_put_here, get_put_there, get_gone_there}
use Rattle.fuse_spec.proofs.QueueReadings.{request_under-mark_other}
use Rattle.fuse_theorem.specs.Copies.{SomeHas}
use Rattle.fuse_theorem.specs.Links.{LinksSound}
use Rattle.fuse_theorem.specs.OnTheWay.{IsToBeHeld, IsOnItsWay, sent, held, replied, ReadAreOnTheirWay}
use Rattle.fuse_theorem.specs.WorldSound.{WorldSound}
use Rattle.fuse_theorem.proofs.Refining.WithAnswers.{with_answers}
use Rattle.fuse_theorem.proofs.Calls.Finding.{other_is}
use Rattle.fuse_theorem.proofs.Calls.CallsContinue.{begun_goes_on}
use Rattle.fuse_theorem.proofs.RefusalCases.Happened.{Happened, by_mount, by_call, by_read_interrupt, by_read_forgets, by_read_pending, by_take, by_perform, by_again, by_write, by_settle, by_signal, by_tick, by_drop, by_evict, by_abort, happened}
use Rattle.fuse_theorem.proofs.Replies.KeptOnLink.{has_pushed, has_last, has_removed, ended_absent}
use Rattle.fuse_theorem.proofs.Requests.LinksSound.{none_at}
use Rattle.fuse_theorem.proofs.Requests.NumbersStay.{replying_kernel}
use Rattle.fuse_theorem.proofs.Requests.PerformedRest.{performed_rest}
use Rattle.fuse_theorem.proofs.Requests.QueueMoves.{ReadsNone, begun_reads_none, signalled_reads_none, written_reads_none}
use Rattle.fuse_theorem.proofs.Requests.ReadBefore.{WasRead, read_before}
use Rattle.fuse_theorem.proofs.Requests.RequestsAsked.{request_even, request_below}

abbrev pub IsRequest : ℕ → Request → Type 0
IsRequest unique r = (r.unique ≡ unique) × IsToBeHeld r.body

abbrev pub IsCopy : ℕ → Sent → Type 0
IsCopy unique s = s.unique ≡ unique

-- What is on its way in one world is so in another.
carried : (w v : World) (unique : ℕ) → (SomeHas (IsRequest unique) w.requests → IsOnItsWay v unique)
    → (get w.server.held unique ≢ None → IsOnItsWay v unique)
    → (SomeHas (IsCopy unique) w.replies → IsOnItsWay v unique)
    → IsOnItsWay w unique → IsOnItsWay v unique
carried w v unique of_sent of_held of_copy (sent h) = of_sent h
carried w v unique of_sent of_held of_copy (held h) = of_held h
carried w v unique of_sent of_held of_copy (replied h) = of_copy h

-- a request that was read ends with the reply under its number
read_ends : (k : Kernel) → IsSound k.queues → (u : ℕ) (r : QueuedRequest Purpose) → request_under k.queues u ≡ Some r
    → is_unread r.mark ≡ false → (wire : WireReply) → is_live (reply_written k u wire).1.phase ≡ true
    → request_under (reply_written k u wire).1.queues u ≡ None
read_ends k sound u r under read wire live =
    subst (λ (l : Kernel). request_under l.queues u ≡ None) (ap (λ x. x.1) (sym is))
    (ended_absent k u r.kept wire sound (request_below k.queues sound u r under)
    (subst (λ (l : Kernel). is_live l.phase ≡ true) (ap (λ x. x.1) is) live))
  where
    waits : waiting k.queues u ≡ Some r.kept
    waits = ap (λ (o : Option (QueuedRequest Purpose)). option_map_or
        (λ (x : QueuedRequest Purpose). cond (is_unread x.mark) None (Some x.kept)) o None) under ∙ ap
        (λ (b : Bool). cond b None (Some r.kept)) read

    even : nat_eq (u % 2) 1 ≡ false
    even = let is_even = request_even k.queues sound u r under in
        other_is (u % 2) 1 (λ e. absurd (omega (arith, e, is_even)))

    is : reply_written k u wire ≡ ended_by (record k { queues = without k.queues u }) r.kept wire
    is = ap (λ (b : Bool). cond b (interrupt_reply_written k u wire (waiting k.queues (u - 1)))
        (request_reply_written k u wire (waiting k.queues u))) even ∙ ap (request_reply_written k u wire) waits

-- what the kernel asks of its own will be held
own_held : (k : Kernel) (kept : Purpose) (body : RequestBody) → body_of k kept ≡ Some body → IsToBeHeld body
own_held k purpose.Init body says = let is : RequestBody.init init_flags ≡ body = cc in subst IsToBeHeld is tt
own_held k (purpose.Release o) body says = let is : release o ≡ body = cc in subst IsToBeHeld is tt
own_held k (purpose.Call call) body says = by (get k.vfs.calls call) says
  where
    by : (o : Option (CallState Opened)) → asked_by o ≡ Some body → IsToBeHeld body
    by None e = absurd (cc)
    by (Some state) e = let is : asks (asked state) ≡ body = cc in subst IsToBeHeld is tt

module _ (choice : ℕ → ℕ) (w : World) (sound : WorldSound w) (links : LinksSound w) (old : ReadAreOnTheirWay w) where
  -- The kernel reads none, and what is on the links and held goes on as it was.
  goes_on : (l : Kernel) → is_live w.kernel.phase ≡ true → ReadsNone w.kernel.queues l.queues
      → (unique : ℕ) (r : QueuedRequest Purpose) → request_under l.queues unique ≡ Some r → is_unread r.mark ≡ false
      → IsOnItsWay w unique
  goes_on l live none unique r under read =
      let was = read_before w.kernel.queues l.queues sound.queues none unique r under read in
      old live unique was.request was.under was.read

  -- the same requests
  kernel_stays : (l : Kernel) (requests : List Request)
      → ((unique : ℕ) → SomeHas (IsRequest unique) w.requests → SomeHas (IsRequest unique) requests) → (unique : ℕ)
      → IsOnItsWay w unique → IsOnItsWay (record w { kernel = l; requests = requests }) unique
  kernel_stays l requests more unique h = carried w (record w { kernel = l; requests = requests }) unique
      (λ x. sent (more unique x)) (λ x. held x) (λ x. replied x) h

  -- ---- a request is read

  read_other : (u : ℕ) (e : ℕ × QueuedRequest Purpose) (m : Mark) → nat_eq u e.0 ≡ false
      → request_under (after_reading w.kernel.queues e.0 m) u ≡ request_under w.kernel.queues u
  read_other u e mark.Unread other = request_under-mark_other w.kernel.queues u e.0 mark.Read other
  read_other u e mark.Flagged other = request_under-mark_other w.kernel.queues u e.0 mark.Interrupted other
  read_other u e mark.Read other = refl
  read_other u e mark.Interrupted other = refl

  reads : is_live w.kernel.phase ≡ true → (k unique : ℕ) (kept : Purpose) (body : RequestBody)
      → pending_at w.kernel.queues k ≡ Some (unique, kept) → body_of w.kernel kept ≡ Some body
      → ReadAreOnTheirWay (world_after_read w k unique body)
  reads live k unique kept body there says _ u r under read = elim (cases_eq u unique) [
    | inl e ↦ sent (has_last (IsRequest u) w.requests (record { unique = unique; body = body })
        (sym e, own_held w.kernel kept body says))
    | inr ne ↦
        kernel_stays (world_after_read w k unique body).kernel (world_after_read w k unique body).requests
        (λ v h. has_pushed (IsRequest v) w.requests (record { unique = unique; body = body }) h) u
        (old live u r (sym (other (slice_get (pending w.kernel.queues) k) there ne) ∙ under) read)
  ]
    where
      other : (o : Option (ℕ × QueuedRequest Purpose))
          → option_map {U = ℕ × Purpose} (λ (e : ℕ × QueuedRequest Purpose). (e.0, e.1.kept)) o ≡ Some (unique, kept)
          → u ≢ unique
          → request_under (option_map_or (λ e. after_reading w.kernel.queues e.0 e.1.mark) o w.kernel.queues) u
          ≡ request_under w.kernel.queues u
      other None f ne = absurd (cc)
      other (Some e) f ne =
          let first : Some e.0 ≡ Some unique = ap (λ (o : Option (ℕ × Purpose)). option_map
          (λ (y : ℕ × Purpose). y.0) o) f in
          let same : e.0 ≡ unique = cc (first) in
          read_other u e e.1.mark (other_is u e.0 (λ tie. ne (tie ∙ same)))

  -- ---- the server takes a request, performs one, sends a copy, settles one

  module _ (k : ℕ) (r : Request) (there : slice_get w.requests k ≡ Some r) where
    abbrev left : List Request
    left = without_at w.requests k

    -- it is held
    is_held : (new : HeldRequest) (u : ℕ) → IsOnItsWay w u
        → IsOnItsWay (record w {
          requests = left;
          server =
              record w.server { held = put w.server.held r.unique new };
        }) u
    is_held new u = carried w (record w {
      requests = left;
      server = record w.server { held = put w.server.held r.unique new };
    }) u
        (λ h. elim (has_removed (IsRequest u) w.requests k r there h) [
          | inl p ↦ now_held p.0
          | inr rest ↦ sent rest
        ]) (λ h. elim (cases_eq u r.unique) [
          | inl e ↦ now_held (sym e)
          | inr ne ↦ held (λ none. h (sym (get_put_there w.server.held r.unique new u ne) ∙ none))
        ]) (λ h. replied h)
      where
        now_held : r.unique ≡ u → IsOnItsWay (record w {
          requests = left;
          server = record w.server { held = put w.server.held r.unique new };
        }) u
        now_held e = held (λ none. absurd (cc (
          get_put_here w.server.held r.unique new,
          subst (λ (n : ℕ). get (put w.server.held r.unique new) n ≡ None) (sym e) none,
        )))

    -- it is one that is not held
    module _ (body : RequestBody) (is : r.body ≡ body) (never : IsToBeHeld body → ⊥) where
      not_held : (v : World) (u : ℕ) → v.requests ≡ left → (get w.server.held u ≢ None → get v.server.held u ≢ None)
          → (SomeHas (IsCopy u) w.replies → SomeHas (IsCopy u) v.replies) → IsOnItsWay w u → IsOnItsWay v u
      not_held v u requests holds copies = carried w v u (λ h. elim (has_removed (IsRequest u) w.requests k r there h) [
        | inl p ↦ absurd (never (subst IsToBeHeld is p.1))
        | inr rest ↦ sent (subst (SomeHas (IsRequest u)) (sym requests) rest)
      ]) (λ h. held (holds h)) (λ h. replied (copies h))

    marked_held : (original : ℕ) (t : HeldRequest) (u : ℕ) → get w.server.held u ≢ None
        → get (put w.server.held original t) u ≢ None
    marked_held original t u h none = elim (cases_eq u original) [
      | inl e ↦ absurd (cc (
        get_put_here w.server.held original t,
        subst (λ (n : ℕ). get (put w.server.held original t) n ≡ None) e none,
      ))
      | inr ne ↦ absurd (h (sym (get_put_there w.server.held original t u ne) ∙ none))
    ]

    interrupts : (original : ℕ) → r.body ≡ interrupt original → (h : Option HeldRequest) (o : Option Kept) (u : ℕ)
        → IsOnItsWay w u → IsOnItsWay (after_take w k r.unique (interrupting w.server r.unique original h o)) u
    interrupts original is (Some t) o u = not_held (interrupt original) is (λ x. x)
        (after_take w k r.unique (interrupting w.server r.unique original (Some t) o)) u refl
        (marked_held original (record t { marked = true }) u) (λ h. h)
    interrupts original is None (Some x) u = not_held (interrupt original) is (λ x. x)
        (after_take w k r.unique (interrupting w.server r.unique original None (Some x))) u refl (λ h. h) (λ h. h)
    interrupts original is None None u = not_held (interrupt original) is (λ x. x)
        (after_take w k r.unique (interrupting w.server r.unique original None None)) u refl (λ h. h)
        (λ h. has_pushed (IsCopy u) w.replies _ h)

    taken : (u : ℕ) → IsOnItsWay w u → IsOnItsWay (after_take w k r.unique (taking w.server r.unique r.body)) u
    taken u = by r.body refl
      where
        by : (body : RequestBody) → r.body ≡ body → IsOnItsWay w u
            → IsOnItsWay (after_take w k r.unique (taking w.server r.unique body)) u
        by (init flags) is = is_held _ u
        by (asks operation) is = is_held _ u
        by (release o) is = is_held _ u
        by (forget f) is = not_held (forget f) is (λ x. x)
            (after_take w k r.unique (taking w.server r.unique (forget f))) u refl (λ h. h) (λ h. h)
        by (batch_forget fs) is = not_held (batch_forget fs) is (λ x. x)
            (after_take w k r.unique (taking w.server r.unique (batch_forget fs))) u refl (λ h. h) (λ h. h)
        by (interrupt original) is = interrupts original is (get w.server.held original) (get w.server.kept original) u

  performs : is_live w.kernel.phase ≡ true → (unique : ℕ) (t : HeldRequest) (u : ℕ) → IsOnItsWay w u
      → IsOnItsWay (after_perform w unique (served choice w.server unique t)) u
  performs live unique t u = by w.server.aborted (links.serving live)
    where
      did : World
      did = copy_put (record w { server = (served choice w.server unique t).server }) w.server.next_copy unique
          (Some (served choice w.server unique t).wire)

      held_is : (served choice w.server unique t).server.held ≡ remove w.server.held unique
      held_is = (performed_rest choice (record w.server { held = remove w.server.held unique }) t).held

      by : (b : Bool) → b ≡ false → IsOnItsWay w u → IsOnItsWay
          (copy_put (record w { server = (served choice w.server unique t).server }) w.server.next_copy unique
          (cond b None (Some (served choice w.server unique t).wire))) u
      by true e = absurd (true≢false e)
      by false e = carried w did u (λ h. sent h) (λ h. elim (cases_eq u unique) [
        | inl tie ↦ replied (has_last (IsCopy u) w.replies _ (sym tie))
        | inr ne ↦ held (λ none. h (sym (get_gone_there w.server.held unique u ne) ∙ sym
            (ap (λ (m : Map HeldRequest). get m u) held_is) ∙ none))
      ]) (λ h. replied (has_pushed (IsCopy u) w.replies _ h))

  settles : (k : ℕ) (result : ReplyResult) (o : Option Copy) (u : ℕ) → IsOnItsWay w u
      → IsOnItsWay (after_settle w k result o) u
  settles k result None u = carried w (after_settle w k result None) u (λ h. sent h) (λ h. held h) (λ h. replied h)
  settles k result (Some copy) u = by result.result
    where
      by : (r : WriteResult) → IsOnItsWay w u → IsOnItsWay
          (record w {
            results = without_at w.results k;
            server =
                after_result (record w.server {
                  copies = remove w.server.copies result.number;
                  kept = kept_after w.server.kept copy (get w.server.kept copy.unique);
                }) copy.wire r;
          }) u
      by Accepted = carried w _ u (λ h. sent h) (λ h. held h) (λ h. replied h)
      by NoEntry = carried w _ u (λ h. sent h) (λ h. held h) (λ h. replied h)
      by Invalid = carried w _ u (λ h. sent h) (λ h. held h) (λ h. replied h)

  -- A copy is written: its request ends.
  written : (k : ℕ) (s : Sent) → slice_get w.replies k ≡ Some s
      → ReadAreOnTheirWay (after_write w k s (reply_written w.kernel s.unique s.wire))
  written k s at_k alive u r under read = by (is_live w.kernel.phase) refl
    where
      ends_it : (x : WasRead w.kernel.queues u) → s.unique ≡ u
          → IsOnItsWay (after_write w k s (reply_written w.kernel s.unique s.wire)) u
      ends_it x e =
          let gone = read_ends w.kernel sound.queues s.unique x.request
          (subst (λ (n : ℕ). request_under w.kernel.queues n ≡ Some x.request)
          (sym e) x.under) x.read s.wire alive in
          absurd (cc (
            under,
            subst (λ (n : ℕ). request_under (reply_written w.kernel s.unique s.wire).1.queues n
                ≡ None) e gone,
          ))

      by : (b : Bool) → is_live w.kernel.phase ≡ b → IsOnItsWay
          (after_write w k s (reply_written w.kernel s.unique s.wire)) u
      by true live =
          let was = read_before w.kernel.queues (reply_written w.kernel s.unique s.wire).1.queues sound.queues
          (written_reads_none w.kernel s.unique s.wire alive) u r under read in
          carried w (after_write w k s (reply_written w.kernel s.unique s.wire)) u (λ h. sent h) (λ h. held h)
          (λ h. elim (has_removed (IsCopy u) w.replies k s at_k h) [
            | inl e ↦ ends_it was e
            | inr rest ↦ replied rest
          ]) (old live u was.request was.under was.read)
      by false dead = none_at w.replies k s (links.idle dead).replies at_k

  -- ---- every event

  forgets_same : (n u : ℕ) (b : Bool) → request_under
      (cond b (record w.kernel.queues {
        forgets = drop n w.kernel.queues.forgets;
        next = w.kernel.queues.next + 2;
      }) w.kernel.queues) u ≡ request_under w.kernel.queues u
  forgets_same n u true = refl
  forgets_same n u false = refl

  just_queued : (b : Bool) (r : QueuedRequest Purpose) {X : Type 0}
      → cond b (Some (record { mark = mark.Unread; kept = purpose.Init })) None ≡ Some r → is_unread r.mark ≡ false → X
  just_queued true r e read = let is : record { mark = mark.Unread; kept = purpose.Init } ≡ r =
      cc in absurd (true≢false (ap (λ (x : QueuedRequest Purpose). is_unread x.mark) is ∙ read))
  just_queued false r e read = absurd (cc)

  by_event : (e : Event) (o : Outcome) (after : World) → Happened choice w e o after → ReadAreOnTheirWay after
  by_event e o after (by_mount f m v idle) live u r under read = just_queued (nat_eq u 2) r under read
  by_event e o after (by_call call ready room within) live u r under read =
      let goes = begun_goes_on w.kernel (for_minor w.kernel.lists_files call) in
      kernel_stays after.kernel w.requests (λ v h. h) u
      (goes_on after.kernel (ap is_live (sym goes.phase) ∙ live)
      (begun_reads_none w.kernel (for_minor w.kernel.lists_files call)) u r under read)
  by_event e o after (by_read_interrupt original rest lives there within) live u r under read =
      kernel_stays after.kernel after.requests (λ v h. has_pushed (IsRequest v) w.requests _ h) u
      (old lives u r under read)
  by_event e o after (by_read_forgets n lives free can within few) live u r under read =
      kernel_stays after.kernel after.requests (λ v h. has_pushed (IsRequest v) w.requests _ h) u
      (old lives u r (sym (forgets_same n u (can_read_forgets w.kernel.queues n)) ∙ under) read)
  by_event e o after (by_read_pending k unique kept body lives free there says within) live u r under read =
      reads lives k unique kept body there says live u r under read
  by_event e o after (by_take k q there within) live u r under read =
      taken k q there u (old (ap (λ (x : Kernel). is_live x.phase) (sym same) ∙ live) u r
      (sym (ap (λ (x : Kernel). request_under x.queues u) same) ∙ under) read)
    where
      same : (after_take w k q.unique (taking w.server q.unique q.body)).kernel ≡ w.kernel
      same = replying_kernel (record w {
        requests = without_at w.requests k;
        server = (taking w.server q.unique q.body).server;
      }) w.server.next_copy q.unique
          (taking w.server q.unique q.body).reply
  by_event e o after (by_perform unique t there within) live u r under read =
      performs (ap (λ (x : Kernel). is_live x.phase) (sym same) ∙ live) unique t u
      (old (ap (λ (x : Kernel). is_live x.phase) (sym same) ∙ live) u r
      (sym (ap (λ (x : Kernel). request_under x.queues u) same) ∙ under) read)
    where
      same : (after_perform w unique (served choice w.server unique t)).kernel ≡ w.kernel
      same = replying_kernel (record w { server = (served choice w.server unique t).server }) w.server.next_copy unique
          (cond w.server.aborted None (Some (served choice w.server unique t).wire))
  by_event e o after (by_again unique kept there current within) live u r under read =
      carried w after u (λ h. sent h) (λ h. held h) (λ h. replied (has_pushed (IsCopy u) w.replies _ h))
      (old live u r under read)
  by_event e o after (by_write k s there within) live u r under read = written k s there live u r under read
  by_event e o after (by_settle k result there) live u r under read =
      settles k result (get w.server.copies result.number) u (old live u r under read)
  by_event e o after (by_signal call fatal state lives there within) live u r under read =
      kernel_stays after.kernel w.requests (λ v h. h) u
      (goes_on after.kernel lives (signalled_reads_none w.kernel call state fatal) u r under read)
  by_event e o after (by_tick ms timely) live u r under read =
      kernel_stays after.kernel w.requests (λ v h. h) u (old live u r under read)
  by_event e o after (by_drop directory name bound lives there) live u r under read =
      kernel_stays after.kernel w.requests (λ v h. h) u (old lives u r under read)
  by_event e o after (by_evict node counted lives there unused) live u r under read =
      kernel_stays after.kernel w.requests (λ v h. h) u (old lives u r under read)
  by_event e o after (by_abort lives) live u r under read = absurd (true≢false (sym live))

-- A request that was read and is unanswered stays on its way, whatever the event.
pub read_stay_on_their_way : (w : World) → WorldSound w → LinksSound w → ReadAreOnTheirWay w
    → (e : Event) (o : Outcome) (after : World) → Happens w e o after → ReadAreOnTheirWay after
read_stay_on_their_way w sound links old e o after h =
    by_event h.0 w sound links old e o after (happened h.0 w o after e h.2)

pub first_on_their_way : ReadAreOnTheirWay first_world
first_on_their_way live = absurd (true≢false (sym live))

-- It stays so as answers are collected.
pub collected_way : (w : World) (answers : Map Answer) → ReadAreOnTheirWay w
    → ReadAreOnTheirWay (with_answers w answers)
collected_way w answers old live u r under read =
    carried w (with_answers w answers) u (λ h. sent h) (λ h. held h) (λ h. replied h) (old live u r under read)
