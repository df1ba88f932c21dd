-- What kernel, server and links made of an event, on a sound world, is what the machine makes of it, and is a sound
-- world again.
use Rattle.std.proofs.Common.{◌≡◌, ◌<◌, ◌≤◌, ◌⊎◌, inl, inr, ℕ, ◌+◌, Bool, true, false, nat_lt, max, cond, List, [], ◌∷◌, ◌++◌, Option, Some, None, slice_get, refl, ap, sym, subst, ◌∙◌, arith}
use Rattle.std.specs.List.{remove as without}
use Rattle.std.proofs.lemmas.Bool.{le-ltb, lt-ltb}
use Rattle.std.proofs.lemmas.Option.{none-some, same_Some}
use Rattle.fuse_spec.specs.declared.Minor.{Minor}
use Rattle.fuse_spec.specs.declared.Counted.{Counted}
use Rattle.fuse_spec.specs.declared.IntrEffect.{IntrEffect}
use Rattle.fuse_spec.specs.declared.ReplyResult.{ReplyResult}
use Rattle.fuse_spec.specs.declared.WriteResult.{WriteResult}
use Rattle.fuse_spec.specs.Calls.Calls.{Call}
use Rattle.fuse_spec.specs.Values.Maps.{get, remove_name}
use Rattle.fuse_spec.specs.Values.Numbers.{max_validity}
use Rattle.fuse_spec.specs.Files.Operations.{errno_of}
use Rattle.fuse_spec.specs.Kernel.Messages.{Request, WireReply}
use Rattle.fuse_spec.specs.Kernel.Kernel as kernel_specs
use Rattle.fuse_spec.specs.Kernel.Kernel.{Kernel, call_put, kernel_aborted, kernel_mounted, evicted}
use Rattle.fuse_spec.specs.Kernel.QueueCalls as queues
use Rattle.fuse_spec.specs.Kernel.QueueCalls.{after_read_pending, after_read_forgets}
use Rattle.fuse_spec.specs.Kernel.Uniques.{interrupt_number}
use Rattle.fuse_spec.specs.Kernel.Replies.{reply_written}
use Rattle.fuse_spec.specs.Server.Server.{Server}
use Rattle.fuse_spec.specs.Server.Copies.{connection_lost, remounted}
use Rattle.fuse_spec.specs.Server.Taking.{TakeResult, taking}
use Rattle.fuse_spec.specs.Server.Performs.{PerformResult, served}
use Rattle.fuse_spec.specs.Calls.Vfs.{later}
use Rattle.fuse_spec.specs.World.Worlds as worlds
use Rattle.fuse_spec.specs.World.Worlds.{World, Sent, copy_put, forget_body, after_mount, after_call, after_take, after_perform, after_again, after_write, after_settle, after_tick, after_drop, after_evict, after_abort}
use Rattle.fuse_spec.specs.World.Events.{Event, Outcome}
use Rattle.fuse_spec.specs.World.Events as event
use Rattle.fuse_spec.specs.World.Steps.{Happens, is_past, MayChooseFor}
use Rattle.fuse_frames.specs.RequestTies.{IsRequestFrame}
use Rattle.fuse_frames.proofs.RequestLemmas.{one_request, frame_says}
use Rattle.fuse_theorem.specs.SoundWorlds.{IsSoundWorld}
use Rattle.fuse_theorem.proofs.WholeLists.SoundWorlds.{sound_next}
use Rattle.fk_kernel.specs.Refused.{mount_refusal, begin_refusal, read_refusal, IsPendingRequest}
use Rattle.fs_server.specs.Effects.{TakesFrame, PerformsHeld, SendsAgain, Settles, copy_of, first_copy}
use Rattle.fs_server.specs.declared.server.Taken.{Taken}
use Rattle.fk_kernel.specs.Refused.{read_forgets_refusal, tick_refusal, drop_refusal, evict_refusal, IsForgetFrame}
use Rattle.fk_kernel.specs.Refused.{signal_refusal, read_interrupt_refusal, abort_refusal, IsSignalled, IsInterruptFrame}
use Rattle.fk_kernel.specs.Picks.{IsPicked, after_pick, pick_refusal}
use Rattle.fk_kernel.specs.declared.read.Pick.{Pick}
use Rattle.fk_kernel.specs.declared.read.Pick.TheVariants as pick
use Rattle.fw_world.specs.Values.{read_of, with_copy}
use Rattle.fw_world.proofs.WorldParts.{world_of, is_made, happens_so, replying_is}
use Rattle.fw_world.proofs.Interrupts.{signals, reads_interrupt, aborts}
use Rattle.fw_world.proofs.Happening.{mounts, calls, reads, reads_forgets, takes, performs, sends_again, writes, settles, ticks, drops, evicts}

pub day_at_most : (found_ms missing_ms : ℕ) → found_ms ≤ max_validity → missing_ms ≤ max_validity
    → nat_lt max_validity (max found_ms missing_ms) ≡ false
day_at_most found_ms missing_ms f m = le-ltb max_validity (max found_ms missing_ms) (omega (arith, f, m))

-- Times of which one is over a day.
pub over_a_day : (found_ms missing_ms : ℕ)
    → (max_validity < found_ms) ⊎ ((found_ms ≤ max_validity) × (max_validity < missing_ms))
    → nat_lt max_validity (max found_ms missing_ms) ≡ true
over_a_day found_ms missing_ms (inl found) =
    lt-ltb max_validity (max found_ms missing_ms) (omega (arith, found))
over_a_day found_ms missing_ms (inr (_, missing)) =
    lt-ltb max_validity (max found_ms missing_ms) (omega (arith, missing))

-- A reply has a first copy while the mount is not aborted, and has none after.
has_copy : (aborted : Bool) (number unique : ℕ) (wire : WireReply) (copy : Sent)
    → Some copy ≡ first_copy aborted number unique wire
    → (aborted ≡ false) × (copy ≡ record { number = number; unique = unique; wire = wire })
has_copy true number unique wire copy is = absurd (none-some copy (sym is))
has_copy false number unique wire copy is = (
  refl,
  same_Some copy (record { number = number; unique = unique; wire = wire }) is,
)

has_no_copy : (aborted : Bool) (number unique : ℕ) (wire : WireReply) → None ≡ first_copy aborted number unique wire
    → aborted ≡ true
has_no_copy true number unique wire is = refl
has_no_copy false number unique wire is = absurd
    (none-some (record { number = number; unique = unique; wire = wire }) is)

module _ (w : World) (sound : IsSoundWorld w) (kernel : Kernel) (server : Server) (requests : List Request)
    (replies : List Sent) (results : List ReplyResult) where
  abbrev pub made : World
  made = world_of kernel server requests replies results

  abbrev pub Made : Event → Outcome → Type 0
  Made e o = Happens w e o made × IsSoundWorld made

  -- No counter is past its end.
  abbrev pub Within : Type 0
  Within = (x : World) → x.kernel ≡ kernel → x.server ≡ server → is_past x ≡ false

  made_by : (e : Event) (o : Outcome) (after : World) → made ≡ after → Happens w e o after → Made e o
  made_by e o after is happens = (
    happens_so w e o after made is happens,
    subst IsSoundWorld (sym is) (sound_next w sound e o after happens),
  )

  pub mounted : (found_ms missing_ms : ℕ) (minor : Minor) → found_ms ≤ max_validity → missing_ms ≤ max_validity
      → mount_refusal w.kernel ≡ None → kernel ≡ kernel_mounted w.kernel
      → server ≡ remounted w.server (record { found_ms = found_ms; missing_ms = missing_ms }) minor → requests ≡ []
      → replies ≡ [] → results ≡ [] → Made (event.mount found_ms missing_ms minor) event.mounted
  mounted found_ms missing_ms minor f m judged k s a b c =
      let after = after_mount w found_ms missing_ms minor in
      made_by (event.mount found_ms missing_ms minor) event.mounted after
      (is_made after kernel server requests replies results k s a b c)
      (mounts w found_ms missing_ms minor (day_at_most found_ms missing_ms f m) judged)

  pub called : (call : Call) (number : ℕ) → begin_refusal w.kernel call ≡ None → number ≡ w.kernel.vfs.next_call
      → kernel ≡ call_put w.kernel call → server ≡ w.server → requests ≡ w.requests → replies ≡ w.replies
      → results ≡ w.results → Within
      → Made (event.call call) (event.begun number)
  called call number judged is k s a b c within =
      let after = after_call w call in
      subst (λ (n : ℕ). Made (event.call call) (event.begun n)) (sym is)
      (made_by (event.call call) (event.begun w.kernel.vfs.next_call) after
      (is_made after kernel server requests replies results k s a b c)
      (calls w call judged (within after (sym k) (sym s))))

  pub read : (place unique : ℕ) (request : Request) → read_refusal w.kernel place ≡ None
      → IsPendingRequest w.kernel place request → unique ≡ request.unique
      → kernel ≡ record w.kernel { queues = after_read_pending w.kernel.queues place }
      → server ≡ w.server → requests ≡ w.requests ++ request ∷ [] → replies ≡ w.replies → results ≡ w.results → Within
      → Made (event.read_pending place) (event.is_read unique)
  read place unique request judged pending is k s a b c within =
      let after = worlds.world_after_read_pending w place request.unique request.body in
      subst (λ (u : ℕ). Made (event.read_pending place) (event.is_read u)) (sym is)
      (made_by (event.read_pending place) (event.is_read request.unique) after
      (is_made after kernel server requests replies results k s a b c)
      (reads w place request judged pending (within after (sym k) (sym s))))

  pub forgets_read : (n unique : ℕ) (request : Request) → read_forgets_refusal w.kernel n ≡ None
      → IsForgetFrame w.kernel n request → unique ≡ request.unique
      → kernel ≡ record w.kernel { queues = after_read_forgets w.kernel.queues n } → server ≡ w.server
      → requests ≡ w.requests ++ request ∷ [] → replies ≡ w.replies → results ≡ w.results → Within
      → Made (event.read_forgets n) (event.is_read unique)
  forgets_read n unique request judged frame is k s a b c within =
      let forgets = frame.forgets in
      let number : request.unique ≡ w.kernel.queues.next = ap (λ (r : Request). r.unique) frame.is in
      let first : kernel_specs.forgets_read w.kernel n ≡ Some (w.kernel.queues.next, forgets) =
      frame.first ∙ ap (λ (u : ℕ). Some (u, forgets)) number in
      let after = worlds.world_after_read_forgets w n forgets in
      let sent : requests ≡ after.requests = a ∙ ap (λ (r : Request). w.requests ++ r ∷ []) frame.is in
      subst (λ (u : ℕ). Made (event.read_forgets n) (event.is_read u)) (sym (is ∙ number))
      (made_by (event.read_forgets n) (event.is_read w.kernel.queues.next) after
      (is_made after kernel server requests replies results k s sent b c)
      (reads_forgets w n forgets judged first (within after (sym k) (sym s))))

  pub took : {A : Type 0} (place : ℕ) (request : Request) (bytes : List ℕ) (t : Taken A)
      → slice_get w.requests place ≡ Some request → IsRequestFrame bytes request → TakesFrame w.server bytes t server
      → kernel ≡ w.kernel
      → requests ≡ without w.requests place → replies ≡ with_copy w.replies t.sent → results ≡ w.results → Within
      → Made (event.take place) (event.taken t.unique t.word)
  took place request bytes t there frame takes_it k a b c within =
      let same : takes_it.request ≡ request =
      sym (one_request bytes takes_it.request takes_it.says) ∙ one_request bytes request
      (frame_says bytes request frame) in
      let did : TakeResult = taking w.server request.unique request.body in
      let s : server ≡ did.server = takes_it.after ∙ ap
      (λ (r : Request). (taking w.server r.unique r.body).server) same in
      let copy : t.sent ≡ copy_of w.server.next_copy request.unique did.reply =
      takes_it.copy ∙ ap (λ (r : Request). copy_of w.server.next_copy r.unique
      (taking w.server r.unique r.body).reply) same in
      let plain : World = record w {
        requests = without w.requests place;
        server = did.server;
        replies = with_copy w.replies (copy_of w.server.next_copy request.unique did.reply);
      } in
      let after_is : after_take w place request.unique did ≡ plain =
      replying_is (record w {
        requests = without w.requests place;
        server = did.server;
      }) w.server.next_copy request.unique did.reply in
      let is : made ≡ after_take w place request.unique did =
      is_made plain kernel server requests replies results k s a
      (b ∙ ap (λ (o : Option Sent). with_copy w.replies o) copy) c ∙ sym after_is in
      let past = within (after_take w place request.unique did) (ap (λ (x : World). x.kernel) after_is ∙ sym k)
      (ap (λ (x : World). x.server) after_is ∙ sym s) in
      let outcome_is : event.taken request.unique did.word ≡ event.taken t.unique t.word =
      (λ i. event.taken ((ap (λ (r : Request). r.unique) (sym same) ∙ takes_it.under) i)
      ((ap (λ (r : Request). (taking w.server r.unique r.body).word) (sym same) ∙ takes_it.as_word) i)) in
      subst (Made (event.take place)) outcome_is
      (made_by (event.take place) (event.taken request.unique did.word) (after_take w place request.unique did) is
      (takes w place request there past))

  pub performed : (unique errno : ℕ) (copy : Sent) → PerformsHeld w.server unique errno (Some copy) server
      → kernel ≡ w.kernel → requests ≡ w.requests → replies ≡ w.replies ++ copy ∷ [] → results ≡ w.results → Within
      → Made (event.perform unique) (event.performed unique errno false)
  performed unique errno copy does k a b c within =
      let did : PerformResult = served does.choice w.server unique does.held in
      let first = has_copy w.server.aborted w.server.next_copy unique did.wire copy does.copy_is in
      let serving = first.0 in
      let sent : Sent = record { number = w.server.next_copy; unique = unique; wire = did.wire } in
      let plain : World = record w { server = did.server; replies = w.replies ++ sent ∷ [] } in
      let after_is : after_perform w unique did ≡ plain =
      ap (λ (x : Bool). copy_put (record w { server = did.server }) w.server.next_copy unique
      (cond x None (Some did.wire))) serving in
      let is : made ≡ after_perform w unique did =
      is_made plain kernel server requests replies results k does.server_is a
      (b ∙ ap (λ (x : Sent). w.replies ++ x ∷ []) first.1) c ∙ sym after_is in
      let past = within (after_perform w unique did) (ap (λ (x : World). x.kernel) after_is ∙ sym k)
      (ap (λ (x : World). x.server) after_is ∙ sym does.server_is) in
      let outcome_is : event.performed unique (errno_of did.wire) w.server.aborted
      ≡ event.performed unique errno false = (λ i. event.performed unique (sym does.errno_is i) (serving i)) in
      let may = subst (MayChooseFor does.choice w) (sym does.there) does.may in
      subst (Made (event.perform unique)) outcome_is
      (made_by (event.perform unique) (event.performed unique (errno_of did.wire) w.server.aborted)
      (after_perform w unique did) is
      (performs does.choice w unique does.held does.there does.counts may did refl past))

  -- The same after an abort, where no copy is sent.
  pub lost : (unique errno : ℕ) → PerformsHeld w.server unique errno None server → kernel ≡ w.kernel
      → requests ≡ w.requests → replies ≡ w.replies → results ≡ w.results → Within
      → Made (event.perform unique) (event.performed unique errno true)
  lost unique errno does k a b c within =
      let did : PerformResult = served does.choice w.server unique does.held in
      let gone = has_no_copy w.server.aborted w.server.next_copy unique did.wire does.copy_is in
      let plain : World = record w { server = did.server } in
      let after_is : after_perform w unique did ≡ plain =
      ap (λ (x : Bool). copy_put (record w { server = did.server }) w.server.next_copy unique
      (cond x None (Some did.wire))) gone in
      let is : made ≡ after_perform w unique did =
      is_made plain kernel server requests replies results k does.server_is a b c ∙ sym after_is in
      let past = within (after_perform w unique did) (ap (λ (x : World). x.kernel) after_is ∙ sym k)
      (ap (λ (x : World). x.server) after_is ∙ sym does.server_is) in
      let outcome_is : event.performed unique (errno_of did.wire) w.server.aborted
      ≡ event.performed unique errno true = (λ i. event.performed unique (sym does.errno_is i) (gone i)) in
      let may = subst (MayChooseFor does.choice w) (sym does.there) does.may in
      subst (Made (event.perform unique)) outcome_is
      (made_by (event.perform unique) (event.performed unique (errno_of did.wire) w.server.aborted)
      (after_perform w unique did) is
      (performs does.choice w unique does.held does.there does.counts may did refl past))

  pub copied : (unique : ℕ) (copy : Sent) → SendsAgain w.server unique copy server → kernel ≡ w.kernel
      → requests ≡ w.requests → replies ≡ w.replies ++ copy ∷ [] → results ≡ w.results → Within
      → Made (event.again unique) (event.sent_again unique)
  copied unique copy does k a b c within =
      let after = after_again w unique does.kept in
      made_by (event.again unique) (event.sent_again unique) after
      (is_made after kernel server requests replies results k does.after a
      (b ∙ ap (λ (x : Sent). w.replies ++ x ∷ []) does.copy_is) c)
      (sends_again w unique does.kept does.there does.current does.counts (within after (sym k) (sym does.after)))

  pub wrote : (place : ℕ) (sent : Sent) (result : WriteResult) → slice_get w.replies place ≡ Some sent
      → reply_written w.kernel sent.unique sent.wire ≡ (result, kernel) → server ≡ w.server → requests ≡ w.requests
      → replies ≡ without w.replies place
      → results ≡ w.results ++ record { number = sent.number; unique = sent.unique; result = result } ∷ [] → Within
      → Made (event.write place) (event.written sent.unique result)
  wrote place sent result there is s a b c within =
      let after = after_write w place sent (result, kernel) in
      made_by (event.write place) (event.written sent.unique result) after
      (is_made after kernel server requests replies results refl s a b c)
      (writes w place sent (result, kernel) there is (within after refl (sym s)))

  pub settled : (place : ℕ) (result : ReplyResult) → slice_get w.results place ≡ Some result
      → Settles w.server result.number result.result server → kernel ≡ w.kernel → requests ≡ w.requests → replies ≡ w.replies
      → results ≡ without w.results place
      → Made (event.settle place) (event.settled result.unique result.result)
  settled place result there settles_it k a b c =
      let after = after_settle w place result (Some settles_it.copy) in
      made_by (event.settle place) (event.settled result.unique result.result) after
      (is_made after kernel server requests replies results k settles_it.after a b c)
      (settles w place result settles_it.copy there settles_it.there)

  pub ticked : (ms now : ℕ) → tick_refusal w.kernel ms ≡ None → now ≡ w.kernel.vfs.clock + ms
      → kernel ≡ record w.kernel { vfs = later w.kernel.vfs ms } → server ≡ w.server → requests ≡ w.requests
      → replies ≡ w.replies → results ≡ w.results → Made (event.tick ms) (event.now now)
  ticked ms now judged is k s a b c =
      let after = after_tick w ms in
      subst (λ (t : ℕ). Made (event.tick ms) (event.now t)) (sym is)
      (made_by (event.tick ms) (event.now (w.kernel.vfs.clock + ms)) after
      (is_made after kernel server requests replies results k s a b c) (ticks w ms judged))

  pub dropped : (directory : ℕ) (name : List ℕ) → drop_refusal w.kernel directory name ≡ None
      → kernel ≡ record w.kernel {
        vfs = record w.kernel.vfs {
          names =
              remove_name w.kernel.vfs.names (directory, name);
        };
      } → server ≡ w.server → requests ≡ w.requests
      → replies ≡ w.replies
      → results ≡ w.results → Made (event.drop_name directory name) event.dropped
  dropped directory name judged k s a b c =
      let after = after_drop w directory name in
      made_by (event.drop_name directory name) event.dropped after
      (is_made after kernel server requests replies results k s a b c) (drops w directory name judged)

  pub evicted_so : (node count : ℕ) (counted : Counted) → evict_refusal w.kernel node ≡ None
      → get w.kernel.nodes node ≡ Some counted → count ≡ counted.count → kernel ≡ evicted w.kernel node counted
      → server ≡ w.server → requests ≡ w.requests → replies ≡ w.replies → results ≡ w.results
      → Made (event.evict node) (event.evicted node count)
  evicted_so node count counted judged there is k s a b c =
      let after = after_evict w node counted in
      subst (λ (n : ℕ). Made (event.evict node) (event.evicted node n)) (sym is)
      (made_by (event.evict node) (event.evicted node counted.count) after
      (is_made after kernel server requests replies results k s a b c) (evicts w node counted judged there))

  pub signalled : (call : ℕ) (fatal : Bool) (effect : IntrEffect) → signal_refusal w.kernel call fatal ≡ None
      → IsSignalled w.kernel call fatal effect kernel → server ≡ w.server → requests ≡ w.requests → replies ≡ w.replies
      → results ≡ w.results → Within
      → Made (event.intr call fatal) (event.interrupted call effect)
  signalled call fatal effect judged is s a b c within =
      let after : World = record w { kernel = kernel } in
      made_by (event.intr call fatal) (event.interrupted call effect) after
      (is_made after kernel server requests replies results refl s a b c)
      (signals w call fatal effect kernel judged is (within after refl (sym s)))

  pub interrupt_read : (unique : ℕ) (request : Request) → read_interrupt_refusal w.kernel ≡ None
      → IsInterruptFrame w.kernel request → unique ≡ request.unique
      → kernel ≡ record w.kernel { queues = queues.after_read_interrupt w.kernel.queues } → server ≡ w.server
      → requests ≡ w.requests ++ request ∷ [] → replies ≡ w.replies → results ≡ w.results → Within
      → Made event.read_interrupt (event.is_read unique)
  interrupt_read unique request judged frame is k s a b c within =
      let original = frame.original in
      let number : request.unique ≡ interrupt_number original = ap (λ (r : Request). r.unique) frame.is in
      let after = worlds.world_after_read_interrupt w original in
      let sent : requests ≡ after.requests = a ∙ ap (λ (r : Request). w.requests ++ r ∷ []) frame.is in
      subst (λ (u : ℕ). Made event.read_interrupt (event.is_read u)) (sym (is ∙ number))
      (made_by event.read_interrupt (event.is_read (interrupt_number original)) after
      (is_made after kernel server requests replies results k s sent b c)
      (reads_interrupt w original frame.rest judged frame.first (within after (sym k) (sym s))))

  pub picked : (pick : Pick) (unique : ℕ) (request : Request) → pick_refusal w.kernel pick ≡ None
      → IsPicked w.kernel pick request → unique ≡ request.unique
      → kernel ≡ record w.kernel { queues = after_pick w.kernel.queues pick } → server ≡ w.server
      → requests ≡ w.requests ++ request ∷ [] → replies ≡ w.replies → results ≡ w.results → Within
      → Made (read_of pick) (event.is_read unique)
  picked pick.Interrupt unique request = interrupt_read unique request
  picked (pick.Forgets count) unique request = forgets_read count unique request
  picked (pick.Pending place) unique request = read place unique request

  pub aborted : abort_refusal w.kernel ≡ None → kernel ≡ kernel_aborted w.kernel → server ≡ connection_lost w.server
      → requests ≡ [] → replies ≡ [] → results ≡ [] → Made event.abort event.aborted
  aborted judged k s a b c =
      let after = after_abort w in
      made_by event.abort event.aborted after (is_made after kernel server requests replies results k s a b c)
      (aborts w judged)
