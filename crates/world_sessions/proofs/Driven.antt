-- A run of the world drives its kernel.
use Rattle.std.proofs.Common.{◌≡◌, ℕ, ◌+◌, false, List, [], ◌∷◌, ◌++◌, take, Option, Some, None, append-nil, refl, ap, sym, subst, ◌∙◌, arith}
use Rattle.fuse_device.specs.Transfers.{Transfer}
use Rattle.fuse_spec.specs.Kernel.Kernel.{Kernel, call_put, call_signalled, evicted, kernel_aborted, kernel_mounted}
use Rattle.fuse_spec.specs.Kernel.Messages.{Request}
use Rattle.fuse_spec.specs.Kernel.Refusals.{is_kernel_past_end}
use Rattle.fuse_spec.specs.Kernel.Uniques.{interrupt_number}
use Rattle.fuse_spec.specs.Kernel.Messages.{interrupt}
use Rattle.fuse_spec.specs.Server.Taking.{taking}
use Rattle.fuse_spec.specs.World.Events.{Event, Outcome}
use Rattle.fuse_spec.specs.World.Steps.{is_past}
use Rattle.fuse_spec.specs.World.Worlds.{Sent, World, forget_body}
use Rattle.fuse_theorem.proofs.RefusalCases.Happened.{Happened, by_mount, by_call, by_read_interrupt, by_read_forgets, by_read_pending, by_take, by_perform, by_again, by_write, by_settle, by_signal, by_tick, by_drop, by_evict, by_abort, happened}
use Rattle.fuse_theorem.proofs.Refining.Evicting.{or_false}
use Rattle.fuse_theorem.specs.Numbering.{IsNumberedWhileLive}
use Rattle.fuse_theorem.proofs.Requests.NumbersStay.{first_numbers, numbers_stay, replying_kernel}
use Rattle.fk_kernel.specs.declared.read.Pick.TheVariants.{Forgets, Interrupt, Pending}
use Rattle.fk_drive.specs.Driving.{alone, first_driven, nothing as undriven}
use Rattle.fk_drive.specs.KernelSteps.{ActsAlone, gives_answer}
use Rattle.fk_drive_theorem.specs.TakenOnce.{mounts_alone}
use Rattle.driven_sessions.proofs.Rules.{keeps_in}
use Rattle.world_sessions.specs.WorldTransfers.{AreTransfersAt, IsReplyOf, HasTransfers, answer_collected, collects, mounts_at, nothing, next}
use Rattle.world_sessions.specs.KernelRules.{KernelKeepsRules}
use Rattle.world_sessions.proofs.Alone.{aborts_now, begins_now, drops_now, evicts_now, mounts_now, signals_now, ticks_now}
use Rattle.world_sessions.proofs.Reading.{DrivesPlainly, driven_by, forgets_are, goes_over, may_forget, may_interrupt, may_read, plain_next}
use Rattle.world_sessions.proofs.Served.{call_waits}
use Rattle.world_sessions.proofs.Written.{comes_over}

some_last : (xs : List Request) (a b : Request) → xs ++ a ∷ [] ≡ xs ++ b ∷ [] → a ≡ b
some_last [] a b same = ap first same
  where
    first : List Request → Request
    first [] = a
    first (x ∷ xs) = x
some_last (x ∷ xs) a b same = some_last xs a b (ap rest same)
  where
    rest : List Request → List Request
    rest [] = []
    rest (y ∷ ys) = ys

some_copy : (a b : Sent) → ◌≡◌ {A = Option Sent} (Some a) (Some b) → a ≡ b
some_copy a b same = ap of same
  where
    of : Option Sent → Sent
    of None = a
    of (Some x) = x

module _ (w : World) (numbered : IsNumberedWhileLive w) (count : ℕ) (before : List Transfer)
    (run : DrivesPlainly count (first_driven false) before (driven_by w.kernel)) where
  -- nothing goes over the device
  stays : (k : Kernel) → k ≡ w.kernel → (log : List Transfer) → log ≡ []
      → DrivesPlainly (count + 0) (first_driven false) (before ++ log) (driven_by k)
  stays k same log none =
      subst (λ (l : List Transfer). DrivesPlainly (count + 0) (first_driven false) (before ++ l) (driven_by k)) (sym none)
      (subst (λ (l : List Transfer). DrivesPlainly (count + 0) (first_driven false) l (driven_by k)) (sym (append-nil before))
      (subst (λ (m : ℕ). DrivesPlainly m (first_driven false) before (driven_by k)) (omega arith)
      (subst (λ (l : Kernel). DrivesPlainly count (first_driven false) before (driven_by l)) (sym same) run)))

  acts : (k : Kernel) (does : ActsAlone w.kernel k) (m : ℕ) → mounts_alone does ≡ m → (log : List Transfer) → log ≡ []
      → DrivesPlainly (count + m) (first_driven false) (before ++ log) (driven_by k)
  acts k does m is log none =
      subst (λ (l : List Transfer). DrivesPlainly (count + m) (first_driven false) (before ++ l) (driven_by k)) (sym none)
      (subst (λ (c : ℕ). DrivesPlainly (count + c) (first_driven false) (before ++ []) (driven_by k)) is
      (plain_next count (first_driven false) before (driven_by w.kernel) run [] (driven_by k) (alone k does) tt))

  within_of : (after : World) → is_past after ≡ false → is_kernel_past_end after.kernel ≡ false
  within_of after past = (or_false _ _ (or_false _ _ past).0).0

  by_event : (choice : ℕ → ℕ) (e : Event) (o : Outcome) (after : World) → Happened choice w e o after → (log : List Transfer)
      → AreTransfersAt w e after log → DrivesPlainly (count + mounts_at e) (first_driven false) (before ++ log) (driven_by after.kernel)
  by_event choice e o after (by_mount f m v idle) log none = acts (kernel_mounted w.kernel) (mounts_now w.kernel idle).0 1 (mounts_now w.kernel idle).1 log none
  by_event choice e o after (by_call call ready room past) log none =
      acts (call_put w.kernel call) (begins_now w.kernel call ready room (within_of after past)).0 0 (begins_now w.kernel call ready room (within_of after past)).1 log none
  by_event choice e o after (by_read_interrupt original rest live there past) log (r, is, frame, says, result, same) =
      let mine : record { unique = interrupt_number original; body = interrupt original } ≡ r = some_last w.requests _ r is in
      subst (λ (l : List Transfer). DrivesPlainly (count + 0) (first_driven false) (before ++ l) (driven_by after.kernel)) (sym same)
      (goes_over w.kernel count before run Interrupt (may_interrupt w.kernel live original rest there) r
      (record { original = original; rest = rest; first = there; is = sym mine }) frame says result)
  by_event choice e o after (by_read_forgets n live free can past few) log (r, is, frame, says, result, same) =
      let mine : record { unique = w.kernel.queues.next; body = forget_body (take n w.kernel.queues.forgets) } ≡ r =
      some_last w.requests _ r is in
      let read = forgets_are w.kernel live n can few in
      subst (λ (l : List Transfer). DrivesPlainly (count + 0) (first_driven false) (before ++ l) (driven_by after.kernel)) (sym same)
      (goes_over w.kernel count before run (Forgets n) (may_forget w.kernel live free n _ read (within_of after past)) r
      (record {
        forgets = take n w.kernel.queues.forgets;
        first = read ∙ ap (λ (q : Request). Some (q.unique, take n w.kernel.queues.forgets)) mine;
        is = sym mine;
      }) frame says result)
  by_event choice e o after (by_read_pending k unique kept body live free there asks past) log (r, is, frame, says, result, same) =
      let mine : record { unique = unique; body = body } ≡ r = some_last w.requests _ r is in
      subst (λ (l : List Transfer). DrivesPlainly (count + 0) (first_driven false) (before ++ l) (driven_by after.kernel)) (sym same)
      (goes_over w.kernel count before run (Pending k) (may_read w.kernel live free k unique kept body there asks) r
      (record {
        purpose = kept;
        pending = there ∙ ap (λ (q : Request). Some (q.unique, kept)) mine;
        body = asks ∙ ap (λ (q : Request). Some q.body) mine;
      }) frame says result)
  by_event choice e o after (by_take k r there past) log none =
      stays after.kernel (replying_kernel _ w.server.next_copy r.unique (taking w.server r.unique r.body).reply) log none
  by_event choice e o after (by_perform unique t there past) log none =
      stays after.kernel (replying_kernel _ w.server.next_copy unique _) log none
  by_event choice e o after (by_again unique kept there current past) log none = stays after.kernel refl log none
  by_event choice e o after (by_write k it there past) log (copy, at, bytes, is, same) =
      let one = some_copy copy it (sym at ∙ there) in
      subst (λ (l : List Transfer). DrivesPlainly (count + 0) (first_driven false) (before ++ l) (driven_by after.kernel)) (sym same)
      (comes_over w.kernel bytes it.unique it.wire
      (subst (λ (c : Sent). IsReplyOf w.kernel bytes c.unique c.wire) one is)
      (call_waits w numbered it.unique) (within_of after past) count before run)
  by_event choice e o after (by_settle k result there) log none = stays after.kernel refl log none
  by_event choice e o after (by_signal call fatal state live there past) log none =
      acts (call_signalled w.kernel call state fatal).1 (signals_now w.kernel call fatal state live there (within_of after past)).0 0 (signals_now w.kernel call fatal state live there (within_of after past)).1 log none
  by_event choice e o after (by_tick ms timely) log none = acts after.kernel (ticks_now w.kernel ms timely).0 0 (ticks_now w.kernel ms timely).1 log none
  by_event choice e o after (by_drop directory name bound live there) log none =
      acts after.kernel (drops_now w.kernel directory name bound live there).0 0 (drops_now w.kernel directory name bound live there).1 log none
  by_event choice e o after (by_evict node counted live there unused) log none =
      acts (evicted w.kernel node counted) (evicts_now w.kernel node counted live there unused).0 0 (evicts_now w.kernel node counted live there unused).1 log none
  by_event choice e o after (by_abort live) log none = acts (kernel_aborted w.kernel) (aborts_now w.kernel live).0 0 (aborts_now w.kernel live).1 log none

-- An answer that is collected changes no number.
still_numbered : (w : World) (call : ℕ) → IsNumberedWhileLive w → IsNumberedWhileLive (answer_collected w call)
still_numbered w call is = record {
  live =
      λ live. let numbered = is.live live in record {
        queues = numbered.queues;
        calls_below = numbered.calls_below;
        one_request = numbered.one_request;
        sent_below = numbered.sent_below;
        replies_below = numbered.replies_below;
        held_below = numbered.held_below;
        kept_below = numbered.kept_below;
      };
  idle = is.idle;
}

run_numbered : (n : ℕ) (log : List Transfer) (w : World) → HasTransfers n log w → IsNumberedWhileLive w
run_numbered n log w nothing = first_numbers
run_numbered n log w (next count before mid runs e o after happens last over) =
    numbers_stay happens.0 mid (run_numbered count before mid runs) e o after happens.2
run_numbered n log w (collects count before mid runs call) = still_numbered mid call (run_numbered count before mid runs)

run_driven : (n : ℕ) (log : List Transfer) (w : World) → HasTransfers n log w
    → DrivesPlainly n (first_driven false) log (driven_by w.kernel)
run_driven n log w nothing = (undriven, refl, tt)
run_driven n log w (next count before mid runs e o after happens last over) =
    by_event mid (run_numbered count before mid runs) count before (run_driven count before mid runs) happens.0 e o after
    (happened happens.0 mid o after e happens.2) last over
run_driven n log w (collects count before mid runs call) =
    let k : Kernel = (answer_collected mid call).kernel in
    subst (λ (m : ℕ). DrivesPlainly m (first_driven false) before (driven_by k)) (omega arith)
    (subst (λ (l : List Transfer). DrivesPlainly (count + 0) (first_driven false) l (driven_by k)) (append-nil before)
    (plain_next count (first_driven false) before (driven_by mid.kernel) (run_driven count before mid runs) [] (driven_by k)
    (alone k (gives_answer call)) tt))

pub kernel_rules : KernelKeepsRules
kernel_rules mounts log w runs =
    let (run, count, plain) = run_driven mounts log w runs in record {
      new = driven_by w.kernel;
      same = refl;
      run = run;
      count = count;
      plain = plain;
      idles = refl;
      rules = keeps_in false log (driven_by w.kernel) run;
    }
