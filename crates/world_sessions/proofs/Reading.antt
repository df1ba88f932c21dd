-- What is read from the kernel of a world is read from a driven kernel, and sent.
use Rattle.std.proofs.Common.{◌≡◌, ℕ, ◌+◌, Bool, true, false, not, ◌&&◌, cond, List, [], ◌∷◌, ◌++◌, length, take, Option, Some, None, nat_eq, append-nil, refl, ap, subst, ◌∙◌, arith}
use Rattle.std.specs.Prelude.{nat_lt}
use Rattle.std.proofs.lemmas.Bool.{false≢true}
use Rattle.fuse_device.specs.Transfers.{Transfer, sent}
use Rattle.fuse_spec.specs.declared.Purpose.{Purpose}
use Rattle.fuse_spec.specs.declared.Refusal.TheVariants.{Exhausted, InterruptFirst, NotReady}
use Rattle.fuse_spec.specs.declared.WriteResult.{WriteResult}
use Rattle.fuse_spec.specs.Kernel.Kernel.{Kernel, body_of, forgets_read, forgets_singly, is_live}
use Rattle.fuse_spec.specs.Kernel.Messages.{Forget, Request, RequestBody}
use Rattle.fuse_spec.specs.Kernel.QueueCalls.{after_read_forgets, can_read_forgets, pending_at}
use Rattle.fuse_spec.specs.Kernel.Refusals.{accepted, first_found, found, is_kernel_past_end, refusal_in, unless}
use Rattle.fk_kernel.specs.Picks.{IsPicked, after_pick, pick_refusal}
use Rattle.fk_kernel.specs.declared.read.Pick.{Pick}
use Rattle.fk_kernel.specs.declared.read.Pick.TheVariants.{Forgets, Interrupt, Pending}
use Rattle.fk_drive.specs.Driving.{Driven, IsSentFrame, first_driven, idle, picked, reads, sends, with_result}
use Rattle.fk_drive_frames.specs.OwnRequests.{first_opendir_unique}
use Rattle.fk_drive.specs.Driving.{DriveStep, Drives, next}
use Rattle.fk_drive_theorem.specs.TakenOnce.{mounts_at, mounts_in}
use Rattle.driven_sessions.specs.Counted.{IsPlainRun, IsPlainStep}

-- A driven kernel between two events of a world.
abbrev pub driven_by : Kernel → Driven
driven_by k = record { kernel = k; waiting = []; next = first_opendir_unique; asks = false; directories = []; turn = idle }

-- It is so driven, mounts so often, and all that goes over the device is its.
abbrev pub DrivesPlainly : (mounts : ℕ) → Driven → List Transfer → Driven → Type 0
DrivesPlainly mounts old log new = (run : Drives old log new) × (mounts_in run ≡ mounts) × IsPlainRun run

-- A step follows a run.
pub plain_next : (n : ℕ) (a : Driven) (before : List Transfer) (mid : Driven) → DrivesPlainly n a before mid → (log : List Transfer)
    (b : Driven) (step : DriveStep mid log b) → IsPlainStep step → DrivesPlainly (n + mounts_at step) a (before ++ log) b
plain_next n a before mid (run, is, plain) log b step plain_step =
    (next before mid run log b step, ap (λ (m : ℕ). m + mounts_at step) is, (plain_step, plain))

module _ (k : Kernel) (n : ℕ) (before : List Transfer) (run : DrivesPlainly n (first_driven false) before (driven_by k)) where
  pub goes_over : (pick : Pick) → pick_refusal k pick ≡ None → (r : Request) → IsPicked k pick r → (frame : List ℕ)
      → IsSentFrame frame r → (result : WriteResult) → DrivesPlainly (n + 0) (first_driven false) (before ++ sent frame result ∷ [])
      (driven_by (record k { queues = after_pick k.queues pick }))
  goes_over pick may r is frame says result =
      let l : Kernel = record k { queues = after_pick k.queues pick } in
      let mid : Driven = record (driven_by k) { kernel = l; turn = picked r } in
      let read : DrivesPlainly (n + 0) (first_driven false) (before ++ []) mid =
      plain_next n (first_driven false) before (driven_by k) run [] mid (reads refl pick may r is) tt in
      let behind : DrivesPlainly (n + 0 + 0) (first_driven false) ((before ++ []) ++ sent frame result ∷ []) (driven_by l) =
      plain_next (n + 0) (first_driven false) (before ++ []) mid read (sent frame result ∷ []) (driven_by l)
      (sends r refl (λ asks. absurd (false≢true asks)) frame says (sent frame result ∷ []) (with_result result)) tt in
      subst (λ (m : ℕ). DrivesPlainly m (first_driven false) (before ++ sent frame result ∷ []) (driven_by l)) (omega arith)
      (subst (λ (first : List Transfer). DrivesPlainly (n + 0 + 0) (first_driven false) (first ++ sent frame result ∷ []) (driven_by l))
      (append-nil before) behind)

-- ---- nothing refuses it

module _ (k : Kernel) (live : is_live k.phase ≡ true) where
  pub may_interrupt : (original : ℕ) (rest : List ℕ) → k.queues.interrupts ≡ original ∷ rest → pick_refusal k Interrupt ≡ None
  may_interrupt original rest there =
      ap (λ (xs : List ℕ). refusal_in (unless (not (is_live k.phase)) NotReady (first_found xs (λ (u : ℕ). accepted)))) there
      ∙ ap (λ (b : Bool). refusal_in (unless (not b) NotReady accepted)) live

  module _ (free : k.queues.interrupts ≡ []) where
    none_first : (b : Bool) → b ≡ true → (o : List ℕ) → o ≡ [] → (c : Bool) → c ≡ false
        → refusal_in (unless (not b) NotReady (unless (not (nat_eq (length o) 0)) InterruptFirst (unless c Exhausted accepted))) ≡ None
    none_first true is [] free false within = refl
    none_first false is o free c within = absurd (cc is)
    none_first true is (x ∷ o) free c within = absurd (cc free)
    none_first true is [] free true within = absurd (cc within)

    pub may_forget : (n : ℕ) (read : ℕ × List Forget) → forgets_read k n ≡ Some read
        → is_kernel_past_end (record k { queues = after_read_forgets k.queues n }) ≡ false → pick_refusal k (Forgets n) ≡ None
    may_forget n read there within =
        ap (λ (o : Option (ℕ × List Forget)). refusal_in (unless (not (is_live k.phase)) NotReady
        (unless (not (nat_eq (length k.queues.interrupts) 0)) InterruptFirst
        (found o (λ (r : ℕ × List Forget). unless (is_kernel_past_end (record k { queues = after_read_forgets k.queues n })) Exhausted accepted))))) there
        ∙ none_first (is_live k.phase) live k.queues.interrupts free
        (is_kernel_past_end (record k { queues = after_read_forgets k.queues n })) within

    pub may_read : (place unique : ℕ) (kept : Purpose) (body : RequestBody) → pending_at k.queues place ≡ Some (unique, kept)
        → body_of k kept ≡ Some body → pick_refusal k (Pending place) ≡ None
    may_read place unique kept body there asks =
        ap (λ (o : Option (ℕ × Purpose)). refusal_in (unless (not (is_live k.phase)) NotReady
        (unless (not (nat_eq (length k.queues.interrupts) 0)) InterruptFirst
        (found o (λ (r : ℕ × Purpose). found (body_of k r.1) (λ (b : RequestBody). accepted)))))) there
        ∙ ap (λ (o : Option RequestBody). refusal_in (unless (not (is_live k.phase)) NotReady
        (unless (not (nat_eq (length k.queues.interrupts) 0)) InterruptFirst (found o (λ (b : RequestBody). accepted))))) asks
        ∙ none_first (is_live k.phase) live k.queues.interrupts free false refl

  pub forgets_are : (n : ℕ) → can_read_forgets k.queues n ≡ true → (forgets_singly k.minor && nat_lt 1 n) ≡ false
      → forgets_read k n ≡ Some (k.queues.next, take n k.queues.forgets)
  forgets_are n can few = by (forgets_singly k.minor && nat_lt 1 n) (can_read_forgets k.queues n) few can
    where
      by : (a b : Bool) → a ≡ false → b ≡ true → ◌≡◌ {A = Option (ℕ × List Forget)}
          (cond {A = Option (ℕ × List Forget)} a None (cond {A = Option (ℕ × List Forget)} b (Some (k.queues.next, take n k.queues.forgets)) None))
          (Some (k.queues.next, take n k.queues.forgets))
      by false true few can = refl
      by true b few can = absurd (cc few)
      by false false few can = absurd (cc can)
