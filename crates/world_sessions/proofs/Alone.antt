-- What happens to the kernel of a world without its server happens to a driven kernel.
use Rattle.std.proofs.Common.{◌≡◌, ℕ, ◌+◌, Bool, true, false, ◌||◌, not, length, Option, Some, None, refl, ap, ◌∙◌}
use Rattle.std.specs.Prelude.{nat_le}
use Rattle.fuse_spec.specs.declared.Counted.{Counted}
use Rattle.fuse_spec.specs.declared.Dentry.{Dentry}
use Rattle.fuse_spec.specs.declared.Opened.{Opened}
use Rattle.fuse_spec.specs.declared.Refusal.TheVariants.{BadTime, Busy, Exhausted, Full, NotReady}
use Rattle.fuse_spec.specs.Calls.Calls.{Call}
use Rattle.fuse_spec.specs.Calls.Paths.{Name}
use Rattle.fuse_spec.specs.Calls.Vfs.{CallState, later}
use Rattle.fuse_spec.specs.Values.Maps.{get, get_name, remove_name}
use Rattle.fuse_spec.specs.Values.Numbers.{clock_end, max_calls}
use Rattle.fuse_spec.specs.Kernel.Kernel.{Kernel, call_put, call_signalled, evicted, is_bound, is_live, is_pinned, kernel_aborted, kernel_mounted}
use Rattle.fuse_spec.specs.Kernel.Refusals.{accepted, found, is_busy, is_kernel_past_end, is_ready, refusal_in, unless}
use Rattle.fk_drive_theorem.specs.TakenOnce.{mounts_alone}
use Rattle.fk_drive.specs.KernelSteps.{ActsAlone, aborts, begins, drops_name, evicts, is_signalled, mounts, ticks}

-- ---- nothing refuses it

none_of_three : (a b c : Bool) → a ≡ true → b ≡ false → c ≡ false
    → refusal_in (unless (not a) NotReady (unless b Full (unless c Exhausted accepted))) ≡ None
none_of_three true false false is room past = refl
none_of_three false b c is room past = absurd (cc is)
none_of_three true true c is room past = absurd (cc room)
none_of_three true false true is room past = absurd (cc past)

none_of_two : (a c : Bool) → a ≡ true → c ≡ false → refusal_in (unless (not a) NotReady (unless c Exhausted accepted)) ≡ None
none_of_two true false is past = refl
none_of_two false c is past = absurd (cc is)
none_of_two true true is past = absurd (cc past)

none_unused : (a b : Bool) → a ≡ true → b ≡ false → refusal_in (unless (not a) NotReady (unless b Busy accepted)) ≡ None
none_unused true false is free = refl
none_unused false b is free = absurd (cc is)
none_unused true true is free = absurd (cc free)

-- It happens, and is so many mounts.
abbrev pub Mounting : ℕ → Kernel → Kernel → Type 0
Mounting n old new = (acts : ActsAlone old new) × (mounts_alone acts ≡ n)

module _ (k : Kernel) where
  pub mounts_now : is_busy k ≡ false → Mounting 1 k (kernel_mounted k)
  mounts_now idle = (mounts (ap (λ (b : Bool). refusal_in (unless b Busy accepted)) idle), refl)

  pub begins_now : (call : Call) → is_ready k.phase ≡ true → nat_le max_calls (length k.vfs.calls) ≡ false
      → is_kernel_past_end (call_put k call) ≡ false → Mounting 0 k (call_put k call)
  begins_now call ready room within = (
    begins call (none_of_three (is_ready k.phase) (nat_le max_calls (length k.vfs.calls))
        (is_kernel_past_end (call_put k call)) ready room within),
    refl,
  )

  pub signals_now : (call : ℕ) (fatal : Bool) (state : CallState Opened) → is_live k.phase ≡ true
      → get k.vfs.calls call ≡ Some state → is_kernel_past_end (call_signalled k call state fatal).1 ≡ false
      → Mounting 0 k (call_signalled k call state fatal).1
  signals_now call fatal state live there within = (
    is_signalled call fatal (call_signalled k call state fatal).0
        (call_signalled k call state fatal).1
        (ap (λ (o : Option (CallState Opened)). refusal_in (unless (not (is_live k.phase)) NotReady
        (found o (λ (s : CallState Opened). unless (is_kernel_past_end (call_signalled k call s fatal).1) Exhausted accepted)))) there
        ∙ none_of_two (is_live k.phase) (is_kernel_past_end (call_signalled k call state fatal).1) live within)
        (record { state = state; unanswered = there; signalled = refl }),
    refl,
  )

  pub ticks_now : (ms : ℕ) → nat_le clock_end (k.vfs.clock + ms) ≡ false → Mounting 0 k (record k { vfs = later k.vfs ms })
  ticks_now ms timely = (ticks ms (ap (λ (b : Bool). refusal_in (unless b BadTime accepted)) timely), refl)

  pub drops_now : (directory : ℕ) (name : Name) (bound : Dentry) → is_live k.phase ≡ true
      → get_name k.vfs.names (directory, name) ≡ Some bound
      → Mounting 0 k (record k { vfs = record k.vfs { names = remove_name k.vfs.names (directory, name) } })
  drops_now directory name bound live there = (
    drops_name directory name
        (ap (λ (o : Option Dentry). refusal_in (unless (not (is_live k.phase)) NotReady (found o (λ (b : Dentry). accepted)))) there
        ∙ ap (λ (b : Bool). refusal_in (unless (not b) NotReady accepted)) live),
    refl,
  )

  pub evicts_now : (node : ℕ) (counted : Counted) → is_live k.phase ≡ true → get k.nodes node ≡ Some counted
      → (is_pinned k node || is_bound k node) ≡ false → Mounting 0 k (evicted k node counted)
  evicts_now node counted live there unused = (
    evicts node counted
        (ap (λ (o : Option Counted). refusal_in (unless (not (is_live k.phase)) NotReady
        (found o (λ (c : Counted). unless (is_pinned k node || is_bound k node) Busy accepted)))) there
        ∙ none_unused (is_live k.phase) (is_pinned k node || is_bound k node) live unused) there,
    refl,
  )

  pub aborts_now : is_live k.phase ≡ true → Mounting 0 k (kernel_aborted k)
  aborts_now live = (aborts (ap (λ (b : Bool). refusal_in (unless (not b) NotReady accepted)) live), refl)
