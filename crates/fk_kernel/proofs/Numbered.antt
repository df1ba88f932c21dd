-- A call that begins allocates one number, also where it closes a file.
use Rattle.std.proofs.Common.{◌≡◌, ℕ, ◌+◌, ◌<◌, ◌≤◌, ◌^◌, Bool, true, false, cond, Option, Some, None, length, refl, ◌∙◌, arith}
use Rattle.std.specs.Prelude.{◌||◌, nat_lt, nat_le, not}
use Rattle.std.proofs.lemmas.Bool.Decides.{nat_tests}
use Rattle.fuse_spec.specs.Calls.Begins.{Beginning, faulty, sets_out, uses, closes, beginning}
use Rattle.fuse_spec.specs.Calls.Calls.{Call, for_minor}
use Rattle.fuse_spec.specs.Kernel.Kernel.{Kernel, is_aborted, asking_for, advanced, released, closing_of, closed_by, call_begun}
use Rattle.fuse_spec.specs.Values.Maps.{get, put}
use Rattle.fuse_spec.specs.Files.Operations.{Operation}
use Rattle.fuse_spec.specs.Kernel.Refusals.{is_ready, unless, refusal_in, accepted, or_no_memory}
use Rattle.fuse_spec.specs.Calls.Vfs.{Vfs, Advance, after_beginning, begun, numbered}
use Rattle.fuse_spec.specs.declared.Opened.{Opened}
use Rattle.fuse_spec.specs.declared.Refusal.TheVariants.{NotReady, Full, Exhausted}
use Rattle.fk_syscalls.specs.Values.{call_of}
use Rattle.fk_syscalls.specs.declared.call.Call.{Call as Made}
use Rattle.fk_kernel.specs.Refused.{begin_refusal}
use Rattle.fk_kernel.proofs.Walking.{walk_numbers}

begun_numbers : (aborted : Bool) (c : Vfs Opened) (call : Call) → (begun aborted c call).vfs.next_call ≡ c.next_call + 1
begun_numbers true c call = refl
begun_numbers false c call = by (beginning c.opens call)
  where
    by : (b : Beginning ℕ Opened) → (after_beginning (numbered c) c.next_call b).vfs.next_call ≡ c.next_call + 1
    by (faulty errno) = refl
    by (sets_out words plan) = walk_numbers (numbered c) c.next_call c.root words plan
    by (uses open_call operation) = refl
    by (closes open_call opened) = refl

asked_numbers : (k : Kernel) (call : ℕ) (operation : Option (Operation ℕ Opened))
    → (asking_for k call operation).vfs.next_call ≡ k.vfs.next_call
asked_numbers k call None = refl
asked_numbers k call (Some operation) = refl

released_numbers : (k : Kernel) (open_call : ℕ) (file : Option Opened)
    → (released k open_call file).vfs.next_call ≡ k.vfs.next_call
released_numbers k open_call None = refl
released_numbers k open_call (Some file) = refl

closed_numbers : (k : Kernel) (file : Option (ℕ × Opened)) → (closing_of k file).vfs.next_call ≡ k.vfs.next_call
closed_numbers k None = refl
closed_numbers k (Some file) = released_numbers (record k { closing = put k.closing file.0 file.1 }) file.0
    (get (put k.closing file.0 file.1) file.0)

call_numbers : (k : Kernel) (call : Call) → (call_begun k call).vfs.next_call ≡ k.vfs.next_call + 1
call_numbers k call =
    let next : Advance Opened = begun (is_aborted k.phase) k.vfs call in
    closed_numbers (advanced k k.vfs.next_call next) (cond (is_aborted k.phase) None (closed_by k.vfs.opens call))
    ∙ asked_numbers (record k { vfs = next.vfs }) k.vfs.next_call next.operation
    ∙ begun_numbers (is_aborted k.phase) k.vfs call

past : (unique call now : ℕ) → call ≡ now + 1 → 2 ^ 62 ≤ now → (nat_lt (2 ^ 62) unique || nat_lt (2 ^ 62) call) ≡ true
past unique call now next last = grind (arith, nat_tests)

by_tests : (ready full past : Bool) → ready ≡ true → full ≡ false → past ≡ true
    → Exhausted ≡ or_no_memory (refusal_in (unless (not ready) NotReady
    (unless full Full (unless past Exhausted accepted))))
by_tests ready full past r f p = rw (r, f, p) refl

-- no call begins where no number is left for it
pub exhausted_refused : (k : Kernel) (made : Made) → is_ready k.phase ≡ true → length k.vfs.calls < 64
    → 2 ^ 62 ≤ k.vfs.next_call → Exhausted ≡ or_no_memory (begin_refusal k (call_of made))
exhausted_refused k made ready few last =
    let after = call_begun k (for_minor k.lists_files (call_of made)) in
    let full : nat_le 64 (length k.vfs.calls) ≡ false = grind (arith, nat_tests, few) in
    by_tests _ _ _ ready full (past after.queues.next after.vfs.next_call k.vfs.next_call
    (call_numbers k (for_minor k.lists_files (call_of made))) last)
