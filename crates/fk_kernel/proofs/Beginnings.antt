-- Why a call is refused, by whether it asks.
use Rattle.std.proofs.Common.{◌≡◌, ℕ, ◌+◌, ◌<◌, ◌≤◌, ◌^◌, ◌/◌, ◌-◌, Bool, true, false, cond, Option, Some, None, Result, Ok, Err, length, nat_eq, refl, ap, sym, ◌∙◌, arith}
use Rattle.std.specs.Prelude.{◌||◌, nat_lt, nat_le, not, IfErr, OnOk}
use Rattle.std.proofs.lemmas.Bool.Decides.{nat_tests}
use Rattle.fuse_spec.specs.Kernel.Kernel.{Kernel, is_aborted, advanced, closing_of, closed_by, call_begun}
use Rattle.fuse_spec.specs.Kernel.Refusals.{is_ready, unless, refusal_in, accepted, is_kernel_past_end, or_no_memory}
use Rattle.fuse_spec.specs.Kernel.Uniques.{numbers_left_from}
use Rattle.fuse_spec.specs.Calls.Vfs.{Vfs, CallState, Advance, numbered, begun, asking, answered, no_more}
use Rattle.fuse_spec.specs.Calls.Answers.{Answer}
use Rattle.fuse_spec.specs.Kernel.Queues.{QueueState}
use Rattle.fuse_spec.specs.Kernel.QueueCalls.{after_enqueue}
use Rattle.fuse_spec.specs.declared.Purpose.{Purpose}
use Rattle.fuse_spec.specs.declared.Purpose.TheVariants.{Call as CallAsks}
use Rattle.fk_syscalls.specs.Values.{call_of, ClosesNone}
use Rattle.fk_syscalls.specs.declared.call.Call.{Call}
use Rattle.fk_syscalls.specs.declared.call.Call.TheVariants.{Stat, List as Lists, ListPlus, Open, Mkdir, Create, Unlink, Rmdir, Rename, Link, Read, Write, Close}
use Rattle.fk_kernel.proofs.CallStates.{closes_none}
use Rattle.fk_kernel.proofs.Phases.{none_past_end}
use Rattle.fuse_spec.specs.declared.Opened.{Opened}
use Rattle.fuse_spec.specs.declared.Refusal.{Refusal}
use Rattle.fuse_spec.specs.declared.Refusal.TheVariants.{NoMemory, NotReady, Full, Exhausted}
use Rattle.fk_kernel.specs.Refused.{begin_refusal, begun_refusal}

-- one number more is past the end where none is left
pub past_end : (unique call : ℕ) → call < 2 ^ 62
    → (nat_lt (2 ^ 62) (unique + 2) || nat_lt (2 ^ 62) (call + 1)) ≡ nat_eq ((2 ^ 62 - unique) / 2) 0
past_end unique call low = grind (arith, nat_tests)

pub by_tests : (ready full past none : Bool) → ready ≡ true → full ≡ false → past ≡ none
    → or_no_memory (refusal_in (unless (not ready) NotReady (unless full Full (unless past Exhausted accepted))))
    ≡ cond none Exhausted NoMemory
by_tests ready full true none r f p = rw (r, f, sym p) refl
by_tests ready full false none r f p = rw (r, f, sym p) refl

pub unrefused : (ready full past : Bool) → ready ≡ true → full ≡ false → past ≡ false
    → refusal_in (unless (not ready) NotReady (unless full Full (unless past Exhausted accepted))) ≡ None
unrefused ready full past r f p = rw (r, f, p) refl

some_left : (n : ℕ) → 0 < n → nat_eq n 0 ≡ false
some_left n left = grind (arith, nat_tests, left)

no_file : (b : Bool) (k : Kernel) (file : Option (ℕ × Opened)) → file ≡ None → closing_of k (cond b None file) ≡ k
no_file b k (Some file) none =
    let no : ◌≡◌ {A = Option (ℕ × Opened)} (Some file) None = none in
    cc
no_file true k None none = refl
no_file false k None none = refl

abbrev pub IsBegun : Kernel → Call → Type 0
IsBegun k made = call_begun k (call_of made) ≡ advanced k k.vfs.next_call
    (begun (is_aborted k.phase) k.vfs (call_of made))

-- no file is closed but by a close, and none where the mount is aborted
pub plain_begun : (k : Kernel) (made : Call) → ClosesNone made → IsBegun k made
plain_begun k made closes = no_file (is_aborted k.phase)
    (advanced k k.vfs.next_call (begun (is_aborted k.phase) k.vfs (call_of made)))
    (closed_by k.vfs.opens (call_of made)) (closes_none k.vfs.opens made closes)

pub aborted_begun : (k : Kernel) (made : Call) → is_aborted k.phase ≡ true → IsBegun k made
aborted_begun k made aborted = ap (λ (b : Bool). closing_of
    (advanced k k.vfs.next_call (begun (is_aborted k.phase) k.vfs (call_of made)))
    (cond b None (closed_by k.vfs.opens (call_of made)))) aborted

module _ (k : Kernel) (made : Call) (begun_is : IsBegun k made) where
  pub asks_refusal : (state : CallState Opened) → is_ready k.phase ≡ true → length k.vfs.calls < 64
      → k.vfs.next_call < 2 ^ 62 → begun (is_aborted k.phase) k.vfs (call_of made)
      ≡ asking (numbered k.vfs) k.vfs.next_call state
      → or_no_memory (begun_refusal k (call_of made)) ≡ cond
      (nat_eq (numbers_left_from k.queues.next) 0) Exhausted NoMemory
  asks_refusal state ready few low asks =
      let full : nat_le 64 (length k.vfs.calls) ≡ false = grind (arith, nat_tests, few) in
      let past = ap is_kernel_past_end begun_is ∙ ap (λ (a : Advance Opened). is_kernel_past_end
      (advanced k k.vfs.next_call a)) asks ∙ past_end k.queues.next k.vfs.next_call low in
      by_tests _ _ _ _ ready full past

  pub answered_unrefused : (a : Answer) → is_ready k.phase ≡ true → length k.vfs.calls < 64 → k.vfs.next_call < 2 ^ 62
      → k.queues.next ≤ 2 ^ 62
      → begun (is_aborted k.phase) k.vfs (call_of made) ≡ no_more (answered (numbered k.vfs) k.vfs.next_call a)
      → begun_refusal k (call_of made) ≡ None
  answered_unrefused a ready few low high ends =
      let full : nat_le 64 (length k.vfs.calls) ≡ false = grind (arith, nat_tests, few) in
      let past = ap is_kernel_past_end begun_is ∙ ap (λ (b : Advance Opened). is_kernel_past_end
      (advanced k k.vfs.next_call b)) ends ∙ none_past_end k.queues.next (k.vfs.next_call + 1) high (omega arith) in
      unrefused _ _ _ ready full past

  -- the kernel once the call is answered at once
  pub answered_begun : (a : Answer) (new : Kernel)
      → begun (is_aborted k.phase) k.vfs (call_of made) ≡ no_more (answered (numbered k.vfs) k.vfs.next_call a)
      → new.vfs ≡ answered (numbered k.vfs) k.vfs.next_call a → new ≡ record k { vfs = new.vfs }
      → new ≡ call_begun k (call_of made)
  answered_begun a new ends vfs same =
      same ∙ ap (λ (v : Vfs Opened). record k { vfs = v }) vfs
      ∙ sym (begun_is ∙ ap (λ (b : Advance Opened). advanced k k.vfs.next_call b) ends)

  -- the kernel once the call asks
  pub asked_begun : (state : CallState Opened) (new : Kernel)
      → begun (is_aborted k.phase) k.vfs (call_of made) ≡ asking (numbered k.vfs) k.vfs.next_call state
      → new.vfs ≡ (asking (numbered k.vfs) k.vfs.next_call state).vfs
      → new.queues ≡ after_enqueue k.queues (CallAsks k.vfs.next_call)
      → new ≡ record k { vfs = new.vfs; queues = new.queues } → new ≡ call_begun k (call_of made)
  asked_begun state new asks vfs queues same =
      same ∙ ap (λ (v : Vfs Opened). record k { vfs = v; queues = new.queues }) vfs
      ∙ ap (λ (q : QueueState Purpose). record k {
        vfs = (asking (numbered k.vfs) k.vfs.next_call state).vfs;
        queues = q;
      }) queues
      ∙ sym (begun_is ∙ ap (λ (b : Advance Opened). advanced k k.vfs.next_call b) asks)

  pub asks_unrefused : (state : CallState Opened) → is_ready k.phase ≡ true → length k.vfs.calls < 64
      → k.vfs.next_call < 2 ^ 62
      → begun (is_aborted k.phase) k.vfs (call_of made) ≡ asking (numbered k.vfs) k.vfs.next_call state
      → 0 < numbers_left_from k.queues.next → begun_refusal k (call_of made) ≡ None
  asks_unrefused state ready few low asks left =
      let full : nat_le 64 (length k.vfs.calls) ≡ false = grind (arith, nat_tests, few) in
      let past = ap is_kernel_past_end begun_is ∙ ap (λ (a : Advance Opened). is_kernel_past_end
      (advanced k k.vfs.next_call a)) asks ∙ past_end k.queues.next k.vfs.next_call low
      ∙ some_left (numbers_left_from k.queues.next) left in
      unrefused _ _ _ ready full past

-- before it is known what it asks
module _ (k : Kernel) (made : Call) where
  pub unready_refused : is_ready k.phase ≡ false → NotReady ≡ or_no_memory (begin_refusal k (call_of made))
  unready_refused unready = rw unready refl

  pub full_refused : is_ready k.phase ≡ true → 64 ≤ length k.vfs.calls
      → Full ≡ or_no_memory (begin_refusal k (call_of made))
  full_refused ready many =
      let full : nat_le 64 (length k.vfs.calls) ≡ true = grind (arith, nat_tests, many) in
      rw (ready, full) refl

pub if_ok : {T : Type 0} (r : Result T Refusal) {X : Type 0} → X → OnOk r X
if_ok (Ok t) x = x
if_ok (Err e) x = tt

pub if_both_ok : {T : Type 0} (r : Result T Refusal) {X Y Z : Type 0} → (X → Y → Z) → OnOk r X → OnOk r Y → OnOk r Z
if_both_ok (Ok t) so x y = so x y
if_both_ok (Err e) so x y = tt

pub if_three_ok : {T : Type 0} (r : Result T Refusal) {X Y Z W : Type 0} → (X → Y → Z → W) → OnOk r X → OnOk r Y
    → OnOk r Z → OnOk r W
if_three_ok (Ok t) so x y z = so x y z
if_three_ok (Err e) so x y z = tt

-- what is so where another thing is so
pub if_ok_so : {T : Type 0} (r : Result T Refusal) {X Y : Type 0} → (X → Y) → OnOk r X → OnOk r Y
if_ok_so (Ok t) so x = so x
if_ok_so (Err e) so x = tt

pub refused_alike : {T : Type 0} (r : Result T Refusal) {a b : Refusal} → a ≡ b → IfErr r (λ refusal. refusal ≡ b)
    → IfErr r (λ refusal. refusal ≡ a)
refused_alike (Ok t) same is = tt
refused_alike (Err e) same is = is ∙ sym same

-- a call that is no close
pub no_close : (made : Call) → ((open_call : ℕ) → made ≡ Close open_call → ⊥) → ClosesNone made
no_close (Close open_call) other = other open_call refl
no_close (Stat path) other = tt
no_close (Lists path after) other = tt
no_close (ListPlus path after) other = tt
no_close (Open path) other = tt
no_close (Mkdir path) other = tt
no_close (Create path) other = tt
no_close (Unlink path) other = tt
no_close (Rmdir path) other = tt
no_close (Rename old new) other = tt
no_close (Link old new) other = tt
no_close (Read open_call offset size) other = tt
no_close (Write open_call offset bytes) other = tt
