-- Why the kernel refuses what is asked of it, and what it finds where it does not. The refusals of each stand in the
-- order in which they are judged; what comes of the event is given what was found. A counter at its end and then out of
-- memory are judged after all of these. (this project's rule)
use Rattle.std.specs.Prelude.{ℕ, ◌+◌, Bool, true, false, ◌&&◌, ◌||◌, cond, not, List, [], ◌∷◌, Option, Some, None, Result, Ok, Err, length, nat_eq, nat_le, nat_lt}
use Rattle.std.specs.List.{list_any}
use Rattle.fuse_spec.specs.Values.Maps.{Map, get, get_name, values}
use Rattle.fuse_spec.specs.Values.Numbers.{max_calls, clock_end, counter_end}
use Rattle.fuse_spec.specs.Calls.Paths.{Name}
use Rattle.fuse_spec.specs.Calls.Vfs.{CallState}
use Rattle.fuse_spec.specs.declared.Phase.{Phase}
use Rattle.fuse_spec.specs.declared.Phase.TheVariants.{Down, Starting, Ready, Aborted}
use Rattle.fuse_spec.specs.declared.Dentry.{Dentry}
use Rattle.fuse_spec.specs.declared.Counted.{Counted}
use Rattle.fuse_spec.specs.declared.Opened.{Opened}
use Rattle.fuse_spec.specs.declared.Purpose.{Purpose}
use Rattle.fuse_spec.specs.declared.Refusal.{Refusal}
use Rattle.fuse_spec.specs.declared.Refusal.TheVariants.{NotReady, Full, Busy, BadTime, NoSuch, InterruptFirst, NoMemory}
use Rattle.fuse_spec.specs.Kernel.QueueCalls.{pending_at}
use Rattle.fuse_spec.specs.Kernel.Messages.{Forget, RequestBody}
use Rattle.fuse_spec.specs.Kernel.Kernel.{Kernel, forgets_read, is_live, body_of, is_pinned, is_bound}

-- A refusal where the condition holds, or what comes else.
abbrev pub unless : {A : Type 0} → Bool → Refusal → Result A Refusal → Result A Refusal
unless condition refusal else = cond condition (Err refusal) else

-- What comes of what is there, or that there is none such.
abbrev pub found : {A B : Type 0} → Option A → (A → Result B Refusal) → Result B Refusal
found None next = Err NoSuch
found (Some it) next = next it

-- What comes of the first of these, or that there is none.
abbrev pub first_found : {A B : Type 0} → List A → (A → Result B Refusal) → Result B Refusal
first_found [] next = Err NoSuch
first_found (first ∷ rest) next = next first

-- The refusal that something came to, if it is one.
abbrev pub refusal_in : {A : Type 0} → Result A Refusal → Option Refusal
refusal_in (Ok it) = None
refusal_in (Err refusal) = Some refusal

-- Nothing refuses it.
abbrev pub accepted : Result (Unit {0}) Refusal
accepted = Ok tt

-- A refusal that was judged, or else out of memory.
abbrev pub or_no_memory : Option Refusal → Refusal
or_no_memory None = NoMemory
or_no_memory (Some refusal) = refusal

-- Whether a counter of the kernel would have given a number past its end.
abbrev pub is_kernel_past_end : Kernel → Bool
is_kernel_past_end k = nat_lt counter_end k.queues.next || nat_lt counter_end k.vfs.next_call

-- Whether a node's lookups have reached the end of counters.
abbrev pub is_counted_out : Map Counted → Bool
is_counted_out nodes = list_any (λ (node : Counted). nat_le counter_end node.count) (values nodes)

-- The one or the other.
abbrev pub is_kernel_past : Kernel → Bool
is_kernel_past k = is_kernel_past_end k || is_counted_out k.nodes

-- Whether calls are accepted: INIT is answered, or the mount is aborted, where they get ENOTCONN. (this project's rule)
abbrev pub is_ready : Phase → Bool
is_ready Down = false
is_ready Starting = false
is_ready Ready = true
is_ready Aborted = true

-- A live mount with unanswered calls or open files can't be mounted anew. (this project's rule)
abbrev pub is_busy : Kernel → Bool
is_busy k = is_live k.phase && not (nat_eq (length k.vfs.calls + length k.vfs.opens) 0)

module _ {A : Type 0} (k : Kernel) where
  -- A refusal where no mount is live.
  abbrev pub when_live : Result A Refusal → Result A Refusal
  when_live else = unless (not (is_live k.phase)) NotReady else

  -- While an interrupt is queued, nothing else may be read. (fuse.rst)
  abbrev pub when_not_interrupted : Result A Refusal → Result A Refusal
  when_not_interrupted else = unless (not (nat_eq (length k.queues.interrupts) 0)) InterruptFirst else

  -- A mount, which would leave calls without an answer and files open for ever.
  abbrev pub to_mount : Result A Refusal → Result A Refusal
  to_mount else = unless (is_busy k) Busy else

  -- A call: before INIT is answered the kernel may ask nothing, and few calls are unanswered at once.
  abbrev pub to_call : Result A Refusal → Result A Refusal
  to_call else = unless (not (is_ready k.phase)) NotReady (unless (nat_le max_calls (length k.vfs.calls)) Full else)

  -- Milliseconds that pass: the clock ends so early that a name's end is still a number of 64 bits.
  abbrev pub to_pass : ℕ → Result A Refusal → Result A Refusal
  to_pass ms else = unless (nat_le clock_end (k.vfs.clock + ms)) BadTime else

  -- A read of the oldest INTERRUPT, which is that of the request under the number found.
  abbrev pub to_read_interrupt : (ℕ → Result A Refusal) → Result A Refusal
  to_read_interrupt next = when_live (first_found k.queues.interrupts next)

  -- A read of this many forgets as one request: its number, and the forgets.
  abbrev pub to_read_forgets : ℕ → (ℕ × List Forget → Result A Refusal) → Result A Refusal
  to_read_forgets n next = when_live (when_not_interrupted (found (forgets_read k n) next))

  -- A read of the pending request at a place: its number, and what it asks. That of a call which isn't unanswered would
  -- have nothing to say, and there is none.
  abbrev pub pending_found : Option (ℕ × Purpose) → (ℕ → RequestBody → Result A Refusal) → Result A Refusal
  pending_found request next = found request (λ (r : ℕ × Purpose). found (body_of k r.1) (next r.0))

  abbrev pub to_read_pending : ℕ → (ℕ → RequestBody → Result A Refusal) → Result A Refusal
  to_read_pending place next = when_live (when_not_interrupted (pending_found (pending_at k.queues place) next))

  -- A signal to the unanswered call of this number.
  abbrev pub to_signal : ℕ → (CallState Opened → Result A Refusal) → Result A Refusal
  to_signal call next = when_live (found (get k.vfs.calls call) next)

  -- A cached name that is to be dropped.
  abbrev pub to_drop : ℕ → Name → (Dentry → Result A Refusal) → Result A Refusal
  to_drop directory name next = when_live (found (get_name k.vfs.names (directory, name)) next)

  -- A counted node that is to be evicted, unless it is in use or a cached name names it.
  abbrev pub unused_found : ℕ → Option Counted → (Counted → Result A Refusal) → Result A Refusal
  unused_found node there next = found there
      (λ (counted : Counted). unless (is_pinned k node || is_bound k node) Busy (next counted))

  abbrev pub to_evict : ℕ → (Counted → Result A Refusal) → Result A Refusal
  to_evict node next = when_live (unused_found node (get k.nodes node) next)
