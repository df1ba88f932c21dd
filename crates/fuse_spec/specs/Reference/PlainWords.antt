-- The plain world's steps in words of its own, which are the abstract specification's transitions: which it takes with
-- an event and its outcome.
use Rattle.std.specs.Prelude.{◌≡◌, ◌≢◌, ℕ, ◌+◌, ◌-◌, Bool, true, false, List, [], Option, Some, None}
use Rattle.fuse_spec.specs.declared.IntrEffect.{IntrEffect}
use Rattle.fuse_spec.specs.declared.IntrEffect.TheVariants as effect
use Rattle.fuse_spec.specs.declared.Taken.{Taken}
use Rattle.fuse_spec.specs.declared.Taken.TheVariants.{Marked}
use Rattle.fuse_spec.specs.declared.WriteResult.{WriteResult}
use Rattle.fuse_spec.specs.declared.WriteResult.TheVariants.{Accepted, NoEntry, Invalid}
use Rattle.fuse_spec.specs.Values.Maps.{Map, get, put, remove}
use Rattle.fuse_spec.specs.Values.Numbers.{econnaborted, eintr, enotconn}
use Rattle.fuse_spec.specs.Calls.Paths.{Name}
use Rattle.fuse_spec.specs.Files.Operations.{Operation, Reply}
use Rattle.fuse_spec.specs.Files.FileOperations.{tree_after, reply_by}
use Rattle.fuse_spec.specs.Calls.Calls.{Call}
use Rattle.fuse_spec.specs.Calls.Calls as call
use Rattle.fuse_spec.specs.declared.Minor.{Minor}
use Rattle.fuse_spec.specs.declared.Minor.TheVariants.{M15, M31}
use Rattle.fuse_spec.specs.Calls.Answers.{Answer, failed}
use Rattle.fuse_spec.specs.Calls.Vfs.{CallState, Vfs}
use Rattle.fuse_spec.specs.Reference.Plain.{Plain, Ask, waiting, performed, declined}
use Rattle.fuse_spec.specs.World.Events.{Event, Outcome}
use Rattle.fuse_spec.specs.World.Events as event
use Rattle.fuse_spec.specs.Reference.PlainCalls.{is_answered, Begins, ReceivesReply, out_of_force}

-- What a call asks is put under this label, or the call asks nothing.
pub data Asks (p : Plain) (label number : ℕ) (after : Vfs ℕ) : Option (Operation ℕ ℕ) → Plain → Type 0 where
  nothing : Asks p label number after None (record p { vfs = after })
  puts_ask : (operation : Operation ℕ ℕ) → Asks p label number after (Some operation)
      (record p {
        vfs = after;
        asks = put p.asks label
            (record { call = number; operation = operation; stage = waiting; noted = false; marked = false });
      })

-- A call as it is put at a minor: 7.15 lists names alone, without their files. (linux/fuse.h, FUSE_READDIRPLUS)
pub data PutAs : Minor → Call → Call → Type 0 where
  in_full : (x : Call) → PutAs M31 x x
  names_alone : (path : List ℕ) (after : ℕ) → PutAs M15 (call.listplus path after) (call.list path after)
  any_other : (x : Call) → ((path : List ℕ) (after : ℕ) → x ≢ call.listplus path after) → PutAs M15 x x

-- The calls as the next number is allocated.
abbrev pub one_more : Vfs ℕ → Vfs ℕ
one_more c = record c { next_call = c.next_call + 1 }

-- Every unanswered call gets this answer.
pub record AllAnswered (calls : Map (CallState ℕ)) (answers : Map Answer) (a : Answer)
    (after : Map Answer) : Type 0 where
  pub unanswered : (number : ℕ) (state : CallState ℕ) → get calls number ≡ Some state → get after number ≡ Some a
  pub others : (number : ℕ) → get calls number ≡ None → get after number ≡ get answers number

-- Every unanswered call is answered ECONNABORTED, and no name is cached and no file open any longer. (fuse.rst)
pub record Abandons (c : Vfs ℕ) (after : Vfs ℕ) : Type 0 where
  pub answers : AllAnswered c.calls c.answers (failed econnaborted) after.answers
  pub rest : after ≡ record c { calls = []; names = []; opens = []; answers = after.answers }

-- The steps of the plain world. There are no others.
pub data Steps (p : Plain) : Event → Outcome → Plain → Type 0 where
  -- a call begins; once the mount is aborted it is answered ENOTCONN
  begins : (x y : Call) (label : ℕ) (after : Vfs ℕ) (asked : Option (Operation ℕ ℕ)) (q : Plain) → p.aborted ≡ false
      → get p.asks label ≡ None → PutAs p.minor x y → Begins (one_more p.vfs) p.vfs.next_call y after asked
      → Asks p label p.vfs.next_call after asked q
      → Steps p (event.call x) (event.begun p.vfs.next_call) q
  begins_after_abort : (x : Call) → p.aborted ≡ true → Steps p (event.call x) (event.begun p.vfs.next_call)
      (record p { vfs = is_answered (one_more p.vfs) p.vfs.next_call (failed enotconn) })
  -- an ask is performed on the tree as it is now, or declined if an interrupt marked it and a signal to its call was
  -- accepted
  performs : (unique u errno : ℕ) (lost : Bool) (ask : Ask) → get p.asks unique ≡ Some ask → ask.stage ≡ waiting
      → ask.marked ≡ false
      → Steps p (event.perform unique) (event.performed u errno lost)
      (record p {
        tree = tree_after p.tree ask.operation;
        asks = put p.asks unique (record ask { stage = performed (reply_by p.validity p.tree ask.operation) });
      })
  declines : (unique u errno : ℕ) (lost : Bool) (ask : Ask) → get p.asks unique ≡ Some ask → ask.stage ≡ waiting
      → ask.marked ≡ true → ask.noted ≡ true
      → Steps p (event.perform unique) (event.performed u errno lost)
      (record p { asks = put p.asks unique (record ask { stage = declined }) })
  performs_no_ask : (unique u errno : ℕ) (lost : Bool) → get p.asks unique ≡ None
      → Steps p (event.perform unique) (event.performed u errno lost) p
  -- the reply to a performed ask reaches its call, which is unanswered; a declined ask answers it EINTR
  delivers : (k unique label : ℕ) (ask : Ask) (reply : Reply ℕ ℕ) (state : CallState ℕ) (after : Vfs ℕ)
      (asked : Option (Operation ℕ ℕ)) (q : Plain) → get p.asks unique ≡ Some ask → ask.stage ≡ performed reply
      → get p.vfs.calls ask.call ≡ Some state
      → get p.asks label ≡ None → ReceivesReply p.vfs ask.call state reply after asked
      → Asks (record p { asks = remove p.asks unique }) label ask.call after asked q
      → Steps p (event.write k) (event.written unique Accepted) q
  delivers_eintr : (k unique : ℕ) (ask : Ask) (state : CallState ℕ) → get p.asks unique ≡ Some ask
      → ask.stage ≡ declined
      → ask.noted ≡ true → get p.vfs.calls ask.call ≡ Some state
      → Steps p (event.write k) (event.written unique Accepted)
      (record p { asks = remove p.asks unique; vfs = is_answered p.vfs ask.call (failed eintr) })
  delivers_no_ask : (k unique : ℕ) → get p.asks unique ≡ None → Steps p (event.write k) (event.written unique Accepted) p
  no_entry : (k unique : ℕ) → Steps p (event.write k) (event.written unique NoEntry) p
  is_invalid : (k unique : ℕ) → Steps p (event.write k) (event.written unique Invalid) p
  -- a signal reaches an ask of its call, which is unanswered: one that waits goes and the call is answered EINTR, or
  -- the signal is noted
  interrupts : (number label : ℕ) (fatal : Bool) (c : ℕ) (ask : Ask) (state : CallState ℕ)
      → get p.asks label ≡ Some ask → ask.stage ≡ waiting → ask.call ≡ number → get p.vfs.calls number ≡ Some state
      → Steps p (event.intr number fatal) (event.interrupted c effect.Dequeued)
      (record p { asks = remove p.asks label; vfs = is_answered p.vfs ask.call (failed eintr) })
  notes : (number label : ℕ) (fatal : Bool) (c : ℕ) (signal : IntrEffect) (ask : Ask) (state : CallState ℕ)
      → signal ≢ effect.Dequeued → get p.asks label ≡ Some ask → ask.call ≡ number → get p.vfs.calls number ≡ Some state
      → Steps p (event.intr number fatal) (event.interrupted c signal)
      (record p { asks = put p.asks label (record ask { noted = true }) })
  marks : (k unique : ℕ) (ask : Ask) → get p.asks (unique - 1) ≡ Some ask
      → Steps p (event.take k) (event.taken unique Marked)
      (record p { asks = put p.asks (unique - 1) (record ask { marked = true }) })
  marks_no_ask : (k unique : ℕ) → get p.asks (unique - 1) ≡ None → Steps p (event.take k) (event.taken unique Marked) p
  takes_other : (k unique : ℕ) (word : Taken) → word ≢ Marked → Steps p (event.take k) (event.taken unique word) p
  -- time passes, a name is dropped, the mount is aborted, a mount begins
  time_passes : (ms : ℕ) → Steps p (event.tick ms) (event.now (p.vfs.clock + ms))
      (record p { vfs = record p.vfs { clock = p.vfs.clock + ms } })
  drops : (node directory : ℕ) (name : Name) → Steps p (event.drop_name node name) event.dropped
      (record p { vfs = out_of_force p.vfs directory name })
  aborts : (after : Vfs ℕ) → Abandons p.vfs after → Steps p event.abort event.aborted
      (record p { vfs = after; aborted = true })
  mounts : (found_ms missing_ms : ℕ) (minor : Minor) (after : Vfs ℕ) → Abandons p.vfs after
      → Steps p (event.mount found_ms missing_ms minor) event.mounted
      (record p {
        vfs = after;
        asks = [];
        validity = record { found_ms = found_ms; missing_ms = missing_ms };
        minor = minor;
        aborted = false;
      })
  -- the plain world has no queue, no copies of replies and no nodes
  reads_interrupt : (unique : ℕ) → Steps p event.read_interrupt (event.is_read unique) p
  reads_forgets : (n unique : ℕ) → Steps p (event.read_forgets n) (event.is_read unique) p
  reads_pending : (k unique : ℕ) → Steps p (event.read_pending k) (event.is_read unique) p
  sends_again : (unique u : ℕ) → Steps p (event.again unique) (event.sent_again u) p
  settles : (k unique : ℕ) (result : WriteResult) → Steps p (event.settle k) (event.settled unique result) p
  evicts : (node n count : ℕ) → Steps p (event.evict node) (event.evicted n count) p
