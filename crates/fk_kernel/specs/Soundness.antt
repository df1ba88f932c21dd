-- What is true of the kernel after each event.
use Rattle.std.specs.Prelude.{◌≡◌, ◌≢◌, ◌≤◌, ◌<◌, ℕ, false, [], None, count_by, if◌then◌else◌, is_some, length, T}
use Rattle.std.specs.Ordering.{nat_cmp}
use Rattle.std.specs.FinMap.{is_sorted}
use Rattle.fuse_spec.specs.Values.Maps.{Map, get}
use Rattle.fuse_spec.specs.Values.Numbers.{clock_end, counter_end}
use Rattle.fuse_spec.specs.Kernel.Queues.{QueueState}
use Rattle.fuse_spec.specs.Calls.Vfs.{CallState}
use Rattle.fuse_spec.specs.declared.Counted.{Counted}
use Rattle.fuse_spec.specs.declared.Opened.{Opened}
use Rattle.fuse_spec.specs.declared.Phase.{Phase}
use Rattle.fuse_spec.specs.Kernel.Kernel.{is_live, is_for}
use Rattle.fuse_spec.specs.declared.Purpose.{Purpose}
use Rattle.fk_nodes.specs.LookedUp.{HaveCountsInRange}
use Rattle.fk_queues.specs.Room.{Room}

-- No call of the next number or a later one is there, none is both unanswered and answered, and there is room to answer
-- all.
pub record AreSoundCalls {V W : Type 0} (calls : Map V) (answers : Map W) (free coming : ℕ) : Type 0 where
  pub calls_below : (n : ℕ) → coming ≤ n → get calls n ≡ None
  pub answers_below : (n : ℕ) → coming ≤ n → get answers n ≡ None
  pub apart : (n : ℕ) → get calls n ≢ None → get answers n ≡ None
  pub room : length calls ≤ free
  pub next : coming ≤ counter_end

-- A file is opened by a call that is answered, and is closed once; so no number of one is that of a call that is
-- unanswered or to come.
pub record AreFiles {V : Type 0} (calls : Map V) (opens closing : Map Opened) (coming : ℕ) : Type 0 where
  pub opens_below : (n : ℕ) → coming ≤ n → get opens n ≡ None
  pub closing_below : (n : ℕ) → coming ≤ n → get closing n ≡ None
  pub opens_apart : (n : ℕ) → get calls n ≢ None → get opens n ≡ None
  pub closing_apart : (n : ℕ) → get calls n ≢ None → get closing n ≡ None
  pub closed_once : (n : ℕ) → get opens n ≢ None → get closing n ≡ None

-- No node's count has reached the end of counters, and there is room to queue a forget of each counted node.
pub record CanForgetAll (nodes : Map Counted) (forgets : ℕ) : Type 0 where
  pub below : HaveCountsInRange nodes
  pub room : length nodes ≤ forgets

-- how many requests serve a call, read or not
abbrev pub requests_for : ℕ → QueueState Purpose → ℕ
requests_for call queues = count_by (λ e. is_for call e.1.kept) queues.requests

-- Each request of a call is that of an unanswered call, which has one at most.
pub record ServesCalls {V : Type 0} (calls : Map V) (queues : QueueState Purpose) : Type 0 where
  pub one : (call : ℕ) → requests_for call queues ≤ (if is_some (get calls call) then 1 else 0)

-- All that is true of the kernel.
pub record IsSoundKernel {W : Type 0} (phase : Phase) (calls : Map (CallState Opened)) (answers : Map W)
    (free coming : ℕ) (opens closing : Map Opened) (queues : QueueState Purpose) (space : Room) (known : Map Counted)
    (clock : ℕ) : Type 0 where
  pub numbers : AreSoundCalls calls answers free coming
  -- where no mount is live there is no call
  pub idle : is_live phase ≡ false → calls ≡ []
  pub sorted : T (is_sorted nat_cmp calls)
  pub files : AreFiles calls opens closing coming
  -- there is room to queue the RELEASE of each closed file
  pub releases : length closing ≤ space.requests
  pub nodes : CanForgetAll known space.forgets
  pub served : ServesCalls calls queues
  pub clock_low : clock < clock_end
