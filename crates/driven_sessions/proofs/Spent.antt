-- The numbers that were sent, and those that may be: what holds between the steps of a run, and what a step sends.
use Rattle.std.proofs.Common.{◌≡◌, ◌⊎◌, inl, inr, ℕ, ◌+◌, ◌≤◌, ◌<◌, ◌%◌, ◌^◌, Bool, true, false, List, [], ◌∷◌, Option, Some, None, nat_eq, refl, sym, ◌∙◌, ap, subst, arith}
use Rattle.fuse_device.specs.Transfers.{Transfer, received, sent, unsent, stopped}
use Rattle.fuse_spec.specs.Kernel.Kernel.{Kernel, is_live}
use Rattle.fuse_spec.specs.Kernel.Messages.{Request}
use Rattle.fuse_frames.specs.RequestTies.{SaysRequest}
use Rattle.fuse_sessions.specs.Numbers.{was_read}
use Rattle.fuse_sessions.specs.Sessions.{Session}
use Rattle.fuse_sessions.specs.UnreadRequests.{opcode_in, unique_in}
use Rattle.fk_drive.specs.Driving.{Driven, SendsFrame, Turn, at_end, idle, opened, opening, picked, releasing, unopened, with_result}
use Rattle.driven_sessions.proofs.Frames.{HasOwnHead, frame_interrupt, frame_unique, is_interrupt}
use Rattle.driven_sessions.proofs.Numbers.{Numbered, Passed}
use Rattle.driven_sessions.proofs.Steps.{WhileLive}

-- the request that was read from the kernel and is not sent yet
abbrev pub held : Turn → Option Request
held idle = None
held (picked request) = Some request
held (opening request unique node) = Some request
held (opened request fh) = Some request
held (unopened request error) = Some request
held (releasing unique) = None

-- A number of the kernel, under which no request is read any more.
pub record IsNumber (u : ℕ) (k : Kernel) : Type 0 where
  pub even : u % 2 ≡ 0
  pub low : u < 2 ^ 62
  pub passed : WhileLive (Passed u) k

-- Of a request that is held: an INTERRUPT has an odd number, and another a number of the kernel.
pub record HeldRight (k : Kernel) (r : Request) : Type 0 where
  pub interrupt : is_interrupt r.body ≡ true → r.unique % 2 ≡ 1
  pub request : is_interrupt r.body ≡ false → IsNumber r.unique k

-- Of a number that was sent: it is of OPENDIR or RELEASEDIR, or of the kernel and not held. `mounts` counts mounts.
pub data Spent (mounts : ℕ) (d : Driven) (u : ℕ) : Type 0 where
  own : 2 ^ 62 ≤ u → u < d.next → Spent mounts d u
  of_kernel : 1 ≤ mounts → IsNumber u d.kernel → ((r : Request) → held d.turn ≡ Some r → r.unique ≡ u → ⊥)
      → Spent mounts d u

pub record Keeps (mounts : ℕ) (d : Driven) (s : Session) : Type 0 where
  pub numbered : WhileLive Numbered d.kernel
  pub holds : (r : Request) → held d.turn ≡ Some r → HeldRight d.kernel r
  pub low : 2 ^ 62 ≤ d.next
  pub even : d.next % 2 ≡ 0
  pub spent : (u : ℕ) → was_read s u ≡ true → Spent mounts d u
  pub before : mounts ≡ 0 → (is_live d.kernel.phase ≡ false) × (held d.turn ≡ None)

-- What the kernel keeps as it moves.
pub record KernelKeeps (old new : Kernel) : Type 0 where
  pub numbered : WhileLive Numbered old → WhileLive Numbered new
  pub passed : (u : ℕ) → WhileLive (Passed u) old → WhileLive (Passed u) new
  pub dead : is_live old.phase ≡ false → is_live new.phase ≡ false

pub same_keeps : (k : Kernel) → KernelKeeps k k
same_keeps k = record { numbered = λ w. w; passed = λ u w. w; dead = λ dead. dead }

pub number_keeps : (u : ℕ) (old new : Kernel) → KernelKeeps old new → IsNumber u old → IsNumber u new
number_keeps u old new keeps n = record { even = n.even; low = n.low; passed = keeps.passed u n.passed }

-- ---- what goes over the device

abbrev pub IsNoInterrupt : List ℕ → Type 0
IsNoInterrupt frame = nat_eq (opcode_in frame) 36 ≡ false

-- A frame that may be sent now.
pub record SentRight (frame : List ℕ) (s : Session) : Type 0 where
  pub low : IsNoInterrupt frame → unique_in frame < 2 ^ 63
  pub even : IsNoInterrupt frame → unique_in frame % 2 ≡ 0
  pub fresh : IsNoInterrupt frame → was_read s (unique_in frame) ≡ false

-- The session goes on, and no other number is read in it.
abbrev pub Adds : Session → List ℕ → Session → Type 0
Adds s frame t = (u : ℕ) → was_read t u ≡ true
    → (was_read s u ≡ true) ⊎ (IsNoInterrupt frame × (u ≡ unique_in frame))

pub data IsQuiet : List Transfer → Type 0 where
  nothing : IsQuiet []
  receives : (frame : List ℕ) → IsQuiet (received frame ∷ [])
  cut_off : (frame : List ℕ) → (end : _) → IsQuiet (unsent frame end ∷ [])
  ends : (end : _) → IsQuiet (stopped end ∷ [])

-- What a step makes of it: nothing is sent, or a frame that may be.
pub data Goes (mounts : ℕ) (s : Session) (new : Driven) : List Transfer → Type 0 where
  quiet : (log : List Transfer) → IsQuiet log → Keeps mounts new s → Goes mounts s new log
  sends : (frame : List ℕ) (result : _) → SentRight frame s → ((t : Session) → Adds s frame t → Keeps mounts new t)
      → Goes mounts s new (sent frame result ∷ [])

pub some_request : (a b : Request) → ◌≡◌ {A = Option Request} (Some a) (Some b) → a ≡ b
some_request a b same = ap of same
  where
    of : Option Request → Request
    of None = a
    of (Some x) = x

pub none_held : (o : Option Request) (r : Request) → o ≡ None → o ≡ Some r → ⊥
none_held o r none some = cc (none, some)

at_least : (n : ℕ) → (n ≡ 0 → ⊥) → 1 ≤ n
at_least n some = omega (arith, some)

-- A step that sends nothing, and holds nothing new.
pub keeps_still : (mounts : ℕ) (d new : Driven) (s t : Session) → Keeps mounts d s → KernelKeeps d.kernel new.kernel
    → ((r : Request) → held new.turn ≡ Some r → held d.turn ≡ Some r) → (held d.turn ≡ None → held new.turn ≡ None)
    → new.next ≡ d.next → ((u : ℕ) → was_read t u ≡ true → was_read s u ≡ true) → Keeps mounts new t
keeps_still mounts d new s t keeps kernel holds none next reads = record {
  numbered = kernel.numbered keeps.numbered;
  holds = λ r is. let right = keeps.holds r (holds r is) in record {
    interrupt = right.interrupt;
    request = λ other. number_keeps r.unique d.kernel new.kernel kernel (right.request other);
  };
  low = let low = keeps.low in omega (arith, low, next);
  even = ap (λ (n : ℕ). n % 2) next ∙ keeps.even;
  spent = λ u is. by u (keeps.spent u (reads u is));
  before = λ zero. let was = keeps.before zero in (kernel.dead was.0, none was.1);
}
  where
    by : (u : ℕ) → Spent mounts d u → Spent mounts new u
    by u (own high low) = own high (omega (arith, low, next))
    by u (of_kernel some number free) =
        of_kernel some (number_keeps u d.kernel new.kernel kernel number) (λ r is same. free r (holds r is) same)

-- What is held is sent.
module _ (mounts : ℕ) (d new : Driven) (s : Session) (keeps : Keeps mounts d s) (request : Request)
    (holds : held d.turn ≡ Some request) (kernel : new.kernel ≡ d.kernel) (idles : held new.turn ≡ None)
    (next : new.next ≡ d.next) (frame : List ℕ) (says : SaysRequest frame request) where
  other : IsNoInterrupt frame → is_interrupt request.body ≡ false
  other none = sym (frame_interrupt frame request says) ∙ none

  number : IsNoInterrupt frame → IsNumber request.unique d.kernel
  number none = let right = keeps.holds request holds in right.request (other none)

  held_fresh : (b : Bool) → IsNoInterrupt frame → was_read s (unique_in frame) ≡ b → b ≡ false
  held_fresh false none is = refl
  held_fresh true none is = absurd (by (keeps.spent request.unique (ap (was_read s) (sym unique) ∙ is)))
    where
      unique : unique_in frame ≡ request.unique
      unique = frame_unique frame request says

      by : Spent mounts d request.unique → ⊥
      by (own high low) = let under = (number none).low in absurd (omega (arith, high, under))
      by (of_kernel some n free) = free request holds refl

  held_right : SentRight frame s
  held_right = record {
    low = λ none. let unique = frame_unique frame request says in let low = (number none).low in omega (arith, unique, low);
    even = λ none. ap (λ (n : ℕ). n % 2) (frame_unique frame request says) ∙ (number none).even;
    fresh = λ none. held_fresh (was_read s (unique_in frame)) none refl;
  }

  after : (t : Session) → ((u : ℕ) → was_read t u ≡ true → Spent mounts new u) → Keeps mounts new t
  after t spent = record {
    numbered = subst (WhileLive Numbered) (sym kernel) keeps.numbered;
    holds = λ r is. absurd (none_held (held new.turn) r idles is);
    low = let low = keeps.low in omega (arith, low, next);
    even = ap (λ (n : ℕ). n % 2) next ∙ keeps.even;
    spent = spent;
    before = λ zero. absurd (none_held (held d.turn) request (keeps.before zero).1 holds);
  }

  still : (u : ℕ) → Spent mounts d u → Spent mounts new u
  still u (own high low) = own high (omega (arith, low, next))
  still u (of_kernel some n free) =
      of_kernel some (subst (IsNumber u) (sym kernel) n) (λ r is same. none_held (held new.turn) r idles is)

  pub held_goes : (log : List Transfer) → SendsFrame frame log → Goes mounts s new log
  held_goes log (with_result result) = sends frame result held_right (λ t adds. after t (λ u is. by u (adds u is)))
    where
      by : (u : ℕ) → (was_read s u ≡ true) ⊎ (IsNoInterrupt frame × (u ≡ unique_in frame)) → Spent mounts new u
      by u (inl was) = still u (keeps.spent u was)
      by u (inr (none, same)) =
          let is : u ≡ request.unique = same ∙ frame_unique frame request says in
          of_kernel (at_least mounts (λ zero. none_held (held d.turn) request (keeps.before zero).1 holds))
          (subst (IsNumber u) (sym kernel) (subst (λ (n : ℕ). IsNumber n d.kernel) (sym is) (number none)))
          (λ r holding own. none_held (held new.turn) r idles holding)
  held_goes log (at_end end) = quiet (unsent frame end ∷ []) (cut_off frame end) (after s (λ u is. still u (keeps.spent u is)))

-- A frame that is not the kernel's is sent.
module _ (mounts : ℕ) (d new : Driven) (s : Session) (keeps : Keeps mounts d s) (kernel : KernelKeeps d.kernel new.kernel)
    (same : held new.turn ≡ held d.turn) (next : new.next ≡ d.next + 2) (low : d.next < 2 ^ 63) (frame : List ℕ)
    (head : HasOwnHead frame d.next) where
  own_right : SentRight frame s
  own_right = record {
    low = λ none. let is = head.1 in omega (arith, is, low);
    even = λ none. ap (λ (n : ℕ). n % 2) head.1 ∙ keeps.even;
    fresh = λ none. fresh (was_read s (unique_in frame)) refl;
  }
    where
      fresh : (b : Bool) → was_read s (unique_in frame) ≡ b → b ≡ false
      fresh false is = refl
      fresh true is = absurd (by (keeps.spent d.next (ap (was_read s) (sym head.1) ∙ is)))
        where
          by : Spent mounts d d.next → ⊥
          by (own high under) = absurd (omega (arith, under))
          by (of_kernel some n free) = let under = n.low in let high = keeps.low in absurd (omega (arith, under, high))

  own_still : (u : ℕ) → Spent mounts d u → Spent mounts new u
  own_still u (own high under) = own high (omega (arith, under, next))
  own_still u (of_kernel some n free) = of_kernel some (number_keeps u d.kernel new.kernel kernel n)
      (λ r is equal. free r (sym same ∙ is) equal)

  own_after : (t : Session) → ((u : ℕ) → was_read t u ≡ true → Spent mounts new u) → Keeps mounts new t
  own_after t spent = record {
    numbered = kernel.numbered keeps.numbered;
    holds = λ r is. let right = keeps.holds r (sym same ∙ is) in record {
      interrupt = right.interrupt;
      request = λ other. number_keeps r.unique d.kernel new.kernel kernel (right.request other);
    };
    low = let high = keeps.low in omega (arith, high, next);
    even = let even = keeps.even in omega (arith, even, next);
    spent = spent;
    before = λ zero. let was = keeps.before zero in (kernel.dead was.0, same ∙ was.1);
  }

  pub own_goes : (log : List Transfer) → SendsFrame frame log → Goes mounts s new log
  own_goes log (with_result result) = sends frame result own_right (λ t adds. own_after t (λ u is. by u (adds u is)))
    where
      by : (u : ℕ) → (was_read s u ≡ true) ⊎ (IsNoInterrupt frame × (u ≡ unique_in frame)) → Spent mounts new u
      by u (inl was) = own_still u (keeps.spent u was)
      by u (inr (none, is)) =
          let equal : u ≡ d.next = is ∙ head.1 in
          let high = keeps.low in
          own (omega (arith, high, equal)) (omega (arith, next, equal))
  own_goes log (at_end end) =
      quiet (unsent frame end ∷ []) (cut_off frame end) (own_after s (λ u is. own_still u (keeps.spent u is)))
