-- What comes of a read is that a request is read.
use Rattle.std.proofs.Common.{◌≡◌, ℕ, Bool, true, false, not, List, [], ◌∷◌, Option, Some, None, Result, Ok, length, nat_eq, option_map, refl, ap, sym, subst}
use Rattle.fuse_spec.specs.declared.Purpose.{Purpose}
use Rattle.fuse_spec.specs.declared.Refusal.{Refusal}
use Rattle.fuse_spec.specs.declared.Refusal.TheVariants as refusal
use Rattle.fuse_spec.specs.Kernel.Kernel.{body_of, forgets_read, is_live}
use Rattle.fuse_spec.specs.Kernel.QueueCalls.{pending_at}
use Rattle.fuse_spec.specs.Kernel.Refusals.{first_found, found, pending_found, unless, when_not_interrupted}
use Rattle.fuse_spec.specs.Kernel.Uniques.{interrupt_number}
use Rattle.fuse_spec.specs.World.Events.{Outcome, is_read}
use Rattle.fuse_spec.specs.World.Steps.{Happens, going, is_past, reading_forgets, reading_interrupt, reading_pending}
use Rattle.fuse_spec.specs.World.Worlds.{World, world_after_read_interrupt, world_after_read_forgets, world_after_read_pending}
use Rattle.fk_kernel.specs.declared.read.Pick.{Pick}
use Rattle.fk_kernel.specs.declared.read.Pick.TheVariants as pick
use Rattle.fw_world.specs.declared.event.Outcome.{Outcome as OutcomeValue}
use Rattle.fw_world.specs.declared.event.Outcome.TheVariants as outcome
use Rattle.fw_world.specs.Values.{outcome_of, read_of}
use Rattle.order_law.specs.Moments.{Moment}
use Rattle.fw_orders.specs.Attempts.{Attempted, unique_read}

abbrev IsRead : Outcome → Type 0
IsRead o = (unique : ℕ) × (o ≡ is_read unique)

-- what is accepted where a test has to fail
unless_ok : {B : Type 0} (b : Bool) (r : Refusal) (else : Result B Refusal) (x : B) → unless b r else ≡ Ok x → else ≡ Ok x
unless_ok true r else x e = absurd (cc)
unless_ok false r else x e = e

abbrev accepted : {B : Type 0} → B → Result B Refusal
accepted x = Ok x

same_ok : {B : Type 0} (x y : B) → accepted x ≡ accepted y → x ≡ y
same_ok x y e = cc

going_read : (unique : ℕ) (after : World) (x : Outcome × World) → going (is_read unique) after ≡ Ok x → IsRead x.0
going_read unique after x e =
    let kept = unless_ok (is_past after) refusal.Exhausted (Ok (is_read unique, after)) x e in
    (unique, ap (λ (p : Outcome × World). p.0) (sym (same_ok (is_read unique, after) x kept)))

found_read : {A : Type 0} (o : Option A) (next : A → Result (Outcome × World) Refusal) (x : Outcome × World)
    → ((a : A) → next a ≡ Ok x → IsRead x.0) → found o next ≡ Ok x → IsRead x.0
found_read None next x each e = absurd (cc)
found_read (Some a) next x each e = each a e

first_read : {A : Type 0} (xs : List A) (next : A → Result (Outcome × World) Refusal) (x : Outcome × World)
    → ((a : A) → next a ≡ Ok x → IsRead x.0) → first_found xs next ≡ Ok x → IsRead x.0
first_read [] next x each e = absurd (cc)
first_read (a ∷ rest) next x each e = each a e

pub read_is : (w : World) (p : Pick) (o : Outcome) (new : World) → Happens w (read_of p) o new → IsRead o
read_is w pick.Interrupt o new happens = first_read w.kernel.queues.interrupts (reading_interrupt w) (o, new)
    (λ original e. going_read (interrupt_number original) (world_after_read_interrupt w original) (o, new) e)
    (unless_ok (not (is_live w.kernel.phase)) refusal.NotReady
    (first_found w.kernel.queues.interrupts (reading_interrupt w)) (o, new) happens.2)
read_is w (pick.Forgets count) o new happens =
    let search_for = found (forgets_read w.kernel count) (reading_forgets w count) in
    found_read (forgets_read w.kernel count) (reading_forgets w count) (o, new)
    (λ read e. going_read read.0 (world_after_read_forgets w count read.1) (o, new) e)
    (unless_ok (not (nat_eq (length w.kernel.queues.interrupts) 0)) refusal.InterruptFirst search_for (o, new)
    (unless_ok (not (is_live w.kernel.phase)) refusal.NotReady (when_not_interrupted w.kernel search_for) (o, new)
    happens.2))
read_is w (pick.Pending place) o new happens =
    let search_for = pending_found w.kernel (pending_at w.kernel.queues place) (reading_pending w place) in
    found_read (pending_at w.kernel.queues place)
    (λ (r : ℕ × Purpose). found (body_of w.kernel r.1) (reading_pending w place r.0)) (o, new)
    (λ r e. found_read (body_of w.kernel r.1) (reading_pending w place r.0) (o, new)
    (λ body e2. going_read r.0 (world_after_read_pending w place r.0 body) (o, new) e2) e)
    (unless_ok (not (nat_eq (length w.kernel.queues.interrupts) 0)) refusal.InterruptFirst search_for (o, new)
    (unless_ok (not (is_live w.kernel.phase)) refusal.NotReady (when_not_interrupted w.kernel search_for) (o, new)
    happens.2))

-- an outcome that is a read has its number
numbered : (o : OutcomeValue) → IsRead (outcome_of o) → option_map is_read (unique_read o) ≡ Some (outcome_of o)
numbered (outcome.Read unique opcode len) is = refl
numbered outcome.Mounted is = let e = is.1 in absurd (cc)
numbered (outcome.Begun call) is = let e = is.1 in absurd (cc)
numbered (outcome.Taken unique word) is = let e = is.1 in absurd (cc)
numbered (outcome.Done unique errno len) is = let e = is.1 in absurd (cc)
numbered (outcome.Lost unique errno) is = let e = is.1 in absurd (cc)
numbered (outcome.SentAgain unique len) is = let e = is.1 in absurd (cc)
numbered (outcome.Written unique result) is = let e = is.1 in absurd (cc)
numbered (outcome.Settled unique result) is = let e = is.1 in absurd (cc)
numbered (outcome.Interrupted call effect) is = let e = is.1 in absurd (cc)
numbered (outcome.Now clock) is = let e = is.1 in absurd (cc)
numbered outcome.Dropped is = let e = is.1 in absurd (cc)
numbered (outcome.Evicted node count) is = let e = is.1 in absurd (cc)
numbered outcome.Aborted is = let e = is.1 in absurd (cc)

-- a read that was accepted, by the number of its request
pub by_number : (m new : Moment) (p : Pick) (o : OutcomeValue) → Attempted m (read_of p) (Some (outcome_of o)) new
    → Attempted m (read_of p) (option_map is_read (unique_read o)) new
by_number m new p o happened = subst (λ (x : Option Outcome). Attempted m (read_of p) x new)
    (sym (numbered o (read_is m.world p (outcome_of o) happened.0 happened.1))) happened
