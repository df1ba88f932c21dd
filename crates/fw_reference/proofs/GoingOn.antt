-- A world that goes on, step by step.
use Rattle.std.proofs.Common.{◌≡◌, ℕ, Result, Ok, Err, length, not, refl, sym, subst, ◌∙◌}
use Rattle.std.specs.Prelude.{IfOk, IfSome, IfNone, OnErr, Option, Some, None, nat_le}
use Rattle.fuse_spec.specs.declared.Refusal.{Refusal}
use Rattle.fuse_spec.specs.Calls.Calls.{Call as CallMade}
use Rattle.fuse_spec.specs.World.Events as event
use Rattle.fuse_spec.specs.World.Events.{Event, Outcome}
use Rattle.fuse_spec.specs.Kernel.Refusals.{is_ready, unless}
use Rattle.fuse_spec.specs.Values.Numbers.{max_calls}
use Rattle.fuse_spec.specs.declared.Refusal.TheVariants as refusal
use Rattle.fuse_spec.specs.World.Steps.{Happens, going}
use Rattle.fuse_spec.specs.World.Worlds.{World, after_call}
use Rattle.fuse_theorem.proofs.RefusalCases.Accepted.{going_ok, unless_ok}
use Rattle.fw_world.specs.Runs.{call_collected}
use Rattle.fw_world.specs.Values.{outcome_of}
use Rattle.fw_world.specs.declared.event.Outcome.{Outcome as Done}
use Rattle.fw_world.specs.declared.event.Outcome.TheVariants as done
use Rattle.fw_reference.specs.Reference.{GoesOn, stays, happened, collected}

-- one event, which happens or is refused
pub steps_on : {A : Type 0} (f : A → Outcome) (old : World) (e : Event) (r : Result A Refusal) (new : World) → OnErr r (new ≡ old)
    → IfOk r (λ o. Happens old e (f o) new) → GoesOn old new
steps_on f old e (Ok o) new same happens = happened old old (stays old) e (f o) new happens
steps_on f old e (Err refusal) new same happens = subst (GoesOn old) (sym same) (stays old)

-- one time after another
pub then_on : (first mid last : World) → GoesOn first mid → GoesOn mid last → GoesOn first last
then_on first mid last before (stays w) = before
then_on first mid last before (happened old w goes e o new is) =
    happened first w (then_on first mid w before goes) e o new is
then_on first mid last before (collected old w goes call) = collected first w (then_on first mid w before goes) call

-- an answer that is collected, if there is one
pub collects_on : {A : Type 0} (f : A → ℕ) (old : World) (o : Option A) (new : World) → IfNone o (new ≡ old)
    → IfSome o (λ x. new ≡ call_collected old (f x)) → GoesOn old new
collects_on f old None new same is = subst (GoesOn old) (sym same) (stays old)
collects_on f old (Some x) new same is = subst (GoesOn old) (sym is) (collected old old (stays old) (f x))

-- The world went on, and the numbers stayed.
abbrev pub Continues : {N : Type 0} → (old : World) → N → (new : World) → N → Type 0
Continues old before new after = GoesOn old new × (after ≡ before)

pub then_continues : {N : Type 0} (first : World) (one : N) (mid : World) (two : N) (last : World) (three : N)
    → Continues first one mid two → Continues mid two last three → Continues first one last three
then_continues first one mid two last three before after = (
  then_on first mid last before.0 after.0,
  after.1 ∙ before.1,
)

pub continues : {N : Type 0} (w : World) (numbers : N) → Continues w numbers w numbers
continues w numbers = (stays w, refl)

-- A call that happens begins under the next number.
pub begins : (w : World) (call : CallMade) (o : Outcome) (new : World) → Happens w (event.call call) o new
    → o ≡ event.begun w.kernel.vfs.next_call
begins w call o new (choice, may, is) =
    let begun = event.begun w.kernel.vfs.next_call in
    let ready = unless_ok (not (is_ready w.kernel.phase)) refusal.NotReady
    (unless (nat_le max_calls (length w.kernel.vfs.calls)) refusal.Full (going begun (after_call w call))) o new is in
    let room = unless_ok (nat_le max_calls (length w.kernel.vfs.calls)) refusal.Full (going begun (after_call w call)) o new
    ready.rest in
    sym (going_ok begun (after_call w call) o new room.rest).leads.outcome_is

-- an outcome that says so is that of a call
pub is_begun : (o : Done) (number : ℕ) → outcome_of o ≡ event.begun number → (call : ℕ) × (o ≡ done.Begun call)
is_begun (done.Begun call) number is = (call, refl)
is_begun done.Mounted number is = absurd (cc is)
is_begun (done.Read unique opcode len) number is = absurd (cc is)
is_begun (done.Taken unique word) number is = absurd (cc is)
is_begun (done.Done unique errno len) number is = absurd (cc is)
is_begun (done.Lost unique errno) number is = absurd (cc is)
is_begun (done.SentAgain unique len) number is = absurd (cc is)
is_begun (done.Written unique result) number is = absurd (cc is)
is_begun (done.Settled unique result) number is = absurd (cc is)
is_begun (done.Interrupted call effect) number is = absurd (cc is)
is_begun (done.Now clock) number is = absurd (cc is)
is_begun done.Dropped number is = absurd (cc is)
is_begun (done.Evicted node count) number is = absurd (cc is)
is_begun done.Aborted number is = absurd (cc is)
