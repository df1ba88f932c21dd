-- The numbers of a world stay in order as a call takes a step.
use Rattle.std.proofs.Common.{◌≡◌, ℕ, ◌+◌, ◌<◌, ◌≤◌, Bool, true, false, cond, Option, Some, None, nat_eq, is_some, refl, ap, sym, subst, ◌∙◌, arith, inl, inr}
use Rattle.std.proofs.lemmas.Bool.{cases_eq}
use Rattle.fuse_spec.specs.declared.Opened.{Opened}
use Rattle.fuse_spec.specs.declared.Mark.TheVariants.{Unread}
use Rattle.fuse_spec.specs.declared.Purpose.{Purpose}
use Rattle.fuse_spec.specs.declared.Purpose.TheVariants as purpose
use Rattle.fuse_spec.specs.declared.QueuedRequest.{QueuedRequest}
use Rattle.fuse_spec.specs.Values.Maps.{get}
use Rattle.fuse_spec.specs.Files.Operations.{Operation}
use Rattle.fuse_spec.specs.Kernel.Uniques.{IsNextNumber}
use Rattle.fuse_spec.specs.Calls.Vfs.{CallState, Advance}
use Rattle.fuse_spec.specs.Kernel.QueueCalls.{after_enqueue, without}
use Rattle.fuse_spec.specs.Kernel.Kernel.{Kernel, is_for, asking_for, advanced}
use Rattle.fuse_spec.specs.World.Worlds.{World}
use Rattle.fuse_spec.proofs.QueueCounts.{count_by-push}
use Rattle.fuse_spec.proofs.QueueSoundness.{IsSound-enqueue, IsSound-without}
use Rattle.fuse_theorem.specs.Numbering.{IsNumbered, requests_for}
use Rattle.fuse_theorem.proofs.Calls.Finding.{other_is, count_less}
use Rattle.fuse_theorem.proofs.Calls.Advancing.{WaitsFor, StepsAlone}

-- A request ends.
pub ended_numbered : (w : World) → IsNumbered w → (unique : ℕ)
    → IsNumbered (record w { kernel = record w.kernel { queues = without w.kernel.queues unique } })
ended_numbered w numbered unique = record {
  queues = IsSound-without w.kernel.queues unique numbered.queues;
  calls_below = numbered.calls_below;
  one_request = λ c.
      let less = count_less (λ (e : ℕ × QueuedRequest Purpose). is_for c e.1.kept) unique w.kernel.queues.requests in
      let few = numbered.one_request c in
      omega (arith, less, few);
  sent_below = numbered.sent_below;
  replies_below = numbered.replies_below;
  held_below = numbered.held_below;
  kept_below = numbered.kept_below;
}

-- No call of the next number or a later one is unanswered; an unanswered call has one request at most, and an answered
-- one none.
pub record CallsNumbered (k : Kernel) : Type 0 where
  pub calls_below : (call : ℕ) → k.vfs.next_call ≤ call → get k.vfs.calls call ≡ None
  pub one_request : (call : ℕ) → requests_for call k.queues ≤ cond (is_some (get k.vfs.calls call)) 1 0

module _ (k : Kernel) (numbered : CallsNumbered k) (coming call : ℕ) (next : Advance Opened)
    (none_for : requests_for call k.queues ≡ 0)
    (alone : StepsAlone k.vfs.calls coming call next) (low : call < coming) (later : k.vfs.next_call ≤ coming) where
  below : (c : ℕ) → next.vfs.next_call ≤ c → get next.vfs.calls c ≡ None
  below c le =
      let high : coming ≤ c = subst (λ (n : ℕ). n ≤ c) alone.coming_call le in
      alone.others c (λ e. absurd (omega (arith, e, high, low))) ∙ numbered.calls_below c (omega (arith, later, high))

  one_for : (c : ℕ) → requests_for c k.queues ≤ cond (is_some (get next.vfs.calls c)) 1 0
  one_for c = elim (cases_eq c call) [
    | inl e ↦ let none : requests_for c k.queues ≡ 0 =
        subst (λ (n : ℕ). requests_for n k.queues ≡ 0) (sym e) none_for in omega (arith, none)
    | inr ne ↦ subst (λ (o : Option (CallState Opened)). requests_for c k.queues ≤ cond (is_some o) 1 0)
        (sym (alone.others c ne)) (numbered.one_request c)
  ]

  one_more : (operation : Operation ℕ Opened) → WaitsFor next.vfs.calls call (Some operation) → (c : ℕ)
      → requests_for c (after_enqueue k.queues (purpose.Call call)) ≤ cond (is_some (get next.vfs.calls c)) 1 0
  one_more operation waits c =
      let new : ℕ × QueuedRequest Purpose = (k.queues.next, record { mark = Unread; kept = purpose.Call call }) in
      let pushed : requests_for c (after_enqueue k.queues (purpose.Call call))
      ≡ requests_for c k.queues + cond (nat_eq call c) 1 0 =
      count_by-push (λ (e : ℕ × QueuedRequest Purpose). is_for c e.1.kept) k.queues.requests new in
      elim (cases_eq c call) [
        | inl e ↦
            let none : requests_for c k.queues ≡ 0 = subst (λ (n : ℕ). requests_for n k.queues ≡ 0) (sym e) none_for in
            let there : is_some (get next.vfs.calls c) ≡ true =
            subst (λ (n : ℕ). is_some (get next.vfs.calls n) ≡ true) (sym e) (ap is_some waits.1) in
            rw (there, pushed, none) (at_most (nat_eq call c))
        | inr ne ↦
            let other : nat_eq call c ≡ false = other_is call c (λ e. ne (sym e)) in
            let few = one_for c in
            rw (pushed, other) (omega (arith, few))
      ]
    where
      at_most : (b : Bool) → 0 + cond b 1 0 ≤ 1
      at_most true = omega arith
      at_most false = omega arith

  -- A step of a call.
  pub calls_advanced : CallsNumbered (advanced k call next)
  calls_advanced = by next.operation refl
    where
      by : (o : Option (Operation ℕ Opened)) → next.operation ≡ o
          → CallsNumbered (asking_for (record k { vfs = next.vfs }) call o)
      by None e = record { calls_below = below; one_request = one_for }
      by (Some operation) e = record {
        calls_below = below;
        one_request = one_more operation (subst (λ (o : Option
            (Operation ℕ Opened)). WaitsFor next.vfs.calls call o) e alone.here);
      }

module _ (w : World) (numbered : IsNumbered w) (coming call : ℕ) (next : Advance Opened)
    (none_for : requests_for call w.kernel.queues ≡ 0)
    (alone : StepsAlone w.kernel.vfs.calls coming call next) (low : call < coming)
    (later : w.kernel.vfs.next_call ≤ coming) where
  -- The same in a world.
  pub advanced_numbered : ((operation : Operation ℕ Opened) → next.operation ≡ Some operation
      → IsNextNumber (w.kernel.queues.next + 2)) → IsNumbered (record w { kernel = advanced w.kernel call next })
  advanced_numbered number = by next.operation refl
      (calls_advanced w.kernel (record {
        calls_below = numbered.calls_below;
        one_request = numbered.one_request;
      }) coming call next none_for alone low later)
    where
      by : (o : Option (Operation ℕ Opened)) → next.operation ≡ o
          → CallsNumbered (asking_for (record w.kernel { vfs = next.vfs }) call o)
          → IsNumbered (record w { kernel = asking_for (record w.kernel { vfs = next.vfs }) call o })
      by None e calls = record {
        queues = numbered.queues;
        calls_below = calls.calls_below;
        one_request = calls.one_request;
        sent_below = numbered.sent_below;
        replies_below = numbered.replies_below;
        held_below = numbered.held_below;
        kept_below = numbered.kept_below;
      }
      by (Some operation) e calls = record {
        queues = IsSound-enqueue w.kernel.queues (purpose.Call call) numbered.queues (number operation e);
        calls_below = calls.calls_below;
        one_request = calls.one_request;
        sent_below = λ i r lt. let under = numbered.sent_below i r lt in omega (arith, under);
        replies_below = λ i s lt. let under = numbered.replies_below i s lt in omega (arith, under);
        held_below = λ live u t at. let under = numbered.held_below live u t at in omega (arith, under);
        kept_below = λ live u k at. let under = numbered.kept_below live u k at in omega (arith, under);
      }
