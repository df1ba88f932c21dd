-- A request of a call in a world is that of an unanswered call.
use Rattle.std.proofs.Common.{◌≡◌, ℕ, ◌+◌, ◌≤◌, Bool, true, false, cond, List, [], ◌∷◌, Option, Some, None, count_by, is_some, nat_eq, refl, ap, ◌∙◌, arith}
use Rattle.std.specs.Map.{lookup}
use Rattle.fuse_spec.specs.declared.Purpose.{Purpose}
use Rattle.fuse_spec.specs.declared.Purpose.TheVariants as purpose
use Rattle.fuse_spec.specs.declared.QueuedRequest.{QueuedRequest}
use Rattle.fuse_spec.specs.declared.Opened.{Opened}
use Rattle.fuse_spec.specs.Calls.Vfs.{CallState}
use Rattle.fuse_spec.specs.Values.Maps.{get}
use Rattle.fuse_spec.specs.Kernel.Kernel.{is_for, is_live}
use Rattle.fuse_spec.specs.Kernel.QueueCalls.{waiting}
use Rattle.fuse_spec.specs.World.Worlds.{World}
use Rattle.fuse_spec.proofs.QueueCounts.{count_by-cons}
use Rattle.fuse_theorem.specs.Numbering.{IsNumberedWhileLive}
use Rattle.fuse_theorem.proofs.Answers.Answered.{Waits, waiting_is}
use Rattle.fuse_theorem.proofs.Calls.Finding.{same_is}

abbrev Entry : Type 0
Entry = ℕ × QueuedRequest Purpose

-- It is counted among those of its call.
has_one : (call u : ℕ) (es : List Entry) (r : QueuedRequest Purpose) → lookup (nat_eq u) es ≡ Some r → is_for call r.kept ≡ true
    → 1 ≤ count_by (λ (e : Entry). is_for call e.1.kept) es
has_one call u [] r there mine = absurd (cc there)
has_one call u (e ∷ es) r there mine = by (nat_eq u e.0) there (λ rest. has_one call u es r rest mine)
  where
    sum : count_by (λ (e : Entry). is_for call e.1.kept) (e ∷ es)
        ≡ cond (is_for call e.1.kept) 1 0 + count_by (λ (e : Entry). is_for call e.1.kept) es
    sum = count_by-cons (λ (e : Entry). is_for call e.1.kept) e es

    kept_of : Option (QueuedRequest Purpose) → Purpose
    kept_of None = r.kept
    kept_of (Some x) = x.kept

    by : (b : Bool) → cond b (Some e.1) (lookup (nat_eq u) es) ≡ Some r
        → (lookup (nat_eq u) es ≡ Some r → 1 ≤ count_by (λ (e : Entry). is_for call e.1.kept) es)
        → 1 ≤ count_by (λ (e : Entry). is_for call e.1.kept) (e ∷ es)
    by true is rest =
        let here : cond (is_for call e.1.kept) 1 0 ≡ 1 =
        ap (λ (p : Purpose). cond {A = ℕ} (is_for call p) 1 0) (ap kept_of is) ∙ ap (λ (b : Bool). cond {A = ℕ} b 1 0) mine in
        omega (arith, sum, here)
    by false is rest = let some = rest is in omega (arith, sum, some)

-- While its request waits, a call is unanswered.
pub call_waits : (w : World) → IsNumberedWhileLive w → (u call : ℕ) → waiting w.kernel.queues u ≡ Some (purpose.Call call)
    → get w.kernel.vfs.calls call ≡ None → ⊥
call_waits w numbered u call waits gone = by (is_live w.kernel.phase) refl
  where
    x : Waits w.kernel.queues u (purpose.Call call)
    x = waiting_is w.kernel.queues u (purpose.Call call) waits

    by : (b : Bool) → is_live w.kernel.phase ≡ b → ⊥
    by true live =
        let mine : is_for call x.request.kept ≡ true = ap (is_for call) x.serves ∙ same_is call in
        let one = has_one call u w.kernel.queues.requests x.request x.under mine in
        let few = (numbered.live live).one_request call in
        let none : cond (is_some (get w.kernel.vfs.calls call)) 1 0 ≡ 0 =
        ap (λ (o : Option (CallState Opened)). cond {A = ℕ} (is_some o) 1 0) gone in
        omega (arith, one, few, none)
    by false dead =
        let empty = numbered.idle dead in
        absurd (cc (x.under, empty))
