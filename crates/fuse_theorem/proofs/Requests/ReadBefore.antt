-- What was read is read before, where none is read.
use Rattle.std.proofs.Common.{◌≡◌, ℕ, Bool, true, false, true≢false, cond, List, [], ◌∷◌, Some, nat_eq, option_map, refl, ap, sym, subst, ◌∙◌, All}
use Rattle.std.specs.Map.{lookup}
use Rattle.std.proofs.lemmas.List.Elements.{All-cons, All-head, All-tail, All-push}
use Rattle.fuse_spec.specs.declared.Mark.{Mark}
use Rattle.fuse_spec.specs.declared.Mark.TheVariants.{Unread}
use Rattle.fuse_spec.specs.declared.Purpose.{Purpose}
use Rattle.fuse_spec.specs.declared.QueuedRequest.{QueuedRequest}
use Rattle.fuse_spec.specs.Kernel.Queues.{QueueState, IsSound, is_unread, request_under}
use Rattle.fuse_spec.specs.Kernel.QueueCalls.{set_mark}
use Rattle.fuse_spec.proofs.QueueReadings.{key_count-le-one}
use Rattle.fuse_theorem.proofs.Calls.Finding.{All-found, All-removed}
use Rattle.fuse_theorem.proofs.Requests.QueueMoves.{ReadsNone, stays, queues, ends, marks, moves_on}
use Rattle.fuse_theorem.proofs.Lists.UnderNumber.{of_entries}

module _ (u : ℕ) (S : Type 0) where
  -- where an entry of this number was read, this is true
  abbrev IfRead : ℕ × QueuedRequest Purpose → Type 0
  IfRead e = e.0 ≡ u → is_unread e.1.mark ≡ false → S

  marked_read : (v : ℕ) (old m : Mark) (es : List (ℕ × QueuedRequest Purpose))
      → option_map (λ (r : QueuedRequest Purpose). r.mark) (lookup (nat_eq v) es) ≡ Some old
      → is_unread m ≡ is_unread old → All IfRead es → All IfRead (set_mark v es m)
  marked_read v old m [] found same h = h
  marked_read v old m (e ∷ es) found same h = by (nat_eq v e.0) found
      (λ f. marked_read v old m es f same (All-tail IfRead e es h))
    where
      by : (b : Bool) → option_map (λ (r : QueuedRequest Purpose). r.mark) (cond b (Some e.1) (lookup (nat_eq v) es))
          ≡ Some old → (option_map (λ (r : QueuedRequest Purpose). r.mark) (lookup (nat_eq v) es) ≡ Some old
          → All IfRead (set_mark v es m))
          → All IfRead (cond b ((e.0, record { mark = m; kept = e.1.kept }) ∷ es) (e ∷ set_mark v es m))
      by true f rest =
          let is : e.1.mark ≡ old = cc in
          All-cons IfRead (e.0, record { mark = m; kept = e.1.kept }) es
          (λ tie read. All-head IfRead e es h tie (ap is_unread is ∙ sym same ∙ read)) (All-tail IfRead e es h)
      by false f rest = All-cons IfRead e (set_mark v es m) (All-head IfRead e es h) (rest f)

  all_before : (q r : QueueState Purpose) → ReadsNone q r → All IfRead q.requests → All IfRead r.requests
  all_before q r (stays a b same next) h = subst (All IfRead) (sym same) h
  all_before q r (queues a kept) h = All-push IfRead q.requests (q.next, record { mark = Unread; kept = kept }) h
      (λ tie read. absurd (true≢false read))
  all_before q r (ends a b v same next) h = subst (All IfRead) (sym same) (All-removed IfRead v q.requests h)
  all_before q r (marks a b v old m found kept same next) h =
      subst (All IfRead) (sym same) (marked_read v old m q.requests found kept h)
  all_before q r (moves_on a b c first rest) h = all_before b r rest (all_before q b first h)

-- A request of this number was read.
pub record WasRead (q : QueueState Purpose) (u : ℕ) : Type 0 where
  pub request : QueuedRequest Purpose
  pub under : request_under q u ≡ Some request
  pub read : is_unread request.mark ≡ false

pub read_before : (q r : QueueState Purpose) → IsSound q → ReadsNone q r → (u : ℕ) (x : QueuedRequest Purpose)
    → request_under r u ≡ Some x → is_unread x.mark ≡ false → WasRead q u
read_before q r sound none u x under read =
    let before = of_entries (λ (y : QueuedRequest Purpose). is_unread y.mark ≡ false → WasRead q u) u q.requests
    (key_count-le-one q u sound) (λ y at was. record { request = y; under = at; read = was }) in
    All-found (IfRead u (WasRead q u)) u r.requests x (all_before u (WasRead q u) q r none before) under refl read
