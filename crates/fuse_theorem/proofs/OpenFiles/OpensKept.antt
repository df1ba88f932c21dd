-- As calls go on, the kernel keeps its open files: open, closing or to be released.
use Rattle.std.proofs.Common.{◌≡◌, ◌≢◌, ℕ, ◌+◌, ◌≤◌, ◌<◌, Bool, true, false, true≢false, cond, [], Option, Some, None, nat_eq, refl, ap, sym, subst, ◌∙◌, arith, ◌⊎◌, inl, inr}
use Rattle.std.specs.Option.{option_map_or}
use Rattle.std.proofs.lemmas.Bool.{cases_eq}
use Rattle.std.proofs.lemmas.List.Sums.{sum_by-cons}
use Rattle.fuse_spec.specs.declared.IntrEffect.{IntrEffect}
use Rattle.fuse_spec.specs.declared.IntrEffect.TheVariants.{Dequeued, Flagged, Queued, None as NoEffect}
use Rattle.fuse_spec.specs.declared.Mark.{Mark}
use Rattle.fuse_spec.specs.declared.Mark.TheVariants as mark
use Rattle.fuse_spec.specs.declared.Opened.{Opened}
use Rattle.fuse_spec.specs.declared.Purpose.{Purpose}
use Rattle.fuse_spec.specs.declared.Purpose.TheVariants as purpose
use Rattle.fuse_spec.specs.declared.QueuedRequest.{QueuedRequest}
use Rattle.fuse_spec.specs.Calls.Answers.{Answer}
use Rattle.fuse_spec.specs.Calls.Answers as answer
use Rattle.fuse_spec.specs.Calls.Begins.{Beginning, beginning}
use Rattle.fuse_spec.specs.Calls.Calls.{Call}
use Rattle.fuse_spec.specs.Values.Maps.{Map, get, put, remove}
use Rattle.fuse_spec.specs.Files.Operations.{Operation}
use Rattle.fuse_spec.specs.Kernel.Queues.{is_unread, request_under}
use Rattle.fuse_spec.specs.Kernel.QueueCalls.{after_enqueue, after_effect, with_mark, with_interrupt, after_dequeue}
use Rattle.fuse_spec.specs.Kernel.Signals.{signal_effect}
use Rattle.fuse_spec.specs.Calls.Vfs.{CallState, walking, doing, using, Vfs, Advance, answered, begun, after_beginning, numbered}
use Rattle.fuse_spec.specs.Kernel.Kernel.{Kernel, is_aborted, is_for, is_using, is_used, request_of, asking_for, advanced, released, released_if_idle, after_use, closed_by, closing_of, call_begun, after_signal, signalled_at, call_signalled}
use Rattle.fuse_spec.proofs.QueueCounts.{key_count}
use Rattle.fuse_spec.proofs.Tables.{get_put_here, get_put_there, get_gone_here, get_gone_there}
use Rattle.fuse_theorem.specs.OpenNumbers.{stands, UsesOpen, OpensApart}
use Rattle.fuse_theorem.proofs.Refining.Evicting.{found_fails}
use Rattle.fuse_theorem.proofs.Calls.Finding.{same_is, found_entry}
use Rattle.fuse_theorem.proofs.Lists.MapSums.{values_sum, worth, sum_put, sum_gone, put_rises, gone_rises}
use Rattle.fuse_theorem.proofs.Lists.OpenSums.{kernel_sum}
use Rattle.fuse_theorem.proofs.OpenFiles.OpensApart.{stands_none, some_stands, CallSteps, uses_still, call_apart, call_below, opens_more, stepped_apart}
use Rattle.fuse_theorem.proofs.Calls.OpenSteps.{answered_steps, BeginsAs, faults, leads, reads, ends, begins_as, begun_steps}
use Rattle.fuse_theorem.proofs.OpenFiles.ReleasesPending.{unread_sum, queued_sum, ended_sum, marked_sum}

-- The kernel has the files that it had, and one that it gained; its numbers are apart.
pub record KeepsOpen (k l : Kernel) (gained : Option Opened) : Type 0 where
  pub sums : (f : Opened → ℕ) → kernel_sum f l ≡ kernel_sum f k + worth f gained
  pub apart : OpensApart l.vfs l.closing

pub then_keeps : (k l m : Kernel) (gained : Option Opened) → KeepsOpen k l gained → KeepsOpen l m None
    → KeepsOpen k m gained
then_keeps k l m gained a b = record {
  sums = λ f. let x = a.sums f in let y = b.sums f in
      omega (arith, x, y);
  apart = b.apart;
}

pub unmoved : (k : Kernel) → OpensApart k.vfs k.closing → KeepsOpen k k None
unmoved k old = record { sums = λ f. omega arith; apart = old }

-- ---- a call takes a step, and what it asks is queued

pub advanced_keeps : (k : Kernel) → OpensApart k.vfs k.closing → (call : ℕ) → get k.vfs.opens call ≡ None
    → get k.closing call ≡ None → call < k.vfs.next_call → (next : Advance Opened) (gained : Option Opened)
    → CallSteps k.vfs next.vfs call gained
    → KeepsOpen k (advanced k call next) gained
advanced_keeps k old call free unclosed low next gained steps = by next.operation
  where
    more : (f : Opened → ℕ) → values_sum f next.vfs.opens ≡ values_sum f k.vfs.opens + worth f gained
    more f = opens_more k.vfs k.closing old next.vfs call free unclosed low gained steps f

    apart : OpensApart next.vfs k.closing
    apart = stepped_apart k.vfs k.closing old next.vfs call free unclosed low gained steps

    by : (o : Option (Operation ℕ Opened)) → KeepsOpen k (asking_for (record k { vfs = next.vfs }) call o) gained
    by None = record { sums = λ f. let opens = more f in omega (arith, opens); apart = apart }
    by (Some operation) = record {
      sums = λ f.
          let opens = more f in
          let queued = queued_sum f k.queues (purpose.Call call) in
          omega (arith, opens, queued);
      apart = apart;
    }

-- ---- closed files are released

module _ (k : Kernel) (old : OpensApart k.vfs k.closing) (open_call : ℕ) where
  module _ (o : Opened) (at : get k.closing open_call ≡ Some o) (unused : is_used k open_call ≡ false) where
    -- no call uses the closed file
    uses_others : (state : CallState Opened) → is_using open_call state ≡ false → UsesOpen k.vfs.opens k.closing state
        → UsesOpen k.vfs.opens (remove k.closing open_call) state
    uses_others (walking d word words plan) other_one h = tt
    uses_others (doing operation) other_one h = h
    uses_others (using other operation) other_one h =
        λ i d lt. elim (h i d lt) [ inl e ↦ inl e | inr e ↦ inr (get_gone_there k.closing open_call other apart ∙ e) ]
      where
        apart : other ≢ open_call
        apart e = true≢false (sym (same_is open_call) ∙ ap (λ (n : ℕ). nat_eq n open_call) (sym e) ∙ other_one)

    fewer : (n : ℕ) → stands (get (remove k.closing open_call) n) ≤ stands (get k.closing n)
    fewer n = elim (cases_eq n open_call) [
      | inl e ↦ let none = ap stands (subst (λ (m : ℕ). get (remove k.closing open_call) m ≡ None) (sym e)
          (get_gone_here k.closing open_call)) in omega (arith, none)
      | inr ne ↦ let same = ap stands (get_gone_there k.closing open_call n ne) in omega (arith, same)
    ]

    left_apart : OpensApart k.vfs (remove k.closing open_call)
    left_apart = record {
      once = λ n. let was = old.once n in let less = fewer n in omega (arith, was, less);
      below = λ n high. let was = old.below n high in let less = fewer n in omega (arith, was, less);
      opens = old.opens;
      closing = gone_rises k.closing open_call old.closing;
      uses = λ call state there. uses_others state (found_fails (is_using open_call) k.vfs.calls call state unused there)
          (old.uses call state there);
    }

  -- A closed file is released once nothing uses it.
  pub idle_keeps : KeepsOpen k (released_if_idle k open_call) None
  idle_keeps = by (get k.closing open_call) refl
    where
      unless_used : (o : Opened) → get k.closing open_call ≡ Some o → (b : Bool) → is_used k open_call ≡ b
          → KeepsOpen k (record k {
            closing = cond b k.closing (remove k.closing open_call);
            queues = cond b k.queues (after_enqueue k.queues (purpose.Release o));
          }) None
      unless_used o at true used = unmoved k old
      unless_used o at false unused = record {
        sums = λ f.
            let gone = sum_gone f k.closing open_call old.closing in
            let mine = ap (worth f) at in
            let queued = queued_sum f k.queues (purpose.Release o) in
            let one = sum_by-cons f o [] in
            omega (arith, gone, mine, queued, one);
        apart = left_apart o at unused;
      }

      by : (x : Option Opened) → get k.closing open_call ≡ x → KeepsOpen k (released k open_call x) None
      by None at = unmoved k old
      by (Some o) at = unless_used o at (is_used k open_call) refl

pub used_keeps : (k : Kernel) → OpensApart k.vfs k.closing → (state : CallState Opened)
    → KeepsOpen k (after_use k state) None
used_keeps k old (walking d word words plan) = unmoved k old
used_keeps k old (doing operation) = unmoved k old
used_keeps k old (using open_call operation) = idle_keeps k old open_call

-- ---- an open file is closed

module _ (c : Vfs Opened) (closing : Map Opened) (old : OpensApart c closing) (open_call : ℕ) (o : Opened)
    (at : get c.opens open_call ≡ Some o) where
  unclosed : get closing open_call ≡ None
  unclosed =
      let once = old.once open_call in
      let here = some_stands (get c.opens open_call) o at in
      stands_none (get closing open_call) (omega (arith, once, here))

  moved_there : (n : ℕ) (x : Opened) → (get c.opens n ≡ Some x) ⊎ (get closing n ≡ Some x)
      → (get (remove c.opens open_call) n ≡ Some x) ⊎ (get (put closing open_call o) n ≡ Some x)
  moved_there n x there = elim (cases_eq n open_call) [
    | inl e ↦
        let here : get (put closing open_call o) n ≡ Some o =
        subst (λ (m : ℕ). get (put closing open_call o) m ≡ Some o) (sym e) (get_put_here closing open_call o) in
        inr (here ∙ is_it e there)
    | inr ne ↦ elim there [
      | inl h ↦ inl (get_gone_there c.opens open_call n ne ∙ h)
      | inr h ↦ inr
          (get_put_there closing open_call o n ne ∙ h)
    ]
  ]
    where
      is_it : n ≡ open_call → (get c.opens n ≡ Some x) ⊎ (get closing n ≡ Some x) → Some o ≡ Some x
      is_it e (inl h) = sym at ∙ ap (get c.opens) (sym e) ∙ h
      is_it e (inr h) = absurd (cc (ap (get closing) e, unclosed, h))

  same_standing : (n : ℕ) → stands (get (remove c.opens open_call) n) + stands (get (put closing open_call o) n)
      ≡ stands (get c.opens n) + stands (get closing n)
  same_standing n = elim (cases_eq n open_call) [
    | inl e ↦
        let gone = ap stands (get_gone_here c.opens open_call) in
        let new = ap stands (get_put_here closing open_call o) in
        let was = ap stands at in
        let none = ap stands unclosed in
        subst (λ (m : ℕ). stands (get (remove c.opens open_call) m) + stands (get (put closing open_call o) m)
        ≡ stands (get c.opens m) + stands (get closing m)) (sym e) (omega (arith, gone, new, was, none))
    | inr ne ↦
        let a = ap stands (get_gone_there c.opens open_call n ne) in
        let b = ap stands (get_put_there closing open_call o n ne) in
        omega (arith, a, b)
  ]

  pub closed_apart : OpensApart (record c { opens = remove c.opens open_call }) (put closing open_call o)
  closed_apart = record {
    once = λ n. let was = old.once n in let same = same_standing n in omega (arith, was, same);
    below = λ n high. let was = old.below n high in let same = same_standing n in omega (arith, was, same);
    opens = gone_rises c.opens open_call old.opens;
    closing = put_rises closing open_call o old.closing;
    uses = λ call state there. uses_still c.opens closing (remove c.opens open_call)
        (put closing open_call o) moved_there state (old.uses call state there);
  }

  pub closed_sum : (f : Opened → ℕ) → values_sum f (remove c.opens open_call) + values_sum f (put closing open_call o)
      ≡ values_sum f c.opens + values_sum f closing
  closed_sum f =
      let gone = sum_gone f c.opens open_call old.opens in
      let mine = ap (worth f) at in
      let more = sum_put f closing open_call o old.closing in
      let none = ap (worth f) unclosed in
      omega (arith, gone, mine, more, none)

-- ---- a call begins

numbered_apart : (c : Vfs Opened) (closing : Map Opened) → OpensApart c closing → OpensApart (numbered c) closing
numbered_apart c closing old = record {
  once = old.once;
  below = λ n high. old.below n (omega (arith, high));
  opens = old.opens;
  closing = old.closing;
  uses = old.uses;
}

pub begun_keeps : (k : Kernel) → OpensApart k.vfs k.closing → (call : Call) → KeepsOpen k (call_begun k call) None
begun_keeps k old call = by (is_aborted k.phase)
  where
    c : Vfs Opened
    c = numbered k.vfs

    k0 : Kernel
    k0 = record k { vfs = numbered k.vfs }

    apart : OpensApart c k.closing
    apart = numbered_apart k.vfs k.closing old

    free : get k.vfs.opens k.vfs.next_call ≡ None
    free = let none = old.below k.vfs.next_call (omega arith) in
        stands_none (get k.vfs.opens k.vfs.next_call) (omega (arith, none))

    unclosed_yet : get k.closing k.vfs.next_call ≡ None
    unclosed_yet = let none = old.below k.vfs.next_call (omega arith) in
        stands_none (get k.closing k.vfs.next_call) (omega (arith, none))

    stepped : (next : Advance Opened) → CallSteps c next.vfs k.vfs.next_call None
        → KeepsOpen k (advanced k k.vfs.next_call next) None
    stepped next steps = let kept = advanced_keeps k0 apart k.vfs.next_call free unclosed_yet
        (omega arith) next None steps in record { sums = kept.sums; apart = kept.apart }

    begins : (b : Beginning ℕ Opened) (file : Option (ℕ × Opened)) → BeginsAs k.vfs.opens b file
        → KeepsOpen k (closing_of (advanced k k.vfs.next_call (after_beginning c k.vfs.next_call b)) file) None
    begins b file (faults errno) = stepped (after_beginning c k.vfs.next_call b)
        (begun_steps c k.vfs.next_call b (faults errno))
    begins b file (leads words plan) = stepped (after_beginning c k.vfs.next_call b)
        (begun_steps c k.vfs.next_call b (leads words plan))
    begins b file (reads open_call operation o at is) =
        stepped (after_beginning c k.vfs.next_call b) (begun_steps c k.vfs.next_call b (reads open_call operation o at is))
    begins b file (ends open_call o at) =
        let d = answered c k.vfs.next_call answer.done in
        let before = stepped (record { vfs = d; operation = None }) (answered_steps c k.vfs.next_call answer.done) in
        let k1 = record k { vfs = record d { opens = remove d.opens open_call }; closing = put k.closing open_call o } in
        let closes : KeepsOpen k k1 None = record {
          sums = λ f. let same = closed_sum d k.closing before.apart open_call o at f in omega (arith, same);
          apart = closed_apart d k.closing before.apart open_call o at;
        } in
        then_keeps k k1 (released_if_idle k1 open_call) None closes (idle_keeps k1 closes.apart open_call)

    by : (b : Bool) → KeepsOpen k (closing_of (advanced k k.vfs.next_call (begun b k.vfs call))
        (cond b None (closed_by k.vfs.opens call))) None
    by true = stepped (begun true k.vfs call) (answered_steps c k.vfs.next_call _)
    by false = begins (beginning k.vfs.opens call) (closed_by k.vfs.opens call) (begins_as k.vfs.opens call)

-- ---- a signal reaches a call

-- What is answered before its request is read ends its use.
pub answered_keeps : (k : Kernel) → OpensApart k.vfs k.closing → (call : ℕ) (state : CallState Opened)
    → get k.vfs.calls call ≡ Some state → (a : Answer)
    → KeepsOpen k (after_use (record k { vfs = answered k.vfs call a }) state) None
answered_keeps k old call state there a =
    let none = call_apart k.vfs k.closing old call state there in
    let low = call_below k.vfs k.closing old call state there in
    let k1 = record k { vfs = answered k.vfs call a } in
    let steps = advanced_keeps k old call none.0 none.1 low
    (record { vfs = answered k.vfs call a; operation = None }) None (answered_steps k.vfs call a) in
    let first : KeepsOpen k k1 None = record { sums = steps.sums; apart = steps.apart } in
    then_keeps k k1 (after_use k1 state) None first (used_keeps k1 first.apart state)

pub signalled_keeps : (k : Kernel) → OpensApart k.vfs k.closing → ((u : ℕ) → key_count u k.queues.requests ≤ 1)
    → (call : ℕ) (state : CallState Opened) → get k.vfs.calls call ≡ Some state → (fatal : Bool)
    → KeepsOpen k (call_signalled k call state fatal).1 None
signalled_keeps k old once call state there fatal = by (request_of k call) refl
  where
    -- a request of a call releases nothing
    call_releases : (f : Opened → ℕ) (m : Mark) (kept : Purpose) → is_for call kept ≡ true
        → unread_sum f (record { mark = m; kept = kept }) ≡ 0
    call_releases f m purpose.Init e = absurd (true≢false (sym e))
    call_releases f m (purpose.Release o) e = absurd (true≢false (sym e))
    call_releases f m (purpose.Call other) e = unread_or_not (is_unread m)
      where
        unread_or_not : (b : Bool) → ◌≡◌ {A = ℕ} (cond b 0 0) 0
        unread_or_not true = refl
        unread_or_not false = refl

    effect : (unique : ℕ) (r : QueuedRequest Purpose) → request_under k.queues unique ≡ Some r
        → is_for call r.kept ≡ true → (x : IntrEffect) → KeepsOpen k
        (after_signal (record k { queues = after_effect k.queues unique x }) call state x) None
    effect unique r under mine Dequeued =
        let k1 = record k { queues = after_dequeue k.queues unique } in
        let first : KeepsOpen k k1 None = record {
          sums = λ f.
              let gone = ended_sum f k.queues k1.queues unique r under refl in
              let nothing = call_releases f r.mark r.kept mine in
              omega (arith, gone, nothing);
          apart = old;
        } in
        then_keeps k k1 _ None first (answered_keeps k1 old call state there (answer.failed 4))
    effect unique r under mine Flagged = record {
      sums = λ f.
          let same = marked_sum f k.queues (with_mark k.queues unique mark.Flagged) unique mark.Flagged r under refl in
          let was = call_releases f r.mark r.kept mine in
          let is = call_releases f mark.Flagged r.kept mine in
          omega (arith, same, was, is);
      apart = old;
    }
    effect unique r under mine Queued = record {
      sums = λ f.
          let same = marked_sum f k.queues (with_interrupt
          (with_mark k.queues unique mark.Interrupted) unique) unique mark.Interrupted r under refl in
          let was = call_releases f r.mark r.kept mine in
          let is = call_releases f mark.Interrupted r.kept mine in
          omega (arith, same, was, is);
      apart = old;
    }
    effect unique r under mine NoEffect = unmoved k old

    under_number : (unique : ℕ) → request_of k call ≡ Some unique → (o : Option (QueuedRequest Purpose))
        → request_under k.queues unique ≡ o
        → KeepsOpen k (after_signal (record k {
          queues =
              after_effect k.queues unique
              (option_map_or (λ r. signal_effect r.mark fatal k.queues.interrupts_off) o NoEffect);
        }) call state
        (option_map_or (λ r. signal_effect r.mark fatal k.queues.interrupts_off) o NoEffect)) None
    under_number unique found None under = unmoved k old
    under_number unique found (Some r) under =
        let entry = found_entry (λ (e : ℕ × QueuedRequest Purpose). is_for call e.1.kept) k.queues.requests unique
        (once unique) found in
        let same : entry.0 ≡ r = cc (entry.1, under) in
        effect unique r under (subst (λ (x : QueuedRequest Purpose). is_for call x.kept ≡ true) same entry.2)
        (signal_effect r.mark fatal k.queues.interrupts_off)

    by : (o : Option ℕ) → request_of k call ≡ o → KeepsOpen k (signalled_at k call state fatal o).1 None
    by None found = unmoved k old
    by (Some unique) found = under_number unique found (request_under k.queues unique) refl
