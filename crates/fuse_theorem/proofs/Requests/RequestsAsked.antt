-- What is on the request link or held is what the kernel asks, whatever happens.
use Rattle.std.proofs.Common.{◌≡◌, ◌≢◌, ℕ, ◌≤◌, ◌<◌, Bool, true, false, true≢false, List, Option, Some, None, ◌⊎◌, nat_eq, slice_get, get_or, count_by, length, refl, ap, sym, subst, ◌∙◌, arith, inl, inr}
use Rattle.std.specs.Prelude.{◌%◌, nat_lt}
use Rattle.std.proofs.lemmas.Bool.Decides.{nat_tests}
use Rattle.fuse_spec.specs.declared.Mark.{Mark}
use Rattle.fuse_spec.specs.declared.Mark.TheVariants as mark
use Rattle.fuse_spec.specs.declared.Purpose.{Purpose}
use Rattle.fuse_spec.specs.declared.QueuedRequest.{QueuedRequest}
use Rattle.fuse_spec.specs.Values.Maps.{get}
use Rattle.fuse_spec.specs.Kernel.Messages.{Request, RequestBody, init, asks, release, forget, batch_forget, interrupt}
use Rattle.fuse_spec.specs.Kernel.Queues.{QueueState, IsSound, is_unread, has_interrupt, request_under}
use Rattle.fuse_spec.specs.Kernel.Kernel.{Kernel, body_of}
use Rattle.fuse_spec.specs.Server.Server.{HeldRequest}
use Rattle.fuse_spec.specs.World.Worlds.{World, Sent}
use Rattle.fuse_spec.proofs.QueueCounts.{lookup-no_key, key_count}
use Rattle.fuse_theorem.specs.AskedRequests.{serves_call, IsAsked, IsInterrupted, SentAsked, HeldAsked, RequestsAsked}
use Rattle.fuse_theorem.specs.Unperformed.{unperformed, RequestsSound}
use Rattle.fuse_theorem.proofs.Calls.Finding.{same_is, none_passes}
use Rattle.fuse_theorem.proofs.Requests.DrawnNumbers.{number_below, number_even}
use Rattle.fuse_theorem.proofs.Refining.Queuing.{All-at}
use Rattle.fuse_theorem.proofs.Requests.StandsOnce.{one_held}
use Rattle.fuse_theorem.proofs.Requests.AskKept.{StillThere, Follows}
use Rattle.fuse_theorem.proofs.Requests.AwaitedKept.{Answers}

-- ---- one request

-- It is asked still where it is there still.
asked_if : (k l : Kernel) (unique : ℕ) (body : RequestBody) → (old : IsAsked k unique body)
    → StillThere k l unique old.request → IsAsked l unique body
asked_if k l unique body old x = record {
  request = x.now;
  under = x.under;
  read = x.read;
  asks = ap (body_of l) x.same_kept ∙ x.asks ∙ old.asks;
}

-- a request whose INTERRUPT was queued was read
interrupted_read : (m : Mark) → has_interrupt m ≡ true → is_unread m ≡ false
interrupted_read mark.Unread e = absurd (true≢false (sym e))
interrupted_read mark.Flagged e = absurd (true≢false (sym e))
interrupted_read mark.Read e = refl
interrupted_read mark.Interrupted e = refl

-- How what is interrupted stays so: numbers rise, none comes again, and what was read is there still or gone.
pub record Keeps (k l : Kernel) : Type 0 where
  pub rises : k.queues.next ≤ l.queues.next
  pub absent : (unique : ℕ) → unique < k.queues.next → request_under k.queues unique ≡ None
      → request_under l.queues unique ≡ None
  pub still : (unique : ℕ) (r : QueuedRequest Purpose) → request_under k.queues unique ≡ Some r
      → is_unread r.mark ≡ false → StillThere k l unique r ⊎ (request_under l.queues unique ≡ None)

pub interrupted_still : (k l : Kernel) → Keeps k l → (unique : ℕ) → IsInterrupted k unique → IsInterrupted l unique
interrupted_still k l keeps unique old =
    let rises = keeps.rises in
    let low = old.allocated in
    record {
      even = old.even;
      allocated = omega (arith, rises, low);
      marked = λ r under. (both r under (request_under k.queues unique) refl).0;
      of_call =
          λ r under. (both r under (request_under k.queues unique) refl).1;
    }
  where
    both : (r : QueuedRequest Purpose) → request_under l.queues unique ≡ Some r → (o : Option (QueuedRequest Purpose))
        → request_under k.queues unique ≡ o → (has_interrupt r.mark ≡ true) × (serves_call r.kept ≡ true)
    both r under None was = absurd (cc (under, keeps.absent unique old.allocated was))
    both r under (Some x) was = elim (keeps.still unique x was (interrupted_read x.mark (old.marked x was))) [
      | inl there ↦
          let same : there.now ≡ r = let at = there.under in cc in (
            subst (λ (y : QueuedRequest Purpose). has_interrupt y.mark ≡ true) same (there.marked (old.marked x was)),
            subst (λ (y : QueuedRequest Purpose). serves_call y.kept ≡ true) same
                (ap serves_call there.same_kept ∙ old.of_call x was),
          )
      | inr gone ↦ absurd (cc (under, gone))
    ]

-- What is on the link stays so.
sent_still : (k l : Kernel) → Keeps k l → (unique : ℕ) (body : RequestBody)
    → ((old : IsAsked k unique body) → StillThere k l unique old.request) → SentAsked k unique body
    → SentAsked l unique body
sent_still k l keeps unique (init flags) there old = asked_if k l unique (init flags) old (there old)
sent_still k l keeps unique (asks operation) there old = asked_if k l unique (asks operation) old (there old)
sent_still k l keeps unique (release o) there old = asked_if k l unique (release o) old (there old)
sent_still k l keeps unique (forget f) there old = tt
sent_still k l keeps unique (batch_forget fs) there old = tt
sent_still k l keeps unique (interrupt original) there old = interrupted_still k l keeps original old

-- ---- the kernel goes on

module _ (w : World) (old : RequestsAsked w) where
  -- What the server holds stays so.
  held_still : (l : Kernel) → Keeps w.kernel l → ((unique : ℕ) (t : HeldRequest) → get w.server.held unique ≡ Some t
      → (x : IsAsked w.kernel unique t.body) → StillThere w.kernel l unique x.request)
      → (unique : ℕ) (t : HeldRequest) → get w.server.held unique ≡ Some t → HeldAsked l unique t
  held_still l keeps there unique t at =
      let x = old.held unique t at in
      record {
        is_asked = asked_if w.kernel l unique t.body x.is_asked (there unique t at x.is_asked);
        interrupted = λ e. interrupted_still w.kernel l keeps unique (x.interrupted e);
      }

  pub moved_asked : (l : Kernel) → Follows w.kernel l → w.kernel.queues.next ≤ l.queues.next
      → ((unique : ℕ) → unique < w.kernel.queues.next → request_under w.kernel.queues unique ≡ None
      → request_under l.queues unique ≡ None)
      → RequestsAsked (record w { kernel = l })
  moved_asked l follows rises absent = record {
    sent = λ i d lt. let r = get_or w.requests i d in
        sent_still w.kernel l keeps r.unique r.body (λ x. follows.still r.unique x.request x.under x.read)
        (old.sent i d lt);
    held = held_still l keeps (λ unique t at x. follows.still unique x.request x.under x.read);
    signals = follows.signals old.signals;
    first = follows.first old.first;
  }
    where
      keeps : Keeps w.kernel l
      keeps = record {
        rises = rises;
        absent = absent;
        still = λ unique r under read. inl (follows.still unique r under read);
      }

-- ---- a reply is written

-- a number that has a request is even
pub request_even : (q : QueueState Purpose) → IsSound q → (unique : ℕ) (r : QueuedRequest Purpose)
    → request_under q unique ≡ Some r → unique % 2 ≡ 0
request_even q sound unique r under = by (nat_lt 0 (key_count unique q.requests)) refl
  where
    by : (b : Bool) → nat_lt 0 (key_count unique q.requests) ≡ b → unique % 2 ≡ 0
    by true e = number_even q sound unique (grind (arith, nat_tests, e))
    by false e = absurd (cc (under, lookup-no_key unique q.requests (grind (arith, nat_tests, e))))

-- and was allocated
pub request_below : (q : QueueState Purpose) → IsSound q → (unique : ℕ) (r : QueuedRequest Purpose)
    → request_under q unique ≡ Some r → unique < q.next
request_below q sound unique r under = by (nat_lt 0 (key_count unique q.requests)) refl
  where
    by : (b : Bool) → nat_lt 0 (key_count unique q.requests) ≡ b → unique < q.next
    by true e = number_below q sound unique (grind (arith, nat_tests, e))
    by false e = absurd (cc (under, lookup-no_key unique q.requests (grind (arith, nat_tests, e))))

-- one that stands is counted
stands_counted : (unique : ℕ) (xs : List Request) (i : ℕ) (d : Request) → i < length xs
    → (get_or xs i d).unique ≡ unique → 1 ≤ count_by (λ (r : Request). nat_eq unique r.unique) xs
stands_counted unique xs i d lt is = by (nat_lt 0 (count_by (λ (r : Request). nat_eq unique r.unique) xs)) refl
  where
    by : (b : Bool) → nat_lt 0 (count_by (λ (r : Request). nat_eq unique r.unique) xs) ≡ b
        → 1 ≤ count_by (λ (r : Request). nat_eq unique r.unique) xs
    by true e = grind (arith, nat_tests, e)
    by false e =
        let fails = none_passes (λ (r : Request). nat_eq unique r.unique) xs (grind (arith, nat_tests, e)) i d lt in
        absurd (true≢false (sym (same_is unique) ∙ ap (nat_eq unique) (sym is) ∙ fails))

module _ (w : World) (old : RequestsAsked w) (queues : IsSound w.kernel.queues) (requests : RequestsSound w) (k : ℕ)
    (sent : Sent) (at_k : slice_get w.replies k ≡ Some sent) where
  -- what is not performed has no copy
  not_performed : (unique : ℕ) → unique % 2 ≡ 0 → 1 ≤ unperformed w unique → unique ≢ sent.unique
  not_performed unique even stands e = let none = requests.unanswered unique even stands in
      All-at (λ (s : Sent). s.unique ≢ unique) w.replies k sent none.copies at_k (sym e)

  pub written_asked : (l : Kernel) → Answers w.kernel l sent.unique → w.kernel.queues.next ≤ l.queues.next
      → ((unique : ℕ) → unique < w.kernel.queues.next → request_under w.kernel.queues unique ≡ None
      → request_under l.queues unique ≡ None)
      → RequestsAsked (record w { kernel = l })
  written_asked l answers rises absent = record {
    sent = λ i d lt.
        let r = get_or w.requests i d in
        sent_still w.kernel l keeps r.unique r.body (λ x. there r.unique x.request x.under x.read
        (let counted = stands_counted r.unique w.requests i d lt refl in omega (arith, counted))) (old.sent i d lt);
    held = held_still w old l keeps (λ unique t at x. there unique x.request x.under x.read
        (let one : one_held (get w.server.held unique) ≡ 1 = ap one_held at in omega (arith, one)));
    signals = answers.signals old.signals;
    first = answers.first old.first;
  }
    where
      keeps : Keeps w.kernel l
      keeps = record {
        rises = rises;
        absent = absent;
        still = λ unique r under read. elim
            (answers.still unique r under read) [ inl x ↦ inl x | inr gone ↦ inr gone.1 ];
      }

      there : (unique : ℕ) (r : QueuedRequest Purpose) → request_under w.kernel.queues unique ≡ Some r
          → is_unread r.mark ≡ false → 1 ≤ unperformed w unique → StillThere w.kernel l unique r
      there unique r under read stands = elim (answers.still unique r under read) [
        | inl x ↦ x
        | inr gone ↦ absurd (not_performed unique (request_even w.kernel.queues queues unique r under) stands gone.0)
      ]
