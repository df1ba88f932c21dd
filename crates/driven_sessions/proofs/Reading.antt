-- A request is read from the kernel: its number was never sent, and none is read under it again.
use Rattle.std.proofs.Common.{◌≡◌, ℕ, ◌+◌, ◌-◌, ◌≤◌, ◌<◌, ◌%◌, ◌^◌, Bool, true, false, true≢false, cond, List, [], ◌∷◌, Option, Some, None, drop, take, nat_eq, nat_lt, option_map, slice_get, refl, ap, sym, subst, ◌∙◌, arith}
use Rattle.std.specs.Prelude.{◌&&◌}
use Rattle.std.specs.Option.{option_map_or}
use Rattle.std.proofs.lemmas.Bool.{false≢true}
use Rattle.std.proofs.lemmas.Bool.Decides.{nat_tests}
use Rattle.fuse_spec.specs.declared.Opened.{Opened}
use Rattle.fuse_spec.specs.declared.Purpose.{Purpose}
use Rattle.fuse_spec.specs.declared.Purpose.TheVariants as purpose
use Rattle.fuse_spec.specs.Calls.Vfs.{CallState}
use Rattle.fuse_spec.specs.Kernel.Kernel.{Kernel, asked_by, body_of, forgets_singly, is_live}
use Rattle.fuse_spec.specs.Kernel.Messages.{Forget, Request, RequestBody}
use Rattle.fuse_spec.specs.Kernel.QueueCalls.{after_reading, can_read_forgets}
use Rattle.fuse_spec.specs.Kernel.Queues.{QueueState, is_unread, pending}
use Rattle.fuse_spec.specs.Values.Maps.{get}
use Rattle.fuse_spec.specs.World.Worlds.{forget_body}
use Rattle.fuse_spec.proofs.QueueCounts.{key_count}
use Rattle.fk_kernel.specs.Picks.{IsPicked, after_pick, pick_refusal}
use Rattle.fk_kernel.specs.declared.read.Pick.{Pick}
use Rattle.fk_kernel.specs.declared.read.Pick.TheVariants.{Interrupt, Forgets, Pending}
use Rattle.fk_drive.specs.Driving.{Driven, picked}
use Rattle.fk_drive_theorem.proofs.OneEach.{OneEach}
use Rattle.fuse_sessions.specs.Sessions.{Session}
use Rattle.driven_sessions.proofs.Frames.{is_interrupt}
use Rattle.driven_sessions.proofs.Numbers.{Entry, IsRead, Numbered, each_at, none_from, numbered_later, passed_later, reading_numbered, reading_passed, reading_passes}
use Rattle.driven_sessions.proofs.Spent.{HeldRight, IsNumber, Keeps, KernelKeeps, Spent, held, number_keeps, of_kernel, own, some_request}
use Rattle.driven_sessions.proofs.Steps.{when_alive}

-- What a pick gives: a request, and a kernel that keeps what it did. No number that was read is that of the request.
pub record Picks (old new : Kernel) (request : Request) : Type 0 where
  pub keeps : KernelKeeps old new
  pub right : HeldRight new request
  pub fresh : (u : ℕ) → IsNumber u old → request.unique ≡ u → ⊥

abbrev interrupts_in : Option RequestBody → Bool
interrupts_in None = false
interrupts_in (Some body) = is_interrupt body

-- A request that was queued is no INTERRUPT.
pub queued : (k : Kernel) (p : Purpose) (body : RequestBody) → body_of k p ≡ Some body → is_interrupt body ≡ false
queued k purpose.Init body is = sym (ap interrupts_in is)
queued k (purpose.Release opened) body is = sym (ap interrupts_in is)
queued k (purpose.Call call) body is = by (get k.vfs.calls call) is
  where
    by : (o : Option (CallState Opened)) → asked_by o ≡ Some body → is_interrupt body ≡ false
    by None is = sym (ap interrupts_in is)
    by (Some state) is = sym (ap interrupts_in is)

pub forgetting : (fs : List Forget) → is_interrupt (forget_body fs) ≡ false
forgetting [] = refl
forgetting (f ∷ []) = refl
forgetting (f ∷ g ∷ fs) = refl

module _ (k : Kernel) (live : is_live k.phase ≡ true) (numbered : Numbered k.queues) (one : OneEach k.queues)
    (within : k.queues.next ≤ 2 ^ 62) where
  after : Pick → Kernel
  after pick = record k { queues = after_pick k.queues pick }

  -- an INTERRUPT
  interrupting : (request : Request) → IsPicked k Interrupt request
      → Picks k (record k { queues = record k.queues { interrupts = drop 1 k.queues.interrupts } }) request
  interrupting request is = record {
    keeps = record {
      numbered = λ w alive. numbered_later k.queues (record k.queues { interrupts = drop 1 k.queues.interrupts }) refl
          (omega arith) numbered.next (w alive);
      passed = λ u w alive. passed_later u k.queues (record k.queues { interrupts = drop 1 k.queues.interrupts }) refl
          (omega arith) (w alive);
      dead = λ dead. dead;
    };
    right = record {
      interrupt = λ i. odd;
      request = λ other. absurd (true≢false (sym (ap (λ (r : Request). is_interrupt r.body) is.is) ∙ other));
    };
    fresh = λ u n same. let even = n.even in omega (arith, odd, even, same);
  }
    where
      odd : request.unique % 2 ≡ 1
      odd =
          let unique : request.unique ≡ is.original - is.original % 2 + 1 = ap (λ (r : Request). r.unique) is.is in
          omega (arith, unique)

  -- a FORGET or a BATCH_FORGET
  forgets : (count : ℕ) (request : Request) → IsPicked k (Forgets count) request
      → (record k { queues = after_pick k.queues (Forgets count) }).queues.next ≤ 2 ^ 62
      → Picks k (record k { queues = after_pick k.queues (Forgets count) }) request
  forgets count request is = by (can_read_forgets k.queues count) refl
    where
      unique : request.unique ≡ k.queues.next
      unique = ap (λ (r : Request). r.unique) is.is

      other : is_interrupt request.body ≡ false
      other = ap (λ (r : Request). is_interrupt r.body) is.is ∙ forgetting is.forgets

      unread : (c b : Bool) → b ≡ false → ◌≡◌ {A = Option (ℕ × List Forget)}
          (cond {A = Option (ℕ × List Forget)} c None (cond {A = Option (ℕ × List Forget)} b
          (Some (k.queues.next, take count k.queues.forgets)) None)) (Some (request.unique, is.forgets)) → ⊥
      unread true b failed e = cc e
      unread false true failed e = false≢true (sym failed)
      unread false false failed e = cc e

      by : (b : Bool) → can_read_forgets k.queues count ≡ b
          → (cond b (record k.queues { forgets = drop count k.queues.forgets; next = k.queues.next + 2 }) k.queues).next
          ≤ 2 ^ 62
          → Picks k (record k {
            queues = cond b (record k.queues { forgets = drop count k.queues.forgets; next = k.queues.next + 2 }) k.queues;
          }) request
      by false can few = absurd (unread (forgets_singly k.minor && nat_lt 1 count) (can_read_forgets k.queues count) can is.first)
      by true can few =
          let later : QueueState Purpose =
          record k.queues { forgets = drop count k.queues.forgets; next = k.queues.next + 2 } in
          let even = numbered.next in
          record {
            keeps = record {
              numbered = λ w alive.
                  numbered_later k.queues later refl (omega arith) (omega (arith, even)) (w alive);
              passed = λ u w alive. passed_later u k.queues later refl (omega arith) (w alive);
              dead = λ dead. dead;
            };
            right = record {
              interrupt = λ i. absurd (true≢false (sym i ∙ other));
              request = λ o. record {
                even = ap (λ (n : ℕ). n % 2) unique ∙ numbered.next;
                low = omega (arith, unique, few);
                passed = λ alive. record {
                  low = omega (arith, unique);
                  read = none_from request.unique k.queues.next (omega (arith, unique)) k.queues.requests
                      numbered.requests;
                };
              };
            };
            fresh = λ u n same. let low = n.passed live in let under = low.low in omega (arith, under, same, unique);
          }

  -- a pending request
  pending_one : (place : ℕ) (request : Request) → IsPicked k (Pending place) request
      → Picks k (record k { queues = after_pick k.queues (Pending place) }) request
  pending_one place request is = by (slice_get (pending k.queues) place) refl is.pending
    where
      first_of : Option (ℕ × Purpose) → ℕ
      first_of None = 0
      first_of (Some p) = p.0

      same_unique : (e : Entry) → ◌≡◌ {A = Option (ℕ × Purpose)} (Some (e.0, e.1.kept)) (Some (request.unique, is.purpose)) → e.0 ≡ request.unique
      same_unique e at = ap first_of at

      other : is_interrupt request.body ≡ false
      other = queued k is.purpose request.body is.body

      of_entry : (e : Entry) → slice_get (pending k.queues) place ≡ Some e → e.0 ≡ request.unique
          → Picks k (record k { queues = after_reading k.queues e.0 e.1.mark }) request
      of_entry e at unique =
          let known = each_at (λ x. (x.0 % 2 ≡ 0) × (x.0 < k.queues.next)) (λ x. is_unread x.1.mark) k.queues.requests
          place e numbered.requests at in
          let even = known.1.0 in
          let low = known.1.1 in
          let few : key_count e.0 k.queues.requests ≤ 1 = once (nat_lt e.0 k.queues.next) (one e.0) in
          record {
            keeps = record {
              numbered = λ w alive. reading_numbered k.queues e.0 e.1.mark (w alive);
              passed = λ u w alive. reading_passed k.queues e.0 e.1.mark u (w alive);
              dead = λ dead. dead;
            };
            right = record {
              interrupt = λ i. absurd (true≢false (sym i ∙ other));
              request = λ o. subst (λ (n : ℕ). IsNumber n (record k { queues = after_reading k.queues e.0 e.1.mark })) unique
                  (record {
                    even = even;
                    low = omega (arith, low, within);
                    passed = λ alive. reading_passes k.queues e.0 e.1.mark low few known.0;
                  });
            };
            fresh = λ u n same.
                let passed = n.passed live in
                let seen = each_at (IsRead u) (λ x. is_unread x.1.mark) k.queues.requests place e passed.read at in
                let equal : nat_eq u e.0 ≡ true = grind (arith, nat_tests, unique, same) in
                true≢false (sym seen.0 ∙ seen.1 equal);
          }
        where
          once : (b : Bool) → key_count e.0 k.queues.requests ≤ cond b 1 0 → key_count e.0 k.queues.requests ≤ 1
          once true le = le
          once false le = omega (arith, le)

      by : (o : Option Entry) → slice_get (pending k.queues) place ≡ o
          → option_map {U = ℕ × Purpose} (λ (e : Entry). (e.0, e.1.kept)) o ≡ Some (request.unique, is.purpose)
          → Picks k (record k { queues = option_map_or (λ (e : Entry). after_reading k.queues e.0 e.1.mark) o k.queues }) request
      by None at found = cc found
      by (Some e) at found = of_entry e at (same_unique e found)

  pub picks : (pick : Pick) (request : Request) → IsPicked k pick request
      → (record k { queues = after_pick k.queues pick }).queues.next ≤ 2 ^ 62
      → Picks k (record k { queues = after_pick k.queues pick }) request
  picks Interrupt request is few = interrupting request is
  picks (Forgets count) request is few = forgets count request is few
  picks (Pending place) request is few = pending_one place request is

-- it was read of a live mount
pub picked_alive : (k : Kernel) (pick : Pick) → pick_refusal k pick ≡ None → is_live k.phase ≡ true
picked_alive k Interrupt may = when_alive k _ may
picked_alive k (Forgets count) may = when_alive k _ may
picked_alive k (Pending place) may = when_alive k _ may

-- It is held then.
pub reads_keeps : (mounts : ℕ) (d : Driven) (s : Session) (new : Kernel) (request : Request) → Keeps mounts d s
    → held d.turn ≡ None → is_live d.kernel.phase ≡ true → Picks d.kernel new request
    → Keeps mounts (record d { kernel = new; turn = picked request }) s
reads_keeps mounts d s new request keeps idles live picks = record {
  numbered = let kernel = picks.keeps in kernel.numbered keeps.numbered;
  holds = λ r is. subst (HeldRight new) (some_request request r is) picks.right;
  low = keeps.low;
  even = keeps.even;
  spent = λ u is. by u (keeps.spent u is);
  before = λ zero. absurd (true≢false (sym live ∙ (keeps.before zero).0));
}
  where
    by : (u : ℕ) → Spent mounts d u → Spent mounts (record d { kernel = new; turn = picked request }) u
    by u (own high low) = own high low
    by u (of_kernel some n free) = of_kernel some (number_keeps u d.kernel new picks.keeps n)
        (λ r is same. picks.fresh u n (ap (λ (q : Request). q.unique) (some_request request r is) ∙ same))
