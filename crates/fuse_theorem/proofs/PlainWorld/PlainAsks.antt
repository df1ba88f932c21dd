-- What the plain world performs is replied to as its operation asks, and only what was interrupted is declined, whatever
-- step it takes.
use Rattle.fuse_spec.specs.Calls.Calls.{for_minor, lists_files_at}
use Rattle.std.proofs.Common.{◌≡◌, ◌≢◌, ℕ, ◌-◌, ◌≤◌, Bool, true, false, true≢false, not, ◌&&◌, nat_eq, cond, List, [], ◌∷◌, Option, Some, None, refl, ap, sym, subst, ◌∙◌, arith, inl, inr}
use Rattle.std.specs.Prelude.{nat_le, min, sum_by}
use Rattle.std.specs.List.{list_all}
use Rattle.fuse_spec.specs.declared.Minor.{Minor}
use Rattle.fuse_spec.specs.World.Worlds.{first_world}
use Rattle.std.proofs.lemmas.List.{length-take}
use Rattle.std.proofs.lemmas.Bool.Decides.{nat_tests}
use Rattle.std.proofs.lemmas.List.Sums.{sum_by-cons}
use Rattle.fuse_spec.specs.declared.IntrEffect.{IntrEffect}
use Rattle.fuse_spec.specs.declared.IntrEffect.TheVariants as effect
use Rattle.fuse_spec.specs.declared.Taken.TheVariants as word
use Rattle.fuse_spec.specs.declared.Validity.{Validity}
use Rattle.fuse_spec.specs.declared.WriteResult.TheVariants.{Accepted, NoEntry, Invalid}
use Rattle.fuse_spec.specs.World.Events.{Event, Outcome}
use Rattle.fuse_spec.specs.World.Events as event
use Rattle.fuse_spec.specs.Files.FileOperations.{FileOperation, Check, checks, first_refusal, refusal, reply_unrefused, reply_or, lookup_reply, reply_by}
use Rattle.fuse_spec.specs.Values.Maps.{Map, get, put, remove}
use Rattle.fuse_spec.specs.Files.Operations.{lookup, getattr, mkdir, create, unlink, rmdir, rename, link, opening, readdir, readdirplus, read, write, Dirent, DirentPlus, failed}
use Rattle.fuse_spec.specs.Files.Trees.{Tree, record_length, fitting, records_after, pair_length, fitting_pairs, pairs_after, file_at}
use Rattle.fuse_spec.specs.Calls.CallReplies.{call_replied}
use Rattle.fuse_spec.specs.Calls.Vfs.{CallState, begun}
use Rattle.fuse_spec.specs.Reference.Plain.{Plain, Ask, Stage, waiting, performed, declined, ask_put, plain_call_put, ask_performed, ask_declined, ask_delivered, ask_interrupted, ask_noted, ask_marked, plain_later, name_dropped, plain_aborted, plain_mounted, first_plain}
use Rattle.fuse_spec.specs.Reference.PlainSteps.{where_so, serving_ask, serving, delivering_to_call, delivering_reply, delivering, signalled_ask, plain_signalling, marking, takes, Takes}
use Rattle.fuse_spec.specs.Kernel.Kernel.{Kernel, is_live}
use Rattle.fuse_spec.specs.Reference.PlainCalls.{RepliesTo}
use Rattle.fuse_theorem.specs.AskedRequests.{IsInterrupted}
use Rattle.fuse_theorem.specs.PlainWitness.{AskServed, AsksServed}
use Rattle.fuse_theorem.proofs.Nodes.NodesSound.{put_found, left_found}

-- ---- replies

-- as many records as fit
fits : (room : ℕ) (records : List Dirent) → sum_by record_length (fitting room records) ≤ room
fits room [] = omega arith
fits room (r ∷ records) = by (nat_le (record_length r) room) refl (fits (room - record_length r) records)
  where
    by : (b : Bool) → nat_le (record_length r) room ≡ b
        → sum_by record_length (fitting (room - record_length r) records) ≤ room - record_length r
        → sum_by record_length (cond b (r ∷ fitting (room - record_length r) records) []) ≤ room
    by true fit rest =
        let enough : record_length r ≤ room = grind (arith, nat_tests, fit) in
        let total = sum_by-cons record_length r (fitting (room - record_length r) records) in
        omega (arith, enough, rest, total)
    by false fit rest = omega arith

-- as many names of a list as fit
fits_pairs : (room : ℕ) (pairs : List (DirentPlus ℕ)) → sum_by pair_length (fitting_pairs room pairs) ≤ room
fits_pairs room [] = omega arith
fits_pairs room (r ∷ pairs) = by (nat_le (pair_length r) room) refl (fits_pairs (room - pair_length r) pairs)
  where
    by : (b : Bool) → nat_le (pair_length r) room ≡ b
        → sum_by pair_length (fitting_pairs (room - pair_length r) pairs) ≤ room - pair_length r
        → sum_by pair_length (cond b (r ∷ fitting_pairs (room - pair_length r) pairs) []) ≤ room
    by true fit rest =
        let enough : pair_length r ≤ room = grind (arith, nat_tests, fit) in
        let total = sum_by-cons pair_length r (fitting_pairs (room - pair_length r) pairs) in
        omega (arith, enough, rest, total)
    by false fit rest = omega arith

refused_so : (operation : FileOperation) (errno : ℕ) → RepliesTo operation (failed errno)
refused_so (lookup d name) errno = tt
refused_so (getattr x) errno = tt
refused_so (mkdir d name) errno = tt
refused_so (create d name) errno = tt
refused_so (unlink d name) errno = tt
refused_so (rmdir d name) errno = tt
refused_so (rename d old e new) errno = tt
refused_so (link x d name) errno = tt
refused_so (opening x) errno = tt
refused_so (readdir d after size) errno = tt
refused_so (readdirplus d after size) errno = tt
refused_so (read o offset size) errno = tt
refused_so (write o offset bytes) errno = tt

unrefused_so : (valid : Validity) (tree : Tree) (operation : FileOperation)
    → RepliesTo operation (reply_unrefused valid tree operation)
unrefused_so valid tree (lookup d name) = by (file_at tree d name)
  where
    by : (o : Option ℕ) → RepliesTo (lookup d name) (lookup_reply valid o)
    by None = tt
    by (Some file) = tt
unrefused_so valid tree (getattr x) = tt
unrefused_so valid tree (mkdir d name) = tt
unrefused_so valid tree (create d name) = refl
unrefused_so valid tree (unlink d name) = tt
unrefused_so valid tree (rmdir d name) = tt
unrefused_so valid tree (rename d old e new) = tt
unrefused_so valid tree (link x d name) = tt
unrefused_so valid tree (opening x) = refl
unrefused_so valid tree (readdir d after size) = let few =
    fits (min size 4096) (records_after tree d after) in omega (arith, few)
unrefused_so valid tree (readdirplus d after size) = let few =
    fits_pairs (min size 4096) (pairs_after valid.found_ms tree d after) in omega (arith, few)
unrefused_so valid tree (read o offset size) = simp length-take (omega arith)
unrefused_so valid tree (write o offset bytes) = omega arith

replied_so : (valid : Validity) (tree : Tree) (operation : FileOperation)
    → RepliesTo operation (reply_by valid tree operation)
replied_so valid tree operation = by (refusal tree operation)
  where
    by : (o : Option ℕ) → RepliesTo operation (reply_or (reply_unrefused valid tree operation) o)
    by None = unrefused_so valid tree operation
    by (Some errno) = refused_so operation errno

-- ---- no operation on the tree is refused with EINTR

-- None of these checks refuses with EINTR.
abbrev none_interrupts : List Check → Bool
none_interrupts checks = list_all (λ (c : Check). not (nat_eq c.1 4)) checks

both_true : (a b : Bool) → a && b ≡ true → (a ≡ true) × (b ≡ true)
both_true true b h = (refl, h)
both_true false b h = absurd (true≢false (sym h))

none_refuses : (checks : List Check) → none_interrupts checks ≡ true → first_refusal checks ≢ Some 4
none_refuses [] ok e = absurd (cc (e))
none_refuses (c ∷ rest) ok e = let both = both_true (not (nat_eq c.1 4)) (none_interrupts rest) ok in
    by both.0 (none_refuses rest both.1) c.0 e
  where
    by : not (nat_eq c.1 4) ≡ true → first_refusal rest ≢ Some 4 → (b : Bool)
        → cond b (Some c.1) (first_refusal rest) ≡ Some 4 → ⊥
    by other none true f = let is : c.1 ≡ 4 = cc (f) in
        true≢false (sym other ∙ ap (λ (n : ℕ). not (nat_eq n 4)) is)
    by other none false f = none f

checks_never : (tree : Tree) (operation : FileOperation) → none_interrupts (checks tree operation) ≡ true
checks_never tree (lookup d name) = refl
checks_never tree (getattr x) = refl
checks_never tree (mkdir d name) = refl
checks_never tree (create d name) = refl
checks_never tree (unlink d name) = refl
checks_never tree (rmdir d name) = refl
checks_never tree (rename d old e new) = refl
checks_never tree (link x d name) = refl
checks_never tree (opening x) = refl
checks_never tree (readdir d after size) = refl
checks_never tree (readdirplus d after size) = refl
checks_never tree (read o offset size) = refl
checks_never tree (write o offset bytes) = refl

never_unrefused : (valid : Validity) (tree : Tree) (operation : FileOperation)
    → reply_unrefused valid tree operation ≢ failed 4
never_unrefused valid tree (lookup d name) e = by (file_at tree d name) e
  where
    by : (o : Option ℕ) → lookup_reply valid o ≡ failed 4 → ⊥
    by None f = absurd (cc (f))
    by (Some file) f = absurd (cc (f))
never_unrefused valid tree (getattr x) e = absurd (cc (e))
never_unrefused valid tree (mkdir d name) e = absurd (cc (e))
never_unrefused valid tree (create d name) e = absurd (cc (e))
never_unrefused valid tree (unlink d name) e = absurd (cc (e))
never_unrefused valid tree (rmdir d name) e = absurd (cc (e))
never_unrefused valid tree (rename d old e new) f = absurd (cc (f))
never_unrefused valid tree (link x d name) e = absurd (cc (e))
never_unrefused valid tree (opening x) e = absurd (cc (e))
never_unrefused valid tree (readdir d after size) e = absurd (cc (e))
never_unrefused valid tree (readdirplus d after size) e = absurd (cc (e))
never_unrefused valid tree (read o offset size) e = absurd (cc (e))
never_unrefused valid tree (write o offset bytes) e = absurd (cc (e))

never_interrupted : (valid : Validity) (tree : Tree) (operation : FileOperation)
    → reply_by valid tree operation ≢ failed 4
never_interrupted valid tree operation e = by (refusal tree operation)
    (none_refuses (checks tree operation) (checks_never tree operation)) e
  where
    by : (o : Option ℕ) → o ≢ Some 4 → reply_or (reply_unrefused valid tree operation) o ≡ failed 4 → ⊥
    by None none f = never_unrefused valid tree operation f
    by (Some errno) none f = let is : errno ≡ 4 = cc (f) in none (ap Some is)

-- ---- steps

module _ (k : Kernel) where
  -- The same asks.
  same_asks : (p q : Plain) → AsksServed k p → q.asks ≡ p.asks → AsksServed k q
  same_asks p q old same label ask at = old label ask (ap (λ (m : Map Ask). get m label) (sym same) ∙ at)

  -- One ask more, or changed.
  put_ask : (p q : Plain) → AsksServed k p → (label : ℕ) (new : Ask) → AskServed k label new
      → q.asks ≡ put p.asks label new → AsksServed k q
  put_ask p q old label new served same l ask at =
      elim (put_found p.asks label new l ask (ap (λ (m : Map Ask). get m l) (sym same) ∙ at)) [
        | inl h ↦ subst (λ (n : ℕ). AskServed k n ask) (sym h.0) (subst (AskServed k label) h.1 served)
        | inr h ↦ old l ask h
      ]

  -- One ask less.
  left_ask : (p q : Plain) → AsksServed k p → (label : ℕ) → q.asks ≡ remove p.asks label → AsksServed k q
  left_ask p q old label same l ask at = old l ask
      (left_found p.asks label l ask (ap (λ (m : Map Ask). get m l) (sym same) ∙ at))

  -- A call asks what it asks next.
  asking_served : (p : Plain) → AsksServed k p → (label call : ℕ) (o : Option FileOperation)
      → AsksServed k (ask_put p label call o)
  asking_served p old label call None = old
  asking_served p old label call (Some operation) =
      put_ask p (ask_put p label call (Some operation)) old label
      (record { call = call; operation = operation; stage = waiting; noted = false; marked = false })
      (record {
        replied = λ reply e. absurd (cc);
        not_interrupted = λ reply e. absurd (cc);
        interrupted = λ live e. absurd (cc);
      }) refl

module _ (k : Kernel) (p : Plain) (old : AsksServed k p) where
  -- a step where a condition holds
  where_served : (b : Bool) (x q : Plain) → AsksServed k x → where_so b x ≡ Some q → AsksServed k q
  where_served true x q served e = let is : x ≡ q = cc in subst (AsksServed k) is served
  where_served false x q served e = absurd (cc)

  some_served : (x q : Plain) → AsksServed k x → Some x ≡ Some q → AsksServed k q
  some_served x q served e = let is : x ≡ q = cc in subst (AsksServed k) is served

  noted_served : (label : ℕ) (ask : Ask) → AskServed k label ask → AsksServed k (ask_noted p label ask)
  noted_served label ask served = put_ask k p (ask_noted p label ask) old label (record ask { noted = true })
      (record {
        replied = served.replied;
        not_interrupted = served.not_interrupted;
        interrupted = served.interrupted;
      }) refl

  served_ask : (label : ℕ) (ask : Ask) → get p.asks label ≡ Some ask
      → (ask.marked ≡ true → is_live k.phase ≡ true → IsInterrupted k label) → (q : Plain) (stage : Stage)
      → serving_ask p label ask stage ≡ Some q → AsksServed k q
  served_ask label ask at marks q waiting = by ask.marked ask.noted refl
    where
      performs : AskServed k label (record ask { stage = performed (reply_by p.validity p.tree ask.operation) })
      performs = record {
        replied = λ reply e. let is : reply_by p.validity p.tree ask.operation ≡ reply =
            cc in subst (RepliesTo ask.operation) is (replied_so p.validity p.tree ask.operation);
        not_interrupted = λ reply e is. let same : reply_by p.validity p.tree ask.operation ≡ reply =
            cc (e) in never_interrupted p.validity p.tree ask.operation (same ∙ is);
        interrupted = λ live e. absurd (cc);
      }

      by : (b n : Bool) → ask.marked ≡ b → cond b (where_so n (ask_declined p label ask))
          (Some (ask_performed p label ask)) ≡ Some q → AsksServed k q
      by true true marked e =
          some_served (ask_declined p label ask) q (put_ask k p (ask_declined p label ask) old label
          (record ask { stage = declined }) (record {
            replied = λ reply f. absurd (cc);
            not_interrupted = λ reply f. absurd (cc);
            interrupted = λ live f. marks marked live;
          }) refl) e
      by true false marked e = absurd (cc)
      by false n marked e = some_served (ask_performed p label ask) q
          (put_ask k p (ask_performed p label ask) old label
          (record ask { stage = performed (reply_by p.validity p.tree ask.operation) }) performs refl) e
  served_ask label ask at marks q (performed reply) = λ e. absurd (cc)
  served_ask label ask at marks q declined = λ e. absurd (cc)

  replied_ask : (label next : ℕ) (ask : Ask) (q : Plain) (stage : Stage)
      → delivering_reply p label next ask stage ≡ Some q → AsksServed k q
  replied_ask label next ask q waiting e = absurd (cc)
  replied_ask label next ask q (performed reply) e = by (get p.vfs.calls ask.call) e
    where
      by : (o : Option (CallState ℕ)) → delivering_to_call p label next ask reply o ≡ Some q → AsksServed k q
      by None f = absurd (cc)
      by (Some state) f =
          where_served _ (ask_delivered p label next ask reply state) q
          (asking_served k (record p { asks = remove p.asks label; vfs = (call_replied p.vfs ask.call state reply).vfs })
          (left_ask k p (record p {
            asks = remove p.asks label;
            vfs = (call_replied p.vfs ask.call state reply).vfs;
          }) old label refl) next ask.call
          (call_replied p.vfs ask.call state reply).operation) f
  replied_ask label next ask q declined e = where_served _ (ask_interrupted p label ask) q
      (left_ask k p (ask_interrupted p label ask) old label refl) e

  signalled_served : (x : IntrEffect) (label : ℕ) (ask : Ask) → AskServed k label ask
      → AsksServed k (signalled_ask p x label ask)
  signalled_served effect.Dequeued label ask served = left_ask k p (ask_interrupted p label ask) old label refl
  signalled_served effect.Flagged label ask served = noted_served label ask served
  signalled_served effect.Queued label ask served = noted_served label ask served
  signalled_served effect.None label ask served = noted_served label ask served

  -- A step of the plain world, where the request of an ask that it declines was interrupted.
  pub step_served : (chosen : ℕ) (e : Event) (o : Outcome) (q : Plain)
      → ((unique : ℕ) → e ≡ event.perform unique → (ask : Ask) → get p.asks unique ≡ Some ask → ask.marked ≡ true
      → is_live k.phase ≡ true → IsInterrupted k unique)
      → takes chosen p e o ≡ Some q → AsksServed k q
  step_served chosen (event.call call) (event.begun number) q marks f =
      let went = begun p.aborted p.vfs (for_minor (lists_files_at p.minor) call) in
      let p1 = record p { vfs = went.vfs } in
      where_served _ (plain_call_put p chosen call) q (asking_served k p1
      (same_asks k p p1 old refl) chosen p.vfs.next_call went.operation) f
  step_served chosen (event.perform unique) (event.performed u errno lost) q marks f = by (get p.asks unique) refl f
    where
      by : (x : Option Ask) → get p.asks unique ≡ x → serving p unique x ≡ Some q → AsksServed k q
      by None at g = some_served p q old g
      by (Some ask) at g = served_ask unique ask at (marks unique refl ask at) q ask.stage g
  step_served chosen (event.write place) (event.written unique Accepted) q marks f = by (get p.asks unique) f
    where
      by : (x : Option Ask) → delivering p unique chosen x ≡ Some q → AsksServed k q
      by None g = some_served p q old g
      by (Some ask) g = replied_ask unique chosen ask q ask.stage g
  step_served chosen (event.write place) (event.written unique NoEntry) q marks f = some_served p q old f
  step_served chosen (event.write place) (event.written unique Invalid) q marks f = some_served p q old f
  step_served chosen (event.intr call fatal) (event.interrupted c x) q marks f = by (get p.asks chosen) refl f
    where
      by : (y : Option Ask) → get p.asks chosen ≡ y → plain_signalling p x call chosen y ≡ Some q → AsksServed k q
      by None at g = absurd (cc)
      by (Some ask) at g = where_served _ (signalled_ask p x chosen ask) q
          (signalled_served x chosen ask (old chosen ask at)) g
  step_served chosen (event.take place) (event.taken unique word.Marked) q marks f = by (get p.asks (unique - 1)) refl f
    where
      by : (x : Option Ask) → get p.asks (unique - 1) ≡ x → marking p (unique - 1) x ≡ Some q → AsksServed k q
      by None at g = some_served p q old g
      by (Some ask) at g =
          let served = old (unique - 1) ask at in
          some_served (ask_marked p (unique - 1) ask) q (put_ask k p (ask_marked p (unique - 1) ask) old (unique - 1)
          (record ask { marked = true }) (record {
            replied = served.replied;
            not_interrupted = served.not_interrupted;
            interrupted = served.interrupted;
          }) refl) g
  step_served chosen (event.take place) (event.taken unique other) q marks f = some_served p q old f
  step_served chosen (event.tick ms) (event.now clock) q marks f =
      where_served _ (plain_later p ms) q (same_asks k p (plain_later p ms) old refl) f
  step_served chosen (event.drop_name node name) event.dropped q marks f =
      some_served (name_dropped p chosen name) q (same_asks k p (name_dropped p chosen name) old refl) f
  step_served chosen event.abort event.aborted q marks f =
      some_served (plain_aborted p) q (same_asks k p (plain_aborted p) old refl) f
  step_served chosen (event.mount m n v) event.mounted q marks g =
      some_served (plain_mounted p (record { found_ms = m; missing_ms = n }) v) q (λ label ask at. absurd (cc)) g
  step_served chosen event.read_interrupt (event.is_read unique) q marks f = some_served p q old f
  step_served chosen (event.read_forgets n) (event.is_read unique) q marks f = some_served p q old f
  step_served chosen (event.read_pending place) (event.is_read unique) q marks f = some_served p q old f
  step_served chosen (event.again unique) (event.sent_again u) q marks f = some_served p q old f
  step_served chosen (event.settle place) (event.settled unique result) q marks f = some_served p q old f
  step_served chosen (event.evict node) (event.evicted n count) q marks f = some_served p q old f
  step_served chosen e o q marks f = absurd (cc)

-- After a mount there is no ask.
pub mount_served : (k : Kernel) (p : Plain) (m n : ℕ) (v : Minor) (o : Outcome) (q : Plain)
    → Takes p (event.mount m n v) o q → AsksServed k q
mount_served k p m n v o q t = by o t.1
  where
    by : (x : Outcome) → takes t.0 p (event.mount m n v) x ≡ Some q → AsksServed k q
    by event.mounted f = let is : plain_mounted p (record { found_ms = m; missing_ms = n }) v ≡ q = cc (f) in
        subst (AsksServed k) is (λ label ask at. absurd (cc))
    by x f = absurd (cc (f))

pub first_served : AsksServed first_world.kernel first_plain
first_served label ask at = absurd (cc)
