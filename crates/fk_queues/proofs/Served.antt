-- What each call on the queues makes of the requests of calls.
use Rattle.std.proofs.Common.{◌≡◌, ◌≢◌, ℕ, ◌<◌, Bool, true, false, cond, not, List, [], ◌∷◌, ◌++◌, Option, Some, None, T, refl, ap, sym, ◌∙◌, arith, rules, nat_eq, inl, inr, append_assoc, append-nil}
use Rattle.std.specs.Prelude.{option_map, slice_get, is_some, if◌then◌else◌, find}
use Rattle.std.specs.FinMap.{is_sorted}
use Rattle.std.specs.List.{All}
use Rattle.std.specs.Map.{lookup, remove_entry}
use Rattle.std.specs.Option.{option_map_or}
use Rattle.std.specs.Ordering.{nat_cmp}
use Rattle.std.proofs.lemmas.Bool.Decides.{eqb_tells}
use Rattle.std.proofs.lemmas.List.Elements.{All-cons, All-head, All-tail}
use Rattle.fuse_spec.specs.declared.IntrEffect.{IntrEffect}
use Rattle.fuse_spec.specs.declared.IntrEffect.TheVariants.{Dequeued, Flagged as IsFlagged, Queued, None as NoEffect}
use Rattle.fuse_spec.specs.declared.Mark.{Mark}
use Rattle.fuse_spec.specs.declared.Mark.TheVariants.{Unread, Flagged, Read, Interrupted}
use Rattle.fuse_spec.specs.declared.Purpose.{Purpose}
use Rattle.fuse_spec.specs.declared.Purpose.TheVariants.{Init, Release, Call}
use Rattle.fuse_spec.specs.declared.QueuedRequest.{QueuedRequest}
use Rattle.fuse_spec.specs.Kernel.Kernel.{is_for}
use Rattle.fuse_spec.specs.Kernel.Queues.{QueueState, is_unread, pending, request_under}
use Rattle.fuse_spec.specs.Kernel.QueueCalls.{set_mark, after_reading, after_read_pending, waiting, after_answer, interrupt_effect, after_effect, after_interrupt, without}
use Rattle.fuse_spec.specs.Values.Maps.{remove}
use Rattle.fuse_tables.proofs.Rows.{absent_is, none_past_first, both_second}
use Rattle.fk_queues.specs.KernelQueues.{served_by, served_in, without_served}

abbrev Entries : Type 0
Entries = List (ℕ × QueuedRequest Purpose)

-- a request that is queued goes last
pub served_last : (es : Entries) (e : ℕ × QueuedRequest Purpose)
    → served_in (es ++ e ∷ []) ≡ served_in es ++ served_by e.0 e.1.kept
served_last [] e = append-nil (served_by e.0 e.1.kept)
served_last (x ∷ es) e =
    ap (λ (m : List (ℕ × ℕ)). served_by x.0 x.1.kept ++ m) (served_last es e)
    ∙ sym (append_assoc (served_by x.0 x.1.kept) (served_in es) (served_by e.0 e.1.kept))

-- numbers below a number are below it among the requests of calls
pub served_above : (n : ℕ) (es : Entries) → All (λ e. e.0 < n) es → All (λ e. e.0 < n) (served_in es)
served_above n [] above = λ k d lt. absurd (omega arith)
served_above n (e ∷ es) above =
    by e.1.kept (All-head (λ (x : ℕ × QueuedRequest Purpose). x.0 < n) e es above)
    (served_above n es (All-tail (λ (x : ℕ × QueuedRequest Purpose). x.0 < n) e es above))
  where
    by : (p : Purpose) → e.0 < n → All (λ (x : ℕ × ℕ). x.0 < n) (served_in es)
        → All (λ (x : ℕ × ℕ). x.0 < n) (served_by e.0 p ++ served_in es)
    by Init first rest = rest
    by (Release opened) first rest = rest
    by (Call call) first rest = All-cons (λ (x : ℕ × ℕ). x.0 < n) (e.0, call) (served_in es) first rest

-- a request that ends is none of those of calls
pub served_removed : (u : ℕ) (es : Entries) (r : QueuedRequest Purpose) → T (is_sorted nat_cmp (served_in es))
    → lookup (nat_eq u) es ≡ Some r → served_in (remove_entry (nat_eq u) es) ≡ without_served u r.kept (served_in es)
served_removed u [] r sorted found =
    let no : ◌≡◌ {A = Option (QueuedRequest Purpose)} (Some r) None = sym found in
    cc
served_removed u (e ∷ es) r sorted found =
    elim (eqb_tells u e.0) [
      | inl h ↦
          let is : e.1 ≡ r = first (sym (ap (λ b. cond b (Some e.1) (lookup (nat_eq u) es)) h.0) ∙ found) in
          ap (λ b. served_in (cond b es (e ∷ remove_entry (nat_eq u) es))) h.0 ∙ gone e.1.kept h.1 sorted
          ∙ ap (λ (x : QueuedRequest Purpose). without_served u x.kept (served_in (e ∷ es))) is
      | inr h ↦
          let rest = served_removed u es r (behind e.1.kept sorted)
          (sym (ap (λ b. cond b (Some e.1) (lookup (nat_eq u) es)) h.0) ∙ found) in
          ap (λ b. served_in (cond b es (e ∷ remove_entry (nat_eq u) es))) h.0 ∙ stays e.1.kept r.kept (other h.1) rest
    ]
  where
    first : ◌≡◌ {A = Option (QueuedRequest Purpose)} (Some e.1) (Some r) → e.1 ≡ r
    first same = cc

    other : u ≢ e.0 → nat_eq e.0 u ≡ false
    other apart = grind (arith, apart, rules)

    behind : (p : Purpose) → T (is_sorted nat_cmp (served_by e.0 p ++ served_in es))
        → T (is_sorted nat_cmp (served_in es))
    behind Init rises = rises
    behind (Release opened) rises = rises
    behind (Call call) rises = both_second _ _ rises

    gone : (p : Purpose) → u ≡ e.0 → T (is_sorted nat_cmp (served_by e.0 p ++ served_in es))
        → served_in es ≡ without_served u p (served_by e.0 p ++ served_in es)
    gone Init same rises = refl
    gone (Release opened) same rises = refl
    gone (Call call) same rises =
        sym (ap (λ (b : Bool). cond (not b) ((e.0, call) ∷ remove (served_in es) u) (remove (served_in es) u)) (tied same)
        ∙ absent_is (served_in es) u (none_past_first (e.0, call) (served_in es) u rises (sym same)))
      where
        tied : u ≡ e.0 → nat_eq e.0 u ≡ true
        tied is = grind (arith, is, rules)

    stays : (p q : Purpose) → nat_eq e.0 u ≡ false
        → served_in (remove_entry (nat_eq u) es) ≡ without_served u q (served_in es)
        → served_by e.0 p ++ served_in (remove_entry (nat_eq u) es)
        ≡ without_served u q (served_by e.0 p ++ served_in es)
    stays Init q apart rest = rest
    stays (Release opened) q apart rest = rest
    stays (Call call) Init apart rest = ap (λ (m : List (ℕ × ℕ)). (e.0, call) ∷ m) rest
    stays (Call call) (Release opened) apart rest = ap (λ (m : List (ℕ × ℕ)). (e.0, call) ∷ m) rest
    stays (Call call) (Call ended) apart rest =
        ap (λ (m : List (ℕ × ℕ)). (e.0, call) ∷ m) rest
        ∙ sym (ap (λ (b : Bool). cond (not b) ((e.0, call) ∷ remove (served_in es) u) (remove (served_in es) u)) apart)

-- a mark changes none of them
pub served_marked : (u : ℕ) (es : Entries) (m : Mark) → served_in (set_mark u es m) ≡ served_in es
served_marked u [] m = refl
served_marked u (e ∷ es) m = by (nat_eq u e.0) (served_marked u es m)
  where
    by : (b : Bool) → served_in (set_mark u es m) ≡ served_in es
        → served_in (cond b ((e.0, record { mark = m; kept = e.1.kept }) ∷ es) (e ∷ set_mark u es m))
        ≡ served_by e.0 e.1.kept ++ served_in es
    by true rest = refl
    by false rest = ap (λ (n : List (ℕ × ℕ)). served_by e.0 e.1.kept ++ n) rest

-- the first that serves a call is the first request that does
pub first_served : (call : ℕ) (es : Entries)
    → option_map (λ (e : ℕ × ℕ). e.0) (find (λ (e : ℕ × ℕ). nat_eq e.1 call) (served_in es))
    ≡ option_map (λ (e : ℕ × QueuedRequest Purpose). e.0)
    (find (λ (e : ℕ × QueuedRequest Purpose). is_for call e.1.kept) es)
first_served call [] = refl
first_served call (e ∷ es) = by e.1.kept (first_served call es)
  where
    by : (p : Purpose)
        → option_map (λ (x : ℕ × ℕ). x.0) (find (λ (x : ℕ × ℕ). nat_eq x.1 call) (served_in es))
        ≡ option_map (λ (x : ℕ × QueuedRequest Purpose). x.0)
        (find (λ (x : ℕ × QueuedRequest Purpose). is_for call x.1.kept) es)
        → option_map (λ (x : ℕ × ℕ). x.0) (find (λ (x : ℕ × ℕ). nat_eq x.1 call) (served_by e.0 p ++ served_in es))
        ≡ option_map (λ (x : ℕ × QueuedRequest Purpose). x.0)
        (cond (is_for call p) (Some e) (find (λ (x : ℕ × QueuedRequest Purpose). is_for call x.1.kept) es))
    by Init rest = rest
    by (Release opened) rest = rest
    by (Call other) rest = serves (nat_eq other call) rest
      where
        serves : (b : Bool)
            → option_map (λ (x : ℕ × ℕ). x.0) (find (λ (x : ℕ × ℕ). nat_eq x.1 call) (served_in es))
            ≡ option_map (λ (x : ℕ × QueuedRequest Purpose). x.0)
            (find (λ (x : ℕ × QueuedRequest Purpose). is_for call x.1.kept) es)
            → option_map (λ (x : ℕ × ℕ). x.0)
            (cond b (Some (e.0, other)) (find (λ (x : ℕ × ℕ). nat_eq x.1 call) (served_in es)))
            ≡ option_map (λ (x : ℕ × QueuedRequest Purpose). x.0)
            (cond b (Some e) (find (λ (x : ℕ × QueuedRequest Purpose). is_for call x.1.kept) es))
        serves true same = refl
        serves false same = same

module _ (s : QueueState Purpose) where
  -- to read a request changes its mark alone
  read_one : (u : ℕ) (mark : Mark) → served_in (after_reading s u mark).requests ≡ served_in s.requests
  read_one u Unread = served_marked u s.requests Read
  read_one u Flagged = served_marked u s.requests Interrupted
  read_one u Read = refl
  read_one u Interrupted = refl

  pub served_read : (place : ℕ) → served_in (after_read_pending s place).requests ≡ served_in s.requests
  served_read place = by (slice_get (pending s) place)
    where
      by : (o : Option (ℕ × QueuedRequest Purpose))
          → served_in (option_map_or (λ e. after_reading s e.0 e.1.mark) o s).requests ≡ served_in s.requests
      by None = refl
      by (Some e) = read_one e.0 e.1.mark

  -- an answer takes its request out
  pub served_answered : (u : ℕ) (kept : Purpose) → T (is_sorted nat_cmp (served_in s.requests))
      → waiting s u ≡ Some kept
      → served_in (after_answer s u).requests ≡ without_served u kept (served_in s.requests)
  served_answered u kept sorted waits = by (request_under s u) refl waits
    where
      by : (o : Option (QueuedRequest Purpose)) → request_under s u ≡ o
          → option_map_or (λ r. if is_unread r.mark then None else Some r.kept) o None ≡ Some kept
          → served_in (after_answer s u).requests ≡ without_served u kept (served_in s.requests)
      by None at is =
          let no : ◌≡◌ {A = Option Purpose} (Some kept) None = sym is in
          cc
      by (Some r) at is = read (is_unread r.mark) is
        where
          read : (b : Bool) → (if b then None else Some r.kept) ≡ Some kept
              → served_in (after_answer s u).requests ≡ without_served u kept (served_in s.requests)
          read true never =
              let not : ◌≡◌ {A = Option Purpose} (Some kept) None = sym never in
              cc
          read false is =
              let same : r.kept ≡ kept = cc is in
              ap (λ (o : Option Purpose). served_in (if is_some o then without s u else s).requests) waits
              ∙ served_removed u s.requests r sorted at
              ∙ ap (λ (p : Purpose). without_served u p (served_in s.requests)) same

  -- a signal takes its request out where it dequeues it
  pub served_dequeued : (u : ℕ) (fatal : Bool) (kept : Purpose) → T (is_sorted nat_cmp (served_in s.requests))
      → interrupt_effect s u fatal ≡ Dequeued
      → option_map (λ (r : QueuedRequest Purpose). r.kept) (request_under s u) ≡ Some kept
      → served_in (after_interrupt s u fatal).requests ≡ without_served u kept (served_in s.requests)
  served_dequeued u fatal kept sorted effect is = by (request_under s u) refl is
    where
      by : (o : Option (QueuedRequest Purpose)) → request_under s u ≡ o
          → option_map (λ (r : QueuedRequest Purpose). r.kept) o ≡ Some kept
          → served_in (after_interrupt s u fatal).requests ≡ without_served u kept (served_in s.requests)
      by None at never =
          let not : ◌≡◌ {A = Option Purpose} (Some kept) None = sym never in
          cc
      by (Some r) at same =
          let one : r.kept ≡ kept = cc same in
          ap (λ (e : IntrEffect). served_in (after_effect s u e).requests) effect
          ∙ served_removed u s.requests r sorted at
          ∙ ap (λ (p : Purpose). without_served u p (served_in s.requests)) one

  -- any other signal changes a mark at most
  pub served_signalled : (u : ℕ) (fatal : Bool) → interrupt_effect s u fatal ≢ Dequeued
      → served_in (after_interrupt s u fatal).requests ≡ served_in s.requests
  served_signalled u fatal other = by (interrupt_effect s u fatal) other
    where
      by : (e : IntrEffect) → e ≢ Dequeued → served_in (after_effect s u e).requests ≡ served_in s.requests
      by Dequeued apart = absurd (apart refl)
      by IsFlagged apart = served_marked u s.requests Flagged
      by Queued apart = served_marked u s.requests Interrupted
      by NoEffect apart = refl
