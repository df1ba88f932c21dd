-- What each call on the queues makes of the RELEASEs of a node.
use Rattle.std.proofs.Common.{◌≡◌, ◌≢◌, ℕ, ◌+◌, ◌<◌, ◌≤◌, Bool, true, false, cond, ◌||◌, List, [], ◌∷◌, ◌++◌, Option, Some, None, length, refl, ap, sym, ◌∙◌, arith, rules, nat_eq, nat_lt}
use Rattle.std.specs.Prelude.{option_map, slice_get, is_some, if◌then◌else◌}
use Rattle.std.specs.Option.{option_map_or}
use Rattle.std.specs.List.{list_any}
use Rattle.std.specs.Map.{lookup, remove_entry}
use Rattle.fuse_spec.specs.declared.IntrEffect.{IntrEffect}
use Rattle.fuse_spec.specs.declared.IntrEffect.TheVariants.{Dequeued, Flagged as IsFlagged, Queued, None as NoEffect}
use Rattle.fuse_spec.specs.declared.Mark.{Mark}
use Rattle.fuse_spec.specs.declared.Mark.TheVariants.{Unread, Flagged, Read, Interrupted}
use Rattle.fuse_spec.specs.declared.Purpose.{Purpose}
use Rattle.fuse_spec.specs.declared.QueuedRequest.{QueuedRequest}
use Rattle.fuse_spec.specs.Kernel.Kernel.{is_released_by}
use Rattle.fuse_spec.specs.Kernel.Signals.{signal_effect}
use Rattle.fuse_spec.specs.Kernel.Queues.{QueueState, is_unread, pending, request_under}
use Rattle.fuse_spec.specs.Kernel.QueueCalls.{set_mark, after_reading, after_read_pending, waiting, after_answer, interrupt_effect, after_effect, after_interrupt, without}
use Rattle.fuse_tables.specs.Tallies.{positive}
use Rattle.fk_opens.specs.Pins.{HavePins}
use Rattle.fk_queues.specs.Releases.{one_release, releases_of}

abbrev Entries : Type 0
Entries = List (ℕ × QueuedRequest Purpose)

pub released_last : (es : Entries) (e : ℕ × QueuedRequest Purpose) (node : ℕ)
    → releases_of (es ++ e ∷ []) node ≡ releases_of es node + one_release e.1.kept node
released_last [] e node = omega arith
released_last (x ∷ es) e node = let rest = released_last es e node in omega (arith, rest)

pub released_removed : (u : ℕ) (es : Entries) (r : QueuedRequest Purpose) (node : ℕ) → lookup (nat_eq u) es ≡ Some r
    → releases_of (remove_entry (nat_eq u) es) node + one_release r.kept node ≡ releases_of es node
released_removed u [] r node found =
    let no : ◌≡◌ {A = Option (QueuedRequest Purpose)} (Some r) None = sym found in
    cc
released_removed u (e ∷ es) r node found = by (nat_eq u e.0) found (released_removed u es r node)
  where
    by : (b : Bool) → cond b (Some e.1) (lookup (nat_eq u) es) ≡ Some r
        → (lookup (nat_eq u) es ≡ Some r
        → releases_of (remove_entry (nat_eq u) es) node + one_release r.kept node ≡ releases_of es node)
        → releases_of (cond b es (e ∷ remove_entry (nat_eq u) es)) node + one_release r.kept node
        ≡ one_release e.1.kept node + releases_of es node
    by true is rest =
        let same : e.1 ≡ r = cc is in
        let one : one_release e.1.kept node ≡ one_release r.kept node =
        ap (λ (x : QueuedRequest Purpose). one_release x.kept node) same in
        omega (arith, one)
    by false is rest = let left = rest is in omega (arith, left)

pub released_marked : (u : ℕ) (es : Entries) (m : Mark) (node : ℕ)
    → releases_of (set_mark u es m) node ≡ releases_of es node
released_marked u [] m node = refl
released_marked u (e ∷ es) m node = by (nat_eq u e.0) (released_marked u es m node)
  where
    by : (b : Bool) → releases_of (set_mark u es m) node ≡ releases_of es node
        → releases_of (cond b ((e.0, record { mark = m; kept = e.1.kept }) ∷ es) (e ∷ set_mark u es m)) node
        ≡ one_release e.1.kept node + releases_of es node
    by true rest = refl
    by false rest = ap (λ n. one_release e.1.kept node + n) rest

-- a node has no more RELEASEs than there are requests
pub releases_most : (es : Entries) (node : ℕ) → releases_of es node ≤ length es
releases_most [] node = omega arith
releases_most (e ∷ es) node =
    let rest = releases_most es node in
    let one = one_most (is_released_by node e.1.kept) in
    omega (arith, rest, one)
  where
    one_most : (b : Bool) → cond b 1 0 ≤ 1
    one_most true = omega arith
    one_most false = omega arith

-- a node has a RELEASE exactly where some request is one
pub is_releasing_is : (es : Entries) (node : ℕ)
    → nat_lt 0 (releases_of es node) ≡ list_any (λ (e : ℕ × QueuedRequest Purpose). is_released_by node e.1.kept) es
is_releasing_is [] node = refl
is_releasing_is (e ∷ es) node = by (is_released_by node e.1.kept) (is_releasing_is es node)
  where
    by : (b : Bool)
        → nat_lt 0 (releases_of es node) ≡ list_any (λ (x : ℕ × QueuedRequest Purpose). is_released_by node x.1.kept) es
        → nat_lt 0 (cond b 1 0 + releases_of es node)
        ≡ (b || list_any (λ (x : ℕ × QueuedRequest Purpose). is_released_by node x.1.kept) es)
    by true rest = some (1 + releases_of es node) (omega arith)
      where
        some : (n : ℕ) → 0 < n → nat_lt 0 n ≡ true
        some n h = grind (arith, h, rules)
    by false rest = ap (λ n. nat_lt 0 n) (omega arith) ∙ rest

-- as many pins as before are the same pins
pub same_pins : (counts : List (ℕ × ℕ)) (pins now : ℕ → ℕ) → HavePins counts pins → ((node : ℕ) → now node ≡ pins node)
    → HavePins counts now
same_pins counts pins now have same = record { counted = λ node. have.counted node ∙ ap positive (sym (same node)) }

module _ (s : QueueState Purpose) where
  -- to read a request changes its mark alone
  read_one : (u : ℕ) (mark : Mark) (node : ℕ)
      → releases_of (after_reading s u mark).requests node ≡ releases_of s.requests node
  read_one u Unread node = released_marked u s.requests Read node
  read_one u Flagged node = released_marked u s.requests Interrupted node
  read_one u Read node = refl
  read_one u Interrupted node = refl

  pub released_read : (place node : ℕ)
      → releases_of (after_read_pending s place).requests node ≡ releases_of s.requests node
  released_read place node = by (slice_get (pending s) place)
    where
      by : (o : Option (ℕ × QueuedRequest Purpose))
          → releases_of (option_map_or (λ e. after_reading s e.0 e.1.mark) o s).requests node
          ≡ releases_of s.requests node
      by None = refl
      by (Some e) = read_one e.0 e.1.mark node

  -- an answer takes its request out
  pub released_answered : (u : ℕ) (kept : Purpose) (node : ℕ) → waiting s u ≡ Some kept
      → releases_of (after_answer s u).requests node + one_release kept node ≡ releases_of s.requests node
  released_answered u kept node waits = by (request_under s u) refl waits
    where
      by : (o : Option (QueuedRequest Purpose)) → request_under s u ≡ o
          → option_map_or (λ r. if is_unread r.mark then None else Some r.kept) o None ≡ Some kept
          → releases_of (after_answer s u).requests node + one_release kept node ≡ releases_of s.requests node
      by None at is =
          let no : ◌≡◌ {A = Option Purpose} (Some kept) None = sym is in
          cc
      by (Some r) at is = read (is_unread r.mark) is
        where
          read : (b : Bool) → (if b then None else Some r.kept) ≡ Some kept
              → releases_of (after_answer s u).requests node + one_release kept node ≡ releases_of s.requests node
          read true never =
              let not : ◌≡◌ {A = Option Purpose} (Some kept) None = sym never in
              cc
          read false is =
              let same : r.kept ≡ kept = cc is in
              let one : one_release kept node ≡ one_release r.kept node =
              ap (λ (p : Purpose). one_release p node) (sym same) in
              let out : releases_of (after_answer s u).requests node
              ≡ releases_of (remove_entry (nat_eq u) s.requests) node =
              ap (λ (o : Option Purpose). releases_of
              (if is_some o then without s u else s).requests node) waits in
              let left = released_removed u s.requests r node at in
              omega (arith, one, out, left)

  -- a signal takes its request out where it dequeues it
  pub released_dequeued : (u : ℕ) (fatal : Bool) (kept : Purpose) (node : ℕ) → interrupt_effect s u fatal ≡ Dequeued
      → option_map (λ (r : QueuedRequest Purpose). r.kept) (request_under s u) ≡ Some kept
      → releases_of (after_interrupt s u fatal).requests node + one_release kept node ≡ releases_of s.requests node
  released_dequeued u fatal kept node effect is = by (request_under s u) refl is
    where
      by : (o : Option (QueuedRequest Purpose)) → request_under s u ≡ o
          → option_map (λ (r : QueuedRequest Purpose). r.kept) o ≡ Some kept
          → releases_of (after_interrupt s u fatal).requests node + one_release kept node ≡ releases_of s.requests node
      by None at never =
          let not : ◌≡◌ {A = Option Purpose} (Some kept) None = sym never in
          cc
      by (Some r) at same =
          let one : one_release kept node ≡ one_release r.kept node =
          ap (λ (p : Purpose). one_release p node) (cc same) in
          let out : releases_of (after_interrupt s u fatal).requests node
          ≡ releases_of (remove_entry (nat_eq u) s.requests) node =
          ap (λ (e : IntrEffect). releases_of (after_effect s u e).requests node) effect in
          let left = released_removed u s.requests r node at in
          omega (arith, one, out, left)

  -- a signal that dequeues a request found one
  pub dequeued_there : (u : ℕ) (fatal : Bool) → interrupt_effect s u fatal ≡ Dequeued
      → (kept : Purpose) × (option_map (λ (r : QueuedRequest Purpose). r.kept) (request_under s u) ≡ Some kept)
  dequeued_there u fatal effect = by (request_under s u) effect
    where
      by : (o : Option (QueuedRequest Purpose))
          → option_map_or (λ (r : QueuedRequest Purpose). signal_effect r.mark fatal s.interrupts_off) o NoEffect ≡ Dequeued
          → (kept : Purpose) × (option_map (λ (r : QueuedRequest Purpose). r.kept) o ≡ Some kept)
      by None never = absurd (differ never)
        where
          differ : NoEffect ≡ Dequeued → ⊥
          differ e = cc
      by (Some r) is = (r.kept, refl)

  -- any other signal changes a mark at most
  pub released_signalled : (u : ℕ) (fatal : Bool) (node : ℕ) → interrupt_effect s u fatal ≢ Dequeued
      → releases_of (after_interrupt s u fatal).requests node ≡ releases_of s.requests node
  released_signalled u fatal node other = by (interrupt_effect s u fatal) other
    where
      by : (e : IntrEffect) → e ≢ Dequeued
          → releases_of (after_effect s u e).requests node ≡ releases_of s.requests node
      by Dequeued apart = absurd (apart refl)
      by IsFlagged apart = released_marked u s.requests Flagged node
      by Queued apart = released_marked u s.requests Interrupted node
      by NoEffect apart = refl

  -- what was kept of the request that a signal dequeued
  pub took_out : (u : ℕ) (fatal : Bool) (effect : IntrEffect) (was taken : Option Purpose) (kept : Purpose)
      → effect ≡ interrupt_effect s u fatal
      → was ≡ option_map (λ (r : QueuedRequest Purpose). r.kept) (request_under s u)
      → (effect ≡ Dequeued → taken ≡ was) → (effect ≢ Dequeued → taken ≡ None) → taken ≡ Some kept
      → (interrupt_effect s u fatal ≡ Dequeued)
      × (option_map (λ (r : QueuedRequest Purpose). r.kept) (request_under s u) ≡ Some kept)
  took_out u fatal effect was taken kept is there same other at = by effect is same other
    where
      none : taken ≡ None → ⊥
      none void =
          let never : ◌≡◌ {A = Option Purpose} (Some kept) None = sym at ∙ void in
          cc

      by : (e : IntrEffect) → e ≡ interrupt_effect s u fatal → (e ≡ Dequeued → taken ≡ was)
          → (e ≢ Dequeued → taken ≡ None) → (interrupt_effect s u fatal ≡ Dequeued)
          × (option_map (λ (r : QueuedRequest Purpose). r.kept) (request_under s u) ≡ Some kept)
      by Dequeued of is_was is_none = (sym of, sym there ∙ sym (is_was refl) ∙ at)
      by IsFlagged of is_was is_none = absurd (none (is_none (λ e. cc)))
      by Queued of is_was is_none = absurd (none (is_none (λ e. cc)))
      by NoEffect of is_was is_none = absurd (none (is_none (λ e. cc)))

  -- a signal that took none out dequeued none
  pub took_none : (u : ℕ) (fatal : Bool) (effect : IntrEffect) (was taken : Option Purpose)
      → effect ≡ interrupt_effect s u fatal
      → was ≡ option_map (λ (r : QueuedRequest Purpose). r.kept) (request_under s u)
      → (effect ≡ Dequeued → taken ≡ was) → taken ≡ None → interrupt_effect s u fatal ≢ Dequeued
  took_none u fatal effect was taken is there same none dequeued =
      let found = dequeued_there u fatal dequeued in
      let no : ◌≡◌ {A = Option Purpose} (Some found.0) None =
      sym found.1 ∙ sym there ∙ sym (same (is ∙ dequeued)) ∙ none in
      cc
