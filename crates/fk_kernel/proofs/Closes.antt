-- What a close of an open file makes of the kernel.
use Rattle.std.proofs.Common.{◌≡◌, ◌≢◌, ℕ, ◌+◌, ◌<◌, ◌^◌, Bool, true, false, not, cond, [], ◌∷◌, length, nat_eq, Option, Some, None, ◌≤◌, refl, sym, ap, ◌∙◌, inl, inr, arith}
use Rattle.std.specs.Prelude.{nat_le}
use Rattle.std.specs.List.{list_any}
use Rattle.std.proofs.lemmas.Bool.Decides.{eqb_tells}
use Rattle.std.specs.declared.cmp.Ordering.{Ordering}
use Rattle.std.specs.declared.cmp.Ordering.TheVariants.{Less, Equal, Greater}
use Rattle.std.specs.Ordering.{nat_cmp, is_eq}
use Rattle.std.specs.FinMap.Entries.{by_order}
use Rattle.fuse_spec.specs.declared.Opened.{Opened}
use Rattle.fuse_spec.specs.declared.Purpose.TheVariants.{Release}
use Rattle.fuse_spec.specs.Calls.Answers as answer
use Rattle.fuse_spec.specs.Calls.Calls as call
use Rattle.fuse_spec.specs.Kernel.Kernel.{Kernel, is_aborted, is_using, is_used, released, released_if_idle, closed, call_begun}
use Rattle.fuse_spec.specs.Values.Maps.{Map, get, put, remove, values}
use Rattle.fuse_spec.specs.Kernel.QueueCalls.{after_enqueue}
use Rattle.fuse_spec.specs.Calls.Vfs.{Vfs, answered, numbered}
use Rattle.fuse_spec.proofs.Tables.{cmp_same, get_put_here}
use Rattle.fuse_spec.specs.Kernel.Refusals.{is_ready, is_kernel_past_end, or_no_memory}
use Rattle.fuse_spec.specs.Kernel.Uniques.{numbers_left_from}
use Rattle.fuse_spec.specs.declared.Refusal.TheVariants.{NoMemory, Exhausted}
use Rattle.std.proofs.lemmas.Bool.Decides.{nat_tests}
use Rattle.fk_kernel.specs.Refused.{begun_refusal}
use Rattle.fk_kernel.proofs.Beginnings.{by_tests, unrefused, past_end}
use Rattle.fk_kernel.proofs.Phases.{none_past_end}
use Rattle.fk_kernel.proofs.Sound.{gone_absent}

-- what is put at a new key goes with it
pub gone_put : {V : Type 0} (m : Map V) (k : ℕ) (v : V) → get m k ≡ None → remove (put m k v) k ≡ m
gone_put [] k v none = elim (eqb_tells k k) as (λ r. remove ((k, v) ∷ []) k
    ≡ []) [ inl h ↦ rw h.0 refl | inr h ↦ absurd (h.1 refl) ]
gone_put {V} (e ∷ m) k v none = by (λ rest. gone_put m k v rest) (nat_cmp k e.0) refl none
  where
    alone : (es : Map V) → cond (not (nat_eq k k)) ((k, v) ∷ remove es k) (remove es k) ≡ remove es k
    alone es = elim (eqb_tells k k) [ inl h ↦ rw h.0 refl | inr h ↦ absurd (h.1 refl) ]

    behind : (get m k ≡ None → remove (put m k v) k ≡ m) → e.0 ≢ k → get m k ≡ None
        → cond (not (nat_eq e.0 k)) (e ∷ remove (put m k v) k) (remove (put m k v) k) ≡ e ∷ m
    behind inner apart rest = elim (eqb_tells e.0 k) [
      | inl h ↦ absurd (apart h.1)
      | inr h ↦ rw h.0
          (ap (λ (t : Map V). e ∷ t) (inner rest))
    ]

    by : (get m k ≡ None → remove (put m k v) k ≡ m) → (r : Ordering) → nat_cmp k e.0 ≡ r
        → cond (is_eq r) (Some e.1) (get m k) ≡ None → remove
        (by_order r ((k, v) ∷ e ∷ m) ((e.0, v) ∷ m) (e ∷ put m k v)) k ≡ e ∷ m
    by inner Less at rest = alone (e ∷ m) ∙ gone_absent (e ∷ m) k none
    by inner Equal at rest =
        let no : ◌≡◌ {A = Option V} (Some e.1) None = rest in
        cc
    by inner Greater at rest = behind inner (λ same.
        let no : Equal ≡ Greater = sym (cmp_same k) ∙ ap (λ (n : ℕ). nat_cmp k n) (sym same) ∙ at in
        cc) rest

-- The side of the system calls once the file is closed.
abbrev pub shut : Vfs Opened → ℕ → Vfs Opened
shut c open_call = answered (record (numbered c) { opens = remove c.opens open_call }) c.next_call answer.done

module _ (k : Kernel) (open_call : ℕ) (file : Opened) (going : is_aborted k.phase ≡ false)
    (is_open : get k.vfs.opens open_call ≡ Some file) (none : get k.closing open_call ≡ None)
    (fresh : get k.vfs.calls k.vfs.next_call ≡ None) where
  abbrev after : Kernel
  after = record k { vfs = shut k.vfs open_call; closing = put k.closing open_call file }

  closes : call_begun k (call.close open_call) ≡ closed (record k { vfs = shut k.vfs open_call }) open_call (Some file)
  closes = rw (going, is_open) refl

  lets_go : closed (record k { vfs = shut k.vfs open_call }) open_call (Some file) ≡ released after open_call (Some file)
  lets_go = ap (released after open_call) (get_put_here k.closing open_call file)

  same_use : is_used after open_call ≡ is_used k open_call
  same_use = ap (λ calls. list_any (is_using open_call) (values calls)) (gone_absent k.vfs.calls k.vfs.next_call fresh)

  pub closes_idle : is_used k open_call ≡ false → call_begun k (call.close open_call)
      ≡ record k { vfs = shut k.vfs open_call; queues = after_enqueue k.queues (Release file) }
  closes_idle idle =
      closes ∙ lets_go ∙ ap (λ (b : Bool). record after {
        closing = cond b after.closing (remove after.closing open_call);
        queues = cond b k.queues (after_enqueue k.queues (Release file));
      }) (same_use ∙ idle)
      ∙ ap (λ (m : Map Opened). record after { closing = m; queues = after_enqueue k.queues (Release file) })
      (gone_put k.closing open_call file none)

  pub closes_in_use : is_used k open_call ≡ true → call_begun k (call.close open_call) ≡ after
  closes_in_use used =
      closes ∙ lets_go ∙ ap (λ (b : Bool). record after {
        closing = cond b after.closing (remove after.closing open_call);
        queues = cond b k.queues (after_enqueue k.queues (Release file));
      }) (same_use ∙ used)

  -- why it is refused, or not
  module _ (ready : is_ready k.phase ≡ true) (few : length k.vfs.calls < 64) (low : k.vfs.next_call < 2 ^ 62) where
    full : nat_le 64 (length k.vfs.calls) ≡ false
    full = grind (arith, nat_tests, few)

    pub idle_refusal : is_used k open_call ≡ false → or_no_memory (begun_refusal k (call.close open_call))
        ≡ cond (nat_eq (numbers_left_from k.queues.next) 0) Exhausted NoMemory
    idle_refusal idle = by_tests _ _ _ _ ready full (ap is_kernel_past_end
        (closes_idle idle) ∙ past_end k.queues.next k.vfs.next_call low)

    pub used_unrefused : is_used k open_call ≡ true → k.queues.next ≤ 2 ^ 62 → begun_refusal k (call.close open_call) ≡ None
    used_unrefused used high = unrefused _ _ _ ready full
        (ap is_kernel_past_end (closes_in_use used) ∙ none_past_end k.queues.next (k.vfs.next_call + 1) high (omega arith))

-- A close of no open file fails.
module _ (k : Kernel) (open_call : ℕ) (going : is_aborted k.phase ≡ false)
    (not_open : get k.vfs.opens open_call ≡ None) where
  pub closes_none : call_begun k (call.close open_call)
      ≡ record k { vfs = answered (numbered k.vfs) k.vfs.next_call (answer.failed 9) }
  closes_none = rw (going, not_open) refl

  pub none_unrefused : is_ready k.phase ≡ true → length k.vfs.calls < 64 → k.vfs.next_call < 2 ^ 62
      → k.queues.next ≤ 2 ^ 62 → begun_refusal k (call.close open_call) ≡ None
  none_unrefused ready few low high =
      let full : nat_le 64 (length k.vfs.calls) ≡ false = grind (arith, nat_tests, few) in
      unrefused _ _ _ ready full
      (ap is_kernel_past_end closes_none ∙ none_past_end k.queues.next (k.vfs.next_call + 1) high (omega arith))

  pub closed_none : (new : Kernel) → new.vfs ≡ answered (numbered k.vfs) k.vfs.next_call (answer.failed 9)
      → new ≡ record k { vfs = new.vfs } → new ≡ call_begun k (call.close open_call)
  closed_none new vfs same = same ∙ ap (λ (v : Vfs Opened). record k { vfs = v }) vfs ∙ sym closes_none

-- a closed file that is used waits, and one that is not is released
module _ (k : Kernel) (open_call : ℕ) where
  abbrev by_use : Bool → Opened → Kernel
  by_use b opened = record k {
    closing = cond b k.closing (remove k.closing open_call);
    queues = cond b k.queues (after_enqueue k.queues (Release opened));
  }

  pub released_used : is_used k open_call ≡ true → released_if_idle k open_call ≡ k
  released_used used = by (get k.closing open_call)
    where
      by : (o : Option Opened) → released k open_call o ≡ k
      by None = refl
      by (Some opened) = ap (λ (b : Bool). by_use b opened) used

  pub released_none : get k.closing open_call ≡ None → released_if_idle k open_call ≡ k
  released_none none = ap (released k open_call) none

  pub released_some : (opened : Opened) → get k.closing open_call ≡ Some opened → is_used k open_call ≡ false
      → released_if_idle k open_call ≡ record k {
        closing = remove k.closing open_call;
        queues = after_enqueue k.queues (Release opened);
      }
  released_some opened at idle = ap (released k open_call) at ∙ ap (λ (b : Bool). by_use b opened) idle
