-- What unanswered calls read and write is open in the kernel.
use Rattle.std.proofs.Common.{◌≡◌, ℕ, ◌+◌, ◌≤◌, Bool, cond, List, Option, Some, None, get_or, refl, ap, sym, subst, arith, ◌⊎◌, inl, inr, All}
use Rattle.std.proofs.lemmas.List.Elements.{All-nil}
use Rattle.fuse_spec.specs.declared.Opened.{Opened}
use Rattle.fuse_spec.specs.declared.Purpose.{Purpose}
use Rattle.fuse_spec.specs.declared.Purpose.TheVariants as purpose
use Rattle.fuse_spec.specs.Claim.Counts.{opens_of}
use Rattle.fuse_spec.specs.Values.Maps.{Map, get}
use Rattle.fuse_spec.specs.Kernel.Messages.{asks}
use Rattle.fuse_spec.specs.Files.Operations.{Operation}
use Rattle.fuse_spec.specs.Calls.Vfs.{CallState, walking, doing, using, asked, Vfs}
use Rattle.fuse_spec.specs.Kernel.Kernel.{Kernel, asked_by, body_of}
use Rattle.fuse_theorem.specs.AskedRequests.{IsAsked}
use Rattle.fuse_theorem.specs.OpenNumbers.{OpensApart, UsesOpen}
use Rattle.fuse_theorem.proofs.Calls.Finding.{same_is}
use Rattle.fuse_theorem.proofs.Lists.MapSums.{Rises, values_sum, worth, sum_gone}
use Rattle.fuse_theorem.proofs.Lists.OpenSums.{has_handle}

-- A value that is found is counted.
pub found_counted : {X : Type 0} (f : X → ℕ) (m : Map X) (k : ℕ) (x : X) → Rises m → get m k ≡ Some x
    → f x ≤ values_sum f m
found_counted f m k x rises at =
    let gone = sum_gone f m k rises in
    let mine = ap (worth f) at in
    omega (arith, gone, mine)

-- ---- what a call uses is counted

module _ (c : Vfs Opened) (closing : Map Opened) (apart : OpensApart c closing) where
  pub used_counted : (call : ℕ) (state : CallState Opened) → get c.calls call ≡ Some state
      → All (λ (o : Opened). 1 ≤ values_sum (has_handle o.fh) c.opens + values_sum (has_handle o.fh) closing)
      (opens_of (asked state))
  used_counted call state at = by state (apart.uses call state at)
    where
      same_number : (o : Opened) → has_handle o.fh o ≡ 1
      same_number o = ap {B = ℕ} (λ (b : Bool). cond b 1 0) (same_is o.fh)

      counted : (open_call : ℕ) (o : Opened) → (get c.opens open_call ≡ Some o) ⊎ (get closing open_call ≡ Some o)
          → 1 ≤ values_sum (has_handle o.fh) c.opens + values_sum (has_handle o.fh) closing
      counted open_call o (inl h) =
          let one = same_number o in
          let all = found_counted (has_handle o.fh) c.opens open_call o apart.opens h in
          omega (arith, one, all)
      counted open_call o (inr h) =
          let one = same_number o in
          let all = found_counted (has_handle o.fh) closing open_call o apart.closing h in
          omega (arith, one, all)

      by : (s : CallState Opened) → UsesOpen c.opens closing s
          → All (λ (o : Opened). 1 ≤ values_sum (has_handle o.fh) c.opens + values_sum (has_handle o.fh) closing)
          (opens_of (asked s))
      by (walking d word words plan) h = All-nil (λ (o : Opened). 1 ≤ values_sum (has_handle o.fh) c.opens + values_sum
          (has_handle o.fh) closing)
      by (doing operation) h = subst (λ (os : List Opened). All
          (λ (o : Opened). 1 ≤ values_sum (has_handle o.fh) c.opens + values_sum (has_handle o.fh) closing) os) (sym h)
          (All-nil (λ (o : Opened). 1 ≤ values_sum (has_handle o.fh) c.opens + values_sum (has_handle o.fh) closing))
      by (using open_call operation) h = λ i d lt. counted open_call (get_or (opens_of operation) i d) (h i d lt)

-- A request of a call asks what the call waits for.
pub asked_state : (k : Kernel) (unique : ℕ) (operation : Operation ℕ Opened) → IsAsked k unique (asks operation)
    → (call : ℕ) × (state : CallState Opened) × (get k.vfs.calls call ≡ Some state) × (asked state ≡ operation)
asked_state k unique operation is = by is.request.kept is.asks
  where
    of_call : (call : ℕ) (o : Option (CallState Opened)) → get k.vfs.calls call ≡ o
        → asked_by o ≡ Some (asks operation) → (x : ℕ) × (state : CallState Opened) × (get k.vfs.calls x ≡ Some state)
        × (asked state ≡ operation)
    of_call call None at e = absurd (cc (e))
    of_call call (Some state) at e = let same : asked state ≡ operation = cc (e) in (call, state, at, same)

    by : (kept : Purpose) → body_of k kept ≡ Some (asks operation)
        → (x : ℕ) × (state : CallState Opened) × (get k.vfs.calls x ≡ Some state) × (asked state ≡ operation)
    by purpose.Init e = absurd (cc (e))
    by (purpose.Release o) e = absurd (cc (e))
    by (purpose.Call call) e = of_call call (get k.vfs.calls call) refl e
