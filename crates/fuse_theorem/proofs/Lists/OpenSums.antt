-- Sums over the files that are open, closing or to be released.
use Rattle.std.proofs.Common.{◌≡◌, ℕ, ◌+◌, ◌≤◌, Bool, true, false, cond, List, [], ◌∷◌, ◌++◌, nat_eq, refl, ap, sym, ◌∙◌, arith, All}
use Rattle.std.specs.Prelude.{sum_by}
use Rattle.std.proofs.lemmas.List.Elements.{All-nil, All-cons, All-head, All-tail}
use Rattle.std.proofs.lemmas.List.Sums.{sum_by-cons, sum_by-append}
use Rattle.fuse_spec.specs.declared.Opened.{Opened}
use Rattle.fuse_spec.specs.declared.Purpose.{Purpose}
use Rattle.fuse_spec.specs.declared.Purpose.TheVariants as purpose
use Rattle.fuse_spec.specs.declared.QueuedRequest.{QueuedRequest}
use Rattle.fuse_spec.specs.Values.Maps.{Map, get, values}
use Rattle.fuse_spec.specs.Kernel.Queues.{QueueState, pending}
use Rattle.fuse_spec.specs.Kernel.Messages.{Request, RequestBody, init, asks, release, forget, batch_forget, interrupt}
use Rattle.fuse_spec.specs.Kernel.Kernel.{Kernel}
use Rattle.fuse_spec.specs.Server.Server.{HeldRequest}
use Rattle.fuse_spec.specs.Claim.Counts.{OpenBalance, handle_count, open_in_kernel, open_in_flight, opens_in, releases_in, releases_for, result_carries}
use Rattle.fuse_spec.specs.World.Worlds.{World, Sent}
use Rattle.fuse_theorem.specs.OpenNumbers.{released_for, released_by, all_released, released_pending, released_sent, released_held, open_files}
use Rattle.fuse_theorem.proofs.Lists.LinkSums.{sum_same}
use Rattle.fuse_theorem.proofs.Lists.MapSums.{values_sum}

-- ---- any weight of open files

module _ (f : Opened → ℕ) where
  abbrev pub pending_sum : QueueState Purpose → ℕ
  pending_sum q = sum_by (λ (e : ℕ × QueuedRequest Purpose). sum_by f (released_for e.1.kept)) (pending q)

  abbrev pub sent_sum : List Request → ℕ
  sent_sum requests = sum_by (λ (r : Request). sum_by f (released_by r.body)) requests

  abbrev pub held_sum : Map HeldRequest → ℕ
  held_sum held = values_sum (λ (t : HeldRequest). sum_by f (released_by t.body)) held

  -- those of the kernel
  abbrev pub kernel_sum : Kernel → ℕ
  kernel_sum k = values_sum f k.vfs.opens + values_sum f k.closing + pending_sum k.queues

  pub released_sum : {X : Type 0} (released : X → List Opened) (xs : List X)
      → sum_by f (all_released released xs) ≡ sum_by (λ x. sum_by f (released x)) xs
  released_sum released [] = refl
  released_sum released (x ∷ xs) =
      let rest = released_sum released xs in
      let both = sum_by-append f (released x) (all_released released xs) in
      let whole = sum_by-cons (λ y. sum_by f (released y)) x xs in
      omega (arith, rest, both, whole)

  pub open_sum : (w : World) → sum_by f (open_files w)
      ≡ kernel_sum w.kernel + sent_sum w.requests + held_sum w.server.held
  open_sum w =
      let opens = values w.kernel.vfs.opens in
      let closing = values w.kernel.closing in
      let waits = released_pending w.kernel.queues in
      let sent = released_sent w.requests in
      let held = released_held w.server.held in
      let a = sum_by-append f (opens ++ closing ++ waits ++ sent) held in
      let b = sum_by-append f (opens ++ closing ++ waits) sent in
      let c = sum_by-append f (opens ++ closing) waits in
      let d = sum_by-append f opens closing in
      let x = released_sum (λ (e : ℕ × QueuedRequest Purpose). released_for e.1.kept) (pending w.kernel.queues) in
      let y = released_sum (λ (r : Request). released_by r.body) w.requests in
      let z = released_sum (λ (t : HeldRequest). released_by t.body) (values w.server.held) in
      omega (arith, a, b, c, d, x, y, z)

-- ---- the weight that counts a number

abbrev pub has_handle : ℕ → Opened → ℕ
has_handle fh o = cond (nat_eq o.fh fh) 1 0

-- How often copies carry the number, refused ones among them.
abbrev pub copies_carry : ℕ → World → ℕ
copies_carry fh w = sum_by (λ (s : Sent). opens_in fh s.wire) w.replies + sum_by
    (result_carries (opens_in fh) w.server) w.results

releases_for_is : (fh : ℕ) (kept : Purpose) → sum_by (has_handle fh) (released_for kept) ≡ releases_for fh kept
releases_for_is fh purpose.Init = refl
releases_for_is fh (purpose.Release o) = let one = sum_by-cons (has_handle fh) o [] in omega (arith, one)
releases_for_is fh (purpose.Call call) = refl

releases_in_is : (fh : ℕ) (body : RequestBody) → sum_by (has_handle fh) (released_by body) ≡ releases_in fh body
releases_in_is fh (init flags) = refl
releases_in_is fh (asks operation) = refl
releases_in_is fh (release o) = let one = sum_by-cons (has_handle fh) o [] in omega (arith, one)
releases_in_is fh (forget f) = refl
releases_in_is fh (batch_forget fs) = refl
releases_in_is fh (interrupt original) = refl

-- What the balance counts: open files, and what copies carry.
pub balance_counts : (w : World) (fh : ℕ) → open_in_kernel w.kernel fh + open_in_flight w fh
    ≡ sum_by (has_handle fh) (open_files w) + copies_carry fh w
balance_counts w fh =
    let whole = open_sum (has_handle fh) w in
    let both = sum_by-append (has_handle fh) (values w.kernel.vfs.opens) (values w.kernel.closing) in
    let waits = sum_same (λ (e : ℕ × QueuedRequest Purpose). sum_by (has_handle fh) (released_for e.1.kept))
    (λ (e : ℕ × QueuedRequest Purpose). releases_for fh e.1.kept) (pending w.kernel.queues)
    (λ i d lt. releases_for_is fh _) in
    let sent = sum_same (λ (r : Request). sum_by (has_handle fh) (released_by r.body))
    (λ (r : Request). releases_in fh r.body) w.requests (λ i d lt. releases_in_is fh _) in
    let held = sum_same (λ (t : HeldRequest). sum_by (has_handle fh) (released_by t.body))
    (λ (t : HeldRequest). releases_in fh t.body) (values w.server.held) (λ i d lt. releases_in_is fh _) in
    omega (arith, whole, both, waits, sent, held)

-- The balance, so counted.
abbrev pub CountsOpens : World → Type 0
CountsOpens w = (fh : ℕ) → handle_count (get w.server.handles.handles fh)
    ≡ sum_by (has_handle fh) (open_files w) + copies_carry fh w

pub counts_opens : (w : World) → OpenBalance w → CountsOpens w
counts_opens w old fh = old fh ∙ balance_counts w fh

pub opens_counted : (w : World) → CountsOpens w → OpenBalance w
opens_counted w new fh = new fh ∙ sym (balance_counts w fh)

-- ---- what holds of each

module _ {X : Type 0} (P : X → Type 0) where
  pub All-left : (xs ys : List X) → All P (xs ++ ys) → All P xs
  All-left [] ys h = All-nil P
  All-left (x ∷ xs) ys h = All-cons P x xs (All-head P x (xs ++ ys) h) (All-left xs ys (All-tail P x (xs ++ ys) h))

  pub All-right : (xs ys : List X) → All P (xs ++ ys) → All P ys
  All-right [] ys h = h
  All-right (x ∷ xs) ys h = All-right xs ys (All-tail P x (xs ++ ys) h)

module _ {X : Type 0} (test : X → Bool) where
  -- each passes the test where none is counted that fails it
  abbrev pub failing : X → ℕ
  failing x = cond (test x) 0 1

  pub none_failing : (xs : List X) → All (λ x. test x ≡ true) xs → sum_by failing xs ≡ 0
  none_failing [] h = refl
  none_failing (x ∷ xs) h =
      let whole = sum_by-cons failing x xs in
      let here = ap {B = ℕ} (λ (b : Bool). cond b 0 1) (All-head (λ y. test y ≡ true) x xs h) in
      let rest = none_failing xs (All-tail (λ y. test y ≡ true) x xs h) in
      omega (arith, whole, here, rest)

  pub all_pass : (xs : List X) → sum_by failing xs ≡ 0 → All (λ x. test x ≡ true) xs
  all_pass [] none = All-nil (λ x. test x ≡ true)
  all_pass (x ∷ xs) none = by (test x) refl (all_pass xs)
    where
      whole : sum_by failing (x ∷ xs) ≡ failing x + sum_by failing xs
      whole = sum_by-cons failing x xs

      by : (b : Bool) → test x ≡ b → (sum_by failing xs ≡ 0 → All (λ y. test y ≡ true) xs)
          → All (λ y. test y ≡ true) (x ∷ xs)
      by true is rest = All-cons (λ y. test y ≡ true) x xs is (rest (omega (arith, whole, none)))
      by false is rest = let one = ap {B = ℕ} (λ (b : Bool). cond b 0 1) is in absurd (omega (arith, whole, none, one))

-- Each passes still where no more of any are left.
pub fewer_pass : {X : Type 0} (test : X → Bool) (xs ys : List X) → ((f : X → ℕ) → sum_by f ys ≤ sum_by f xs)
    → All (λ x. test x ≡ true) xs → All (λ x. test x ≡ true) ys
fewer_pass test xs ys fewer h =
    let none = none_failing test xs h in
    let less = fewer (failing test) in
    all_pass test ys (omega (arith, none, less))
