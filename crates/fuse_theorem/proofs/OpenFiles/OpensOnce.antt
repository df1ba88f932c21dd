-- A file handle is of one open file at most, as the kernel and the server go on.
use Rattle.std.proofs.Common.{◌≡◌, ◌≢◌, ℕ, ◌+◌, ◌≤◌, Bool, true, false, cond, List, [], ◌∷◌, ◌++◌, Some, None, nat_eq, slice_get, zero, suc, refl, ap, sym, subst, ◌∙◌, arith, ◌⊎◌, inl, inr}
use Rattle.std.specs.Prelude.{sum_by}
use Rattle.std.specs.List.{remove as without_at}
use Rattle.std.proofs.lemmas.Bool.{cases_eq}
use Rattle.fuse_spec.specs.declared.Opened.{Opened}
use Rattle.fuse_spec.specs.Kernel.Queues.{request_under}
use Rattle.fuse_spec.specs.Kernel.Kernel.{Kernel}
use Rattle.fuse_spec.specs.World.Worlds.{World}
use Rattle.fuse_theorem.specs.Copies.{SomeHas, here, there}
use Rattle.fuse_theorem.specs.OpenNumbers.{open_files}
use Rattle.fuse_theorem.specs.OpensOnce.{CarriesOpen, OpensOnce}
use Rattle.fuse_theorem.proofs.Calls.Finding.{other_is}
use Rattle.fuse_theorem.proofs.Lists.OpenSums.{has_handle}

-- ---- an element that has a property

module _ {X : Type 0} (P : X → Type 0) where
  pub has_none : (xs : List X) → SomeHas P xs → xs ≡ [] → ⊥
  has_none xs (here x rest p) e = cc (e)
  has_none xs (there x rest h) e = cc (e)

  -- it is the last, or stood before
  pub has_old : (xs : List X) (y : X) → SomeHas P (xs ++ y ∷ []) → P y ⊎ SomeHas P xs
  has_old [] y (here x rest p) = inl p
  has_old [] y (there x rest h) = absurd (has_none [] h refl)
  has_old (x ∷ xs) y (here z rest p) = inr (here x xs p)
  has_old (x ∷ xs) y (there z rest h) = elim (has_old xs y h) [ inl p ↦ inl p | inr g ↦ inr (there x xs g) ]

  -- it stood before one went
  pub has_kept : (xs : List X) (k : ℕ) → SomeHas P (without_at xs k) → SomeHas P xs
  has_kept [] zero h = h
  has_kept [] (suc k) h = h
  has_kept (x ∷ xs) zero h = there x xs h
  has_kept (x ∷ xs) (suc k) (here y rest p) = here x xs p
  has_kept (x ∷ xs) (suc k) (there y rest h) = there x xs (has_kept xs k h)

  pub has_at : (xs : List X) (k : ℕ) (x : X) → slice_get xs k ≡ Some x → P x → SomeHas P xs
  has_at [] k x at p = absurd (cc (at))
  has_at (y ∷ xs) zero x at p = let same : y ≡ x = cc (at) in here y xs (subst P (sym same) p)
  has_at (y ∷ xs) (suc k) x at p = there y xs (has_at xs k x at p)

-- ---- no handle is new

-- How many open files have the handle.
abbrev pub files_with : ℕ → World → ℕ
files_with fh w = sum_by (has_handle fh) (open_files w)

module _ (w v : World) (old : OpensOnce w) where
  -- No more replies carry a handle, no more files are open, and what is awaited was awaited.
  pub none_new : w.server.handles.next_fh ≤ v.server.handles.next_fh → ((u fh : ℕ) → CarriesOpen v u fh → CarriesOpen w u fh)
      → ((u fh : ℕ) → CarriesOpen w u fh → request_under v.kernel.queues u ≢ None → request_under w.kernel.queues u ≢ None)
      → ((fh : ℕ) → files_with fh v ≤ files_with fh w) → OpensOnce v
  none_new rises carried awaited fewer = record {
    below = λ u fh c. let was = old.below u fh (carried u fh c) in omega (arith, rises, was);
    one = λ a b fh c d. old.one a b fh (carried a fh c) (carried b fh d);
    unopened = λ u fh c waits.
        let was = carried u fh c in
        let none = old.unopened u fh was (awaited u fh was waits) in
        let less = fewer fh in
        omega (arith, none, less);
    once = λ fh. let was = old.once fh in let less = fewer fh in omega (arith, was, less);
  }

  -- ---- a handle is new

  -- The reply to one request carries the coming handle alone, which no file has.
  pub one_new : (unique : ℕ) → ((u fh : ℕ) → CarriesOpen v u fh
      → ((u ≡ unique) × (fh ≡ w.server.handles.next_fh) × (v.server.handles.next_fh ≡ w.server.handles.next_fh + 1))
      ⊎ CarriesOpen w u fh) → w.server.handles.next_fh ≤ v.server.handles.next_fh
      → v.kernel ≡ w.kernel → files_with w.server.handles.next_fh w ≡ 0
      → ((fh : ℕ) → files_with fh v ≤ files_with fh w) → OpensOnce v
  one_new unique carried rises kernel none fewer = record {
    below = λ u fh c. elim (carried u fh c) [
      | inl n ↦ let is = n.1 in let next = n.2 in omega (arith, is, next)
      | inr d ↦ let was = old.below u fh d in omega (arith, rises, was)
    ];
    one = λ a b fh c d. both a b fh (carried a fh c) (carried b fh d);
    unopened = λ u fh c waits. elim (carried u fh c) [
      | inl n ↦
          let is = ap (λ (m : ℕ). files_with m w) n.1 in
          let less = fewer fh in
          omega (arith, is, none, less)
      | inr d ↦
          let before = old.unopened u fh d (λ e. waits (ap (λ (k : Kernel). request_under k.queues u) kernel ∙ e)) in
          let less = fewer fh in
          omega (arith, before, less)
    ];
    once = λ fh. let was = old.once fh in let less = fewer fh in omega (arith, was, less);
  }
    where
      both : (a b fh : ℕ) → ((a ≡ unique) × (fh ≡ w.server.handles.next_fh)
          × (v.server.handles.next_fh ≡ w.server.handles.next_fh + 1)) ⊎ CarriesOpen w a fh
          → ((b ≡ unique) × (fh ≡ w.server.handles.next_fh)
          × (v.server.handles.next_fh ≡ w.server.handles.next_fh + 1)) ⊎ CarriesOpen w b fh → a ≡ b
      both a b fh (inl n) (inl m) = n.0 ∙ sym m.0
      both a b fh (inl n) (inr d) = let is = n.1 in let low = old.below b fh d in absurd (omega (arith, is, low))
      both a b fh (inr c) (inl m) = let is = m.1 in let low = old.below a fh c in absurd (omega (arith, is, low))
      both a b fh (inr c) (inr d) = old.one a b fh c d

  -- ---- a handle is opened

  -- The request whose reply carried the handle of the file that is opened is answered.
  pub one_opened : (unique : ℕ) (o : Opened) → w.server.handles.next_fh ≤ v.server.handles.next_fh
      → ((u fh : ℕ) → CarriesOpen v u fh → CarriesOpen w u fh)
      → ((u fh : ℕ) → CarriesOpen w u fh → request_under v.kernel.queues u ≢ None → request_under w.kernel.queues u ≢ None)
      → CarriesOpen w unique o.fh → request_under w.kernel.queues unique ≢ None
      → request_under v.kernel.queues unique ≡ None → ((fh : ℕ)
      → files_with fh v ≡ files_with fh w + has_handle fh o) → OpensOnce v
  one_opened unique o rises carried awaited mine waited ended more = record {
    below = λ u fh c. let was = old.below u fh (carried u fh c) in omega (arith, rises, was);
    one = λ a b fh c d. old.one a b fh (carried a fh c) (carried b fh d);
    unopened = λ u fh c waits. elim (cases_eq o.fh fh) [
      | inl e ↦
          let was : CarriesOpen w u o.fh = subst (λ (n : ℕ). CarriesOpen w u n) (sym e) (carried u fh c) in
          let same = old.one u unique o.fh was mine in
          absurd (waits (subst (λ (n : ℕ). request_under v.kernel.queues n ≡ None) (sym same) ended))
      | inr ne ↦
          let was = carried u fh c in
          let none = old.unopened u fh was (awaited u fh was waits) in
          let sum = more fh in
          let other = ap {B = ℕ} (λ (b : Bool). cond b 1 0) (other_is o.fh fh ne) in
          omega (arith, none, sum, other)
    ];
    once = λ fh. elim (cases_eq o.fh fh) [
      | inl e ↦
          let none = subst (λ (n : ℕ). files_with n w ≡ 0) e (old.unopened unique o.fh mine waited) in
          let sum = more fh in
          let least = one_at_most (nat_eq o.fh fh) in
          omega (arith, none, sum, least)
      | inr ne ↦
          let was = old.once fh in
          let sum = more fh in
          let other = ap {B = ℕ} (λ (b : Bool). cond b 1 0) (other_is o.fh fh ne) in
          omega (arith, was, sum, other)
    ];
  }
    where
      one_at_most : (b : Bool) → cond b 1 0 ≤ 1
      one_at_most true = omega arith
      one_at_most false = omega arith
