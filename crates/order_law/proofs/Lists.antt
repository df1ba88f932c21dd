-- A mark that is set, and a request that goes, where others are queued behind them.
use Rattle.std.proofs.Common.{◌≡◌, ℕ, zero, suc, Bool, true, false, cond, List, [], ◌∷◌, ◌++◌, filter, Some, is_some, nat_eq, slice_get, refl, ap, sym, ◌∙◌, true≢false, arith}
use Rattle.std.proofs.lemmas.Bool.Decides.{nat_tests}
use Rattle.std.specs.Map.{lookup, remove_entry}
use Rattle.std.specs.Option.{option_map_or}
use Rattle.fuse_spec.specs.declared.Mark.{Mark}
use Rattle.fuse_spec.specs.Kernel.QueueCalls.{set_mark}
use Rattle.fuse_theorem.proofs.Calls.Finding.{same_is}
use Rattle.order_law.proofs.Ending.{Requests}

-- a mark is set among the first, where the number stands there
pub set_mark-append : (u : ℕ) (m : Mark) (es fs : Requests) → is_some (lookup (nat_eq u) es) ≡ true
    → set_mark u (es ++ fs) m ≡ set_mark u es m ++ fs
set_mark-append u m [] fs there = cc
set_mark-append u m (e ∷ es) fs there = grind (arith, there, set_mark-append u m es fs)

-- another request goes before or after it
pub set_mark-remove_other : (v u : ℕ) (m : Mark) (es : Requests) → nat_eq v u ≡ false
    → set_mark u (remove_entry (nat_eq v) es) m ≡ remove_entry (nat_eq v) (set_mark u es m)
set_mark-remove_other v u m [] apart = refl
set_mark-remove_other v u m (e ∷ es) apart = grind (arith, nat_tests, apart, set_mark-remove_other v u m es apart)

module _ {X : Type 0} where
  pub filter-append : (p : X → Bool) (xs ys : List X) → filter p (xs ++ ys) ≡ filter p xs ++ filter p ys
  filter-append p [] ys = refl
  filter-append p (x ∷ xs) ys = grind (arith, filter-append p xs ys)

  -- what stands at a place stands there still as more come
  pub slice_get-append : (xs ys : List X) (k : ℕ) (x : X) → slice_get xs k ≡ Some x → slice_get (xs ++ ys) k ≡ Some x
  slice_get-append [] ys k x found = absurd (cc)
  slice_get-append (y ∷ xs) ys zero x found = found
  slice_get-append (y ∷ xs) ys (suc k) x found = slice_get-append xs ys k x found

  -- what is found among those that pass a test passes it
  pub filter-found : (p : X → Bool) (xs : List X) (k : ℕ) (x : X) → slice_get (filter p xs) k ≡ Some x → p x ≡ true
  filter-found p [] k x found = absurd (cc)
  filter-found p (y ∷ ys) k x found = by (p y) refl (λ j f. filter-found p ys j x f) found
    where
      at : (j : ℕ) → p y ≡ true → slice_get (y ∷ filter p ys) j ≡ Some x
          → ((i : ℕ) → slice_get (filter p ys) i ≡ Some x → p x ≡ true) → p x ≡ true
      at zero h f rest =
          let same : y ≡ x = cc in
          rw (← same) h
      at (suc j) h f rest = rest j f

      by : (b : Bool) → p y ≡ b → ((i : ℕ) → slice_get (filter p ys) i ≡ Some x → p x ≡ true)
          → slice_get (cond b (y ∷ filter p ys) (filter p ys)) k ≡ Some x → p x ≡ true
      by true h rest f = at k h f rest
      by false h rest f = rest k f

  -- without the first entry under a number, where a test does not hold of that
  pub filter-remove_entry_out : (q : X → Bool) (u : ℕ) (es : List (ℕ × X))
      → option_map_or q (lookup (nat_eq u) es) false ≡ false
      → filter (λ e. q e.1) (remove_entry (nat_eq u) es) ≡ filter (λ e. q e.1) es
  filter-remove_entry_out q u [] holds = refl
  filter-remove_entry_out q u (e ∷ es) holds = grind (arith, holds, filter-remove_entry_out q u es)

  -- what is found among those that pass a test is an entry under its number
  pub found_under : (p : ℕ × X → Bool) (es : List (ℕ × X)) (k : ℕ) (e : ℕ × X) → slice_get (filter p es) k ≡ Some e
      → is_some (lookup (nat_eq e.0) es) ≡ true
  found_under p [] k e found = absurd (cc)
  found_under p (x ∷ es) k e found = by (p x) (nat_eq e.0 x.0) refl (λ j f. found_under p es j e f) found
    where
      at : (j : ℕ) → nat_eq e.0 x.0 ≡ false → slice_get (x ∷ filter p es) j ≡ Some e
          → ((i : ℕ) → slice_get (filter p es) i ≡ Some e → is_some (lookup (nat_eq e.0) es) ≡ true)
          → is_some (lookup (nat_eq e.0) es) ≡ true
      at zero apart f rest =
          let same : x ≡ e = cc in
          absurd (true≢false (sym (same_is e.0) ∙ ap (λ (y : ℕ × X). nat_eq e.0 y.0) (sym same) ∙ apart))
      at (suc j) apart f rest = rest j f

      by : (b here : Bool) → nat_eq e.0 x.0 ≡ here
          → ((i : ℕ) → slice_get (filter p es) i ≡ Some e → is_some (lookup (nat_eq e.0) es) ≡ true)
          → slice_get (cond b (x ∷ filter p es) (filter p es)) k ≡ Some e
          → is_some (cond here (Some x.1) (lookup (nat_eq e.0) es)) ≡ true
      by b true is rest f = refl
      by true false is rest f = at k is f rest
      by false false is rest f = rest k f
