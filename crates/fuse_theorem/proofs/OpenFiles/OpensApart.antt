-- The numbers of calls, open files and closing ones stay apart, as a call takes a step.
use Rattle.std.proofs.Common.{◌≡◌, ◌≢◌, ℕ, ◌+◌, ◌≤◌, ◌<◌, Option, Some, None, refl, ap, sym, subst, ◌∙◌, arith, ◌⊎◌, inl, inr}
use Rattle.std.proofs.lemmas.Bool.{cases_eq}
use Rattle.fuse_spec.specs.declared.Opened.{Opened}
use Rattle.fuse_spec.specs.Values.Maps.{Map, get, put}
use Rattle.fuse_spec.specs.Calls.Vfs.{CallState, walking, doing, using, Vfs}
use Rattle.fuse_spec.proofs.Tables.{get_put_there}
use Rattle.fuse_theorem.specs.OpenNumbers.{stands, UsesOpen, OpensApart}
use Rattle.fuse_theorem.proofs.Lists.MapSums.{values_sum, worth, sum_put, put_rises, Rises}

-- How many ways a number stands.
abbrev pub standing : Vfs Opened → Map Opened → ℕ → ℕ
standing c closing n = stands (get c.calls n) + stands (get c.opens n) + stands (get closing n)

pub stands_none : {X : Type 0} (o : Option X) → stands o ≡ 0 → o ≡ None
stands_none None e = refl
stands_none (Some x) e = absurd (omega (arith, e))

pub some_stands : {X : Type 0} (o : Option X) (x : X) → o ≡ Some x → stands o ≡ 1
some_stands o x e = ap stands e

abbrev pub opened_more : Map Opened → ℕ → Option Opened → Map Opened
opened_more opens call None = opens
opened_more opens call (Some o) = put opens call o

-- A call takes a step: it is answered, or waits and opens nothing; what it opens stands under its number.
pub record StepsFrom (calls : Map (CallState Opened)) (opened : Map Opened) (coming : ℕ) (d : Vfs Opened) (call : ℕ)
    (gained : Option Opened) : Type 0 where
  pub others : (n : ℕ) → n ≢ call → get d.calls n ≡ get calls n
  pub opens : d.opens ≡ opened_more opened call gained
  pub next : d.next_call ≡ coming
  pub waits : (state : CallState Opened) → get d.calls call ≡ Some state
      → (gained ≡ None) × ((closing : Map Opened) → UsesOpen opened closing state)

abbrev pub CallSteps : Vfs Opened → Vfs Opened → ℕ → Option Opened → Type 0
CallSteps c d call gained = StepsFrom c.calls c.opens c.next_call d call gained

-- What is used is still there where no open or closing file is another one.
pub uses_still : (opens closing opens' closing' : Map Opened)
    → ((open_call : ℕ) (o : Opened) → (get opens open_call ≡ Some o) ⊎ (get closing open_call ≡ Some o)
    → (get opens' open_call ≡ Some o) ⊎ (get closing' open_call ≡ Some o))
    → (state : CallState Opened) → UsesOpen opens closing state → UsesOpen opens' closing' state
uses_still opens closing opens' closing' still (walking d word words plan) h = tt
uses_still opens closing opens' closing' still (doing operation) h = h
uses_still opens closing opens' closing' still (using open_call operation) h = λ i d lt. still open_call _ (h i d lt)

module _ (c : Vfs Opened) (closing : Map Opened) (old : OpensApart c closing) where
  -- the number of an unanswered call is of no open or closing file
  pub call_apart : (call : ℕ) (state : CallState Opened) → get c.calls call ≡ Some state
      → (get c.opens call ≡ None) × (get closing call ≡ None)
  call_apart call state at =
      let once = old.once call in
      let here = some_stands (get c.calls call) state at in (
        stands_none (get c.opens call) (omega (arith, once, here)),
        stands_none (get closing call) (omega (arith, once, here)),
      )

  pub call_below : (call : ℕ) (state : CallState Opened) → get c.calls call ≡ Some state → call < c.next_call
  call_below call state at = by (cases_below call c.next_call)
    where
      cases_below : (a b : ℕ) → (a < b) ⊎ (b ≤ a)
      cases_below a b = search (arith)

      by : (call < c.next_call) ⊎ (c.next_call ≤ call) → call < c.next_call
      by (inl low) = low
      by (inr high) = let none = old.below call high in let here =
          some_stands (get c.calls call) state at in absurd (omega (arith, none, here))

  module _ (d : Vfs Opened) (call : ℕ) (free : get c.opens call ≡ None) (unclosed : get closing call ≡ None)
      (low : call < c.next_call) where
    module _ (gained : Option Opened) (steps : CallSteps c d call gained) where
      pub opens_more : (f : Opened → ℕ) → values_sum f d.opens ≡ values_sum f c.opens + worth f gained
      opens_more f = ap (values_sum f) steps.opens ∙ by gained
        where
          by : (o : Option Opened) → values_sum f (opened_more c.opens call o) ≡ values_sum f c.opens + worth f o
          by None = omega arith
          by (Some x) =
              let more = sum_put f c.opens call x old.opens in
              let none = ap (worth f) free in
              omega (arith, more, none)

      other_opens : (n : ℕ) → n ≢ call → get d.opens n ≡ get c.opens n
      other_opens n ne = ap (λ (m : Map Opened). get m n) steps.opens ∙ by gained
        where
          by : (o : Option Opened) → get (opened_more c.opens call o) n ≡ get c.opens n
          by None = refl
          by (Some x) = get_put_there c.opens call x n ne

      here_once : stands (get d.calls call) + stands (get d.opens call) ≤ 1
      here_once = by (get d.calls call) refl
        where
          le_one : {X : Type 0} (o : Option X) → 0 + stands o ≤ 1
          le_one None = omega arith
          le_one (Some x) = omega arith

          by : (o : Option (CallState Opened)) → get d.calls call ≡ o → stands o + stands (get d.opens call) ≤ 1
          by None at = le_one (get d.opens call)
          by (Some state) at =
              let waits = steps.waits state at in
              let none : get d.opens call ≡ None = ap (λ (m : Map Opened). get m call) steps.opens ∙ ap
              (λ (o : Option Opened). get (opened_more c.opens call o) call) waits.0 ∙ free in
              let no = ap stands none in
              omega (arith, no)

      still_there : (open_call : ℕ) (o : Opened) → (get c.opens open_call ≡ Some o) ⊎ (get closing open_call ≡ Some o)
          → (get d.opens open_call ≡ Some o) ⊎ (get closing open_call ≡ Some o)
      still_there open_call o (inr h) = inr h
      still_there open_call o (inl h) = inl (other_opens open_call
          (λ e. absurd (cc (h, subst (λ (n : ℕ). get c.opens n ≡ None) (sym e) free))) ∙ h)

      pub stepped_apart : OpensApart d closing
      stepped_apart = record {
        once = λ n. elim (cases_eq n call) [
          | inl e ↦
              let here = here_once in
              let none = ap stands unclosed in
              subst (λ (m : ℕ). standing d closing m ≤ 1) (sym e) (omega (arith, here, none))
          | inr ne ↦
              let calls = ap stands (steps.others n ne) in
              let opens = ap stands (other_opens n ne) in
              let was = old.once n in
              omega (arith, calls, opens, was)
        ];
        below = λ n high.
            let next = steps.next in
            let ne : n ≢ call = λ e. absurd (omega (arith, e, high, low, next)) in
            let calls = ap stands (steps.others n ne) in
            let opens = ap stands (other_opens n ne) in
            let was = old.below n (omega (arith, high, next)) in
            omega (arith, calls, opens, was);
        opens = rises gained steps.opens;
        closing = old.closing;
        uses = λ n state at. elim (cases_eq n call) [
          | inl e ↦
              let here = (steps.waits state (subst (λ (m : ℕ). get d.calls m ≡ Some state) e at)).1 closing in
              uses_still c.opens closing d.opens closing still_there state here
          | inr ne ↦ uses_still c.opens closing d.opens closing still_there state
              (old.uses n state (sym (steps.others n ne) ∙ at))
        ];
      }
        where
          rises : (o : Option Opened) → d.opens ≡ opened_more c.opens call o → Rises d.opens
          rises None e = subst (λ (m : Map Opened). Rises m) (sym e) old.opens
          rises (Some x) e = subst (λ (m : Map Opened). Rises m) (sym e) (put_rises c.opens call x old.opens)
