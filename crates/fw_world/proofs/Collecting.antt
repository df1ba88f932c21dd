-- The answers that wait are collected one after another, and recorded.
use Rattle.std.proofs.Common.{◌≡◌, ℕ, ◌+◌, Bool, true, false, not, cond, ◌&&◌, List, [], ◌∷◌, ◌++◌, Option, Some, None, length, map, slice_get, refl, ap, sym, subst, ◌∙◌, arith, inl, inr}
use Rattle.std.specs.Prelude.{T}
use Rattle.std.specs.declared.cmp.Ordering.{Ordering}
use Rattle.std.specs.Ordering.{nat_cmp, is_lt}
use Rattle.std.specs.FinMap.{is_sorted}
use Rattle.std.specs.FinMap.Entries.{below_all}
use Rattle.std.proofs.lemmas.Bool.Decides.{eqb_tells}
use Rattle.std.proofs.lemmas.List.{append_assoc, append-nil, map-append}
use Rattle.fuse_spec.specs.Values.Maps.{Map, remove}
use Rattle.fuse_spec.specs.Calls.Answers.{Answer}
use Rattle.fuse_spec.specs.World.Worlds.{World}
use Rattle.fuse_spec.specs.World.Records as records
use Rattle.fuse_spec.specs.World.Records.{answers_of, collected}
use Rattle.fuse_spec.proofs.Tables.{cmp_same}
use Rattle.fuse_theorem.proofs.Refining.WithAnswers.{with_answers}
use Rattle.fk_syscalls.specs.Values.{answer_of}
use Rattle.fk_syscalls.specs.declared.call.Answer.{Answer as GivenAnswer}
use Rattle.fw_world.specs.declared.record.Record.{Record}
use Rattle.fw_world.specs.declared.record.Record.TheVariants.{Answered}
use Rattle.fw_world.specs.Values.{run_record_of}

-- ---- the lowest entry of a map

first_of_both : (a b : Bool) → T (a && b) → T a
first_of_both true b h = tt
first_of_both false b h = h

second_of_both : (a b : Bool) → T (a && b) → T b
second_of_both true b h = h
second_of_both false b h = absurd h

below_kept : {X : Type 0} (k : ℕ) (m : Map X) → T (below_all nat_cmp k m) → remove m k ≡ m
below_kept k [] below = refl
below_kept {X} k (e ∷ m) below =
    let rest = below_kept k m (second_of_both (is_lt (nat_cmp k e.0)) (below_all nat_cmp k m) below) in
    let low = first_of_both (is_lt (nat_cmp k e.0)) (below_all nat_cmp k m) below in
    elim (eqb_tells e.0 k) [
      | inl h ↦ absurd (subst (λ (r : Ordering). T (is_lt r)) (ap (λ (n : ℕ). nat_cmp k n) h.1 ∙ cmp_same k) low)
      | inr h ↦ ap (λ (b : Bool). cond (not b) (e ∷ remove m k) (remove m k)) h.0 ∙ ap (λ (t : Map X). e ∷ t) rest
    ]

-- Without its lowest entry a map is the rest.
first_gone : {X : Type 0} (e : ℕ × X) (m : Map X) → T (is_sorted nat_cmp (e ∷ m)) → remove (e ∷ m) e.0 ≡ m
first_gone e m sorted =
    let rest = below_kept e.0 m (first_of_both (below_all nat_cmp e.0 m) (is_sorted nat_cmp m) sorted) in
    elim (eqb_tells e.0 e.0) [
      | inl h ↦ ap (λ (b : Bool). cond (not b) (e ∷ remove m e.0) (remove m e.0)) h.0 ∙ rest
      | inr h ↦ absurd (h.1 refl)
    ]

-- ---- collecting

-- This many of the answers are recorded, and the others wait.
pub record Collects {A : Type 0} (old : World) (had : List (Record A)) (new : World)
    (has : List (Record A)) : Type 0 where
  pub added : List (Record A)
  pub items : has ≡ had ++ added
  pub recorded : map run_record_of added ++ answers_of new.kernel.vfs.answers ≡ answers_of old.kernel.vfs.answers
  pub others : collected new ≡ collected old
  pub sorted : T (is_sorted nat_cmp new.kernel.vfs.answers)

pub none_yet : {A : Type 0} → (w : World) (had : List (Record A)) → T (is_sorted nat_cmp w.kernel.vfs.answers)
    → Collects w had w had
none_yet w had sorted = record {
  added = [];
  items = sym (append-nil had);
  recorded = refl;
  others = refl;
  sorted = sorted;
}

-- The world without the answer of a call.
abbrev pub handed : World → ℕ → World
handed w call = with_answers w (remove w.kernel.vfs.answers call)

abbrev given : {A : Type 0} → ℕ → GivenAnswer A → Option (ℕ × Answer)
given call answer = Some (call, answer_of answer)

-- One answer more is recorded, and one fewer waits.
pub record OneMore {A : Type 0} (old : World) (had : List (Record A)) (was new : World)
    (has : List (Record A)) : Type 0 where
  pub collects : Collects old had new has
  pub fewer : length new.kernel.vfs.answers + 1 ≡ length was.kernel.vfs.answers

module _ {A : Type 0} (old : World) (had : List (Record A)) (was : World) (has : List (Record A))
    (so_far : Collects old had was has) where
  by_answers : (call : ℕ) (answer : GivenAnswer A) (m : Map Answer) → was.kernel.vfs.answers ≡ m
      → given call answer ≡ slice_get m 0 → OneMore old had was (handed was call) (has ++ Answered call answer ∷ [])
  by_answers call answer [] is first = absurd (cc)
  by_answers call answer (e ∷ m) is first =
      let sorted : T (is_sorted nat_cmp (e ∷ m)) = subst
      (λ (x : Map Answer). T (is_sorted nat_cmp x)) is so_far.sorted in
      let here : (call, answer_of answer) ≡ e = cc in
      let left : remove was.kernel.vfs.answers call ≡ m = (λ i. remove (is i) ((here i).0)) ∙ first_gone e m sorted in
      let pair : records.answered call (answer_of answer) ≡ records.answered e.0 e.1 =
      (λ i. records.answered (here i).0 (here i).1) in
      record {
        collects = record {
          added = so_far.added ++ Answered call answer ∷ [];
          items = ap (λ (xs : List (Record A)). xs
              ++ Answered call answer ∷ []) so_far.items ∙ append_assoc had so_far.added (Answered call answer ∷ []);
          recorded =
              ap (λ (xs : List records.Record). xs ++ answers_of (remove was.kernel.vfs.answers call))
              (map-append run_record_of so_far.added (Answered call answer ∷ []))
              ∙ append_assoc (map run_record_of so_far.added) (records.answered call (answer_of answer) ∷ [])
              (answers_of (remove was.kernel.vfs.answers call))
              ∙ (λ i. map run_record_of so_far.added ++ (pair i ∷ answers_of (left i))) ∙ ap
              (λ (x : Map Answer). map run_record_of so_far.added ++ answers_of x) (sym is) ∙ so_far.recorded;
          others = so_far.others;
          sorted = subst (λ (x : Map Answer). T (is_sorted nat_cmp x)) (sym left)
              (second_of_both (below_all nat_cmp e.0 m) (is_sorted nat_cmp m) sorted);
        };
        fewer = ap (λ (x : Map Answer). length x + 1) left ∙ omega arith ∙ ap (λ (x : Map Answer). length x) (sym is);
      }

  pub collects_one : (call : ℕ) (answer : GivenAnswer A) → given call answer ≡ slice_get was.kernel.vfs.answers 0
      → (new : World) (has' : List (Record A)) → new ≡ handed was call → has' ≡ has ++ Answered call answer ∷ []
      → OneMore old had was new has'
  collects_one call answer first new has' new_is has_is =
      subst (λ (x : World × List (Record A)). OneMore old had was x.0 x.1) (λ i. (sym new_is i, sym has_is i))
      (by_answers call answer was.kernel.vfs.answers refl first)

  -- Where no answer waits, all are recorded.
  pub collects_all : None ≡ slice_get was.kernel.vfs.answers 0
      → (was ≡ collected old) × (added : List (Record A)) × (has ≡ had ++ added)
      × (map run_record_of added ≡ answers_of old.kernel.vfs.answers)
  collects_all none =
      let is = empty was.kernel.vfs.answers none in (
        (λ i. with_answers was (is i)) ∙ so_far.others,
        so_far.added,
        so_far.items,
        sym (append-nil (map run_record_of so_far.added)) ∙ ap
            (λ (x : Map Answer). map run_record_of so_far.added ++ answers_of x) (sym is) ∙ so_far.recorded,
      )
    where
      empty : (m : Map Answer) → None ≡ slice_get m 0 → m ≡ []
      empty [] h = refl
      empty (e ∷ m) h = absurd (cc)
