-- Calls that are answered one after another, the last first.
use Rattle.std.proofs.Common.{◌≡◌, ◌≢◌, ℕ, suc, ◌+◌, ◌-◌, ◌≤◌, ◌<◌, Bool, true, false, cond, List, [], ◌∷◌, ◌++◌, length, get_or, take, append_assoc, append-nil, length-append, length-take, drop-cons, Option, Some, None, T, refl, ap, sym, ◌∙◌, arith, subst}
use Rattle.std.specs.Prelude.{is_some}
use Rattle.std.specs.Cmp.{nat_cmp_total}
use Rattle.std.specs.FinMap.{is_sorted}
use Rattle.std.specs.Ordering.{nat_cmp, is_eq, eq_by_cmp}
use Rattle.std.proofs.lemmas.List.{drop_all, take-append-drop}
use Rattle.fuse_spec.specs.Calls.Answers.{Answer, failed}
use Rattle.fuse_spec.specs.Values.Maps.{Map, get, put}
use Rattle.fuse_spec.specs.Values.Numbers.{econnaborted}
use Rattle.fuse_spec.specs.Calls.Vfs.{CallState, all_answered}
use Rattle.fuse_spec.specs.declared.Opened.{Opened}
use Rattle.fuse_spec.proofs.Tables.{cmp_same, get_put}
use Rattle.fuse_tables.specs.TableState.{TableState}
use Rattle.fk_dentry.proofs.SortedEntries.{both_first, both_second, none_below}

-- each of the calls has the answer, and all else is as before
pub answer_after_all : {X : Type 0} (answer : Answer) (calls : Map X) (answers : Map Answer) (call : ℕ)
    → get (all_answered answer calls answers) call ≡ cond (is_some (get calls call)) (Some answer) (get answers call)
answer_after_all answer [] answers call = refl
answer_after_all answer (e ∷ calls) answers call = get_put (all_answered answer calls answers) e.0 answer call ∙ by
    (eq_by_cmp nat_cmp call e.0) (answer_after_all answer calls answers call)
  where
    by : (b : Bool) → get (all_answered answer calls answers) call
        ≡ cond (is_some (get calls call)) (Some answer) (get answers call)
        → cond b (Some answer) (get (all_answered answer calls answers) call)
        ≡ cond (is_some (cond b (Some e.1) (get calls call))) (Some answer) (get answers call)
    by true rest = refl
    by false rest = rest

pub answer_unchanged : {X : Type 0} (answer : Answer) (calls : Map X) (answers : Map Answer) (call : ℕ) → get calls call ≡ None
    → get answers call ≡ None → get (all_answered answer calls answers) call ≡ None
answer_unchanged answer calls answers call none unanswered =
    answer_after_all answer calls answers call ∙ ap (λ (o : Option _). cond (is_some o) (Some answer)
    (get answers call)) none ∙ unanswered

module _ {X : Type 0} where
  -- in rising order a call is none of those behind it
  behind : (xs : Map X) (e : ℕ × X) (ys : Map X) → T (is_sorted nat_cmp (xs ++ e ∷ ys)) → get ys e.0 ≡ None
  behind [] e ys sorted = none_below nat_cmp nat_cmp_total e.0 ys (both_first _ _ sorted)
  behind (x ∷ xs) e ys sorted = behind xs e ys (both_second _ _ sorted)

  among : (xs : Map X) (e : ℕ × X) (ys : Map X) → get (xs ++ e ∷ ys) e.0 ≢ None
  among [] e ys none =
      let no : ◌≡◌ {A = Option X} (Some e.1) None = sym
      (ap (λ r. cond (is_eq r) (Some e.1) (get ys e.0)) (cmp_same e.0)) ∙ none in
      cc
  among (x ∷ xs) e ys none = by (is_eq (nat_cmp e.0 x.0)) none (among xs e ys)
    where
      by : (b : Bool) → cond b (Some x.1) (get (xs ++ e ∷ ys) e.0) ≡ None → get (xs ++ e ∷ ys) e.0 ≢ None → ⊥
      by true is rest =
          let no : ◌≡◌ {A = Option X} (Some x.1) None = is in
          cc
      by false is rest = rest is

  -- a list is all but its last element, and that
  ends : (xs : Map X) (d : ℕ × X) → 1 ≤ length xs → xs ≡ take (length xs - 1) xs ++ get_or xs (length xs - 1) d ∷ []
  ends xs d some =
      let within : length xs - 1 < length xs = omega (arith, some) in
      let past : length xs ≤ suc (length xs - 1) = omega (arith, some) in
      sym (take-append-drop (length xs - 1) xs)
      ∙ ap (λ (ys : Map X). take (length xs - 1) xs ++ ys)
      (drop-cons xs (length xs - 1) d within ∙ ap (λ (ys : Map X). get_or xs (length xs - 1) d ∷ ys)
      (drop_all (suc (length xs - 1)) xs past))

-- Those of the calls behind the ones that are left are answered.
pub record AnsweredBehind (calls left : Map (CallState Opened)) (old new : TableState Answer) : Type 0 where
  pub done : Map (CallState Opened)
  pub all : calls ≡ left ++ done
  pub entries : new.entries ≡ all_answered (failed econnaborted) done old.entries
  pub room : old.room ≤ new.room + length done

module _ (calls before : Map (CallState Opened)) (e : ℕ × CallState Opened) (old new : TableState Answer)
    (so : AnsweredBehind calls (before ++ e ∷ []) old new) where
  parts : calls ≡ before ++ e ∷ so.done
  parts = so.all ∙ append_assoc before (e ∷ []) so.done

  absent_behind : T (is_sorted nat_cmp calls) → ((call : ℕ) → get calls call ≢ None → get old.entries call ≡ None)
      → get new.entries e.0 ≡ None
  absent_behind sorted absent =
      let here = behind before e so.done (subst (λ (m : Map (CallState Opened)). T
      (is_sorted nat_cmp m)) parts sorted) in
      let there : get calls e.0 ≢ None = subst (λ (m : Map (CallState Opened)). get m e.0 ≢ None) (sym parts)
      (among before e so.done) in
      ap (λ (m : Map Answer). get m e.0) so.entries ∙ answer_unchanged (failed econnaborted) so.done old.entries e.0 here
      (absent e.0 there)

-- no call is behind the ones that are left yet
pub none_behind : (calls : Map (CallState Opened)) (old : TableState Answer) → AnsweredBehind calls calls old old
none_behind calls old = record {
  done = [];
  all = sym (append-nil calls);
  entries = refl;
  room = omega arith;
}

-- where none is left, all are answered
pub all_behind : (calls left : Map (CallState Opened)) (old new : TableState Answer)
    → AnsweredBehind calls left old new → length left < 1
    → new.entries ≡ all_answered (failed econnaborted) calls old.entries
all_behind calls [] old new so few = so.entries ∙ ap (λ (m : Map (CallState Opened)). all_answered (failed econnaborted) m
    old.entries) (sym so.all)
all_behind calls (e ∷ left) old new so few = absurd (omega (arith, few))

-- there is room for the answers of those that are left
pub room_left : (calls left : Map (CallState Opened)) (old new : TableState Answer)
    → AnsweredBehind calls left old new → 1 ≤ length left → length calls ≤ old.room → 0 < new.room
room_left calls left old new so some room =
    let all : length calls ≡ length left + length so.done = ap length so.all ∙ length-append left so.done in
    omega (arith, so.room)

-- the last of the calls that are left has no answer yet
pub absent_last : (calls left : Map (CallState Opened)) (old new : TableState Answer)
    → AnsweredBehind calls left old new → 1 ≤ length left → T (is_sorted nat_cmp calls)
    → ((call : ℕ) → get calls call ≢ None → get old.entries call ≡ None) → (d : ℕ × CallState Opened)
    → get new.entries (get_or left (length left - 1) d).0 ≡ None
absent_last calls left old new so some sorted absent d =
    absent_behind calls (take (length left - 1) left) (get_or left (length left - 1) d) old new
    (subst (λ (m : Map (CallState Opened)). AnsweredBehind calls m old new) (ends left d some) so) sorted absent

-- it is answered now
pub answered_last : (calls left : Map (CallState Opened)) (old now new : TableState Answer)
    → AnsweredBehind calls left old now → 1 ≤ length left → (d : ℕ × CallState Opened)
    → new.entries ≡ put now.entries (get_or left (length left - 1) d).0 (failed econnaborted) → now.room ≤ new.room + 1
    → AnsweredBehind calls (take (length left - 1) left) old new
answered_last calls left old now new so some d entries room = record {
  done = get_or left (length left - 1) d ∷ so.done;
  all = so.all ∙ ap (λ (m : Map (CallState Opened)). m ++ so.done) (ends left d some) ∙ append_assoc
      (take (length left - 1) left) (get_or left (length left - 1) d ∷ []) so.done;
  entries = entries ∙ ap (λ (m : Map Answer). put m (get_or left (length left - 1) d).0
      (failed econnaborted)) so.entries;
  room = omega (arith, so.room, room);
}

-- fewer are left without the last
pub fewer : {X : Type 0} (left : List X) → 1 ≤ length left → length (take (length left - 1) left) < length left
fewer left some = omega (arith, length-take (length left - 1) left)
