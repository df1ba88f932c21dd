-- Never more calls are unanswered than may be, and a call's answer takes its place.
use Rattle.std.proofs.Common.{T, ◌≡◌, ◌≢◌, ℕ, ◌+◌, ◌≤◌, Bool, true, false, true≢false, cond, not, Option, Some, None, length, is_some, refl, ap, sym, ◌∙◌, subst, arith}
use Rattle.std.specs.Ordering.{nat_cmp, eq_by_cmp, is_eq}
use Rattle.std.specs.Cmp.{nat_cmp_total}
use Rattle.std.specs.FinMap.{is_sorted, nat_cmp-IsAntisymmetric}
use Rattle.std.specs.FinMap.Entries.{find-where_key, is_sorted-where_key, length_without, same_entries, where_key}
use Rattle.fuse_spec.specs.declared.Opened.{Opened}
use Rattle.fuse_spec.specs.Calls.Answers.{Answer}
use Rattle.fuse_spec.specs.Calls.Answers as answer
use Rattle.fuse_spec.specs.Values.Maps.{Map, get}
use Rattle.fuse_spec.specs.Values.Numbers.{max_calls}
use Rattle.fuse_spec.specs.Calls.Vfs.{CallState, Vfs}
use Rattle.fuse_spec.proofs.Tables.{cmp_same}
use Rattle.fuse_theorem.proofs.Answers.WaitingAnswers.{length_all}
use Rattle.fuse_theorem.proofs.Answers.AnswersStay.{CallsMove, all_end, all_stay, one_goes_on, one_begins}

-- Two maps that differ at one key at most.
module _ {X : Type 0} (m n : Map X) (in_order : T (is_sorted nat_cmp m)) (in_order_too : T (is_sorted nat_cmp n))
    (key : ℕ) (others : (q : ℕ) → q ≢ key → get n q ≡ get m q) where
  abbrev without : Map X → Map X
  without x = where_key nat_cmp (λ k. not (eq_by_cmp nat_cmp key k)) x

  left : (x : Map X) (q : ℕ) → get (without x) q ≡ cond (not (eq_by_cmp nat_cmp key q)) (get x q) None
  left x q = find-where_key nat_cmp (λ k. not (eq_by_cmp nat_cmp key k)) q
      (λ k tied. ap (λ y. not (eq_by_cmp nat_cmp key y)) (sym (nat_cmp-IsAntisymmetric q k tied))) x

  same_left : (q : ℕ) → get (without n) q ≡ get (without m) q
  same_left q = left n q ∙ by (eq_by_cmp nat_cmp key q) refl ∙ sym (left m q)
    where
      by : (b : Bool) → eq_by_cmp nat_cmp key q ≡ b → cond (not b) (get n q) None ≡ cond (not b) (get m q) None
      by true e = refl
      by false e = others q (λ same. absurd (true≢false
          (sym (ap is_eq (cmp_same key)) ∙ ap (eq_by_cmp nat_cmp key) (sym same) ∙ e)))

  same_without : without n ≡ without m
  same_without = same_entries nat_cmp nat_cmp_total nat_cmp-IsAntisymmetric (without n) (without m)
      (is_sorted-where_key nat_cmp (λ k. not (eq_by_cmp nat_cmp key k)) n in_order_too)
      (is_sorted-where_key nat_cmp (λ k. not (eq_by_cmp nat_cmp key k)) m in_order) same_left

  one_at_most : (o : Option X) → cond (is_some o) 1 0 ≤ 1
  one_at_most None = omega arith
  one_at_most (Some x) = omega arith

  at_most_one_more : length n ≤ length m + 1
  at_most_one_more = omega (
    arith,
    length_without nat_cmp nat_cmp_total key n in_order_too,
    length_without nat_cmp nat_cmp_total key m in_order,
    ap length same_without,
    one_at_most (get n key),
  )

  -- What each has at the key makes the difference.
  same_but_there : length n + cond {A = ℕ} (is_some (get m key)) 1 0 ≡ length m + cond {A = ℕ} (is_some (get n key)) 1 0
  same_but_there = omega (
    arith,
    length_without nat_cmp nat_cmp_total key n in_order_too,
    length_without nat_cmp nat_cmp_total key m in_order,
    ap length same_without,
  )

  no_more_there : (x : X) → get m key ≡ Some x → length n ≤ length m
  no_more_there x there =
      let one : cond {A = ℕ} (is_some (get m key)) 1 0 ≡ 1 =
      ap (λ (o : Option X). cond {A = ℕ} (is_some o) 1 0) there in
      omega (arith, same_but_there, one_at_most (get n key), one)

-- With what becomes of the calls they stay few.
pub few_stay : (begins : Bool) (c d : Vfs Opened) → T (is_sorted nat_cmp c.calls) → T (is_sorted nat_cmp d.calls)
    → CallsMove begins c d → length c.calls ≤ max_calls → length d.calls ≤ max_calls
few_stay begins c d in_order in_order_too (all_end none answers) few =
    subst (λ (m : Map (CallState Opened)). length m ≤ max_calls) (sym none) (omega arith)
few_stay begins c d in_order in_order_too (all_stay same answers) few =
    subst (λ (m : Map (CallState Opened)). length m ≤ max_calls) (sym same) few
few_stay begins c d in_order in_order_too (one_goes_on call state there none alone) few =
    let no_more = no_more_there c.calls d.calls in_order in_order_too call alone.other_calls state there in
    omega (arith, no_more, few)
few_stay begins c d in_order in_order_too (one_begins may room others) few =
    let one_more = at_most_one_more c.calls d.calls in_order in_order_too c.next_call others in
    omega (arith, one_more, room)

-- Where no call begins, no more calls are unanswered or have an answer that waits.
pub none_more : (c d : Vfs Opened) → T (is_sorted nat_cmp c.calls) → T (is_sorted nat_cmp d.calls)
    → T (is_sorted nat_cmp c.answers) → T (is_sorted nat_cmp d.answers) → CallsMove false c d
    → length d.answers + length d.calls ≤ length c.answers + length c.calls
none_more c d calls_were calls_are answers_were answers_are (all_end none all) =
    let most = length_all (answer.failed 103) c.calls c.answers in
    omega (arith, ap length none, ap length all, most)
none_more c d calls_were calls_are answers_were answers_are (all_stay calls answers) =
    omega (arith, ap length calls, ap length answers)
none_more c d calls_were calls_are answers_were answers_are (one_goes_on call state there none alone) =
    let calls = same_but_there c.calls d.calls calls_were calls_are call alone.other_calls in
    let answers = same_but_there c.answers d.answers answers_were answers_are call alone.other_answers in
    let waited : cond {A = ℕ} (is_some (get c.calls call)) 1 0 ≡ 1 =
    ap (λ (o : Option (CallState Opened)). cond {A = ℕ} (is_some o) 1 0) there in
    let unanswered : cond {A = ℕ} (is_some (get c.answers call)) 1 0 ≡ 0 =
    ap (λ (o : Option Answer). cond {A = ℕ} (is_some o) 1 0) none in
    let one = not_both (get d.answers call) (get d.calls call) (λ a at. alone.one none a at) in
    omega (arith, calls, answers, waited, unanswered, one)
  where
    not_both : (o : Option Answer) (s : Option (CallState Opened)) → ((a : Answer) → o ≡ Some a → s ≡ None)
        → cond {A = ℕ} (is_some o) 1 0 + cond {A = ℕ} (is_some s) 1 0 ≤ 1
    not_both None None apart = omega arith
    not_both None (Some x) apart = omega arith
    not_both (Some a) None apart = omega arith
    not_both (Some a) (Some x) apart = absurd (cc (apart a refl))
none_more c d calls_were calls_are answers_were answers_are (one_begins may room others) = absurd (cc may)
