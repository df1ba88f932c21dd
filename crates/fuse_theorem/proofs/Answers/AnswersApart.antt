-- Answers in rising call number answer each call once.
use Rattle.std.proofs.Common.{◌≡◌, ℕ, Bool, true, false, true≢false, cond, ◌&&◌, List, [], ◌∷◌, ◌++◌, Some, None, refl, ap, sym, ◌∙◌, All}
use Rattle.std.specs.Prelude.{T}
use Rattle.std.specs.declared.cmp.Ordering.{Ordering}
use Rattle.std.specs.declared.cmp.Ordering.TheVariants.{Less, Equal, Greater}
use Rattle.std.specs.Ordering.{nat_cmp, eq_by_cmp, is_eq, is_lt}
use Rattle.std.specs.FinMap.{is_sorted}
use Rattle.std.specs.FinMap.Entries.{below_all}
use Rattle.std.proofs.lemmas.List.Elements.{All-nil, All-cons, All-append}
use Rattle.std.proofs.lemmas.List.Kept.{AllPairs-cons}
use Rattle.fuse_spec.specs.Values.Maps.{Map, get}
use Rattle.fuse_spec.specs.Calls.Answers.{Answer}
use Rattle.fuse_spec.specs.World.Records.{Record, answered, answers_of}
use Rattle.fuse_spec.specs.Claim.Runs.{AnswersApart, AnswersOnce}
use Rattle.fuse_spec.proofs.Tables.{cmp_same}

-- No record answers the call.
abbrev pub Unanswered : ℕ → Answer → List Record → Type 0
Unanswered call a records = All (AnswersApart (answered call a)) records

pub both_first : (a b : Bool) → T (a && b) → T a
both_first true b h = tt
both_first false b h = h

pub both_second : (a b : Bool) → T (a && b) → T b
both_second true b h = h
both_second false b h = absurd h

-- a call below all others has no answer among theirs
none_below : (call : ℕ) (answers : Map Answer) → T (below_all nat_cmp call answers) → get answers call ≡ None
none_below call [] below = refl
none_below call (e ∷ answers) below = by (nat_cmp call e.0)
    (both_first (is_lt (nat_cmp call e.0)) (below_all nat_cmp call answers) below) ∙ none_below call answers
    (both_second (is_lt (nat_cmp call e.0)) (below_all nat_cmp call answers) below)
  where
    by : (r : Ordering) → T (is_lt r) → cond (is_eq r) (Some e.1) (get answers call) ≡ get answers call
    by Less h = refl
    by Equal h = absurd h
    by Greater h = absurd h

-- Where a call has no answer, no record of the answers answers it.
pub none_answers : (call : ℕ) (a : Answer) (answers : Map Answer) → get answers call ≡ None
    → Unanswered call a (answers_of answers)
none_answers call a [] none = All-nil (AnswersApart (answered call a))
none_answers call a (e ∷ answers) none = by (eq_by_cmp nat_cmp call e.0) refl none (none_answers call a answers)
  where
    by : (b : Bool) → eq_by_cmp nat_cmp call e.0 ≡ b → cond b (Some e.1) (get answers call) ≡ None
        → (get answers call ≡ None → Unanswered call a (answers_of answers))
        → Unanswered call a (answers_of (e ∷ answers))
    by true is there others = absurd (cc (there))
    by false is none others =
        All-cons (AnswersApart (answered call a)) (answered e.0 e.1) (answers_of answers)
        (λ same. true≢false (ap is_eq (sym (cmp_same call)) ∙ ap (λ (n : ℕ). eq_by_cmp nat_cmp call n) same ∙ is))
        (others none)

-- The answers of these, and then records that answer none of them, answer each call once.
pub apart_then : (answers : Map Answer) (more : List Record) → T (is_sorted nat_cmp answers)
    → ((call : ℕ) (a : Answer) → get answers call ≡ Some a → (b : Answer) → Unanswered call b more) → AnswersOnce more
    → AnswersOnce (answers_of answers ++ more)
apart_then [] more sorted apart once = once
apart_then (e ∷ answers) more sorted apart once =
    let below = both_first (below_all nat_cmp e.0 answers) (is_sorted nat_cmp answers) sorted in
    let here : get (e ∷ answers) e.0 ≡ Some e.1 = ap (λ (r : Ordering). cond (is_eq r) (Some e.1) (get answers e.0))
    (cmp_same e.0) in
    AllPairs-cons AnswersApart (answered e.0 e.1) (answers_of answers ++ more)
    (All-append (AnswersApart (answered e.0 e.1)) (answers_of answers) more
    (none_answers e.0 e.1 answers (none_below e.0 answers below)) (apart e.0 e.1 here e.1))
    (apart_then answers more (both_second (below_all nat_cmp e.0 answers) (is_sorted nat_cmp answers) sorted) rest once)
  where
    found : (call : ℕ) (a : Answer) (b : Bool) → get answers call ≡ Some a
        → (x : Answer) × (cond b (Some e.1) (get answers call) ≡ Some x)
    found call a true at = (e.1, refl)
    found call a false at = (a, at)

    rest : (call : ℕ) (a : Answer) → get answers call ≡ Some a → (b : Answer) → Unanswered call b more
    rest call a at b = let there = found call a (eq_by_cmp nat_cmp call e.0) at in apart call there.0 there.1 b
