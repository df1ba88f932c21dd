-- Every unanswered call of the plain world is answered, in its own words.
use Rattle.std.proofs.Common.{◌≡◌, ℕ, Bool, true, false, cond, [], ◌∷◌, Some, None, refl, ◌∙◌}
use Rattle.std.specs.Ordering.{nat_cmp, eq_by_cmp}
use Rattle.fuse_spec.specs.Values.Maps.{Map, get}
use Rattle.fuse_spec.specs.Values.Numbers.{econnaborted}
use Rattle.fuse_spec.specs.Calls.Answers.{Answer, failed}
use Rattle.fuse_spec.specs.Calls.Vfs.{CallState, Vfs, all_answered, abandoned}
use Rattle.fuse_spec.proofs.Tables.{get_put}
use Rattle.fuse_spec.specs.Reference.PlainWords.{Abandons}

-- After all are answered, the answer of a call that was unanswered is this one, and of any other what it was.
module _ (a : Answer) (answers : Map Answer) where
  unanswered : (calls : Map (CallState ℕ)) (number : ℕ) (state : CallState ℕ) → get calls number ≡ Some state
      → get (all_answered a calls answers) number ≡ Some a
  unanswered [] number state there = absurd (cc)
  unanswered (e ∷ calls) number state there = get_put (all_answered a calls answers) e.0 a number ∙ by
      (eq_by_cmp nat_cmp number e.0) there (λ in_rest. unanswered calls number state in_rest)
    where
      by : (same : Bool) → cond same (Some e.1) (get calls number) ≡ Some state
          → (get calls number ≡ Some state → get (all_answered a calls answers) number ≡ Some a)
          → cond same (Some a) (get (all_answered a calls answers) number) ≡ Some a
      by true there rest = refl
      by false there rest = rest there

  others : (calls : Map (CallState ℕ)) (number : ℕ) → get calls number ≡ None
      → get (all_answered a calls answers) number ≡ get answers number
  others [] number none = refl
  others (e ∷ calls) number none = get_put (all_answered a calls answers) e.0 a number ∙ by
      (eq_by_cmp nat_cmp number e.0) none (λ in_rest. others calls number in_rest)
    where
      by : (same : Bool) → cond same (Some e.1) (get calls number) ≡ None
          → (get calls number ≡ None → get (all_answered a calls answers) number ≡ get answers number)
          → cond same (Some a) (get (all_answered a calls answers) number) ≡ get answers number
      by true none rest = absurd (cc)
      by false none rest = rest none

pub abandons : (c : Vfs ℕ) → Abandons c (abandoned c)
abandons c = record {
  answers = record {
    unanswered = unanswered (failed econnaborted) c.answers c.calls;
    others = others (failed econnaborted) c.answers c.calls;
  };
  rest = refl;
}
