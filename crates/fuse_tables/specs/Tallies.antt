-- How often each key is counted.
use Rattle.std.specs.Prelude.{ℕ, ◌-◌, cond, nat_lt, List, Option, Some, None}

-- the counts, of each key that is counted, and how many more fit with no memory
pub record TallyState : Type 0 where
  pub counts : List (ℕ × ℕ)
  pub room : ℕ

-- a number, or nothing in place of 0
abbrev pub positive : ℕ → Option ℕ
positive n = cond (nat_lt 0 n) (Some n) None

-- a number less one, and nothing for the last
abbrev pub one_less : Option ℕ → Option ℕ
one_less None = None
one_less (Some n) = positive (n - 1)
