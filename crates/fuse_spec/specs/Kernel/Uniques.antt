-- Request numbers, named uniques: even, rising by 2 from 2, below 2 ^ 62.
use Rattle.std.specs.Prelude.{◌≡◌, ℕ, ◌+◌, ◌-◌, ◌/◌, ◌%◌, ◌^◌, ◌≤◌}

-- The first number of a mount, which is INIT's. (this project's rule)
abbrev pub first_number : ℕ
first_number = 2

-- No number reaches this. (this project's rule)
abbrev pub number_limit : ℕ
number_limit = 2 ^ 62

-- How many numbers can still be allocated where `next` is the coming one.
abbrev pub numbers_left_from : ℕ → ℕ
numbers_left_from next = (number_limit - next) / 2

-- `n` may be the coming number: even, not before the first, and at most the limit, where none is left.
pub record IsNextNumber (n : ℕ) : Type 0 where
  pub even : n % 2 ≡ 0
  pub low : first_number ≤ n
  pub high : n ≤ number_limit

-- The number of the INTERRUPT of a request: the request's, with the lowest bit set. (this project's rule)
abbrev pub interrupt_number : ℕ → ℕ
interrupt_number unique = unique - unique % 2 + 1

-- The number of the request that an INTERRUPT is for: the INTERRUPT's own, with the lowest bit cleared. (this project's
-- rule)
abbrev pub original_number : ℕ → ℕ
original_number unique = unique - unique % 2
