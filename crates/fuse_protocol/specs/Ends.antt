-- The bytes that end a name: NUL, and for a file's name the slash.
use Rattle.std.specs.Prelude.{◌≢◌, ℕ, Bool, ◌==◌, ◌||◌, List, All}

-- whether a byte is NUL or the other byte
abbrev pub is_end : (other b : ℕ) → Bool
is_end other b = (b == 0) || (b == other)

-- None of the bytes is.
abbrev pub HasNoEnd : (other : ℕ) → List ℕ → Type 0
HasNoEnd other bytes = All (λ b. (b ≢ 0) × (b ≢ other)) bytes
