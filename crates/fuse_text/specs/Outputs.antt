-- What a writer has of a text that is written to it.
use Rattle.std.specs.Prelude.{ℕ, List, Option, take}
use Rattle.std.specs.Io.KnownBytes.{Appends}

-- The writer got a beginning of the text.
pub record AppendsSome (old new : Option (List ℕ)) (text : List ℕ) : Type 0 where
  pub count : ℕ
  pub part : Appends old new (take count text)
