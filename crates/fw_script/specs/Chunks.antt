-- What a writer has of a text whose end a chunk still holds.
use Rattle.std.specs.Prelude.{◌≡◌, ◌++◌, ℕ, List, Option}
use Rattle.std.specs.Io.KnownBytes.{Appends}

-- The writer got the text up to what is held.
pub record AppendsBut (old new : Option (List ℕ)) (text held : List ℕ) : Type 0 where
  pub wrote : List ℕ
  pub part : Appends old new wrote
  pub all : wrote ++ held ≡ text
