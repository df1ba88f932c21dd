-- The numbers that were read, each with a mark: a block has the marks of 64 numbers.
use Rattle.std.specs.Prelude.{◌≡◌, ℕ, ◌/◌, ◌%◌, Bool, true, false, Option, Some, None, length, replicate, slice_index_or}
use Rattle.fuse_spec.specs.Values.Maps.{Map, get}
use Rattle.fuse_sessions.specs.Sessions.{Session}
use Rattle.fuse_sessions.specs.Numbers.{was_read, was_forget}
use Rattle.fuse_judge.specs.declared.marks.Block.{Block}
use Rattle.fuse_judge.specs.declared.marks.Mark.{Mark}
use Rattle.fuse_judge.specs.declared.marks.Mark.TheVariants as mark

-- what a mark says: whether its number was read, and as that of a FORGET
abbrev pub is_read : Mark → Bool
is_read mark.Unread = false
is_read m = true

abbrev pub is_forgets : Mark → Bool
is_forgets mark.Forget = true
is_forgets m = false

-- the mark of a number that was read
abbrev pub read_mark : Bool → Mark
read_mark true = mark.Forget
read_mark false = mark.Request

-- the block of a key: where there is none, nothing in it was read
abbrev pub block_in : Option Block → Block
block_in None = record { marks = replicate 64 mark.Unread }
block_in (Some block) = block

-- the mark at a place of a block
abbrev pub mark_at : Option Block → ℕ → Mark
mark_at None place = mark.Unread
mark_at (Some block) place = slice_index_or block.marks place mark.Unread

-- the mark of a number
abbrev pub mark_in : Map Block → ℕ → Mark
mark_in numbers unique = mark_at (get numbers (unique / 64)) (unique % 64)

-- This is true of the number.
pub record IsMark (s : Session) (unique : ℕ) (m : Mark) : Type 0 where
  pub read : was_read s unique ≡ is_read m
  pub forget : was_forget s unique ≡ is_forgets m

-- Each block has its 64 marks.
abbrev pub AreWhole : Map Block → Type 0
AreWhole numbers = (key : ℕ) (block : Block) → get numbers key ≡ Some block → length block.marks ≡ 64

-- The table of numbers is right.
pub record AreNumbers (s : Session) (numbers : Map Block) : Type 0 where
  pub marked : (unique : ℕ) → IsMark s unique (mark_in numbers unique)
  pub whole : AreWhole numbers
