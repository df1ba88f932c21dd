-- What is done to names at a device, act after act.
use Rattle.std.specs.Prelude.{ℕ, Option}
use Rattle.name_sessions.specs.Names.{Name}

-- What a request does to names, once it is done: it takes one away, one gets a file, a directory is listed with its
-- files.
pub record NamesAsked : Type 0 where
  pub removed : Option Name
  pub made : Option Name
  pub listed : Option ℕ

pub data NameAct : Type 0 where
  -- From here on nothing is certain of any name.
  Unsure : NameAct
  -- A request waits under a number.
  Asks : (unique : ℕ) → (asked : NamesAsked) → NameAct
  -- Nothing waits under a number any more.
  Ends : (unique : ℕ) → NameAct
  -- The kernel is to take a name away: a request is read that does.
  Removes : (name : Name) → NameAct
  -- An answer gives a name a file.
  Gives : (name : Name) → NameAct
  -- An answer takes a name away.
  Loses : (name : Name) → NameAct
  -- The kernel has nothing of a node any more, nor of the names in it.
  Leaves : (node : ℕ) → NameAct
