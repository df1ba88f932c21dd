-- An act leaves the tables that it does not concern as they are.
use Rattle.std.proofs.Common.{◌≡◌, ℕ, false, Option, refl}
use Rattle.fuse_protocol.specs.declared.opcode.Opcode.{Opcode}
use Rattle.fuse_sessions.specs.declared.act.Act.{Act}
use Rattle.fuse_sessions.specs.declared.act.Act.TheVariants as act
use Rattle.fuse_sessions.specs.declared.act.OpenFile.{OpenFile}
use Rattle.fuse_sessions.specs.declared.act.Taken.TheVariants as taken
use Rattle.fuse_sessions.specs.Sessions.{Session}
use Rattle.fuse_sessions.specs.Numbers.{shows_end, reads, reads_forget}
use Rattle.fuse_judge.specs.declared.concern.Concern.{Concern}
use Rattle.fuse_judge.specs.declared.concern.Concern.TheVariants as concern
use Rattle.fuse_judge.specs.Concerns.{concern_in}
use Rattle.fuse_judge.specs.Flags.{LeavesFlags}
use Rattle.fuse_judge.specs.Nodes.{LeavesNode}
use Rattle.fuse_judge.specs.Opens.{LeavesOpen}
use Rattle.fuse_judge.specs.Pending.{HasEffect}

-- it shows no end of the connection
abbrev pub ShowsNoEnd : Act → Type 0
ShowsNoEnd a = (s : Session) → false ≡ shows_end (s, a)

-- it leaves each table as it is
abbrev pub LeavesNumbers : Act → Type 0
LeavesNumbers a = (unique : ℕ) → (reads unique a ≡ false) × (reads_forget unique a ≡ false)

abbrev pub LeavesRequests : Act → Type 0
LeavesRequests a = (unique : ℕ) → HasEffect unique a false 0 0

abbrev pub LeavesNodes : Act → Type 0
LeavesNodes a = (node : ℕ) → LeavesNode node a

abbrev pub LeavesFiles : Act → Type 0
LeavesFiles a = (file : OpenFile) → LeavesOpen file a

-- what an act of a concern leaves as it is
pub record IsQuiet (a : Act) : Type 0 where
  pub flags : LeavesFlags a
  pub no_end : ShowsNoEnd a
  pub numbers : LeavesNumbers a
  pub requests : LeavesRequests a
  pub nodes : LeavesNodes a
  pub files : LeavesFiles a

pub record IsOfNumbers (a : Act) : Type 0 where
  pub no_end : ShowsNoEnd a
  pub requests : LeavesRequests a
  pub nodes : LeavesNodes a
  pub files : LeavesFiles a

pub record IsOfRequests (a : Act) : Type 0 where
  pub flags : LeavesFlags a
  pub no_end : ShowsNoEnd a
  pub numbers : LeavesNumbers a
  pub nodes : LeavesNodes a
  pub files : LeavesFiles a

pub record IsOfNodes (a : Act) : Type 0 where
  pub flags : LeavesFlags a
  pub no_end : ShowsNoEnd a
  pub numbers : LeavesNumbers a
  pub requests : LeavesRequests a
  pub files : LeavesFiles a

pub record IsOfFiles (a : Act) : Type 0 where
  pub flags : LeavesFlags a
  pub no_end : ShowsNoEnd a
  pub numbers : LeavesNumbers a
  pub requests : LeavesRequests a
  pub nodes : LeavesNodes a

pub is_of_numbers : (opcode : Option Opcode) (unique : ℕ) → IsOfNumbers (act.Read opcode unique)
is_of_numbers opcode unique = record {
  no_end = λ s. refl;
  requests = λ u. record { ending = refl; asking = refl; under = refl; interrupting = refl; again = refl };
  nodes = λ n. record { least = refl; most = refl; forgets = refl; file = λ s. refl };
  files = λ f. record { opens = refl; releases = refl };
}

abbrev pub IsConcern : Act → Concern → Type 0
IsConcern a concern.Nothing = IsQuiet a
IsConcern a concern.Requests = IsOfRequests a
IsConcern a concern.Nodes = IsOfNodes a
IsConcern a concern.OpenFiles = IsOfFiles a
IsConcern a concern.Several = Unit {0}

pub is_concern : (a : Act) → IsConcern a (concern_in a)
is_concern (act.Read opcode unique) = tt
is_concern (act.Asks unique asked) = record {
  flags = record {
    began = refl;
    agreed = refl;
    max_write = refl;
    several = refl;
    writers = refl;
    resent = refl;
    no_files = refl;
    no_directories = refl;
    highest = λ u. refl;
  };
  no_end = λ s. refl;
  numbers = λ u. (refl, refl);
  nodes = λ n. record { least = refl; most = refl; forgets = refl; file = λ s. refl };
  files = λ f. record { opens = refl; releases = refl };
}
is_concern (act.Interrupts unique original) = record {
  flags = record {
    began = refl;
    agreed = refl;
    max_write = refl;
    several = refl;
    writers = refl;
    resent = refl;
    no_files = refl;
    no_directories = refl;
    highest = λ u. refl;
  };
  no_end = λ s. refl;
  numbers = λ u. (refl, refl);
  nodes = λ n. record { least = refl; most = refl; forgets = refl; file = λ s. refl };
  files = λ f. record { opens = refl; releases = refl };
}
is_concern (act.Replies unique t) = record {
  flags = record {
    began = refl;
    agreed = refl;
    max_write = refl;
    several = refl;
    writers = refl;
    resent = refl;
    no_files = refl;
    no_directories = refl;
    highest = λ u. refl;
  };
  no_end = λ s. refl;
  numbers = λ u. (refl, refl);
  nodes = λ n. record { least = refl; most = refl; forgets = refl; file = λ s. refl };
  files = λ f. record { opens = refl; releases = refl };
}
is_concern (act.Gives node file is_certain) = record {
  flags = record {
    began = refl;
    agreed = refl;
    max_write = refl;
    several = refl;
    writers = refl;
    resent = refl;
    no_files = refl;
    no_directories = refl;
    highest = λ u. refl;
  };
  no_end = λ s. refl;
  numbers = λ u. (refl, refl);
  requests = λ u. record { ending = refl; asking = refl; under = refl; interrupting = refl; again = refl };
  files = λ f. record { opens = refl; releases = refl };
}
is_concern (act.Forgets node lookups) = record {
  flags = record {
    began = refl;
    agreed = refl;
    max_write = refl;
    several = refl;
    writers = refl;
    resent = refl;
    no_files = refl;
    no_directories = refl;
    highest = λ u. refl;
  };
  no_end = λ s. refl;
  numbers = λ u. (refl, refl);
  requests = λ u. record { ending = refl; asking = refl; under = refl; interrupting = refl; again = refl };
  files = λ f. record { opens = refl; releases = refl };
}
is_concern (act.Opens file) = record {
  flags = record {
    began = refl;
    agreed = refl;
    max_write = refl;
    several = refl;
    writers = refl;
    resent = refl;
    no_files = refl;
    no_directories = refl;
    highest = λ u. refl;
  };
  no_end = λ s. refl;
  numbers = λ u. (refl, refl);
  requests = λ u. record { ending = refl; asking = refl; under = refl; interrupting = refl; again = refl };
  nodes = λ n. record { least = refl; most = refl; forgets = refl; file = λ s. refl };
}
is_concern (act.Releases file) = record {
  flags = record {
    began = refl;
    agreed = refl;
    max_write = refl;
    several = refl;
    writers = refl;
    resent = refl;
    no_files = refl;
    no_directories = refl;
    highest = λ u. refl;
  };
  no_end = λ s. refl;
  numbers = λ u. (refl, refl);
  requests = λ u. record { ending = refl; asking = refl; under = refl; interrupting = refl; again = refl };
  nodes = λ n. record { least = refl; most = refl; forgets = refl; file = λ s. refl };
}
is_concern (act.Resent unique original) = tt
is_concern (act.RepliesToInterrupt original is_again t) = tt
is_concern (act.Takes unique taken.NoEntry fit) = tt
is_concern (act.Agrees max_write) = tt
is_concern act.Resends = tt
is_concern (act.OpensNone kind) = tt
is_concern act.SeveralReaders = tt
is_concern act.SeveralWriters = tt
is_concern act.Ends = tt
is_concern a = record {
  flags = record {
    began = refl;
    agreed = refl;
    max_write = refl;
    several = refl;
    writers = refl;
    resent = refl;
    no_files = refl;
    no_directories = refl;
    highest = λ u. refl;
  };
  no_end = λ s. refl;
  numbers = λ u. (refl, refl);
  requests = λ u. record { ending = refl; asking = refl; under = refl; interrupting = refl; again = refl };
  nodes = λ n. record { least = refl; most = refl; forgets = refl; file = λ s. refl };
  files = λ f. record { opens = refl; releases = refl };
}
