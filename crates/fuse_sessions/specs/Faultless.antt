-- What a session shows of its nodes in which a party breaks no rule. Sources: linux/fuse.h; libfuse's low-level notes:
-- lookup, forget, generation.
use Rattle.std.specs.Prelude.{◌≡◌, ◌≢◌, ◌<◌, ◌+◌, ℕ, Bool, true, [], ◌∷◌, ◌++◌, sum_by}
use Rattle.fuse_sessions.specs.declared.act.Act.TheVariants.{Describes, Gives}
use Rattle.fuse_sessions.specs.declared.act.File.{File}
use Rattle.fuse_sessions.specs.declared.fault.Fault.{Fault}
use Rattle.fuse_sessions.specs.declared.fault.Party.{Party}
use Rattle.fuse_sessions.specs.Sessions.{Session}
use Rattle.fuse_sessions.specs.Counts.{forgets_of, gives_most, least_count, most_count}
use Rattle.fuse_sessions.specs.Faults.{HasFaultAt}
use Rattle.fuse_sessions.specs.Parties.{party_of}

-- No act of the session has a fault of this party.
abbrev pub HasNoFaultOf : Party → Session → Type 0
HasNoFaultOf party s = (place : ℕ) (f : Fault) → HasFaultAt [] s place f → party_of f ≢ party

-- how many lookups of a node the entries of a session gave, and how many its forgets gave back
abbrev pub given : ℕ → Session → ℕ
given node s = sum_by (gives_most node) s

abbrev pub given_back : ℕ → Session → ℕ
given_back node s = sum_by (forgets_of node) s

-- Each lookup that was given is given back, or still counted: no count was ever negative. The root is not counted.
abbrev pub Balances : Session → Type 0
Balances s = (node : ℕ) → node ≢ 1 → given node s ≡ given_back node s + most_count s node

-- After the first acts, and after each of the later ones, the node is counted.
abbrev pub StaysCounted : (node : ℕ) → (first later : Session) → Type 0
StaysCounted node first later = (part rest : Session) → later ≡ part ++ rest → 0 < least_count (first ++ part) node

-- Of two entries that give a node both give it for one file, where it stays counted from the one to the other.
abbrev pub StaysOfOneFile : Session → Type 0
StaysOfOneFile s = (node : ℕ) (file other : File) (is_certain : Bool) (before later after : Session)
    → s ≡ before ++ Gives node file true ∷ (later ++ Gives node other is_certain ∷ after)
    → StaysCounted node (before ++ Gives node file true ∷ []) later → other ≡ file

-- And attributes that describe the node are of the kind and the inode number that its entry has.
abbrev pub StaysOfOneKind : Session → Type 0
StaysOfOneKind s = (node kind ino : ℕ) (file : File) (before later after : Session)
    → s ≡ before ++ Gives node file true ∷ (later ++ Describes node kind ino ∷ after)
    → StaysCounted node (before ++ Gives node file true ∷ []) later → (kind ≡ file.kind) × (ino ≡ file.ino)
