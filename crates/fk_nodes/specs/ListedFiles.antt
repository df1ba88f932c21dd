-- The names of a list with their files, as a frame has them, and what they make of the kernel's tables.
use Rattle.std.specs.Prelude.{ℕ, List, [], ◌∷◌, Option, Some, None, map}
use Rattle.fuse_frames.specs.ReplyTies.{pair_in}
use Rattle.fuse_spec.specs.declared.Dentry.{Dentry}
use Rattle.fuse_spec.specs.declared.Entry.{Entry}
use Rattle.fuse_spec.specs.Values.Maps.{NameMap, Map}
use Rattle.fuse_spec.specs.declared.Counted.{Counted}
use Rattle.fuse_spec.specs.Calls.CallReplies.{names_listed}
use Rattle.fuse_spec.specs.Files.Operations.{DirentPlus, listed_by, pair_with}
use Rattle.fk_dentry.specs.CachedNames.{NamesInForce, HasRoom}
use Rattle.fk_nodes.specs.LookedUp.{judged_in}
use Rattle.fk_wire.specs.declared.records_plus.RecordsPlus.{RecordsPlus}
use Rattle.fk_wire.specs.Records.{pluses_in}

-- The names that are left in an iterator.
abbrev pub pairs_left_in : RecordsPlus → List (DirentPlus Entry)
pairs_left_in records = map pair_in (pluses_in records)

-- A name that gives a file has room.
abbrev pub HasNameRoom : NamesInForce → (directory : ℕ) → DirentPlus Entry → Option Entry → Type 0
HasNameRoom names directory pair None = Unit {0}
HasNameRoom names directory pair (Some g) = HasRoom names (directory, pair.dirent.name)

-- Each name of a list that has a file has room.
abbrev pub HaveNameRoom : NamesInForce → (directory : ℕ) → List (DirentPlus Entry) → Type 0
HaveNameRoom names directory [] = Unit {0}
HaveNameRoom names directory (pair ∷ pairs) = HasNameRoom names directory pair (listed_by pair)
    × HaveNameRoom names directory pairs

-- The cached names once those of a list are, each judged by these counts.
abbrev pub names_judged : (now directory : ℕ) → Map Counted → NameMap Dentry → List (DirentPlus Entry)
    → NameMap Dentry
names_judged now directory nodes names pairs = names_listed now directory names
    (map (pair_with (λ (g : Entry). g.nodeid)) (map (judged_in nodes) pairs))
