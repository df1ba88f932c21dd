-- A session of names, and what it says of them.
use Rattle.std.specs.Prelude.{ℕ, Bool, true, false, ◌||◌, not, List, Option, Some, None, unwrap_or, nat_eq, if◌then◌else◌}
use Rattle.std.specs.List.{list_any}
use Rattle.std.specs.Option.{option_flatten}
use Rattle.fuse_sessions.specs.Sessions.{latest}
use Rattle.name_sessions.specs.Names.{Name, same_name}
use Rattle.name_sessions.specs.NameActs.{NameAct, NamesAsked, Unsure, Asks, Ends, Removes, Gives, Loses, Leaves}

abbrev pub NameSession : Type 0
NameSession = List NameAct

abbrev pub is_doubt : NameAct → Bool
is_doubt Unsure = true
is_doubt act = false

-- Nothing is certain of any name.
abbrev pub is_unsure : NameSession → Bool
is_unsure s = list_any is_doubt s

-- what an act says of the request under a number: which waits, or that none does
abbrev pub says_of_number : ℕ → NameAct → Option (Option NamesAsked)
says_of_number unique (Asks number asked) = if nat_eq number unique then Some (Some asked) else None
says_of_number unique (Ends number) = if nat_eq number unique then Some None else None
says_of_number unique act = None

-- The request that waits under a number: the last act that speaks of the number says it.
abbrev pub waits : NameSession → ℕ → Option NamesAsked
waits s unique = option_flatten (latest (says_of_number unique) s)

-- What an act says of a name: that it has a file, or that it has none. A LOOKUP that does not find a name says nothing of
-- it: another caller that found the name before may be about to remove it. (linux/fs/fuse/dir.c,
-- `fuse_dentry_revalidate`, which takes no lock of the directory)
abbrev pub says_of_name : Name → NameAct → Option Bool
says_of_name name (Gives other) = if same_name other name then Some true else None
says_of_name name (Loses other) = if same_name other name then Some false else None
says_of_name name (Leaves node) = if nat_eq node name.0 then Some false else None
says_of_name name act = None

-- The kernel may have a file of this name: the last act that speaks of the name gives it one.
abbrev pub is_given : NameSession → Name → Bool
is_given s name = unwrap_or (latest (says_of_name name) s) false

-- The next act is a fault of the kernel: it takes away a name of which it has no file. Linux asks for a name's removal
-- with the directory locked, and after it found a file of that name. (linux/fs/namei.c, `do_unlinkat`, `do_rmdir`,
-- `do_renameat2`)
abbrev pub is_fault : NameSession → NameAct → Bool
is_fault s (Removes name) = not (is_unsure s || is_given s name)
is_fault s act = false
