-- The requests that were read and not answered.
use Rattle.std.specs.Prelude.{ℕ, Bool, true, false, not, ◌&&◌, ◌||◌, List, [], ◌∷◌, ◌++◌, Option, Some, None, nat_eq, filter}
use Rattle.std.specs.List.{list_any}
use Rattle.std.specs.Map.{lookup}
use Rattle.fuse_sessions.specs.declared.act.Act.{Act}
use Rattle.fuse_sessions.specs.declared.act.Act.TheVariants.{Asks, Replies, Resent}
use Rattle.fuse_sessions.specs.declared.act.Asked.{Asked}
use Rattle.fuse_sessions.specs.declared.act.OpenFile.{OpenFile}
use Rattle.fuse_sessions.specs.declared.act.OpenKind.{OpenKind}
use Rattle.fuse_sessions.specs.declared.act.OpenKind.TheVariants as kind
use Rattle.fuse_sessions.specs.declared.act.Taken.{Taken}
use Rattle.fuse_sessions.specs.declared.act.Taken.TheVariants as taken
use Rattle.fuse_sessions.specs.Sessions.{Session}

-- A written reply ends its request, whatever the device makes of its body, unless the device found no request.
-- (linux/fs/fuse/dev.c, `fuse_dev_do_write`)
abbrev pub reaches : Taken → Bool
reaches taken.NoEntry = false
reaches _ = true

-- the request that an act asks, under its number
abbrev pub asked_by : Act → List (ℕ × Asked)
asked_by (Asks unique asked) = (unique, asked) ∷ []
asked_by act = []

-- The act ends what waits under a number: it replies, or another request takes the number, or the request comes again
-- under another.
abbrev pub ends : ℕ → Act → Bool
ends unique (Asks number asked) = nat_eq number unique
ends unique (Resent number original) = nat_eq original unique
ends unique (Replies number t) = nat_eq number unique && reaches t
ends unique act = false

-- The requests that wait, under their numbers: those that no later act ends.
abbrev pub waiting : Session → List (ℕ × Asked)
waiting [] = []
waiting (act ∷ later) = filter (λ e. not (list_any (ends e.0) later)) (asked_by act) ++ waiting later

-- the request that waits under a number
abbrev pub waits : Session → ℕ → Option Asked
waits s unique = lookup (nat_eq unique) (waiting s)

-- a request names a node
abbrev pub names_node : ℕ → Asked → Bool
names_node node asked = nat_eq asked.nodeid node || nat_eq asked.other node

abbrev pub same_kind : OpenKind → OpenKind → Bool
same_kind kind.File kind.File = true
same_kind kind.Directory kind.Directory = true
same_kind _ _ = false

abbrev pub same_open : OpenFile → OpenFile → Bool
same_open a b = same_kind a.kind b.kind && (nat_eq a.nodeid b.nodeid && nat_eq a.fh b.fh)

abbrev pub is_that : OpenFile → Option OpenFile → Bool
is_that file None = false
is_that file (Some other) = same_open other file

-- a request uses an open file
abbrev pub uses_file : OpenFile → Asked → Bool
uses_file file asked = is_that file asked.uses || is_that file asked.copies_to

-- some request that waits names the node
abbrev pub is_named : Session → ℕ → Bool
is_named s node = list_any (λ (e : ℕ × Asked). names_node node e.1) (waiting s)

-- some request that waits uses the open file
abbrev pub is_used : Session → OpenFile → Bool
is_used s file = list_any (λ (e : ℕ × Asked). uses_file file e.1) (waiting s)
