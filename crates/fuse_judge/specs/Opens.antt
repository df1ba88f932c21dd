-- The files that are open.
use Rattle.std.specs.Prelude.{◌≡◌, ◌≤◌, ℕ, length, List, [], ◌∷◌, if◌then◌else◌, nat_eq, nat_lt, filter, sum_by}
use Rattle.fuse_sessions.specs.declared.act.Act.{Act}
use Rattle.fuse_sessions.specs.declared.act.OpenFile.{OpenFile}
use Rattle.fuse_sessions.specs.Sessions.{Session}
use Rattle.fuse_sessions.specs.Waiting.{same_open}
use Rattle.fuse_sessions.specs.OpenFiles.{opened, opens_this, releases_this}
use Rattle.fuse_judge.specs.declared.handle.Handle.{Handle}
use Rattle.fuse_judge.specs.Handles.{handle, same_handle}
use Rattle.fuse_judge.specs.Tallies.{Counts, count_in, one_if}

-- An act neither opens a file nor releases it.
pub record LeavesOpen (file : OpenFile) (a : Act) : Type 0 where
  pub opens : opens_this file a ≡ 0
  pub releases : releases_this file a ≡ 0

-- The tables of open files are right: how often each is open, and of those that are open how many each node has.
pub record AreOpen (s : Session) (counts : Counts Handle) (nodes : Counts ℕ) : Type 0 where
  pub open_count : (file : OpenFile) → count_in same_handle counts (handle file) ≡ opened s file
  pub files : List OpenFile
  pub once : (file : OpenFile) → filter (same_open file) files ≡ (if nat_lt 0 (opened s file) then file ∷ [] else [])
  pub of_nodes : (node : ℕ) → count_in nat_eq nodes node ≡ sum_by (λ file. one_if (nat_eq file.nodeid node)) files
  pub few : length files ≤ length s
