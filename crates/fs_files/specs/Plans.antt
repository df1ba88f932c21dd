-- Which numbers a request allocates.
use Rattle.std.specs.Prelude.{◌≡◌, ◌<◌, ◌≤◌, ◌+◌, ◌⊎◌, ℕ, Bool, true, false, length}
use Rattle.fuse_spec.specs.Files.Operations.{Reply, files_in_reply, opens_in_reply}
use Rattle.fuse_spec.specs.Files.Trees.{Tree}
use Rattle.fuse_spec.specs.Server.Nodes.{NodeTable, HandleTable, count_overflows}
use Rattle.fuse_spec.specs.Values.Numbers.{counter_end}
use Rattle.fs_files.specs.Giving.{generations_after}
use Rattle.fs_files.specs.declared.plan.Needs.{Needs}

-- What a request allocates whose reply and whose tree are these: inodes, cookies, nodes for files, and file handles.
pub record AllocatesNumbers (tree new : Tree) (reply : Reply ℕ ℕ) (needs : Needs) : Type 0 where
  pub inodes : new.next_inode ≡ tree.next_inode + needs.inodes
  pub cookies : new.next_cookie ≡ tree.next_cookie + needs.cookies
  pub files : files_in_reply reply ≡ needs.files.items
  pub opens : length (opens_in_reply reply) ≡ needs.opens

-- The counters have the numbers of a request whose reply and whose tree are these, and no node's lookups come to the
-- end of counters. Where it is lost, no node and no file handle is given.
pub record HasNumbers (new : Tree) (nodes : NodeTable) (handles : HandleTable) (lost : Bool)
    (reply : Reply ℕ ℕ) : Type 0 where
  pub inodes : new.next_inode ≤ counter_end
  pub cookies : new.next_cookie ≤ counter_end
  pub generations : lost ≡ false → generations_after nodes (files_in_reply reply) ≤ counter_end
  pub counts : lost ≡ false → count_overflows nodes (files_in_reply reply) ≡ false
  pub numbers : lost ≡ false → handles.next_fh + length (opens_in_reply reply) ≤ counter_end

-- A counter from which it allocates is at its end, or a node's lookups come to it.
abbrev pub LacksNumber : (new : Tree) (nodes : NodeTable) (handles : HandleTable) (lost : Bool) (reply : Reply ℕ ℕ)
    → Type 0
LacksNumber new nodes handles lost reply =
    (counter_end < new.next_inode) ⊎ ((counter_end < new.next_cookie) ⊎ ((lost ≡ false)
    × ((counter_end < generations_after nodes (files_in_reply reply))
    ⊎ ((count_overflows nodes (files_in_reply reply) ≡ true)
    ⊎ (counter_end < handles.next_fh + length (opens_in_reply reply))))))
