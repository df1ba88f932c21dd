-- How nodes and file handles are given to the files that a reply names.
use Rattle.std.specs.Prelude.{◌≡◌, ℕ, ◌-◌, List, Some, map}
use Rattle.fuse_spec.specs.Files.Operations.{Dirent, DirentPlus, Reply, files_in_reply, opens_in_reply}
use Rattle.fuse_spec.specs.Server.Nodes.{NodeTable, MayName, MayChoose, all_given, all_opened, given}
use Rattle.fuse_spec.specs.Server.Performs.{entry_for, wire_of}
use Rattle.fuse_spec.specs.Files.Trees.{Tree}
use Rattle.fuse_spec.specs.declared.Entry.{Entry}
use Rattle.fs_files.specs.Giving.{node_in}
use Rattle.fs_files.specs.Values.{FilesState}
use Rattle.fs_files.specs.Replies.{SentReply, sent_wire}

-- A file is given its node, which stands in this entry, with these nodes after it.
pub record GivesEntry (tree : Tree) (nodes : NodeTable) (file : ℕ) (new : NodeTable) (entry : Entry) : Type 0 where
  pub id : ℕ
  pub may : MayName nodes file id
  pub nodes_is : new ≡ given nodes file id
  pub entry_is : entry ≡ entry_for (λ _. id) new tree file

-- the entry of a name in a list: by the node of its file, or by the root's where that has none
abbrev pub entry_named : Tree → NodeTable → Dirent → Entry
entry_named tree nodes d = entry_for (node_in nodes.rows) nodes tree (d.ino - 1)

-- the names of a list with those entries
abbrev pub entries_named : Tree → NodeTable → List Dirent → List (DirentPlus Entry)
entries_named tree nodes ds = map (λ d. record { file = Some (entry_named tree nodes d); valid = 0; dirent = d }) ds

-- The files of this reply are given nodes and file handles, and this is sent.
pub record GivesNumbers {A : Type 0} (old : FilesState) (reply : Reply ℕ ℕ) (sent : SentReply A)
    (new : FilesState) : Type 0 where
  pub choice : ℕ → ℕ
  pub may : MayChoose choice old.nodes (files_in_reply reply)
  pub tree_is : new.tree ≡ old.tree
  pub nodes_is : new.nodes ≡ all_given choice old.nodes (files_in_reply reply)
  pub handles_is : new.handles ≡ all_opened old.handles (opens_in_reply reply)
  pub wire_is : sent_wire sent ≡ wire_of choice new.nodes old.tree old.handles.next_fh reply
