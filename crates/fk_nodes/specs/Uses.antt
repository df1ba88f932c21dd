-- What becomes of an entry.
use Rattle.std.specs.Prelude.{ℕ}
use Rattle.fuse_spec.specs.Kernel.Replies.{Use, usable, unusable, stale}
use Rattle.fk_nodes.specs.declared.entry_use.EntryUse.{EntryUse}
use Rattle.fk_nodes.specs.declared.entry_use.EntryUse.TheVariants as entry

-- whether an entry of this node can be used
abbrev pub use_meant : ℕ → EntryUse → Use
use_meant node entry.Usable = usable
use_meant node entry.InvalidNodeid = unusable
use_meant node entry.Stale = stale node
