-- The table of notifications: what is fixed for each kind. Each place counts from the frame's first byte.
use Rattle.std.specs.Prelude.{ℕ, ◌+◌, List, codes}
use Rattle.fuse_replies.specs.declared.notification.NotificationKind.{NotificationKind}
use Rattle.fuse_replies.specs.declared.notification.NotificationKind.TheVariants as kind
use Rattle.fuse_replies.specs.declared.notification_table.NotificationRow.{NotificationRow}
use Rattle.fuse_replies.specs.declared.notification_table.NotificationTail.{NotificationTail}
use Rattle.fuse_replies.specs.declared.notification_table.NotificationTail.TheVariants as tail

-- A line: a row, and the kind's name.
pub record Line : Type 0 where
  pub name : List ℕ
  pub row : NotificationRow

abbrev row : (code : ℕ) (name : List ℕ) (since fixed : ℕ) → NotificationTail → Line
row code name since fixed tail = record {
  name = name;
  row = record { code = code; since = since; fixed = fixed; tail = tail };
}

-- The table: code, name, the minor that brought it, the struct's size, what follows it.
abbrev pub table : NotificationKind → Line
table kind.Poll = row 1 (codes "POLL") 11 8 tail.None
table kind.InvalInode = row 2 (codes "INVAL_INODE") 12 24 tail.None
table kind.InvalEntry = row 3 (codes "INVAL_ENTRY") 12 16 (tail.Name 24)
table kind.Store = row 4 (codes "STORE") 15 24 (tail.Data 32)
table kind.Retrieve = row 5 (codes "RETRIEVE") 15 32 tail.None
table kind.Delete = row 6 (codes "DELETE") 18 24 (tail.Name 32)
table kind.Resend = row 7 (codes "RESEND") 40 0 tail.None
table kind.IncEpoch = row 8 (codes "INC_EPOCH") 44 0 tail.None
table kind.Prune = row 9 (codes "PRUNE") 45 16 (tail.Nodes 16)

-- the row of a kind
abbrev pub row_at : NotificationKind → NotificationRow
row_at k = (table k).row

-- its code
abbrev pub code_of : NotificationKind → ℕ
code_of k = (row_at k).code

-- its name
abbrev pub name_of : NotificationKind → List ℕ
name_of k = (table k).name

-- where the number of a tail ends
abbrev pub tail_end : NotificationTail → ℕ
tail_end tail.None = 0
tail_end (tail.Name place) = place + 4
tail_end (tail.Data place) = place + 4
tail_end (tail.Nodes place) = place + 4
