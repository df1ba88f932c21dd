-- What a notification is: a header of number 0 with a code, the struct, and what follows it.
use Rattle.std.specs.Prelude.{◌≡◌, ◌≢◌, ◌≤◌, ◌<◌, ℕ, ℤ, ◌+◌, ◌-◌, ◌*◌, ◌/◌, List, length, drop, slice_range, slice_index}
use Rattle.std.specs.Int.{cast_signed, w64}
use Rattle.fk_fields.specs.Fields.{number_at}
use Rattle.fuse_protocol.specs.declared.agreed.Agreed.{Agreed}
use Rattle.fuse_protocol.specs.declared.names.NameRule.TheVariants as rule
use Rattle.fuse_protocol.specs.Names.{IsNameBy}
use Rattle.fuse_replies.specs.declared.notification.Notification.{Notification}
use Rattle.fuse_replies.specs.declared.notification.Notification.TheVariants as view
use Rattle.fuse_replies.specs.declared.notification.NotificationKind.{NotificationKind}
use Rattle.fuse_replies.specs.declared.notification.NotificationKind.TheVariants as kind
use Rattle.fuse_replies.specs.declared.notification_fault.NotificationFault.{NotificationFault}
use Rattle.fuse_replies.specs.declared.notification_fault.NotificationFault.TheVariants as faults
use Rattle.fuse_replies.specs.declared.notification_table.NotificationTail.{NotificationTail}
use Rattle.fuse_replies.specs.declared.notification_table.NotificationTail.TheVariants as tail
use Rattle.fuse_replies.specs.NodeIds.{node_ids_in, node_ids_from}
use Rattle.fuse_replies.specs.NotificationTable.{row_at, code_of}
use Rattle.fuse_replies.specs.Replies.{IsFrame}

-- What a notification says, without where its names lie in memory.
pub data NotificationContent : Type 0 where
  poll : (handle : ℕ) → NotificationContent
  inval_inode : (nodeid : ℕ) (offset size : ℤ) → NotificationContent
  inval_entry : (parent flags : ℕ) (name : List ℕ) → NotificationContent
  store : (nodeid offset : ℕ) (bytes : List ℕ) → NotificationContent
  retrieve : (unique nodeid offset size : ℕ) → NotificationContent
  delete : (parent child : ℕ) (name : List ℕ) → NotificationContent
  resend : NotificationContent
  inc_epoch : NotificationContent
  prune : (nodeids : List ℕ) → NotificationContent

abbrev pub notification_content : Notification → NotificationContent
notification_content (view.Poll handle) = poll handle
notification_content (view.InvalInode nodeid offset size) = inval_inode nodeid offset size
notification_content (view.InvalEntry parent flags name) = inval_entry parent flags name.now
notification_content (view.Store nodeid offset bytes) = store nodeid offset bytes.now
notification_content (view.Retrieve unique nodeid offset size) = retrieve unique nodeid offset size
notification_content (view.Delete parent child name) = delete parent child name.now
notification_content view.Resend = resend
notification_content view.IncEpoch = inc_epoch
notification_content (view.Prune nodeids) = prune (node_ids_in nodeids)

-- the kind of what is said
abbrev pub kind_of : NotificationContent → NotificationKind
kind_of (poll handle) = kind.Poll
kind_of (inval_inode nodeid offset size) = kind.InvalInode
kind_of (inval_entry parent flags name) = kind.InvalEntry
kind_of (store nodeid offset bytes) = kind.Store
kind_of (retrieve unique nodeid offset size) = kind.Retrieve
kind_of (delete parent child name) = kind.Delete
kind_of resend = kind.Resend
kind_of inc_epoch = kind.IncEpoch
kind_of (prune nodeids) = kind.Prune

-- where the struct ends
abbrev pub struct_end : NotificationKind → ℕ
struct_end k = 16 + (row_at k).fixed

-- how many bytes follow it
abbrev pub tail_size : NotificationTail → List ℕ → ℕ
tail_size tail.None bytes = 0
tail_size (tail.Name place) bytes = number_at place 4 bytes + 1
tail_size (tail.Data place) bytes = number_at place 4 bytes
tail_size (tail.Nodes place) bytes = 8 * number_at place 4 bytes

-- the name from a place on, without the byte behind it
abbrev pub name_from : ℕ → List ℕ → List ℕ
name_from place bytes = slice_range bytes place (length bytes - 1)

-- The name that follows the struct is one, and a NUL byte stands behind it.
abbrev pub HasName : Agreed → NotificationTail → (place : ℕ) → List ℕ → Type 0
HasName agreed (tail.Name at) place bytes = IsNameBy agreed rule.Listed (name_from place bytes)
    × (slice_index bytes (length bytes - 1) ≡ 0)
HasName agreed _ place bytes = Unit {0}

-- What a frame of a kind says, by the structs `fuse_notify_.._out` of linux/fuse.h.
abbrev pub notification_at : NotificationKind → List ℕ → NotificationContent
-- kh
notification_at kind.Poll bytes = poll (number_at 16 8 bytes)
-- ino, off, len
notification_at kind.InvalInode bytes = inval_inode (number_at 16 8 bytes) (cast_signed w64 (number_at 24 8 bytes))
    (cast_signed w64 (number_at 32 8 bytes))
-- parent, namelen, flags, and the name
notification_at kind.InvalEntry bytes = inval_entry (number_at 16 8 bytes) (number_at 28 4 bytes) (name_from 32 bytes)
-- nodeid, offset, size, padding, and the data
notification_at kind.Store bytes = store (number_at 16 8 bytes) (number_at 24 8 bytes) (drop 40 bytes)
-- `notify_unique`, nodeid, offset, size, padding
notification_at kind.Retrieve bytes = retrieve (number_at 16 8 bytes) (number_at 24 8 bytes) (number_at 32 8 bytes)
    (number_at 40 4 bytes)
-- parent, child, namelen, padding, and the name
notification_at kind.Delete bytes = delete (number_at 16 8 bytes) (number_at 24 8 bytes) (name_from 40 bytes)
notification_at kind.Resend bytes = resend
notification_at kind.IncEpoch bytes = inc_epoch
-- count, padding, spare, and the nodes
notification_at kind.Prune bytes = prune (node_ids_from ((length bytes - 32) / 8) 32 bytes)

-- The frame has as many bytes as its kind says.
abbrev pub Fits : NotificationKind → List ℕ → Type 0
Fits k bytes = (struct_end k ≤ length bytes) × (struct_end k + tail_size (row_at k).tail bytes ≡ length bytes)

-- The bytes are a notification.
pub record IsNotification (agreed : Agreed) (bytes : List ℕ) (m : NotificationContent) : Type 0 where
  -- struct fuse_out_header: len, the code, 0
  pub frame : IsFrame bytes
  pub code : code_of (kind_of m) ≡ number_at 4 4 bytes
  pub unique : number_at 8 8 bytes ≡ 0
  pub fits : Fits (kind_of m) bytes
  pub name : HasName agreed (row_at (kind_of m)).tail (struct_end (kind_of m)) bytes
  pub content : notification_at (kind_of m) bytes ≡ m

-- The first fault of a notification, each where those before it do not apply.
abbrev pub NotificationFaultIs : Agreed → List ℕ → NotificationFault → Type 0
NotificationFaultIs agreed bytes faults.Short = length bytes < 16
NotificationFaultIs agreed bytes faults.Length = (16 ≤ length bytes) × (IsFrame bytes → ⊥)
NotificationFaultIs agreed bytes faults.Number = IsFrame bytes × (number_at 8 8 bytes ≢ 0)
NotificationFaultIs agreed bytes faults.Code = IsFrame bytes × (number_at 8 8 bytes ≡ 0)
    × ((k : NotificationKind) → code_of k ≢ number_at 4 4 bytes)
NotificationFaultIs agreed bytes faults.Body = IsFrame bytes × (number_at 8 8 bytes ≡ 0)
    × (k : NotificationKind) × (code_of k ≡ number_at 4 4 bytes) × (Fits k bytes → ⊥)
NotificationFaultIs agreed bytes faults.Name = IsFrame bytes × (number_at 8 8 bytes ≡ 0)
    × (k : NotificationKind) × (code_of k ≡ number_at 4 4 bytes) × Fits k bytes
    × (HasName agreed (row_at k).tail (struct_end k) bytes → ⊥)
