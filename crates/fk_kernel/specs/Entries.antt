-- What replies are to the calls that asked for them.
use Rattle.std.specs.Prelude.{◌≡◌, ◌<◌, ℕ, List, Option, Some, true, false, is_some}
use Rattle.std.specs.List.{list_any}
use Rattle.fuse_spec.specs.declared.Opened.{Opened}
use Rattle.fuse_spec.specs.Kernel.Kernel.{Kernel, is_using}
use Rattle.fuse_spec.specs.Values.Maps.{Map, Place, get, remove, values}
use Rattle.fuse_spec.specs.Kernel.Messages.{WireReply}
use Rattle.fuse_spec.specs.Files.Operations.{Operation, mkdir, create, link, opening, readdirplus, files_in_reply}
use Rattle.fuse_spec.specs.Calls.Paths.{Name}
use Rattle.fuse_spec.specs.Kernel.Replies.{Use, usable, unusable, stale, goes_with, looked_up, reply_judged, use_of_reply}
use Rattle.fuse_spec.specs.declared.Counted.{Counted}
use Rattle.fuse_spec.specs.declared.Entry.{Entry}
use Rattle.fuse_spec.specs.Kernel.Uniques.{numbers_left_from}
use Rattle.fuse_spec.specs.Calls.Vfs.{CallState, walking, doing, using}
use Rattle.fuse_spec.specs.Calls.Walks.{WalkPlan}
use Rattle.fk_syscalls.specs.States.{StandsAt}

-- The call that stands here waits for a reply that says this, and it goes with what the call asked.
pub record Awaits (standing : Option (CallState Opened)) (wire : WireReply) : Type 0 where
  pub operation : Operation ℕ Opened
  pub state : CallState Opened
  pub at : standing ≡ Some state
  pub stands : StandsAt operation state
  pub goes : goes_with operation wire ≡ true

-- The call looks up a word.
pub record StandsAtLookup (standing : Option (CallState Opened)) : Type 0 where
  pub directory : ℕ
  pub word : Name
  pub words : List Name
  pub plan : WalkPlan ℕ
  pub is : standing ≡ Some (walking directory word words plan)

-- The call makes a directory, or gives a file one more name.
pub data MakesName : Operation ℕ Opened → Place → Type 0 where
  mkdirs : (directory : ℕ) (name : Name) → MakesName (mkdir directory name) (directory, name)
  links : (file directory : ℕ) (name : Name) → MakesName (link file directory name) (directory, name)

pub record Makes (standing : Option (CallState Opened)) : Type 0 where
  pub operation : Operation ℕ Opened
  pub place : Place
  pub makes : MakesName operation place
  pub is : standing ≡ Some (doing operation)

-- The call makes a file and opens it.
pub record Creates (standing : Option (CallState Opened)) : Type 0 where
  pub directory : ℕ
  pub name : Name
  pub is : standing ≡ Some (doing (create directory name))

-- The call opens a file.
pub record IsOpening (standing : Option (CallState Opened)) : Type 0 where
  pub node : ℕ
  pub is : standing ≡ Some (doing (opening node))

-- Where the end of this call releases a closed file, a number is left for its RELEASE.
abbrev pub HasUniqueForRelease : Kernel → ℕ → Type 0
HasUniqueForRelease k call =
    (open_call : ℕ) (operation : Operation ℕ Opened) → get k.vfs.calls call ≡ Some (using open_call operation)
    → is_some (get k.closing open_call) ≡ true
    → list_any (is_using open_call) (values (remove k.vfs.calls call)) ≡ false → 0 < numbers_left_from k.queues.next

-- The end of this call releases a closed file, and no number is left for its RELEASE.
pub record LacksUniqueForRelease (k : Kernel) (call : ℕ) : Type 0 where
  pub open_call : ℕ
  pub operation : Operation ℕ Opened
  pub is : get k.vfs.calls call ≡ Some (using open_call operation)
  pub closed : is_some (get k.closing open_call) ≡ true
  pub idle : list_any (is_using open_call) (values (remove k.vfs.calls call)) ≡ false
  pub none_left : numbers_left_from k.queues.next ≡ 0

-- The call lists the names of a directory with their files.
pub record ListsPlus (standing : Option (CallState Opened)) : Type 0 where
  pub directory : ℕ
  pub after : ℕ
  pub size : ℕ
  pub is : standing ≡ Some (doing (readdirplus directory after size))

-- The counts after the entries of a reply that are judged so.
abbrev pub looked_up_by_all : Map Counted → List Entry → Use → Map Counted
looked_up_by_all nodes entries usable = looked_up nodes entries
looked_up_by_all nodes entries unusable = nodes
looked_up_by_all nodes entries (stale node) = nodes

-- The counts after a reply that goes with what a call asked.
abbrev pub nodes_after_reply : Map Counted → WireReply → Map Counted
nodes_after_reply nodes wire = looked_up_by_all nodes (files_in_reply (reply_judged nodes wire)) (use_of_reply nodes wire)
