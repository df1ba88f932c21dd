-- The system calls of the plain world in words of its own. It shares with the kernel's side types alone, and how the
-- text of a path is read.
use Rattle.std.specs.Prelude.{◌≡◌, ◌⊎◌, ◌≤◌, ◌<◌, ℕ, ◌+◌, Bool, true, false, List, [], ◌∷◌, ◌++◌, Option, Some, None, Ok, Err, length, map, sum_by}
use Rattle.fuse_spec.specs.declared.Attributes.{Attributes}
use Rattle.fuse_spec.specs.declared.Dentry.{Dentry}
use Rattle.fuse_spec.specs.Values.Maps.{Map, get, put, remove, get_name, put_name, remove_name}
use Rattle.fuse_spec.specs.Values.Numbers.{ebadf, einval, enoent, eio, max_file, max_transfer}
use Rattle.fuse_spec.specs.Calls.Paths.{Name, is_dots, path_words_of}
use Rattle.fuse_spec.specs.Files.Operations.{Operation, OperationAlike, Reply, Dirent, DirentPlus}
use Rattle.fuse_spec.specs.Files.Operations as op
use Rattle.fuse_spec.specs.Files.Trees.{record_length, pair_length}
use Rattle.fuse_spec.specs.Calls.Walks.{FinalOperation, WalkPlan, WalkStop, unknown, missing, arrived, last, rename, link}
use Rattle.fuse_spec.specs.Calls.Calls.{Call}
use Rattle.fuse_spec.specs.Calls.Calls as call
use Rattle.fuse_spec.specs.Calls.Answers.{Answer}
use Rattle.fuse_spec.specs.Calls.Answers as answer
use Rattle.fuse_spec.specs.Calls.Vfs.{CallState, walking, doing, using, Vfs}

-- ---- cached names

-- While the time is before its end, a cached name leads to a file, or to none. (linux/fuse.h, struct fuse_entry_out)
pub record LeadsTo (c : Vfs ℕ) (directory : ℕ) (name : Name) (target : Option ℕ) : Type 0 where
  pub bound : Dentry
  pub there : get_name c.names (directory, name) ≡ Some bound
  pub in_time : c.clock < bound.until
  pub target_is : bound.target ≡ target

-- No name is cached there, or its time is over. (linux/fuse.h, struct fuse_entry_out)
abbrev pub IsNotInForce : Vfs ℕ → ℕ → Name → Type 0
IsNotInForce c directory name = (bound : Dentry) → get_name c.names (directory, name) ≡ Some bound
    → bound.until ≤ c.clock

-- A name comes into force for this many milliseconds from now on. (linux/fuse.h, struct fuse_entry_out)
abbrev pub in_force : Vfs ℕ → ℕ → Name → Option ℕ → (valid_ms : ℕ) → Vfs ℕ
in_force c directory name target valid_ms = record c {
  names =
      put_name c.names (directory, name) (record { target = target; until = c.clock + valid_ms });
}

-- A name goes out of force. (Linux VFS)
abbrev pub out_of_force : Vfs ℕ → ℕ → Name → Vfs ℕ
out_of_force c directory name = record c { names = remove_name c.names (directory, name) }

-- ---- walks

-- A walk from a file along words: a cached name leads on; a missing name ends it, and so does one that has to be
-- asked for. (Linux VFS)
pub data Walks (c : Vfs ℕ) : ℕ → List Name → WalkStop ℕ → Type 0 where
  is_there : (file : ℕ) → Walks c file [] (arrived file)
  goes_on : (at next : ℕ) (word : Name) (words : List Name) (stop : WalkStop ℕ) → LeadsTo c at word (Some next)
      → Walks c next words stop → Walks c at (word ∷ words) stop
  finds_none : (at : ℕ) (word : Name) (words : List Name) → LeadsTo c at word None → Walks c at (word ∷ words) missing
  has_to_ask : (at : ℕ) (word : Name) (words : List Name) → IsNotInForce c at word
      → Walks c at (word ∷ words) (unknown at word words)

-- A file that the operation at the end of a walk names: where it names none, the one to which the last walk led. (Linux
-- VFS)
abbrev pub IsNamedAt : (file : ℕ) → Option ℕ → ℕ → Type 0
IsNamedAt file None other = other ≡ file
IsNamedAt file (Some named) other = other ≡ named

-- What is asked at the file to which the last walk led: the same operation, on those files. (Linux VFS)
abbrev pub AsksAt : FinalOperation ℕ → ℕ → Operation ℕ ℕ → Type 0
AsksAt last_one file operation = OperationAlike (IsNamedAt file) (λ o p. ⊥) last_one operation

-- The call is answered, and waits no longer. (Linux VFS)
abbrev pub is_answered : Vfs ℕ → ℕ → Answer → Vfs ℕ
is_answered c number a = record c { calls = remove c.calls number; answers = put c.answers number a }

-- The call waits for what it asked. (Linux VFS)
abbrev pub is_waiting : Vfs ℕ → ℕ → CallState ℕ → Vfs ℕ
is_waiting c number state = record c { calls = put c.calls number state }

-- A call goes on from a file along words: where that leaves the calls, and what it asks. A rename and a link walk a
-- second time, from the root. (Linux VFS)
pub data GoesOn (c : Vfs ℕ) (number : ℕ) : ℕ → List Name → WalkPlan ℕ → Vfs ℕ → Option (Operation ℕ ℕ) → Type 0 where
  asks_name : (at : ℕ) (words : List Name) (plan : WalkPlan ℕ) (directory : ℕ) (word : Name) (rest : List Name)
      → Walks c at words (unknown directory word rest)
      → GoesOn c number at words plan (is_waiting c number (walking directory word rest plan))
      (Some (op.lookup directory word))
  has_none : (at : ℕ) (words : List Name) (plan : WalkPlan ℕ) → Walks c at words missing
      → GoesOn c number at words plan (is_answered c number (answer.failed enoent)) None
  asks_operation : (at : ℕ) (words : List Name) (last_one : FinalOperation ℕ) (file : ℕ) (operation : Operation ℕ ℕ)
      → Walks c at words (arrived file) → AsksAt last_one file operation
      → GoesOn c number at words (last last_one) (is_waiting c number (doing operation)) (Some operation)
  renames : (at : ℕ) (words : List Name) (old : Name) (more : List Name) (new : Name) (file : ℕ) (after : Vfs ℕ)
      (asked : Option (Operation ℕ ℕ)) → Walks c at words (arrived file)
      → GoesOn c number c.root more (last (op.rename (Some file) old None new)) after asked
      → GoesOn c number at words (rename old more new) after asked
  links : (at : ℕ) (words more : List Name) (name : Name) (file : ℕ) (after : Vfs ℕ) (asked : Option (Operation ℕ ℕ))
      → Walks c at words (arrived file)
      → GoesOn c number c.root more (last (op.link (Some file) None name)) after asked
      → GoesOn c number at words (link more name) after asked

-- ---- a call begins

-- The walk that a call takes. Where it makes, removes or moves a name, that is the last word of the path. (Linux VFS)
pub data TakesWalk : Call → List Name → WalkPlan ℕ → Type 0 where
  stats : (path : List ℕ) (words : List Name) → path_words_of path ≡ Ok words
      → TakesWalk (call.stat path) words (last (op.getattr None))
  lists : (path : List ℕ) (after : ℕ) (words : List Name) → path_words_of path ≡ Ok words
      → TakesWalk (call.list path after) words (last (op.readdir None after max_transfer))
  lists_files : (path : List ℕ) (after : ℕ) (words : List Name) → path_words_of path ≡ Ok words
      → TakesWalk (call.listplus path after) words (last (op.readdirplus None after max_transfer))
  opens : (path : List ℕ) (words : List Name) → path_words_of path ≡ Ok words
      → TakesWalk (call.opening path) words (last (op.opening None))
  mkdirs : (path : List ℕ) (words : List Name) (name : Name) → path_words_of path ≡ Ok (words ++ name ∷ [])
      → TakesWalk (call.mkdir path) words (last (op.mkdir None name))
  creates : (path : List ℕ) (words : List Name) (name : Name) → path_words_of path ≡ Ok (words ++ name ∷ [])
      → TakesWalk (call.create path) words (last (op.create None name))
  unlinks : (path : List ℕ) (words : List Name) (name : Name) → path_words_of path ≡ Ok (words ++ name ∷ [])
      → TakesWalk (call.unlink path) words (last (op.unlink None name))
  rmdirs : (path : List ℕ) (words : List Name) (name : Name) → path_words_of path ≡ Ok (words ++ name ∷ [])
      → TakesWalk (call.rmdir path) words (last (op.rmdir None name))
  renames : (old new : List ℕ) (words more : List Name) (from to : Name) → path_words_of old ≡ Ok (words ++ from ∷ [])
      → path_words_of new ≡ Ok (more ++ to ∷ []) → TakesWalk (call.rename old new) words (rename from more to)
  links : (old new : List ℕ) (words more : List Name) (name : Name) → path_words_of old ≡ Ok words
      → path_words_of new ≡ Ok (more ++ name ∷ []) → TakesWalk (call.link old new) words (link more name)

-- A path that can't be walked; one whose last word is to be made or removed must have one.
pub data HasNoName : List ℕ → ℕ → Type 0 where
  is_faulty : (path : List ℕ) (errno : ℕ) → path_words_of path ≡ Err errno → HasNoName path errno
  is_root : (path : List ℕ) → path_words_of path ≡ Ok [] → HasNoName path einval

-- A call that is answered an error at once. Of two paths the first is judged first.
pub data Fails (opens : Map ℕ) : Call → ℕ → Type 0 where
  of_stat : (path : List ℕ) (errno : ℕ) → path_words_of path ≡ Err errno → Fails opens (call.stat path) errno
  of_list : (path : List ℕ) (after errno : ℕ) → path_words_of path ≡ Err errno → Fails opens (call.list path after) errno
  of_listplus : (path : List ℕ) (after errno : ℕ) → path_words_of path ≡ Err errno
      → Fails opens (call.listplus path after) errno
  of_open : (path : List ℕ) (errno : ℕ) → path_words_of path ≡ Err errno → Fails opens (call.opening path) errno
  of_mkdir : (path : List ℕ) (errno : ℕ) → HasNoName path errno → Fails opens (call.mkdir path) errno
  of_create : (path : List ℕ) (errno : ℕ) → HasNoName path errno → Fails opens (call.create path) errno
  of_unlink : (path : List ℕ) (errno : ℕ) → HasNoName path errno → Fails opens (call.unlink path) errno
  of_rmdir : (path : List ℕ) (errno : ℕ) → HasNoName path errno → Fails opens (call.rmdir path) errno
  of_old : (old new : List ℕ) (errno : ℕ) → HasNoName old errno → Fails opens (call.rename old new) errno
  of_new : (old new : List ℕ) (words : List Name) (from : Name) (errno : ℕ) → path_words_of old ≡ Ok (words ++ from ∷ [])
      → HasNoName new errno → Fails opens (call.rename old new) errno
  of_linked : (old new : List ℕ) (errno : ℕ) → path_words_of old ≡ Err errno → Fails opens (call.link old new) errno
  of_link : (old new : List ℕ) (words : List Name) (errno : ℕ) → path_words_of old ≡ Ok words → HasNoName new errno
      → Fails opens (call.link old new) errno
  read_of_none : (open_call offset size : ℕ) → get opens open_call ≡ None → Fails opens (call.read open_call offset size) ebadf
  read_too_far : (open_call offset size file : ℕ) → get opens open_call ≡ Some file
      → (max_file < offset) ⊎ (max_transfer < size) → Fails opens (call.read open_call offset size) einval
  write_to_none : (open_call offset : ℕ) (bytes : List ℕ) → get opens open_call ≡ None
      → Fails opens (call.write open_call offset bytes) ebadf
  write_too_far : (open_call offset file : ℕ) (bytes : List ℕ) → get opens open_call ≡ Some file
      → (max_file < offset) ⊎ (max_transfer < length bytes) → Fails opens (call.write open_call offset bytes) einval
  close_of_none : (open_call : ℕ) → get opens open_call ≡ None → Fails opens (call.close open_call) ebadf

-- A call begins under a number: it fails at once, sets out from the root, asks of an open file, or closes one. (Linux
-- VFS)
pub data Begins (c : Vfs ℕ) (number : ℕ) : Call → Vfs ℕ → Option (Operation ℕ ℕ) → Type 0 where
  fails : (x : Call) (errno : ℕ) → Fails c.opens x errno
      → Begins c number x (is_answered c number (answer.failed errno)) None
  sets_out : (x : Call) (words : List Name) (plan : WalkPlan ℕ) (after : Vfs ℕ) (asked : Option (Operation ℕ ℕ))
      → TakesWalk x words plan → GoesOn c number c.root words plan after asked → Begins c number x after asked
  reads : (open_call offset size file : ℕ) → get c.opens open_call ≡ Some file → offset ≤ max_file → size ≤ max_transfer
      → Begins c number (call.read open_call offset size) (is_waiting c number (using open_call (op.read file offset size)))
      (Some (op.read file offset size))
  writes : (open_call offset : ℕ) (bytes : List ℕ) (file : ℕ) → get c.opens open_call ≡ Some file → offset ≤ max_file
      → length bytes ≤ max_transfer
      → Begins c number (call.write open_call offset bytes)
      (is_waiting c number (using open_call (op.write file offset bytes))) (Some (op.write file offset bytes))
  closes : (open_call file : ℕ) → get c.opens open_call ≡ Some file
      → Begins c number (call.close open_call) (is_answered
      (record c { opens = remove c.opens open_call }) number answer.done) None

-- ---- a reply reaches a call

-- Whether a reply is one to this operation. (linux/fuse.h, enum fuse_opcode)
abbrev pub is_reply_to : Operation ℕ ℕ → Reply ℕ ℕ → Bool
is_reply_to operation (op.failed errno) = true
is_reply_to (op.getattr file) (op.attributes a) = true
is_reply_to (op.mkdir directory name) (op.found file valid) = true
is_reply_to (op.create directory name) (op.created file valid opened) = true
is_reply_to (op.link linked directory name) (op.found file valid) = true
is_reply_to (op.unlink directory name) op.done = true
is_reply_to (op.rmdir directory name) op.done = true
is_reply_to (op.rename directory old newdir new) op.done = true
is_reply_to (op.opening file) (op.opened opened) = true
is_reply_to (op.readdir directory after size) (op.listed records) = true
is_reply_to (op.readdirplus directory after size) (op.listed_plus pairs) = true
is_reply_to (op.read file offset size) (op.content bytes) = true
is_reply_to (op.write file offset bytes) (op.written size) = true
is_reply_to operation reply = false

-- The reply is one to the operation: an open file is the file that is created or opened, and no more is listed, read or
-- written than was asked.
abbrev pub RepliesTo : Operation ℕ ℕ → Reply ℕ ℕ → Type 0
RepliesTo (op.lookup d name) (op.found x valid) = Unit {0}
RepliesTo (op.lookup d name) (op.missing valid) = Unit {0}
RepliesTo (op.getattr x) (op.attributes a) = Unit {0}
RepliesTo (op.mkdir d name) (op.found x valid) = Unit {0}
RepliesTo (op.create d name) (op.created x valid o) = o ≡ x
RepliesTo (op.unlink d name) op.done = Unit {0}
RepliesTo (op.rmdir d name) op.done = Unit {0}
RepliesTo (op.rename d old e new) op.done = Unit {0}
RepliesTo (op.link x d name) (op.found y valid) = Unit {0}
RepliesTo (op.opening x) (op.opened o) = o ≡ x
RepliesTo (op.readdir d after size) (op.listed records) = sum_by record_length records ≤ size
RepliesTo (op.readdirplus d after size) (op.listed_plus pairs) = sum_by pair_length pairs ≤ size
RepliesTo (op.read o offset size) (op.content bytes) = length bytes ≤ size
RepliesTo (op.write o offset bytes) (op.written size) = size ≤ length bytes
RepliesTo operation (op.failed errno) = Unit {0}
RepliesTo operation reply = ⊥

-- Names of a list come into force in the directory, one after another: each with its file, but `.` and `..` and those
-- that have none. (linux/fuse.h, struct fuse_direntplus)
pub data ComeIntoForce (directory : ℕ) : Vfs ℕ → List (DirentPlus ℕ) → Vfs ℕ → Type 0 where
  none_left : (c : Vfs ℕ) → ComeIntoForce directory c [] c
  comes : (c : Vfs ℕ) (pair : DirentPlus ℕ) (pairs : List (DirentPlus ℕ)) (file : ℕ) (after : Vfs ℕ)
      → is_dots pair.dirent.name ≡ false → pair.file ≡ Some file
      → ComeIntoForce directory (in_force c directory pair.dirent.name (Some file) pair.valid) pairs after
      → ComeIntoForce directory c (pair ∷ pairs) after
  is_dot : (c : Vfs ℕ) (pair : DirentPlus ℕ) (pairs : List (DirentPlus ℕ)) (after : Vfs ℕ)
      → is_dots pair.dirent.name ≡ true
      → ComeIntoForce directory c pairs after → ComeIntoForce directory c (pair ∷ pairs) after
  has_no_file : (c : Vfs ℕ) (pair : DirentPlus ℕ) (pairs : List (DirentPlus ℕ)) (after : Vfs ℕ) → pair.file ≡ None
      → ComeIntoForce directory c pairs after → ComeIntoForce directory c (pair ∷ pairs) after

-- The reply to a call's own operation, the answer that it is, and the names that come into force or go out of it.
-- (Linux VFS)
pub data Answers (c : Vfs ℕ) (number : ℕ) : Operation ℕ ℕ → Reply ℕ ℕ → Vfs ℕ → Type 0 where
  attributes_are : (file : ℕ) (a : Attributes) → Answers c number (op.getattr file) (op.attributes a)
      (is_answered c number (answer.attributes a))
  is_made : (directory : ℕ) (name : Name) (file valid : ℕ)
      → Answers c number (op.mkdir directory name) (op.found file valid)
      (is_answered (in_force c directory name (Some file) valid) number answer.done)
  is_created : (directory : ℕ) (name : Name) (file valid opened : ℕ)
      → Answers c number (op.create directory name) (op.created file valid opened)
      (is_answered (record (in_force c directory name (Some file) valid) {
        opens =
            put c.opens number opened;
      }) number answer.done)
  is_linked : (linked directory : ℕ) (name : Name) (file valid : ℕ)
      → Answers c number (op.link linked directory name) (op.found file valid)
      (is_answered (in_force c directory name (Some file) valid) number answer.done)
  is_unlinked : (directory : ℕ) (name : Name) → Answers c number (op.unlink directory name) op.done
      (is_answered (out_of_force c directory name) number answer.done)
  is_removed : (directory : ℕ) (name : Name) → Answers c number (op.rmdir directory name) op.done
      (is_answered (out_of_force c directory name) number answer.done)
  is_renamed : (directory : ℕ) (old : Name) (newdir : ℕ) (new : Name)
      → Answers c number (op.rename directory old newdir new) op.done
      (is_answered (out_of_force (out_of_force c directory old) newdir new) number answer.done)
  is_opened : (file opened : ℕ) → Answers c number (op.opening file) (op.opened opened)
      (is_answered (record c { opens = put c.opens number opened }) number answer.done)
  names_are : (directory after size : ℕ) (records : List Dirent)
      → Answers c number (op.readdir directory after size) (op.listed records)
      (is_answered c number (answer.listing records))
  names_and_files_are : (directory after size : ℕ) (pairs : List (DirentPlus ℕ)) (named : Vfs ℕ)
      → ComeIntoForce directory c pairs named
      → Answers c number (op.readdirplus directory after size) (op.listed_plus pairs)
      (is_answered named number (answer.listing (map (λ pair. pair.dirent) pairs)))
  content_is : (file offset size : ℕ) (bytes : List ℕ)
      → Answers c number (op.read file offset size) (op.content bytes) (is_answered c number (answer.content bytes))
  is_written : (file offset : ℕ) (bytes : List ℕ) (size : ℕ)
      → Answers c number (op.write file offset bytes) (op.written size) (is_answered c number (answer.written size))
  has_failed : (operation : Operation ℕ ℕ) (errno : ℕ)
      → Answers c number operation (op.failed errno) (is_answered c number (answer.failed errno))
  -- a reply that is none to this operation
  is_no_reply : (operation : Operation ℕ ℕ) (reply : Reply ℕ ℕ) → is_reply_to operation reply ≡ false
      → Answers c number operation reply (is_answered c number (answer.failed eio))

-- Whether a reply to the look-up of a name says that the name leads somewhere, or nowhere, or that it failed.
-- (linux/fuse.h, FUSE_LOOKUP)
abbrev pub is_found_or_not : Reply ℕ ℕ → Bool
is_found_or_not (op.found file valid) = true
is_found_or_not (op.missing valid) = true
is_found_or_not (op.failed errno) = true
is_found_or_not reply = false

-- A reply reaches the call, which stands here: where that leaves the calls, and what it asks next. (Linux VFS)
pub data ReceivesReply (c : Vfs ℕ) (number : ℕ) : CallState ℕ → Reply ℕ ℕ → Vfs ℕ → Option (Operation ℕ ℕ)
    → Type 0 where
  is_found : (directory : ℕ) (word : Name) (words : List Name) (plan : WalkPlan ℕ) (file valid : ℕ) (after : Vfs ℕ)
      (asked : Option (Operation ℕ ℕ)) → GoesOn (in_force c directory word
      (Some file) valid) number file words plan after asked
      → ReceivesReply c number (walking directory word words plan) (op.found file valid) after asked
  is_missing : (directory : ℕ) (word : Name) (words : List Name) (plan : WalkPlan ℕ) (valid : ℕ)
      → ReceivesReply c number (walking directory word words plan) (op.missing valid)
      (is_answered (in_force c directory word None valid) number (answer.failed enoent)) None
  is_not_delivered : (directory : ℕ) (word : Name) (words : List Name) (plan : WalkPlan ℕ) (errno : ℕ)
      → ReceivesReply c number (walking directory word words plan) (op.failed errno)
      (is_answered c number (answer.failed errno)) None
  is_odd : (directory : ℕ) (word : Name) (words : List Name) (plan : WalkPlan ℕ) (reply : Reply ℕ ℕ)
      → is_found_or_not reply ≡ false → ReceivesReply c number (walking directory word words plan) reply
      (is_answered c number (answer.failed eio)) None
  of_operation : (operation : Operation ℕ ℕ) (reply : Reply ℕ ℕ) (after : Vfs ℕ)
      → Answers c number operation reply after → ReceivesReply c number (doing operation) reply after None
  of_open_file : (open_call : ℕ) (operation : Operation ℕ ℕ) (reply : Reply ℕ ℕ) (after : Vfs ℕ)
      → Answers c number operation reply after → ReceivesReply c number (using open_call operation) reply after None
