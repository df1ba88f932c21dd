-- What contracts see of calls.
use Rattle.std.specs.Prelude.{◌≡◌, ℕ, List, None, All}
use Rattle.std.specs.Borrow.{Bor}
use Rattle.fuse_spec.specs.Calls.Answers.{failed}
use Rattle.fuse_spec.specs.Calls.Answers as answer
use Rattle.fuse_spec.specs.Calls.Begins.{Beginning}
use Rattle.fuse_spec.specs.Calls.Calls as call
use Rattle.fuse_spec.specs.Values.Maps.{NameMap}
use Rattle.fuse_spec.specs.Calls.Paths.{Name}
use Rattle.fuse_spec.specs.Calls.Walks.{FinalOperation}
use Rattle.fuse_spec.specs.Files.Operations as op
use Rattle.fuse_spec.specs.Calls.Vfs.{Vfs, Advance, asking, no_more, answered, after_beginning}
use Rattle.fuse_spec.specs.Files.Operations.{Asked}
use Rattle.fuse_spec.specs.declared.Dentry.{Dentry}
use Rattle.fuse_spec.specs.declared.Opened.{Opened}
use Rattle.fk_syscalls.specs.Words.{IsWord}
use Rattle.fk_syscalls.specs.States.{HasCachedNames}
use Rattle.fk_syscalls.specs.declared.beginning.Change.{Change}
use Rattle.fk_syscalls.specs.declared.beginning.Change.TheVariants as change
use Rattle.fk_syscalls.specs.declared.call.Answer.{Answer}
use Rattle.fk_syscalls.specs.declared.call.Answer.TheVariants.{Done, Attributes, Listing, Content, Written, Failed}
use Rattle.fk_syscalls.specs.declared.call.Call.{Call}
use Rattle.fk_syscalls.specs.declared.call.Call.TheVariants.{Stat, List as Lists, ListPlus, Open, Mkdir, Create, Unlink, Rmdir, Rename, Link, Read, Write, Close}
use Rattle.fk_syscalls.specs.declared.state.Next.{Next}
use Rattle.fk_syscalls.specs.declared.state.Next.TheVariants as step

-- The call that is meant.
abbrev pub call_of : Call → call.Call
call_of (Stat path) = call.stat path.now
call_of (Lists path after) = call.list path.now after
call_of (ListPlus path after) = call.listplus path.now after
call_of (Open path) = call.opening path.now
call_of (Mkdir path) = call.mkdir path.now
call_of (Create path) = call.create path.now
call_of (Unlink path) = call.unlink path.now
call_of (Rmdir path) = call.rmdir path.now
call_of (Rename old new) = call.rename old.now new.now
call_of (Link old new) = call.link old.now new.now
call_of (Read open_call offset size) = call.read open_call offset size
call_of (Write open_call offset bytes) = call.write open_call offset bytes.now
call_of (Close open_call) = call.close open_call

-- A change of the directory to which the walk leads, by this name.
abbrev pub changes : Change → Name → FinalOperation ℕ
changes change.Mkdir name = op.mkdir None name
changes change.Create name = op.create None name
changes change.Unlink name = op.unlink None name
changes change.Rmdir name = op.rmdir None name

-- The call closes no file.
abbrev pub ClosesNone : Call → Type 0
ClosesNone (Close open_call) = ⊥
ClosesNone other = Unit {0}

-- The answer that is meant.
abbrev pub answer_of : {A : Type 0} → Answer A → answer.Answer
answer_of Done = answer.done
answer_of (Attributes attributes) = answer.attributes attributes
answer_of (Listing names) = answer.listing names
answer_of (Content bytes) = answer.content bytes.items
answer_of (Written size) = answer.written size
answer_of (Failed errno) = answer.failed errno

-- The names that are asked for or given, if there are some, are words of a path without a fault.
abbrev pub AsksWord : Asked (Bor (List ℕ)) → Type 0
AsksWord asked = All IsWord (op.operation_names (op.operation_of (λ s. s.now) asked))

-- Where a step leaves a call.
abbrev pub comes_to : {A : Type 0} → Vfs Opened → ℕ → Next A → Advance Opened
comes_to c call (step.Ask state) = asking c call state
comes_to c call (step.Answer errno) = no_more (answered c call (failed errno))

-- Where its beginning leaves a call.
abbrev pub IsBegun : {A : Type 0} → NameMap Dentry → ℕ → Beginning ℕ Opened → Next A → Type 0
IsBegun names clock begins next = (c : Vfs Opened) (call : ℕ) → HasCachedNames c names clock
    → after_beginning c call begins ≡ comes_to c call next
