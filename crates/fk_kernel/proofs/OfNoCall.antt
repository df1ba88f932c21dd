-- A request of a call awaits a reply, and is none of INIT, RELEASE and INTERRUPT.
use Rattle.std.proofs.Common.{◌≡◌, ℕ, true, true≢false, Option, Some, None, sym}
use Rattle.std.specs.Prelude.{is_some}
use Rattle.fuse_spec.specs.declared.Opened.{Opened}
use Rattle.fuse_spec.specs.Calls.Vfs.{CallState, asked}
use Rattle.fuse_spec.specs.Files.Operations.{Operation, lookup, getattr, mkdir, create, unlink, rmdir, rename, link, opening, readdir, readdirplus, read, write}
use Rattle.fuse_spec.specs.Kernel.Messages.{asks}
use Rattle.fuse_frames.specs.RequestTies.{asked_opcode}
use Rattle.fk_kernel.specs.AwaitedReplies.{nothing, reply_to, awaited_by_call, IsOfNoCall}

of_call : (operation : Operation ℕ Opened) → IsOfNoCall (reply_to (asked_opcode (asks operation))) → ⊥
of_call (lookup d w) none = none
of_call (getattr x) none = none
of_call (mkdir d n) none = none
of_call (create d n) none = none
of_call (unlink d n) none = none
of_call (rmdir d n) none = none
of_call (rename d o e n) none = none
of_call (link x d n) none = none
of_call (opening x) none = none
of_call (readdir d a s) none = none
of_call (readdirplus d a s) none = none
of_call (read o f s) none = none
of_call (write o f b) none = none

pub awaited_of_call : (state : Option (CallState Opened)) → IsOfNoCall (awaited_by_call state) → ⊥
awaited_of_call None none = none
awaited_of_call (Some state) none = of_call (asked state) none

-- a call that is unanswered awaits a reply
pub call_awaits : (state : Option (CallState Opened)) → is_some state ≡ true → awaited_by_call state ≡ nothing → ⊥
call_awaits None there none = true≢false (sym there)
call_awaits (Some state) there none = cc
