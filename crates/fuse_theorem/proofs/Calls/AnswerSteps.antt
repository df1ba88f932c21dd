-- A step of a call changes no other call and no other answer, and answers the call only as it ends.
use Rattle.std.proofs.Common.{◌≡◌, ◌≢◌, ℕ, ◌+◌, Bool, true, false, Some, None, refl}
use Rattle.fuse_spec.specs.declared.Opened.{Opened}
use Rattle.fuse_spec.specs.Values.Maps.{Map, get, remove}
use Rattle.fuse_spec.specs.Calls.Answers.{Answer}
use Rattle.fuse_spec.specs.Calls.Begins.{Beginning, faulty, sets_out, uses, closes, beginning}
use Rattle.fuse_spec.specs.Calls.Calls.{Call}
use Rattle.fuse_spec.specs.Calls.CallReplies.{all_bound, operation_replied, call_replied}
use Rattle.fuse_spec.specs.Files.Operations.{Operation, getattr, mkdir, create, unlink, rmdir, rename, link, opening, readdir, readdirplus, read, write, Reply, found, missing, created, opened, attributes, listed, listed_plus, content, written, done, failed}
use Rattle.fuse_spec.specs.Calls.Vfs.{CallState, walking, doing, using, Vfs, look, answered, asking, bound, unbound, opened_by, after_walk, after_beginning, numbered, begun}
use Rattle.fuse_spec.specs.Calls.Walks.{Walked, looks_up, finds_none, asks, walk}
use Rattle.fuse_spec.proofs.Tables.{get_put_there, get_gone_here, get_gone_there}

-- Of these calls and answers only those of one call may have changed, and it is not both unanswered and answered where
-- it had no answer.
pub record ChangesOnly (calls : Map (CallState Opened)) (answers : Map Answer) (coming call : ℕ)
    (d : Vfs Opened) : Type 0 where
  pub other_calls : (q : ℕ) → q ≢ call → get d.calls q ≡ get calls q
  pub other_answers : (q : ℕ) → q ≢ call → get d.answers q ≡ get answers q
  pub one : get answers call ≡ None → (a : Answer) → get d.answers call ≡ Some a → get d.calls call ≡ None
  pub coming_call : d.next_call ≡ coming

-- A call changes so, and allocates no number.
abbrev pub ChangesCall : Vfs Opened → ℕ → Vfs Opened → Type 0
ChangesCall c call d = ChangesOnly c.calls c.answers c.next_call call d

pub answered_changes : (c : Vfs Opened) (call : ℕ) (a : Answer) → ChangesCall c call (answered c call a)
answered_changes c call a = record {
  other_calls = λ q ne. get_gone_there c.calls call q ne;
  other_answers = λ q ne. get_put_there c.answers call a q ne;
  one = λ none b at. get_gone_here c.calls call;
  coming_call = refl;
}

asking_changes : (c : Vfs Opened) (call : ℕ) (state : CallState Opened) → ChangesCall c call (asking c call state).vfs
asking_changes c call state = record {
  other_calls = λ q ne. get_put_there c.calls call state q ne;
  other_answers = λ q ne. refl;
  one = λ none a at. absurd (cc (none, at));
  coming_call = refl;
}

walked_changes : (c : Vfs Opened) (call : ℕ) (x : Walked ℕ Opened) → ChangesCall c call (after_walk c call x).vfs
walked_changes c call (looks_up d word words plan) = asking_changes c call (walking d word words plan)
walked_changes c call finds_none = answered_changes c call _
walked_changes c call (asks operation) = asking_changes c call (doing operation)

beginning_changes : (c : Vfs Opened) (call : ℕ) (b : Beginning ℕ Opened)
    → ChangesCall c call (after_beginning c call b).vfs
beginning_changes c call (faulty errno) = answered_changes c call _
beginning_changes c call (sets_out words plan) = walked_changes c call (walk (look c) c.root c.root words plan)
beginning_changes c call (uses open_call operation) = asking_changes c call (using open_call operation)
beginning_changes c call (closes open_call o) = answered_changes (record c { opens = remove c.opens open_call }) call _

-- A call begins, and allocates its number.
pub begun_changes : (aborted : Bool) (c : Vfs Opened) (call : Call)
    → ChangesOnly c.calls c.answers (c.next_call + 1) c.next_call (begun aborted c call).vfs
begun_changes true c call = answered_changes (numbered c) c.next_call _
begun_changes false c call = beginning_changes (numbered c) c.next_call (beginning c.opens call)

operation_changes : (c : Vfs Opened) (call : ℕ) (operation : Operation ℕ Opened) (reply : Reply ℕ Opened)
    → ChangesCall c call (operation_replied c call operation reply)
operation_changes c call operation (failed errno) = answered_changes c call _
operation_changes c call (getattr file) (attributes a) = answered_changes c call _
operation_changes c call (mkdir d name) (found file valid) = answered_changes (bound c d name (Some file) valid) call _
operation_changes c call (create d name) (created file valid o) =
    answered_changes (opened_by (bound c d name (Some file) valid) call o) call _
operation_changes c call (link linked d name) (found file valid) =
    answered_changes (bound c d name (Some file) valid) call _
operation_changes c call (unlink d name) done = answered_changes (unbound c d name) call _
operation_changes c call (rmdir d name) done = answered_changes (unbound c d name) call _
operation_changes c call (rename d old e new) done = answered_changes (unbound (unbound c d old) e new) call _
operation_changes c call (opening file) (opened o) = answered_changes (opened_by c call o) call _
operation_changes c call (readdir d after size) (listed records) = answered_changes c call _
operation_changes c call (readdirplus d after size) (listed_plus pairs) = answered_changes (all_bound c d pairs) call _
operation_changes c call (read o offset size) (content bytes) = answered_changes c call _
operation_changes c call (write o offset bytes) (written size) = answered_changes c call _
operation_changes c call operation reply = answered_changes c call _

-- A reply reaches the call.
pub replied_changes : (c : Vfs Opened) (call : ℕ) (state : CallState Opened) (reply : Reply ℕ Opened)
    → ChangesCall c call (call_replied c call state reply).vfs
replied_changes c call (walking d word words plan) (found file valid) =
    let c1 = bound c d word (Some file) valid in walked_changes c1 call (walk (look c1) c1.root file words plan)
replied_changes c call (walking d word words plan) (missing valid) = answered_changes (bound c d word None valid) call _
replied_changes c call (walking d word words plan) (failed errno) = answered_changes c call _
replied_changes c call (walking d word words plan) reply = answered_changes c call _
replied_changes c call (doing operation) reply = operation_changes c call operation reply
replied_changes c call (using open_call operation) reply = operation_changes c call operation reply
