-- A step of a call changes no other unanswered call, and what it asks is what the call waits for from then on. Only the
-- beginning of a call allocates a number.
use Rattle.std.proofs.Common.{◌≡◌, ◌≢◌, ℕ, ◌+◌, Bool, true, false, List, Option, Some, None, refl, ap, ◌∙◌}
use Rattle.fuse_spec.specs.Values.Maps.{Map, get, remove}
use Rattle.fuse_spec.specs.Calls.Paths.{Name}
use Rattle.fuse_spec.specs.Files.Operations.{Operation, getattr, mkdir, create, unlink, rmdir, rename, link, opening, readdir, readdirplus, read, write, Reply, found, missing, created, opened, attributes, listed, listed_plus, content, written, done, failed}
use Rattle.fuse_spec.specs.Calls.Walks.{WalkPlan, Walked, looks_up, finds_none, asks, walk}
use Rattle.fuse_spec.specs.Calls.Calls.{Call}
use Rattle.fuse_spec.specs.Calls.Begins.{Beginning, faulty, sets_out, uses, closes, beginning}
use Rattle.fuse_spec.specs.Calls.Answers.{Answer}
use Rattle.fuse_spec.specs.Calls.Vfs.{CallState, walking, doing, using, asked, Vfs, Advance, no_more, answered, asking, bound, after_walk, walks_on, after_beginning, numbered, begun, look}
use Rattle.fuse_spec.specs.Calls.CallReplies.{operation_replied, call_replied}
use Rattle.fuse_spec.proofs.Tables.{get_put_here, get_put_there, get_gone_here, get_gone_there}

module _ {O : Type 0} where
  -- what the call waits for after a step, or nothing where it is answered
  abbrev pub WaitsFor : Map (CallState O) → ℕ → Option (Operation ℕ O) → Type 0
  WaitsFor calls call None = get calls call ≡ None
  WaitsFor calls call (Some operation) = (state : CallState O) × (get calls call ≡ Some state)
      × (asked state ≡ operation)

  pub record StepsAlone (old : Map (CallState O)) (coming call : ℕ) (next : Advance O) : Type 0 where
    pub others : (q : ℕ) → q ≢ call → get next.vfs.calls q ≡ get old q
    pub here : WaitsFor next.vfs.calls call next.operation
    pub coming_call : next.vfs.next_call ≡ coming

  pub answered_alone : (c : Vfs O) (call : ℕ) (answer : Answer)
      → StepsAlone c.calls c.next_call call (no_more (answered c call answer))
  answered_alone c call answer = record {
    others = λ q ne. get_gone_there c.calls call q ne;
    here = get_gone_here c.calls call;
    coming_call = refl;
  }

  pub asking_alone : (c : Vfs O) (call : ℕ) (state : CallState O)
      → StepsAlone c.calls c.next_call call (asking c call state)
  asking_alone c call state = record {
    others = λ q ne. get_put_there c.calls call state q ne;
    here = (state, get_put_here c.calls call state, refl);
    coming_call = refl;
  }

  after_walk_alone : (c : Vfs O) (call : ℕ) (w : Walked ℕ O) → StepsAlone c.calls c.next_call call (after_walk c call w)
  after_walk_alone c call (looks_up directory word words plan) = asking_alone c call (walking directory word words plan)
  after_walk_alone c call finds_none = answered_alone c call _
  after_walk_alone c call (asks operation) = asking_alone c call (doing operation)

  walks_on_alone : (c : Vfs O) (call file : ℕ) (words : List Name) (plan : WalkPlan ℕ)
      → StepsAlone c.calls c.next_call call (walks_on c call file words plan)
  walks_on_alone c call file words plan = after_walk_alone c call (walk (look c) c.root file words plan)

  after_beginning_alone : (c : Vfs O) (call : ℕ) (b : Beginning ℕ O)
      → StepsAlone c.calls c.next_call call (after_beginning c call b)
  after_beginning_alone c call (faulty errno) = answered_alone c call _
  after_beginning_alone c call (sets_out words plan) = walks_on_alone c call c.root words plan
  after_beginning_alone c call (uses open_call operation) = asking_alone c call (using open_call operation)
  after_beginning_alone c call (closes open_call o) = answered_alone (record c { opens = remove c.opens open_call }) call _

  pub begun_alone : (aborted : Bool) (c : Vfs O) (call : Call)
      → StepsAlone c.calls (c.next_call + 1) c.next_call (begun aborted c call)
  begun_alone true c call = answered_alone (numbered c) c.next_call _
  begun_alone false c call = after_beginning_alone (numbered c) c.next_call (beginning c.opens call)

  abbrev Rest : Vfs O → Map (CallState O) × ℕ
  Rest c = (c.calls, c.next_call)

  operation_replied_calls : (c : Vfs O) (call : ℕ) (operation : Operation ℕ O) (reply : Reply ℕ O)
      → Rest (operation_replied c call operation reply) ≡ (remove c.calls call, c.next_call)
  operation_replied_calls c call operation (failed errno) = refl
  operation_replied_calls c call (getattr file) (attributes a) = refl
  operation_replied_calls c call (mkdir d name) (found file valid) = refl
  operation_replied_calls c call (create d name) (created file valid o) = refl
  operation_replied_calls c call (link linked d name) (found file valid) = refl
  operation_replied_calls c call (unlink d name) done = refl
  operation_replied_calls c call (rmdir d name) done = refl
  operation_replied_calls c call (rename d old e new) done = refl
  operation_replied_calls c call (opening file) (opened o) = refl
  operation_replied_calls c call (readdir d after size) (listed records) = refl
  operation_replied_calls c call (readdirplus d after size) (listed_plus pairs) = refl
  operation_replied_calls c call (read o offset size) (content bytes) = refl
  operation_replied_calls c call (write o offset bytes) (written size) = refl
  operation_replied_calls c call operation reply = refl

  replied_alone : (c : Vfs O) (call : ℕ) (operation : Operation ℕ O) (reply : Reply ℕ O)
      → StepsAlone c.calls c.next_call call (no_more (operation_replied c call operation reply))
  replied_alone c call operation reply =
      let gone = operation_replied_calls c call operation reply in
      record {
        others = λ q ne. ap (λ (m : Map (CallState O) × ℕ). get m.0 q) gone ∙ get_gone_there c.calls call q ne;
        here = ap (λ (m : Map (CallState O) × ℕ). get m.0 call) gone ∙ get_gone_here c.calls call;
        coming_call = ap (λ (m : Map (CallState O) × ℕ). m.1) gone;
      }

  pub call_replied_alone : (c : Vfs O) (call : ℕ) (state : CallState O) (reply : Reply ℕ O)
      → StepsAlone c.calls c.next_call call (call_replied c call state reply)
  call_replied_alone c call (walking d word words plan) (found file valid) =
      walks_on_alone (bound c d word (Some file) valid) call file words plan
  call_replied_alone c call (walking d word words plan) (missing valid) =
      answered_alone (bound c d word None valid) call _
  call_replied_alone c call (walking d word words plan) (failed errno) = answered_alone c call _
  call_replied_alone c call (walking d word words plan) reply = answered_alone c call _
  call_replied_alone c call (doing operation) reply = replied_alone c call operation reply
  call_replied_alone c call (using open_call operation) reply = replied_alone c call operation reply
