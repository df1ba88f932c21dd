-- No call of the kernel's writes more than 4,096 bytes at once, in any run.
use Rattle.std.proofs.Common.{◌≡◌, ◌≤◌, ℕ, [], ◌∷◌, Bool, true, false, cond, List, Option, Some, None, Result, Ok, Err, length, refl, sym, subst, ◌∙◌, All, arith}
use Rattle.std.specs.Prelude.{◌%◌, ◌-◌, nat_eq, nat_lt, ◌||◌}
use Rattle.fuse_spec.specs.declared.IntrEffect.{IntrEffect}
use Rattle.fuse_spec.specs.declared.IntrEffect.TheVariants.{Dequeued, Flagged, Queued, None as NoEffect}
use Rattle.fuse_spec.specs.declared.Opened.{Opened}
use Rattle.fuse_spec.specs.declared.Purpose.{Purpose}
use Rattle.fuse_spec.specs.declared.Purpose.TheVariants as purpose
use Rattle.fuse_spec.specs.Calls.Answers as answer
use Rattle.fuse_spec.specs.Calls.Begins.{Beginning, faulty, sets_out, uses, closes, whole_path, parent_path, beginning}
use Rattle.fuse_spec.specs.Calls.Begins as begins
use Rattle.fuse_spec.specs.Calls.Calls.{Call, for_minor}
use Rattle.fuse_spec.specs.Calls.Calls as call
use Rattle.fuse_spec.specs.Calls.CallReplies.{operation_replied, call_replied}
use Rattle.fuse_spec.specs.Kernel.Kernel.{Kernel, is_aborted, kernel_aborted, advanced, after_use, closed_by, call_begun, after_signal, signalled_at, call_signalled, request_of}
use Rattle.fuse_spec.specs.Values.Maps.{Map, get, values}
use Rattle.fuse_spec.specs.Kernel.Messages.{WireReply}
use Rattle.fuse_spec.specs.Files.Operations.{Operation, Reply, files_in_reply}
use Rattle.fuse_spec.specs.Files.Operations as op
use Rattle.fuse_spec.specs.Calls.Paths.{Name, path_words_of, parent_and_last}
use Rattle.fuse_spec.specs.Kernel.QueueCalls.{waiting, without, after_effect, interrupt_effect}
use Rattle.fuse_spec.specs.Kernel.Queues.{QueueState}
use Rattle.fuse_spec.specs.Kernel.Replies.{kernel_reply, looked_up, Use, usable, unusable, stale, goes_with, is_agreement, judged, replied, replied_to_call, ended_by, request_reply_written, interrupt_reply_written, interrupt_replied, reply_written, reply_received, without_stale, reply_judged, use_of_reply, made_ready}
use Rattle.fuse_spec.specs.Calls.Vfs.{asked, CallState, walking, doing, using, Vfs, answered, look, numbered, bound, begun, after_beginning, after_walk, walks_on}
use Rattle.fuse_spec.specs.Calls.Walks.{FinalOperation, WalkPlan, last, rename, link, WalkStop, unknown, missing, arrived, go, after_last, after_stop, operation_at, Walked, looks_up, finds_none, walk}
use Rattle.fuse_spec.specs.Calls.Walks as final
use Rattle.fuse_theorem.proofs.Answers.AnswersStay.{advanced_vfs, used_vfs, closing_vfs}
use Rattle.fuse_theorem.proofs.Lists.Values.{All-put, All-gone, All-get}
use Rattle.std.proofs.lemmas.Bool.Decides.{nat_tests}
use Rattle.std.proofs.lemmas.List.Elements.{All-cons, All-head, All-nil, All-tail}
use Rattle.fuse_spec.specs.declared.WriteResult.{WriteResult}
use Rattle.fuse_device.specs.Transfers.{Transfer}
use Rattle.fk_kernel.specs.AwaitedReplies.{head_unique}
use Rattle.fk_drive.specs.Driving.{Driven, DriveStep, Drives, first_driven, alone, answers, writes, nothing, next as behind}
use Rattle.fk_drive.specs.KernelSteps.{ActsAlone, IsReplyTaken, mounts, begins, is_signalled, ticks, drops_name, evicts, aborts, gives_answer}
use Rattle.fk_drive_theorem.proofs.Stable.{Stable, at_most}
use Rattle.fk_drive_theorem.proofs.Taken.{TakenAs, refused_whole, is_read, holds_as_taken}

-- What writes, writes no more.
abbrev pub IsSmall : {F O : Type 0} → Operation F O → Type 0
IsSmall (op.write o offset bytes) = length bytes ≤ 4096
IsSmall operation = Unit {0}

abbrev SmallPlan : WalkPlan ℕ → Type 0
SmallPlan (last f) = IsSmall f
SmallPlan plan = Unit {0}

abbrev pub SmallState : CallState Opened → Type 0
SmallState (walking directory word words plan) = SmallPlan plan
SmallState (doing operation) = IsSmall operation
SmallState (using open_call operation) = IsSmall operation

abbrev pub AreSmall : Vfs Opened → Type 0
AreSmall c = All SmallState (values c.calls)

operation_stable : {F O : Type 0} (operation : Operation F O) → Stable (IsSmall operation)
operation_stable (op.write o offset bytes) s = at_most (length bytes) 4096 s
operation_stable operation s = tt

state_stable : (state : CallState Opened) → Stable (SmallState state)
state_stable (walking directory word words (last f)) s = operation_stable f s
state_stable (walking directory word words plan) s = tt
state_stable (doing operation) s = operation_stable operation s
state_stable (using open_call operation) s = operation_stable operation s

all_stable : (states : List (CallState Opened)) → Stable (All SmallState states)
all_stable [] s = All-nil SmallState
all_stable (x ∷ xs) s = All-cons SmallState x xs (state_stable x (λ none. s (λ all. none (All-head SmallState x xs all))))
    (all_stable xs (λ none. s (λ all. none (All-tail SmallState x xs all))))

-- ---- walks

abbrev SmallWalk : Walked ℕ Opened → Type 0
SmallWalk (looks_up d word words plan) = SmallPlan plan
SmallWalk finds_none = Unit {0}
SmallWalk (final.asks operation) = IsSmall operation

final_small : (f : FinalOperation ℕ) (file : ℕ) → SmallPlan (last f) → IsSmall (operation_at {O = Opened} f file)
final_small (op.write o offset bytes) file h = h
final_small f file h = tt

last_small : (f : FinalOperation ℕ) (stop : WalkStop ℕ) → SmallPlan (last f) → SmallWalk (after_last f stop)
last_small f (unknown at word words) h = h
last_small f missing h = tt
last_small f (arrived file) h = final_small f file h

stop_small : (seen : ℕ → Name → Option (Option ℕ)) (root : ℕ) (plan : WalkPlan ℕ) (stop : WalkStop ℕ) → SmallPlan plan
    → SmallWalk (after_stop seen root plan stop)
stop_small seen root plan (unknown at word words) h = h
stop_small seen root plan missing h = tt
stop_small seen root (last f) (arrived file) h = final_small f file h
stop_small seen root (rename was words new) (arrived file) h =
    last_small (op.rename (Some file) was None new) (go seen root words) tt
stop_small seen root (link words name) (arrived file) h = last_small (op.link (Some file) None name) (go seen root words) tt

-- ---- the calls

answered_small : (c : Vfs Opened) → AreSmall c → (call : ℕ) (a : answer.Answer) → AreSmall (answered c call a)
answered_small c was call a = All-gone SmallState c.calls call was

walked_small : (c : Vfs Opened) → AreSmall c → (call : ℕ) (x : Walked ℕ Opened) → SmallWalk x
    → AreSmall (after_walk c call x).vfs
walked_small c was call (looks_up d word words plan) h = All-put SmallState c.calls call (walking d word words plan) was h
walked_small c was call finds_none h = All-gone SmallState c.calls call was
walked_small c was call (final.asks operation) h = All-put SmallState c.calls call (doing operation) was h

walks_on_small : (c : Vfs Opened) → AreSmall c → (call file : ℕ) (words : List Name) (plan : WalkPlan ℕ) → SmallPlan plan
    → AreSmall (walks_on c call file words plan).vfs
walks_on_small c was call file words plan h = walked_small c was call (walk (look c) c.root file words plan)
    (stop_small (look c) c.root plan (go (look c) file words) h)

-- ---- a call begins

abbrev SmallBeginning : Beginning ℕ Opened → Type 0
SmallBeginning (faulty errno) = Unit {0}
SmallBeginning (sets_out words plan) = SmallPlan plan
SmallBeginning (uses open_call operation) = IsSmall operation
SmallBeginning (closes open_call opened) = Unit {0}

whole : (path : List ℕ) (then : List Name → Beginning ℕ Opened) → ((words : List Name) → SmallBeginning (then words))
    → SmallBeginning (whole_path path then)
whole path then each = by (path_words_of path)
  where
    by : (o : Result (List Name) ℕ) → SmallBeginning (elim o as
        (λ x. Beginning ℕ Opened) [ Err fault ↦ faulty fault | Ok words ↦ then words ])
    by (Err fault) = tt
    by (Ok words) = each words

parent : (path : List ℕ) (then : List Name → Name → Beginning ℕ Opened)
    → ((words : List Name) (name : Name) → SmallBeginning (then words name)) → SmallBeginning (parent_path path then)
parent path then each = whole path _ (λ words. by words (parent_and_last words))
  where
    by : (words : List Name) (o : Option (List Name × Name))
        → SmallBeginning (elim o as (λ x. Beginning ℕ Opened) [ None ↦ faulty 22 | Some parts ↦ then parts.0 parts.1 ])
    by words None = tt
    by words (Some parts) = each parts.0 parts.1

used : (open_call : ℕ) (o : Option Opened) (offset size : ℕ) (then : Opened → Operation ℕ Opened)
    → ((x : Opened) → size ≤ 4096 → IsSmall (then x)) → SmallBeginning (begins.using open_call o offset size then)
used open_call None offset size then each = tt
used open_call (Some x) offset size then each = by (nat_lt 65536 offset) (nat_lt 4096 size) refl
  where
    by : (a b : Bool) → nat_lt 4096 size ≡ b → SmallBeginning (cond (a || b) (faulty 22) (uses open_call (then x)))
    by true b is = tt
    by false true is = tt
    by false false is = each x (grind (arith, nat_tests, is))

closing_small : (open_call : ℕ) (o : Option Opened) → SmallBeginning (begins.closing open_call o)
closing_small open_call None = tt
closing_small open_call (Some x) = tt

-- A write of more is refused as it begins.
beginning_small : (opens : Map Opened) (x : Call) → SmallBeginning (beginning opens x)
beginning_small opens (call.stat path) = whole path _ (λ words. tt)
beginning_small opens (call.list path after) = whole path _ (λ words. tt)
beginning_small opens (call.listplus path after) = whole path _ (λ words. tt)
beginning_small opens (call.opening path) = whole path _ (λ words. tt)
beginning_small opens (call.mkdir path) = parent path _ (λ words name. tt)
beginning_small opens (call.create path) = parent path _ (λ words name. tt)
beginning_small opens (call.unlink path) = parent path _ (λ words name. tt)
beginning_small opens (call.rmdir path) = parent path _ (λ words name. tt)
beginning_small opens (call.rename from to) = parent from _ (λ words name. parent to _ (λ more other. tt))
beginning_small opens (call.link from to) = whole from _ (λ words. parent to _ (λ more name. tt))
beginning_small opens (call.read open_call offset size) = used open_call (get opens open_call) offset size _ (λ x few. tt)
beginning_small opens (call.write open_call offset bytes) =
    used open_call (get opens open_call) offset (length bytes) _ (λ x few. few)
beginning_small opens (call.close open_call) = closing_small open_call (get opens open_call)

begun_small : (aborted : Bool) (c : Vfs Opened) → AreSmall c → (x : Call)
    → AreSmall (begun aborted c x).vfs
begun_small true c was x = All-gone SmallState c.calls c.next_call was
begun_small false c was x = by (beginning c.opens x) (beginning_small c.opens x)
  where
    by : (b : Beginning ℕ Opened) → SmallBeginning b → AreSmall (after_beginning (numbered c) c.next_call b).vfs
    by (faulty errno) h = All-gone SmallState c.calls c.next_call was
    by (sets_out words plan) h = walks_on_small (numbered c) was c.next_call c.root words plan h
    by (uses open_call operation) h = All-put SmallState c.calls c.next_call (using open_call operation) was h
    by (closes open_call o) h = All-gone SmallState c.calls c.next_call was

-- ---- a call receives a reply

operation_small : (c : Vfs Opened) → AreSmall c → (call : ℕ) (operation : Operation ℕ Opened) (reply : Reply ℕ Opened)
    → AreSmall (operation_replied c call operation reply)
operation_small c was call operation (op.failed errno) = All-gone SmallState c.calls call was
operation_small c was call (op.getattr file) (op.attributes a) = All-gone SmallState c.calls call was
operation_small c was call (op.mkdir d name) (op.found file valid) = All-gone SmallState c.calls call was
operation_small c was call (op.create d name) (op.created file valid o) = All-gone SmallState c.calls call was
operation_small c was call (op.link linked d name) (op.found file valid) = All-gone SmallState c.calls call was
operation_small c was call (op.unlink d name) op.done = All-gone SmallState c.calls call was
operation_small c was call (op.rmdir d name) op.done = All-gone SmallState c.calls call was
operation_small c was call (op.rename d from e new) op.done = All-gone SmallState c.calls call was
operation_small c was call (op.opening file) (op.opened o) = All-gone SmallState c.calls call was
operation_small c was call (op.readdir d after size) (op.listed records) = All-gone SmallState c.calls call was
operation_small c was call (op.readdirplus d after size) (op.listed_plus pairs) = All-gone SmallState c.calls call was
operation_small c was call (op.read o offset size) (op.content bytes) = All-gone SmallState c.calls call was
operation_small c was call (op.write o offset bytes) (op.written size) = All-gone SmallState c.calls call was
operation_small c was call operation reply = All-gone SmallState c.calls call was

replied_small : (c : Vfs Opened) → AreSmall c → (call : ℕ) (state : CallState Opened) → SmallState state
    → (reply : Reply ℕ Opened) → AreSmall (call_replied c call state reply).vfs
replied_small c was call (walking d word words plan) h (op.found file valid) =
    walks_on_small (bound c d word (Some file) valid) was call file words plan h
replied_small c was call (walking d word words plan) h (op.missing valid) = All-gone SmallState c.calls call was
replied_small c was call (walking d word words plan) h (op.failed errno) = All-gone SmallState c.calls call was
replied_small c was call (walking d word words plan) h reply = All-gone SmallState c.calls call was
replied_small c was call (doing operation) h reply = operation_small c was call operation reply
replied_small c was call (using open_call operation) h reply = operation_small c was call operation reply

-- ---- the kernel

module _ (k : Kernel) (was : AreSmall k.vfs) where
  begins_small : (x : Call) → AreSmall (call_begun k x).vfs
  begins_small x =
      let next = begun (is_aborted k.phase) k.vfs x in
      let asking_it = advanced k k.vfs.next_call next in
      subst AreSmall (sym (closing_vfs asking_it (cond (is_aborted k.phase) None
      (closed_by k.vfs.opens x)) ∙ advanced_vfs k k.vfs.next_call next))
      (begun_small (is_aborted k.phase) k.vfs was x)

  used_small : (state : CallState Opened) (q : Kernel) → AreSmall q.vfs → AreSmall (after_use q state).vfs
  used_small state q h = subst AreSmall (sym (used_vfs q state)) h

  signal_small : (call : ℕ) (state : CallState Opened) (fatal : Bool)
      → AreSmall (call_signalled k call state fatal).1.vfs
  signal_small call state fatal = by (request_of k call)
    where
      effect : (unique : ℕ) (x : IntrEffect) → AreSmall
          (after_signal (record k { queues = after_effect k.queues unique x }) call state x).vfs
      effect unique Dequeued = used_small state (record k {
        queues = after_effect k.queues unique Dequeued;
        vfs = answered k.vfs call (answer.failed 4);
      }) (answered_small k.vfs was call (answer.failed 4))
      effect unique Flagged = was
      effect unique Queued = was
      effect unique NoEffect = was

      by : (o : Option ℕ) → AreSmall (signalled_at k call state fatal o).1.vfs
      by None = was
      by (Some unique) = effect unique (interrupt_effect k.queues unique fatal)

  judged_small : (q : QueueState Purpose) (call : ℕ) (state : CallState Opened) → SmallState state
      → (wire : WireReply) (u : Use) → AreSmall (judged (record k { queues = q }) call state wire u).vfs
  judged_small q call state h wire usable =
      let next = call_replied k.vfs call state (kernel_reply (asked state) wire) in
      subst AreSmall (sym (advanced_vfs (record k {
        queues = q;
        nodes = looked_up k.nodes (files_in_reply wire);
      }) call next))
      (replied_small k.vfs was call state h (kernel_reply (asked state) wire))
  judged_small q call state h wire unusable = answered_small k.vfs was call (answer.failed 5)
  judged_small q call state h wire (stale node) = answered_small k.vfs was call (answer.failed 5)

  receives_small : (call : ℕ) (wire : WireReply) (o : Option (CallState Opened)) → get k.vfs.calls call ≡ o
      → AreSmall (replied_to_call k call wire o).1.vfs
  receives_small call wire None there = was
  receives_small call wire (Some state) there = by (goes_with (asked state) wire)
    where
      by : (b : Bool) → AreSmall (replied k call state b wire).1.vfs
      by true = used_small state (reply_received k call state wire)
          (judged_small (without_stale k wire).queues call state (All-get SmallState k.vfs.calls call state was there)
          (reply_judged k.nodes wire) (use_of_reply k.nodes wire))
      by false = used_small state (record k { vfs = answered k.vfs call (answer.failed 5) })
          (answered_small k.vfs was call (answer.failed 5))

written_small : (k : Kernel) → AreSmall k.vfs → (unique : ℕ) (wire : WireReply)
    → AreSmall (reply_written k unique wire).1.vfs
written_small k was unique wire = by (nat_eq (unique % 2) 1)
  where
    ended : (q : Kernel) (kept : Purpose) → AreSmall q.vfs → AreSmall (ended_by q kept wire).1.vfs
    ended q purpose.Init h = agreed_or (is_agreement wire)
      where
        agreed_or : (b : Bool) → AreSmall (cond b (made_ready q wire) (kernel_aborted q)).vfs
        agreed_or true = h
        agreed_or false = All-nil SmallState
    ended q (purpose.Release o) h = h
    ended q (purpose.Call call) h = receives_small q h call wire (get q.vfs.calls call) refl

    even : (o : Option Purpose) → AreSmall (request_reply_written k unique wire o).1.vfs
    even None = was
    even (Some kept) = ended (record k { queues = without k.queues unique }) kept was

    interrupts : (x : WireReply) → AreSmall (interrupt_replied k (unique - 1) x).1.vfs
    interrupts (op.failed errno) = was
    interrupts op.done = was
    interrupts x = was

    odd : (o : Option Purpose) → AreSmall (interrupt_reply_written k unique wire o).1.vfs
    odd None = was
    odd (Some kept) = interrupts wire

    by : (b : Bool) → AreSmall (cond b (interrupt_reply_written k unique wire (waiting k.queues (unique - 1)))
        (request_reply_written k unique wire (waiting k.queues unique))).1.vfs
    by true = odd (waiting k.queues (unique - 1))
    by false = even (waiting k.queues unique)

-- ---- a run

taken_small : (old : Kernel) (bytes : List ℕ) (result : WriteResult) (new : Kernel) → IsReplyTaken old bytes result new
    → AreSmall old.vfs → AreSmall new.vfs
taken_small old bytes result new taken was =
    holds_as_taken old bytes result new taken (AreSmall new.vfs) (all_stable (values new.vfs.calls)) by
  where
    by : TakenAs old bytes result new → AreSmall new.vfs
    by (refused_whole refused no_entry same) = subst (λ (k : Kernel). AreSmall k.vfs) (sym same) was
    by (is_read o wire awaits means same) =
        subst (λ (r : WriteResult × Kernel). AreSmall r.1.vfs) same (written_small old was (head_unique bytes) wire)

alone_small : (old new : Kernel) → ActsAlone old new → AreSmall old.vfs → AreSmall new.vfs
alone_small old new (mounts may) was = All-nil SmallState
alone_small old new (begins call may) was = begins_small old was (for_minor old.lists_files call)
alone_small old new (is_signalled call fatal effect q may is) was =
    subst (λ (r : IntrEffect × Kernel). AreSmall r.1.vfs) is.signalled (signal_small old was call is.state fatal)
alone_small old new (ticks ms may) was = was
alone_small old new (drops_name directory name may) was = was
alone_small old new (evicts node counted may there) was = was
alone_small old new (aborts may) was = All-nil SmallState
alone_small old new (gives_answer call) was = was

step_small : (old : Driven) (log : List Transfer) (new : Driven) → DriveStep old log new → AreSmall old.kernel.vfs
    → AreSmall new.kernel.vfs
step_small old log new (alone k acts) was = alone_small old.kernel k acts was
step_small old log new (answers request error turn bytes written result k taken) was =
    taken_small old.kernel bytes result k taken was
step_small old log new (writes idles frame rest there handed on result k taken log' coming left turn release) was =
    taken_small old.kernel handed result k taken was
step_small old log new step was = was

pub run_small : (asks_opendir : Bool) (log : List Transfer) (new : Driven) → Drives (first_driven asks_opendir) log new
    → AreSmall new.kernel.vfs
run_small asks_opendir log new nothing = All-nil SmallState
run_small asks_opendir log new (behind before mid run more end step) = step_small mid more end step (run_small asks_opendir before mid run)
