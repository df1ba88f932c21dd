-- At 7.15 no call asks READDIRPLUS, whatever reaches the kernel.
use Rattle.std.proofs.Common.{◌≡◌, ℕ, Bool, true, false, cond, List, Option, Some, None, Result, Ok, Err, length, refl, sym, subst, ◌∙◌, All}
use Rattle.std.specs.Prelude.{◌%◌, ◌-◌, nat_eq, nat_lt, ◌||◌}
use Rattle.std.proofs.lemmas.List.Elements.{All-nil}
use Rattle.fuse_spec.specs.declared.IntrEffect.{IntrEffect}
use Rattle.fuse_spec.specs.declared.IntrEffect.TheVariants.{Dequeued, Flagged, Queued, None as NoEffect}
use Rattle.fuse_spec.specs.declared.Minor.TheVariants.{M15}
use Rattle.fuse_spec.specs.declared.Opened.{Opened}
use Rattle.fuse_spec.specs.declared.Purpose.{Purpose}
use Rattle.fuse_spec.specs.declared.Purpose.TheVariants as purpose
use Rattle.fuse_spec.specs.Calls.Answers as answer
use Rattle.fuse_spec.specs.Calls.Begins.{Beginning, faulty, sets_out, uses, closes, whole_path, parent_path, beginning}
use Rattle.fuse_spec.specs.Calls.Begins as begins
use Rattle.fuse_spec.specs.Calls.Calls.{Call, for_minor}
use Rattle.fuse_spec.specs.Calls.Calls as call
use Rattle.fuse_spec.specs.Calls.CallReplies.{operation_replied, call_replied}
use Rattle.fuse_spec.specs.Kernel.Kernel.{Kernel, is_aborted, kernel_aborted, advanced, after_use, closed_by, call_begun, after_signal, signalled_at, call_signalled, request_of}
use Rattle.fuse_spec.specs.Values.Maps.{Map, get, values}
use Rattle.fuse_spec.specs.Kernel.Messages.{WireReply, asks}
use Rattle.fuse_spec.specs.Files.Operations.{Operation, Reply, files_in_reply}
use Rattle.fuse_spec.specs.Files.Operations as op
use Rattle.fuse_spec.specs.Calls.Paths.{Name, path_words_of, parent_and_last}
use Rattle.fuse_spec.specs.Kernel.QueueCalls.{waiting, without, after_effect, interrupt_effect}
use Rattle.fuse_spec.specs.Kernel.Queues.{QueueState}
use Rattle.fuse_spec.specs.Kernel.Replies.{kernel_reply, looked_up, Use, usable, unusable, stale, goes_with, is_agreement, judged, replied, replied_to_call, ended_by, request_reply_written, interrupt_reply_written, interrupt_replied, reply_written, reply_received, without_stale, reply_judged, use_of_reply, made_ready}
use Rattle.fuse_spec.specs.Server.Server.{knows}
use Rattle.fuse_spec.specs.Calls.Vfs.{asked, CallState, walking, doing, using, Vfs, answered, look, numbered, bound, begun, after_beginning, after_walk, walks_on}
use Rattle.fuse_spec.specs.Calls.Walks.{FinalOperation, WalkPlan, last, rename, link, WalkStop, unknown, missing, arrived, go, after_last, after_stop, operation_at, Walked, looks_up, finds_none, walk}
use Rattle.fuse_spec.specs.Calls.Walks as final
use Rattle.fuse_theorem.specs.Faultless.{OldPlan, OldState}
use Rattle.fuse_theorem.proofs.Answers.AnswersStay.{advanced_vfs, used_vfs, closing_vfs}
use Rattle.fuse_theorem.proofs.Lists.Values.{All-put, All-gone, All-get}

abbrev pub OldCalls : Vfs Opened → Type 0
OldCalls c = All OldState (values c.calls)

-- ---- walks

abbrev OldWalk : Walked ℕ Opened → Type 0
OldWalk (looks_up d word words plan) = OldPlan plan
OldWalk finds_none = Unit {0}
OldWalk (final.asks operation) = knows M15 (asks operation) ≡ true

final_old : (f : FinalOperation ℕ) (file : ℕ) → OldPlan (last f)
    → knows M15 (asks (operation_at {O = Opened} f file)) ≡ true
final_old (op.lookup d name) file h = refl
final_old (op.getattr x) file h = refl
final_old (op.mkdir d name) file h = refl
final_old (op.create d name) file h = refl
final_old (op.unlink d name) file h = refl
final_old (op.rmdir d name) file h = refl
final_old (op.rename d from e to) file h = refl
final_old (op.link x d name) file h = refl
final_old (op.opening x) file h = refl
final_old (op.readdir d after size) file h = refl
final_old (op.readdirplus d after size) file h = absurd h
final_old (op.read o offset size) file h = refl
final_old (op.write o offset bytes) file h = refl

last_old : (f : FinalOperation ℕ) (stop : WalkStop ℕ) → OldPlan (last f) → OldWalk (after_last f stop)
last_old f (unknown at word words) h = h
last_old f missing h = tt
last_old f (arrived file) h = final_old f file h

stop_old : (seen : ℕ → Name → Option (Option ℕ)) (root : ℕ) (plan : WalkPlan ℕ) (stop : WalkStop ℕ) → OldPlan plan
    → OldWalk (after_stop seen root plan stop)
stop_old seen root plan (unknown at word words) h = h
stop_old seen root plan missing h = tt
stop_old seen root (last f) (arrived file) h = final_old f file h
stop_old seen root (rename old words new) (arrived file) h =
    last_old (op.rename (Some file) old None new) (go seen root words) tt
stop_old seen root (link words name) (arrived file) h = last_old (op.link (Some file) None name) (go seen root words) tt

-- ---- the calls

answered_old : (c : Vfs Opened) → OldCalls c → (call : ℕ) (a : answer.Answer) → OldCalls (answered c call a)
answered_old c old call a = All-gone OldState c.calls call old

walked_old : (c : Vfs Opened) → OldCalls c → (call : ℕ) (x : Walked ℕ Opened) → OldWalk x
    → OldCalls (after_walk c call x).vfs
walked_old c old call (looks_up d word words plan) h = All-put OldState c.calls call (walking d word words plan) old h
walked_old c old call finds_none h = All-gone OldState c.calls call old
walked_old c old call (final.asks operation) h = All-put OldState c.calls call (doing operation) old h

walks_on_old : (c : Vfs Opened) → OldCalls c → (call file : ℕ) (words : List Name) (plan : WalkPlan ℕ) → OldPlan plan
    → OldCalls (walks_on c call file words plan).vfs
walks_on_old c old call file words plan h = walked_old c old call (walk (look c) c.root file words plan)
    (stop_old (look c) c.root plan (go (look c) file words) h)

-- ---- a call begins

abbrev OldBeginning : Beginning ℕ Opened → Type 0
OldBeginning (faulty errno) = Unit {0}
OldBeginning (sets_out words plan) = OldPlan plan
OldBeginning (uses open_call operation) = knows M15 (asks operation) ≡ true
OldBeginning (closes open_call opened) = Unit {0}

whole : (path : List ℕ) (then : List Name → Beginning ℕ Opened) → ((words : List Name) → OldBeginning (then words))
    → OldBeginning (whole_path path then)
whole path then each = by (path_words_of path)
  where
    by : (o : Result (List Name) ℕ) → OldBeginning (elim o as
        (λ x. Beginning ℕ Opened) [ Err fault ↦ faulty fault | Ok words ↦ then words ])
    by (Err fault) = tt
    by (Ok words) = each words

parent : (path : List ℕ) (then : List Name → Name → Beginning ℕ Opened)
    → ((words : List Name) (name : Name) → OldBeginning (then words name)) → OldBeginning (parent_path path then)
parent path then each = whole path _ (λ words. by words (parent_and_last words))
  where
    by : (words : List Name) (o : Option (List Name × Name))
        → OldBeginning (elim o as (λ x. Beginning ℕ Opened) [ None ↦ faulty 22 | Some parts ↦ then parts.0 parts.1 ])
    by words None = tt
    by words (Some parts) = each parts.0 parts.1

used : (open_call : ℕ) (o : Option Opened) (offset size : ℕ) (then : Opened → Operation ℕ Opened)
    → ((x : Opened) → knows M15 (asks (then x)) ≡ true) → OldBeginning (begins.using open_call o offset size then)
used open_call None offset size then each = tt
used open_call (Some x) offset size then each = by (nat_lt 65536 offset || nat_lt 4096 size)
  where
    by : (b : Bool) → OldBeginning (cond b (faulty 22) (uses open_call (then x)))
    by true = tt
    by false = each x

closing_old : (open_call : ℕ) (o : Option Opened) → OldBeginning (begins.closing open_call o)
closing_old open_call None = tt
closing_old open_call (Some x) = tt

-- A call that is put without files sets out for nothing that 7.15 doesn't know.
beginning_old : (opens : Map Opened) (x : Call) → OldBeginning (beginning opens (for_minor false x))
beginning_old opens (call.stat path) = whole path _ (λ words. tt)
beginning_old opens (call.list path after) = whole path _ (λ words. tt)
beginning_old opens (call.listplus path after) = whole path _ (λ words. tt)
beginning_old opens (call.opening path) = whole path _ (λ words. tt)
beginning_old opens (call.mkdir path) = parent path _ (λ words name. tt)
beginning_old opens (call.create path) = parent path _ (λ words name. tt)
beginning_old opens (call.unlink path) = parent path _ (λ words name. tt)
beginning_old opens (call.rmdir path) = parent path _ (λ words name. tt)
beginning_old opens (call.rename from to) = parent from _ (λ words name. parent to _ (λ more other. tt))
beginning_old opens (call.link from to) = whole from _ (λ words. parent to _ (λ more name. tt))
beginning_old opens (call.read open_call offset size) = used open_call (get opens open_call) offset size _ (λ x. refl)
beginning_old opens (call.write open_call offset bytes) =
    used open_call (get opens open_call) offset (length bytes) _ (λ x. refl)
beginning_old opens (call.close open_call) = closing_old open_call (get opens open_call)

begun_old : (aborted : Bool) (c : Vfs Opened) → OldCalls c → (x : Call)
    → OldCalls (begun aborted c (for_minor false x)).vfs
begun_old true c old x = All-gone OldState c.calls c.next_call old
begun_old false c old x = by (beginning c.opens (for_minor false x)) (beginning_old c.opens x)
  where
    by : (b : Beginning ℕ Opened) → OldBeginning b → OldCalls (after_beginning (numbered c) c.next_call b).vfs
    by (faulty errno) h = All-gone OldState c.calls c.next_call old
    by (sets_out words plan) h = walks_on_old (numbered c) old c.next_call c.root words plan h
    by (uses open_call operation) h = All-put OldState c.calls c.next_call (using open_call operation) old h
    by (closes open_call o) h = All-gone OldState c.calls c.next_call old

-- ---- a call receives a reply

operation_old : (c : Vfs Opened) → OldCalls c → (call : ℕ) (operation : Operation ℕ Opened) (reply : Reply ℕ Opened)
    → OldCalls (operation_replied c call operation reply)
operation_old c old call operation (op.failed errno) = All-gone OldState c.calls call old
operation_old c old call (op.getattr file) (op.attributes a) = All-gone OldState c.calls call old
operation_old c old call (op.mkdir d name) (op.found file valid) = All-gone OldState c.calls call old
operation_old c old call (op.create d name) (op.created file valid o) = All-gone OldState c.calls call old
operation_old c old call (op.link linked d name) (op.found file valid) = All-gone OldState c.calls call old
operation_old c old call (op.unlink d name) op.done = All-gone OldState c.calls call old
operation_old c old call (op.rmdir d name) op.done = All-gone OldState c.calls call old
operation_old c old call (op.rename d from e new) op.done = All-gone OldState c.calls call old
operation_old c old call (op.opening file) (op.opened o) = All-gone OldState c.calls call old
operation_old c old call (op.readdir d after size) (op.listed records) = All-gone OldState c.calls call old
operation_old c old call (op.readdirplus d after size) (op.listed_plus pairs) = All-gone OldState c.calls call old
operation_old c old call (op.read o offset size) (op.content bytes) = All-gone OldState c.calls call old
operation_old c old call (op.write o offset bytes) (op.written size) = All-gone OldState c.calls call old
operation_old c old call operation reply = All-gone OldState c.calls call old

replied_old : (c : Vfs Opened) → OldCalls c → (call : ℕ) (state : CallState Opened) → OldState state
    → (reply : Reply ℕ Opened) → OldCalls (call_replied c call state reply).vfs
replied_old c old call (walking d word words plan) h (op.found file valid) =
    walks_on_old (bound c d word (Some file) valid) old call file words plan h
replied_old c old call (walking d word words plan) h (op.missing valid) = All-gone OldState c.calls call old
replied_old c old call (walking d word words plan) h (op.failed errno) = All-gone OldState c.calls call old
replied_old c old call (walking d word words plan) h reply = All-gone OldState c.calls call old
replied_old c old call (doing operation) h reply = operation_old c old call operation reply
replied_old c old call (using open_call operation) h reply = operation_old c old call operation reply

-- ---- the kernel

module _ (k : Kernel) (old : OldCalls k.vfs) where
  pub begins_old : (x : Call) → OldCalls (call_begun k (for_minor false x)).vfs
  begins_old x =
      let next = begun (is_aborted k.phase) k.vfs (for_minor false x) in
      let asking_it = advanced k k.vfs.next_call next in
      subst OldCalls (sym (closing_vfs asking_it (cond (is_aborted k.phase) None
      (closed_by k.vfs.opens (for_minor false x))) ∙ advanced_vfs k k.vfs.next_call next))
      (begun_old (is_aborted k.phase) k.vfs old x)

  used_old : (state : CallState Opened) (q : Kernel) → OldCalls q.vfs → OldCalls (after_use q state).vfs
  used_old state q h = subst OldCalls (sym (used_vfs q state)) h

  pub signal_old : (call : ℕ) (state : CallState Opened) (fatal : Bool)
      → OldCalls (call_signalled k call state fatal).1.vfs
  signal_old call state fatal = by (request_of k call)
    where
      effect : (unique : ℕ) (x : IntrEffect) → OldCalls
          (after_signal (record k { queues = after_effect k.queues unique x }) call state x).vfs
      effect unique Dequeued = used_old state (record k {
        queues = after_effect k.queues unique Dequeued;
        vfs = answered k.vfs call (answer.failed 4);
      }) (answered_old k.vfs old call (answer.failed 4))
      effect unique Flagged = old
      effect unique Queued = old
      effect unique NoEffect = old

      by : (o : Option ℕ) → OldCalls (signalled_at k call state fatal o).1.vfs
      by None = old
      by (Some unique) = effect unique (interrupt_effect k.queues unique fatal)

  judged_old : (q : QueueState Purpose) (call : ℕ) (state : CallState Opened) → OldState state
      → (wire : WireReply) (u : Use) → OldCalls (judged (record k { queues = q }) call state wire u).vfs
  judged_old q call state h wire usable =
      let next = call_replied k.vfs call state (kernel_reply (asked state) wire) in
      subst OldCalls (sym (advanced_vfs (record k {
        queues = q;
        nodes = looked_up k.nodes (files_in_reply wire);
      }) call next))
      (replied_old k.vfs old call state h (kernel_reply (asked state) wire))
  judged_old q call state h wire unusable = answered_old k.vfs old call (answer.failed 5)
  judged_old q call state h wire (stale node) = answered_old k.vfs old call (answer.failed 5)

  pub receives_old : (call : ℕ) (wire : WireReply) (o : Option (CallState Opened)) → get k.vfs.calls call ≡ o
      → OldCalls (replied_to_call k call wire o).1.vfs
  receives_old call wire None there = old
  receives_old call wire (Some state) there = by (goes_with (asked state) wire)
    where
      by : (b : Bool) → OldCalls (replied k call state b wire).1.vfs
      by true = used_old state (reply_received k call state wire)
          (judged_old (without_stale k wire).queues call state (All-get OldState k.vfs.calls call state old there)
          (reply_judged k.nodes wire) (use_of_reply k.nodes wire))
      by false = used_old state (record k { vfs = answered k.vfs call (answer.failed 5) })
          (answered_old k.vfs old call (answer.failed 5))

pub written_old : (k : Kernel) → OldCalls k.vfs → (unique : ℕ) (wire : WireReply)
    → OldCalls (reply_written k unique wire).1.vfs
written_old k old unique wire = by (nat_eq (unique % 2) 1)
  where
    ended : (q : Kernel) (kept : Purpose) → OldCalls q.vfs → OldCalls (ended_by q kept wire).1.vfs
    ended q purpose.Init h = agreed_or (is_agreement wire)
      where
        agreed_or : (b : Bool) → OldCalls (cond b (made_ready q wire) (kernel_aborted q)).vfs
        agreed_or true = h
        agreed_or false = All-nil OldState
    ended q (purpose.Release o) h = h
    ended q (purpose.Call call) h = receives_old q h call wire (get q.vfs.calls call) refl

    even : (o : Option Purpose) → OldCalls (request_reply_written k unique wire o).1.vfs
    even None = old
    even (Some kept) = ended (record k { queues = without k.queues unique }) kept old

    interrupts : (x : WireReply) → OldCalls (interrupt_replied k (unique - 1) x).1.vfs
    interrupts (op.failed errno) = old
    interrupts op.done = old
    interrupts x = old

    odd : (o : Option Purpose) → OldCalls (interrupt_reply_written k unique wire o).1.vfs
    odd None = old
    odd (Some kept) = interrupts wire

    by : (b : Bool) → OldCalls (cond b (interrupt_reply_written k unique wire (waiting k.queues (unique - 1)))
        (request_reply_written k unique wire (waiting k.queues unique))).1.vfs
    by true = odd (waiting k.queues (unique - 1))
    by false = even (waiting k.queues unique)
