-- What a step of a call opens.
use Rattle.std.proofs.Common.{◌≡◌, ℕ, Bool, true, false, true≢false, cond, List, [], ◌∷◌, Option, Some, None, Result, Ok, Err, length, refl, sym, subst, ◌⊎◌, inl, All}
use Rattle.std.specs.Prelude.{nat_lt, ◌||◌}
use Rattle.std.proofs.lemmas.List.Elements.{All-nil, All-cons}
use Rattle.fuse_spec.specs.declared.Opened.{Opened}
use Rattle.fuse_spec.specs.Calls.Answers.{Answer}
use Rattle.fuse_spec.specs.Calls.Begins.{Beginning, faulty, sets_out, uses, closes, whole_path, parent_path, beginning}
use Rattle.fuse_spec.specs.Calls.Begins as begins
use Rattle.fuse_spec.specs.Calls.Calls.{Call}
use Rattle.fuse_spec.specs.Calls.Calls as call
use Rattle.fuse_spec.specs.Calls.CallReplies.{all_bound, operation_replied, call_replied}
use Rattle.fuse_spec.specs.Claim.Counts.{opens_of, opens_in}
use Rattle.fuse_spec.specs.Kernel.Kernel.{closed_by}
use Rattle.fuse_spec.specs.Values.Maps.{Map, get}
use Rattle.fuse_spec.specs.Kernel.Messages.{WireReply}
use Rattle.fuse_spec.specs.Files.Operations.{Operation, lookup, getattr, mkdir, create, unlink, rmdir, rename, link, opening, readdir, readdirplus, read, write, Reply, found, missing, created, opened, attributes, listed, listed_plus, content, written, done, failed}
use Rattle.fuse_spec.specs.Calls.Paths.{Name, path_words_of, parent_and_last}
use Rattle.fuse_spec.specs.Kernel.Replies.{kernel_reply, goes_with}
use Rattle.fuse_spec.specs.Calls.Vfs.{CallState, walking, doing, using, Vfs, look, answered, asking, bound, unbound, opened_by, after_walk, after_beginning}
use Rattle.fuse_spec.specs.Calls.Walks.{FinalOperation, WalkPlan, last, WalkStop, unknown, arrived, go, Walked, looks_up, finds_none, asks, operation_at, after_last, after_stop, walk}
use Rattle.fuse_spec.specs.Calls.Walks as walks
use Rattle.fuse_spec.proofs.Tables.{get_put_there, get_put_here, get_gone_here, get_gone_there}
use Rattle.fuse_theorem.specs.OpenNumbers.{UsesOpen}
use Rattle.fuse_theorem.proofs.Lists.MapSums.{worth}
use Rattle.fuse_theorem.proofs.OpenFiles.NumberCounts.{number_alone}
use Rattle.fuse_theorem.proofs.Lists.OpenSums.{has_handle}
use Rattle.fuse_theorem.proofs.OpenFiles.OpensApart.{CallSteps}

-- ---- a call is answered, or waits

-- It is answered, whatever it opened.
pub answered_steps : (c : Vfs Opened) (call : ℕ) (a : Answer) → CallSteps c (answered c call a) call None
answered_steps c call a = record {
  others = λ n ne. get_gone_there c.calls call n ne;
  opens = refl;
  next = refl;
  waits = λ state at. absurd (cc (get_gone_here c.calls call, at));
}

opened_steps : (c : Vfs Opened) (call : ℕ) (o : Opened) (a : Answer)
    → CallSteps c (answered (opened_by c call o) call a) call (Some o)
opened_steps c call o a = record {
  others = λ n ne. get_gone_there c.calls call n ne;
  opens = refl;
  next = refl;
  waits = λ state at. absurd (cc (get_gone_here c.calls call, at));
}

asking_steps : (c : Vfs Opened) (call : ℕ) (state : CallState Opened)
    → ((closing : Map Opened) → UsesOpen c.opens closing state) → CallSteps c (asking c call state).vfs call None
asking_steps c call state uses_it = record {
  others = λ n ne. get_put_there c.calls call state n ne;
  opens = refl;
  next = refl;
  waits = λ other at. let is : state ≡ other = cc (get_put_here c.calls call state, at) in
      (refl, λ closing. subst (UsesOpen c.opens closing) is (uses_it closing));
}

-- ---- walks end in no read or write

final_plain : (final : FinalOperation ℕ) (file : ℕ) → opens_of (operation_at {O = Opened} final file) ≡ []
final_plain (lookup d name) file = refl
final_plain (getattr x) file = refl
final_plain (mkdir d name) file = refl
final_plain (create d name) file = refl
final_plain (unlink d name) file = refl
final_plain (rmdir d name) file = refl
final_plain (rename d old e new) file = refl
final_plain (link x d name) file = refl
final_plain (opening x) file = refl
final_plain (readdir d after size) file = refl
final_plain (readdirplus d after size) file = refl
final_plain (read o offset size) file = elim o [ ]
final_plain (write o offset bytes) file = elim o [ ]

abbrev WalkPlain : Walked ℕ Opened → Type 0
WalkPlain (looks_up d word words plan) = Unit {0}
WalkPlain finds_none = Unit {0}
WalkPlain (asks operation) = opens_of operation ≡ []

last_plain : (final : FinalOperation ℕ) (stop : WalkStop ℕ) → WalkPlain (after_last final stop)
last_plain final (unknown at word words) = tt
last_plain final walks.missing = tt
last_plain final (arrived file) = final_plain final file

walk_plain : (seen : ℕ → Name → Option (Option ℕ)) (root at : ℕ) (words : List Name) (plan : WalkPlan ℕ)
    → WalkPlain (walk seen root at words plan)
walk_plain seen root at words plan = by plan (go seen at words)
  where
    by : (plan : WalkPlan ℕ) (stop : WalkStop ℕ) → WalkPlain (after_stop seen root plan stop)
    by (last final) (unknown d word more) = tt
    by (walks.rename old more new) (unknown d word others) = tt
    by (walks.link more name) (unknown d word others) = tt
    by (last final) walks.missing = tt
    by (walks.rename old more new) walks.missing = tt
    by (walks.link more name) walks.missing = tt
    by (last final) (arrived file) = final_plain final file
    by (walks.rename old more new) (arrived file) = last_plain (rename (Some file) old None new) (go seen root more)
    by (walks.link more name) (arrived file) = last_plain (link (Some file) None name) (go seen root more)

walked_steps : (c : Vfs Opened) (call : ℕ) (x : Walked ℕ Opened) → WalkPlain x
    → CallSteps c (after_walk c call x).vfs call None
walked_steps c call (looks_up d word words plan) h = asking_steps c call (walking d word words plan) (λ closing. tt)
walked_steps c call finds_none h = answered_steps c call _
walked_steps c call (asks operation) h = asking_steps c call (doing operation) (λ closing. h)

-- ---- a call begins

-- How a call begins, and which open file it closes.
pub data BeginsAs (opens : Map Opened) : Beginning ℕ Opened → Option (ℕ × Opened) → Type 0 where
  faults : (errno : ℕ) → BeginsAs opens (faulty errno) None
  leads : (words : List Name) (plan : WalkPlan ℕ) → BeginsAs opens (sets_out words plan) None
  reads : (open_call : ℕ) (operation : Operation ℕ Opened) (o : Opened) → get opens open_call ≡ Some o
      → opens_of operation ≡ o ∷ [] → BeginsAs opens (uses open_call operation) None
  ends : (open_call : ℕ) (o : Opened) → get opens open_call ≡ Some o → BeginsAs opens (closes open_call o) (Some (open_call, o))

module _ (opens : Map Opened) where
  whole : (path : List ℕ) (then : List Name → Beginning ℕ Opened)
      → ((words : List Name) → BeginsAs opens (then words) None) → BeginsAs opens (whole_path path then) None
  whole path then each = by (path_words_of path)
    where
      by : (o : Result (List Name) ℕ) → BeginsAs opens
          (elim o as (λ x. Beginning ℕ Opened) [ Err fault ↦ faulty fault | Ok words ↦ then words ]) None
      by (Err fault) = faults fault
      by (Ok words) = each words

  parent : (path : List ℕ) (then : List Name → Name → Beginning ℕ Opened)
      → ((words : List Name) (name : Name) → BeginsAs opens (then words name) None)
      → BeginsAs opens (parent_path path then) None
  parent path then each = whole path _ (λ words. by words (parent_and_last words))
    where
      by : (words : List Name) (o : Option (List Name × Name))
          → BeginsAs opens (elim o as
          (λ x. Beginning ℕ Opened) [ None ↦ faulty 22 | Some parts ↦ then parts.0 parts.1 ]) None
      by words None = faults 22
      by words (Some parts) = each parts.0 parts.1

  used : (open_call : ℕ) (o : Option Opened) → get opens open_call ≡ o
      → (offset size : ℕ) (then : Opened → Operation ℕ Opened) → ((x : Opened) → opens_of (then x) ≡ x ∷ [])
      → BeginsAs opens (begins.using open_call o offset size then) None
  used open_call None at offset size then each = faults 9
  used open_call (Some x) at offset size then each = by (nat_lt 65536 offset || nat_lt 4096 size)
    where
      by : (b : Bool) → BeginsAs opens (cond b (faulty 22) (uses open_call (then x))) None
      by true = faults 22
      by false = reads open_call (then x) x at (each x)

  pub begins_as : (x : Call) → BeginsAs opens (beginning opens x) (closed_by opens x)
  begins_as (call.stat path) = whole path _ (λ words. leads words _)
  begins_as (call.list path after) = whole path _ (λ words. leads words _)
  begins_as (call.listplus path after) = whole path _ (λ words. leads words _)
  begins_as (call.opening path) = whole path _ (λ words. leads words _)
  begins_as (call.mkdir path) = parent path _ (λ words name. leads words _)
  begins_as (call.create path) = parent path _ (λ words name. leads words _)
  begins_as (call.unlink path) = parent path _ (λ words name. leads words _)
  begins_as (call.rmdir path) = parent path _ (λ words name. leads words _)
  begins_as (call.rename from to) = parent from _ (λ words name. parent to _ (λ more other. leads words _))
  begins_as (call.link from to) = whole from _ (λ words. parent to _ (λ more name. leads words _))
  begins_as (call.read open_call offset size) = used open_call (get opens open_call) refl offset size _ (λ x. refl)
  begins_as (call.write open_call offset bytes) = used open_call (get opens open_call) refl offset (length bytes) _ (λ x. refl)
  begins_as (call.close open_call) = by (get opens open_call) refl
    where
      by : (o : Option Opened) → get opens open_call ≡ o → BeginsAs opens (begins.closing open_call o)
          (elim o as (λ x. Option (ℕ × Opened)) [ None ↦ None | Some x ↦ Some (open_call, x) ])
      by None at = faults 9
      by (Some x) at = ends open_call x at

-- A call that closes nothing begins.
pub begun_steps : (c : Vfs Opened) (call : ℕ) (b : Beginning ℕ Opened) → BeginsAs c.opens b None
    → CallSteps c (after_beginning c call b).vfs call None
begun_steps c call b (faults errno) = answered_steps c call _
begun_steps c call b (leads words plan) = walked_steps c call (walk (look c) c.root c.root words plan)
    (walk_plain (look c) c.root c.root words plan)
begun_steps c call b (reads open_call operation o at is) =
    asking_steps c call (using open_call operation) (λ closing. subst (λ (os : List Opened). All (IsThere closing) os)
    (sym is) (All-cons (IsThere closing) o [] (inl at) (All-nil (IsThere closing))))
  where
    IsThere : Map Opened → Opened → Type 0
    IsThere closing x = (get c.opens open_call ≡ Some x) ⊎ (get closing open_call ≡ Some x)

-- ---- a call receives a reply

-- The file that the reply opens for the operation.
abbrev pub gained_by : Operation ℕ Opened → Reply ℕ Opened → Option Opened
gained_by operation (failed errno) = None
gained_by (create d name) (created file valid o) = Some o
gained_by (opening file) (opened o) = Some o
gained_by operation reply = None

abbrev pub gained : CallState Opened → Reply ℕ Opened → Option Opened
gained (walking d word words plan) reply = None
gained (doing operation) reply = gained_by operation reply
gained (using open_call operation) reply = gained_by operation reply

operation_steps : (c : Vfs Opened) (call : ℕ) (operation : Operation ℕ Opened) (reply : Reply ℕ Opened)
    → CallSteps c (operation_replied c call operation reply) call (gained_by operation reply)
operation_steps c call operation (failed errno) = answered_steps c call _
operation_steps c call (getattr file) (attributes a) = answered_steps c call _
operation_steps c call (readdir d after size) (listed records) = answered_steps c call _
operation_steps c call (readdirplus d after size) (listed_plus pairs) = answered_steps (all_bound c d pairs) call _
operation_steps c call (read o offset size) (content bytes) = answered_steps c call _
operation_steps c call (write o offset bytes) (written size) = answered_steps c call _
operation_steps c call (mkdir d name) (found file valid) = answered_steps (bound c d name (Some file) valid) call _
operation_steps c call (create d name) (created file valid o) = opened_steps (bound c d name (Some file) valid) call o _
operation_steps c call (link linked d name) (found file valid) =
    answered_steps (bound c d name (Some file) valid) call _
operation_steps c call (unlink d name) done = answered_steps (unbound c d name) call _
operation_steps c call (rmdir d name) done = answered_steps (unbound c d name) call _
operation_steps c call (rename d old e new) done = answered_steps (unbound (unbound c d old) e new) call _
operation_steps c call (opening file) (opened o) = opened_steps c call o _
operation_steps c call operation reply = answered_steps c call _

-- A reply reaches the call.
pub replied_steps : (c : Vfs Opened) (call : ℕ) (state : CallState Opened) (reply : Reply ℕ Opened)
    → CallSteps c (call_replied c call state reply).vfs call (gained state reply)
replied_steps c call (walking d word words plan) (found file valid) =
    let c1 = bound c d word (Some file) valid in walked_steps c1 call (walk (look c1) c1.root file words plan)
    (walk_plain (look c1) c1.root file words plan)
replied_steps c call (walking d word words plan) (missing valid) = answered_steps (bound c d word None valid) call _
replied_steps c call (walking d word words plan) (failed errno) = answered_steps c call _
replied_steps c call (walking d word words plan) reply = answered_steps c call _
replied_steps c call (doing operation) reply = operation_steps c call operation reply
replied_steps c call (using open_call operation) reply = operation_steps c call operation reply

-- ---- what it opens is what the copy carries

pub gained_counts : (fh : ℕ) (operation : Operation ℕ Opened) (wire : WireReply) → goes_with operation wire ≡ true
    → worth (has_handle fh) (gained_by operation (kernel_reply operation wire)) ≡ opens_in fh wire
gained_counts fh (create d name) (created g valid n) goes = number_alone n fh
gained_counts fh (opening file) (opened n) goes = number_alone n fh
gained_counts fh operation (created g valid n) goes = absurd (true≢false (sym goes))
gained_counts fh operation (opened n) goes = absurd (true≢false (sym goes))
gained_counts fh operation wire goes = refl
