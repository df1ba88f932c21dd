-- A closed file whose RELEASE is not queued is used by a call that names it, whatever the event.
use Rattle.std.proofs.lemmas.Bool.{cases_eq}
use Rattle.std.proofs.Common.{T, ◌≡◌, ◌≢◌, inl, inr, not, ℕ, ◌+◌, ◌-◌, ◌<◌, ◌≤◌, Bool, true, false, ◌||◌, cond, List, [], ◌∷◌, Option, Some, None, Result, Ok, Err, length, nat_eq, option_map, refl, ap, sym, subst, ◌∙◌, arith}
use Rattle.std.specs.Prelude.{◌%◌, nat_lt}
use Rattle.std.specs.List.{list_any, remove as without_at}
use Rattle.std.specs.Ordering.{nat_cmp}
use Rattle.std.specs.FinMap.{is_sorted}
use Rattle.std.specs.FinMap.Entries.{is_sorted-where_key}
use Rattle.std.proofs.lemmas.Bool.Decides.{nat_tests}
use Rattle.fuse_spec.specs.declared.Dentry.{Dentry}
use Rattle.fuse_spec.specs.declared.IntrEffect.{IntrEffect}
use Rattle.fuse_spec.specs.declared.IntrEffect.TheVariants.{Dequeued, Flagged, Queued, None as NoEffect}
use Rattle.fuse_spec.specs.declared.Opened.{Opened}
use Rattle.fuse_spec.specs.declared.Purpose.{Purpose}
use Rattle.fuse_spec.specs.declared.Purpose.TheVariants as purpose
use Rattle.fuse_spec.specs.Calls.Answers as answer
use Rattle.fuse_spec.specs.Calls.Begins.{Beginning, faulty, sets_out, uses, closes, whole_path, parent_path, beginning}
use Rattle.fuse_spec.specs.Calls.Begins as begins
use Rattle.fuse_spec.specs.Calls.Calls.{Call, for_minor}
use Rattle.fuse_spec.specs.Calls.Calls as call
use Rattle.fuse_spec.specs.Calls.CallReplies.{operation_replied, call_replied}
use Rattle.fuse_spec.specs.Claim.Counts.{opens_of}
use Rattle.fuse_spec.specs.Kernel.Kernel.{Kernel, is_using, is_aborted, is_used, request_of, kernel_aborted, asking_for, advanced, released, released_if_idle, after_use, closed_by, closing_of, call_begun, after_signal, signalled_at, call_signalled}
use Rattle.fuse_spec.specs.Values.Maps.{Map, NameMap, get, put, remove, values}
use Rattle.fuse_spec.specs.Kernel.Messages.{WireReply}
use Rattle.fuse_spec.specs.Files.Operations.{Operation, Reply, getattr, mkdir, create, unlink, rmdir, rename, link, opening, readdir, readdirplus, read, write, found, missing, created, opened, attributes, listed, listed_plus, content, written, done, failed, files_in_reply}
use Rattle.fuse_spec.specs.Calls.Paths.{Name, path_words_of, parent_and_last}
use Rattle.fuse_spec.specs.Kernel.QueueCalls.{after_effect, interrupt_effect, waiting, without}
use Rattle.fuse_spec.specs.Kernel.Replies.{kernel_reply, looked_up, Use, usable, unusable, stale, goes_with, is_agreement, judged, replied, replied_to_call, request_reply_written, interrupt_reply_written, interrupt_replied, reply_written, reply_received, without_stale, reply_judged, use_of_reply, made_ready}
use Rattle.fuse_spec.specs.Server.Taking.{taking}
use Rattle.fuse_spec.specs.Server.Performs.{served}
use Rattle.fuse_spec.specs.Calls.Vfs.{CallState, walking, doing, using, asked, Vfs, Advance, answered, bound, look, after_walk, after_beginning, numbered, begun, abandoned}
use Rattle.fuse_spec.specs.Calls.Walks.{Walked, looks_up, finds_none, walk}
use Rattle.fuse_spec.specs.Calls.Walks as walked
use Rattle.fuse_spec.specs.World.Worlds.{World, first_world, copy_put}
use Rattle.fuse_spec.specs.World.Events.{Event, Outcome}
use Rattle.fuse_spec.specs.World.Steps.{Happens}
use Rattle.fuse_spec.proofs.Tables.{get_gone_here}
use Rattle.fuse_theorem.specs.ClosedFiles.{WasAnswered, ClosedFiles}
use Rattle.fuse_theorem.proofs.Calls.Finding.{same_is, other_is}
use Rattle.fuse_theorem.proofs.RefusalCases.Happened.{Happened, by_mount, by_call, by_read_interrupt, by_read_forgets, by_read_pending, by_take, by_perform, by_again, by_write, by_settle, by_signal, by_tick, by_drop, by_evict, by_abort, happened}
use Rattle.fuse_theorem.proofs.Nodes.NodesSound.{left_found}
use Rattle.fuse_theorem.proofs.Requests.NumbersStay.{replying_kernel}
use Rattle.fuse_theorem.proofs.Calls.UsedFiles.{ClosedBut, all_used, ends_but, opens_but, asks_but, closed_but}

-- ---- the kernel releases a closed file that is used no more

idle_closes : (k : Kernel) (open_call : ℕ) → ClosedBut (nat_eq open_call) k.vfs k.closing
    → ClosedFiles (released_if_idle k open_call).vfs (released_if_idle k open_call).closing
idle_closes k open_call b = by (get k.closing open_call) refl
  where
    -- only that file is judged
    rest : (closing : Map Opened) → ClosedBut (nat_eq open_call) k.vfs closing
        → ((o : Opened) → get closing open_call ≡ Some o → list_any (is_using open_call) (values k.vfs.calls) ≡ true)
        → ClosedFiles k.vfs closing
    rest closing c mine = record {
      calls_in_order = c.calls_in_order;
      closing_in_order = c.closing_in_order;
      calls_below = c.calls_below;
      opens = c.opens;
      users = c.users;
      not_open = c.not_open;
      used = λ h o at. elim (cases_eq h open_call) [
        | inl e ↦ subst (λ (n : ℕ). list_any (is_using n) (values k.vfs.calls) ≡ true) (sym e)
            (mine o (subst (λ (n : ℕ). get closing n ≡ Some o) e at))
        | inr ne ↦ c.used h o at (other_is open_call h (λ e. ne (sym e)))
      ];
    }

    left : ClosedBut (nat_eq open_call) k.vfs (remove k.closing open_call)
    left = record {
      calls_in_order = b.calls_in_order;
      closing_in_order = is_sorted-where_key nat_cmp (λ (x : ℕ). not (nat_eq x open_call)) k.closing b.closing_in_order;
      calls_below = b.calls_below;
      opens = b.opens;
      users = λ q h operation at.
          let was = b.users q h operation at in record {
            opener = was.opener;
            of_open = was.of_open;
            of_closed = λ o there. was.of_closed o (left_found k.closing open_call h o there);
          };
      not_open = λ h o at. b.not_open h o (left_found k.closing open_call h o at);
      used = λ h o at free. b.used h o (left_found k.closing open_call h o at) free;
    }

    judged_used : (b1 : Bool) → is_used k open_call ≡ b1 → ClosedFiles k.vfs (cond b1 k.closing (remove k.closing open_call))
    judged_used true e = rest k.closing b (λ o at. e)
    judged_used false e = rest (remove k.closing open_call) left (λ o at. absurd (cc (at, get_gone_here k.closing open_call)))

    by : (o : Option Opened) → get k.closing open_call ≡ o
        → ClosedFiles (released k open_call o).vfs (released k open_call o).closing
    by None none = rest k.closing b (λ o at. absurd (cc (at, none)))
    by (Some o) at = judged_used (is_used k open_call) refl

used_closes : (k : Kernel) (state : CallState Opened) → ClosedBut (λ h. is_using h state) k.vfs k.closing
    → ClosedFiles (after_use k state).vfs (after_use k state).closing
used_closes k (walking d word words plan) b = all_used (λ h. false) k.vfs k.closing b (λ h. refl)
used_closes k (doing operation) b = all_used (λ h. false) k.vfs k.closing b (λ h. refl)
used_closes k (using open_call operation) b = idle_closes k open_call b

advanced_but : (except : ℕ → Bool) (k : Kernel) (call : ℕ) (next : Advance Opened)
    → ClosedBut except next.vfs k.closing → ClosedBut except (advanced k call next).vfs (advanced k call next).closing
advanced_but except k call next b = by next.operation
  where
    by : (o : Option (Operation ℕ Opened)) → ClosedBut except (asking_for (record k { vfs = next.vfs }) call o).vfs
        (asking_for (record k { vfs = next.vfs }) call o).closing
    by None = b
    by (Some operation) = b

-- ---- a call receives a reply

module _ (c : Vfs Opened) (closing : Map Opened) (old : ClosedFiles c closing) (call : ℕ) (state : CallState Opened)
    (there : get c.calls call ≡ Some state) where
  abbrev Mine : ℕ → Bool
  Mine h = is_using h state

  low : call < c.next_call
  low = by (nat_lt call c.next_call) refl
    where
      by : (b : Bool) → nat_lt call c.next_call ≡ b → call < c.next_call
      by true e = grind (arith, nat_tests, e)
      by false e = absurd (cc (there, old.calls_below call (grind (arith, nat_tests, e))))

  apart : (h : ℕ) → WasAnswered c h → h ≢ call
  apart h was e = absurd (cc (there, subst (λ (n : ℕ). get c.calls n ≡ None) e was.not_waiting))

  mine : (h : ℕ) (operation : Operation ℕ Opened) → get c.calls call ≡ Some (using h operation) → Mine h ≡ true
  mine h operation at = let same : state ≡ using h operation = cc (there, at) in ap (is_using h) same ∙ same_is h

  ends_so : (names : NameMap Dentry) (answers : Map answer.Answer)
      → ClosedBut Mine (record c { calls = remove c.calls call; names = names; answers = answers }) closing
  ends_so names answers = ends_but c closing old c.next_call call (omega arith) low apart Mine mine names answers

  opens_so : (o : Opened) (names : NameMap Dentry) (answers : Map answer.Answer)
      → ClosedBut Mine (record c {
        calls = remove c.calls call;
        opens = put c.opens call o;
        names = names;
        answers = answers;
      }) closing
  opens_so o names answers = opens_but c closing old c.next_call call (omega arith) low apart Mine mine o names answers

  pub answered_so : (a : answer.Answer) → ClosedBut Mine (answered c call a) closing
  answered_so a = ends_so c.names _

  walks_so : (names : NameMap Dentry) (went : Walked ℕ Opened)
      → ClosedBut Mine (after_walk (record c { names = names }) call went).vfs closing
  walks_so names (looks_up d word words plan) = asks_but c closing old c.next_call call
      (omega arith) low apart Mine mine (walking d word words plan) (λ h operation e. absurd (cc (e))) names
  walks_so names finds_none = ends_so names _
  walks_so names (walked.asks operation) = asks_but c closing old c.next_call call (omega arith) low apart Mine mine
      (doing operation) (λ h other e. absurd (cc (e))) names

  operation_so : (operation : Operation ℕ Opened) (reply : Reply ℕ Opened)
      → ClosedBut Mine (operation_replied c call operation reply) closing
  operation_so operation (failed errno) = ends_so _ _
  operation_so (getattr file) (attributes a) = ends_so _ _
  operation_so (mkdir d name) (found file valid) = ends_so _ _
  operation_so (create d name) (created file valid o) = opens_so o _ _
  operation_so (link linked d name) (found file valid) = ends_so _ _
  operation_so (unlink d name) done = ends_so _ _
  operation_so (rmdir d name) done = ends_so _ _
  operation_so (rename d from e new) done = ends_so _ _
  operation_so (opening file) (opened o) = opens_so o _ _
  operation_so (readdir d after size) (listed records) = ends_so _ _
  operation_so (readdirplus d after size) (listed_plus pairs) = ends_so _ _
  operation_so (read o offset size) (content bytes) = ends_so _ _
  operation_so (write o offset bytes) (written size) = ends_so _ _
  operation_so operation reply = ends_so _ _

  pub replied_so : (reply : Reply ℕ Opened) → (s : CallState Opened)
      → ClosedBut Mine (call_replied c call s reply).vfs closing
  replied_so (found file valid) (walking d word words plan) = let c1 =
      bound c d word (Some file) valid in walks_so c1.names (walk (look c1) c1.root file words plan)
  replied_so (missing valid) (walking d word words plan) = ends_so _ _
  replied_so (failed errno) (walking d word words plan) = ends_so _ _
  replied_so reply (walking d word words plan) = ends_so _ _
  replied_so reply (doing operation) = operation_so operation reply
  replied_so reply (using open_call operation) = operation_so operation reply

-- ---- a call begins

module _ (opens : Map Opened) where
  abbrev BeginsOn : Beginning ℕ Opened → Type 0
  BeginsOn (faulty errno) = Unit {0}
  BeginsOn (sets_out words plan) = Unit {0}
  BeginsOn (uses open_call operation) = (o : Opened) × (get opens open_call ≡ Some o) × (opens_of operation ≡ o ∷ [])
  BeginsOn (closes open_call o) = ⊥

  whole_on : (path : List ℕ) (then : List Name → Beginning ℕ Opened) → ((words : List Name) → BeginsOn (then words))
      → BeginsOn (whole_path path then)
  whole_on path then each = by (path_words_of path)
    where
      by : (o : Result (List Name) ℕ) → BeginsOn (elim o as
          (λ x. Beginning ℕ Opened) [ Err fault ↦ faulty fault | Ok words ↦ then words ])
      by (Err fault) = tt
      by (Ok words) = each words

  parent_on : (path : List ℕ) (then : List Name → Name → Beginning ℕ Opened)
      → ((words : List Name) (name : Name) → BeginsOn (then words name)) → BeginsOn (parent_path path then)
  parent_on path then each = whole_on path _ (λ words. by (parent_and_last words))
    where
      by : (o : Option (List Name × Name)) → BeginsOn (elim o as
          (λ x. Beginning ℕ Opened) [ None ↦ faulty 22 | Some parts ↦ then parts.0 parts.1 ])
      by None = tt
      by (Some parts) = each parts.0 parts.1

  using_on : (open_call : ℕ) (o : Option Opened) → get opens open_call ≡ o
      → (offset size : ℕ) (then : Opened → Operation ℕ Opened) → ((x : Opened) → opens_of (then x) ≡ x ∷ [])
      → BeginsOn (begins.using open_call o offset size then)
  using_on open_call None at offset size then each = tt
  using_on open_call (Some x) at offset size then each = by (nat_lt 65536 offset || nat_lt 4096 size)
    where
      by : (b : Bool) → BeginsOn (cond b (faulty 22) (uses open_call (then x)))
      by true = tt
      by false = (x, at, each x)

module _ (c : Vfs Opened) (closing : Map Opened) (old : ClosedFiles c closing) where
  abbrev no_call : ℕ → Bool
  no_call h = false

  before : (h : ℕ) → WasAnswered c h → h ≢ c.next_call
  before h was e = let b = was.begun in absurd (omega (arith, b, e))

  not_begun : (h : ℕ) (operation : Operation ℕ Opened) → get c.calls c.next_call ≡ Some (using h operation)
      → no_call h ≡ true
  not_begun h operation at = absurd (cc (at, old.calls_below c.next_call (omega arith)))

  at_once : (names : NameMap Dentry) (answers : Map answer.Answer)
      → ClosedFiles (record c {
        calls = remove c.calls c.next_call;
        names = names;
        answers = answers;
        next_call = c.next_call + 1;
      }) closing
  at_once names answers = all_used no_call _ closing
      (ends_but c closing old (c.next_call + 1) c.next_call (omega arith)
      (omega arith) before no_call not_begun names answers) (λ h. refl)

  sets_off : (state : CallState Opened) → ((h : ℕ) (operation : Operation ℕ Opened) → state ≡ using h operation
      → (o : Opened) × (get c.opens h ≡ Some o) × (opens_of operation ≡ o ∷ []))
      → ClosedFiles (record c { calls = put c.calls c.next_call state; next_call = c.next_call + 1 }) closing
  sets_off state file = all_used no_call _ closing
      (asks_but c closing old (c.next_call + 1) c.next_call (omega arith)
      (omega arith) before no_call not_begun state file c.names) (λ h. refl)

  walked_off : (went : Walked ℕ Opened) → ClosedFiles (after_walk (numbered c) c.next_call went).vfs closing
  walked_off (looks_up d word words plan) = sets_off (walking d word words plan) (λ h operation e. absurd (cc (e)))
  walked_off finds_none = at_once c.names _
  walked_off (walked.asks operation) = sets_off (doing operation) (λ h other e. absurd (cc (e)))

  begins_so : (b : Beginning ℕ Opened) → BeginsOn c.opens b
      → ClosedFiles (after_beginning (numbered c) c.next_call b).vfs closing
  begins_so (faulty errno) h = at_once c.names _
  begins_so (sets_out words plan) h = walked_off (walk (look (numbered c)) c.root c.root words plan)
  begins_so (uses open_call operation) h = sets_off (using open_call operation) (λ q other e. file q other e)
    where
      file : (q : ℕ) (other : Operation ℕ Opened) → using open_call operation ≡ using q other
          → (o : Opened) × (get c.opens q ≡ Some o) × (opens_of other ≡ o ∷ [])
      file q other e =
          let same : open_call ≡ q = cc (e) in
          let alike : operation ≡ other = cc (e) in (
            h.0,
            subst (λ (n : ℕ). get c.opens n ≡ Some h.0) same h.1,
            subst (λ (x : Operation ℕ Opened). opens_of x ≡ h.0 ∷ []) alike h.2,
          )
  begins_so (closes open_call o) h = absurd h

  -- a call that closes nothing
  unaborted : (x : Call) → BeginsOn c.opens (beginning c.opens x) → ClosedFiles (begun false c x).vfs closing
  unaborted x on = begins_so (beginning c.opens x) on

abbrev After : Kernel → Type 0
After l = ClosedFiles l.vfs l.closing

-- A call begins, and what it closes is released once it is used no more.
module _ (k : Kernel) (old : ClosedFiles k.vfs k.closing) where
  advances : (x : Call) (b : Bool) → ClosedFiles (begun b k.vfs x).vfs k.closing
      → After (advanced k k.vfs.next_call (begun b k.vfs x))
  advances x b h = all_used (λ n. false) _ _ (advanced_but (λ n. false) k k.vfs.next_call (begun b k.vfs x)
      (all_but h)) (λ n. refl)
    where
      all_but : {c : Vfs Opened} {closing : Map Opened} → ClosedFiles c closing → ClosedBut (λ n. false) c closing
      all_but f = record {
        calls_in_order = f.calls_in_order;
        closing_in_order = f.closing_in_order;
        calls_below = f.calls_below;
        opens = f.opens;
        users = f.users;
        not_open = f.not_open;
        used =
            λ h o at free. f.used h o at;
      }

  abbrev Begun : Bool → Call → Type 0
  Begun b x = After (closing_of (advanced k k.vfs.next_call (begun b k.vfs x)) (cond b None (closed_by k.vfs.opens x)))

  others : (x : Call) → closed_by k.vfs.opens x ≡ None → BeginsOn k.vfs.opens (beginning k.vfs.opens x) → Begun false x
  others x none on = subst (λ (f : Option (ℕ × Opened)). After
      (closing_of (advanced k k.vfs.next_call (begun false k.vfs x)) f)) (sym none)
      (advances x false (unaborted k.vfs k.closing old x on))

  closes_one : (open_call : ℕ) (o : Option Opened) → get k.vfs.opens open_call ≡ o
      → After (closing_of (advanced k k.vfs.next_call (after_beginning (numbered k.vfs) k.vfs.next_call
      (begins.closing open_call o))) (option_map (λ (opened : Opened). (open_call, opened)) o))
  closes_one open_call None at = at_once k.vfs k.closing old k.vfs.names _
  closes_one open_call (Some o) at =
      let done_at_once = at_once k.vfs k.closing old k.vfs.names (put k.vfs.answers k.vfs.next_call answer.done) in
      idle_closes (record k {
        vfs = record k.vfs {
          calls = remove k.vfs.calls k.vfs.next_call;
          answers = put k.vfs.answers k.vfs.next_call answer.done;
          next_call = k.vfs.next_call + 1;
          opens =
              remove k.vfs.opens open_call;
        };
        closing = put k.closing open_call o;
      }) open_call
      (closed_but (record k.vfs {
        calls = remove k.vfs.calls k.vfs.next_call;
        answers = put k.vfs.answers k.vfs.next_call answer.done;
        next_call =
            k.vfs.next_call + 1;
      }) k.closing done_at_once open_call o at)

  by_call_of : (x : Call) → Begun false x
  by_call_of (call.stat path) = others (call.stat path) refl (whole_on k.vfs.opens path _ (λ words. tt))
  by_call_of (call.list path after) = others (call.list path after) refl (whole_on k.vfs.opens path _ (λ words. tt))
  by_call_of (call.listplus path after) = others (call.listplus path after) refl
      (whole_on k.vfs.opens path _ (λ words. tt))
  by_call_of (call.opening path) = others (call.opening path) refl (whole_on k.vfs.opens path _ (λ words. tt))
  by_call_of (call.mkdir path) = others (call.mkdir path) refl (parent_on k.vfs.opens path _ (λ words name. tt))
  by_call_of (call.create path) = others (call.create path) refl (parent_on k.vfs.opens path _ (λ words name. tt))
  by_call_of (call.unlink path) = others (call.unlink path) refl (parent_on k.vfs.opens path _ (λ words name. tt))
  by_call_of (call.rmdir path) = others (call.rmdir path) refl (parent_on k.vfs.opens path _ (λ words name. tt))
  by_call_of (call.rename from to) = others (call.rename from to) refl
      (parent_on k.vfs.opens from _ (λ words name. parent_on k.vfs.opens to _ (λ more other. tt)))
  by_call_of (call.link from to) = others (call.link from to) refl
      (whole_on k.vfs.opens from _ (λ words. parent_on k.vfs.opens to _ (λ more name. tt)))
  by_call_of (call.read open_call offset size) =
      others (call.read open_call offset size) refl (using_on k.vfs.opens open_call (get k.vfs.opens open_call) refl offset size
      (λ o. read o offset size) (λ o. refl))
  by_call_of (call.write open_call offset bytes) =
      others (call.write open_call offset bytes) refl (using_on k.vfs.opens open_call (get k.vfs.opens open_call) refl offset
      (length bytes) (λ o. write o offset bytes) (λ o. refl))
  by_call_of (call.close open_call) = closes_one open_call (get k.vfs.opens open_call) refl

  pub call_closes : (x : Call) → After (call_begun k x)
  call_closes x = by (is_aborted k.phase)
    where
      by : (b : Bool) → Begun b x
      by true = advances x true (at_once k.vfs k.closing old k.vfs.names _)
      by false = by_call_of x

-- ---- signals and replies

pub signal_closes : (k : Kernel) → ClosedFiles k.vfs k.closing → (call : ℕ) (state : CallState Opened) (fatal : Bool)
    → get k.vfs.calls call ≡ Some state → After (call_signalled k call state fatal).1
signal_closes k old call state fatal there = by (request_of k call)
  where
    effect : (unique : ℕ) (x : IntrEffect) → After (after_signal
        (record k { queues = after_effect k.queues unique x }) call state x)
    effect unique Dequeued =
        used_closes (record k {
          queues = after_effect k.queues unique Dequeued;
          vfs = answered k.vfs call (answer.failed 4);
        }) state
        (answered_so k.vfs k.closing old call state there (answer.failed 4))
    effect unique Flagged = old
    effect unique Queued = old
    effect unique NoEffect = old

    by : (o : Option ℕ) → After (signalled_at k call state fatal o).1
    by None = old
    by (Some unique) = effect unique (interrupt_effect k.queues unique fatal)

received_closes : (k : Kernel) → ClosedFiles k.vfs k.closing
    → (call : ℕ) (wire : WireReply) (o : Option (CallState Opened)) → get k.vfs.calls call ≡ o
    → After (replied_to_call k call wire o).1
received_closes k old call wire None there = old
received_closes k old call wire (Some state) there = by (goes_with (asked state) wire)
  where
    judged_so : (x : WireReply) (u : Use) → ClosedBut (λ h. is_using h state)
        (judged (without_stale k wire) call state x u).vfs (judged (without_stale k wire) call state x u).closing
    judged_so x usable =
        let reply = kernel_reply (asked state) x in
        advanced_but (λ h. is_using h state) (record (without_stale k wire) {
          nodes =
              looked_up k.nodes (files_in_reply x);
        }) call (call_replied k.vfs call state reply)
        (replied_so k.vfs k.closing old call state there reply state)
    judged_so x unusable = answered_so k.vfs k.closing old call state there (answer.failed 5)
    judged_so x (stale node) = answered_so k.vfs k.closing old call state there (answer.failed 5)

    by : (b : Bool) → After (replied k call state b wire).1
    by true = used_closes (reply_received k call state wire) state
        (judged_so (reply_judged k.nodes wire) (use_of_reply k.nodes wire))
    by false = used_closes (record k { vfs = answered k.vfs call (answer.failed 5) }) state
        (answered_so k.vfs k.closing old call state there (answer.failed 5))

-- Everything is abandoned.
pub none_open : (c : Vfs Opened) → ClosedFiles (abandoned c) []
none_open c = record {
  calls_in_order = tt;
  closing_in_order = tt;
  calls_below = λ q le. refl;
  opens = λ h o at. absurd (cc);
  users = λ q h operation at. absurd (cc);
  not_open = λ h o at. absurd (cc);
  used = λ h o at. absurd (cc);
}

pub written_closes : (k : Kernel) → ClosedFiles k.vfs k.closing → (unique : ℕ) (wire : WireReply)
    → After (reply_written k unique wire).1
written_closes k old unique wire = by (nat_eq (unique % 2) 1)
  where
    interrupts : (x : WireReply) → After (interrupt_replied k (unique - 1) x).1
    interrupts (failed errno) = old
    interrupts done = old
    interrupts x = old

    odd : (o : Option Purpose) → After (interrupt_reply_written k unique wire o).1
    odd None = old
    odd (Some kept) = interrupts wire

    agrees : (b : Bool) → After (cond b (made_ready (record k { queues = without k.queues unique }) wire)
        (kernel_aborted (record k { queues = without k.queues unique })))
    agrees true = old
    agrees false = none_open k.vfs

    even : (o : Option Purpose) → After (request_reply_written k unique wire o).1
    even None = old
    even (Some purpose.Init) = agrees (is_agreement wire)
    even (Some (purpose.Release o)) = old
    even (Some (purpose.Call call)) = received_closes (record k { queues = without k.queues unique }) old call wire
        (get k.vfs.calls call) refl

    by : (b : Bool) → After (cond b (interrupt_reply_written k unique wire (waiting k.queues (unique - 1)))
        (request_reply_written k unique wire (waiting k.queues unique))).1
    by true = odd (waiting k.queues (unique - 1))
    by false = even (waiting k.queues unique)

-- The same calls and open files.
pub same_files : (c d : Vfs Opened) (closing : Map Opened) → d.calls ≡ c.calls → d.opens ≡ c.opens
    → d.next_call ≡ c.next_call → ClosedFiles c closing → ClosedFiles d closing
same_files c d closing calls opens next old = record {
  calls_in_order = subst (λ (m : Map (CallState Opened)). T (is_sorted nat_cmp m)) (sym calls) old.calls_in_order;
  closing_in_order = old.closing_in_order;
  calls_below = λ q le. ap (λ (m : Map (CallState Opened)). get m q) calls ∙ old.calls_below q
      (subst (λ (n : ℕ). n ≤ q) next le);
  opens = λ h o at. again h (old.opens h o (ap (λ (m : Map Opened). get m h) (sym opens) ∙ at));
  users = λ q h operation at.
      let was = old.users q h operation (ap (λ (m : Map (CallState Opened)). get m q) (sym calls) ∙ at) in
      record {
        opener = again h was.opener;
        of_open = λ o there. was.of_open o
            (ap (λ (m : Map Opened). get m h) (sym opens) ∙ there);
        of_closed = was.of_closed;
      };
  not_open = λ h o at. ap (λ (m : Map Opened). get m h) opens ∙ old.not_open h o at;
  used = λ h o at. ap (λ (m : Map (CallState Opened)). list_any (is_using h) (values m)) calls ∙ old.used h o at;
}
  where
    again : (h : ℕ) → WasAnswered c h → WasAnswered d h
    again h was = record {
      begun = subst (λ (n : ℕ). h < n) (sym next) was.begun;
      not_waiting = ap (λ (m : Map (CallState Opened)). get m h) calls ∙ was.not_waiting;
    }

-- ---- every event

module _ (choice : ℕ → ℕ) (w : World) (old : ClosedFiles w.kernel.vfs w.kernel.closing) where
  sent_off : (v : World) (number unique : ℕ) (o : Option WireReply) → v.kernel ≡ w.kernel
      → After (copy_put v number unique o).kernel
  sent_off v number unique o same = subst After (sym (replying_kernel v number unique o ∙ same)) old

  closes_by_event : (e : Event) (o : Outcome) (after : World) → Happened choice w e o after → After after.kernel
  closes_by_event e o after (by_mount f m v idle) = none_open w.kernel.vfs
  closes_by_event e o after (by_call call ready room within) =
      call_closes w.kernel old (for_minor w.kernel.lists_files call)
  closes_by_event e o after (by_read_interrupt original rest live there within) = old
  closes_by_event e o after (by_read_forgets n live free can within few) = old
  closes_by_event e o after (by_read_pending k unique kept body live free there says within) = old
  closes_by_event e o after (by_take k r there within) = let took =
      taking w.server r.unique r.body in sent_off (record w {
        requests = without_at w.requests k;
        server = took.server;
      }) w.server.next_copy r.unique took.reply refl
  closes_by_event e o after (by_perform unique t there within) =
      let did = served choice w.server unique t in sent_off
      (record w { server = did.server }) w.server.next_copy unique (cond w.server.aborted None (Some did.wire)) refl
  closes_by_event e o after (by_again unique kept there current within) = old
  closes_by_event e o after (by_write k sent there within) = written_closes w.kernel old sent.unique sent.wire
  closes_by_event e o after (by_settle k result there) = old
  closes_by_event e o after (by_signal call fatal state live there within) =
      signal_closes w.kernel old call state fatal there
  closes_by_event e o after (by_tick ms timely) =
      same_files w.kernel.vfs after.kernel.vfs w.kernel.closing refl refl refl old
  closes_by_event e o after (by_drop directory name bound live there) =
      same_files w.kernel.vfs after.kernel.vfs w.kernel.closing refl refl refl old
  closes_by_event e o after (by_evict node counted live there unused) = old
  closes_by_event e o after (by_abort live) = none_open w.kernel.vfs

-- The closed files stay used, whatever the event.
pub closed_stay : (w : World) → ClosedFiles w.kernel.vfs w.kernel.closing → (e : Event) (o : Outcome) (after : World)
    → Happens w e o after → ClosedFiles after.kernel.vfs after.kernel.closing
closed_stay w old e o after h = closes_by_event h.0 w old e o after (happened h.0 w o after e h.2)

pub first_closed : ClosedFiles first_world.kernel.vfs first_world.kernel.closing
first_closed = none_open first_world.kernel.vfs
