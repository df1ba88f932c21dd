-- The kernel takes a reply to the request of a call.
use Rattle.std.proofs.Common.{◌≡◌, ℕ, ◌-◌, ◌%◌, Bool, true, false, true≢false, cond, List, [], ◌∷◌, Option, Some, None, map, nat_eq, refl, ap, sym, subst, ◌∙◌}
use Rattle.fuse_spec.specs.declared.Attributes.{Attributes}
use Rattle.fuse_spec.specs.declared.Entry.{Entry}
use Rattle.fuse_spec.specs.declared.Opened.{Opened}
use Rattle.fuse_spec.specs.declared.Purpose.TheVariants.{Call, Init, Release}
use Rattle.fuse_spec.specs.declared.WriteResult.TheVariants.{Accepted, Invalid}
use Rattle.fuse_spec.specs.Calls.Answers as answer
use Rattle.fuse_spec.specs.Calls.CallReplies.{call_replied}
use Rattle.fuse_spec.specs.Kernel.Kernel.{Kernel, advanced, after_use, released_if_idle, kernel_aborted}
use Rattle.fuse_spec.specs.Values.Maps.{Map, Place, get}
use Rattle.fuse_spec.specs.Kernel.Messages.{WireReply, asks}
use Rattle.fuse_frames.specs.RequestTies.{asked_opcode}
use Rattle.fuse_spec.specs.Files.Operations as reply
use Rattle.fuse_spec.specs.Files.Operations.{Operation, lookup, getattr, mkdir, create, unlink, rmdir, rename, link, opening, readdir, readdirplus, read, write, Dirent, DirentPlus}
use Rattle.fuse_spec.specs.Calls.Paths.{Name}
use Rattle.fuse_spec.specs.Kernel.QueueCalls.{waiting, without, after_forget}
use Rattle.fuse_spec.specs.Kernel.Replies.{Use, usable, unusable, stale, first_use, use_of, looked_up, judged, reply_received, goes_with, kernel_reply, reply_written, request_reply_written, replied_to_call, replied, interrupt_reply_written, write_result_of, is_empty_reply, is_init_reply, is_agreement, made_ready}
use Rattle.fuse_spec.specs.Calls.Vfs.{Vfs, Advance, CallState, walking, doing, using, asked, answered, bound, opened_by, walks_on, no_more}
use Rattle.fuse_spec.specs.Calls.Walks.{WalkPlan}
use Rattle.fk_syscalls.specs.States.{StandsAt}
use Rattle.fk_calls.specs.Names.{names_left}
use Rattle.fk_kernel.specs.Entries.{Awaits, LacksUniqueForRelease, MakesName, mkdirs, links}
use Rattle.fk_kernel.specs.AwaitedReplies.{IsJudged}
use Rattle.fuse_spec.specs.Kernel.Refusals.{is_kernel_past, is_kernel_past_end, is_counted_out}
use Rattle.fk_kernel.proofs.Closes.{released_some}
use Rattle.fk_kernel.proofs.Walking.{asks_past}
use Rattle.fuse_spec.specs.declared.WriteResult.{WriteResult}
use Rattle.std.specs.Prelude.{is_some, ◌||◌}
use Rattle.fuse_spec.specs.Kernel.Replies.{each_forgotten}
use Rattle.fuse_spec.specs.Calls.CallReplies.{names_listed}
use Rattle.fuse_spec.specs.Files.Operations.{pair_with}
use Rattle.fuse_spec.specs.declared.Counted.{Counted}
use Rattle.fk_nodes.specs.LookedUp.{looked_up_from, stale_by, judged_in}
use Rattle.fk_nodes.proofs.Judged.{looked_up_is, settled, stale_settled, dirents_kept}
use Rattle.fk_kernel.proofs.CallStates.{asked_is, stays, found_unused, done_unused}

-- the call is answered, and its request ends
abbrev pub ended : Kernel → ℕ → Vfs Opened → ℕ → answer.Answer → Kernel
ended k unique vfs call a = record k { vfs = answered vfs call a; queues = without k.queues unique }

-- What a call is answered by a reply that does nothing but answer it.
abbrev pub answer_by : WireReply → answer.Answer
answer_by (reply.failed errno) = answer.failed errno
answer_by (reply.attributes a) = answer.attributes a
answer_by (reply.listed records) = answer.listing records
answer_by (reply.content bytes) = answer.content bytes
answer_by (reply.written size) = answer.written size
answer_by wire = answer.failed 5

abbrev pub IsPlain : WireReply → Type 0
IsPlain (reply.failed errno) = Unit {0}
IsPlain (reply.attributes a) = Unit {0}
IsPlain (reply.listed records) = Unit {0}
IsPlain (reply.content bytes) = Unit {0}
IsPlain (reply.written size) = Unit {0}
IsPlain wire = ⊥

module _ (c : Vfs Opened) (call : ℕ) where
  abbrev Answers : WireReply → CallState Opened → Type 0
  Answers wire state = call_replied c call state (kernel_reply (asked state) wire)
      ≡ no_more (answered c call (answer_by wire))

  failed_answers : (errno : ℕ) (state : CallState Opened) → Answers (reply.failed errno) state
  failed_answers errno (walking d w ws p) = refl
  failed_answers errno (doing operation) = refl
  failed_answers errno (using open_call operation) = refl

  attributes_answers : (a : Attributes) (operation : Operation ℕ Opened) (state : CallState Opened)
      → StandsAt operation state → goes_with operation (reply.attributes a) ≡ true → Answers (reply.attributes a) state
  attributes_answers a (getattr x) state s goes = subst (Answers (reply.attributes a)) (sym s) refl
  attributes_answers a operation state s goes = absurd (true≢false (sym goes))

  listed_answers : (records : List Dirent) (operation : Operation ℕ Opened) (state : CallState Opened)
      → StandsAt operation state → goes_with operation (reply.listed records) ≡ true
      → Answers (reply.listed records) state
  listed_answers records (readdir d a z) state s goes = subst (Answers (reply.listed records)) (sym s) refl
  listed_answers records (lookup d w) state s goes = absurd (true≢false (sym goes))
  listed_answers records (readdirplus d a z) state s goes = absurd (true≢false (sym goes))
  listed_answers records (getattr x) state s goes = absurd (true≢false (sym goes))
  listed_answers records (mkdir d n) state s goes = absurd (true≢false (sym goes))
  listed_answers records (create d n) state s goes = absurd (true≢false (sym goes))
  listed_answers records (unlink d n) state s goes = absurd (true≢false (sym goes))
  listed_answers records (rmdir d n) state s goes = absurd (true≢false (sym goes))
  listed_answers records (rename d o e n) state s goes = absurd (true≢false (sym goes))
  listed_answers records (link x d n) state s goes = absurd (true≢false (sym goes))
  listed_answers records (opening x) state s goes = absurd (true≢false (sym goes))
  listed_answers records (read o f z) state s goes = absurd (true≢false (sym goes))
  listed_answers records (write o f b) state s goes = absurd (true≢false (sym goes))

  content_answers : (bytes : List ℕ) (operation : Operation ℕ Opened) (state : CallState Opened)
      → StandsAt operation state → goes_with operation (reply.content bytes) ≡ true
      → Answers (reply.content bytes) state
  content_answers bytes (read o f z) state s goes = subst (Answers (reply.content bytes)) (sym s.is) refl
  content_answers bytes (lookup d w) state s goes = absurd (true≢false (sym goes))
  content_answers bytes (readdirplus d a z) state s goes = absurd (true≢false (sym goes))
  content_answers bytes (getattr x) state s goes = absurd (true≢false (sym goes))
  content_answers bytes (mkdir d n) state s goes = absurd (true≢false (sym goes))
  content_answers bytes (create d n) state s goes = absurd (true≢false (sym goes))
  content_answers bytes (unlink d n) state s goes = absurd (true≢false (sym goes))
  content_answers bytes (rmdir d n) state s goes = absurd (true≢false (sym goes))
  content_answers bytes (rename d o e n) state s goes = absurd (true≢false (sym goes))
  content_answers bytes (link x d n) state s goes = absurd (true≢false (sym goes))
  content_answers bytes (opening x) state s goes = absurd (true≢false (sym goes))
  content_answers bytes (readdir d a z) state s goes = absurd (true≢false (sym goes))
  content_answers bytes (write o f b) state s goes = absurd (true≢false (sym goes))

  written_answers : (size : ℕ) (operation : Operation ℕ Opened) (state : CallState Opened) → StandsAt operation state
      → goes_with operation (reply.written size) ≡ true → Answers (reply.written size) state
  written_answers size (write o f b) state s goes = subst (Answers (reply.written size)) (sym s.is) refl
  written_answers size (lookup d w) state s goes = absurd (true≢false (sym goes))
  written_answers size (readdirplus d a z) state s goes = absurd (true≢false (sym goes))
  written_answers size (getattr x) state s goes = absurd (true≢false (sym goes))
  written_answers size (mkdir d n) state s goes = absurd (true≢false (sym goes))
  written_answers size (create d n) state s goes = absurd (true≢false (sym goes))
  written_answers size (unlink d n) state s goes = absurd (true≢false (sym goes))
  written_answers size (rmdir d n) state s goes = absurd (true≢false (sym goes))
  written_answers size (rename d o e n) state s goes = absurd (true≢false (sym goes))
  written_answers size (link x d n) state s goes = absurd (true≢false (sym goes))
  written_answers size (opening x) state s goes = absurd (true≢false (sym goes))
  written_answers size (readdir d a z) state s goes = absurd (true≢false (sym goes))
  written_answers size (read o f z) state s goes = absurd (true≢false (sym goes))

-- a plain reply does nothing but answer
module _ (k : Kernel) (call : ℕ) (operation : Operation ℕ Opened) (state : CallState Opened)
    (s : StandsAt operation state) where
  pub plain_judged : (wire : WireReply) → IsPlain wire → goes_with operation wire ≡ true
      → reply_received k call state wire ≡ record k { vfs = answered k.vfs call (answer_by wire) }
  plain_judged (reply.failed errno) plain goes = ap (λ (a : Advance Opened). advanced k call a)
      (failed_answers k.vfs call errno state)
  plain_judged (reply.attributes x) plain goes = ap (λ (a : Advance Opened). advanced k call a)
      (attributes_answers k.vfs call x operation state s goes)
  plain_judged (reply.listed records) plain goes =
      ap (λ (a : Advance Opened). advanced k call a) (listed_answers k.vfs call records operation state s goes)
  plain_judged (reply.content bytes) plain goes = ap (λ (a : Advance Opened). advanced k call a)
      (content_answers k.vfs call bytes operation state s goes)
  plain_judged (reply.written size) plain goes = ap (λ (a : Advance Opened). advanced k call a)
      (written_answers k.vfs call size operation state s goes)
  plain_judged (reply.found g valid) plain goes = absurd plain
  plain_judged (reply.missing valid) plain goes = absurd plain
  plain_judged (reply.created g valid fh) plain goes = absurd plain
  plain_judged (reply.opened fh) plain goes = absurd plain
  plain_judged (reply.listed_plus pairs) plain goes = absurd plain
  plain_judged (reply.agreed major minor flags) plain goes = absurd plain
  plain_judged reply.done plain goes = absurd plain

-- names go once it is done
module _ (k : Kernel) (call : ℕ) where
  abbrev Undone : CallState Opened → Type 0
  Undone state = judged k call state reply.done usable
      ≡ record k { vfs = answered (record k.vfs { names = names_left (asked state) k.vfs.names }) call answer.done }

  pub done_judged : (operation : Operation ℕ Opened) (state : CallState Opened) → StandsAt operation state
      → goes_with operation reply.done ≡ true → Undone state
  done_judged (unlink d n) state s goes = subst Undone (sym s) refl
  done_judged (rmdir d n) state s goes = subst Undone (sym s) refl
  done_judged (rename d o e n) state s goes = subst Undone (sym s) refl
  done_judged operation state s goes = absurd (true≢false (sym goes))

module _ (k : Kernel) (unique call : ℕ) (even : nat_eq (unique % 2) 1 ≡ false)
    (waits : waiting k.queues unique ≡ Some (Call call)) where
  taken : (wire : WireReply) → reply_written k unique wire
      ≡ replied_to_call (record k { queues = without k.queues unique }) call wire (get k.vfs.calls call)
  taken wire =
      ap (λ (b : Bool). cond b (interrupt_reply_written k unique wire (waiting k.queues (unique - 1)))
      (request_reply_written k unique wire (waiting k.queues unique))) even
      ∙ ap (request_reply_written k unique wire) waits

  stands : (state : CallState Opened) → get k.vfs.calls call ≡ Some state → (wire : WireReply)
      → reply_written k unique wire ≡ replied (record k { queues = without k.queues unique }) call state
      (goes_with (asked state) wire) wire
  stands state at wire = taken wire ∙ ap (replied_to_call (record k { queues = without k.queues unique }) call wire) at

  -- a body that does not go with what was asked
  pub wrong_is : (state : CallState Opened) → get k.vfs.calls call ≡ Some state → (wire : WireReply)
      → goes_with (asked state) wire ≡ false
      → reply_written k unique wire ≡ (Invalid, after_use (ended k unique k.vfs call (answer.failed 5)) state)
  wrong_is state at wire other = stands state at wire ∙ ap
      (λ (b : Bool). replied (record k { queues = without k.queues unique }) call state b wire) other

  pub goes_is : (wire : WireReply) (aw : Awaits (get k.vfs.calls call) wire)
      → reply_written k unique wire ≡ (
        Accepted,
        after_use
            (reply_received (record k { queues = without k.queues unique }) call aw.state wire) aw.state,
      )
  goes_is wire aw =
      stands aw.state aw.at wire
      ∙ ap (λ (b : Bool). replied (record k { queues = without k.queues unique }) call aw.state b wire)
      (ap (λ (o : Operation ℕ Opened). goes_with o wire) (asked_is aw.operation aw.state aw.stands) ∙ aw.goes)

  pub plain_is : (wire : WireReply) → IsPlain wire → (aw : Awaits (get k.vfs.calls call) wire)
      → reply_written k unique wire ≡ (Accepted, after_use (ended k unique k.vfs call (answer_by wire)) aw.state)
  plain_is wire plain aw = goes_is wire aw ∙ ap (λ (n : Kernel). (Accepted, after_use n aw.state))
      (plain_judged (record k {
        queues =
            without k.queues unique;
      }) call aw.operation aw.state aw.stands wire plain aw.goes)

  pub done_is : (aw : Awaits (get k.vfs.calls call) reply.done)
      → reply_written k unique reply.done ≡ (
        Accepted,
        ended k unique (record k.vfs { names = names_left (asked aw.state) k.vfs.names }) call answer.done,
      )
  done_is aw =
      goes_is reply.done aw ∙ ap (λ (n : Kernel). (Accepted, after_use n aw.state))
      (done_judged (record k { queues = without k.queues unique }) call aw.operation aw.state aw.stands aw.goes)
      ∙ ap (λ (n : Kernel). (Accepted, n)) (stays _ aw.state (done_unused aw.operation aw.state aw.stands aw.goes))

  -- the kernel whose call is answered EIO, and to whose forgets one was added
  abbrev pub given_back : ℕ → Kernel
  given_back node = record k {
    vfs = answered k.vfs call (answer.failed 5);
    queues = after_forget (without k.queues unique) node 1;
  }

  -- the kernel once the entry is counted and the request is ended
  abbrev pub knowing : Entry → Kernel
  knowing g = record k { queues = without k.queues unique; nodes = looked_up k.nodes (g ∷ []) }

  abbrev judged_so : CallState Opened → WireReply → Use → Kernel
  judged_so state wire outcome = after_use (judged (record k { queues = without k.queues unique }) call state wire
      (first_use outcome usable)) state

  -- an entry that can't be used
  module _ (g : Entry) (valid : ℕ) (aw : Awaits (get k.vfs.calls call) (reply.found g valid)) where
    pub found_useless : use_of k.nodes g ≡ unusable → reply_written k unique (reply.found g valid)
        ≡ (Accepted, ended k unique k.vfs call (answer.failed 5))
    found_useless is =
        goes_is (reply.found g valid) aw ∙ ap (λ (u : Use). (Accepted, judged_so aw.state (reply.found g valid) u)) is
        ∙ ap (λ (n : Kernel). (Accepted, n)) (stays _ aw.state
        (found_unused aw.operation aw.state g valid aw.stands aw.goes))

    pub found_stale : (node : ℕ) → use_of k.nodes g ≡ stale node
        → reply_written k unique (reply.found g valid) ≡ (Accepted, given_back node)
    found_stale node is =
        goes_is (reply.found g valid) aw ∙ ap (λ (u : Use). (Accepted, judged_so aw.state (reply.found g valid) u)) is
        ∙ ap (λ (n : Kernel). (Accepted, n)) (stays _ aw.state
        (found_unused aw.operation aw.state g valid aw.stands aw.goes))

  module _ (directory : ℕ) (word : Name) (words : List Name) (plan : WalkPlan ℕ)
      (at : get k.vfs.calls call ≡ Some (walking directory word words plan)) where
    pub lookup_missing : (valid : ℕ) → reply_written k unique (reply.missing valid)
        ≡ (Accepted, ended k unique (bound k.vfs directory word None valid) call (answer.failed 2))
    lookup_missing valid = stands (walking directory word words plan) at (reply.missing valid)

    pub lookup_found : (g : Entry) (valid : ℕ) → use_of k.nodes g ≡ usable
        → reply_written k unique (reply.found g valid) ≡ (
          Accepted,
          advanced (knowing g) call (walks_on (bound k.vfs directory word
              (Some g.nodeid) valid) call g.nodeid words plan),
        )
    lookup_found g valid is = stands (walking directory word words plan) at (reply.found g valid) ∙ ap
        (λ (u : Use). (Accepted, judged_so (walking directory word words plan) (reply.found g valid) u)) is

  pub made_missing : (operation : Operation ℕ Opened) (place : Place) → MakesName operation place
      → get k.vfs.calls call ≡ Some (doing operation) → (valid : ℕ)
      → reply_written k unique (reply.missing valid) ≡ (Accepted, ended k unique k.vfs call (answer.failed 5))
  made_missing operation place (mkdirs d n) at valid = stands (doing (mkdir d n)) at (reply.missing valid)
  made_missing operation place (links x d n) at valid = stands (doing (link x d n)) at (reply.missing valid)

  pub made_found : (operation : Operation ℕ Opened) (place : Place) → MakesName operation place
      → get k.vfs.calls call ≡ Some (doing operation) → (g : Entry) (valid : ℕ) → use_of k.nodes g ≡ usable
      → reply_written k unique (reply.found g valid) ≡ (
        Accepted,
        record (knowing g) {
          vfs = answered (bound k.vfs place.0 place.1
              (Some g.nodeid) valid) call answer.done;
        },
      )
  made_found operation place (mkdirs d n) at g valid is =
      stands (doing (mkdir d n)) at (reply.found g valid) ∙ ap
      (λ (u : Use). (Accepted, judged_so (doing (mkdir d n)) (reply.found g valid) u)) is
  made_found operation place (links x d n) at g valid is =
      stands (doing (link x d n)) at (reply.found g valid) ∙ ap
      (λ (u : Use). (Accepted, judged_so (doing (link x d n)) (reply.found g valid) u)) is

  module _ (directory : ℕ) (name : Name) (at : get k.vfs.calls call ≡ Some (doing (create directory name))) (g : Entry)
      (valid fh : ℕ) where
    pub create_useless : use_of k.nodes g ≡ unusable → reply_written k unique (reply.created g valid fh)
        ≡ (Accepted, ended k unique k.vfs call (answer.failed 5))
    create_useless is = stands (doing (create directory name)) at (reply.created g valid fh) ∙ ap
        (λ (u : Use). (Accepted, judged_so (doing (create directory name)) (reply.created g valid fh) u)) is

    pub create_stale : (node : ℕ) → use_of k.nodes g ≡ stale node
        → reply_written k unique (reply.created g valid fh) ≡ (Accepted, given_back node)
    create_stale node is = stands (doing (create directory name)) at (reply.created g valid fh) ∙ ap
        (λ (u : Use). (Accepted, judged_so (doing (create directory name)) (reply.created g valid fh) u)) is

    pub create_made : use_of k.nodes g ≡ usable
        → reply_written k unique (reply.created g valid fh)
        ≡ (
          Accepted,
          record (knowing g) {
            vfs = answered
                (opened_by (bound k.vfs directory name (Some g.nodeid) valid) call
                (record { nodeid = g.nodeid; fh = fh })) call answer.done;
          },
        )
    create_made is = stands (doing (create directory name)) at (reply.created g valid fh) ∙ ap
        (λ (u : Use). (Accepted, judged_so (doing (create directory name)) (reply.created g valid fh) u)) is

  pub open_done : (node : ℕ) → get k.vfs.calls call ≡ Some (doing (opening node)) → (fh : ℕ)
      → reply_written k unique (reply.opened fh) ≡ (
        Accepted,
        ended k unique (opened_by k.vfs call (record { nodeid = node; fh = fh })) call answer.done,
      )
  open_done node at fh = stands (doing (opening node)) at (reply.opened fh)

  -- the kernel once these names are listed with their files
  module _ (directory : ℕ) (pairs : List (DirentPlus Entry)) where
    abbrev listing_of : Map Counted → List (DirentPlus Entry) → List ℕ → List Dirent → Kernel
    listing_of nodes names back dirents = record k {
      vfs = answered (record k.vfs {
        names = names_listed k.vfs.clock directory k.vfs.names
            (map (pair_with (λ (g : Entry). g.nodeid)) names);
      }) call (answer.listing dirents);
      queues = each_forgotten (without k.queues unique) back;
      nodes = nodes;
    }

    abbrev pub listed_so : Kernel
    listed_so = listing_of (looked_up_from k.nodes pairs) (map (judged_in (looked_up_from k.nodes pairs)) pairs)
        (stale_by (looked_up_from k.nodes pairs) pairs) (map (λ (pair : DirentPlus Entry). pair.dirent) pairs)

    pub list_done : (after size : ℕ) → get k.vfs.calls call ≡ Some (doing (readdirplus directory after size))
        → goes_with (readdirplus directory after size) (reply.listed_plus pairs) ≡ true
        → reply_written k unique (reply.listed_plus pairs) ≡ (Accepted, listed_so)
    list_done after size at goes =
        stands (doing (readdirplus directory after size)) at (reply.listed_plus pairs)
        ∙ ap (λ (b : Bool). replied (record k { queues = without k.queues unique }) call
        (doing (readdirplus directory after size)) b (reply.listed_plus pairs)) goes
        ∙ (λ i. (
          Accepted,
          listing_of (looked_up_is k.nodes pairs i) (settled k.nodes pairs i)
              (stale_settled k.nodes pairs i) (dirents_kept k.nodes pairs i),
        ))

-- a RELEASE ends, whatever its reply says
pub release_is : (k : Kernel) (unique : ℕ) (opened : Opened) → nat_eq (unique % 2) 1 ≡ false
    → waiting k.queues unique ≡ Some (Release opened) → (wire : WireReply)
    → reply_written k unique wire ≡ (
      write_result_of (is_empty_reply wire),
      record k { queues = without k.queues unique },
    )
release_is k unique opened even waits wire =
    ap (λ (b : Bool). cond b (interrupt_reply_written k unique wire (waiting k.queues (unique - 1)))
    (request_reply_written k unique wire (waiting k.queues unique))) even
    ∙ ap (request_reply_written k unique wire) waits

-- INIT's reply makes the mount ready or aborts it
module _ (k : Kernel) (unique : ℕ) (even : nat_eq (unique % 2) 1 ≡ false)
    (waits : waiting k.queues unique ≡ Some Init) where
  abbrev pub by_agreement : WireReply → Bool → Kernel
  by_agreement wire b = cond b (made_ready (record k { queues = without k.queues unique }) wire) (kernel_aborted k)

  pub init_is : (wire : WireReply) → reply_written k unique wire
      ≡ (write_result_of (is_init_reply wire), by_agreement wire (is_agreement wire))
  init_is wire =
      ap (λ (b : Bool). cond b (interrupt_reply_written k unique wire (waiting k.queues (unique - 1)))
      (request_reply_written k unique wire (waiting k.queues unique))) even
      ∙ ap (request_reply_written k unique wire) waits

  pub init_agreed : (wire : WireReply) → is_init_reply wire ≡ true → is_agreement wire ≡ true
      → reply_written k unique wire ≡ (Accepted, made_ready (record k { queues = without k.queues unique }) wire)
  init_agreed wire reply is = init_is wire ∙ ap (λ (b : Bool).
      (write_result_of b, by_agreement wire (is_agreement wire))) reply ∙ ap
      (λ (b : Bool). (Accepted, by_agreement wire b)) is

  pub init_aborts : (wire : WireReply) → is_init_reply wire ≡ true → is_agreement wire ≡ false
      → reply_written k unique wire ≡ (Accepted, kernel_aborted k)
  init_aborts wire reply is = init_is wire ∙ ap (λ (b : Bool).
      (write_result_of b, by_agreement wire (is_agreement wire))) reply ∙ ap
      (λ (b : Bool). (Accepted, by_agreement wire b)) is

  pub init_unsaid : reply_written k unique reply.done ≡ (Invalid, kernel_aborted k)
  init_unsaid = init_is reply.done

-- A read or write is but answered.
uses_read : (o : Opened) (f z : ℕ) (wire : WireReply) → goes_with (read o f z) wire ≡ true → IsPlain wire
uses_read o f z (reply.failed errno) goes = tt
uses_read o f z (reply.content bytes) goes = tt
uses_read o f z (reply.attributes a) goes = tt
uses_read o f z (reply.listed records) goes = tt
uses_read o f z (reply.written size) goes = tt
uses_read o f z (reply.found g valid) goes = absurd (true≢false (sym goes))
uses_read o f z (reply.missing valid) goes = absurd (true≢false (sym goes))
uses_read o f z (reply.listed_plus pairs) goes = absurd (true≢false (sym goes))
uses_read o f z (reply.created g valid fh) goes = absurd (true≢false (sym goes))
uses_read o f z (reply.opened fh) goes = absurd (true≢false (sym goes))
uses_read o f z (reply.agreed major minor flags) goes = absurd (true≢false (sym goes))
uses_read o f z reply.done goes = absurd (true≢false (sym goes))

uses_write : (o : Opened) (f : ℕ) (b : List ℕ) (wire : WireReply) → goes_with (write o f b) wire ≡ true → IsPlain wire
uses_write o f b (reply.failed errno) goes = tt
uses_write o f b (reply.content bytes) goes = tt
uses_write o f b (reply.attributes a) goes = tt
uses_write o f b (reply.listed records) goes = tt
uses_write o f b (reply.written size) goes = tt
uses_write o f b (reply.found g valid) goes = absurd (true≢false (sym goes))
uses_write o f b (reply.missing valid) goes = absurd (true≢false (sym goes))
uses_write o f b (reply.listed_plus pairs) goes = absurd (true≢false (sym goes))
uses_write o f b (reply.created g valid fh) goes = absurd (true≢false (sym goes))
uses_write o f b (reply.opened fh) goes = absurd (true≢false (sym goes))
uses_write o f b (reply.agreed major minor flags) goes = absurd (true≢false (sym goes))
uses_write o f b reply.done goes = absurd (true≢false (sym goes))

apart : {T : Type 0} (h : ℕ) (operation other : Operation ℕ Opened) → using h operation ≡ doing other → T
apart h operation other e = cc

walks_not : {T : Type 0} (h : ℕ) (operation : Operation ℕ Opened) (d : ℕ) (w : Name) (ws : List Name) (p : WalkPlan ℕ)
    → using h operation ≡ walking d w ws p → T
walks_not h operation d w ws p e = cc

pub uses_plain : (operation : Operation ℕ Opened) (h : ℕ) → StandsAt operation (using h operation) → (wire : WireReply)
    → goes_with operation wire ≡ true → IsPlain wire
uses_plain (read o f z) h s wire goes = uses_read o f z wire goes
uses_plain (write o f b) h s wire goes = uses_write o f b wire goes
uses_plain (lookup d w) h s wire goes = walks_not h (lookup d w) d w s.words s.plan s.is
uses_plain (getattr x) h s wire goes = apart h (getattr x) (getattr x) s
uses_plain (mkdir d n) h s wire goes = apart h (mkdir d n) (mkdir d n) s
uses_plain (create d n) h s wire goes = apart h (create d n) (create d n) s
uses_plain (unlink d n) h s wire goes = apart h (unlink d n) (unlink d n) s
uses_plain (rmdir d n) h s wire goes = apart h (rmdir d n) (rmdir d n) s
uses_plain (rename d o e n) h s wire goes = apart h (rename d o e n) (rename d o e n) s
uses_plain (link x d n) h s wire goes = apart h (link x d n) (link x d n) s
uses_plain (opening x) h s wire goes = apart h (opening x) (opening x) s
uses_plain (readdir d a z) h s wire goes = apart h (readdir d a z) (readdir d a z) s
uses_plain (readdirplus d a z) h s wire goes = apart h (readdirplus d a z) (readdirplus d a z) s

-- a call's request is judged
pub judged_op : (operation : Operation ℕ Opened) → IsJudged (asked_opcode (asks operation))
judged_op (lookup d w) = tt
judged_op (getattr x) = tt
judged_op (mkdir d n) = tt
judged_op (create d n) = tt
judged_op (unlink d n) = tt
judged_op (rmdir d n) = tt
judged_op (rename d o e n) = tt
judged_op (link x d n) = tt
judged_op (opening x) = tt
judged_op (readdir d a z) = tt
judged_op (readdirplus d a z) = tt
judged_op (read o f z) = tt
judged_op (write o f b) = tt

-- The end of a call that lets a closed file go needs a number.
module _ (k : Kernel) (unique call : ℕ) (even : nat_eq (unique % 2) 1 ≡ false)
    (waits : waiting k.queues unique ≡ Some (Call call)) (p : LacksUniqueForRelease k call)
    (s : StandsAt p.operation (using p.open_call p.operation)) where
  abbrev over : answer.Answer → Kernel
  over a = ended k unique k.vfs call a

  let_go : (a : answer.Answer) → is_kernel_past_end (after_use (over a) (using p.open_call p.operation)) ≡ true
  let_go a = closed_some (get k.closing p.open_call) refl p.closed
    where
      closed_some : (o : Option Opened) → get k.closing p.open_call ≡ o → is_some o ≡ true
          → is_kernel_past_end (released_if_idle (over a) p.open_call) ≡ true
      closed_some None at is = absurd (true≢false (sym is))
      closed_some (Some file) at is = ap is_kernel_past_end (released_some (over a) p.open_call file at p.idle) ∙ asks_past
          (over a) call (Some p.operation) refl p.none_left

  ends_past_end : (wire : WireReply) → is_kernel_past_end (reply_written k unique wire).1 ≡ true
  ends_past_end wire = by (goes_with p.operation wire) refl
    where
      by : (b : Bool) → goes_with p.operation wire ≡ b → is_kernel_past_end (reply_written k unique wire).1 ≡ true
      by true goes =
          ap (λ (r : WriteResult × Kernel). is_kernel_past_end r.1)
          (plain_is k unique call even waits wire (uses_plain p.operation p.open_call s wire goes)
          (record {
            operation = p.operation;
            state = using p.open_call p.operation;
            at = p.is;
            stands = s;
            goes = goes;
          }))
          ∙ let_go (answer_by wire)
      by false goes = ap (λ (r : WriteResult × Kernel). is_kernel_past_end r.1)
          (wrong_is k unique call even waits (using p.open_call p.operation) p.is wire goes) ∙ let_go (answer.failed 5)

  pub ends_over : (wire : WireReply) → is_kernel_past (reply_written k unique wire).1 ≡ true
  ends_over wire = ap (λ (b : Bool). b || is_counted_out (reply_written k unique wire).1.nodes) (ends_past_end wire)
