-- A reply that asks for nothing anew keeps the counters within their ends, and so does one that lets a closed file go
-- while a number is left.
use Rattle.std.proofs.Common.{◌≡◌, ℕ, ◌+◌, ◌^◌, ◌≤◌, ◌<◌, ◌%◌, Bool, true, false, true≢false, cond, List, [], ◌∷◌, Option, Some, None, nat_eq, refl, ap, sym, ◌∙◌, arith}
use Rattle.std.specs.Prelude.{is_some}
use Rattle.fuse_spec.specs.declared.Entry.{Entry}
use Rattle.fuse_spec.specs.declared.Opened.{Opened}
use Rattle.fuse_spec.specs.declared.Purpose.TheVariants.{Call, Release}
use Rattle.fuse_spec.specs.declared.WriteResult.{WriteResult}
use Rattle.fuse_spec.specs.Calls.Answers as answer
use Rattle.fuse_spec.specs.Kernel.Kernel.{Kernel, advanced, after_use, released, is_used}
use Rattle.fuse_spec.specs.Values.Maps.{get, remove}
use Rattle.fuse_spec.specs.Kernel.Messages.{WireReply}
use Rattle.fuse_spec.specs.Files.Operations as reply
use Rattle.fuse_spec.specs.Files.Operations.{Operation, lookup, getattr, mkdir, create, unlink, rmdir, rename, link, opening, readdir, readdirplus, read, write, DirentPlus}
use Rattle.fuse_spec.specs.Kernel.QueueCalls.{waiting, without, after_enqueue}
use Rattle.fuse_spec.specs.Kernel.Replies.{Use, usable, unusable, stale, use_of, goes_with, looked_up, reply_written}
use Rattle.fuse_spec.specs.Kernel.Uniques.{numbers_left_from}
use Rattle.fuse_spec.specs.Calls.Paths.{Name}
use Rattle.fuse_spec.specs.Calls.Vfs.{CallState, walking, doing, using, asked, Advance, bound, walks_on}
use Rattle.fuse_spec.specs.Calls.Walks.{WalkPlan}
use Rattle.fk_syscalls.specs.States.{StandsAt}
use Rattle.fk_kernel.specs.Entries.{Awaits, HasUniqueForRelease, mkdirs, links}
use Rattle.fuse_spec.specs.Kernel.Refusals.{is_kernel_past_end}
use Rattle.fuse_frames.specs.declared.reply.Reply.TheVariants as said
use Rattle.fuse_frames.specs.ReplyDecoding.{LentReply, decoded_wire_of}
use Rattle.fk_kernel.proofs.Phases.{none_past_end, within_ends}
use Rattle.fk_kernel.proofs.CallStates.{LooksNone, makes_found, none_agreed}
use Rattle.fk_kernel.proofs.Walking.{asks_within, walk_numbers}
use Rattle.fk_kernel.proofs.Replied.{ended, answer_by, IsPlain, plain_is, done_is, wrong_is, found_useless, found_stale, made_found, lookup_found, lookup_missing, made_missing, create_useless, create_stale, create_made, open_done, list_done}

-- Whether what is said brings no entry of a LOOKUP, MKDIR or LINK.
abbrev pub IsNoEntry : WireReply → Type 0
IsNoEntry (reply.found g valid) = ⊥
IsNoEntry wire = Unit {0}

abbrev Keeps : WriteResult × Kernel → Type 0
Keeps r = is_kernel_past_end r.1 ≡ false

module _ (k : Kernel) (unique call : ℕ) (even : nat_eq (unique % 2) 1 ≡ false)
    (waits : waiting k.queues unique ≡ Some (Call call)) (same : is_kernel_past_end k ≡ false) where
  module _ (ends : HasUniqueForRelease k call) where
    let_go : (open_call : ℕ) (operation : Operation ℕ Opened) (a : answer.Answer)
        → get k.vfs.calls call ≡ Some (using open_call operation) → (o : Option Opened) → get k.closing open_call ≡ o
        → is_kernel_past_end (released (ended k unique k.vfs call a) open_call o) ≡ false
    let_go open_call operation a at None closed = same
    let_go open_call operation a at (Some file) closed = by (is_used (ended k unique k.vfs call a) open_call) refl
      where
        by : (b : Bool) → is_used (ended k unique k.vfs call a) open_call ≡ b
            → is_kernel_past_end (record (ended k unique k.vfs call a) {
              closing = cond b k.closing (remove k.closing open_call);
              queues = cond b (ended k unique k.vfs call a).queues
                  (after_enqueue (ended k unique k.vfs call a).queues (Release file));
            }) ≡ false
        by true used = same
        by false idle =
            let left : 0 < numbers_left_from k.queues.next = ends open_call operation at (ap is_some closed) idle in
            none_past_end (k.queues.next + 2) k.vfs.next_call (omega (arith, left))
            (within_ends k.queues.next k.vfs.next_call same).1

    use_within : (state : CallState Opened) (a : answer.Answer) → get k.vfs.calls call ≡ Some state
        → is_kernel_past_end (after_use (ended k unique k.vfs call a) state) ≡ false
    use_within (walking d w ws p) a at = same
    use_within (doing operation) a at = same
    use_within (using open_call operation) a at = let_go open_call operation a at (get k.closing open_call) refl

    -- a body that does not go with what was asked
    pub wrong_within : (state : CallState Opened) → get k.vfs.calls call ≡ Some state → (wire : WireReply)
        → goes_with (asked state) wire ≡ false → is_kernel_past_end (reply_written k unique wire).1 ≡ false
    wrong_within state at wire other = ap (λ (r : WriteResult × Kernel). is_kernel_past_end r.1)
        (wrong_is k unique call even waits state at wire other) ∙ use_within state (answer.failed 5) at

    plain_within : (wire : WireReply) → IsPlain wire → (aw : Awaits (get k.vfs.calls call) wire)
        → is_kernel_past_end (reply_written k unique wire).1 ≡ false
    plain_within wire plain aw = ap (λ (r : WriteResult × Kernel). is_kernel_past_end r.1)
        (plain_is k unique call even waits wire plain aw) ∙ use_within aw.state (answer_by wire) aw.at

    missing_within : (valid : ℕ) (operation : Operation ℕ Opened) (state : CallState Opened)
        → get k.vfs.calls call ≡ Some state → StandsAt operation state
        → goes_with operation (reply.missing valid) ≡ true → Keeps (reply_written k unique (reply.missing valid))
    missing_within valid (lookup d w) state at s goes =
        ap (λ (r : WriteResult × Kernel). is_kernel_past_end r.1)
        (lookup_missing k unique call even waits d w s.words s.plan (at ∙ ap Some s.is) valid) ∙ same
    missing_within valid (mkdir d n) state at s goes =
        ap (λ (r : WriteResult × Kernel). is_kernel_past_end r.1)
        (made_missing k unique call even waits (mkdir d n) (d, n) (mkdirs d n) (at ∙ ap Some s) valid) ∙ same
    missing_within valid (link x d n) state at s goes =
        ap (λ (r : WriteResult × Kernel). is_kernel_past_end r.1)
        (made_missing k unique call even waits (link x d n) (d, n) (links x d n) (at ∙ ap Some s) valid) ∙ same
    missing_within valid operation state at s goes = absurd (true≢false (sym goes))

    created_within : (g : Entry) (valid fh : ℕ) (operation : Operation ℕ Opened) (state : CallState Opened)
        → get k.vfs.calls call ≡ Some state → StandsAt operation state
        → goes_with operation (reply.created g valid fh) ≡ true → (u : Use) → use_of k.nodes g ≡ u
        → Keeps (reply_written k unique (reply.created g valid fh))
    created_within g valid fh (create d n) state at s goes usable is =
        ap (λ (r : WriteResult × Kernel). is_kernel_past_end r.1)
        (create_made k unique call even waits d n (at ∙ ap Some s) g valid fh is) ∙ same
    created_within g valid fh (create d n) state at s goes unusable is =
        ap (λ (r : WriteResult × Kernel). is_kernel_past_end r.1)
        (create_useless k unique call even waits d n (at ∙ ap Some s) g valid fh is) ∙ same
    created_within g valid fh (create d n) state at s goes (stale node) is =
        ap (λ (r : WriteResult × Kernel). is_kernel_past_end r.1)
        (create_stale k unique call even waits d n (at ∙ ap Some s) g valid fh node is) ∙ same
    created_within g valid fh operation state at s goes u is = absurd (true≢false (sym goes))

    opened_within : (fh : ℕ) (operation : Operation ℕ Opened) (state : CallState Opened)
        → get k.vfs.calls call ≡ Some state → StandsAt operation state → goes_with operation (reply.opened fh) ≡ true
        → Keeps (reply_written k unique (reply.opened fh))
    opened_within fh (opening x) state at s goes = ap (λ (r : WriteResult × Kernel). is_kernel_past_end r.1)
        (open_done k unique call even waits x (at ∙ ap Some s) fh) ∙ same
    opened_within fh operation state at s goes = absurd (true≢false (sym goes))

    pairs_within : (pairs : List (DirentPlus Entry)) (operation : Operation ℕ Opened) (state : CallState Opened)
        → get k.vfs.calls call ≡ Some state → StandsAt operation state
        → goes_with operation (reply.listed_plus pairs) ≡ true
        → Keeps (reply_written k unique (reply.listed_plus pairs))
    pairs_within pairs (readdirplus d a z) state at s goes =
        ap (λ (r : WriteResult × Kernel). is_kernel_past_end r.1)
        (list_done k unique call even waits d pairs a z (at ∙ ap Some s) goes) ∙ same
    pairs_within pairs (lookup d w) state at s goes = absurd (true≢false (sym goes))
    pairs_within pairs operation state at s goes = absurd (true≢false (sym goes))

    pub stays_within : (wire : WireReply) → (aw : Awaits (get k.vfs.calls call) wire) → IsNoEntry wire
        → is_kernel_past_end (reply_written k unique wire).1 ≡ false
    stays_within (reply.failed errno) aw plain = plain_within (reply.failed errno) tt aw
    stays_within (reply.attributes a) aw plain = plain_within (reply.attributes a) tt aw
    stays_within (reply.listed records) aw plain = plain_within (reply.listed records) tt aw
    stays_within (reply.content bytes) aw plain = plain_within (reply.content bytes) tt aw
    stays_within (reply.written size) aw plain = plain_within (reply.written size) tt aw
    stays_within (reply.missing valid) aw plain = missing_within valid aw.operation aw.state aw.at aw.stands aw.goes
    stays_within (reply.created g valid fh) aw plain =
        created_within g valid fh aw.operation aw.state aw.at aw.stands aw.goes (use_of k.nodes g) refl
    stays_within (reply.opened fh) aw plain = opened_within fh aw.operation aw.state aw.at aw.stands aw.goes
    stays_within (reply.agreed major minor flags) aw plain = absurd (none_agreed major minor flags aw.operation aw.goes)
    stays_within (reply.listed_plus pairs) aw plain = pairs_within pairs aw.operation aw.state aw.at aw.stands aw.goes
    stays_within reply.done aw plain = ap (λ (r : WriteResult × Kernel). is_kernel_past_end r.1)
        (done_is k unique call even waits aw) ∙ same
    stays_within (reply.found g valid) aw plain = absurd plain

  -- An entry that brings no walk on.
  module _ (g : Entry) (valid : ℕ) (aw : Awaits (get k.vfs.calls call) (reply.found g valid)) where
    pub useless_within : use_of k.nodes g ≡ unusable → is_kernel_past_end (reply_written k unique (reply.found g valid)).1
        ≡ false
    useless_within is = ap (λ (r : WriteResult × Kernel). is_kernel_past_end r.1)
        (found_useless k unique call even waits g valid aw is) ∙ same

    pub stale_within : (node : ℕ) → use_of k.nodes g ≡ stale node
        → is_kernel_past_end (reply_written k unique (reply.found g valid)).1 ≡ false
    stale_within node is = ap (λ (r : WriteResult × Kernel). is_kernel_past_end r.1)
        (found_stale k unique call even waits g valid aw node is) ∙ same

    pub made_within : use_of k.nodes g ≡ usable → LooksNone aw.state
        → is_kernel_past_end (reply_written k unique (reply.found g valid)).1 ≡ false
    made_within is other =
        let m = makes_found aw.operation aw.state g valid aw.stands aw.goes other in
        ap (λ (r : WriteResult × Kernel). is_kernel_past_end r.1)
        (made_found k unique call even waits m.operation m.place m.makes (aw.at ∙ m.is) g valid is) ∙ same

-- What was made of a reply that is no entry alone.
pub no_entry_said : (s : LentReply) → ((g : Entry) (valid : ℕ) → s ≡ said.Entry g valid → ⊥) → IsNoEntry (decoded_wire_of s)
no_entry_said (said.Failed errno) other = tt
no_entry_said (said.Negative valid) other = tt
no_entry_said (said.Entry g valid) other = absurd (other g valid refl)
no_entry_said (said.Created g valid fh) other = tt
no_entry_said (said.Opened fh) other = tt
no_entry_said (said.Attributes a) other = tt
no_entry_said (said.Listed records) other = tt
no_entry_said (said.ListedPlus records) other = tt
no_entry_said (said.Content bytes) other = tt
no_entry_said (said.Written size) other = tt
no_entry_said (said.Agreed major minor flags) other = tt
no_entry_said said.Done other = tt

-- A call that walks on from an entry finds a number for what it asks, if it asks anything.
pub walks_within : (k : Kernel) (unique call directory : ℕ) (word : Name) (words : List Name) (plan : WalkPlan ℕ)
    (g : Entry) (valid : ℕ) → k.queues.next ≤ 2 ^ 62 → k.vfs.next_call ≤ 2 ^ 62
    → (is_some (walks_on (bound k.vfs directory word (Some g.nodeid) valid) call g.nodeid words plan).operation ≡ true
    → 0 < numbers_left_from k.queues.next)
    → is_kernel_past_end (advanced (record k { queues = without k.queues unique; nodes = looked_up k.nodes (g ∷ []) }) call
    (walks_on (bound k.vfs directory word (Some g.nodeid) valid) call g.nodeid words plan)) ≡ false
walks_within k unique call directory word words plan g valid low few left =
    let next : Advance Opened = walks_on (bound k.vfs directory word (Some g.nodeid) valid) call g.nodeid words plan in
    let same_call : next.vfs.next_call ≡ k.vfs.next_call =
    walk_numbers (bound k.vfs directory word (Some g.nodeid) valid) call g.nodeid words plan in
    asks_within (record k {
      vfs = next.vfs;
      queues = without k.queues unique;
      nodes = looked_up k.nodes (g ∷ []);
    }) call next.operation low (rw same_call few) left

-- An entry finds a number for what the call asks next, where one is left.
module _ (k : Kernel) (unique call : ℕ) (even : nat_eq (unique % 2) 1 ≡ false)
    (waits : waiting k.queues unique ≡ Some (Call call)) (same : is_kernel_past_end k ≡ false)
    (left : 0 < numbers_left_from k.queues.next) (g : Entry) (valid : ℕ) where
  usable_within : (operation : Operation ℕ Opened) (state : CallState Opened) → get k.vfs.calls call ≡ Some state
      → StandsAt operation state → goes_with operation (reply.found g valid) ≡ true → use_of k.nodes g ≡ usable
      → Keeps (reply_written k unique (reply.found g valid))
  usable_within (lookup d w) state at s goes is =
      let ends = within_ends k.queues.next k.vfs.next_call same in
      ap (λ (r : WriteResult × Kernel). is_kernel_past_end r.1)
      (lookup_found k unique call even waits d w s.words s.plan (at ∙ ap Some s.is) g valid is)
      ∙ walks_within k unique call d w s.words s.plan g valid ends.0 ends.1 (λ some. left)
  usable_within (mkdir d n) state at s goes is =
      ap (λ (r : WriteResult × Kernel). is_kernel_past_end r.1)
      (made_found k unique call even waits (mkdir d n) (d, n) (mkdirs d n) (at ∙ ap Some s) g valid is) ∙ same
  usable_within (link x d n) state at s goes is =
      ap (λ (r : WriteResult × Kernel). is_kernel_past_end r.1)
      (made_found k unique call even waits (link x d n) (d, n) (links x d n) (at ∙ ap Some s) g valid is) ∙ same
  usable_within operation state at s goes is = absurd (true≢false (sym goes))

  pub found_within : (aw : Awaits (get k.vfs.calls call) (reply.found g valid))
      → is_kernel_past_end (reply_written k unique (reply.found g valid)).1 ≡ false
  found_within aw = by (use_of k.nodes g) refl
    where
      by : (u : Use) → use_of k.nodes g ≡ u → Keeps (reply_written k unique (reply.found g valid))
      by usable is = usable_within aw.operation aw.state aw.at aw.stands aw.goes is
      by unusable is = useless_within k unique call even waits same g valid aw is
      by (stale node) is = stale_within k unique call even waits same g valid aw node is
