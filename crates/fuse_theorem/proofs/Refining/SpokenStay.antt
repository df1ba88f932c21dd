-- In the mount of a server that speaks 7.15 the kernel speaks it too, whatever the event.
use Rattle.fuse_spec.specs.Values.Numbers.{init_flags, max_forgets}
use Rattle.std.proofs.Common.{◌≡◌, ℕ, ◌-◌, Bool, true, false, true≢false, cond, ◌&&◌, List, [], ◌∷◌, Option, Some, None, take, length, nat_eq, slice_get, refl, ap, sym, subst, ◌∙◌, arith, All}
use Rattle.std.specs.Prelude.{◌%◌, nat_lt, nat_le}
use Rattle.std.specs.List.{remove as without_at}
use Rattle.std.proofs.lemmas.Bool.Decides.{nat_tests}
use Rattle.std.proofs.lemmas.List.Elements.{All-nil, All-push}
use Rattle.fuse_spec.specs.declared.Minor.{Minor}
use Rattle.fuse_spec.specs.declared.Minor.TheVariants.{M15, M31}
use Rattle.fuse_spec.specs.declared.Opened.{Opened}
use Rattle.fuse_spec.specs.declared.Purpose.{Purpose}
use Rattle.fuse_spec.specs.declared.Purpose.TheVariants as purpose
use Rattle.fuse_spec.specs.declared.ReplyResult.{ReplyResult}
use Rattle.fuse_spec.specs.declared.WriteResult.{WriteResult}
use Rattle.fuse_spec.specs.declared.WriteResult.TheVariants.{Accepted, NoEntry, Invalid}
use Rattle.fuse_spec.specs.Calls.Calls.{for_minor}
use Rattle.fuse_spec.specs.Server.Copies.{after_result, kept_after}
use Rattle.fuse_spec.specs.World.Events.{Event, Outcome}
use Rattle.fuse_spec.specs.Kernel.Kernel.{Kernel, is_live, body_of, asked_by, call_begun, kernel_aborted, forgets_singly}
use Rattle.fuse_spec.specs.Values.Maps.{get, remove, values}
use Rattle.fuse_spec.specs.Kernel.Messages.{Forget, RequestBody, init, asks, release, forget, batch_forget, interrupt, Request, WireReply}
use Rattle.fuse_spec.specs.Files.Operations.{done, failed}
use Rattle.fuse_spec.specs.Server.Performs.{served, init_reply}
use Rattle.fuse_spec.specs.Kernel.QueueCalls.{waiting, without}
use Rattle.fuse_spec.specs.Kernel.Replies.{is_agreement, minor_agreed, files_agreed, made_ready, request_reply_written, interrupt_reply_written, interrupt_replied, reply_written}
use Rattle.fuse_spec.specs.Server.Server.{Server, HeldRequest, Kept, Copy, knows}
use Rattle.fuse_spec.specs.Server.Taking.{taking, interrupting}
use Rattle.fuse_spec.specs.Kernel.Uniques.{interrupt_number}
use Rattle.fuse_spec.specs.Calls.Vfs.{CallState, walking, doing, using, asked}
use Rattle.fuse_spec.specs.World.Worlds.{World, Sent, copy_put, forget_body, server_settled, after_write}
use Rattle.fuse_theorem.specs.AskedRequests.{InitIsFirst, RequestsAskedWhileLive}
use Rattle.fuse_theorem.specs.Faultless.{OldState, OldRequest, Spoken}
use Rattle.fuse_theorem.specs.Links.{LinksSound}
use Rattle.fuse_theorem.proofs.Answers.Answered.{waiting_is}
use Rattle.fuse_theorem.proofs.Calls.CallsContinue.{begun_goes_on, signalled_goes_on, replied_goes_on}
use Rattle.fuse_theorem.proofs.RefusalCases.Happened.{Happened, by_mount, by_call, by_read_interrupt, by_read_forgets, by_read_pending, by_take, by_perform, by_again, by_write, by_settle, by_signal, by_tick, by_drop, by_evict, by_abort}
use Rattle.fuse_theorem.proofs.Requests.LinksSound.{AgreesToInit, init_is_first}
use Rattle.fuse_theorem.proofs.Calls.OldCalls.{begins_old, signal_old, written_old}
use Rattle.fuse_theorem.proofs.Requests.PerformedRest.{performed_rest}
use Rattle.fuse_theorem.proofs.Refining.Queuing.{All-without, All-at}
use Rattle.fuse_theorem.proofs.Lists.Values.{All-get}

-- ---- the server speaks the same minor

taken_minor : (s : Server) (unique : ℕ) (body : RequestBody) → (taking s unique body).server.minor ≡ s.minor
taken_minor s unique (init flags) = refl
taken_minor s unique (asks operation) = refl
taken_minor s unique (release o) = refl
taken_minor s unique (forget f) = refl
taken_minor s unique (batch_forget fs) = refl
taken_minor s unique (interrupt original) = by (get s.held original) (get s.kept original)
  where
    by : (h : Option HeldRequest) (o : Option Kept) → (interrupting s unique original h o).server.minor ≡ s.minor
    by (Some t) o = refl
    by None (Some k) = refl
    by None None = refl

settled_minor : (s : Server) (result : ReplyResult) (o : Option Copy) → (server_settled s result o).minor ≡ s.minor
settled_minor s result None = refl
settled_minor s result (Some copy) = by result.result
  where
    by : (r : WriteResult) → (after_result (record s {
      copies = remove s.copies result.number;
      kept = kept_after s.kept copy (get s.kept copy.unique);
    }) copy.wire r).minor ≡ s.minor
    by Accepted = refl
    by NoEntry = refl
    by Invalid = refl

-- A reply that goes out leaves all but the reply link.
record SameBeside (v w : World) : Type 0 where
  kernel : v.kernel ≡ w.kernel
  minor : v.server.minor ≡ w.server.minor
  requests : v.requests ≡ w.requests

sent_beside : (w : World) (number unique : ℕ) (o : Option WireReply) → SameBeside (copy_put w number unique o) w
sent_beside w number unique None = record { kernel = refl; minor = refl; requests = refl }
sent_beside w number unique (Some wire) = record { kernel = refl; minor = refl; requests = refl }

-- ---- what is asked

state_asks : (state : CallState Opened) → OldState state → knows M15 (asks (asked state)) ≡ true
state_asks (walking d word words plan) h = refl
state_asks (doing operation) h = h
state_asks (using open_call operation) h = h

purpose_asks : (k : Kernel) → ((call : ℕ) (state : CallState Opened) → get k.vfs.calls call ≡ Some state
    → OldState state) → (kept : Purpose) (body : RequestBody) → body_of k kept ≡ Some body → knows M15 body ≡ true
purpose_asks k each purpose.Init body is = let same : init init_flags ≡ body =
    cc (is) in subst (λ (b : RequestBody). knows M15 b ≡ true) same refl
purpose_asks k each (purpose.Release o) body is = let same : release o ≡ body =
    cc (is) in subst (λ (b : RequestBody). knows M15 b ≡ true) same refl
purpose_asks k each (purpose.Call call) body is = by (get k.vfs.calls call) refl is
  where
    by : (o : Option (CallState Opened)) → get k.vfs.calls call ≡ o → asked_by o ≡ Some body → knows M15 body ≡ true
    by None there e = absurd (cc (e))
    by (Some state) there e = let same : asks (asked state) ≡ body =
        cc (e) in subst (λ (b : RequestBody). knows M15 b ≡ true) same (state_asks state (each call state there))

-- one forget at a time
one_forget : (fs : List Forget) (n : ℕ) → (nat_lt 0 n && (nat_le n max_forgets && nat_le n (length fs))) ≡ true
    → nat_lt 1 n ≡ false → knows M15 (forget_body (take n fs)) ≡ true
one_forget fs n can few = by n (one n (both_first (nat_lt 0 n) _ can) few) can
  where
    both_first : (a b : Bool) → (a && b) ≡ true → a ≡ true
    both_first true b e = refl
    both_first false b e = e

    one : (m : ℕ) → nat_lt 0 m ≡ true → nat_lt 1 m ≡ false → m ≡ 1
    one m some low = grind (arith, nat_tests, some, low)

    of_list : (xs : List Forget) → (nat_lt 0 1 && (nat_le 1 64 && nat_le 1 (length xs))) ≡ true
        → knows M15 (forget_body (take 1 xs)) ≡ true
    of_list [] e = absurd (cc (e))
    of_list (f ∷ xs) e = refl

    by : (m : ℕ) → m ≡ 1 → (nat_lt 0 m && (nat_le m 64 && nat_le m (length fs))) ≡ true
        → knows M15 (forget_body (take m fs)) ≡ true
    by m is e = subst (λ (x : ℕ). knows M15 (forget_body (take x fs)) ≡ true) (sym is)
        (of_list fs (subst (λ (x : ℕ). (nat_lt 0 x && (nat_le x 64 && nat_le x (length fs))) ≡ true) is e))

-- ---- a reply is written

-- What the kernel speaks is what it spoke, or what INIT agreed on.
agrees_still : (k : Kernel) → InitIsFirst k.queues → k.minor ≡ M15 → k.lists_files ≡ false
    → (unique : ℕ) (wire : WireReply) → (unique ≡ 2 → wire ≡ init_reply M15 init_flags)
    → ((reply_written k unique wire).1.minor ≡ M15) × ((reply_written k unique wire).1.lists_files ≡ false)
agrees_still k first minor lists unique wire agrees = by (nat_eq (unique % 2) 1)
  where
    interrupts : (x : WireReply) → ((interrupt_replied k (unique - 1) x).1.minor ≡ M15)
        × ((interrupt_replied k (unique - 1) x).1.lists_files ≡ false)
    interrupts (failed errno) = (minor, lists)
    interrupts done = (minor, lists)
    interrupts x = (minor, lists)

    odd : (o : Option Purpose) → ((interrupt_reply_written k unique wire o).1.minor ≡ M15)
        × ((interrupt_reply_written k unique wire o).1.lists_files ≡ false)
    odd None = (minor, lists)
    odd (Some kept) = interrupts wire

    readied : (b : Bool) → wire ≡ init_reply M15 init_flags
        → ((cond b (made_ready (record k { queues = without k.queues unique }) wire)
        (kernel_aborted (record k { queues = without k.queues unique }))).minor ≡ M15)
        × ((cond b (made_ready (record k { queues = without k.queues unique }) wire)
        (kernel_aborted (record k { queues = without k.queues unique }))).lists_files ≡ false)
    readied true says = (ap minor_agreed says, ap files_agreed says)
    readied false says = (minor, lists)

    even : (o : Option Purpose) → waiting k.queues unique ≡ o
        → ((request_reply_written k unique wire o).1.minor ≡ M15)
        × ((request_reply_written k unique wire o).1.lists_files ≡ false)
    even None waits = (minor, lists)
    even (Some purpose.Init) waits =
        let request = waiting_is k.queues unique purpose.Init waits in
        readied (is_agreement wire)
        (agrees (init_is_first k first unique request.request request.under request.serves))
    even (Some (purpose.Release o)) waits = (minor, lists)
    even (Some (purpose.Call call)) waits =
        let goes = replied_goes_on (record k { queues = without k.queues unique }) call wire (get k.vfs.calls call) in
        (goes.minor ∙ minor, goes.lists_files ∙ lists)

    by : (b : Bool) → ((cond b (interrupt_reply_written k unique wire (waiting k.queues (unique - 1)))
        (request_reply_written k unique wire (waiting k.queues unique))).1.minor ≡ M15)
        × ((cond b (interrupt_reply_written k unique wire (waiting k.queues (unique - 1)))
        (request_reply_written k unique wire (waiting k.queues unique))).1.lists_files ≡ false)
    by true = odd (waiting k.queues (unique - 1))
    by false = even (waiting k.queues unique) refl

-- ---- every event

module _ (choice : ℕ → ℕ) (w : World) (requests : RequestsAskedWhileLive w) (links : LinksSound w)
    (old : Spoken w) where
  -- the kernel and the request link stay, and so does the server's minor
  beside : (v : World) → v.kernel ≡ w.kernel → v.server.minor ≡ w.server.minor
      → (All OldRequest w.requests → All OldRequest v.requests) → Spoken v
  beside v kernel minor sent live is =
      let was = old (ap (λ (k : Kernel). is_live k.phase) (sym kernel) ∙ live) (sym minor ∙ is) in
      record {
        minor = ap (λ (k : Kernel). k.minor) kernel ∙ was.minor;
        lists_files = ap (λ (k : Kernel). k.lists_files) kernel ∙ was.lists_files;
        calls =
            subst (λ (k : Kernel). All OldState (values k.vfs.calls)) (sym kernel) was.calls;
        sent = sent was.sent;
      }

  written : (k : ℕ) (sent : Sent) → slice_get w.replies k ≡ Some sent
      → Spoken (after_write w k sent (reply_written w.kernel sent.unique sent.wire))
  written k sent there = by (is_live w.kernel.phase) refl
    where
      by : (b : Bool) → is_live w.kernel.phase ≡ b → Spoken
          (after_write w k sent (reply_written w.kernel sent.unique sent.wire))
      by true alive live is =
          let was = old alive is in
          let agreed = links.agreed alive in
          let says = All-at (AgreesToInit w.server.minor) w.replies k sent agreed.copies there in
          let speaks = agrees_still w.kernel (requests alive).first was.minor was.lists_files sent.unique sent.wire
          (λ e. says e ∙ ap (λ (m : Minor). init_reply m init_flags) is) in
          record {
            minor = speaks.0;
            lists_files = speaks.1;
            calls = written_old w.kernel was.calls sent.unique sent.wire;
            sent = was.sent;
          }
      by false dead live is = absurd (let none : slice_get w.replies k
          ≡ None = ap (λ (xs : List Sent). slice_get xs k) (links.idle dead).replies in cc (none, there))

  pub spoken_after : (e : Event) (o : Outcome) (after : World) → Happened choice w e o after → Spoken after
  spoken_after e o after (by_mount f m v idle) live is =
      record { minor = refl; lists_files = refl; calls = All-nil OldState; sent = All-nil OldRequest }
  spoken_after e o after (by_call call ready room within) live is =
      let goes = begun_goes_on w.kernel (for_minor w.kernel.lists_files call) in
      let was = old (ap is_live (sym goes.phase) ∙ live) is in
      record {
        minor = goes.minor ∙ was.minor;
        lists_files = goes.lists_files ∙ was.lists_files;
        calls = subst (λ (lists : Bool). All OldState (values (call_begun w.kernel (for_minor lists call)).vfs.calls))
            (sym was.lists_files) (begins_old w.kernel was.calls call);
        sent = was.sent;
      }
  spoken_after e o after (by_read_interrupt original rest lives there within) live is =
      let was = old lives is in
      record {
        minor = was.minor;
        lists_files = was.lists_files;
        calls = was.calls;
        sent = All-push OldRequest w.requests (record {
          unique = interrupt_number original;
          body = interrupt original;
        }) was.sent refl;
      }
  spoken_after e o after (by_read_forgets n lives free can within few) live is =
      let was = old lives is in
      let singly = subst (λ (m : Minor). (forgets_singly m && nat_lt 1 n) ≡ false) was.minor few in
      record {
        minor = was.minor;
        lists_files = was.lists_files;
        calls = was.calls;
        sent = All-push OldRequest w.requests (record {
          unique = w.kernel.queues.next;
          body = forget_body (take n w.kernel.queues.forgets);
        }) was.sent
            (one_forget w.kernel.queues.forgets n can singly);
      }
  spoken_after e o after (by_read_pending k unique kept body lives free there says within) live is =
      let was = old lives is in
      record {
        minor = was.minor;
        lists_files = was.lists_files;
        calls = was.calls;
        sent = All-push OldRequest w.requests (record { unique = unique; body = body }) was.sent
            (purpose_asks w.kernel (λ call state at. All-get OldState w.kernel.vfs.calls call state was.calls at) kept body says);
      }
  spoken_after e o after (by_take k r there within) live is =
      let took = taking w.server r.unique r.body in
      let same = sent_beside (record w {
        requests = without_at w.requests k;
        server = took.server;
      }) w.server.next_copy r.unique took.reply in
      beside _ same.kernel (same.minor ∙ taken_minor w.server r.unique r.body)
      (λ h. subst (All OldRequest) (sym same.requests) (All-without OldRequest w.requests k h)) live is
  spoken_after e o after (by_perform unique t there within) live is =
      let did = served choice w.server unique t in
      let same = sent_beside (record w { server = did.server }) w.server.next_copy unique
      (cond w.server.aborted None (Some did.wire)) in
      let rest = performed_rest choice (record w.server { held = remove w.server.held unique }) t in
      beside _ same.kernel (same.minor ∙ rest.minor) (λ h. subst (All OldRequest) (sym same.requests) h) live is
  spoken_after e o after (by_again unique kept there current within) live is = beside _ refl refl (λ h. h) live is
  spoken_after e o after (by_write k sent there within) live is = written k sent there live is
  spoken_after e o after (by_settle k result there) live is =
      beside _ refl (settled_minor w.server result (get w.server.copies result.number)) (λ h. h) live is
  spoken_after e o after (by_signal call fatal state lives there within) live is =
      let goes = signalled_goes_on w.kernel call state fatal in
      let was = old lives is in
      record {
        minor = goes.minor ∙ was.minor;
        lists_files = goes.lists_files ∙ was.lists_files;
        calls = signal_old w.kernel was.calls call state fatal;
        sent = was.sent;
      }
  spoken_after e o after (by_tick ms timely) live is = let was =
      old live is in record { minor = was.minor; lists_files = was.lists_files; calls = was.calls; sent = was.sent }
  spoken_after e o after (by_drop directory name bound lives there) live is = let was =
      old lives is in record { minor = was.minor; lists_files = was.lists_files; calls = was.calls; sent = was.sent }
  spoken_after e o after (by_evict node counted lives there unused) live is = let was =
      old lives is in record { minor = was.minor; lists_files = was.lists_files; calls = was.calls; sent = was.sent }
  spoken_after e o after (by_abort lives) live is = absurd (true≢false (sym live))

-- What a live mount's requests ask, the server's minor knows.
pub request_known : (w : World) → Spoken w → is_live w.kernel.phase ≡ true
    → All (λ (r : Request). knows w.server.minor r.body ≡ true) w.requests
request_known w old live = by w.server.minor refl
  where
    by : (m : Minor) → w.server.minor ≡ m → All (λ (r : Request). knows w.server.minor r.body ≡ true) w.requests
    by M31 is = subst (λ (x : Minor). All (λ (r : Request). knows x r.body ≡ true) w.requests) (sym is) (λ i r lt. refl)
    by M15 is = let old_one = old live is in subst (λ (x : Minor). All
        (λ (r : Request). knows x r.body ≡ true) w.requests) (sym is) old_one.sent
