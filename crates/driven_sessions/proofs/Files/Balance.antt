-- The files that a kernel has open, and those that frames that wait will open, are open in the session as often at least.
use Rattle.std.proofs.Common.{◌≡◌, inl, inr, ℕ, ◌+◌, ◌-◌, ◌≤◌, ◌<◌, ◌%◌, ◌^◌, Bool, true, false, cond, List, [], ◌∷◌, ◌++◌, Option, Some, None, nat_eq, refl, ap, sym, subst, ◌∙◌, arith}
use Rattle.std.specs.Option.{option_map_or}
use Rattle.std.specs.Prelude.{sum_by}
use Rattle.std.specs.Borrow.{Bor}
use Rattle.std.proofs.lemmas.Bool.Decides.{nat_tests}
use Rattle.fk_fields.specs.Fields.{number_at}
use Rattle.fk_wire.specs.declared.opcode.Opcode.{Opcode}
use Rattle.fuse_device.specs.Transfers.{Transfer, received}
use Rattle.fuse_spec.specs.declared.Counted.{Counted}
use Rattle.fuse_spec.specs.declared.Opened.{Opened}
use Rattle.fuse_spec.specs.declared.Purpose.{Purpose}
use Rattle.fuse_spec.specs.declared.Purpose.TheVariants as purpose
use Rattle.fuse_spec.specs.declared.QueuedRequest.{QueuedRequest}
use Rattle.fuse_spec.specs.declared.WriteResult.{WriteResult}
use Rattle.fuse_spec.specs.Calls.Vfs.{asked}
use Rattle.fuse_spec.specs.Files.Operations.{Operation, opening as opens_node}
use Rattle.fuse_spec.specs.Kernel.Kernel.{Kernel, asked_by, body_of}
use Rattle.fuse_spec.specs.Kernel.Messages.{Request, RequestBody, WireReply, asks}
use Rattle.fuse_spec.specs.Kernel.QueueCalls.{waiting as queue_waiting}
use Rattle.fuse_spec.specs.Kernel.Queues.{QueueState, is_unread, request_under}
use Rattle.fuse_spec.specs.Kernel.Replies.{kernel_reply, usable, use_of_reply}
use Rattle.fuse_spec.specs.Values.Maps.{Map}
use Rattle.fuse_theorem.specs.OpenNumbers.{OpensApart, released_by}
use Rattle.fuse_theorem.proofs.Answers.Answered.{waiting_is}
use Rattle.fuse_theorem.proofs.Calls.OpenSteps.{gained_by}
use Rattle.fuse_theorem.proofs.Lists.MapSums.{values_sum}
use Rattle.fuse_theorem.proofs.Lists.OpenSums.{kernel_sum, pending_sum}
use Rattle.fuse_frames.specs.RequestTies.{asked_opcode}
use Rattle.fk_kernel.specs.AwaitedReplies.{Says, awaited, awaited_by, awaited_by_call, awaited_by_interrupt, head_unique, reply_to}
use Rattle.fk_drive_frames.specs.Agreements.{IsHandedOn}
use Rattle.fk_drive.specs.Driving.{Driven, DriveStep, ReleasesBehind, Turn, alone, answers, ends, is_garbled, is_given, is_not_known, is_refused, is_released, opens, reads, releases, releases_none, sends, sends_opened, sets_aside, waits, writes}
use Rattle.fk_drive.specs.KernelSteps.{IsReplyTaken}
use Rattle.fk_drive_theorem.specs.TakenOnce.{mounts_at}
use Rattle.fk_drive_theorem.proofs.OneEach.{OneEach}
use Rattle.fk_drive_theorem.proofs.WrittenCounted.{EmptyUnlessLive}
use Rattle.fuse_protocol.specs.declared.opcode.Opcode.{Opcode as TableOpcode}
use Rattle.fuse_protocol.specs.declared.opcode.Opcode.TheVariants as table_op
use Rattle.protocol_law.specs.Law.{Carries}
use Rattle.protocol_law.specs.ReplyLaw.{table_opcode}
use Rattle.fuse_sessions.specs.declared.act.Act.{Act}
use Rattle.fuse_sessions.specs.declared.act.Asked.{Asked}
use Rattle.fuse_sessions.specs.declared.act.OpenKind.TheVariants as kind
use Rattle.fuse_sessions.specs.declared.act.Taken.{Taken}
use Rattle.fuse_sessions.specs.declared.act.Taken.TheVariants as taken
use Rattle.fuse_sessions.specs.declared.known.Known.{Known}
use Rattle.fuse_sessions.specs.declared.transfer.Transfer.{Transfer as Said}
use Rattle.fuse_sessions.specs.declared.transfer.Transfer.TheVariants as said
use Rattle.fuse_sessions.specs.Frames.{AreAccepted, AreActs, IsWritten, Lead, number_in}
use Rattle.fuse_sessions.specs.OpenFiles.{opened}
use Rattle.fuse_sessions.specs.Sessions.{Session}
use Rattle.fuse_sessions.specs.Waiting.{waits as waits_in}
use Rattle.driven_sessions.specs.Driven.{HaveAgreed}
use Rattle.driven_sessions.specs.Taken.{HasHeader}
use Rattle.driven_sessions.specs.Transfers.{AreSaid}
use Rattle.driven_sessions.proofs.Asking.{awaits, once_each}
use Rattle.driven_sessions.proofs.Asks.{waits_ask}
use Rattle.driven_sessions.proofs.Counting.{awaited_low, raised_short}
use Rattle.driven_sessions.proofs.Heard.{judged_before, waited_reply}
use Rattle.driven_sessions.proofs.InitReplies.{says_headed}
use Rattle.driven_sessions.proofs.Leading.{AreFree}
use Rattle.driven_sessions.proofs.Replying.{Knows, step_knows}
use Rattle.driven_sessions.proofs.Served.{added, free_first, is_of_server, reply_waits}
use Rattle.driven_sessions.proofs.Shapes.{own_shaped, said_shaped}
use Rattle.driven_sessions.proofs.Spent.{Keeps, held}
use Rattle.driven_sessions.proofs.Telling.{IsOwnNumber, Tells, Tied}
use Rattle.driven_sessions.proofs.Unagreed.{judged_acts}
use Rattle.driven_sessions.specs.Files.{AreCertain, is_certain}
use Rattle.driven_sessions.proofs.Files.Bodies.{AskAlike, AsksAlike, KnowsFiles, node_opened_by, step_files}
use Rattle.driven_sessions.proofs.Files.Frames.{no_files, own_files, request_files}
use Rattle.driven_sessions.proofs.Files.Growing.{none_grows, received_grows, sends_grow, stopped_grows, written_opened}
use Rattle.driven_sessions.proofs.Files.KernelFiles.{IsOpenedBy, alone_leaves, picked_sum, picked_used, taken_sum, used_by}
use Rattle.driven_sessions.proofs.Files.Opened.{file_most, is_file, open_file, opens_in}
use Rattle.driven_sessions.proofs.Files.Replies.{all_first, reply_opens}
use Rattle.driven_sessions.proofs.Files.Rows.{files_of, handle_of}
use Rattle.driven_sessions.proofs.Files.Short.{answer_length, raised_long, short_opens}
use Rattle.driven_sessions.proofs.Files.Ties.{Ties, TiedFiles}

-- ---- what frames that wait will open

-- The frames will open so many files in all.
module _ (IsSuch : List ℕ → ℕ → Type 0) where
  abbrev pub Owes : List (List ℕ) → ℕ → Type 0
  Owes [] n = n ≡ 0
  Owes (frame ∷ frames) n = (g : ℕ) × (m : ℕ) × (n ≡ g + m) × IsSuch frame g × Owes frames m

  last_owes : (frames : List (List ℕ)) (frame : List ℕ) (n g : ℕ) → Owes frames n → IsSuch frame g → Owes (frames ++ frame ∷ []) (n + g)
  last_owes [] frame n g none such = (g, 0, omega (arith, none), such, refl)
  last_owes (f ∷ frames) frame n g (h, m, sum, first, rest) such =
      (h, m + g, omega (arith, sum), first, last_owes frames frame m g rest such)

map_owes : (P Q : List ℕ → ℕ → Type 0) → ((frame : List ℕ) (g : ℕ) → P frame g → Q frame g) → (frames : List (List ℕ)) (n : ℕ)
    → Owes P frames n → Owes Q frames n
map_owes P Q to [] n none = none
map_owes P Q to (f ∷ frames) n (g, m, sum, first, rest) = (g, m, sum, to f g first, map_owes P Q to frames m rest)

-- What is known of a frame for the kernel, whose reply opens the file no oftener than this. `count` counts mounts.
pub record Opening (o : Opened) (count : ℕ) (kernel : Kernel) (frame : List ℕ) (g : ℕ) : Type 0 where
  pub mounted : 1 ≤ count
  pub opcode : Opcode
  pub knows : Knows opcode (head_unique frame) kernel
  pub body : RequestBody
  pub knows_files : KnowsFiles body (head_unique frame) kernel
  pub few : (operation : Operation ℕ Opened) (wire : WireReply) (q : Opened) → asked_opcode (asks operation) ≡ opcode
      → Says opcode frame wire → ((node : ℕ) → operation ≡ opens_node node → node ≡ node_opened_by body)
      → gained_by operation (kernel_reply operation wire) ≡ Some q → (nodes : Map Counted) → use_of_reply nodes wire ≡ usable
      → is_file o q ≤ g

abbrev pub Adds : (o : Opened) (count : ℕ) → Kernel → List ℕ → ℕ → Type 0
Adds o count kernel frame g = HasHeader frame → head_unique frame % 2 ≡ 0 → head_unique frame < 2 ^ 62
    → Opening o count kernel frame g

-- ---- what is kept

abbrev pub releases_of : Opened → Option Request → ℕ
releases_of o None = 0
releases_of o (Some r) = sum_by (is_file o) (released_by r.body)

abbrev pub uses_of : Opened → Option Request → ℕ
uses_of o None = 0
uses_of o (Some r) = sum_by (is_file o) (used_by r.body)

pub record Files (o : Opened) (count : ℕ) (d : Driven) (s : Session) : Type 0 where
  pub owed : ℕ
  pub owes : Owes (Adds o count d.kernel) d.waiting owed
  pub balance : kernel_sum (is_file o) d.kernel + releases_of o (held d.turn) + owed ≤ opened s (open_file o)
  pub uses : uses_of o (held d.turn) ≤ opened s (open_file o)

-- ---- a frame that is received

module _ (o : Opened) (count : ℕ) (old : Driven) (k : Known) (s : Session) (tells : Tells count old s) (ties : Ties old s)
    (carries : Carries k.agreed) (judged : k.unjudged ≡ None) where
  heard_adds : (frame : List ℕ) (b : Bor (List ℕ)) → b.now ≡ frame → (acts : List Act) (later : Known)
      → AreActs k s (said.Written b taken.Accepted) acts later → AreFree is_of_server s acts → AreCertain acts
      → Adds o count old.kernel frame (opens_in (open_file o) acts)
  heard_adds frame b same acts later are free certain headed even less = by (waits_in s (head_unique frame)) refl
    where
      number : number_in b.now ≡ head_unique frame
      number = ap (number_at 8 8) same

      does : IsWritten k s b.now taken.Accepted acts later
      does = judged_acts k s (said.Written b taken.Accepted) acts later judged are

      opened_code : (p : Opcode) (operation : Operation ℕ Opened) (node : ℕ) → asked_opcode (asks operation) ≡ p
          → operation ≡ opens_node node → ◌≡◌ {A = Option TableOpcode} (Some (table_opcode p)) (Some table_op.Open)
      opened_code p operation node opcode is =
          ap (λ (x : Opcode). Some (table_opcode x)) (sym opcode ∙ ap (λ (y : Operation ℕ Opened). asked_opcode (asks y)) is)

      by : (x : Option Asked) → waits_in s (head_unique frame) ≡ x
          → Opening o count old.kernel frame (opens_in (open_file o) acts)
      by None there = absurd (reply_waits k s b.now acts later free does (subst HasHeader (sym same) headed)
          (ap (λ (n : ℕ). n % 2) number ∙ even) (ap (waits_in s) number ∙ there))
      by (Some a) there =
          let tied = waits_ask (Tied old.kernel) s tells.asks (head_unique frame) a there less in
          let files = waits_ask (TiedFiles old.kernel) s ties.asks (head_unique frame) a there less in record {
            mounted = mounted count refl;
            opcode = tied.1;
            knows = tied.3;
            body = files.0;
            knows_files = files.2;
            few = λ operation wire q opcode says named gains nodes used.
                let says_so = subst (λ (l : List ℕ). Says tied.1 l wire) (sym same) says in
                file_most kind.File o q acts (reply_opens k carries b.now a acts later certain tied.1
                (waited_reply 2 (omega arith) k carries b.now (head_unique frame) number tied.0 acts later tied.1 s a there tied.2
                does wire says_so) nodes q operation wire opcode says_so
                (λ node is. files.1.files.node (tied.2 ∙ opened_code tied.1 operation node opcode is) ∙ sym (named node is)) gains used);
          }
        where
          mounted : (n : ℕ) → count ≡ n → 1 ≤ n
          mounted n is = from (nat_eq n 0) refl
            where
              from : (b : Bool) → nat_eq n 0 ≡ b → 1 ≤ n
              from true e =
                  let zero : count ≡ 0 = grind (arith, nat_tests, e, is) in
                  let high = waits_ask IsOwnNumber s (tells.before zero) (head_unique frame) a there in
                  absurd (omega (arith, high, less))
              from false e = grind (arith, nat_tests, e)

-- ---- a step

-- What waits for a reply was read.
waiting_read : (q : QueueState Purpose) (u : ℕ) (r : QueuedRequest Purpose) (kept : Purpose) → request_under q u ≡ Some r
    → queue_waiting q u ≡ Some kept → is_unread r.mark ≡ false
waiting_read q u r kept under answers_it = by (is_unread r.mark) refl
  where
    by : (b : Bool) → is_unread r.mark ≡ b → b ≡ false
    by true is = absurd (cc (
      answers_it,
      ap (λ (x : Option (QueuedRequest Purpose)).
          option_map_or (λ (y : QueuedRequest Purpose). cond (is_unread y.mark) None (Some y.kept)) x None) under
          ∙ ap (λ (b : Bool). cond b None (Some r.kept)) is,
    ))
    by false is = refl

module _ (o : Opened) (count : ℕ) (old : Driven) (k : Known) (s : Session) (files : Files o count old s) (tells : Tells count old s)
    (ties : Ties old s) (keeps : Keeps count old s) (one : OneEach old.kernel.queues) (empty : EmptyUnlessLive old.kernel)
    (within : old.kernel.queues.next ≤ 2 ^ 62) (apart : OpensApart old.kernel.vfs old.kernel.closing) where
  abbrev weight : Opened → ℕ
  weight = is_file o

  step_adds : (log : List Transfer) (new : Driven) (step : DriveStep old log new) → count + mounts_at step ≤ 1 → (frame : List ℕ)
      (g : ℕ) → Adds o count old.kernel frame g → Adds o (count + mounts_at step) new.kernel frame g
  step_adds log new step few frame g adds headed even less =
      let was = adds headed even less in
      let some = was.mounted in record {
        mounted = omega (arith, some);
        opcode = was.opcode;
        knows = step_knows old one empty tells.well log new step (omega (arith, few, some)) was.opcode (head_unique frame) was.knows;
        body = was.body;
        knows_files = step_files old one empty tells.well log new step (omega (arith, few, some)) was.body (head_unique frame)
            was.knows_files;
        few = was.few;
      }

  still_owes : (log : List Transfer) (new : Driven) (step : DriveStep old log new) → count + mounts_at step ≤ 1
      → Owes (Adds o (count + mounts_at step) new.kernel) old.waiting files.owed
  still_owes log new step few = map_owes (Adds o count old.kernel) (Adds o (count + mounts_at step) new.kernel)
      (step_adds log new step few) old.waiting files.owed files.owes

  -- ---- a frame that is written to the kernel

  -- What a call asked, whose reply is awaited.
  module _ (number : ℕ) (wire : WireReply) (result : WriteResult) (q : Opened) (by_it : IsOpenedBy old.kernel number wire result q)
    where
      call_awaited : awaits old.kernel number ≡ reply_to (asked_opcode (asks (asked by_it.state)))
      call_awaited = ap (awaited_by old.kernel) by_it.waits ∙ ap awaited_by_call by_it.there

      call_alike : (body : RequestBody) → AsksAlike body number old.kernel → AskAlike (asks (asked by_it.state)) body
      call_alike body alike =
          let there = waiting_is old.kernel.queues number (purpose.Call by_it.call) by_it.waits in
          alike there.request there.under (waiting_read old.kernel.queues number there.request (purpose.Call by_it.call) there.under
          by_it.waits) (asks (asked by_it.state))
          (ap (body_of old.kernel) there.serves ∙ ap asked_by by_it.there)

  handed_opens : (frame handed : List ℕ) → IsHandedOn frame handed → (result : WriteResult) (l : Kernel)
      → IsReplyTaken old.kernel handed result l → (g : ℕ) → Adds o count old.kernel frame g
      → kernel_sum weight l ≤ kernel_sum weight old.kernel + g
  handed_opens frame handed on result l took g adds = taken_sum old.kernel handed result l took apart weight g (each on)
    where
      each : IsHandedOn frame handed → (p : Opcode) → awaited old.kernel (head_unique handed) ≡ reply_to p → (wire : WireReply)
          → Says p handed wire → (q : Opened) → IsOpenedBy old.kernel (head_unique handed) wire result q → weight q ≤ g
      each (inl (older, same)) p at wire says q by_it =
          let long = raised_long frame handed same in
          absurd (short_opens p handed wire says (raised_short frame handed older same) (λ e. omega (arith, e, long))
          (asked by_it.state) q by_it.gains old.kernel.nodes by_it.used)
      each (inr (other, same)) p at wire says q by_it =
          let bytes_same : head_unique handed ≡ head_unique frame = ap head_unique same in
          let even : head_unique handed % 2 ≡ 0 = even_is by_it.even in
          let awaited_it = call_awaited (head_unique handed) wire result q by_it in
          let found = awaited_low old.kernel one empty within (head_unique handed) (asked_opcode (asks (asked by_it.state))) awaited_it in
          let told = adds (subst HasHeader same (says_headed handed p wire says)) (ap (λ (n : ℕ). n % 2) (sym bytes_same) ∙ even)
          (subst (λ (n : ℕ). n < 2 ^ 62) bytes_same found.0) in
          let opcode : asked_opcode (asks (asked by_it.state)) ≡ told.opcode =
          (told.knows found.1).1 (asked_opcode (asks (asked by_it.state))) (ap (awaits old.kernel) (sym bytes_same) ∙ awaited_it) in
          let same_opcode : p ≡ told.opcode = (told.knows found.1).1 p (ap (awaits old.kernel) (sym bytes_same)
          ∙ sym (ap (λ (b : Bool). cond b (awaited_by_interrupt (queue_waiting old.kernel.queues (head_unique handed - 1)))
          (awaits old.kernel (head_unique handed))) by_it.even) ∙ at) in
          let alike = call_alike (head_unique handed) wire result q by_it told.body
          (subst (λ (n : ℕ). AsksAlike told.body n old.kernel) (sym bytes_same) (told.knows_files found.1).1) in
          told.few (asked by_it.state) wire q opcode (subst (λ (l : List ℕ). Says told.opcode l wire) same
          (subst (λ (x : Opcode). Says x handed wire) same_opcode says))
          (λ node is. sym (ap (λ (x : Operation ℕ Opened). node_opened_by (asks x)) is) ∙ alike.node)
          by_it.gains old.kernel.nodes by_it.used
        where
          even_is : nat_eq (head_unique handed % 2) 1 ≡ false → head_unique handed % 2 ≡ 0
          even_is is = grind (arith, nat_tests, is)

  -- ---- with a transfer

  module _ (ts : List Said) (later : Known) (whole : Session) (leads : Lead k s ts later whole) where
    -- Nothing is owed more.
    goes_files : (log : List Transfer) (new : Driven) (step : DriveStep old log new) → count + mounts_at step ≤ 1
        → new.waiting ≡ old.waiting
        → kernel_sum weight new.kernel + releases_of o (held new.turn) + files.owed ≤ opened whole (open_file o)
        → uses_of o (held new.turn) ≤ opened whole (open_file o) → Files o (count + mounts_at step) new whole
    goes_files log new step few same balance uses = record {
      owed = files.owed;
      owes = subst (λ (l : List (List ℕ)). Owes (Adds o (count + mounts_at step) new.kernel) l files.owed) (sym same)
          (still_owes log new step few);
      balance = balance;
      uses = uses;
    }

    -- A frame is received, and the kernel goes on as it was.
    aside_files : (frame : List ℕ) (new : Driven) (step : DriveStep old (received frame ∷ []) new) → count + mounts_at step ≤ 1
        → new.waiting ≡ old.waiting → new.kernel ≡ old.kernel → held new.turn ≡ held old.turn
        → AreSaid (received frame ∷ []) ts → Files o (count + mounts_at step) new whole
    aside_files frame new step few same kernel turn is =
        let grows = received_grows (open_file o) k s frame ts is later whole leads in
        let was = files.balance in
        let used = files.uses in
        let sums : kernel_sum weight new.kernel ≡ kernel_sum weight old.kernel = ap (kernel_sum weight) kernel in
        let back : releases_of o (held new.turn) ≡ releases_of o (held old.turn) = ap (releases_of o) turn in
        let takes : uses_of o (held new.turn) ≡ uses_of o (held old.turn) = ap (uses_of o) turn in
        goes_files (received frame ∷ []) new step few same (omega (arith, was, grows, sums, back)) (omega (arith, used, grows, takes))

    -- A frame for the kernel is received.
    received_files : (frame : List ℕ) → count + 0 ≤ 1 → AreSaid (received frame ∷ []) ts
        → HaveAgreed Carries k s ts later whole leads → later.unjudged ≡ None → AreAccepted ts
        → AreFree is_of_server s (added k s ts later whole leads) → AreCertain (added k s ts later whole leads)
        → Files o (count + 0) (record old { waiting = old.waiting ++ frame ∷ [] }) whole
    received_files frame few is agreed judged accepted free certain = by ts leads is agreed accepted free certain
      where
        by : (us : List Said) (l : Lead k s us later whole) → AreSaid (received frame ∷ []) us
            → HaveAgreed Carries k s us later whole l → AreAccepted us → AreFree is_of_server s (added k s us later whole l)
            → AreCertain (added k s us later whole l)
            → Files o (count + 0) (record old { waiting = old.waiting ++ frame ∷ [] }) whole
        by (said.Written b t ∷ []) (acts, known, are, end) is agreed accepted free certain =
            let first : k.unjudged ≡ None = judged_before (said.Written b t ∷ []) k s later whole (acts, known, are, end) judged in
            let are_accepted = subst (λ (x : Taken). AreActs k s (said.Written b x) acts known) accepted.0 are in
            let grows = written_opened (open_file o) k s b t acts known are in
            let same : opened whole (open_file o) ≡ opened (s ++ acts) (open_file o) =
            ap (λ (x : Session). opened x (open_file o)) end.1 in
            let was = files.balance in
            let used = files.uses in
            let adds = heard_adds o count old k s tells ties agreed.0 first frame b is.0 acts known are_accepted
            (free_first s acts [] free) (all_first is_certain acts [] certain) in
            record {
              owed = files.owed + opens_in (open_file o) acts;
              owes = map_owes (Adds o count old.kernel) (Adds o (count + 0) old.kernel)
                  (λ f g some headed even less.
                  let x = some headed even less in
                  let m = x.mounted in record {
                    mounted = omega (arith, m);
                    opcode = x.opcode;
                    knows = x.knows;
                    body = x.body;
                    knows_files = x.knows_files;
                    few = x.few;
                  }) (old.waiting ++ frame ∷ []) (files.owed + opens_in (open_file o) acts)
                  (last_owes (Adds o count old.kernel) old.waiting frame files.owed (opens_in (open_file o) acts) files.owes adds);
              balance = omega (arith, was, grows, same);
              uses = omega (arith, used, grows, same);
            }
        by us l is agreed accepted free certain = absurd search

    released_grows : (frame : List ℕ) (log : List Transfer) (coming : ℕ) (left : List (ℕ × Opened)) (turn : Turn)
        → ReleasesBehind frame old.next old.directories log coming left turn → AreSaid log ts
        → HaveAgreed Carries k s ts later whole leads
        → (opened s (open_file o) ≤ opened whole (open_file o)) × (held turn ≡ None)
    released_grows frame log coming left turn (releases head below before after directory is apart bytes own log' went) said agreed =
        let grows = sends_grow kind.File (files_of no_files) o k s bytes
        (handle_of no_files k bytes (own_files bytes old.next below (inr (directory, own))))
        (own_shaped bytes old.next below (inr (directory, own))) log went ts said later whole leads agreed in
        (omega (arith, grows), refl)
    released_grows frame log coming left turn (releases_none unlisted) said agreed =
        let same = none_grows (open_file o) k s ts said later whole leads in (omega (arith, same), refl)

    pub step_on : (log : List Transfer) (new : Driven) (step : DriveStep old log new) → count + mounts_at step ≤ 1
        → AreSaid log ts → HaveAgreed Carries k s ts later whole leads → later.unjudged ≡ None → AreAccepted ts
        → AreFree is_of_server s (added k s ts later whole leads) → AreCertain (added k s ts later whole leads)
        → Files o (count + mounts_at step) new whole
    step_on log new (alone l acts) few is agreed judged accepted free certain =
        let same = none_grows (open_file o) k s ts is later whole leads in
        let sums = (alone_leaves old.kernel l acts apart (once_each old.kernel.queues one)).sums weight in
        let was = files.balance in
        let used = files.uses in
        goes_files log new (alone l acts) few refl (omega (arith, was, same, sums)) (omega (arith, used, same))
    step_on log new (reads idles pick may request picked_one) few is agreed judged accepted free certain =
        let same = none_grows (open_file o) k s ts is later whole leads in
        let sums = picked_sum weight old.kernel (once_each old.kernel.queues one) pick request picked_one in
        let takes = picked_used weight old.kernel (once_each old.kernel.queues one) apart pick request picked_one in
        let all : kernel_sum weight old.kernel ≡ values_sum weight old.kernel.vfs.opens + values_sum weight old.kernel.closing
        + pending_sum weight old.kernel.queues = refl in
        let was = files.balance in
        goes_files log new (reads idles pick may request picked_one) few refl (omega (arith, was, same, sums))
        (omega (arith, was, same, takes, all))
    step_on log new (sends request turn unlisted frame goes log' went) few is agreed judged accepted free certain =
        let grows = sends_grow kind.File (files_of request.body) o k s frame
        (handle_of request.body k frame (request_files frame request goes)) (said_shaped frame request goes.says) log went
        ts is later whole leads agreed in
        let back : releases_of o (held old.turn) ≡ sum_by weight (released_by request.body) = ap (λ (t : Turn). releases_of o (held t)) turn in
        let was = files.balance in
        goes_files log new (sends request turn unlisted frame goes log' went) few refl (omega (arith, was, grows, back)) (omega arith)
    step_on log new (sends_opened request fh turn frame goes handle log' went) few is agreed judged accepted free certain =
        let grows = sends_grow kind.File (files_of request.body) o k s frame
        (handle_of request.body k frame (request_files frame request goes)) (said_shaped frame request goes.says) log went
        ts is later whole leads agreed in
        let back : releases_of o (held old.turn) ≡ sum_by weight (released_by request.body) = ap (λ (t : Turn). releases_of o (held t)) turn in
        let was = files.balance in
        goes_files log new (sends_opened request fh turn frame goes handle log' went) few refl (omega (arith, was, grows, back)) (omega arith)
    step_on log new (opens request turn asks_it below node lists frame own log' went) few is agreed judged accepted free certain =
        let grows = sends_grow kind.File (files_of no_files) o k s frame
        (handle_of no_files k frame (own_files frame old.next below (inl (node, own))))
        (own_shaped frame old.next below (inl (node, own))) log went ts is later whole leads agreed in
        let back : releases_of o (held old.turn) ≡ sum_by weight (released_by request.body) = ap (λ (t : Turn). releases_of o (held t)) turn in
        let takes : uses_of o (held old.turn) ≡ sum_by weight (used_by request.body) = ap (λ (t : Turn). uses_of o (held t)) turn in
        let was = files.balance in
        let used = files.uses in
        goes_files log new (opens request turn asks_it below node lists frame own log' went) few refl
        (omega (arith, was, grows, back)) (omega (arith, used, grows, takes))
    step_on log new (is_given request unique node turn frame fh gives) few is agreed judged accepted free certain =
        aside_files frame new (is_given request unique node turn frame fh gives) few refl refl (sym (ap held turn)) is
    step_on log new (is_not_known request unique node turn frame gives) few is agreed judged accepted free certain =
        aside_files frame new (is_not_known request unique node turn frame gives) few refl refl (sym (ap held turn)) is
    step_on log new (is_refused request unique node turn frame error other gives) few is agreed judged accepted free certain =
        aside_files frame new (is_refused request unique node turn frame error other gives) few refl refl (sym (ap held turn)) is
    step_on log new (is_garbled request unique node turn frame head under gives) few is agreed judged accepted free certain =
        aside_files frame new (is_garbled request unique node turn frame head under gives) few refl refl (sym (ap held turn)) is
    step_on log new (answers request error turn bytes reply result l took) few is agreed judged accepted free certain =
        let same = none_grows (open_file o) k s ts is later whole leads in
        let short = answer_length request.unique error bytes reply in
        let sums = taken_sum old.kernel bytes result l took apart weight 0 (λ p at wire says q by_it.
        absurd (short_opens p bytes wire says (omega (arith, short)) (λ e. omega (arith, e, short)) (asked by_it.state) q by_it.gains
        old.kernel.nodes by_it.used)) in
        let was = files.balance in
        goes_files log new (answers request error turn bytes reply result l took) few refl (omega (arith, was, same, sums)) (omega arith)
    step_on log new (waits frame own_one) few is agreed judged accepted free certain =
        received_files frame few is agreed judged accepted free certain
    step_on log new (sets_aside frame other) few is agreed judged accepted free certain =
        aside_files frame new (sets_aside frame other) few refl refl refl is
    step_on log new (writes idles frame rest there handed on result l took log' coming left turn release) few is agreed judged
        accepted free certain =
        let (g, m, sum, first, others) = subst (λ (f : List (List ℕ)). Owes (Adds o count old.kernel) f files.owed) there files.owes in
        let sums = handed_opens frame handed on result l took g first in
        let grows = released_grows frame log coming left turn release is agreed in
        let some = grows.0 in
        let none : releases_of o (held turn) ≡ 0 = ap (releases_of o) grows.1 in
        let unused : uses_of o (held turn) ≡ 0 = ap (uses_of o) grows.1 in
        let was = files.balance in
        record {
          owed = m;
          owes = map_owes (Adds o count old.kernel) (Adds o (count + 0) l) (step_adds log new
              (writes idles frame rest there handed on result l took log' coming left turn release) few) rest m others;
          balance = omega (arith, was, sums, some, none, sum);
          uses = omega (arith, unused);
        }
    step_on log new (is_released unique turn frame head same) few is agreed judged accepted free certain =
        aside_files frame new (is_released unique turn frame head same) few refl refl (sym (ap held turn)) is
    step_on log new (ends end) few is agreed judged accepted free certain =
        let grows = stopped_grows (open_file o) k s end ts is later whole leads in
        let was = files.balance in
        let used = files.uses in
        goes_files log new (ends end) few refl (omega (arith, was, grows)) (omega (arith, used, grows))
