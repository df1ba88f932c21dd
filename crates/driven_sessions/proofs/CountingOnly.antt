-- A session counts no node oftener than the kernel, where all that goes over the device is the kernel's.
use Rattle.std.proofs.Common.{◌≡◌, inl, inr, ℕ, ◌+◌, ◌-◌, ◌≤◌, ◌<◌, ◌%◌, ◌^◌, Bool, true, false, true≢false, cond, List, [], ◌∷◌, ◌++◌, Option, Some, None, nat_eq, refl, ap, sym, subst, ◌∙◌, arith}
use Rattle.std.specs.Borrow.{Bor}
use Rattle.std.proofs.lemmas.Bool.Decides.{nat_tests}
use Rattle.fk_fields.specs.Fields.{number_at}
use Rattle.fuse_device.specs.Transfers.{Transfer, received, sent}
use Rattle.fuse_spec.specs.declared.Opened.{Opened}
use Rattle.fuse_spec.specs.declared.WriteResult.{WriteResult}
use Rattle.fuse_spec.specs.declared.WriteResult.TheVariants.{Accepted, Invalid, NoEntry}
use Rattle.fuse_spec.specs.Claim.Counts.{times_named}
use Rattle.fuse_spec.specs.Kernel.Kernel.{Kernel, is_live}
use Rattle.fuse_spec.specs.Kernel.Messages.{Request, RequestBody, WireReply, batch_forget, forget}
use Rattle.fuse_spec.specs.Kernel.QueueCalls.{waiting as queue_waiting}
use Rattle.fuse_spec.specs.Server.Server.{forgets_of, forgotten}
use Rattle.fuse_frames.specs.ReplyTies.{said_in}
use Rattle.fuse_frames.specs.RequestTies.{asked_opcode}
use Rattle.fk_wire.specs.declared.opcode.Opcode.{Opcode}
use Rattle.fk_wire.specs.Opcodes.{code_of as codec_code}
use Rattle.fk_kernel.specs.AwaitedReplies.{Awaited, Says, awaited, awaited_by, awaited_by_interrupt, head_unique, nothing, reply_to}
use Rattle.fk_drive_frames.specs.Agreements.{IsHandedOn, IsOlderAgreement}
use Rattle.fk_drive.specs.Driving.{Driven, DriveStep, IsSentFrame, ReleasesBehind, SendsFrame, Turn, alone, at_end, reads, releases, releases_none, sends, waits, with_result, writes}
use Rattle.fk_drive.specs.KernelSteps.{ActsAlone, IsReplyTaken, aborts, mounts}
use Rattle.fk_drive.proofs.SentFrames.{said_opcode}
use Rattle.fk_drive_theorem.specs.TakenOnce.{mounts_alone, mounts_at}
use Rattle.fk_drive_theorem.specs.Tallies.{Tally, no_lookups, tally_alone, tally_at, tally_written, times_said, where_accepted}
use Rattle.fk_drive_theorem.proofs.OneEach.{OneEach}
use Rattle.fk_drive_theorem.proofs.RunsTally.{accepted_says, said_is}
use Rattle.fk_drive_theorem.proofs.Stable.{at_most}
use Rattle.fk_drive_theorem.proofs.WrittenCounted.{EmptyUnlessLive}
use Rattle.fuse_protocol.specs.declared.opcode.Opcode.{Opcode as TableOpcode}
use Rattle.fuse_protocol.specs.declared.opcode.Opcode.TheVariants as op
use Rattle.fuse_protocol.specs.Requests.{RequestMessage}
use Rattle.fuse_protocol.proofs.Codes.{same_opcode}
use Rattle.protocol_law.specs.Law.{Carries}
use Rattle.fuse_sessions.specs.declared.act.Act.{Act}
use Rattle.fuse_sessions.specs.declared.act.Asked.{Asked}
use Rattle.fuse_sessions.specs.declared.act.Taken.{Taken}
use Rattle.fuse_sessions.specs.declared.act.Taken.TheVariants as taken
use Rattle.fuse_sessions.specs.declared.known.Known.{Known}
use Rattle.fuse_sessions.specs.declared.transfer.Transfer.{Transfer as Said}
use Rattle.fuse_sessions.specs.declared.transfer.Transfer.TheVariants as said
use Rattle.fuse_sessions.specs.Counts.{most_count}
use Rattle.fuse_sessions.specs.Frames.{AreActs, AreRequestActs, IsRequestOf, IsWritten, Lead, number_in}
use Rattle.fuse_sessions.specs.RequestActs.{request_acts}
use Rattle.fuse_sessions.specs.Sessions.{Session}
use Rattle.fuse_sessions.specs.UnreadRequests.{opcode_in}
use Rattle.fuse_sessions.specs.Waiting.{waits as waits_in}
use Rattle.driven_sessions.specs.Counted.{HasNoneBehind, IsPlainStep, IsSent}
use Rattle.driven_sessions.specs.Driven.{HaveAgreed}
use Rattle.driven_sessions.specs.Taken.{AreRefusedToo, AreTaken, HasHeader, IsRefusedToo, IsTaken, Outcome, all_aside, aside, first_written, outcomes_after, waiting, written}
use Rattle.driven_sessions.specs.Transfers.{AreSaid}
use Rattle.driven_sessions.proofs.Asking.{awaits}
use Rattle.driven_sessions.proofs.Asks.{AllAsk, AsksOpcode, map_ask, request_asks, waits_ask}
use Rattle.driven_sessions.proofs.Counting.{awaited_low, held_back, none_grows, request_forgets}
use Rattle.driven_sessions.proofs.Frames.{frame_interrupt, is_interrupt}
use Rattle.driven_sessions.proofs.Gives.{gives}
use Rattle.driven_sessions.proofs.GivesOnly.{reply_gives_only, request_gives_nothing, written_gives_nothing}
use Rattle.driven_sessions.proofs.Heard.{judged_before, waited_reply}
use Rattle.driven_sessions.proofs.InitReplies.{says_headed}
use Rattle.driven_sessions.proofs.Outcomes.{GoOn, left_of}
use Rattle.driven_sessions.proofs.Owing.{Owes, aside_owes, first_owes, last_owes, map_owes}
use Rattle.driven_sessions.proofs.Replying.{Knows, by_live, step_knows}
use Rattle.driven_sessions.proofs.Shapes.{said_shaped}
use Rattle.driven_sessions.proofs.Spent.{Keeps, held}
use Rattle.driven_sessions.proofs.Steps.{alone_dead, taken_dead}
use Rattle.driven_sessions.proofs.Takes.{count_down, count_up, many_takes, one_takes, takes}
use Rattle.driven_sessions.proofs.Telling.{FrameAsks, IsOwnNumber, Tells, Tied, asks_grow, interrupt_asks}
use Rattle.driven_sessions.proofs.Unagreed.{judged_acts}

-- ---- a request that is sent

module _ (id : ℕ) where
  -- It takes what it says off the count.
  sent_down : (k : Known) (s : Session) (frame : List ℕ) (r : Request) → IsSentFrame frame r → Carries k.agreed → (acts : List Act)
      → AreRequestActs k frame acts → most_count (s ++ acts) id ≤ most_count s id - forgotten id (forgets_of r.body)
  sent_down k s frame r goes carries acts does = by does
    where
      said_code : (body : RequestBody) → r.body ≡ body → opcode_in frame ≡ codec_code (asked_opcode body)
      said_code body same = goes.says.spells.3.1.0
          ∙ said_opcode goes.says.message.nodeid goes.says.message.content r.body goes.says.says
          ∙ ap (λ (b : RequestBody). codec_code (asked_opcode b)) same

      taken_off : (o : TableOpcode) (m : RequestMessage) → IsRequestOf k.agreed frame (o, m) → acts ≡ request_acts k.has_resent o m
          → (body : RequestBody) → r.body ≡ body → forgotten id (forgets_of r.body) ≤ takes id acts
      taken_off o m is same (forget f) of =
          let one : o ≡ op.Forget = same_opcode o op.Forget (sym is.opcode ∙ said_code (forget f) of) in
          let row = subst (λ (q : TableOpcode). IsRequestOf k.agreed frame (q, m)) one is in
          let told = one_takes id (forgotten id (forgets_of r.body)) k.agreed frame (request_forgets id frame r goes.says) m row in
          let all = ap (takes id) (same ∙ ap (λ (q : TableOpcode). request_acts k.has_resent q m) one) in
          omega (arith, told, all)
      taken_off o m is same (batch_forget fs) of =
          let one : o ≡ op.BatchForget = same_opcode o op.BatchForget (sym is.opcode ∙ said_code (batch_forget fs) of) in
          let row = subst (λ (q : TableOpcode). IsRequestOf k.agreed frame (q, m)) one is in
          let told = many_takes id (forgotten id (forgets_of r.body)) k.agreed frame (request_forgets id frame r goes.says) m row in
          let all = ap (takes id) (same ∙ ap (λ (q : TableOpcode). request_acts k.has_resent q m) one) in
          omega (arith, told, all)
      taken_off o m is same body of =
          let none : forgotten id (forgets_of r.body) ≡ 0 = ap (λ (b : RequestBody). forgotten id (forgets_of b)) of in
          omega (arith, none)

      by : AreRequestActs k frame acts → most_count (s ++ acts) id ≤ most_count s id - forgotten id (forgets_of r.body)
      by (inl ((o, m), is, same)) =
          let down = count_down id s acts (ap (gives id) same ∙ request_gives_nothing id k.has_resent o m) in
          let off = taken_off o m is same r.body refl in
          omega (arith, down, off)
      by (inr (none, same)) =
          let one = said_shaped frame r goes.says k.agreed carries in absurd (none (one.0, one.1) one.2)

  pub sends_down : (k : Known) (s : Session) (frame : List ℕ) (r : Request) → IsSentFrame frame r → (result : WriteResult) (ts : List Said)
      → AreSaid (sent frame result ∷ []) ts → (later : Known) (whole : Session) (leads : Lead k s ts later whole)
      → HaveAgreed Carries k s ts later whole leads → later.unjudged ≡ None
      → most_count whole id ≤ most_count s id - forgotten id (forgets_of r.body)
  sends_down k s frame r goes result (said.Request b ∷ []) is later whole (acts, known, are, leads) agreed judged =
      let first : k.unjudged ≡ None = judged_before (said.Request b ∷ []) k s later whole (acts, known, are, leads) judged in
      let does = judged_acts k s (said.Request b) acts known first are in
      let down = sent_down k s frame r goes agreed.0 acts (subst (λ (l : List ℕ). AreRequestActs k l acts) is.0 does.0) in
      let same : most_count whole id ≡ most_count (s ++ acts) id = ap (λ (x : Session). most_count x id) leads.1 in
      omega (arith, down, same)
  sends_down k s frame r goes result ts is later whole leads agreed judged = absurd search

-- ---- what is asked

-- Each request of a session has a number of the kernel's.
abbrev pub IsKernels : ℕ → Asked → Type 0
IsKernels u a = (u % 2 ≡ 0) × (u < 2 ^ 62)

pub request_kernels : (count : ℕ) (old : Driven) (s : Session) (keeps : Keeps count old s) (frame : List ℕ) (r : Request)
    → held old.turn ≡ Some r → IsSentFrame frame r → FrameAsks IsKernels frame
request_kernels count old s keeps frame r holds goes = by (is_interrupt r.body) refl
  where
    by : (b : Bool) → is_interrupt r.body ≡ b → FrameAsks IsKernels frame
    by true is = interrupt_asks IsKernels frame (said_shaped frame r goes.says) (code (frame_interrupt frame r goes.says ∙ is))
      where
        code : nat_eq (opcode_in frame) 36 ≡ true → opcode_in frame ≡ 36
        code e = grind (arith, nat_tests, e)
    by false is = λ k acts carries does.
        let number = (keeps.holds r holds).request is in
        map_ask (AsksOpcode r) IsKernels (λ u a asks. (
          ap (λ (n : ℕ). n % 2) asks.0 ∙ number.even,
          let low = number.low in let same = asks.0 in omega (arith, low, same),
        )) acts (request_asks k frame acts r goes.says (said_shaped frame r goes.says) carries does)

-- ---- what a frame that waits gives

-- So often it gives the node: never where it is not accepted, or is a reply to an INTERRUPT, and else no oftener than the codec
-- reads in it.
pub record Given (id count : ℕ) (kernel : Kernel) (frame : List ℕ) (o : Outcome) (g : ℕ) : Type 0 where
  pub young : IsOlderAgreement frame → ⊥
  pub refused : (o ≡ written Accepted → ⊥) → g ≡ 0
  pub odd : head_unique frame % 2 ≡ 1 → g ≡ 0
  pub even : o ≡ written Accepted → HasHeader frame → head_unique frame % 2 ≡ 0
      → (1 ≤ count) × (p : Opcode) × Knows p (head_unique frame) kernel
      × ((wire : WireReply) → Says p frame wire → g ≤ times_named id wire)

refuses : (t : Taken) (o : Outcome) → IsRefusedToo t o → (o ≡ written Accepted → ⊥) → t ≡ taken.Accepted → ⊥
refuses t (written Accepted) r none = absurd (none refl)
refuses t (written NoEntry) r none = r
refuses t (written Invalid) r none = r
refuses t aside r none = r
refuses t waiting r none = r

module _ (id : ℕ) (low : 2 ≤ id) (count : ℕ) (old : Driven) (k : Known) (s : Session) (tells : Tells count old s)
    (kernels : AllAsk IsKernels s) (carries : Carries k.agreed) (judged : k.unjudged ≡ None) where
  pub heard_given : (frame : List ℕ) (b : Bor (List ℕ)) → b.now ≡ frame → (IsOlderAgreement frame → ⊥) → (t : Taken) (acts : List Act)
      (later : Known) → AreActs k s (said.Written b t) acts later → (o : Outcome) → IsTaken k s b.now t o → IsRefusedToo t o
      → Given id count old.kernel frame o (gives id acts)
  heard_given frame b same young t acts later are o is r = record {
    young = young;
    refused = λ none. written_gives_nothing id k b.now t acts later s (inr (refuses t o r none)) does;
    odd = λ odd. written_gives_nothing id k b.now t acts later s
        (inl (ap (waits_in s) number ∙ unasked (waits_in s (head_unique frame)) refl odd)) does;
    even = λ accepted headed even. heard accepted headed even (waits_in s (head_unique frame)) refl;
  }
    where
      does : IsWritten k s b.now t acts later
      does = judged_acts k s (said.Written b t) acts later judged are

      number : number_in b.now ≡ head_unique frame
      number = ap (number_at 8 8) same

      unasked : (x : Option Asked) → waits_in s (head_unique frame) ≡ x → head_unique frame % 2 ≡ 1 → x ≡ None
      unasked None there odd = refl
      unasked (Some a) there odd =
          let even = (waits_ask IsKernels s kernels (head_unique frame) a there).0 in absurd (omega (arith, odd, even))

      heard : o ≡ written Accepted → HasHeader frame → head_unique frame % 2 ≡ 0 → (x : Option Asked)
          → waits_in s (head_unique frame) ≡ x → (1 ≤ count) × (p : Opcode) × Knows p (head_unique frame) old.kernel
          × ((wire : WireReply) → Says p frame wire → gives id acts ≤ times_named id wire)
      heard accepted headed even None there =
          let so : IsTaken k s b.now t (written Accepted) = subst (IsTaken k s b.now t) accepted is in
          let told = so judged (subst HasHeader (sym same) headed) (ap (λ (n : ℕ). n % 2) number ∙ even) in
          absurd (told.1 (ap (waits_in s) number ∙ there))
      heard accepted headed even (Some a) there =
          let so : IsTaken k s b.now t (written Accepted) = subst (IsTaken k s b.now t) accepted is in
          let told = so judged (subst HasHeader (sym same) headed) (ap (λ (n : ℕ). n % 2) number ∙ even) in
          let less = (waits_ask IsKernels s kernels (head_unique frame) a there).1 in
          let tied = waits_ask (Tied old.kernel) s tells.asks (head_unique frame) a there less in (
            mounted count refl less,
            tied.1,
            tied.3,
            λ wire says.
                let says_so = subst (λ (l : List ℕ). Says tied.1 l wire) (sym same) says in
                reply_gives_only id low k carries b.now tied.1 a acts later
                (waited_reply id low k carries b.now (head_unique frame) number tied.0 acts later tied.1 s a there tied.2
                (subst (λ (x : Taken). IsWritten k s b.now x acts later) told.0 does) wire says_so) wire says_so,
          )
        where
          mounted : (n : ℕ) → count ≡ n → head_unique frame < 2 ^ 62 → 1 ≤ n
          mounted n is less = from (nat_eq n 0) refl
            where
              from : (b : Bool) → nat_eq n 0 ≡ b → 1 ≤ n
              from true e =
                  let zero : count ≡ 0 = grind (arith, nat_tests, e, is) in
                  let high = waits_ask IsOwnNumber s (tells.before zero) (head_unique frame) a there in
                  absurd (omega (arith, high, less))
              from false e = grind (arith, nat_tests, e)

  -- Before the first mount nothing is given.
  pub unmounted_given : count ≡ 0 → (b : Bor (List ℕ)) (t : Taken) (acts : List Act) (later : Known)
      → AreActs k s (said.Written b t) acts later → gives id acts ≡ 0
  unmounted_given zero b t acts later are = written_gives_nothing id k b.now t acts later s
      (inl (none (waits_in s (number_in b.now)) refl)) (judged_acts k s (said.Written b t) acts later judged are)
    where
      none : (x : Option Asked) → waits_in s (number_in b.now) ≡ x → x ≡ None
      none None there = refl
      none (Some a) there =
          let less = (waits_ask IsKernels s kernels (number_in b.now) a there).1 in
          let high = waits_ask IsOwnNumber s (tells.before zero) (number_in b.now) a there in
          absurd (omega (arith, less, high))

-- ---- what is kept

-- No more is counted in the session than what was gathered, what is held and what frames that wait will add.
pub record Most (id count : ℕ) (t : Tally) (all now : List Outcome) (d : Driven) (s : Session) : Type 0 where
  pub owed : ℕ
  pub owes : Owes (Given id count d.kernel) d.waiting now all owed
  pub bound : is_live d.kernel.phase ≡ true → most_count s id + t.forgotten ≤ t.gathered + held_back id d.turn + owed
  pub before : count ≡ 0 → most_count s id ≡ 0
  pub kernels : AllAsk IsKernels s

module _ (id : ℕ) (low : 2 ≤ id) (count : ℕ) (t : Tally) (all now : List Outcome) (old : Driven) (k : Known) (s : Session)
    (most : Most id count t all now old s) (tells : Tells count old s) (keeps : Keeps count old s) (one : OneEach old.kernel.queues)
    (empty : EmptyUnlessLive old.kernel) (within : old.kernel.queues.next ≤ 2 ^ 62) (never : t.forgotten ≤ t.gathered) where
  step_given : (log : List Transfer) (new : Driven) (step : DriveStep old log new) → count + mounts_at step ≤ 1 → (frame : List ℕ)
      (o : Outcome) (g : ℕ) → Given id count old.kernel frame o g → Given id (count + mounts_at step) new.kernel frame o g
  step_given log new step few frame o g given = record {
    young = given.young;
    refused = given.refused;
    odd = given.odd;
    even = λ accepted headed even.
        let was = given.even accepted headed even in
        let some = was.0 in (
          omega (arith, some),
          was.1,
          step_knows old one empty tells.well log new step (omega (arith, few, some)) was.1 (head_unique frame) was.2,
          was.3,
        );
  }

  still_owes : (log : List Transfer) (new : Driven) (step : DriveStep old log new) → count + mounts_at step ≤ 1
      → GoOn (now ++ all_aside log) all
      → Owes (Given id (count + mounts_at step) new.kernel) old.waiting (now ++ all_aside log) all most.owed
  still_owes log new step few goes = map_owes (Given id count old.kernel) (Given id (count + mounts_at step) new.kernel)
      (step_given log new step few) old.waiting (now ++ all_aside log) all most.owed
      (aside_owes (Given id count old.kernel) old.waiting log now all most.owed most.owes goes)

  -- ---- a frame that is written to the kernel

  not_accepted : (result : WriteResult) → (result ≡ Accepted → ⊥) → written result ≡ written Accepted → ⊥
  not_accepted Accepted none same = absurd (none refl)
  not_accepted NoEntry none same = cc same
  not_accepted Invalid none same = cc same

  handed_only : (frame handed : List ℕ) → IsHandedOn frame handed → (result : WriteResult) (l : Kernel)
      → IsReplyTaken old.kernel handed result l → (g : ℕ) → Given id count old.kernel frame (written result) g
      → g ≤ where_accepted result (times_said id handed (awaited old.kernel (head_unique handed)))
  handed_only frame handed on NoEntry l took g given =
      let none = given.refused (not_accepted NoEntry (λ e. cc e)) in omega (arith, none)
  handed_only frame handed on Invalid l took g given =
      let none = given.refused (not_accepted Invalid (λ e. cc e)) in omega (arith, none)
  handed_only frame handed (inl (older, same)) Accepted l took g given = absurd (given.young older)
  handed_only frame handed (inr (other, same)) Accepted l took g given = by (awaited old.kernel (head_unique handed)) refl
    where
      bytes_same : head_unique handed ≡ head_unique frame
      bytes_same = ap head_unique same

      each : (p : Opcode) → awaited old.kernel (head_unique handed) ≡ reply_to p → (wire : WireReply) → Says p handed wire
          → g ≤ times_named id wire
      each p at wire says = parts (nat_eq (head_unique handed % 2) 1) refl at
        where
          even : head_unique handed % 2 ≡ 0 → awaits old.kernel (head_unique handed) ≡ reply_to p → g ≤ times_named id wire
          even is at =
              let told = given.even refl (subst HasHeader same (says_headed handed p wire says)) (ap (λ (n : ℕ). n % 2) (sym bytes_same) ∙ is) in
              let live = (awaited_low old.kernel one empty within (head_unique handed) p at).1 in
              let opcode : p ≡ told.1 = (told.2 live).1 p (ap (awaits old.kernel) (sym bytes_same) ∙ at) in
              told.3 wire (subst (λ (b : List ℕ). Says told.1 b wire) same (subst (λ (q : Opcode). Says q handed wire) opcode says))

          parts : (b : Bool) → nat_eq (head_unique handed % 2) 1 ≡ b
              → cond b (awaited_by_interrupt (queue_waiting old.kernel.queues (head_unique handed - 1)))
              (awaited_by old.kernel (queue_waiting old.kernel.queues (head_unique handed))) ≡ reply_to p
              → g ≤ times_named id wire
          parts true is at =
              let none = given.odd (ap (λ (n : ℕ). n % 2) (sym bytes_same) ∙ odd is) in omega (arith, none)
            where
              odd : nat_eq (head_unique handed % 2) 1 ≡ true → head_unique handed % 2 ≡ 1
              odd e = grind (arith, nat_tests, e)
          parts false is at = even (grind (arith, nat_tests, is)) at

      by : (a : Awaited) → awaited old.kernel (head_unique handed) ≡ a → g ≤ times_said id handed a
      by nothing is = absurd (cc (took.headless (λ head. absurd (cc (took.unawaited head is).0))).0)
      by (reply_to p) is = at_most g (times_named id (said_in p handed)) (λ no. accepted_says old.kernel handed l took p is
          (λ wire says. no (subst (λ (w : WireReply). g ≤ times_named id w) (sym (said_is p handed wire says)) (each p is wire says))))

  -- Bytes are taken as a reply, which does not end the mount.
  written_bound : (b : Bool) → b ≡ true → (x back owed m : ℕ) → m + t.forgotten ≤ t.gathered + x + back + owed
      → m + (cond b (record t { gathered = t.gathered + x }) no_lookups).forgotten
      ≤ (cond b (record t { gathered = t.gathered + x }) no_lookups).gathered + back + owed
  written_bound true live x back owed m le = le
  written_bound false live x back owed m le = absurd (true≢false (sym live))

  -- ---- with a transfer

  module _ (ts : List Said) (later : Known) (whole : Session) (leads : Lead k s ts later whole)
      (agreed : HaveAgreed Carries k s ts later whole leads) where
    alone_most : (l : Kernel) (acts : ActsAlone old.kernel l) → count + mounts_alone acts ≤ 1 → GoOn (now ++ []) all → AreSaid [] ts
        → Most id (count + mounts_alone acts) (tally_alone acts t) all (now ++ []) (record old { kernel = l }) whole
    alone_most l (mounts may) few goes is =
        let same = none_grows id k s ts is later whole leads in
        let zero = most.before (omega (arith, few)) in record {
          owed = most.owed;
          owes = still_owes [] (record old { kernel = l }) (alone l (mounts may)) few goes;
          bound = λ live. omega (arith, zero, same);
          before = λ none. absurd (omega (arith, none));
          kernels = asks_grow IsKernels [] tt ts is k s later whole leads agreed most.kernels;
        }
    alone_most l (aborts may) few goes is =
        let same = none_grows id k s ts is later whole leads in record {
          owed = most.owed;
          owes = still_owes [] (record old { kernel = l }) (alone l (aborts may)) few goes;
          bound = λ live. absurd (true≢false (sym live));
          before = λ none. same ∙ most.before (omega (arith, none));
          kernels = asks_grow IsKernels [] tt ts is k s later whole leads agreed most.kernels;
        }
    alone_most l acts few goes is =
        let same = none_grows id k s ts is later whole leads in record {
          owed = most.owed;
          owes = still_owes [] (record old { kernel = l }) (alone l acts) few goes;
          bound = λ live. by_live old.kernel (λ alive. let was = most.bound alive in omega (arith, was, same))
              (λ dead. absurd (true≢false (sym live ∙ alone_dead old.kernel l acts refl dead)));
          before = λ none. same ∙ most.before (omega (arith, none));
          kernels = asks_grow IsKernels [] tt ts is k s later whole leads agreed most.kernels;
        }

    sends_most : (request : Request) → held old.turn ≡ Some request → held_back id old.turn ≡ forgotten id (forgets_of request.body)
        → (frame : List ℕ) → IsSentFrame frame request → (log : List Transfer) (went : SendsFrame frame log) → IsSent went
        → AreSaid log ts → later.unjudged ≡ None
        → ((is_live old.kernel.phase ≡ true → most_count whole id + t.forgotten ≤ t.gathered + most.owed)
        × (count ≡ 0 → most_count whole id ≡ 0)) × AllAsk IsKernels whole
    sends_most request holds back frame goes log (with_result result) plain is judged =
        let down = sends_down id k s frame request goes result ts is later whole leads agreed judged in (
          (
            λ live. let was = most.bound live in omega (arith, was, down, back, never),
            λ none. let zero = most.before none in omega (arith, zero, down),
          ),
          asks_grow IsKernels log (request_kernels count old s keeps frame request holds goes, tt) ts is k s later whole leads agreed
              most.kernels,
        )
    sends_most request holds back frame goes log (at_end end) plain is judged = absurd plain

    received_most : (frame : List ℕ) → (IsOlderAgreement frame → ⊥) → count + 0 ≤ 1 → GoOn (now ++ waiting ∷ []) all
        → AreSaid (received frame ∷ []) ts → AreTaken k s ts later whole leads (left_of now all) → AreRefusedToo ts (left_of now all)
        → later.unjudged ≡ None
        → Most id (count + 0) t all (now ++ waiting ∷ []) (record old { waiting = old.waiting ++ frame ∷ [] }) whole
    received_most frame young few goes is taken refused judged = by ts leads agreed is taken refused
      where
        same_given : (f : List ℕ) (o : Outcome) (g : ℕ) → Given id count old.kernel f o g → Given id (count + 0) old.kernel f o g
        same_given f o g given = record {
          young = given.young;
          refused = given.refused;
          odd = given.odd;
          even = λ accepted headed even.
              let was = given.even accepted headed even in let some = was.0 in (omega (arith, some), was.1, was.2, was.3);
        }

        by : (us : List Said) (leads : Lead k s us later whole) → HaveAgreed Carries k s us later whole leads
            → AreSaid (received frame ∷ []) us → AreTaken k s us later whole leads (left_of now all) → AreRefusedToo us (left_of now all)
            → Most id (count + 0) t all (now ++ waiting ∷ []) (record old { waiting = old.waiting ++ frame ∷ [] }) whole
        by (said.Written b u ∷ []) (acts, known, are, leads) agreed is taken refused =
            let first : k.unjudged ≡ None =
            judged_before (said.Written b u ∷ []) k s later whole (acts, known, are, leads) judged in
            let up = count_up id s acts in
            let same : most_count whole id ≡ most_count (s ++ acts) id = ap (λ (x : Session). most_count x id) leads.1 in
            record {
              owed = most.owed + gives id acts;
              owes = map_owes (Given id count old.kernel) (Given id (count + 0) old.kernel) same_given
                  (old.waiting ++ frame ∷ []) (now ++ waiting ∷ []) all (most.owed + gives id acts)
                  (last_owes (Given id count old.kernel) old.waiting frame now all most.owed (gives id acts) most.owes goes
                  (λ o more at. heard_given id low count old k s tells most.kernels agreed.0 first frame b is.0 young u acts known are o
                  (taken_first (left_of now all) o more at taken) (refused_first (left_of now all) o more at refused)));
              bound = λ live. let was = most.bound live in omega (arith, was, up, same);
              before = λ none.
                  let zero = most.before (omega (arith, none)) in
                  let nothing_given = unmounted_given id low count old k s tells most.kernels agreed.0 first (omega (arith, none)) b u acts
                  known are in
                  omega (arith, zero, nothing_given, up, same);
              kernels = asks_grow IsKernels (received frame ∷ []) tt (said.Written b u ∷ []) is k s later whole (acts, known, are, leads)
                  agreed most.kernels;
            }
          where
            taken_first : (os : List Outcome) (o : Outcome) (more : List Outcome) → os ≡ o ∷ more
                → AreTaken k s (said.Written b u ∷ []) later whole (acts, known, are, leads) os → IsTaken k s b.now u o
            taken_first os o more same taken =
                (subst (AreTaken k s (said.Written b u ∷ []) later whole (acts, known, are, leads)) same taken).0

            refused_first : (os : List Outcome) (o : Outcome) (more : List Outcome) → os ≡ o ∷ more
                → AreRefusedToo (said.Written b u ∷ []) os → IsRefusedToo u o
            refused_first os o more same refused = (subst (AreRefusedToo (said.Written b u ∷ [])) same refused).0
        by us leads agreed is taken refused = absurd search

    pub step_most : (log : List Transfer) (new : Driven) (step : DriveStep old log new) → IsPlainStep step → count + mounts_at step ≤ 1
        → GoOn (outcomes_after step now) all → AreSaid log ts → AreTaken k s ts later whole leads (left_of now all)
        → AreRefusedToo ts (left_of now all) → later.unjudged ≡ None
        → Most id (count + mounts_at step) (tally_at id step t) all (outcomes_after step now) new whole
    step_most log new (alone l acts) plain few goes is taken refused judged = alone_most l acts few goes is
    step_most log new (reads idles pick may request picked_one) plain few goes is taken refused judged =
        let same = none_grows id k s ts is later whole leads in
        let none : held_back id old.turn ≡ 0 = ap (held_back id) idles in record {
          owed = most.owed;
          owes = still_owes [] new (reads idles pick may request picked_one) few goes;
          bound = λ live. let was = most.bound live in omega (arith, was, same, none);
          before = λ zero. same ∙ most.before (omega (arith, zero));
          kernels = asks_grow IsKernels [] tt ts is k s later whole leads agreed most.kernels;
        }
    step_most log new (sends request turn unlisted frame goes_over log' went) plain few goes is taken refused judged =
        let sends_so = sends_most request (ap held turn) (ap (held_back id) turn) frame goes_over log went plain is judged in record {
          owed = most.owed;
          owes = still_owes log new (sends request turn unlisted frame goes_over log' went) few goes;
          bound = λ live. let so = sends_so.0.0 live in omega (arith, so);
          before = λ zero. sends_so.0.1 (omega (arith, zero));
          kernels = sends_so.1;
        }
    step_most log new (waits frame own_one) plain few goes is taken refused judged =
        received_most frame plain few goes is taken refused judged
    step_most log new (writes idles frame rest there handed on result l took log' coming left turn behind) plain few goes is taken refused
        judged = by log' coming left turn behind plain is goes
      where
        none : held_back id old.turn ≡ 0
        none = ap (held_back id) idles

        by : (log : List Transfer) (coming : ℕ) (left : List (ℕ × Opened)) (turn : Turn)
            (behind : ReleasesBehind frame old.next old.directories log coming left turn) → HasNoneBehind behind → AreSaid log ts
            → GoOn (first_written result now) all
            → Most id (count + 0) (tally_written id old.kernel handed result l t) all (first_written result now) (record old {
              kernel = l;
              waiting = rest;
              next = coming;
              directories = left;
              turn = turn;
            }) whole
        by log coming left turn (releases_none unlisted) plain is goes =
            let first = first_owes (Given id count old.kernel) frame rest result now all most.owed
            (subst (λ (f : List (List ℕ)). Owes (Given id count old.kernel) f now all most.owed) there most.owes) goes in
            let only = handed_only frame handed on result l took first.adds first.such in
            let same = none_grows id k s ts is later whole leads in
            let sum = first.sum in
            let step : DriveStep old log (record old {
              kernel = l;
              waiting = rest;
              next = coming;
              directories = left;
              turn = turn;
            }) = writes idles frame rest there handed on result l took log coming left turn (releases_none unlisted) in record {
              owed = first.left;
              owes = map_owes (Given id count old.kernel) (Given id (count + 0) l) (step_given log _ step few) rest
                  (first_written result now) all first.left first.owes;
              bound = λ live. by_live old.kernel (λ alive.
                  let was = most.bound alive in
                  written_bound (is_live l.phase) live (where_accepted result (times_said id handed (awaited old.kernel (head_unique handed))))
                  0 first.left (most_count whole id) (omega (arith, was, only, same, none, sum)))
                  (λ dead. absurd (true≢false (sym live ∙ taken_dead old.kernel handed result l took empty dead)));
              before = λ zero. same ∙ most.before (omega (arith, zero));
              kernels = asks_grow IsKernels [] tt ts is k s later whole leads agreed most.kernels;
            }
        by log coming left turn (releases head before_next before after directory apart_one distinct bytes own log' went) plain is goes = absurd plain
    step_most log new step plain few goes is taken refused judged = absurd plain
