-- An accepted frame of a server, in a session in which its request waits, gives what the codec reads in it.
use Rattle.std.proofs.Common.{◌≡◌, inl, inr, ℕ, ◌≤◌, ◌<◌, ◌%◌, ◌^◌, ◌==◌, Bool, true, false, List, [], ◌∷◌, ◌++◌, length, Option, Some, None, nat_eq, refl, ap, sym, subst, ◌∙◌, arith}
use Rattle.std.specs.Prelude.{◌≢◌, MatchBool, MatchOption}
use Rattle.std.specs.Borrow.{Bor}
use Rattle.std.proofs.lemmas.Bool.{false≢true}
use Rattle.std.proofs.lemmas.Bool.Decides.{nat_tests}
use Rattle.fk_fields.specs.Fields.{number_at}
use Rattle.fk_wire.specs.declared.opcode.Opcode.{Opcode as CodecOpcode}
use Rattle.fk_wire.specs.Opcodes.{latest_minor}
use Rattle.fuse_spec.specs.Claim.Counts.{times_named}
use Rattle.fuse_spec.specs.Kernel.Kernel.{Kernel}
use Rattle.fuse_spec.specs.Kernel.Messages.{WireReply}
use Rattle.fuse_spec.specs.declared.WriteResult.TheVariants.{Accepted}
use Rattle.fk_kernel.specs.AwaitedReplies.{Says, head_unique}
use Rattle.fuse_protocol.specs.declared.agreed.Unjudged.{Unjudged}
use Rattle.fuse_protocol.specs.declared.opcode.Opcode.{Opcode}
use Rattle.protocol_law.specs.Law.{Carries}
use Rattle.protocol_law.specs.ReplyLaw.{table_opcode}
use Rattle.protocol_law.proofs.RepliedAlike.{replied_alike}
use Rattle.fuse_sessions.specs.declared.act.Act.{Act}
use Rattle.fuse_sessions.specs.declared.act.Asked.{Asked}
use Rattle.fuse_sessions.specs.declared.act.Taken.{Taken}
use Rattle.fuse_sessions.specs.declared.act.Taken.TheVariants as taken
use Rattle.fuse_sessions.specs.declared.known.Known.{Known}
use Rattle.fuse_sessions.specs.declared.transfer.Transfer.{Transfer as Said}
use Rattle.fuse_sessions.specs.declared.transfer.Transfer.TheVariants as said
use Rattle.fuse_sessions.specs.Frames.{AreActs, AreReadActs, IsHeaded, IsNotified, IsReplyBy, IsReplyOf, IsReplyTo, IsWritten, Lead, interrupt_acts, is_to_interrupt, number_in}
use Rattle.fuse_sessions.specs.Sessions.{Session}
use Rattle.fuse_sessions.specs.Waiting.{waits}
use Rattle.driven_sessions.specs.Taken.{HasHeader, IsTaken, Outcome, written}
use Rattle.driven_sessions.proofs.Asks.{waits_ask}
use Rattle.driven_sessions.proofs.Gives.{gives, reply_gives}
use Rattle.driven_sessions.proofs.Replying.{Knows}
use Rattle.driven_sessions.proofs.Telling.{IsOwnNumber, Tells, Tied}
use Rattle.driven_sessions.proofs.Unagreed.{judged_acts}
use Rattle.fk_drive.specs.Driving.{Driven}

-- What is judged in the end was judged before.
pub judged_before : (ts : List Said) (k : Known) (s : Session) (later : Known) (all : Session) → Lead k s ts later all
    → later.unjudged ≡ None → k.unjudged ≡ None
judged_before [] k s later all leads none = ap (λ (x : Known). x.unjudged) (sym leads.0) ∙ none
judged_before (t ∷ ts) k s later all (acts, known, are, leads) none =
    by k.unjudged refl are (judged_before ts known (s ++ acts) later all leads none)
  where
    by : (o : Option Unjudged) → k.unjudged ≡ o
        → MatchOption o (AreReadActs k s t acts known) (λ why. (acts ≡ []) × (known ≡ k)) → known.unjudged ≡ None
        → k.unjudged ≡ None
    by None is are after = is
    by (Some why) is are after = ap (λ (x : Known). x.unjudged) (sym are.1) ∙ after

-- ---- a reply for which its request waits

module _ (k : Known) (bytes : List ℕ) (u : ℕ) (is : number_in bytes ≡ u) (some : 2 ≤ u) (acts : List Act) (later : Known) (o : Opcode)
  where
    by_opcode : (a : Asked) (p : Option Opcode) → p ≡ Some o → IsReplyBy k bytes taken.Accepted p a acts later
        → IsReplyOf k bytes taken.Accepted o a acts later
    by_opcode a p same does =
        subst (λ (x : Option Opcode). IsReplyBy k bytes taken.Accepted x a acts later) same does

    to_waiting : (x : Option Asked) (a : Asked) → x ≡ Some a → a.opcode ≡ Some o
        → MatchBool (is_to_interrupt u x) ((acts ≡ interrupt_acts bytes taken.Accepted) × (later ≡ k))
        (IsReplyTo k bytes taken.Accepted x acts later) → IsReplyOf k bytes taken.Accepted o a acts later
    to_waiting x a there asks does = by_opcode a a.opcode asks
        (subst (λ (x : Option Asked). MatchBool (is_to_interrupt u x) ((acts ≡ interrupt_acts bytes taken.Accepted) × (later ≡ k))
        (IsReplyTo k bytes taken.Accepted x acts later)) there does)

    -- What is written under a good header is a reply to what its request asked.
    pub headed_reply : (s : Session) (a : Asked) → waits s u ≡ Some a → a.opcode ≡ Some o → IsHeaded k s bytes taken.Accepted acts later
        → IsReplyOf k bytes taken.Accepted o a acts later
    headed_reply s a there asks does =
        let placed = subst (λ (n : ℕ). MatchBool (n == 0) (IsNotified k bytes taken.Accepted acts later)
        (MatchBool (is_to_interrupt n (waits s n)) ((acts ≡ interrupt_acts bytes taken.Accepted) × (later ≡ k))
        (IsReplyTo k bytes taken.Accepted (waits s n) acts later))) is does in
        to_waiting (waits s u) a there asks (past (u == 0) apart placed)
      where
        apart : (u == 0) ≡ false
        apart = grind (arith, nat_tests, some)

        past : (b : Bool) → b ≡ false → MatchBool b (IsNotified k bytes taken.Accepted acts later)
            (MatchBool (is_to_interrupt u (waits s u)) ((acts ≡ interrupt_acts bytes taken.Accepted) × (later ≡ k))
            (IsReplyTo k bytes taken.Accepted (waits s u) acts later))
            → MatchBool (is_to_interrupt u (waits s u)) ((acts ≡ interrupt_acts bytes taken.Accepted) × (later ≡ k))
            (IsReplyTo k bytes taken.Accepted (waits s u) acts later)
        past true e placed = absurd (false≢true (sym e))
        past false e placed = placed

module _ (id : ℕ) (low : 2 ≤ id) (k : Known) (carries : Carries k.agreed) (bytes : List ℕ) (u : ℕ) (is : number_in bytes ≡ u)
    (some : 2 ≤ u) (acts : List Act) (later : Known) (o : CodecOpcode) where
  -- It is a reply to what its request asked.
  pub waited_reply : (s : Session) (a : Asked) → waits s u ≡ Some a → a.opcode ≡ Some (table_opcode o)
      → IsWritten k s bytes taken.Accepted acts later → (wire : WireReply) → Says o bytes wire
      → IsReplyOf k bytes taken.Accepted (table_opcode o) a acts later
  waited_reply s a there asks (inl (head, does)) wire says =
      headed_reply k bytes u is some acts later (table_opcode o) s a there asks does
  waited_reply s a there asks (inr (bad, does, same)) wire says =
      let read = replied_alike latest_minor k.agreed o (length bytes) bytes says.says.message carries (omega arith) says.says.spells in
      absurd (bad (read.1.frame, headed (number_in bytes == 0) read.1.error))
    where
      headed : {P : Type 0} (b : Bool) → P → MatchBool b (Unit {0}) P
      headed true p = tt
      headed false p = p

  pub waited_gives : (s : Session) (a : Asked) → waits s u ≡ Some a → a.opcode ≡ Some (table_opcode o)
      → IsWritten k s bytes taken.Accepted acts later → (wire : WireReply) → Says o bytes wire
      → times_named id wire ≤ gives id acts
  waited_gives s a there asks does wire says =
      reply_gives id low k carries bytes o a acts later (waited_reply s a there asks does wire says) wire says

-- ---- a frame that will be accepted

-- A frame that is accepted adds no more lookups of a node than this. `count` counts mounts.
abbrev pub Adds : (id count : ℕ) → Kernel → List ℕ → Outcome → (g : ℕ) → Type 0
Adds id count kernel frame o g = o ≡ written Accepted → HasHeader frame → head_unique frame % 2 ≡ 0 → head_unique frame < 2 ^ 62
    → (1 ≤ count) × (p : CodecOpcode) × Knows p (head_unique frame) kernel
    × ((wire : WireReply) → Says p frame wire → times_named id wire ≤ g)

module _ (id : ℕ) (low : 2 ≤ id) (count : ℕ) (old : Driven) (k : Known) (s : Session) (tells : Tells count old s)
    (carries : Carries k.agreed) (judged : k.unjudged ≡ None) where
  pub heard_adds : (frame : List ℕ) (b : Bor (List ℕ)) → b.now ≡ frame → (t : Taken) (acts : List Act) (later : Known)
      → AreActs k s (said.Written b t) acts later → (o : Outcome) → IsTaken k s b.now t o
      → Adds id count old.kernel frame o (gives id acts)
  heard_adds frame b same t acts later are o is accepted headed even less =
      by (waits s (head_unique frame)) refl
    where
      number : number_in b.now ≡ head_unique frame
      number = ap (number_at 8 8) same

      told : (t ≡ taken.Accepted) × (waits s (head_unique b.now) ≢ None)
      told = let so : IsTaken k s b.now t (written Accepted) = subst (IsTaken k s b.now t) accepted is in
          so judged (subst HasHeader (sym same) headed) (ap (λ (n : ℕ). n % 2) number ∙ even)

      by : (x : Option Asked) → waits s (head_unique frame) ≡ x
          → (1 ≤ count) × (p : CodecOpcode) × Knows p (head_unique frame) old.kernel
          × ((wire : WireReply) → Says p frame wire → times_named id wire ≤ gives id acts)
      by None there = absurd (told.1 (ap (waits s) number ∙ there))
      by (Some a) there =
          let tied = waits_ask (Tied old.kernel) s tells.asks (head_unique frame) a there less in (
            mounted count refl,
            tied.1,
            tied.3,
            λ wire says. waited_gives id low k carries b.now (head_unique frame) number tied.0 acts later tied.1 s a there tied.2
                (subst (λ (x : Taken). IsWritten k s b.now x acts later) told.0
                (judged_acts k s (said.Written b t) acts later judged are)) wire
                (subst (λ (l : List ℕ). Says tied.1 l wire) (sym same) says),
          )
        where
          mounted : (n : ℕ) → count ≡ n → 1 ≤ n
          mounted n is = from (nat_eq n 0) refl
            where
              from : (b : Bool) → nat_eq n 0 ≡ b → 1 ≤ n
              from true e =
                  let zero : count ≡ 0 = grind (arith, nat_tests, e, is) in
                  let high = waits_ask IsOwnNumber s (tells.before zero) (head_unique frame) a there in
                  absurd (omega (arith, high, less))
              from false e = grind (arith, nat_tests, e)
