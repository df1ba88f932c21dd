-- What a frame that a server wrote shows by its header, by its number, and by what INIT's reply agrees on.
use Rattle.std.proofs.Common.{◌≡◌, inl, inr, ℕ, ◌-◌, ◌==◌, Bool, true, false, List, [], ◌∷◌, ◌++◌, Option, Some, None, append-nil, refl, sym, ◌∙◌, ap, subst, drop, flat_map, nat_eq, bit_and, if◌then◌else◌}
use Rattle.std.specs.Prelude.{MatchBool}
use Rattle.std.specs.List.{list_all}
use Rattle.std.specs.Map.{lookup}
use Rattle.std.proofs.lemmas.Bool.{and_from, and_parts}
use Rattle.fuse_protocol.specs.declared.init.InitRequest.{InitRequest}
use Rattle.fuse_protocol.specs.declared.init.InitReply.{InitReply}
use Rattle.fuse_protocol.specs.declared.opcode.Opcode.{Opcode}
use Rattle.fuse_protocol.specs.declared.opcode.Opcode.TheVariants as op
use Rattle.fuse_protocol.specs.Table.{row_at}
use Rattle.fuse_replies.specs.Records.{entry_records_from}
use Rattle.fuse_replies.specs.Replies.{AnswerContent, ReplyMessage, IsReply}
use Rattle.fuse_replies.specs.Replies as answer
use Rattle.fuse_sessions.specs.declared.act.Act.{Act}
use Rattle.fuse_sessions.specs.declared.act.Act.TheVariants as act
use Rattle.fuse_sessions.specs.declared.act.Asked.{Asked}
use Rattle.fuse_sessions.specs.declared.act.Fit.{Fit}
use Rattle.fuse_sessions.specs.declared.act.Fit.TheVariants as fit
use Rattle.fuse_sessions.specs.declared.act.Taken.{Taken}
use Rattle.fuse_sessions.specs.declared.act.Taken.TheVariants as taken
use Rattle.fuse_sessions.specs.declared.fault.Fault.{Fault}
use Rattle.fuse_sessions.specs.declared.fault.Fault.TheVariants as fault
use Rattle.fuse_sessions.specs.declared.known.Known.{Known}
use Rattle.fuse_sessions.specs.Sessions.{Session}
use Rattle.fuse_sessions.specs.Waiting.{waiting, waits}
use Rattle.fuse_sessions.specs.Faults.{BreaksReply, BreaksReplyToInterrupt}
use Rattle.fuse_sessions.specs.Frames.{number_in, error_in, is_resend, eagain, eintr, eintr_acts, replied, init_acts, of_version, of_offered, said_acts, listed_acts, is_to_interrupt, IsHead, IsNotified, IsReplyBy, IsReplyOf, IsReplyTo, IsWritten}
use Rattle.fuse_sessions.specs.Fits.{fit_in, fit_of_another}
use Rattle.fuse_sessions.specs.ReplyActs.{answer_acts, record_acts}
use Rattle.fuse_sessions.proofs.Laws.{waiting-more}
use Rattle.fuse_sessions.proofs.ReplyLaws.{all_kept, waits_past_interrupted, waits_past_taking}
use Rattle.served_sessions.specs.Exchanges.{IsPlainInit}
use Rattle.served_sessions.proofs.Acts.{either, each_of, is_beside, is_of_frames}
use Rattle.served_sessions.proofs.Free.{beside_free, free_append, AreFree}
use Rattle.served_sessions.proofs.Told.{answer_told, is_told, records_told}

-- ---- what waits stays

waits_past_faulty : (s : Session) (u : ℕ) (f : Fault) → waits (s ++ act.Faulty f ∷ []) u ≡ waits s u
waits_past_faulty s u f = ap (lookup (nat_eq u)) (waiting-more s (act.Faulty f) ∙ all_kept (waiting s))

waits_past_eintr : (s : Session) (u : ℕ) (bytes : List ℕ) (t : Taken) → waits (s ++ eintr_acts bytes t) u ≡ waits s u
waits_past_eintr s u bytes taken.Accepted = by (error_in bytes == eintr)
  where
    by : (b : Bool) → waits (s ++ (if b then act.Interrupted (number_in bytes) ∷ [] else [])) u ≡ waits s u
    by true = waits_past_interrupted s u (number_in bytes)
    by false = ap (λ (l : Session). waits l u) (append-nil s)
waits_past_eintr s u bytes taken.NoEntry = ap (λ (l : Session). waits l u) (append-nil s)
waits_past_eintr s u bytes taken.Invalid = ap (λ (l : Session). waits l u) (append-nil s)
waits_past_eintr s u bytes taken.Failed = ap (λ (l : Session). waits l u) (append-nil s)

listed_told : (bytes : List ℕ) (o : Opcode) (a : Asked) (t : Taken) → list_all is_told (listed_acts o a t bytes) ≡ true
listed_told bytes op.Readdirplus a taken.Accepted = either is_told (error_in bytes == 0)
    (flat_map (record_acts false a) (entry_records_from 0 (drop 16 bytes))) []
    (records_told false a (entry_records_from 0 (drop 16 bytes))) refl
listed_told bytes op.Readdirplus a t = refl
listed_told bytes o a t = refl

-- ---- by one of two

pub by_bool : (b : Bool) (Goal P Q : Type 0) → (b ≡ true → P → Goal) → (b ≡ false → Q → Goal) → MatchBool b P Q → Goal
by_bool true Goal P Q first second is = first refl is
by_bool false Goal P Q first second is = second refl is

-- What is asked of a frame that is written, for a group of faults.
pub record Keeps (group : Fault → Bool) (k : Known) (s : Session) (bytes : List ℕ) (t : Taken) : Type 0 where
  pub head : IsHead bytes
  pub no_notice : (number_in bytes == 0) ≡ true → group fault.MalformedNotification ≡ true → ⊥
  pub replies : (number_in bytes == 0) ≡ false → is_to_interrupt (number_in bytes) (waits s (number_in bytes)) ≡ false
      → (before : Session) → waits before (number_in bytes) ≡ waits s (number_in bytes) → (f : Fault)
      → BreaksReply before (number_in bytes) f → group f ≡ true → ⊥
  pub interrupts : (number_in bytes == 0) ≡ false → is_to_interrupt (number_in bytes) (waits s (number_in bytes)) ≡ true
      → (f : Fault) → BreaksReplyToInterrupt s (number_in bytes - 1) (error_in bytes == eagain) t f
      → group f ≡ true → ⊥
  pub agrees : (a : Asked) (o : Opcode) (m : ReplyMessage) → waits s (number_in bytes) ≡ Some a → a.opcode ≡ Some o
      → IsReply k.agreed (row_at o).reply a.asked bytes m → (r : InitRequest) (i : InitReply) → k.offered ≡ Some r
      → m.answer ≡ answer.init i → (before : Session) → AreFree group before (of_version i ++ of_offered r i)
  pub tells : (a : Asked) (o : Opcode) (m : ReplyMessage) → waits s (number_in bytes) ≡ Some a → a.opcode ≡ Some o
      → IsReply k.agreed (row_at o).reply a.asked bytes m → (i : InitReply) → m.answer ≡ answer.init i → IsPlainInit i
  pub fits : (a : Asked) (o : Opcode) → waits s (number_in bytes) ≡ Some a → a.opcode ≡ Some o
      → (m : ReplyMessage) × IsReply k.agreed (row_at o).reply a.asked bytes m
  pub says : (a : Asked) (o : Opcode) (m : ReplyMessage) → waits s (number_in bytes) ≡ Some a → a.opcode ≡ Some o
      → IsReply k.agreed (row_at o).reply a.asked bytes m → (before : Session)
      → AreFree group before (answer_acts o a m.answer)

module _ (group : Fault → Bool) (within : (f : Fault) → group f ≡ true → is_of_frames f ≡ true)
    (k : Known) (s : Session) (bytes : List ℕ) (t : Taken) (keeps : Keeps group k s bytes t) where
  abbrev u : ℕ
  u = number_in bytes

  beside : (before : Session) (acts : List Act) → list_all is_beside acts ≡ true → AreFree group before acts
  beside before acts are = beside_free group within before acts are

  -- a reply that is taken, or not
  replied_free : (u == 0) ≡ false → is_to_interrupt u (waits s u) ≡ false → (before : Session)
      → waits before u ≡ waits s u → (body : Fit) → AreFree group before (replied bytes t body)
  replied_free some other before same body =
      let first : Session = before ++ eintr_acts bytes t in
      let second : Session = first ++ act.Takes u t body ∷ [] in
      let still : waits second u ≡ waits s u =
      waits_past_taking first u u t body ∙ waits_past_eintr before u bytes t ∙ same in
      free_append group before (eintr_acts bytes t) (act.Takes u t body ∷ act.Replies u t ∷ [])
      (beside before (eintr_acts bytes t) (eintr_beside t))
      ((beside first (act.Takes u t body ∷ []) refl).0, (keeps.replies some other second still, tt))
    where
      eintr_beside : (t : Taken) → list_all is_beside (eintr_acts bytes t) ≡ true
      eintr_beside taken.Accepted = either is_beside (error_in bytes == eintr) (act.Interrupted u ∷ []) [] refl refl
      eintr_beside taken.NoEntry = refl
      eintr_beside taken.Invalid = refl
      eintr_beside taken.Failed = refl

  init_free : (before : Session) (o : Option InitRequest) (content : AnswerContent)
      → ((r : InitRequest) (i : InitReply) → o ≡ Some r → content ≡ answer.init i
      → AreFree group before (of_version i ++ of_offered r i)) → AreFree group before (init_acts o content)
  init_free before (Some r) (answer.init i) free = free r i refl refl
  init_free before (Some r) content free = tt
  init_free before None content free = tt

  said_free : (before : Session) (o : Opcode) (a : Asked) (content : AnswerContent) (t : Taken)
      → ((r : InitRequest) (i : InitReply) → k.offered ≡ Some r → content ≡ answer.init i
      → AreFree group before (of_version i ++ of_offered r i))
      → ((later : Session) → AreFree group later (answer_acts o a content)) → AreFree group before (said_acts k o a t content)
  said_free before o a content taken.Accepted free says = free_append group before (init_acts k.offered content)
      (answer_acts o a content) (init_free before k.offered content free) (says (before ++ init_acts k.offered content))
  said_free before o a content taken.NoEntry free says = tt
  said_free before o a content taken.Invalid free says = tt
  said_free before o a content taken.Failed free says = tt

  module _ (some : (u == 0) ≡ false) (other : is_to_interrupt u (waits s u) ≡ false) where
    of_free : (o : Opcode) (a : Asked) (acts : List Act) (later : Known) → waits s u ≡ Some a → a.opcode ≡ Some o
        → IsReplyOf k bytes t o a acts later → AreFree group s acts
    of_free o a acts later waiting' by (inl (m, is, says)) =
        let body : Fit = fit_in (row_at o).reply a.asked bytes in
        subst (AreFree group s) (sym says.0) (free_append group s (replied bytes t body)
        (said_acts k o a t m.answer) (replied_free some other s refl body) (said_free (s ++ replied bytes t body) o a m.answer t
        (λ r i offers says'. keeps.agrees a o m waiting' by is r i offers says' (s ++ replied bytes t body))
        (keeps.says a o m waiting' by is)))
    of_free o a acts later waiting' by (inr (none, is)) =
        let one = keeps.fits a o waiting' by in absurd (none one.0 one.1)

    by_free : (o : Option Opcode) (a : Asked) (acts : List Act) (later : Known) → waits s u ≡ Some a → a.opcode ≡ o
        → IsReplyBy k bytes t o a acts later → AreFree group s acts
    by_free None a acts later waiting' by is = subst (AreFree group s) (sym is.0) (replied_free some other s refl fit.MayFit)
    by_free (Some o) a acts later waiting' by is = of_free o a acts later waiting' by is

    to_free : (o : Option Asked) (acts : List Act) (later : Known) → waits s u ≡ o → IsReplyTo k bytes t o acts later
        → AreFree group s acts
    to_free None acts later waiting' is = subst (AreFree group s) (sym is.0) (replied_free some other s refl fit.MayFit)
    to_free (Some a) acts later waiting' is = by_free a.opcode a acts later waiting' refl is

  notified_free : (acts : List Act) (later : Known) → (u == 0) ≡ true → IsNotified k bytes t acts later
      → AreFree group s acts
  notified_free acts later none (inl (m, is, does)) = subst (AreFree group s) (sym does.0)
      (beside s (if is_resend bytes t then act.Resends ∷ [] else [])
      (either is_beside (is_resend bytes t) (act.Resends ∷ []) [] refl refl))
  notified_free acts later none (inr (not, does)) = subst (AreFree group s) (sym does.0)
      (λ f b is. keeps.no_notice none (ap group (sym b) ∙ is), tt)

  pub written_free : (acts : List Act) (later : Known) → IsWritten k s bytes t acts later → AreFree group s acts
  written_free acts later (inl (head, is)) = by_bool (u == 0) (AreFree group s acts) _ _ (notified_free acts later)
      (λ some. by_bool (is_to_interrupt u (waits s u)) (AreFree group s acts) _ _
      (λ interrupt does. subst (AreFree group s) (sym does.0) (keeps.interrupts some interrupt, tt))
      (λ other. to_free some other (waits s u) acts later refl)) is
  written_free acts later (inr (bad, faulty, same)) = absurd (bad keeps.head)

-- ---- nothing is asked, and no other thread is shown

-- no act of a request that asks, or of another thread
abbrev pub is_unasking : Act → Bool
is_unasking (act.Asks unique asked) = false
is_unasking act.SeveralReaders = false
is_unasking act.SeveralWriters = false
is_unasking a = true

told_unasking : (acts : List Act) → list_all is_told acts ≡ true → list_all is_unasking acts ≡ true
told_unasking [] is = refl
told_unasking (a ∷ acts) is =
    let both = and_parts (is_told a) (list_all is_told acts) is in
    and_from (is_unasking a) (list_all is_unasking acts) (by a both.0) (told_unasking acts both.1)
  where
    by : (a : Act) → is_told a ≡ true → is_unasking a ≡ true
    by (act.Asks unique asked) is = is
    by act.SeveralReaders is = is
    by act.SeveralWriters is = is
    by a is = refl

module _ (k : Known) (bytes : List ℕ) (t : Taken) where
  replied_unasking : (t : Taken) (body : Fit) → list_all is_unasking (replied bytes t body) ≡ true
  replied_unasking taken.Accepted body = each_of is_unasking (eintr_acts bytes taken.Accepted)
      (act.Takes (number_in bytes) taken.Accepted body ∷ act.Replies (number_in bytes) taken.Accepted ∷ [])
      (either is_unasking (error_in bytes == eintr) (act.Interrupted (number_in bytes) ∷ []) [] refl refl) refl
  replied_unasking taken.NoEntry body = refl
  replied_unasking taken.Invalid body = refl
  replied_unasking taken.Failed body = refl

  init_unasking : (o : Option InitRequest) (content : AnswerContent) → list_all is_unasking (init_acts o content) ≡ true
  init_unasking (Some r) (answer.init i) = each_of is_unasking (of_version i) (of_offered r i)
      (either is_unasking (i.major == 7) [] (act.Faulty fault.InitOfAnotherVersion ∷ []) refl refl)
      (either is_unasking (bit_and i.flags r.flags == i.flags) [] (act.Faulty fault.FlagsThatWereNotOffered ∷ []) refl
      refl)
  init_unasking (Some r) content = refl
  init_unasking None content = refl

  said_unasking : (o : Opcode) (a : Asked) (t : Taken) (content : AnswerContent)
      → list_all is_unasking (said_acts k o a t content) ≡ true
  said_unasking o a taken.Accepted content = each_of is_unasking (init_acts k.offered content) (answer_acts o a content)
      (init_unasking k.offered content) (told_unasking (answer_acts o a content) (answer_told o a content))
  said_unasking o a taken.NoEntry content = refl
  said_unasking o a taken.Invalid content = refl
  said_unasking o a taken.Failed content = refl

  by_unasking : (o : Option Opcode) (a : Asked) (acts : List Act) (later : Known) → IsReplyBy k bytes t o a acts later
      → list_all is_unasking acts ≡ true
  by_unasking None a acts later is = ap (list_all is_unasking) is.0 ∙ replied_unasking t fit.MayFit
  by_unasking (Some o) a acts later (inl (m, is, says)) =
      let body : Fit = fit_in (row_at o).reply a.asked bytes in
      ap (list_all is_unasking) says.0 ∙ each_of is_unasking (replied bytes t body) (said_acts k o a t m.answer)
      (replied_unasking t body) (said_unasking o a t m.answer)
  by_unasking (Some o) a acts later (inr (none, is)) =
      let body : Fit = fit_of_another (fit_in (row_at o).reply a.asked bytes) in
      ap (list_all is_unasking) is.0 ∙ each_of is_unasking (replied bytes t body) (listed_acts o a t bytes)
      (replied_unasking t body) (told_unasking (listed_acts o a t bytes) (listed_told bytes o a t))

  to_unasking : (o : Option Asked) (acts : List Act) (later : Known) → IsReplyTo k bytes t o acts later
      → list_all is_unasking acts ≡ true
  to_unasking None acts later is = ap (list_all is_unasking) is.0 ∙ replied_unasking t fit.MayFit
  to_unasking (Some a) acts later is = by_unasking a.opcode a acts later is

  pub written_unasking : (s : Session) (acts : List Act) (later : Known) → IsWritten k s bytes t acts later
      → list_all is_unasking acts ≡ true
  written_unasking s acts later (inl (head, is)) = by_bool (number_in bytes == 0) (list_all is_unasking acts ≡ true) _ _
      (λ zero. notified) (λ some. by_bool (is_to_interrupt (number_in bytes) (waits s (number_in bytes)))
      (list_all is_unasking acts ≡ true) _ _ (λ interrupt does. ap (list_all is_unasking) does.0)
      (λ other. to_unasking (waits s (number_in bytes)) acts later)) is
    where
      notified : IsNotified k bytes t acts later → list_all is_unasking acts ≡ true
      notified (inl (m, is, does)) = ap (list_all is_unasking) does.0
          ∙ either is_unasking (is_resend bytes t) (act.Resends ∷ []) [] refl refl
      notified (inr (not, does)) = ap (list_all is_unasking) does.0
  written_unasking s acts later (inr (bad, faulty, same)) = ap (list_all is_unasking) faulty
