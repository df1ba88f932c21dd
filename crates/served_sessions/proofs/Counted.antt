-- A reply to WRITE says no more than was to be written.
use Rattle.std.proofs.Common.{◌≡◌, ◌≤◌, inl, inr, ℕ, ◌+◌, true, false, not, List, ◌++◌, length, drop, Some, refl, sym, ◌∙◌, ap, nat_lt, nat_le, arith, rules, length-take, length-drop}
use Rattle.std.specs.Prelude.{slice_range}
use Rattle.std.proofs.lemmas.Bool.{false≢true, false_from_ne_true}
use Rattle.fk_fields.specs.Fields.{number_at}
use Rattle.fuse_protocol.specs.declared.agreed.Agreed.{Agreed}
use Rattle.fuse_protocol.specs.declared.opcode.Opcode.{Opcode}
use Rattle.fuse_protocol.specs.declared.opcode.Opcode.TheVariants as op
use Rattle.fuse_protocol.specs.Places as places
use Rattle.fuse_protocol.specs.Places.{places_at}
use Rattle.fuse_protocol.specs.Requests.{IsRequest, RequestMessage, extension_size}
use Rattle.fuse_protocol.specs.Table.{row_at}
use Rattle.fuse_replies.specs.Replies.{AnswerContent, IsReply, ReplyMessage, content_at, errno_in}
use Rattle.fuse_replies.specs.Replies as answer
use Rattle.fuse_sessions.specs.declared.act.Act.{Act}
use Rattle.fuse_sessions.specs.declared.act.Asked.{Asked}
use Rattle.fuse_sessions.specs.declared.act.Taken.{Taken}
use Rattle.fuse_sessions.specs.declared.fault.Fault.{Fault}
use Rattle.fuse_sessions.specs.declared.fault.Fault.TheVariants as fault
use Rattle.fuse_sessions.specs.declared.known.Known.{Known}
use Rattle.fuse_sessions.specs.Sessions.{Session}
use Rattle.fuse_sessions.specs.Waiting.{waits}
use Rattle.fuse_sessions.specs.Frames.{number_in, of_version, of_offered, AreRequestActs, IsOffered}
use Rattle.fuse_sessions.specs.ReplyActs.{answer_acts, counting}
use Rattle.fuse_sessions.specs.RequestActs.{bytes_written, number_of}
use Rattle.served_sessions.specs.Exchanges.{IsAnswer}
use Rattle.served_sessions.specs.Groups.{is_nothing, is_of_counts, is_of_entries}
use Rattle.served_sessions.proofs.Acts.{is_of_frames}
use Rattle.served_sessions.proofs.Answering.{interrupt_faults, is_head, plain_init, reply_faults}
use Rattle.served_sessions.proofs.Free.{AreFree, all_free, free_append}
use Rattle.served_sessions.proofs.Heads.{IsApart, flags_free, version_free}
use Rattle.served_sessions.proofs.Kept.{Kept}
use Rattle.served_sessions.proofs.Placed.{number_from}
use Rattle.served_sessions.proofs.Replied.{SaysBody, body_said, reply_read}
use Rattle.served_sessions.proofs.Told.{AreClear, answer_clear, clear_law, entry_clear, is_clear, no_listing, records_clear}
use Rattle.served_sessions.proofs.Written.{Keeps}

pub counts_within : (f : Fault) → is_of_counts f ≡ true → is_of_frames f ≡ true
counts_within fault.MoreThanWasAsked is = refl
counts_within f is = cc

counts_apart : IsApart is_of_counts
counts_apart fault.MoreThanWasAsked of (inl e) = cc
counts_apart fault.MoreThanWasAsked of (inr e) = cc
counts_apart f of e = cc

no_entries : (f : Fault) → is_of_entries f ≡ true → not (is_of_counts f) ≡ true
no_entries fault.MoreThanWasAsked is = cc
no_entries f is = refl

-- ---- what a body says

no_number : (n errno : ℕ) → ◌≡◌ {A = AnswerContent} (answer.failed errno) (answer.number n) → ⊥
no_number n errno e = cc

number_of_answer : (m n : ℕ) → ◌≡◌ {A = AnswerContent} (answer.number m) (answer.number n) → m ≡ n
number_of_answer m n same = ap of same
  where
    of : AnswerContent → ℕ
    of (answer.number x) = x
    of content = m

-- how many bytes a WRITE has, by its frame
written_asked : (agreed : Agreed) (bytes : List ℕ) (m : RequestMessage) → IsRequest agreed bytes (row_at op.Write) m
    → number_at 56 4 bytes ≡ bytes_written op.Write m
written_asked agreed bytes m is =
    let whole : 80 + extension_size agreed bytes ≤ length bytes = is.whole in
    let fixed : slice_range bytes 40 80 ≡ m.fixed = is.fixed in
    let long : length (slice_range bytes 40 80) ≡ 40 =
    omega (arith, whole, length-take 40 (drop 40 bytes), length-drop 40 bytes) in
    let enough : nat_le 20 (length (slice_range bytes 40 80)) ≡ true = rw long refl in
    let at : number_of (places.number_in (places_at op.Write).size (slice_range bytes 40 80))
    ≡ number_at 16 4 (slice_range bytes 40 80) = rw enough refl in
    sym (number_from 40 56 40 16 4 bytes refl (omega arith)) ∙ sym at
    ∙ ap (λ (l : List ℕ). number_of (places.number_in (places_at op.Write).size l)) fixed

not_more : (most said : ℕ) → said ≤ most → nat_lt most said ≡ false
not_more most said few = false_from_ne_true (nat_lt most said) (λ more. grind (arith, rules, few, more))

module _ (k later : Known) (s : Session) (request reply : List ℕ) (t : Taken) (acts : List Act)
    (kept : Kept (is_nothing fault.OddNumber) k s) (answers : IsAnswer request reply) (does : AreRequestActs k request acts)
    (offers : IsOffered k request later) (free : AreFree is_nothing s acts) where
  module _ (a : Asked) (waiting : waits (s ++ acts) (number_in reply) ≡ Some a) where
    said : (o : Opcode) → a.opcode ≡ Some o → (m : ReplyMessage) → IsReply later.agreed (row_at o).reply a.asked reply m
        → (n : ℕ) → m.answer ≡ answer.number n → SaysBody k request reply a o (answer.number n)
    said o by_row m is n says = body_said is_nothing k later s request reply t acts kept answers does offers free a o waiting
        by_row m is (answer.number n) (no_number n) says

    counts_clear : (o : Opcode) → a.opcode ≡ Some o → (m : ReplyMessage)
        → IsReply later.agreed (row_at o).reply a.asked reply m → (n : ℕ) → m.answer ≡ answer.number n
        → AreClear is_of_counts (counting o n a.writes)
    counts_clear op.Write by_row m is n says =
        let b = said op.Write by_row m is n says in
        let size : number_at 56 4 request ≡ a.writes = written_asked k.agreed request b.row b.is_row
        ∙ ap (λ (x : Asked). x.writes) (sym b.asked) in
        let number : number_at 16 4 reply ≡ n = number_of_answer (number_at 16 4 reply) n b.body in
        let most : number_at 16 4 reply ≤ number_at 56 4 request = (answers.body.few b.fine).written b.is_row.opcode in
        let less : nat_lt a.writes n ≡ false = not_more a.writes n (omega (arith, size, number, most)) in
        rw less refl
    counts_clear op.CopyFileRange by_row m is n says =
        let b = said op.CopyFileRange by_row m is n says in absurd ((answers.body.few b.fine).no_copy.0 b.is_row.opcode)
    counts_clear op.CopyFileRange64 by_row m is n says =
        let b = said op.CopyFileRange64 by_row m is n says in absurd ((answers.body.few b.fine).no_copy.1 b.is_row.opcode)
    counts_clear o by_row m is n says = refl

    said_clear : (o : Opcode) → a.opcode ≡ Some o → (m : ReplyMessage)
        → IsReply later.agreed (row_at o).reply a.asked reply m → AreClear is_of_counts (answer_acts o a m.answer)
    said_clear o by_row m is = answer_clear is_of_counts (no_listing is_of_counts counts_within) o a m.answer
        (counts_clear o by_row m is) (λ e says. entry_clear is_of_counts no_entries true o a e)
        (λ e file says. entry_clear is_of_counts no_entries true o a e)
        (λ rs says. records_clear is_of_counts no_entries true a rs)

  counts_keep_here : Keeps is_of_counts later (s ++ acts) reply t
  counts_keep_here = record {
    head = is_head request reply answers;
    no_notice = λ none is. false≢true is;
    replies = λ some other before same f b is. counts_apart f is (inl (reply_faults before (number_in reply) f b).0);
    interrupts = λ some other f b is. counts_apart f is (interrupt_faults (s ++ acts) _ _ t f b);
    agrees = λ a o m waits by is r i offered says before.
        free_append is_of_counts before (of_version i) (of_offered r i)
        (version_free is_of_counts (λ e. false≢true e) before i)
        (flags_free is_of_counts (λ e. false≢true e) (before ++ of_version i) r i);
    tells = λ a o m waits by is i says.
        plain_init is_nothing k later s request reply t acts kept answers does offers free a o m waits by is i says;
    fits = λ a o waits by. reply_read is_nothing k later s request reply t acts kept answers does offers free a o waits by;
    says = λ a o m waits by is before. all_free is_of_counts (is_clear is_of_counts)
        (clear_law is_of_counts counts_within) before (answer_acts o a m.answer) (said_clear a waits o by m is);
  }

pub counts_keep : (k later : Known) (s : Session) (request reply : List ℕ) (t : Taken) (acts : List Act)
    → Kept (is_nothing fault.OddNumber) k s → Unit {0} → IsAnswer request reply
    → AreRequestActs k request acts → IsOffered k request later → AreFree is_nothing s acts
    → Keeps is_of_counts later (s ++ acts) reply t
counts_keep k later s request reply t acts kept such answers does offers free =
    counts_keep_here k later s request reply t acts kept answers does offers free
