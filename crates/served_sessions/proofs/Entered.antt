-- The entries of a reply are of nodes, and of files of the kind that was asked for.
use Rattle.std.proofs.Common.{◌≡◌, ◌≢◌, inl, inr, ℕ, ◌==◌, Bool, true, false, ◌||◌, List, [], ◌∷◌, ◌++◌, Some, drop, flat_map, refl, sym, ◌∙◌, ap, subst, nat_eq, if◌then◌else◌}
use Rattle.std.specs.List.{list_all}
use Rattle.std.proofs.lemmas.Bool.{false≢true}
use Rattle.fuse_protocol.specs.declared.opcode.Opcode.{Opcode}
use Rattle.fuse_protocol.specs.declared.opcode.Opcode.TheVariants as op
use Rattle.fk_fields.specs.Fields.{number_at}
use Rattle.fuse_protocol.specs.Requests.{RequestMessage, asked_at}
use Rattle.fuse_protocol.specs.Table.{row_at}
use Rattle.fuse_replies.specs.declared.entry.Entry.{Entry}
use Rattle.fuse_replies.specs.declared.entry.Opened.{Opened}
use Rattle.fuse_replies.specs.Record.{EntryRecordContent}
use Rattle.fuse_replies.specs.Replies.{AnswerContent, IsReply, ReplyMessage, content_at}
use Rattle.fuse_replies.specs.Replies as answer
use Rattle.fuse_sessions.specs.declared.act.Act.{Act}
use Rattle.fuse_sessions.specs.declared.act.Act.TheVariants as act
use Rattle.fuse_sessions.specs.declared.act.Asked.{Asked}
use Rattle.fuse_sessions.specs.declared.act.Taken.{Taken}
use Rattle.fuse_sessions.specs.declared.fault.Fault.{Fault}
use Rattle.fuse_sessions.specs.declared.fault.Fault.TheVariants as fault
use Rattle.fuse_sessions.specs.declared.known.Known.{Known}
use Rattle.fuse_sessions.specs.Sessions.{Session}
use Rattle.fuse_sessions.specs.Waiting.{waits}
use Rattle.fuse_sessions.specs.Frames.{number_in, of_version, of_offered, AreRequestActs, IsOffered}
use Rattle.fuse_sessions.specs.ReplyActs.{answer_acts, entry_acts, gift_acts, is_kind, is_made, kind_acts, kind_of, may_be_missing, record_acts, root_acts}
use Rattle.fuse_sessions.specs.RequestActs.{asked_of, kind_made}
use Rattle.served_sessions.specs.Entries.{AreGiven, HasEntries, IsGiven, IsMadeBy, IsSoundAnswer, is_dots}
use Rattle.served_sessions.specs.Groups.{is_nothing, is_of_entries}
use Rattle.served_sessions.proofs.Acts.{each_of, is_of_frames}
use Rattle.served_sessions.proofs.Answering.{interrupt_faults, is_head, plain_init, reply_faults}
use Rattle.served_sessions.proofs.Asking.{one_number}
use Rattle.served_sessions.proofs.Free.{AreFree, all_free, free_append}
use Rattle.served_sessions.proofs.Heads.{IsApart, flags_free, version_free}
use Rattle.served_sessions.proofs.Kept.{Kept}
use Rattle.served_sessions.proofs.Replied.{SaysBody, body_said, reply_read}
use Rattle.served_sessions.proofs.Told.{AreClear, answer_clear, clear_law, counting_clear, is_clear, no_listing}
use Rattle.served_sessions.proofs.Written.{Keeps}

pub entries_within : (f : Fault) → is_of_entries f ≡ true → is_of_frames f ≡ true
entries_within fault.EntryOfTheRoot is = refl
entries_within fault.EntryOfNoNode is = refl
entries_within fault.EntryOfNoKind is = refl
entries_within fault.EntryOfAnotherKind is = refl
entries_within f is = cc

pub entries_apart : IsApart is_of_entries
entries_apart fault.EntryOfTheRoot of (inl e) = cc
entries_apart fault.EntryOfTheRoot of (inr e) = cc
entries_apart fault.EntryOfNoNode of (inl e) = cc
entries_apart fault.EntryOfNoNode of (inr e) = cc
entries_apart fault.EntryOfNoKind of (inl e) = cc
entries_apart fault.EntryOfNoKind of (inr e) = cc
entries_apart fault.EntryOfAnotherKind of (inl e) = cc
entries_apart fault.EntryOfAnotherKind of (inr e) = cc
entries_apart f of e = cc

-- ---- an entry

-- the kind that a request makes is that of the file
made_by : (o : Opcode) (r : RequestMessage) (kind : ℕ) → IsMadeBy o kind
    → (nat_eq (kind_made o r) 0 || nat_eq (kind_made o r) kind) ≡ true
made_by op.Mkdir r kind is = ap (nat_eq 16384) is
made_by op.Create r kind is = ap (nat_eq 32768) is
made_by op.Mknod r kind is = absurd is
made_by op.Symlink r kind is = absurd is
made_by op.Tmpfile r kind is = absurd is
made_by o r kind is = refl

module _ (o : Opcode) (r : RequestMessage) (e : Entry) (given : IsGiven o e) where
  abbrev a : Asked
  a = asked_of o r

  gift_clear : e.nodeid ≢ 0 → AreClear is_of_entries (gift_acts true (asked_of o r) e)
  gift_clear some =
      let kind : is_kind (kind_of e.attributes) ≡ true = given.kind some in
      let made : is_made (asked_of o r) e ≡ true = made_by o r (kind_of e.attributes) (given.made some) in
      let none : kind_acts (asked_of o r) e ≡ [] = rw (kind, made) refl in
      each_of (is_clear is_of_entries) (kind_acts (asked_of o r) e) _ (ap (list_all (is_clear is_of_entries)) none) refl

  missing_clear : (b : Bool) → b ≡ true
      → AreClear is_of_entries (if b then [] else act.Faulty fault.EntryOfNoNode ∷ [])
  missing_clear true is = refl
  missing_clear false is = cc

  given_clear : AreClear is_of_entries (entry_acts true o (asked_of o r) e)
  given_clear = by (nat_eq e.nodeid 1) (nat_eq e.nodeid 0) refl refl
    where
      none : nat_eq e.nodeid 0 ≡ false → e.nodeid ≢ 0
      none is zero = let no : true ≡ false = ap (λ (n : ℕ). nat_eq n 0) (sym zero) ∙ is in cc

      by : (root zero : Bool) → nat_eq e.nodeid 1 ≡ root → nat_eq e.nodeid 0 ≡ zero → AreClear is_of_entries
          (if root then root_acts (asked_of o r) else (if zero then
          (if may_be_missing o then [] else act.Faulty fault.EntryOfNoNode ∷ []) else gift_acts true (asked_of o r) e))
      by true zero is_root is_zero = absurd (given.not_root (one_number e.nodeid 1 is_root))
      by false true is_root is_zero = missing_clear (may_be_missing o) (given.missing (one_number e.nodeid 0 is_zero))
      by false false is_root is_zero = gift_clear (none is_zero)

-- those of a listing
records_given : (r : RequestMessage) (rs : List EntryRecordContent) → AreGiven rs
    → AreClear is_of_entries (flat_map (record_acts true (asked_of op.Readdirplus r)) rs)
records_given r [] given = refl
records_given r (x ∷ rs) given = each_of (is_clear is_of_entries) (record_acts true (asked_of op.Readdirplus r) x) _
    (by (is_dots x.said.name) refl) (records_given r rs given.1)
  where
    by : (b : Bool) → is_dots x.said.name ≡ b → AreClear is_of_entries
        (if b then [] else entry_acts true op.Readdirplus (asked_of op.Readdirplus r) x.entry)
    by true is = refl
    by false is = given_clear op.Readdirplus r x.entry (given.0 is)

-- ---- what a reply says

no_entry : (e : Entry) (errno : ℕ) → ◌≡◌ {A = AnswerContent} (answer.failed errno) (answer.entry e) → ⊥
no_entry e errno same = cc

no_created : (e : Entry) (file : Opened) (errno : ℕ)
    → ◌≡◌ {A = AnswerContent} (answer.failed errno) (answer.created e file) → ⊥
no_created e file errno same = cc

no_records : (rs : List EntryRecordContent) (errno : ℕ)
    → ◌≡◌ {A = AnswerContent} (answer.failed errno) (answer.entry_records rs) → ⊥
no_records rs errno same = cc

not_sized : (b : Bool) (reply : List ℕ) (rs : List EntryRecordContent)
    → (if b then answer.number (number_at 16 4 reply) else answer.raw (drop 16 reply)) ≡ answer.entry_records rs → ⊥
not_sized true reply rs e =
    let no : ◌≡◌ {A = AnswerContent} (answer.number (number_at 16 4 reply)) (answer.entry_records rs) = e in cc
not_sized false reply rs e =
    let no : ◌≡◌ {A = AnswerContent} (answer.raw (drop 16 reply)) (answer.entry_records rs) = e in cc

module _ (k later : Known) (s : Session) (request reply : List ℕ) (t : Taken) (acts : List Act)
    (kept : Kept (is_nothing fault.OddNumber) k s) (sound : IsSoundAnswer request reply)
    (does : AreRequestActs k request acts) (offers : IsOffered k request later) (free : AreFree is_nothing s acts) where
  module _ (a : Asked) (waiting : waits (s ++ acts) (number_in reply) ≡ Some a) (o : Opcode) (by_row : a.opcode ≡ Some o)
      (m : ReplyMessage) (is : IsReply later.agreed (row_at o).reply a.asked reply m) where
    said : (content : AnswerContent) → ((errno : ℕ) → answer.failed errno ≡ content → ⊥) → m.answer ≡ content
        → SaysBody k request reply a o content
    said content no_error says = body_said is_nothing k later s request reply t acts kept sound.answers does offers free a o
        waiting by_row m is content no_error says

    has : (content : AnswerContent) → SaysBody k request reply a o content → HasEntries o content
    has content b = subst (HasEntries o) b.body (sound.entries b.fine o (sym b.is_row.opcode))

    entry_clear : (e : Entry) → m.answer ≡ answer.entry e → AreClear is_of_entries (entry_acts true o a e)
    entry_clear e says =
        let b = said (answer.entry e) (no_entry e) says in
        subst (λ (x : Asked). AreClear is_of_entries (entry_acts true o x e)) (sym b.asked)
        (given_clear o b.row e (has (answer.entry e) b))

    created_clear : (e : Entry) (file : Opened) → m.answer ≡ answer.created e file
        → AreClear is_of_entries (entry_acts true o a e)
    created_clear e file says =
        let b = said (answer.created e file) (no_created e file) says in
        subst (λ (x : Asked). AreClear is_of_entries (entry_acts true o x e)) (sym b.asked)
        (given_clear o b.row e (has (answer.created e file) b))

  -- only READDIRPLUS is answered a listing with entries
  records_clear : (a : Asked) → waits (s ++ acts) (number_in reply) ≡ Some a → (o : Opcode) → a.opcode ≡ Some o
      → (m : ReplyMessage) → IsReply later.agreed (row_at o).reply a.asked reply m → (rs : List EntryRecordContent)
      → m.answer ≡ answer.entry_records rs → AreClear is_of_entries (flat_map (record_acts true a) rs)
  records_clear a waiting o by_row m is rs says =
      let b = said a waiting o by_row m is (answer.entry_records rs) (no_records rs) says in
      subst (λ (x : Asked). AreClear is_of_entries (flat_map (record_acts true x) rs)) (sym b.asked)
      (by o b.row b.body (has a waiting o by_row m is (answer.entry_records rs) b))
    where
      by : (o : Opcode) (r : RequestMessage)
          → content_at (row_at o).reply (asked_at (row_at o).reply request) reply ≡ answer.entry_records rs
          → AreGiven rs → AreClear is_of_entries (flat_map (record_acts true (asked_of o r)) rs)
      by op.Readdirplus r body given = records_given r rs given
      by op.Getxattr r body given = absurd (not_sized (asked_at (row_at op.Getxattr).reply request == 0) reply rs body)
      by op.Listxattr r body given = absurd (not_sized (asked_at (row_at op.Listxattr).reply request == 0) reply rs body)
      by o r body given = absurd cc

  said_clear : (a : Asked) → waits (s ++ acts) (number_in reply) ≡ Some a → (o : Opcode) → a.opcode ≡ Some o
      → (m : ReplyMessage) → IsReply later.agreed (row_at o).reply a.asked reply m
      → AreClear is_of_entries (answer_acts o a m.answer)
  said_clear a waiting o by_row m is = answer_clear is_of_entries (no_listing is_of_entries entries_within) o a m.answer
      (λ n says. counting_clear is_of_entries refl o n a.writes)
      (entry_clear a waiting o by_row m is) (created_clear a waiting o by_row m is)
      (records_clear a waiting o by_row m is)

  entries_keep_here : Keeps is_of_entries later (s ++ acts) reply t
  entries_keep_here = record {
    head = is_head request reply sound.answers;
    no_notice = λ none is. false≢true is;
    replies = λ some other before same f b is. entries_apart f is (inl (reply_faults before (number_in reply) f b).0);
    interrupts = λ some other f b is. entries_apart f is (interrupt_faults (s ++ acts) _ _ t f b);
    agrees = λ a o m waits by is r i offered says before.
        free_append is_of_entries before (of_version i) (of_offered r i)
        (version_free is_of_entries (λ e. false≢true e) before i)
        (flags_free is_of_entries (λ e. false≢true e) (before ++ of_version i) r i);
    tells = λ a o m waits by is i says.
        plain_init is_nothing k later s request reply t acts kept sound.answers does offers free a o m waits by is i says;
    fits = λ a o waits by.
        reply_read is_nothing k later s request reply t acts kept sound.answers does offers free a o waits by;
    says = λ a o m waits by is before. all_free is_of_entries (is_clear is_of_entries)
        (clear_law is_of_entries entries_within) before (answer_acts o a m.answer) (said_clear a waits o by m is);
  }

pub entries_keep : (k later : Known) (s : Session) (request reply : List ℕ) (t : Taken) (acts : List Act)
    → Kept (is_nothing fault.OddNumber) k s → Unit {0} → IsSoundAnswer request reply
    → AreRequestActs k request acts → IsOffered k request later → AreFree is_nothing s acts
    → Keeps is_of_entries later (s ++ acts) reply t
entries_keep k later s request reply t acts kept such sound does offers free =
    entries_keep_here k later s request reply t acts kept sound does offers free
