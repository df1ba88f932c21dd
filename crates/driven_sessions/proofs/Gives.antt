-- How often the acts of an accepted reply give a node: at least as often as the codec reads that it names it.
use Rattle.std.proofs.Common.{◌≡◌, ◌≤◌, inl, inr, ℕ, ℤ, ◌+◌, ◌-◌, ◌==◌, ◌||◌, ◌&&◌, Bool, true, false, cond, List, [], ◌∷◌, ◌++◌, length, map, drop, Option, Some, None, bit_and, nat_eq, codes, flat_map, refl, sym, ◌∙◌, ap, subst, arith, length-drop, if◌then◌else◌}
use Rattle.std.specs.Prelude.{pos, negsuc, sum_by, count_by, MatchBool}
use Rattle.std.specs.Int.{cast_unsigned, w32}
use Rattle.std.proofs.lemmas.Bool.{false≢true}
use Rattle.std.proofs.lemmas.Bool.Decides.{nat_tests}
use Rattle.std.proofs.lemmas.Int.{ints}
use Rattle.std.proofs.lemmas.List.{drop-drop}
use Rattle.std.proofs.lemmas.List.Sums.{sum_by-append, sum_by-cons}
use Rattle.fk_fields.specs.Fields.{Field, ReadsAs, bits, bytes_at, free, holds, named, number_at, raw}
use Rattle.fk_wire.specs.declared.opcode.Opcode.{Opcode as CodecOpcode}
use Rattle.fk_wire.specs.declared.opcode.Opcode.TheVariants as codec_op
use Rattle.fk_wire.specs.Dirents.{DirentPlusContent, HaveEntries, direntpluses}
use Rattle.fk_wire.specs.Entries.{EntryContent, found, missing}
use Rattle.fk_wire.specs.Opcodes.{latest_minor}
use Rattle.fk_wire.specs.Replies.{IsErrorNumber, SpellsReply, IsReplyContent, ReplyContent, create_reply, empty_reply, entry_reply, plus_reply, reply_body, reply_kind, kind_of_content}
use Rattle.fk_wire.specs.Replies.{ReplyMessage as CodecReply}
use Rattle.fk_wire.proofs.RecordLists.{one_plus_list}
use Rattle.fuse_spec.specs.declared.Entry.{Entry as KernelEntry}
use Rattle.fuse_spec.specs.Calls.Paths.{is_dots}
use Rattle.fuse_spec.specs.Claim.Counts.{times_named}
use Rattle.fuse_spec.specs.Files.Operations.{files_listed, first_listed, listed_by}
use Rattle.fuse_spec.specs.Kernel.Messages.{WireReply}
use Rattle.fuse_spec.proofs.QueueCounts.{count_by-cons}
use Rattle.fuse_frames.specs.DecodedReplies.{Says}
use Rattle.fuse_frames.specs.ReplyTies.{entry_in, file_named, no_entry, pair_in, wire_body, wire_said}
use Rattle.fuse_protocol.specs.declared.agreed.Agreed.{Agreed}
use Rattle.fuse_protocol.specs.declared.opcode.Opcode.{Opcode}
use Rattle.fuse_protocol.specs.declared.opcode.Opcode.TheVariants as op
use Rattle.fuse_protocol.specs.declared.row.ReplyShape.{ReplyShape}
use Rattle.fuse_protocol.specs.declared.row.ReplyShape.TheVariants as shape
use Rattle.fuse_protocol.specs.Table.{row_at}
use Rattle.fuse_replies.specs.declared.entry.Entry.{Entry}
use Rattle.fuse_replies.specs.Record.{EntryRecordContent}
use Rattle.fuse_replies.specs.Records.{entry_records_from}
use Rattle.fuse_replies.specs.Replies.{AnswerContent, HasSize, IsBody, IsReply, ReplyMessage, answer_at, content_at, errno_in}
use Rattle.fuse_replies.specs.Replies as answer
use Rattle.protocol_law.specs.Law.{Carries}
use Rattle.protocol_law.specs.ReplyLaw.{SayTheSame, attr_said, dirent_plus_said, entry_said, table_opcode}
use Rattle.protocol_law.proofs.Listings.{listed_plus}
use Rattle.protocol_law.proofs.RepliedAlike.{replied_alike}
use Rattle.fuse_sessions.specs.declared.act.Act.{Act}
use Rattle.fuse_sessions.specs.declared.act.Act.TheVariants as act
use Rattle.fuse_sessions.specs.declared.act.Asked.{Asked}
use Rattle.fuse_sessions.specs.declared.act.Taken.TheVariants as taken
use Rattle.fuse_sessions.specs.declared.fault.Fault.TheVariants as fault
use Rattle.fuse_sessions.specs.declared.known.Known.{Known}
use Rattle.fuse_sessions.specs.Counts.{gives_most}
use Rattle.fuse_sessions.specs.Fits.{fit_in, fit_of_another}
use Rattle.fuse_sessions.specs.Frames.{IsReplyOf, init_acts, listed_acts, replied, said_acts}
use Rattle.fuse_sessions.specs.ReplyActs.{answer_acts, entry_acts, file_of, gift_acts, is_counted, is_opened, kind_acts, may_be_missing, opening, record_acts, root_acts}
use Rattle.fuse_sessions.specs.RequestActs.{is_name}
use Rattle.fuse_sessions.specs.Warnings.{listing_acts}

-- how often acts give a node
abbrev pub gives : ℕ → List Act → ℕ
gives id acts = sum_by (gives_most id) acts

pub gives_append : (id : ℕ) (xs ys : List Act) → gives id (xs ++ ys) ≡ gives id xs + gives id ys
gives_append id xs ys = sum_by-append (gives_most id) xs ys

-- ---- an entry

abbrev pub time_of : ℕ → ℕ → ℕ
time_of id node = cond (nat_eq node id) 1 0

module _ (id : ℕ) (low : 2 ≤ id) where
  entry_gives : (certain : Bool) (o : Opcode) (a : Asked) (e : Entry) → time_of id e.nodeid ≤ gives id (entry_acts certain o a e)
  entry_gives certain o a e = by (nat_eq e.nodeid 1) (nat_eq e.nodeid 0) refl refl
    where
      gift : time_of id e.nodeid ≤ gives id (gift_acts certain a e)
      gift =
          let last : List Act = act.Gives e.nodeid (file_of e) (certain && is_counted a e) ∷ [] in
          let both = gives_append id (kind_acts a e) last in
          let one : gives id last ≡ time_of id e.nodeid + 0 = sum_by-cons (gives_most id) (act.Gives e.nodeid (file_of e) (certain && is_counted a e)) [] in
          omega (arith, both, one)

      by : (root none : Bool) → nat_eq e.nodeid 1 ≡ root → nat_eq e.nodeid 0 ≡ none
          → time_of id e.nodeid ≤ gives id (if root then root_acts a else (if none then (if may_be_missing o then []
          else act.Faulty fault.EntryOfNoNode ∷ []) else gift_acts certain a e))
      by true none is other = grind (arith, nat_tests, is, low)
      by false true other is = grind (arith, nat_tests, is, low)
      by false false other none = gift

  -- ---- a listing

  unfoldable pub lookups_in : Option KernelEntry → ℕ
  lookups_in None = 0
  lookups_in (Some g) = time_of id g.nodeid

  pub listed_count : (o : Option KernelEntry) (files : List KernelEntry)
      → count_by (λ (g : KernelEntry). nat_eq g.nodeid id) (first_listed o files)
      ≡ lookups_in o + count_by (λ (g : KernelEntry). nat_eq g.nodeid id) files
  unfolding lookups_in
  listed_count None files = omega arith
  listed_count (Some g) files = count_by-cons (λ (g : KernelEntry). nat_eq g.nodeid id) g files

  file_time : (e : Entry) → lookups_in (file_named (entry_said e)) ≤ time_of id e.nodeid
  unfolding lookups_in
  file_time e = by (e.nodeid == 0)
    where
      by : (b : Bool) → lookups_in (file_named (if b then missing e.name_validity.seconds e.name_validity.nanoseconds
          else found e.nodeid e.generation e.name_validity.seconds e.name_validity.nanoseconds
          (attr_said e.attributes))) ≤ time_of id e.nodeid
      by true = omega arith
      by false = omega arith

  dots : (name : List ℕ) → (is_name name (codes ".") || is_name name (codes "..")) ≡ true → is_dots name ≡ true
  dots [] is = refl
  dots (a ∷ []) is = by (nat_eq a 46) refl
    where
      by : (b : Bool) → nat_eq a 46 ≡ b → nat_eq a 46 ≡ true
      by true e = e
      by false e = absurd (false≢true (rw e at is))
  dots (a ∷ b ∷ []) is = by (nat_eq a 46) (nat_eq b 46) refl refl
    where
      by : (c d : Bool) → nat_eq a 46 ≡ c → nat_eq b 46 ≡ d → cond (nat_eq a 46) (nat_eq b 46) false ≡ true
      by true true e f = rw (e, f) refl
      by true false e f = absurd (false≢true (rw (e, f) at is))
      by false d e f = absurd (false≢true (rw e at is))
  dots (a ∷ b ∷ c ∷ name) is = by (nat_eq a 46) (nat_eq b 46) refl refl
    where
      by : (c d : Bool) → nat_eq a 46 ≡ c → nat_eq b 46 ≡ d → false ≡ true
      by true true e f = rw (e, f) at is
      by true false e f = rw (e, f) at is
      by false d e f = rw e at is

  record_gives : (certain : Bool) (a : Asked) (r : EntryRecordContent)
      → lookups_in (listed_by (pair_in (dirent_plus_said r))) ≤ gives id (record_acts certain a r)
  unfolding lookups_in
  record_gives certain a r = by (is_name r.said.name (codes ".") || is_name r.said.name (codes "..")) refl
    where
      shown : (b : Bool) → lookups_in (cond b None (file_named (entry_said r.entry))) ≤ time_of id r.entry.nodeid
      shown true = omega arith
      shown false = file_time r.entry

      none : lookups_in (listed_by (pair_in (dirent_plus_said r))) ≤ time_of id r.entry.nodeid
      none = shown (is_dots r.said.name)

      by : (b : Bool) → (is_name r.said.name (codes ".") || is_name r.said.name (codes "..")) ≡ b
          → lookups_in (listed_by (pair_in (dirent_plus_said r)))
          ≤ gives id (if b then [] else entry_acts certain op.Readdirplus a r.entry)
      by true is =
          let nothing : lookups_in (listed_by (pair_in (dirent_plus_said r))) ≡ 0 =
          ap (λ (b : Bool). lookups_in (cond b None (file_named (entry_said r.entry)))) (dots r.said.name is) in
          omega (arith, nothing)
      by false is = let one = entry_gives certain op.Readdirplus a r.entry in omega (arith, one, none)

  records_give : (certain : Bool) (a : Asked) (rs : List EntryRecordContent)
      → count_by (λ (g : KernelEntry). nat_eq g.nodeid id) (files_listed (map pair_in (map dirent_plus_said rs)))
      ≤ gives id (flat_map (record_acts certain a) rs)
  records_give certain a [] = omega arith
  records_give certain a (r ∷ rs) =
      let both = gives_append id (record_acts certain a r) (flat_map (record_acts certain a) rs) in
      let one = record_gives certain a r in
      let more = records_give certain a rs in
      let sum = listed_count (listed_by (pair_in (dirent_plus_said r))) (files_listed (map pair_in (map dirent_plus_said rs))) in
      omega (arith, both, one, more, sum)

-- ---- a listing behind a header

reads_drop : (n : ℕ) (fs : List Field) (place : ℕ) (bytes : List ℕ) → n ≤ length bytes → ReadsAs (n + place) fs bytes
    → ReadsAs place fs (drop n bytes)
unfolding number_at bytes_at
reads_drop n [] place bytes le h = omega (arith, length-drop n bytes, h)
reads_drop n (holds width value ∷ fs) place bytes le h = (
  ap (λ (l : List ℕ). number_at 0 width l) (drop-drop place n bytes) ∙ h.0,
  reads_drop n fs (place + width) bytes le (subst (λ (p : ℕ). ReadsAs p fs bytes) (omega arith) h.1),
)
reads_drop n (free width value ∷ fs) place bytes le h =
    reads_drop n fs (place + width) bytes le (subst (λ (p : ℕ). ReadsAs p fs bytes) (omega arith) h)
reads_drop n (bits mask value ∷ fs) place bytes le h = (
  ap (λ (l : List ℕ). bit_and (number_at 0 4 l) mask) (drop-drop place n bytes) ∙ h.0,
  reads_drop n fs (place + 4) bytes le (subst (λ (p : ℕ). ReadsAs p fs bytes) (omega arith) h.1),
)
reads_drop n (named name ∷ fs) place bytes le h = (
  h.0,
  ap (λ (l : List ℕ). bytes_at 0 (length name + 1) l) (drop-drop place n bytes) ∙ h.1,
  reads_drop n fs (place + (length name + 1)) bytes le (subst (λ (p : ℕ). ReadsAs p fs bytes) (omega arith) h.2),
)
reads_drop n (raw data' ∷ fs) place bytes le h = (
  ap (λ (l : List ℕ). bytes_at 0 (length data') l) (drop-drop place n bytes) ∙ h.0,
  reads_drop n fs (place + length data') bytes le (subst (λ (p : ℕ). ReadsAs p fs bytes) (omega arith) h.1),
)

-- A listing is the same read behind the header alone.
pub listed_behind : (ps : List DirentPlusContent) (bytes : List ℕ) → HaveEntries ps → 16 ≤ length bytes
    → ReadsAs 16 (direntpluses ps) bytes → map dirent_plus_said (entry_records_from 0 (drop 16 bytes)) ≡ ps
listed_behind ps bytes good long reads =
    let one = one_plus_list ps 0 (drop 16 bytes) good (reads_drop 16 (direntpluses ps) 0 bytes long reads) in
    listed_plus (length ps) 0 (drop 16 bytes) one.1 ∙ one.0

-- ---- what a reply says

-- It names nodes, or an open file.
abbrev pub IsNaming : AnswerContent → Type 0
IsNaming (answer.entry e) = Unit {0}
IsNaming (answer.opened file) = Unit {0}
IsNaming (answer.created e file) = Unit {0}
IsNaming (answer.entry_records rs) = Unit {0}
IsNaming content = ⊥

-- Such an answer does not depend on how many bytes were asked for.
same_content : (s : ReplyShape) (asked other : ℕ) (bytes : List ℕ) → IsNaming (content_at s asked bytes)
    → content_at s other bytes ≡ content_at s asked bytes
same_content (shape.Sized place) asked other bytes names = by (asked == 0) names
  where
    by : (b : Bool) → IsNaming (if b then answer.number (number_at 16 4 bytes) else answer.raw (drop 16 bytes))
        → content_at (shape.Sized place) other bytes ≡ content_at (shape.Sized place) asked bytes
    by true never = absurd never
    by false never = absurd never
same_content s asked other bytes names = refl

pub same_answer : (s : ReplyShape) (asked other : ℕ) (bytes : List ℕ) → IsNaming (answer_at s asked bytes)
    → answer_at s other bytes ≡ answer_at s asked bytes
same_answer s asked other bytes names = by (number_at 4 4 bytes == 0) names
  where
    by : (b : Bool) → IsNaming (if b then content_at s asked bytes else answer.failed (errno_in bytes))
        → (if b then content_at s other bytes else answer.failed (errno_in bytes))
        ≡ (if b then content_at s asked bytes else answer.failed (errno_in bytes))
    by true names = same_content s asked other bytes names
    by false names = absurd names

-- It is an entry, an open file, or both.
abbrev pub IsEntered : AnswerContent → Type 0
IsEntered (answer.entry e) = Unit {0}
IsEntered (answer.opened file) = Unit {0}
IsEntered (answer.created e file) = Unit {0}
IsEntered content = ⊥

pub entered_names : (content : AnswerContent) → IsEntered content → IsNaming content
entered_names (answer.entry e) is = tt
entered_names (answer.opened file) is = tt
entered_names (answer.created e file) is = tt
entered_names content is = absurd is

same_size : (s : ReplyShape) (asked other n : ℕ) (bytes : List ℕ) → IsEntered (content_at s asked bytes) → HasSize s asked n
    → HasSize s other n
same_size (shape.AtMost place) asked other n bytes is has = absurd is
same_size (shape.Records place) asked other n bytes is has = absurd is
same_size (shape.EntryRecords place) asked other n bytes is has = absurd is
same_size (shape.Sized place) asked other n bytes is has = by (asked == 0) is
  where
    by : (b : Bool) → IsEntered (if b then answer.number (number_at 16 4 bytes) else answer.raw (drop 16 bytes))
        → HasSize (shape.Sized place) other n
    by true never = absurd never
    by false never = absurd never
same_size s asked other n bytes is has = has

same_body : (s : ReplyShape) (asked other : ℕ) (bytes : List ℕ) → IsEntered (answer_at s asked bytes) → IsBody s asked bytes
    → IsBody s other bytes
same_body s asked other bytes is body = by (number_at 4 4 bytes == 0) is body
  where
    by : (b : Bool) → IsEntered (if b then content_at s asked bytes else answer.failed (errno_in bytes))
        → MatchBool b (HasSize s asked (length bytes - 16)) (length bytes ≡ 16)
        → MatchBool b (HasSize s other (length bytes - 16)) (length bytes ≡ 16)
    by true is has = same_size s asked other (length bytes - 16) bytes is has
    by false is has = absurd is

-- Such a reply is one whatever was asked for.
pub same_reply : (agreed : Agreed) (s : ReplyShape) (asked other : ℕ) (bytes : List ℕ) (m : ReplyMessage)
    → IsReply agreed s asked bytes m → IsEntered m.answer → IsReply agreed s other bytes m
same_reply agreed s asked other bytes m is enters =
    let here : IsEntered (answer_at s asked bytes) = subst IsEntered (sym is.answer) enters in record {
      wanted = is.wanted;
      frame = is.frame;
      error = is.error;
      body = same_body s asked other bytes here is.body;
      names = is.names;
      unique = is.unique;
      answer = same_answer s asked other bytes (entered_names (answer_at s asked bytes) here) ∙ is.answer;
    }

module _ (id : ℕ) (low : 2 ≤ id) where
  -- ---- what the codec names

  entry_times : (e : Entry) → times_named id (wire_body (entry_reply (entry_said e))) ≤ time_of id e.nodeid
  entry_times e = by (e.nodeid == 0)
    where
      by : (b : Bool) → times_named id (wire_body (entry_reply (if b then missing e.name_validity.seconds
          e.name_validity.nanoseconds else found e.nodeid e.generation e.name_validity.seconds e.name_validity.nanoseconds
          (attr_said e.attributes)))) ≤ time_of id e.nodeid
      by true = omega arith
      by false =
          let one = count_by-cons (λ (g : KernelEntry). nat_eq g.nodeid id)
          (entry_in e.nodeid e.generation (attr_said e.attributes)) [] in
          omega (arith, one)

  created_times : (e : Entry) (fh : ℕ) → times_named id (wire_body (create_reply (entry_said e) fh)) ≤ time_of id e.nodeid
  created_times e fh = by (e.nodeid == 0)
    where
      none : nat_eq 0 id ≡ false
      none = grind (arith, nat_tests, low)

      by : (b : Bool) → times_named id (wire_body (create_reply (if b then missing e.name_validity.seconds
          e.name_validity.nanoseconds else found e.nodeid e.generation e.name_validity.seconds e.name_validity.nanoseconds
          (attr_said e.attributes)) fh)) ≤ time_of id e.nodeid
      by true =
          let one : count_by (λ (g : KernelEntry). nat_eq g.nodeid id) (no_entry ∷ []) ≡ time_of id 0 + 0 =
          count_by-cons (λ (g : KernelEntry). nat_eq g.nodeid id) no_entry [] in
          let zero : time_of id 0 ≡ 0 = ap (λ (b : Bool). cond {A = ℕ} b 1 0) none in
          omega (arith, one, zero)
      by false =
          let one = count_by-cons (λ (g : KernelEntry). nat_eq g.nodeid id)
          (entry_in e.nodeid e.generation (attr_said e.attributes)) [] in
          omega (arith, one)

  -- ---- what the acts give

  module _ (k : Known) (bytes : List ℕ) (a : Asked) (o : Opcode) (acts : List Act) (later : Known)
      (does : IsReplyOf k bytes taken.Accepted o a acts later) where
    -- What the acts of an answer give, those of the reply give.
    last_gives : (xs ys zs : List Act) → acts ≡ xs ++ (ys ++ zs) → gives id zs ≤ gives id acts
    last_gives xs ys zs same =
        let all : gives id acts ≡ gives id (xs ++ (ys ++ zs)) = ap (gives id) same in
        let one = gives_append id xs (ys ++ zs) in
        let two = gives_append id ys zs in
        omega (arith, all, one, two)

    answer_gives : (m : ReplyMessage) → (content : AnswerContent) → m.answer ≡ content
        → acts ≡ replied bytes taken.Accepted (fit_in (row_at o).reply a.asked bytes) ++ said_acts k o a taken.Accepted m.answer
        → gives id (answer_acts o a content) ≤ gives id acts
    answer_gives m content is same = last_gives (replied bytes taken.Accepted (fit_in (row_at o).reply a.asked bytes))
        (init_acts k.offered content) (answer_acts o a content)
        (same ∙ ap (λ (c : AnswerContent). replied bytes taken.Accepted (fit_in (row_at o).reply a.asked bytes)
        ++ said_acts k o a taken.Accepted c) is)

    -- an entry, or one with an open file
    entered_gives : (r : ReplyMessage) (asked : ℕ) → IsReply k.agreed (row_at o).reply asked bytes r → IsEntered r.answer
        → gives id (answer_acts o a r.answer) ≤ gives id acts
    entered_gives r asked reads enters = by does
      where
        here : IsNaming (answer_at (row_at o).reply asked bytes)
        here = subst IsNaming (sym reads.answer) (entered_names r.answer enters)

        by : IsReplyOf k bytes taken.Accepted o a acts later → gives id (answer_acts o a r.answer) ≤ gives id acts
        by (inl (m, is, (same, told))) = answer_gives m r.answer
            (sym is.answer ∙ same_answer (row_at o).reply asked a.asked bytes here ∙ reads.answer) same
        by (inr (none, same)) =
            absurd (none r (same_reply k.agreed (row_at o).reply asked a.asked bytes r reads enters))

    -- a listing
    listing_gives : o ≡ op.Readdirplus → (r : ReplyMessage) (asked : ℕ) → IsReply k.agreed (row_at o).reply asked bytes r
        → number_at 4 4 bytes ≡ 0 → (rs : List EntryRecordContent) → r.answer ≡ answer.entry_records rs
        → (ps : List DirentPlusContent) → map dirent_plus_said rs ≡ ps
        → map dirent_plus_said (entry_records_from 0 (drop 16 bytes)) ≡ ps
        → count_by (λ (g : KernelEntry). nat_eq g.nodeid id) (files_listed (map pair_in ps)) ≤ gives id acts
    listing_gives plus r asked reads zero rs is ps same behind = by does
      where
        times : (rs : List EntryRecordContent) → map dirent_plus_said rs ≡ ps → (certain : Bool)
            → count_by (λ (g : KernelEntry). nat_eq g.nodeid id) (files_listed (map pair_in ps))
            ≤ gives id (flat_map (record_acts certain a) rs)
        times rs same certain = subst (λ (l : List DirentPlusContent). count_by (λ (g : KernelEntry). nat_eq g.nodeid id)
            (files_listed (map pair_in l)) ≤ gives id (flat_map (record_acts certain a) rs)) same (records_give id low certain a rs)

        here : IsNaming (answer_at (row_at o).reply asked bytes)
        here = subst IsNaming (sym (reads.answer ∙ is)) tt

        by : IsReplyOf k bytes taken.Accepted o a acts later
            → count_by (λ (g : KernelEntry). nat_eq g.nodeid id) (files_listed (map pair_in ps)) ≤ gives id acts
        by (inl (m, reads', (does', told))) =
            let all = answer_gives m (answer.entry_records rs)
            (sym reads'.answer ∙ same_answer (row_at o).reply asked a.asked bytes here ∙ reads.answer ∙ is) does' in
            let parts = gives_append id (flat_map (record_acts true a) rs)
            (listing_acts a.lists_from (map (λ (x : EntryRecordContent). x.said.off) rs)) in
            let one = times rs same true in
            omega (arith, all, parts, one)
        by (inr (none, (does', told))) =
            let front : List Act = act.Faulty fault.BodyOfAnotherRequest
            ∷ replied bytes taken.Accepted (fit_of_another (fit_in (row_at o).reply a.asked bytes)) in
            let listed : listed_acts o a taken.Accepted bytes
            ≡ flat_map (record_acts false a) (entry_records_from 0 (drop 16 bytes)) =
            ap (λ (p : Opcode). listed_acts p a taken.Accepted bytes) plus ∙ rw zero refl in
            let all = last_gives front [] (listed_acts o a taken.Accepted bytes) does' in
            let one = times (entry_records_from 0 (drop 16 bytes)) behind false in
            let same_gives = ap (gives id) listed in
            omega (arith, all, one, same_gives)

-- ---- all replies

pluses : (o : CodecOpcode) → reply_kind latest_minor o ≡ Some (kind_of_content (plus_reply [])) → table_opcode o ≡ op.Readdirplus
pluses codec_op.Readdirplus is = refl
pluses o is = absurd (cc is)

module _ (id : ℕ) (low : 2 ≤ id) (k : Known) (carries : Carries k.agreed) (bytes : List ℕ) (o : CodecOpcode) (a : Asked)
    (acts : List Act) (later : Known) (does : IsReplyOf k bytes taken.Accepted (table_opcode o) a acts later) where
  module _ (t : CodecReply) (spells : SpellsReply o bytes t) (none : t.error ≡ pos 0) (r : ReplyMessage)
      (reads : IsReply k.agreed (row_at (table_opcode o)).reply (length bytes) bytes r) where
    zero : number_at 4 4 bytes ≡ 0
    zero = spells.5.1.0 ∙ ap (cast_unsigned w32) none

    entered : (content : AnswerContent) → IsEntered content → r.answer ≡ content
        → gives id (answer_acts (table_opcode o) a content) ≤ gives id acts
    entered content is same = subst (λ (c : AnswerContent). gives id (answer_acts (table_opcode o) a c) ≤ gives id acts) same
        (entered_gives id low k bytes a (table_opcode o) acts later does r (length bytes) reads (subst IsEntered (sym same) is))

    -- a listing is READDIRPLUS's
    is_plus : (ps : List DirentPlusContent) → t.content ≡ plus_reply ps → table_opcode o ≡ op.Readdirplus
    is_plus ps is = pluses o (spells.2.1 ∙ ap Some (sym kind) ∙ ap (λ (c : ReplyContent). Some (kind_of_content c)) is)
      where
        kind : kind_of_content t.content ≡ spells.2.0
        kind = spells.2.2
            ∙ ap (λ (e : ℤ). if cast_unsigned w32 e == 0 then spells.2.0 else kind_of_content empty_reply) none

    content_gives : (content : ReplyContent) (said : AnswerContent) → t.content ≡ content → r.answer ≡ said
        → SayTheSame t.error content said → times_named id (wire_body content) ≤ gives id acts
    content_gives (entry_reply e) (answer.entry given) is same says =
        let all = entered (answer.entry given) tt same in
        let one = entry_gives id low true (table_opcode o) a given in
        let times = subst (λ (x : EntryContent). times_named id (wire_body (entry_reply x)) ≤ time_of id given.nodeid) says
        (entry_times id low given) in
        omega (arith, all, one, times)
    content_gives (create_reply e fh) (answer.created given handle) is same says =
        let all = entered (answer.created given handle) tt same in
        let parts = gives_append id (entry_acts true (table_opcode o) a given)
        (if is_opened a given then opening (table_opcode o) given.nodeid handle.handle else []) in
        let one = entry_gives id low true (table_opcode o) a given in
        let times = subst (λ (x : EntryContent). times_named id (wire_body (create_reply x fh)) ≤ time_of id given.nodeid) says.0
        (created_times id low given fh) in
        omega (arith, all, parts, one, times)
    content_gives (plus_reply ps) (answer.entry_records given) is same says =
        listing_gives id low k bytes a (table_opcode o) acts later does (is_plus ps is) r (length bytes) reads zero given same ps
        says (listed_behind ps bytes (subst IsReplyContent is spells.3) reads.frame.0
        (subst (λ (c : ReplyContent). ReadsAs 16 (reply_body c) bytes) is spells.5.1.1.1))
    content_gives (entry_reply e) said is same says = absurd says
    content_gives (create_reply e fh) said is same says = absurd says
    content_gives (plus_reply ps) said is same says = absurd says
    content_gives content said is same says = omega arith

  -- of a body
  body_gives : (t : CodecReply) → SpellsReply o bytes t → t.error ≡ pos 0
      → times_named id (wire_body t.content) ≤ gives id acts
  body_gives t spells none =
      let read = replied_alike latest_minor k.agreed o (length bytes) bytes t carries (omega arith) spells in
      content_gives t spells none read.0 read.1 t.content read.0.answer refl refl read.2.1

  said_gives : (t : CodecReply) → SpellsReply o bytes t → (error : ℤ) → t.error ≡ error
      → times_named id (wire_said error t.content) ≤ gives id acts
  said_gives t spells (pos n) is =
      let good : IsErrorNumber (pos n) = subst IsErrorNumber is spells.1 in
      let none : n ≡ 0 = omega (arith, ints, good.0) in
      body_gives t spells (is ∙ ap pos none)
  said_gives t spells (negsuc n) is = omega arith

  pub reply_gives : (wire : WireReply) → Says o bytes wire → times_named id wire ≤ gives id acts
  reply_gives wire says = subst (λ (w : WireReply). times_named id w ≤ gives id acts) says.says.says
      (said_gives says.says.message says.says.spells says.says.message.error refl)
