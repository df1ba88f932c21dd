-- How often the acts of a reply give a node: no oftener than the codec reads that it names it, and never where it is not accepted
-- or nothing waits for it.
use Rattle.std.proofs.Common.{◌≡◌, ◌≢◌, ◌⊎◌, ◌≤◌, ◌<◌, inl, inr, ℕ, ℤ, ◌+◌, ◌==◌, ◌||◌, ◌&&◌, Bool, true, false, cond, List, [], ◌∷◌, ◌++◌, length, map, drop, Option, Some, None, nat_eq, nat_le, codes, flat_map, refl, sym, ◌∙◌, ap, subst, arith, if◌then◌else◌}
use Rattle.std.specs.Prelude.{pos, negsuc, count_by}
use Rattle.std.specs.Int.{cast_unsigned, w32}
use Rattle.std.specs.List.{list_all}
use Rattle.std.proofs.lemmas.Bool.{and_parts, false≢true}
use Rattle.std.proofs.lemmas.Bool.Decides.{nat_tests}
use Rattle.std.proofs.lemmas.Int.{ints}
use Rattle.std.proofs.lemmas.List.Sums.{sum_by-cons}
use Rattle.fk_fields.specs.Fields.{ReadsAs, number_at}
use Rattle.fk_wire.specs.declared.opcode.Opcode.{Opcode as CodecOpcode}
use Rattle.fk_wire.specs.declared.opcode.Opcode.TheVariants as codec_op
use Rattle.fk_wire.specs.Dirents.{DirentPlusContent, HavePlusNames}
use Rattle.fk_wire.specs.Entries.{EntryContent, found, missing}
use Rattle.fk_wire.specs.Opcodes.{latest_minor}
use Rattle.fk_wire.specs.Replies.{IsErrorNumber, IsReplyContent, HasReplyNames, ReplyContent, SpellsReply, create_reply, empty_reply, entry_reply, kind_of_content, plus_reply, reply_body, reply_kind}
use Rattle.fk_wire.specs.Replies.{ReplyMessage as CodecReply}
use Rattle.fuse_spec.specs.declared.Entry.{Entry as KernelEntry}
use Rattle.fuse_spec.specs.Calls.Paths.{is_dots}
use Rattle.fuse_spec.specs.Claim.Counts.{times_named}
use Rattle.fuse_spec.specs.Files.Operations.{files_listed, listed_by}
use Rattle.fuse_spec.specs.Kernel.Messages.{WireReply}
use Rattle.fuse_spec.proofs.QueueCounts.{count_by-cons}
use Rattle.fuse_frames.specs.DecodedReplies.{Says}
use Rattle.fuse_frames.specs.ReplyTies.{entry_in, file_named, pair_in, wire_body, wire_said}
use Rattle.fuse_protocol.specs.declared.opcode.Opcode.{Opcode}
use Rattle.fuse_protocol.specs.declared.opcode.Opcode.TheVariants as op
use Rattle.fuse_protocol.specs.Pairs.{pairs_of_row}
use Rattle.fuse_protocol.specs.Requests.{RequestMessage}
use Rattle.fuse_protocol.specs.Table.{row_at}
use Rattle.fuse_replies.specs.declared.entry.Entry.{Entry}
use Rattle.fuse_protocol.specs.declared.row.ReplyShape.{ReplyShape}
use Rattle.fuse_replies.specs.Record.{EntryRecordContent, RecordContent}
use Rattle.fuse_replies.specs.Records.{entry_records_from}
use Rattle.fuse_replies.specs.Replies.{AnswerContent, IsReply, ReplyMessage, answer_at, content_at, errno_in}
use Rattle.fuse_replies.specs.Replies as answer
use Rattle.protocol_law.specs.Law.{Carries}
use Rattle.protocol_law.specs.ReplyLaw.{SayTheSame, attr_said, dirent_plus_said, entry_said, table_opcode}
use Rattle.protocol_law.proofs.RepliedAlike.{replied_alike}
use Rattle.fuse_sessions.specs.declared.act.Act.{Act}
use Rattle.fuse_sessions.specs.declared.act.Act.TheVariants as act
use Rattle.fuse_sessions.specs.declared.act.Asked.{Asked}
use Rattle.fuse_sessions.specs.declared.act.Fit.{Fit}
use Rattle.fuse_sessions.specs.declared.act.Fit.TheVariants as fit
use Rattle.fuse_sessions.specs.declared.act.Taken.{Taken}
use Rattle.fuse_sessions.specs.declared.act.Taken.TheVariants as taken
use Rattle.fuse_sessions.specs.declared.fault.Fault.TheVariants as fault
use Rattle.fuse_sessions.specs.declared.known.Known.{Known}
use Rattle.fuse_sessions.specs.Counts.{gives_most}
use Rattle.fuse_sessions.specs.Fits.{fit_in, fit_of_another}
use Rattle.fuse_sessions.specs.Frames.{IsNotified, IsReplyBy, IsReplyOf, IsReplyTo, IsWritten, error_in, init_acts, is_resend, is_to_interrupt, listed_acts, number_in, replied, said_acts}
use Rattle.fuse_sessions.specs.ReplyActs.{answer_acts, counting, entry_acts, failed_acts, file_of, gift_acts, is_counted, is_opened, kind_acts, may_be_missing, opening, record_acts, root_acts}
use Rattle.fuse_sessions.specs.RequestActs.{asked_of, asking, doing, forgets_in, is_name, request_acts, resend_bit, resent}
use Rattle.fuse_sessions.specs.Sessions.{Session}
use Rattle.fuse_sessions.specs.Waiting.{waits}
use Rattle.fuse_sessions.specs.Warnings.{listing_acts}
use Rattle.driven_sessions.proofs.Calm.{AreBare, by_bool, counting_bare, either, failed_bare, init_bare, is_bare, kind_bare, listing_bare, pass_on, replied_bare}
use Rattle.driven_sessions.proofs.Doing.{behind, behind_holds, is_handling, writing_passes}
use Rattle.driven_sessions.proofs.Gives.{IsNaming, gives, gives_append, listed_behind, listed_count, lookups_in, same_answer, time_of}

-- ---- acts that give nothing

abbrev pub is_no_gift : Act → Bool
is_no_gift (act.Gives node file certain) = false
is_no_gift a = true

abbrev pub GiveNothing : List Act → Type 0
GiveNothing acts = list_all is_no_gift acts ≡ true

pub none_given : (id : ℕ) (acts : List Act) → GiveNothing acts → gives id acts ≡ 0
none_given id [] are = refl
none_given id (a ∷ acts) are =
    let both = and_parts (is_no_gift a) (list_all is_no_gift acts) are in
    let first = none a both.0 in
    let rest = none_given id acts both.1 in
    let sum = sum_by-cons (gives_most id) a acts in
    omega (arith, first, rest, sum)
  where
    none : (a : Act) → is_no_gift a ≡ true → gives_most id a ≡ 0
    none (act.Gives node file certain) is = absurd (false≢true is)
    none a is = refl

no_gift_where_bare : (a : Act) → is_bare a ≡ true → is_no_gift a ≡ true
no_gift_where_bare (act.Gives node file certain) is = is
no_gift_where_bare a is = refl

bare_gives : (id : ℕ) (acts : List Act) → AreBare acts → gives id acts ≡ 0
bare_gives id acts are = none_given id acts (pass_on is_bare is_no_gift no_gift_where_bare acts are)

opening_gives : (id : ℕ) (o : Opcode) (node fh : ℕ) → gives id (opening o node fh) ≡ 0
opening_gives id op.Open node fh = refl
opening_gives id op.Opendir node fh = refl
opening_gives id op.Create node fh = refl
opening_gives id op.Tmpfile node fh = refl
opening_gives id o node fh = refl

opened_gives : (id : ℕ) (b : Bool) (o : Opcode) (node fh : ℕ) → gives id (if b then opening o node fh else []) ≡ 0
opened_gives id true o node fh = opening_gives id o node fh
opened_gives id false o node fh = refl

-- ---- an entry

module _ (id : ℕ) (low : 2 ≤ id) where
  entry_gives_only : (certain : Bool) (o : Opcode) (a : Asked) (e : Entry) → gives id (entry_acts certain o a e) ≤ time_of id e.nodeid
  entry_gives_only certain o a e = by (nat_eq e.nodeid 1) (nat_eq e.nodeid 0)
    where
      gift : gives id (gift_acts certain a e) ≤ time_of id e.nodeid
      gift =
          let last : List Act = act.Gives e.nodeid (file_of e) (certain && is_counted a e) ∷ [] in
          let both = gives_append id (kind_acts a e) last in
          let none = bare_gives id (kind_acts a e) (kind_bare a e) in
          let one : gives id last ≡ time_of id e.nodeid + 0 = sum_by-cons (gives_most id) (act.Gives e.nodeid (file_of e) (certain && is_counted a e)) [] in
          omega (arith, both, none, one)

      root : (b : Bool) → gives id (if b then [] else act.Faulty fault.EntryOfTheRoot ∷ []) ≡ 0
      root true = refl
      root false = refl

      missed : (b : Bool) → gives id (if b then [] else act.Faulty fault.EntryOfNoNode ∷ []) ≡ 0
      missed true = refl
      missed false = refl

      by : (is_root none : Bool) → gives id (if is_root then root_acts a else (if none then (if may_be_missing o then []
          else act.Faulty fault.EntryOfNoNode ∷ []) else gift_acts certain a e)) ≤ time_of id e.nodeid
      by true none = let zero = root a.is_dots in omega (arith, zero)
      by false true = let zero = missed (may_be_missing o) in omega (arith, zero)
      by false false = gift

  none_named : (n : ℕ) → (n == 0) ≡ true → time_of id n ≡ 0
  none_named n is = by (nat_eq n id) refl
    where
      by : (b : Bool) → nat_eq n id ≡ b → cond {A = ℕ} b 1 0 ≡ 0
      by true e = absurd (apart e)
        where
          apart : nat_eq n id ≡ true → ⊥
          apart e = grind (arith, nat_tests, e, is, low)
      by false e = refl

  -- The codec names the node as often.
  entry_named : (e : Entry) → time_of id e.nodeid ≤ times_named id (wire_body (entry_reply (entry_said e)))
  entry_named e = by (e.nodeid == 0) refl
    where
      by : (b : Bool) → (e.nodeid == 0) ≡ b → time_of id e.nodeid ≤ times_named id (wire_body (entry_reply (if b then
          missing e.name_validity.seconds e.name_validity.nanoseconds else found e.nodeid e.generation e.name_validity.seconds
          e.name_validity.nanoseconds (attr_said e.attributes))))
      by true is = let none = none_named e.nodeid is in omega (arith, none)
      by false is =
          let one = count_by-cons (λ (g : KernelEntry). nat_eq g.nodeid id)
          (entry_in e.nodeid e.generation (attr_said e.attributes)) [] in
          omega (arith, one)

  created_named : (e : Entry) (fh : ℕ) → time_of id e.nodeid ≤ times_named id (wire_body (create_reply (entry_said e) fh))
  created_named e fh = by (e.nodeid == 0) refl
    where
      by : (b : Bool) → (e.nodeid == 0) ≡ b → time_of id e.nodeid ≤ times_named id (wire_body (create_reply (if b then
          missing e.name_validity.seconds e.name_validity.nanoseconds else found e.nodeid e.generation e.name_validity.seconds
          e.name_validity.nanoseconds (attr_said e.attributes)) fh))
      by true is = let none = none_named e.nodeid is in omega (arith, none)
      by false is =
          let one = count_by-cons (λ (g : KernelEntry). nat_eq g.nodeid id)
          (entry_in e.nodeid e.generation (attr_said e.attributes)) [] in
          omega (arith, one)

  -- ---- a listing

  file_named_time : (e : Entry) → time_of id e.nodeid ≤ lookups_in id low (file_named (entry_said e))
  unfolding lookups_in
  file_named_time e = by (e.nodeid == 0) refl
    where
      by : (b : Bool) → (e.nodeid == 0) ≡ b → time_of id e.nodeid ≤ lookups_in id low (file_named (if b then
          missing e.name_validity.seconds e.name_validity.nanoseconds else found e.nodeid e.generation e.name_validity.seconds
          e.name_validity.nanoseconds (attr_said e.attributes)))
      by true is = let none = none_named e.nodeid is in omega (arith, none)
      by false is = omega arith

  dots_only : (name : List ℕ) → 0 < length name → (is_name name (codes ".") || is_name name (codes "..")) ≡ false
      → is_dots name ≡ false
  dots_only [] some is = absurd (omega (arith, some))
  dots_only (a ∷ []) some is = by (nat_eq a 46) refl
    where
      by : (b : Bool) → nat_eq a 46 ≡ b → nat_eq a 46 ≡ false
      by true e = absurd (false≢true (sym (rw e at is)))
      by false e = e
  dots_only (a ∷ b ∷ []) some is = by (nat_eq a 46) (nat_eq b 46) refl refl
    where
      by : (c d : Bool) → nat_eq a 46 ≡ c → nat_eq b 46 ≡ d → cond (nat_eq a 46) (nat_eq b 46) false ≡ false
      by true true e f = absurd (false≢true (sym (rw (e, f) at is)))
      by true false e f = rw (e, f) refl
      by false d e f = rw e refl
  dots_only (a ∷ b ∷ c ∷ name) some is = refl

  record_gives_only : (certain : Bool) (a : Asked) (r : EntryRecordContent) → 0 < length r.said.name
      → gives id (record_acts certain a r) ≤ lookups_in id low (listed_by (pair_in (dirent_plus_said r)))
  unfolding lookups_in
  record_gives_only certain a r some = by (is_name r.said.name (codes ".") || is_name r.said.name (codes "..")) refl
    where
      by : (b : Bool) → (is_name r.said.name (codes ".") || is_name r.said.name (codes "..")) ≡ b
          → gives id (if b then [] else entry_acts certain op.Readdirplus a r.entry)
          ≤ lookups_in id low (listed_by (pair_in (dirent_plus_said r)))
      by true is = omega arith
      by false is =
          let one = entry_gives_only certain op.Readdirplus a r.entry in
          let named = file_named_time r.entry in
          let same : lookups_in id low (listed_by (pair_in (dirent_plus_said r))) ≡ lookups_in id low (file_named (entry_said r.entry)) =
          ap (λ (b : Bool). lookups_in id low (cond b None (file_named (entry_said r.entry)))) (dots_only r.said.name some is) in
          omega (arith, one, named, same)

  records_give_only : (certain : Bool) (a : Asked) (rs : List EntryRecordContent) → HavePlusNames (map dirent_plus_said rs)
      → gives id (flat_map (record_acts certain a) rs)
      ≤ count_by (λ (g : KernelEntry). nat_eq g.nodeid id) (files_listed (map pair_in (map dirent_plus_said rs)))
  records_give_only certain a [] good = omega arith
  records_give_only certain a (r ∷ rs) good =
      let both = gives_append id (record_acts certain a r) (flat_map (record_acts certain a) rs) in
      let one = record_gives_only certain a r good.0.some in
      let more = records_give_only certain a rs good.1 in
      let sum = listed_count id low (listed_by (pair_in (dirent_plus_said r))) (files_listed (map pair_in (map dirent_plus_said rs))) in
      omega (arith, both, one, more, sum)

-- ---- an answer

-- A body's error is none.
said_body : (error : ℤ) → IsErrorNumber error → cast_unsigned w32 error ≡ 0 → (content : ReplyContent)
    → wire_body content ≡ wire_said error content
said_body (pos n) good zero content = refl
said_body (negsuc n) good zero content = absurd (omega (arith, ints, zero, good.1))

module _ (id : ℕ) (low : 2 ≤ id) (k : Known) (carries : Carries k.agreed) (bytes : List ℕ) (o : CodecOpcode) (a : Asked) (acts : List Act)
    (later : Known) (does : IsReplyOf k bytes taken.Accepted (table_opcode o) a acts later) (t : CodecReply) (spells : SpellsReply o bytes t) where
  abbrev p : Opcode
  p = table_opcode o

  word : number_at 4 4 bytes ≡ cast_unsigned w32 t.error
  word = spells.5.1.0

  -- What is read as a body is said.
  bodied : number_at 4 4 bytes ≡ 0 → times_named id (wire_body t.content) ≡ times_named id (wire_said t.error t.content)
  bodied zero = ap (times_named id) (said_body t.error spells.1 (sym word ∙ zero) t.content)

  -- What gives a node, an answer says whatever was asked for.
  abbrev IsGiving : AnswerContent → Type 0
  IsGiving (answer.entry e) = Unit {0}
  IsGiving (answer.created e file) = Unit {0}
  IsGiving (answer.entry_records rs) = Unit {0}
  IsGiving said = ⊥

  -- ---- a body that fits

  content_only : (said : AnswerContent) (content : ReplyContent) → IsGiving said → t.content ≡ content → SayTheSame t.error content said
      → gives id (answer_acts p a said) ≤ times_named id (wire_body content)
  content_only (answer.entry given) (entry_reply e) giving same says =
      let one = entry_gives_only id low true p a given in
      let named = subst (λ (x : EntryContent). time_of id given.nodeid ≤ times_named id (wire_body (entry_reply x))) says
      (entry_named id low given) in
      omega (arith, one, named)
  content_only (answer.entry given) content giving same says = absurd says
  content_only (answer.created given handle) (create_reply e fh) giving same says =
      let parts = gives_append id (entry_acts true p a given)
      (if is_opened a given then opening p given.nodeid handle.handle else []) in
      let one = entry_gives_only id low true p a given in
      let none = opened_gives id (is_opened a given) p given.nodeid handle.handle in
      let named = subst (λ (x : EntryContent). time_of id given.nodeid ≤ times_named id (wire_body (create_reply x fh))) says.0
      (created_named id low given fh) in
      omega (arith, parts, one, none, named)
  content_only (answer.created given handle) content giving same says = absurd says
  content_only (answer.entry_records given) (plus_reply ps) giving same says =
      let good : HavePlusNames ps = subst HasReplyNames same spells.4 in
      let offsets : List ℕ = map (λ (x : EntryRecordContent). x.said.off) given in
      let parts = gives_append id (flat_map (record_acts true a) given) (listing_acts a.lists_from offsets) in
      let none = bare_gives id (listing_acts a.lists_from offsets) (listing_bare a.lists_from offsets) in
      let all = subst (λ (l : List DirentPlusContent). gives id (flat_map (record_acts true a) given)
      ≤ count_by (λ (g : KernelEntry). nat_eq g.nodeid id) (files_listed (map pair_in l))) says
      (records_give_only id low true a given (subst HavePlusNames (sym says) good)) in
      omega (arith, parts, none, all)
  content_only (answer.entry_records given) content giving same says = absurd says
  content_only said content giving same says = absurd giving

  giftless : (said : AnswerContent) → (IsGiving said → ⊥) → gives id (answer_acts p a said) ≡ 0
  giftless (answer.entry e) none = absurd (none tt)
  giftless (answer.created e file) none = absurd (none tt)
  giftless (answer.entry_records rs) none = absurd (none tt)
  giftless (answer.failed errno) none = bare_gives id (failed_acts p a.nodeid errno) (failed_bare p a.nodeid errno)
  giftless (answer.opened file) none = opening_gives id p a.nodeid file.handle
  giftless (answer.number n) none = bare_gives id (counting p n a.writes) (counting_bare p n a.writes)
  giftless (answer.records rs) none =
      let offsets : List ℕ = map (λ (r : RecordContent). r.off) rs in
      bare_gives id (listing_acts a.lists_from offsets) (listing_bare a.lists_from offsets)
  giftless said none = refl

  giving_names : (said : AnswerContent) → IsGiving said → IsNaming said
  giving_names (answer.entry e) is = tt
  giving_names (answer.created e file) is = tt
  giving_names (answer.entry_records rs) is = tt
  giving_names said is = absurd is

  -- It stands in a reply without an error.
  giving_zero : (s : ReplyShape) (asked : ℕ) (said : AnswerContent) → IsGiving said → answer_at s asked bytes ≡ said
      → number_at 4 4 bytes ≡ 0
  giving_zero s asked said is same = by (number_at 4 4 bytes == 0) refl (subst IsGiving (sym same) is)
    where
      by : (b : Bool) → (number_at 4 4 bytes == 0) ≡ b
          → IsGiving (if b then content_at s asked bytes else answer.failed (errno_in bytes)) → number_at 4 4 bytes ≡ 0
      by true zero giving = grind (arith, nat_tests, zero)
      by false some giving = absurd giving

  fits_only : (m : ReplyMessage) → IsReply k.agreed (row_at p).reply a.asked bytes m → IsGiving m.answer
      → gives id (answer_acts p a m.answer) ≤ times_named id (wire_said t.error t.content)
  fits_only m is giving =
      let read = replied_alike latest_minor k.agreed o (length bytes) bytes t carries (omega arith) spells in
      let here : IsNaming (answer_at (row_at p).reply a.asked bytes) = subst IsNaming (sym is.answer) (giving_names m.answer giving) in
      let same : read.0.answer ≡ m.answer =
      sym read.1.answer ∙ same_answer (row_at p).reply a.asked (length bytes) bytes here ∙ is.answer in
      let only = content_only m.answer t.content giving refl (subst (SayTheSame t.error t.content) same read.2.1) in
      let body = bodied (giving_zero (row_at p).reply a.asked m.answer giving is.answer) in
      omega (arith, only, body)

  -- ---- all acts

  replied_gives : (body : Fit) → gives id (replied bytes taken.Accepted body) ≡ 0
  replied_gives body = bare_gives id (replied bytes taken.Accepted body) (replied_bare bytes taken.Accepted body)

  giving_or : (m : ReplyMessage) → IsReply k.agreed (row_at p).reply a.asked bytes m → (said : AnswerContent) → m.answer ≡ said
      → gives id (answer_acts p a m.answer) ≤ times_named id (wire_said t.error t.content)
  giving_or m is (answer.entry e) same = fits_only m is (subst IsGiving (sym same) tt)
  giving_or m is (answer.created e file) same = fits_only m is (subst IsGiving (sym same) tt)
  giving_or m is (answer.entry_records rs) same = fits_only m is (subst IsGiving (sym same) tt)
  giving_or m is said same =
      let none : gives id (answer_acts p a m.answer) ≡ 0 = ap (λ (c : AnswerContent). gives id (answer_acts p a c)) same ∙ giftless said (λ giving. giving) in
      omega (arith, none)

  listed_only : (q : Opcode) → p ≡ q → gives id (listed_acts q a taken.Accepted bytes) ≤ times_named id (wire_said t.error t.content)
  listed_only op.Readdirplus plus = by (error_in bytes == 0) refl
    where
      listing : number_at 4 4 bytes ≡ 0 → gives id (flat_map (record_acts false a) (entry_records_from 0 (drop 16 bytes)))
          ≤ times_named id (wire_said t.error t.content)
      listing zero = by_content t.content refl
        where
          kind : kind_of_content t.content ≡ spells.2.0
          kind = spells.2.2 ∙ ap (λ (n : ℕ). if n == 0 then spells.2.0 else kind_of_content empty_reply) (sym word ∙ zero)

          is_plus : (q : CodecOpcode) → table_opcode q ≡ op.Readdirplus
              → reply_kind latest_minor q ≡ Some (kind_of_content (plus_reply []))
          is_plus codec_op.Readdirplus same = refl
          is_plus q same = absurd (cc same)

          by_content : (content : ReplyContent) → t.content ≡ content
              → gives id (flat_map (record_acts false a) (entry_records_from 0 (drop 16 bytes)))
              ≤ times_named id (wire_said t.error t.content)
          by_content (plus_reply ps) same =
              let good : HavePlusNames ps = subst HasReplyNames same spells.4 in
              let read = replied_alike latest_minor k.agreed o (length bytes) bytes t carries (omega arith) spells in
              let behind = listed_behind ps bytes (subst IsReplyContent same spells.3) read.1.frame.0
              (subst (λ (c : ReplyContent). ReadsAs 16 (reply_body c) bytes) same spells.5.1.1.1) in
              let all = subst (λ (l : List DirentPlusContent). gives id (flat_map (record_acts false a) (entry_records_from 0 (drop 16 bytes)))
              ≤ count_by (λ (g : KernelEntry). nat_eq g.nodeid id) (files_listed (map pair_in l))) behind
              (records_give_only id low false a (entry_records_from 0 (drop 16 bytes)) (subst HavePlusNames (sym behind) good)) in
              let body = bodied zero in
              let times : times_named id (wire_body t.content) ≡ times_named id (wire_body (plus_reply ps)) =
              ap (λ (c : ReplyContent). times_named id (wire_body c)) same in
              omega (arith, all, body, times)
          by_content content same = absurd (cc (ap kind_of_content same, kind, spells.2.1, is_plus o plus))

      by : (b : Bool) → (error_in bytes == 0) ≡ b
          → gives id (if b then flat_map (record_acts false a) (entry_records_from 0 (drop 16 bytes)) else [])
          ≤ times_named id (wire_said t.error t.content)
      by true zero = listing (grind (arith, nat_tests, zero))
      by false some = omega arith
  listed_only q other = omega arith

  message_only : gives id acts ≤ times_named id (wire_said t.error t.content)
  message_only = by does
    where
      by : IsReplyOf k bytes taken.Accepted p a acts later → gives id acts ≤ times_named id (wire_said t.error t.content)
      by (inl (m, is, (same, told))) =
          let body : Fit = fit_in (row_at p).reply a.asked bytes in
          let all : gives id acts ≡ gives id (replied bytes taken.Accepted body ++ (init_acts k.offered m.answer ++ answer_acts p a m.answer)) =
          ap (gives id) same in
          let one = gives_append id (replied bytes taken.Accepted body) (init_acts k.offered m.answer ++ answer_acts p a m.answer) in
          let two = gives_append id (init_acts k.offered m.answer) (answer_acts p a m.answer) in
          let first = replied_gives body in
          let second = bare_gives id (init_acts k.offered m.answer) (init_bare k.offered m.answer) in
          let only = giving_or m is m.answer refl in
          omega (arith, all, one, two, first, second, only)
      by (inr (none, (same, told))) =
          let body : Fit = fit_of_another (fit_in (row_at p).reply a.asked bytes) in
          let all : gives id acts ≡ gives id (replied bytes taken.Accepted body ++ listed_acts p a taken.Accepted bytes) =
          ap (gives id) same in
          let one = gives_append id (replied bytes taken.Accepted body) (listed_acts p a taken.Accepted bytes) in
          let first = replied_gives body in
          let only = listed_only p refl in
          omega (arith, all, one, first, only)

-- The acts of an accepted reply give a node no oftener than what the codec reads in it names it.
pub reply_gives_only : (id : ℕ) → 2 ≤ id → (k : Known) → Carries k.agreed → (bytes : List ℕ) (o : CodecOpcode) (a : Asked) (acts : List Act)
    (later : Known) → IsReplyOf k bytes taken.Accepted (table_opcode o) a acts later → (wire : WireReply) → Says o bytes wire
    → gives id acts ≤ times_named id wire
reply_gives_only id low k carries bytes o a acts later does wire says =
    subst (λ (w : WireReply). gives id acts ≤ times_named id w) says.says.says
    (message_only id low k carries bytes o a acts later does says.says.message says.says.spells)

-- ---- a request

row_none_given : (o : Opcode) (m : RequestMessage) (asked : Asked) → GiveNothing (act.Read (Some o) m.unique ∷ behind o m asked)
row_none_given o m asked = behind_holds is_no_gift no_gift_where_handling o m asked (writing_passes is_no_gift m refl o) refl
  where
    no_gift_where_handling : (a : Act) → is_handling a ≡ true → is_no_gift a ≡ true
    no_gift_where_handling (act.Gives node file certain) is = absurd (false≢true is)
    no_gift_where_handling a is = refl

forgets_none_given : (pairs : List (ℕ × ℕ)) → GiveNothing (forgets_in pairs)
forgets_none_given [] = refl
forgets_none_given (p ∷ pairs) = forgets_none_given pairs

doing_none_given : (again : Bool) (o : Opcode) (m : RequestMessage) → GiveNothing (doing again o m)
doing_none_given again op.Interrupt m = refl
doing_none_given again op.NotifyReply m = refl
doing_none_given again op.Forget m = refl
doing_none_given again op.BatchForget m = forgets_none_given (pairs_of_row (row_at op.BatchForget).tail m.tail)
doing_none_given again o m =
    either is_no_gift again (resent o m) (asking o m (asked_of o m)) refl (row_none_given o m (asked_of o m))

pub request_gives_nothing : (id : ℕ) (again : Bool) (o : Opcode) (m : RequestMessage) → gives id (request_acts again o m) ≡ 0
request_gives_nothing id again o m = none_given id (request_acts again o m) (doing_none_given (again && nat_le resend_bit m.unique) o m)

-- ---- what is written and gives nothing

module _ (id : ℕ) (k : Known) (bytes : List ℕ) (t : Taken) (acts : List Act) (later : Known) where
  replied_alone : (body : Fit) → gives id (replied bytes t body) ≡ 0
  replied_alone body = bare_gives id (replied bytes t body) (replied_bare bytes t body)

  refused_said : (t ≡ taken.Accepted → ⊥) → (o : Opcode) (a : Asked) (said : AnswerContent) → said_acts k o a t said ≡ []
  refused_said refused o a said = by t refused
    where
      by : (t : Taken) → (t ≡ taken.Accepted → ⊥) → said_acts k o a t said ≡ []
      by taken.Accepted refused = absurd (refused refl)
      by t refused = refl

  refused_listed : (t ≡ taken.Accepted → ⊥) → (o : Opcode) (a : Asked) → listed_acts o a t bytes ≡ []
  refused_listed refused o a = by o t refused
    where
      by : (o : Opcode) (t : Taken) → (t ≡ taken.Accepted → ⊥) → listed_acts o a t bytes ≡ []
      by op.Readdirplus taken.Accepted refused = absurd (refused refl)
      by op.Readdirplus t refused = refl
      by o t refused = refl

  refused_by : (t ≡ taken.Accepted → ⊥) → (o : Option Opcode) (a : Asked) → IsReplyBy k bytes t o a acts later → gives id acts ≡ 0
  refused_by refused None a is = ap (gives id) is.0 ∙ replied_alone fit.MayFit
  refused_by refused (Some o) a (inl (m, is, (same, told))) =
      let body : Fit = fit_in (row_at o).reply a.asked bytes in
      let all : gives id acts ≡ gives id (replied bytes t body ++ said_acts k o a t m.answer) = ap (gives id) same in
      let one = gives_append id (replied bytes t body) (said_acts k o a t m.answer) in
      let first = replied_alone body in
      let second = ap (gives id) (refused_said refused o a m.answer) in
      omega (arith, all, one, first, second)
  refused_by refused (Some o) a (inr (none, (same, told))) =
      let body : Fit = fit_of_another (fit_in (row_at o).reply a.asked bytes) in
      let all : gives id acts ≡ gives id (replied bytes t body ++ listed_acts o a t bytes) = ap (gives id) same in
      let one = gives_append id (replied bytes t body) (listed_acts o a t bytes) in
      let first = replied_alone body in
      let second = ap (gives id) (refused_listed refused o a) in
      omega (arith, all, one, first, second)

  -- Nothing waits for it, or it is not accepted.
  pub written_gives_nothing : (s : Session) → (waits s (number_in bytes) ≡ None) ⊎ (t ≡ taken.Accepted → ⊥)
      → IsWritten k s bytes t acts later → gives id acts ≡ 0
  written_gives_nothing s so (inl (head, is)) = by_bool (number_in bytes == 0) (gives id acts ≡ 0) _ _ (λ zero. notified)
      (λ some. by_bool (is_to_interrupt (number_in bytes) (waits s (number_in bytes))) (gives id acts ≡ 0) _ _
      (λ interrupt does. ap (gives id) does.0) (λ other. to (waits s (number_in bytes)) refl)) is
    where
      resends : (b : Bool) → gives id (if b then act.Resends ∷ [] else []) ≡ 0
      resends true = refl
      resends false = refl

      notified : IsNotified k bytes t acts later → gives id acts ≡ 0
      notified (inl (m, is, does)) = ap (gives id) does.0 ∙ resends (is_resend bytes t)
      notified (inr (not, does)) = ap (gives id) does.0

      to : (x : Option Asked) → waits s (number_in bytes) ≡ x → IsReplyTo k bytes t x acts later → gives id acts ≡ 0
      to None there does = ap (gives id) does.0 ∙ replied_alone fit.MayFit
      to (Some a) there does = refused_by (by so) a.opcode a does
        where
          by : (waits s (number_in bytes) ≡ None) ⊎ (t ≡ taken.Accepted → ⊥) → t ≡ taken.Accepted → ⊥
          by (inl none) = absurd (cc (there, none))
          by (inr refused) = refused
  written_gives_nothing s so (inr (bad, faulty, same)) = ap (gives id) faulty
