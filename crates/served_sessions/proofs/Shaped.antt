-- The body of a reply's frame is one of its request's opcode.
use Rattle.std.proofs.Common.{◌≡◌, ◌≢◌, ◌≤◌, ℕ, negsuc, ◌-◌, ◌==◌, Bool, true, false, List, [], ◌∷◌, length, Some, refl, sym, ◌∙◌, ap, subst, arith}
use Rattle.std.specs.Prelude.{MatchBool}
use Rattle.std.proofs.lemmas.Bool.{eqb-true}
use Rattle.std.specs.Int.{cast_unsigned, w32}
use Rattle.fk_fields.specs.Fields.{ReadsAs, number_at}
use Rattle.fk_wire.specs.declared.opcode.Opcode.{Opcode as Codec}
use Rattle.fk_wire.specs.declared.opcode.Opcode.TheVariants as codec
use Rattle.fk_wire.specs.Opcodes.{latest_minor, reply_kind_of}
use Rattle.fk_wire.specs.Opcodes as codecs
use Rattle.fk_wire.specs.Replies.{IsErrorNumber, ReplyContent, SpellsReply, bytes_reply, kind_of_content, plus_reply, records_reply, reply_body, write_reply}
use Rattle.fk_wire.specs.Replies.{ReplyMessage as CodecReply}
use Rattle.fuse_spec.specs.Kernel.Messages.{Request, WireReply}
use Rattle.fuse_spec.specs.Server.Nodes.{NodeTable}
use Rattle.fuse_spec.specs.Server.Server.{Server}
use Rattle.fuse_frames.specs.ReplyTies.{SaysReply, reply_content_of, wire_body}
use Rattle.fuse_frames.specs.RequestTies.{SaysRequest, asked_opcode}
use Rattle.fuse_protocol.specs.declared.agreed.Agreed.{Agreed}
use Rattle.fuse_protocol.specs.declared.opcode.Opcode.{Opcode}
use Rattle.fuse_protocol.specs.declared.names.NameRule.TheVariants as rule
use Rattle.fuse_protocol.specs.declared.row.ReplyShape.{ReplyShape}
use Rattle.fuse_protocol.specs.declared.row.ReplyShape.TheVariants as shape
use Rattle.fuse_protocol.specs.Names.{IsNameBy}
use Rattle.fuse_protocol.specs.Agreement.{before_init}
use Rattle.fuse_protocol.specs.Requests.{asked_at}
use Rattle.fuse_protocol.specs.Table.{code_of, row_at}
use Rattle.fuse_protocol.proofs.Codes.{same_opcode}
use Rattle.fuse_replies.specs.Record.{EntryRecordContent, RecordContent}
use Rattle.fuse_replies.specs.Records.{AreListed, AreListedPlus, entry_records_from, records_from}
use Rattle.fuse_replies.specs.Replies.{HasNames, HasSize, IsReply, ReplyMessage, answer_at, content_at}
use Rattle.fuse_sessions.specs.Frames.{error_in}
use Rattle.fuse_sessions.specs.UnreadRequests.{opcode_in}
use Rattle.protocol_law.specs.Law.{Carries}
use Rattle.protocol_law.specs.ReplyLaw.{SayTheSame, table_opcode}
use Rattle.protocol_law.proofs.RepliedAlike.{replied_alike}
use Rattle.served_sessions.specs.Entries.{HasEntries, HasEntriesIn}
use Rattle.served_sessions.specs.Exchanges.{HasBodyOf, SaysFew}
use Rattle.served_sessions.proofs.Bodies.{GoesFor, asked_bytes, frame_length, is_sized, kind_said, wire_length}
use Rattle.served_sessions.proofs.Entering.{content_entries, entries_of_any}
use Rattle.served_sessions.proofs.Gained.{Gains, GainsIn, IsDescribed, content_described, content_gains, described_of_any, entries_of, gains_of_any}
use Rattle.served_sessions.proofs.Given.{WireGives}
use Rattle.served_sessions.proofs.Heading.{error_shows}
use Rattle.served_sessions.proofs.Turned.{WireGains}
use Rattle.served_sessions.proofs.Requests.{frame_node, frame_opcode, frame_room, is_measured, is_room, room_measured}

-- ---- behind an error

carries_first : Carries before_init
carries_first = record { from_umask = omega arith; no_extensions = refl; names = omega arith }

pub bare_of : (o : Codec) (reply : List ℕ) (t : CodecReply) → SpellsReply o reply t → error_in reply ≢ 0
    → length reply ≡ 16
bare_of o reply t spells some =
    let one = replied_alike latest_minor before_init o (length reply) reply t carries_first (omega arith) spells in
    by (error_in reply == 0) refl one.1.body
  where
    by : (b : Bool) → (error_in reply == 0) ≡ b
        → MatchBool b (HasSize (row_at (table_opcode o)).reply (length reply) (length reply - 16)) (length reply ≡ 16)
        → length reply ≡ 16
    by true is h = absurd (some (eqb-true (error_in reply) 0 is))
    by false is h = h

-- ---- a body

table_code : (o : Codec) → code_of (table_opcode o) ≡ codecs.code_of o
table_code codec.Lookup = refl
table_code o = refl

room_at : (o : Codec) (bytes : List ℕ) → is_room o ≡ true
    → asked_at (row_at (table_opcode o)).reply bytes ≡ number_at 56 4 bytes
room_at codec.Read bytes is = refl
room_at codec.Readdir bytes is = refl
room_at codec.Readdirplus bytes is = refl
room_at o bytes is = cc

sized_kind : (o : Codec) (content : ReplyContent) → is_room o ≡ true → reply_kind_of o ≡ Some (kind_of_content content)
    → is_sized content ≡ true
sized_kind codec.Read (bytes_reply bytes) is e = refl
sized_kind codec.Readdir (records_reply ds) is e = refl
sized_kind codec.Readdirplus (plus_reply ps) is e = refl
sized_kind codec.Read content is e = absurd cc
sized_kind codec.Readdir content is e = absurd cc
sized_kind codec.Readdirplus content is e = absurd cc
sized_kind o content is e = absurd cc

no_copies : (o : Codec) → (codecs.code_of o ≢ 47) × (codecs.code_of o ≢ 53)
no_copies codec.Lookup = (λ e. omega (arith, e), λ e. omega (arith, e))
no_copies o = (λ e. omega (arith, e), λ e. omega (arith, e))

written_by : (o : Codec) → codecs.code_of o ≡ 16 → o ≡ codec.Write
written_by codec.Lookup e = absurd (omega (arith, e))
written_by codec.Write e = refl
written_by o e = absurd (omega (arith, e))

size_said : (content : ReplyContent) (reply : List ℕ) → reply_kind_of codec.Write ≡ Some (kind_of_content content)
    → ReadsAs 16 (reply_body content) reply → number_at 16 4 reply ≡ wire_length (wire_body content)
size_said (write_reply size) reply e reads = reads.0
size_said content reply e reads = absurd cc

size_fits : (o : Codec) (n m size : ℕ) → (is_room o ≡ true → size ≤ m) → HasSize (row_at (table_opcode o)).reply n size
    → HasSize (row_at (table_opcode o)).reply m size
size_fits codec.Read n m size few h = few refl
size_fits codec.Readdir n m size few h = few refl
size_fits codec.Readdirplus n m size few h = few refl
size_fits o n m size few h = h

resized : (agreed : Agreed) (shape : ReplyShape) (n m : ℕ) (reply : List ℕ) (r : ReplyMessage) → error_in reply ≡ 0
    → (HasSize shape n (length reply - 16) → HasSize shape m (length reply - 16)) → IsReply agreed shape n reply r
    → (q : ReplyMessage) × IsReply agreed shape m reply q
resized agreed shape n m reply r zero fits is =
    let here : HasSize shape n (length reply - 16) = rw zero at is.body in (
      record { unique = r.unique; answer = answer_at shape m reply },
      record {
        wanted = is.wanted;
        frame = is.frame;
        error = is.error;
        body = rw zero (fits here);
        names = is.names;
        unique = is.unique;
        answer = refl;
      },
    )

-- ---- of what was agreed on a reply looks at the length of names alone

same_name : (a b : Agreed) (name : List ℕ) → a.max_name ≡ b.max_name → IsNameBy a rule.Listed name
    → IsNameBy b rule.Listed name
same_name a b name same is = record {
  some = is.some;
  short = subst (λ (n : ℕ). length name ≤ n) same is.short;
  no_nul = is.no_nul;
  plain = is.plain;
}

listed_alike : (a b : Agreed) (rs : List RecordContent) → a.max_name ≡ b.max_name → AreListed a rs → AreListed b rs
listed_alike a b [] same h = tt
listed_alike a b (r ∷ rs) same h = (same_name a b r.name same h.0, listed_alike a b rs same h.1)

listed_plus_alike : (a b : Agreed) (rs : List EntryRecordContent) → a.max_name ≡ b.max_name → AreListedPlus a rs
    → AreListedPlus b rs
listed_plus_alike a b [] same h = tt
listed_plus_alike a b (r ∷ rs) same h = (same_name a b r.said.name same h.0, listed_plus_alike a b rs same h.1)

names_alike : (a b : Agreed) (s : ReplyShape) (bytes : List ℕ) → a.max_name ≡ b.max_name → HasNames a s bytes
    → HasNames b s bytes
names_alike a b (shape.Records place) bytes same h = listed_alike a b (records_from 16 bytes) same h
names_alike a b (shape.EntryRecords place) bytes same h = listed_plus_alike a b (entry_records_from 16 bytes) same h
names_alike a b s bytes same h = tt

named_alike : (a b : Agreed) (s : ReplyShape) (asked : ℕ) (bytes : List ℕ) (r : ReplyMessage) → a.max_name ≡ b.max_name
    → IsReply a s asked bytes r → IsReply b s asked bytes r
named_alike a b s asked bytes r same is = record {
  wanted = is.wanted;
  frame = is.frame;
  error = is.error;
  body = is.body;
  names = by (number_at 4 4 bytes == 0) is.names;
  unique = is.unique;
  answer = is.answer;
}
  where
    by : (e : Bool) → MatchBool e (HasNames a s bytes) (Unit {0}) → MatchBool e (HasNames b s bytes) (Unit {0})
    by true h = names_alike a b s bytes same h
    by false h = tt

module _ (bytes frame : List ℕ) (request : Request) (says : SaysRequest frame request)
    (opcode : opcode_in bytes ≡ opcode_in frame) (whole : is_measured (asked_opcode request.body) ≡ true → bytes ≡ frame)
    (o : Codec) (reply : List ℕ) (wire : WireReply) (said : SaysReply o reply request.unique wire)
    (goes : GoesFor request.body wire)
    (kind : error_in reply ≡ 0
    → reply_kind_of (asked_opcode request.body) ≡ Some (kind_of_content (reply_content_of wire))) where
  abbrev asked : Codec
  asked = asked_opcode request.body

  abbrev t : CodecReply
  t = said.message

  no_error : error_in reply ≡ 0 → cast_unsigned w32 said.message.error ≡ 0
  no_error zero = sym said.spells.5.1.0 ∙ zero

  shows : (n : ℕ) → said.message.error ≡ negsuc n → cast_unsigned w32 said.message.error ≢ 0
  shows n is zero = error_shows n (subst IsErrorNumber is said.spells.1) (ap (cast_unsigned w32) (sym is) ∙ zero)

  module _ (zero : error_in reply ≡ 0) where
    same_kind : reply_kind_of (asked_opcode request.body) ≡ Some (kind_of_content said.message.content)
    same_kind = kind zero ∙ ap Some (sym (kind_said said.message.error said.message.content wire (no_error zero) said.says shows).0)

    spells : SpellsReply (asked_opcode request.body) reply said.message
    spells = (
      said.spells.0,
      said.spells.1,
      (kind_of_content said.message.content, same_kind, rw (no_error zero) refl),
      said.spells.3,
      said.spells.4,
      said.spells.5,
    )

    size_asked : is_measured (asked_opcode request.body) ≡ true → number_at 56 4 bytes ≡ asked_bytes request.body
    size_asked is = ap (λ (b : List ℕ). number_at 56 4 b) (whole is) ∙ frame_room frame request says is

    -- no more is said to be written than was
    few_written : opcode_in bytes ≡ 16 → number_at 16 4 reply ≤ number_at 56 4 bytes
    few_written code =
        let is : asked_opcode request.body ≡ codec.Write =
        written_by (asked_opcode request.body) (sym (frame_opcode frame request says) ∙ sym opcode ∙ code) in
        let body = (kind_said said.message.error said.message.content wire (no_error zero) said.says shows).1 in
        let number = size_said said.message.content reply (ap reply_kind_of (sym is) ∙ same_kind) said.spells.5.1.1.1 in
        let same : wire_length (wire_body said.message.content) ≡ wire_length wire = ap wire_length body in
        let most : number_at 56 4 bytes ≡ asked_bytes request.body = size_asked (ap is_measured is) in
        omega (arith, number, same, most, goes.fits)

    says_few : SaysFew bytes reply
    says_few =
        let none = no_copies (asked_opcode request.body) in
        let code : opcode_in bytes ≡ codecs.code_of (asked_opcode request.body) =
        opcode ∙ frame_opcode frame request says in
        record { written = few_written; no_copy = (λ is. none.0 (sym code ∙ is), λ is. none.1 (sym code ∙ is)) }

    -- no more than was asked for
    few : is_room (asked_opcode request.body) ≡ true
        → length reply - 16 ≤ asked_at (row_at (table_opcode (asked_opcode request.body))).reply bytes
    few room =
        let body = (kind_said said.message.error said.message.content wire (no_error zero) said.says shows).1 in
        let sized = sized_kind (asked_opcode request.body) said.message.content room same_kind in
        let long = frame_length said.message.content reply said.spells.3 said.spells.5.1.1.1 sized in
        let is : wire_length (wire_body said.message.content) ≡ wire_length wire = ap wire_length body in
        let most : asked_at (row_at (table_opcode (asked_opcode request.body))).reply bytes ≡ asked_bytes request.body =
        room_at (asked_opcode request.body) bytes room ∙ size_asked (room_measured (asked_opcode request.body) room) in
        omega (arith, long, is, most, goes.fits)

    fits_as : (agreed : Agreed) → 255 ≤ agreed.max_name → (p : Opcode) → code_of p ≡ opcode_in bytes
        → (m : ReplyMessage) × IsReply agreed (row_at p).reply (asked_at (row_at p).reply bytes) reply m
    fits_as agreed names p code =
        let carried : Agreed = record before_init { max_name = agreed.max_name } in
        let same : table_opcode (asked_opcode request.body) ≡ p = same_opcode (table_opcode (asked_opcode request.body)) p
        (table_code (asked_opcode request.body) ∙ sym (frame_opcode frame request says) ∙ sym opcode ∙ sym code) in
        let one = replied_alike latest_minor carried (asked_opcode request.body) (length reply) reply said.message
        (record { from_umask = omega arith; no_extensions = refl; names = names }) (omega arith) spells in
        subst (λ (q : Opcode). (m : ReplyMessage) × IsReply agreed (row_at q).reply (asked_at (row_at q).reply bytes) reply m)
        same (resized agreed (row_at (table_opcode (asked_opcode request.body))).reply (length reply)
        (asked_at (row_at (table_opcode (asked_opcode request.body))).reply bytes) reply one.0 zero
        (size_fits (asked_opcode request.body) (length reply)
        (asked_at (row_at (table_opcode (asked_opcode request.body))).reply bytes) (length reply - 16) few)
        (named_alike carried agreed (row_at (table_opcode (asked_opcode request.body))).reply (length reply) reply one.0 refl
        one.1))

    -- what the table reads is what the codec wrote
    said_alike : SayTheSame said.message.error said.message.content
        (content_at (row_at (table_opcode (asked_opcode request.body))).reply (length reply) reply)
    said_alike =
        let one = replied_alike latest_minor before_init (asked_opcode request.body) (length reply) reply said.message
        carries_first (omega arith) spells in
        let now : content_at (row_at (table_opcode (asked_opcode request.body))).reply (length reply) reply ≡ one.0.answer =
        rw zero at one.1.answer in
        subst (SayTheSame said.message.error said.message.content) (sym now) one.2.1

    entries_as : WireGives (asked_opcode request.body) wire → (p : Opcode) → code_of p ≡ opcode_in bytes
        → HasEntries p (content_at (row_at p).reply (asked_at (row_at p).reply bytes) reply)
    entries_as gives p code =
        let same : table_opcode (asked_opcode request.body) ≡ p = same_opcode (table_opcode (asked_opcode request.body)) p
        (table_code (asked_opcode request.body) ∙ sym (frame_opcode frame request says) ∙ sym opcode ∙ sym code) in
        let body = (kind_said said.message.error said.message.content wire (no_error zero) said.says shows).1 in
        let here : HasEntries (table_opcode (asked_opcode request.body))
        (content_at (row_at (table_opcode (asked_opcode request.body))).reply (length reply) reply) =
        content_entries (asked_opcode request.body) said.message.error said.message.content
        (content_at (row_at (table_opcode (asked_opcode request.body))).reply (length reply) reply) said_alike said.spells.4
        (subst (WireGives (asked_opcode request.body)) (sym body) gives) in
        entries_of_any p (row_at p).reply (length reply) (asked_at (row_at p).reply bytes) reply
        (subst (λ (q : Opcode). HasEntries q (content_at (row_at q).reply (length reply) reply)) same here)

    gains_as : (t : NodeTable) (u : Server) → WireGains t u request.body wire → (p : Opcode) → code_of p ≡ opcode_in bytes
        → Gains t u (entries_of (content_at (row_at p).reply (asked_at (row_at p).reply bytes) reply))
    gains_as t u gains p code =
        let same : table_opcode (asked_opcode request.body) ≡ p = same_opcode (table_opcode (asked_opcode request.body)) p
        (table_code (asked_opcode request.body) ∙ sym (frame_opcode frame request says) ∙ sym opcode ∙ sym code) in
        let body = (kind_said said.message.error said.message.content wire (no_error zero) said.says shows).1 in
        let here : Gains t u (entries_of (content_at (row_at (table_opcode (asked_opcode request.body))).reply (length reply)
        reply)) = content_gains t u request.body said.message.error said.message.content
        (content_at (row_at (table_opcode (asked_opcode request.body))).reply (length reply) reply) said_alike said.spells.4
        (subst (WireGains t u request.body) (sym body) gains) in
        gains_of_any t u (row_at p).reply (length reply) (asked_at (row_at p).reply bytes) reply
        (subst (λ (q : Opcode). Gains t u (entries_of (content_at (row_at q).reply (length reply) reply))) same here)
        (λ n low. let more = gains.counts n in omega (arith, more))

    described_as : (t : NodeTable) (u : Server) → WireGains t u request.body wire
        → (asked_opcode request.body ≡ codec.Getattr → bytes ≡ frame) → (p : Opcode) → code_of p ≡ opcode_in bytes
        → IsDescribed u p (number_at 16 8 bytes) (content_at (row_at p).reply (asked_at (row_at p).reply bytes) reply)
    described_as t u gains is_frame p code =
        let same : table_opcode (asked_opcode request.body) ≡ p = same_opcode (table_opcode (asked_opcode request.body)) p
        (table_code (asked_opcode request.body) ∙ sym (frame_opcode frame request says) ∙ sym opcode ∙ sym code) in
        let body = (kind_said said.message.error said.message.content wire (no_error zero) said.says shows).1 in
        let here : IsDescribed u (table_opcode (asked_opcode request.body)) (number_at 16 8 bytes)
        (content_at (row_at (table_opcode (asked_opcode request.body))).reply (length reply) reply) =
        content_described t u request.body said.message.error said.message.content
        (content_at (row_at (table_opcode (asked_opcode request.body))).reply (length reply) reply) said_alike same_kind
        (subst (WireGains t u request.body) (sym body) gains) (number_at 16 8 bytes)
        (λ n is. ap (number_at 16 8) (is_frame (ap asked_opcode is)) ∙ frame_node frame request says n is) in
        described_of_any u p (number_at 16 8 bytes) (row_at p).reply (length reply) (asked_at (row_at p).reply bytes) reply
        (subst (λ (q : Opcode). IsDescribed u q (number_at 16 8 bytes) (content_at (row_at q).reply (length reply) reply)) same
        here)

  pub has_gains : (t : NodeTable) (u : Server) → (asked_opcode request.body ≡ codec.Getattr → bytes ≡ frame)
      → (error_in reply ≡ 0 → WireGains t u request.body wire) → GainsIn t u bytes reply
  has_gains t u is_frame gains fine p code =
      (gains_as fine t u (gains fine) p code, described_as fine t u (gains fine) is_frame p code)

  -- Its entries are those that are given.
  pub has_entries : WireGives (asked_opcode request.body) wire → HasEntriesIn bytes reply
  has_entries gives fine p code = entries_as fine gives p code

  pub has_body : HasBodyOf bytes reply
  has_body = record { bare = bare_of o reply said.message said.spells; fits = fits_as; few = says_few }
