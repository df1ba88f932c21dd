-- The nodes that a reply's frame gives are those that its server counts.
use Rattle.std.proofs.Common.{◌≡◌, ◌≤◌, ℕ, ℤ, ◌+◌, ◌==◌, Bool, true, false, cond, List, [], ◌∷◌, ◌++◌, count_by, drop, map, None, Some, refl, sym, ◌∙◌, ap, subst, nat_eq, if◌then◌else◌, All, arith}
use Rattle.std.proofs.lemmas.Bool.{true≢false}
use Rattle.std.proofs.lemmas.List.Elements.{All-head, All-tail}
use Rattle.fuse_spec.specs.declared.Entry.{Entry as Named}
use Rattle.fuse_spec.specs.Calls.Paths as paths
use Rattle.fuse_spec.specs.Files.Operations.{files_in_reply, files_listed, first_listed, getattr}
use Rattle.fuse_spec.specs.Kernel.Messages.{RequestBody, asks}
use Rattle.fuse_spec.specs.Server.Nodes.{NodeTable}
use Rattle.fuse_spec.specs.Server.Server.{Server}
use Rattle.fuse_spec.specs.Claim.Denotes.{Denotes}
use Rattle.fuse_spec.proofs.QueueCounts.{count_by-cons}
use Rattle.fuse_theorem.proofs.Lookups.RowCounts.{count_of}
use Rattle.fk_fields.specs.Fields.{number_at}
use Rattle.fk_wire.specs.Dirents.{HavePlusNames}
use Rattle.fk_wire.specs.Entries.{found, missing}
use Rattle.fk_wire.specs.declared.entry.Attr.{Attr}
use Rattle.fk_wire.specs.Opcodes.{reply_kind_of}
use Rattle.fk_wire.specs.Replies.{HasReplyNames, ReplyContent, attr_reply, create_reply, kind_of_content, entry_reply, plus_reply}
use Rattle.fuse_frames.specs.ReplyTies.{attributes_in, entry_in, file_named, kind_of_mode, pair_in, wire_body}
use Rattle.fuse_frames.specs.RequestTies.{asked_opcode}
use Rattle.fuse_protocol.specs.declared.opcode.Opcode.{Opcode}
use Rattle.fuse_protocol.specs.declared.opcode.Opcode.TheVariants as op
use Rattle.fuse_protocol.specs.declared.row.ReplyShape.{ReplyShape}
use Rattle.fuse_protocol.specs.declared.row.ReplyShape.TheVariants as shape
use Rattle.fuse_protocol.specs.Requests.{asked_at}
use Rattle.fuse_protocol.specs.Table.{code_of, row_at}
use Rattle.fuse_replies.specs.declared.entry.Entry.{Entry}
use Rattle.fuse_replies.specs.Record.{EntryRecordContent}
use Rattle.fuse_replies.specs.Replies.{AnswerContent, content_at}
use Rattle.fuse_replies.specs.Replies as answer
use Rattle.fuse_sessions.specs.Frames.{error_in}
use Rattle.fuse_sessions.specs.ReplyActs.{file_of, kind_of}
use Rattle.fuse_sessions.specs.UnreadRequests.{opcode_in}
use Rattle.protocol_law.specs.ReplyLaw.{SayTheSame, attr_said, dirent_plus_said, entry_said, table_opcode}
use Rattle.served_sessions.specs.Entries.{is_dots}
use Rattle.served_sessions.proofs.Asking.{one_number}
use Rattle.served_sessions.proofs.Entering.{dots_named}
use Rattle.served_sessions.proofs.NodeFiles.{IsFileAs, IsNodeOf, read_file}
use Rattle.served_sessions.proofs.Shown.{AreOf, IsEntryOf}
use Rattle.served_sessions.proofs.Turned.{WireGains}

-- ---- the entries that a reply says

abbrev pub record_entries : Bool → Entry → List Entry
record_entries dots e = if dots then [] else e ∷ []

abbrev pub listed_entries : List EntryRecordContent → List Entry
listed_entries [] = []
listed_entries (r ∷ rs) = record_entries (is_dots r.said.name) r.entry ++ listed_entries rs

abbrev pub entries_of : AnswerContent → List Entry
entries_of (answer.entry e) = e ∷ []
entries_of (answer.created e file) = e ∷ []
entries_of (answer.entry_records rs) = listed_entries rs
entries_of content = []

-- each of them is of a node that is held for its file, if of one from 2 up
abbrev pub AllHeld : Server → List Entry → Type 0
AllHeld u [] = Unit {0}
AllHeld u (e ∷ es) = (2 ≤ e.nodeid → IsNodeOf u e.nodeid (file_of e)) × AllHeld u es

abbrev pub one_if : Bool → ℕ
one_if b = cond b 1 0

-- and counted so often
abbrev pub times_given : ℕ → List Entry → ℕ
times_given n [] = 0
times_given n (e ∷ es) = one_if (nat_eq e.nodeid n) + times_given n es

pub record Gains (t : NodeTable) (u : Server) (es : List Entry) : Type 0 where
  pub held : AllHeld u es
  pub counts : (n : ℕ) → 2 ≤ n → count_of t n + times_given n es ≤ count_of u.nodes n

-- Attributes are those of the file of the node that GETATTR asks for.
abbrev pub IsDescribed : Server → Opcode → ℕ → AnswerContent → Type 0
IsDescribed u o n (answer.attributes v) = (o ≡ op.Getattr) × (2 ≤ n → (generation file : ℕ)
    → Denotes u.nodes n generation file → IsFileAs u.tree file (kind_of v.attributes) v.attributes.ino)
IsDescribed u o n content = Unit {0}

-- Behind no error those of a frame are such.
abbrev pub GainsIn : NodeTable → Server → (request reply : List ℕ) → Type 0
GainsIn t u request reply = error_in reply ≡ 0 → (o : Opcode) → code_of o ≡ opcode_in request
    → Gains t u (entries_of (content_at (row_at o).reply (asked_at (row_at o).reply request) reply))
    × IsDescribed u o (number_at 16 8 request) (content_at (row_at o).reply (asked_at (row_at o).reply request) reply)

-- ---- by what the server gives

abbrev named_times : ℕ → List Named → ℕ
named_times n es = count_by (λ (e : Named). nat_eq e.nodeid n) es

-- these are among those
record Among (u : Server) (es : List Entry) (named : List Named) : Type 0 where
  held : All (IsEntryOf u.nodes u.tree) named → AllHeld u es
  counts : (n : ℕ) → 2 ≤ n → times_given n es ≤ count_by (λ (e : Named). nat_eq e.nodeid n) named

none_among : (u : Server) (named : List Named) → Among u [] named
none_among u named = record { held = λ all. tt; counts = λ n low. omega arith }

-- an entry of node 0 is of no node that counts
zero_among : (u : Server) (e : Entry) (es : List Entry) (named : List Named) → (e.nodeid == 0) ≡ true
    → Among u es named → Among u (e ∷ es) named
zero_among u e es named none rest = record {
  held = λ all. (λ low. absurd (too_low low), rest.held all);
  counts = λ n low.
      let more = rest.counts n low in
      let no : one_if (nat_eq e.nodeid n) ≡ 0 = not_it n low in
      omega (arith, more, no);
}
  where
    zero : e.nodeid ≡ 0
    zero = one_number e.nodeid 0 none

    too_low : 2 ≤ e.nodeid → ⊥
    too_low low = omega (arith, low, zero)

    not_it : (n : ℕ) → 2 ≤ n → one_if (nat_eq e.nodeid n) ≡ 0
    not_it n low = by (nat_eq e.nodeid n) refl
      where
        by : (b : Bool) → nat_eq e.nodeid n ≡ b → one_if b ≡ 0
        by true is = let same = one_number e.nodeid n is in absurd (omega (arith, same, zero, low))
        by false is = refl

-- what the entry says is read so
read_entry : (u : Server) (e : Entry) → IsEntryOf u.nodes u.tree (entry_in e.nodeid e.generation (attr_said e.attributes))
    → IsNodeOf u e.nodeid (file_of e)
read_entry u e (file, denotes, are) = (
  file,
  denotes,
  read_file u.tree file (kind_of e.attributes) e.attributes.ino (kind_of_mode e.attributes.mode) refl are.some are.kind are.ino,
)

one_among : (u : Server) (e : Entry) (es : List Entry) (named : List Named) → Among u es named
    → Among u (e ∷ es) (entry_in e.nodeid e.generation (attr_said e.attributes) ∷ named)
one_among u e es named rest =
    let x : Named = entry_in e.nodeid e.generation (attr_said e.attributes) in
    record {
      held = λ all. (
        λ low. read_entry u e (All-head (IsEntryOf u.nodes u.tree) x named all),
        rest.held (All-tail (IsEntryOf u.nodes u.tree) x named all),
      );
      counts = λ n low.
          let more = rest.counts n low in
          let sum = count_by-cons (λ (y : Named). nat_eq y.nodeid n) x named in
          omega (arith, more, sum);
    }

skip_among : (u : Server) (es : List Entry) (x : Named) (named : List Named) → Among u es named
    → Among u es (x ∷ named)
skip_among u es x named rest = record {
  held = λ all. rest.held (All-tail (IsEntryOf u.nodes u.tree) x named all);
  counts = λ n low.
      let more = rest.counts n low in
      let sum = count_by-cons (λ (y : Named). nat_eq y.nodeid n) x named in
      omega (arith, more, sum);
}

entry_among : (u : Server) (e : Entry) → Among u (e ∷ []) (files_in_reply (wire_body (entry_reply (entry_said e))))
entry_among u e = by (e.nodeid == 0) refl
  where
    by : (b : Bool) → (e.nodeid == 0) ≡ b → Among u (e ∷ []) (files_in_reply (wire_body (entry_reply
        (if b then missing e.name_validity.seconds e.name_validity.nanoseconds
        else found e.nodeid e.generation e.name_validity.seconds e.name_validity.nanoseconds (attr_said e.attributes)))))
    by true none = zero_among u e [] [] none (none_among u [])
    by false some = one_among u e [] [] (none_among u [])

created_among : (u : Server) (e : Entry) (fh : ℕ)
    → Among u (e ∷ []) (files_in_reply (wire_body (create_reply (entry_said e) fh)))
created_among u e fh = by (e.nodeid == 0) refl
  where
    by : (b : Bool) → (e.nodeid == 0) ≡ b → Among u (e ∷ []) (files_in_reply (wire_body (create_reply
        (if b then missing e.name_validity.seconds e.name_validity.nanoseconds
        else found e.nodeid e.generation e.name_validity.seconds e.name_validity.nanoseconds (attr_said e.attributes)) fh)))
    by true none = zero_among u e [] _ none (none_among u _)
    by false some = one_among u e [] [] (none_among u [])

listed_among : (u : Server) (rs : List EntryRecordContent) → HavePlusNames (map dirent_plus_said rs)
    → Among u (listed_entries rs) (files_listed (map pair_in (map dirent_plus_said rs)))
listed_among u [] names = none_among u []
listed_among u (r ∷ rs) names = by (paths.is_dots r.said.name) (is_dots r.said.name) (r.entry.nodeid == 0) refl refl refl
    (listed_among u rs names.1)
  where
    by : (d p z : Bool) → paths.is_dots r.said.name ≡ d → is_dots r.said.name ≡ p → (r.entry.nodeid == 0) ≡ z
        → Among u (listed_entries rs) (files_listed (map pair_in (map dirent_plus_said rs)))
        → Among u (record_entries p r.entry ++ listed_entries rs) (first_listed (cond d None (file_named
        (if z then missing r.entry.name_validity.seconds r.entry.name_validity.nanoseconds
        else found r.entry.nodeid r.entry.generation r.entry.name_validity.seconds r.entry.name_validity.nanoseconds
        (attr_said r.entry.attributes)))) (files_listed (map pair_in (map dirent_plus_said rs))))
    by true true z dots is none rest = rest
    by true false z dots is none rest = absurd (true≢false (sym (dots_named r.said.name names.0.some dots) ∙ is))
    by false true true dots is none rest = rest
    by false true false dots is none rest = skip_among u (listed_entries rs) _
        (files_listed (map pair_in (map dirent_plus_said rs))) rest
    by false false true dots is none rest = zero_among u r.entry (listed_entries rs) _ none rest
    by false false false dots is none rest = one_among u r.entry (listed_entries rs)
        (files_listed (map pair_in (map dirent_plus_said rs))) rest

content_among : (u : Server) (error : ℤ) (content : ReplyContent) (said : AnswerContent)
    → SayTheSame error content said → HasReplyNames content
    → Among u (entries_of said) (files_in_reply (wire_body content))
content_among u error (entry_reply e) (answer.entry given) same names =
    subst (λ c. Among u (given ∷ []) (files_in_reply (wire_body (entry_reply c)))) same (entry_among u given)
content_among u error (create_reply e fh) (answer.created given handle) same names =
    subst (λ c. Among u (given ∷ []) (files_in_reply (wire_body (create_reply c fh)))) same.0 (created_among u given fh)
content_among u error (plus_reply ps) (answer.entry_records rs) same names =
    subst (λ ps. Among u (listed_entries rs) (files_listed (map pair_in ps))) same
    (listed_among u rs (subst HavePlusNames (sym same) names))
content_among u error content (answer.entry given) same names = absurd same
content_among u error content (answer.created given handle) same names = absurd same
content_among u error content (answer.entry_records rs) same names = absurd same
content_among u error content said same names = none_among u (files_in_reply (wire_body content))

pub content_gains : (t : NodeTable) (u : Server) (body : RequestBody) (error : ℤ) (content : ReplyContent)
    (said : AnswerContent) → SayTheSame error content said → HasReplyNames content → WireGains t u body (wire_body content)
    → Gains t u (entries_of said)
content_gains t u body error content said same names gains =
    let among = content_among u error content said same names in
    let shows = gains.shows in
    record {
      held = among.held shows.entries;
      counts = λ n low. let few = among.counts n low in let more = gains.counts n in omega (arith, few, more);
    }

-- only GETATTR is answered attributes
of_attributes : (body : RequestBody) (a : Attr) → reply_kind_of (asked_opcode body) ≡ Some (kind_of_content (attr_reply a))
    → (n : ℕ) × (body ≡ asks (getattr n))
of_attributes (asks (getattr n)) a is = (n, refl)
of_attributes (asks operation) a is = absurd cc
of_attributes body a is = absurd cc

pub content_described : (t : NodeTable) (u : Server) (body : RequestBody) (error : ℤ) (content : ReplyContent)
    (said : AnswerContent) → SayTheSame error content said
    → reply_kind_of (asked_opcode body) ≡ Some (kind_of_content content) → WireGains t u body (wire_body content)
    → (k : ℕ) → ((n : ℕ) → body ≡ asks (getattr n) → k ≡ n) → IsDescribed u (table_opcode (asked_opcode body)) k said
content_described t u body error (attr_reply a) (answer.attributes v) same kind gains k node =
    let of : (n : ℕ) × (body ≡ asks (getattr n)) = of_attributes body a kind in (
      ap (λ (b : RequestBody). table_opcode (asked_opcode b)) of.1,
      λ low generation file d.
          let shows = gains.shows in
          let are : AreOf u.tree file (attributes_in (attr_said v.attributes)) =
          subst (λ (x : Attr). AreOf u.tree file (attributes_in x)) (sym same)
          (shows.described of.0 (attributes_in a) of.1 refl (subst (λ (n : ℕ). 2 ≤ n) (node of.0 of.1) low) generation file
          (subst (λ (n : ℕ). Denotes u.nodes n generation file) (node of.0 of.1) d)) in
          read_file u.tree file (kind_of v.attributes) v.attributes.ino (kind_of_mode v.attributes.mode) refl are.some
          are.kind are.ino,
    )
content_described t u body error content (answer.attributes v) same kind gains k node = absurd same
content_described t u body error content said same kind gains k node = tt

-- How many bytes were asked for says nothing of entries.
pub gains_of_any : (t : NodeTable) (u : Server) (s : ReplyShape) (n m : ℕ) (reply : List ℕ)
    → Gains t u (entries_of (content_at s n reply)) → ((n : ℕ) → 2 ≤ n → count_of t n ≤ count_of u.nodes n)
    → Gains t u (entries_of (content_at s m reply))
gains_of_any t u (shape.Sized place) n m reply gains more = by (m == 0)
  where
    none : Gains t u []
    none = record { held = tt; counts = λ k low. let c = more k low in omega (arith, c) }

    by : (b : Bool) → Gains t u (entries_of (if b then answer.number (number_at 16 4 reply) else answer.raw (drop 16 reply)))
    by true = none
    by false = none
gains_of_any t u s n m reply gains more = gains

pub described_of_any : (u : Server) (o : Opcode) (k : ℕ) (s : ReplyShape) (n m : ℕ) (reply : List ℕ)
    → IsDescribed u o k (content_at s n reply) → IsDescribed u o k (content_at s m reply)
described_of_any u o k (shape.Sized place) n m reply described = by (m == 0)
  where
    by : (b : Bool) → IsDescribed u o k (if b then answer.number (number_at 16 4 reply) else answer.raw (drop 16 reply))
    by true = tt
    by false = tt
described_of_any u o k s n m reply described = described
