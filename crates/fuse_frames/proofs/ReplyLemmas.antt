-- What is written as a reply is seen as what was to be said.
use Rattle.std.proofs.Common.{◌≡◌, ◌≢◌, ℕ, zero, suc, Some, ◌+◌, ◌-◌, ◌*◌, ◌/◌, ◌%◌, ◌≤◌, Bool, true, false, IsTrue, if◌then◌else◌, inl, inr, List, [], refl, sym, ap, subst, ◌∙◌, arith, true≢false}
use Rattle.std.specs.Prelude.{ℤ, pos, negsuc}
use Rattle.std.specs.Int.{w32, cast_unsigned, cast_signed}
use Rattle.std.proofs.lemmas.Bool.Decides.{eqb_tells}
use Rattle.std.proofs.lemmas.Int.{ints, to_z-of_z}
use Rattle.fk_wire.specs.Replies.{decoded_reply}
use Rattle.fk_wire.specs.declared.opcode.Opcode.{Opcode}
use Rattle.fk_wire.specs.declared.opcode.Opcode.TheVariants as op
use Rattle.fk_wire.specs.Entries.{missing, found}
use Rattle.fk_wire.specs.Opcodes.{latest_minor}
use Rattle.fk_wire.specs.Replies.{ReplyContent, empty_reply, entry_reply, attr_reply, open_reply, bytes_reply, write_reply, init_reply, create_reply, records_reply, plus_reply, ReplyMessage, GoesWith, WrittenReply, reply_kind, knows_kind, kind_of_content, IsErrorNumber}
use Rattle.fk_wire.proofs.OneReply.{decoded_reply_is, error_fits}
use Rattle.fk_wire.proofs.Frames.{spells_reply}
use Rattle.fuse_spec.specs.declared.Opened.{Opened}
use Rattle.fuse_spec.specs.Kernel.Messages.{WireReply, asks}
use Rattle.fuse_spec.specs.Values.Numbers.{max_validity}
use Rattle.fuse_spec.specs.Files.Operations as reply
use Rattle.fuse_spec.specs.Files.Operations.{Operation}
use Rattle.fuse_spec.specs.Kernel.Replies.{goes_with, is_init_reply, is_empty_reply}
use Rattle.fuse_frames.specs.ReplyTies.{SaysReply, IsReplyFrame, Framed, framed_by, said_in, message_of, reply_content_of, error_of, has_reply, wire_said, wire_body, milliseconds}
use Rattle.fuse_frames.specs.RequestTies.{asked_opcode}

-- the bytes spell one reply to an opcode
one_message : (o : Opcode) (bytes : List ℕ) (m : ReplyMessage) → GoesWith latest_minor o m → WrittenReply m bytes
    → decoded_reply o bytes ≡ m
one_message o bytes m goes w = decoded_reply_is o bytes m (spells_reply latest_minor o m bytes goes w)

pub one_framed : (o : Opcode) (bytes : List ℕ) (m : ReplyMessage) → GoesWith latest_minor o m → WrittenReply m bytes
    → record { unique = m.unique; wire = said_in o bytes } ≡ framed_by m
unfolding said_in
one_framed o bytes m goes w = ap (λ (n : ReplyMessage). record { unique = m.unique; wire = (framed_by n).wire })
    (one_message o bytes m goes w)

-- Two messages that are written so have one unique.
pub one_unique : (o : Opcode) (bytes : List ℕ) (m n : ReplyMessage) → GoesWith latest_minor o m → WrittenReply m bytes
    → GoesWith latest_minor o n → WrittenReply n bytes → m.unique ≡ n.unique
one_unique o bytes m n goes w goes_too w_too =
    ap (λ (x : ReplyMessage). x.unique) (sym (one_message o bytes m goes w) ∙ one_message o bytes n goes_too w_too)

-- What is written as a message that is a reply's is that reply's frame.
frame_of : (o : Opcode) (bytes : List ℕ) (m : ReplyMessage) → GoesWith latest_minor o m → WrittenReply m bytes
    → m ≡ message_of (framed_by m) → IsReplyFrame o bytes (framed_by m)
frame_of o bytes m goes w exact =
    record {
      written = subst (λ (n : ReplyMessage). WrittenReply n bytes) exact w;
      goes = subst (λ (n : ReplyMessage). GoesWith latest_minor o n) exact goes;
      says = ap (λ (n : ReplyMessage). wire_said n.error n.content) (sym exact);
    }

pub is_framed : (o : Opcode) (bytes : List ℕ) (m : ReplyMessage) → GoesWith latest_minor o m → WrittenReply m bytes
    → m ≡ message_of (framed_by m) → IsReplyFrame o bytes (record { unique = m.unique; wire = said_in o bytes })
is_framed o bytes m goes w exact = subst (λ (f : Framed). IsReplyFrame o bytes f)
    (sym (one_framed o bytes m goes w)) (frame_of o bytes m goes w exact)

-- a validity in milliseconds, in whole seconds and the rest as nanoseconds, reads as itself
pub reads_as_itself : (ms : ℕ) → ms ≤ max_validity → milliseconds (ms / 1000) (ms % 1000 * 1000000) ≡ ms
reads_as_itself ms le = omega arith

-- ---- to which requests a frame replies

-- a body of the kind that says this; an error says it with no body
abbrev body_saying : WireReply → ReplyContent
body_saying (reply.found entry valid) = entry_reply (missing 0 0)
body_saying (reply.missing valid) = entry_reply (missing 0 0)
body_saying (reply.created entry valid fh) = create_reply (missing 0 0) 0
body_saying (reply.opened fh) = open_reply 0
body_saying (reply.attributes attributes) = attr_reply (record { ino = 0; size = 0; mode = 0; nlink = 0 })
body_saying (reply.listed records) = records_reply []
body_saying (reply.listed_plus pairs) = plus_reply []
body_saying (reply.content bytes) = bytes_reply []
body_saying (reply.written size) = write_reply 0
body_saying (reply.agreed major minor flags) = init_reply 0 0 0
body_saying reply.done = empty_reply
body_saying (reply.failed errno) = empty_reply

abbrev is_failure : WireReply → Bool
is_failure (reply.failed errno) = true
is_failure wire = false

-- Of the bodies that are served each says what its kind says.
said_kind : (c : ReplyContent) → IsTrue (knows_kind latest_minor (kind_of_content c))
    → kind_of_content c ≡ kind_of_content (body_saying (wire_body c))
said_kind (entry_reply (missing seconds nanoseconds)) known = refl
said_kind (entry_reply (found nodeid generation seconds nanoseconds a)) known = refl
said_kind (create_reply (missing seconds nanoseconds) fh) known = refl
said_kind (create_reply (found nodeid generation seconds nanoseconds a) fh) known = refl
said_kind c known = refl

no_failure : (c : ReplyContent) → is_failure (wire_body c) ≡ false
no_failure (entry_reply (missing seconds nanoseconds)) = refl
no_failure (entry_reply (found nodeid generation seconds nanoseconds a)) = refl
no_failure (create_reply (missing seconds nanoseconds) fh) = refl
no_failure (create_reply (found nodeid generation seconds nanoseconds a) fh) = refl
no_failure c = refl

-- The replies to an operation have the kind of body that says what goes with it.
kind_going : (operation : Operation ℕ Opened) (wire : WireReply) → goes_with operation wire ≡ true
    → is_failure wire ≡ false → reply_kind latest_minor (asked_opcode (asks operation))
    ≡ Some (kind_of_content (body_saying wire))
kind_going (reply.lookup d name) (reply.found entry valid) e good = refl
kind_going (reply.lookup d name) (reply.missing valid) e good = refl
kind_going (reply.mkdir d name) (reply.found entry valid) e good = refl
kind_going (reply.mkdir d name) (reply.missing valid) e good = refl
kind_going (reply.link x d name) (reply.found entry valid) e good = refl
kind_going (reply.link x d name) (reply.missing valid) e good = refl
kind_going (reply.create d name) (reply.created entry valid fh) e good = refl
kind_going (reply.getattr x) (reply.attributes a) e good = refl
kind_going (reply.unlink d name) reply.done e good = refl
kind_going (reply.rmdir d name) reply.done e good = refl
kind_going (reply.rename d old f new) reply.done e good = refl
kind_going (reply.opening x) (reply.opened fh) e good = refl
kind_going (reply.readdir d after size) (reply.listed records) e good = refl
kind_going (reply.readdirplus d after size) (reply.listed_plus pairs) e good = refl
kind_going (reply.read o offset size) (reply.content bytes) e good = refl
kind_going (reply.write o offset bytes) (reply.written size) e good = refl
kind_going operation (reply.failed errno) e good = absurd (true≢false good)
kind_going operation wire e good = absurd (true≢false (sym e))

-- Each operation has a reply.
replied_by : (operation : Operation ℕ Opened) → (d : ReplyContent)
    × (reply_kind latest_minor (asked_opcode (asks operation)) ≡ Some (kind_of_content d))
replied_by (reply.lookup d name) = (entry_reply (missing 0 0), refl)
replied_by (reply.getattr x) = (attr_reply (record { ino = 0; size = 0; mode = 0; nlink = 0 }), refl)
replied_by (reply.mkdir d name) = (entry_reply (missing 0 0), refl)
replied_by (reply.create d name) = (create_reply (missing 0 0) 0, refl)
replied_by (reply.unlink d name) = (empty_reply, refl)
replied_by (reply.rmdir d name) = (empty_reply, refl)
replied_by (reply.rename d old e new) = (empty_reply, refl)
replied_by (reply.link x d name) = (entry_reply (missing 0 0), refl)
replied_by (reply.opening x) = (open_reply 0, refl)
replied_by (reply.readdir d after size) = (records_reply [], refl)
replied_by (reply.readdirplus d after size) = (plus_reply [], refl)
replied_by (reply.read o offset size) = (bytes_reply [], refl)
replied_by (reply.write o offset bytes) = (write_reply 0, refl)

-- An error is no 0 in its field.
error_shows : (n : ℕ) → IsErrorNumber (negsuc n) → cast_unsigned w32 (negsuc n) ≢ 0
error_shows n ok e =
    let same : negsuc n ≡ cast_signed w32 0 = sym (to_z-of_z w32 (negsuc n) (error_fits (negsuc n) ok)) ∙ ap
    (cast_signed w32) e in
    absurd (cc same)

-- With an error the body is empty.
is_alone : (o : Opcode) (m : ReplyMessage) → GoesWith latest_minor o m → cast_unsigned w32 m.error ≢ 0
    → kind_of_content m.content ≡ kind_of_content empty_reply
is_alone o m goes shows = elim (eqb_tells (cast_unsigned w32 m.error) 0) [
  | inl h ↦ absurd
      (shows h.1)
  | inr h ↦ goes.2 ∙ ap (λ (b : Bool). if b then goes.0 else kind_of_content empty_reply) h.0
]

-- What is said without error goes with the opcodes whose replies have that kind of body, and an error with all that
-- have replies.
goes_saying : (o p : Opcode) (d : ReplyContent) (unique : ℕ) (z : ℤ) (c : ReplyContent)
    → GoesWith latest_minor o (record { unique = unique; error = z; content = c }) → IsErrorNumber z
    → IsTrue (knows_kind latest_minor (kind_of_content c))
    → reply_kind latest_minor p ≡ Some (kind_of_content d)
    → (is_failure (wire_said z c) ≡ false → kind_of_content (body_saying (wire_said z c)) ≡ kind_of_content d)
    → GoesWith latest_minor p (record { unique = unique; error = z; content = c })
goes_saying o p d unique (pos zero) c goes ok known has same =
    (kind_of_content d, has, said_kind c known ∙ same (no_failure c))
goes_saying o p d unique (pos (suc n)) c goes ok known has same = absurd (omega (arith, ints, ok.0))
goes_saying o p d unique (negsuc n) c goes ok known has same =
    let shows = error_shows n ok in
    let alone = is_alone o (record { unique = unique; error = negsuc n; content = c }) goes shows in (
      kind_of_content d,
      has,
      alone ∙ elim (eqb_tells (cast_unsigned w32 (negsuc n)) 0) [
        | inl h ↦ absurd
            (shows h.1)
        | inr h ↦ sym
            (ap (λ (b : Bool). if b then kind_of_content d else kind_of_content empty_reply) h.0)
      ],
    )

init_kind : (wire : WireReply) → is_init_reply wire ≡ true → is_failure wire ≡ false
    → kind_of_content (body_saying wire) ≡ kind_of_content (init_reply 0 0 0)
init_kind (reply.agreed major minor flags) e good = refl
init_kind (reply.failed errno) e good = absurd (true≢false good)
init_kind wire e good = absurd (true≢false (sym e))

empty_kind : (wire : WireReply) → is_empty_reply wire ≡ true → is_failure wire ≡ false
    → kind_of_content (body_saying wire) ≡ kind_of_content empty_reply
empty_kind reply.done e good = refl
empty_kind (reply.failed errno) e good = refl
empty_kind wire e good = absurd (true≢false (sym e))

one_some : {K : Type 0} {j k : K} → Some j ≡ Some k → j ≡ k
one_some e = cc

module _ (o : Opcode) (bytes : List ℕ) (f : Framed) (frame : IsReplyFrame o bytes f) where
  -- The frame says what it says to every opcode that it goes with.
  says_to : (p : Opcode) → GoesWith latest_minor p (message_of f) → SaysReply p bytes f.unique f.wire
  says_to p goes = record {
    message = message_of f;
    spells = spells_reply latest_minor p (message_of f) bytes goes frame.written;
    unique_is = refl;
    says = frame.says;
  }

  pub says : SaysReply o bytes f.unique f.wire
  says = says_to o frame.goes

  -- The frame says what it says to each opcode whose replies have the kind of body that says it.
  says_as : (p : Opcode) (d : ReplyContent) → reply_kind latest_minor p ≡ Some (kind_of_content d)
      → (is_failure f.wire ≡ false → kind_of_content (body_saying f.wire) ≡ kind_of_content d)
      → SaysReply p bytes f.unique f.wire
  says_as p d has same =
      let m = message_of f in
      let said = subst (λ (w : WireReply). is_failure w ≡ false → kind_of_content (body_saying w) ≡ kind_of_content d)
      (sym frame.says) same in
      says_to p (goes_saying o p d m.unique m.error m.content frame.goes frame.written.1 frame.written.2 has said)

  pub fits : (operation : Operation ℕ Opened) → goes_with operation f.wire ≡ true
      → SaysReply (asked_opcode (asks operation)) bytes f.unique f.wire
  fits operation goes =
      let by = replied_by operation in
      says_as (asked_opcode (asks operation)) by.0 by.1
      (λ good. one_some (sym (kind_going operation f.wire goes good) ∙ by.1))

  pub init : is_init_reply f.wire ≡ true → SaysReply op.Init bytes f.unique f.wire
  init is = says_as op.Init (init_reply 0 0 0) refl (init_kind f.wire is)

  pub empty : is_empty_reply f.wire ≡ true → SaysReply op.Release bytes f.unique f.wire
      × SaysReply op.Interrupt bytes f.unique f.wire
  empty is =
      let kind = empty_kind f.wire is in
      (says_as op.Release empty_reply refl kind, says_as op.Interrupt empty_reply refl kind)

-- ---- an error of a reply

pub error_said : (errno : ℕ) (z : ℤ) (content : ReplyContent) → 1 ≤ errno → z ≡ negsuc (errno - 1)
    → wire_said z content ≡ reply.failed errno
error_said errno z content some is =
    let same : errno - 1 + 1 ≡ errno = omega arith in
    ap (λ (y : ℤ). wire_said y content) is ∙ ap reply.failed same

pub error_in_range : (errno : ℕ) (z : ℤ) → 1 ≤ errno → errno ≤ 511 → z ≡ negsuc (errno - 1) → IsErrorNumber z
error_in_range errno z some most is = subst IsErrorNumber (sym is) (grind (arith, ints, some, most))

-- An error goes with each opcode that has replies.
has_kind : (o : Opcode) → IsTrue (has_reply o) → (d : ReplyContent) × (reply_kind latest_minor o ≡ Some (kind_of_content d))
has_kind op.Lookup h = (entry_reply (missing 0 0), refl)
has_kind op.Getattr h = (attr_reply (record { ino = 0; size = 0; mode = 0; nlink = 0 }), refl)
has_kind op.Mkdir h = (entry_reply (missing 0 0), refl)
has_kind op.Unlink h = (empty_reply, refl)
has_kind op.Rmdir h = (empty_reply, refl)
has_kind op.Rename h = (empty_reply, refl)
has_kind op.Link h = (entry_reply (missing 0 0), refl)
has_kind op.Open h = (open_reply 0, refl)
has_kind op.Read h = (bytes_reply [], refl)
has_kind op.Write h = (write_reply 0, refl)
has_kind op.Release h = (empty_reply, refl)
has_kind op.Init h = (init_reply 0 0 0, refl)
has_kind op.Readdir h = (records_reply [], refl)
has_kind op.Readdirplus h = (plus_reply [], refl)
has_kind op.Create h = (create_reply (missing 0 0) 0, refl)
has_kind op.Interrupt h = (empty_reply, refl)
has_kind o h = absurd (true≢false (sym h))

pub error_goes : (o : Opcode) (unique errno : ℕ) (z : ℤ) → IsTrue (has_reply o) → 1 ≤ errno → errno ≤ 511
    → z ≡ negsuc (errno - 1) → GoesWith latest_minor o (record { unique = unique; error = z; content = empty_reply })
error_goes o unique errno z has some most is =
    let shows : cast_unsigned w32 z ≢ 0 = λ e. error_shows (errno - 1)
    (subst IsErrorNumber is (error_in_range errno z some most is)) (ap (cast_unsigned w32) (sym is) ∙ e) in
    let by = has_kind o has in (
      kind_of_content by.0,
      by.1,
      elim (eqb_tells (cast_unsigned w32 z) 0) [
        | inl h ↦ absurd (shows h.1)
        | inr h ↦ sym
            (ap (λ (b : Bool). if b then kind_of_content by.0 else kind_of_content empty_reply) h.0)
      ],
    )

-- An error alone is the message of what it says.
pub error_exact : (unique errno : ℕ) (z : ℤ) → 1 ≤ errno → z ≡ negsuc (errno - 1)
    → ◌≡◌ {A = ReplyMessage} (record { unique = unique; error = z; content = empty_reply })
    (message_of (framed_by (record { unique = unique; error = z; content = empty_reply })))
error_exact unique errno z some is =
    let said = error_said errno z empty_reply some is in
    λ i. record { unique = unique; error = (is ∙ ap error_of (sym said)) i; content = (ap reply_content_of (sym said)) i }
