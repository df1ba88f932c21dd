-- The reply that performing a request gives goes with the request's opcode.
use Rattle.std.proofs.Common.{◌≡◌, ◌≢◌, ◌∙◌, ◌-◌, ℕ, negsuc, Bool, true, false, cond, List, [], Option, Some, None, refl, ap, sym, subst}
use Rattle.std.specs.Prelude.{if◌then◌else◌}
use Rattle.std.specs.Int.{cast_signed, cast_unsigned, w32}
use Rattle.std.proofs.lemmas.Bool.{ne_eqb}
use Rattle.std.proofs.lemmas.Int.{to_z-of_z}
use Rattle.fuse_spec.specs.declared.Entry.{Entry}
use Rattle.fuse_spec.specs.declared.Opened.{Opened}
use Rattle.fuse_spec.specs.declared.Validity.{Validity}
use Rattle.fuse_spec.specs.Values.Maps.{get, remove}
use Rattle.fuse_spec.specs.Files.Operations.{Operation, Reply, create, errno_of, failed, getattr, link, lookup, mkdir, opening, read, readdir, readdirplus, rename, reply_with, rmdir, unlink, write}
use Rattle.fuse_spec.specs.Files.Operations as reply
use Rattle.fuse_spec.specs.Files.FileOperations.{FileOperation, lookup_reply, refusal, reply_by, reply_or, reply_unrefused, tree_after}
use Rattle.fuse_spec.specs.Files.Trees.{Tree, file_at}
use Rattle.fuse_spec.specs.Kernel.Messages.{RequestBody, WireReply, asks, batch_forget, forget, init, interrupt, release}
use Rattle.fuse_spec.specs.Server.Nodes.{NodeTable, all_given, file_of, handle_back, is_open}
use Rattle.fuse_spec.specs.Server.Server.{HeldRequest, Server}
use Rattle.fuse_spec.specs.Server.Performs.{doing, entry_for, file_operation_of, is_open_for, is_still_held, performing, refusing, served, wire_of}
use Rattle.fuse_spec.specs.Files.Operations.{files_in_reply}
use Rattle.fk_wire.specs.declared.opcode.Opcode.{Opcode}
use Rattle.fk_wire.proofs.OneReply.{error_fits}
use Rattle.fk_wire.specs.Opcodes.{latest_minor}
use Rattle.fk_wire.specs.Replies.{IsErrorNumber, ReplyContent, attr_reply, bytes_reply, create_reply, empty_reply, entry_reply, init_reply, kind_of_content, open_reply, plus_reply, records_reply, reply_kind, write_reply}
use Rattle.fk_wire.specs.Entries.{missing}
use Rattle.fuse_frames.specs.ReplyTies.{IsReplyFrame, has_reply, reply_content_of}
use Rattle.fuse_frames.specs.RequestTies.{asked_opcode, body_in, body_or}
use Rattle.fuse_spec.specs.World.Worlds.{Sent}
use Rattle.fuse_spec.specs.declared.Taken.TheVariants.{Held}
use Rattle.fuse_spec.specs.Server.Server.{Kept, holding}
use Rattle.fuse_spec.specs.Server.Taking.{interrupting, taking}
use Rattle.fuse_spec.proofs.Tables.{get_put_here}
use Rattle.fs_server.specs.Effects.{PerformsHeld, copy_of, first_copy}
use Rattle.fk_wire.specs.Requests as wire
use Rattle.fk_wire.specs.Requests.{RequestContent, opcode_of}
use Rattle.fs_serve.specs.Sending.{RepliesTo}
use Rattle.fs_serve.specs.Serving.{HoldsOpcode}

-- The request has replies.
abbrev pub IsRepliedTo : RequestBody → Type 0
IsRepliedTo body = (d : ReplyContent) × (reply_kind latest_minor (asked_opcode body) ≡ Some (kind_of_content d))

-- The reply has the body of the request's opcode, or is an error.
abbrev pub GoesFor : RequestBody → WireReply → Type 0
GoesFor body (failed errno) = IsRepliedTo body
GoesFor body wire = reply_kind latest_minor (asked_opcode body) ≡ Some (kind_of_content (reply_content_of wire))

-- ---- its frame is one of that opcode

error_shows : (n : ℕ) → IsErrorNumber (negsuc n) → cast_unsigned w32 (negsuc n) ≢ 0
error_shows n ok e =
    let same : negsuc n ≡ cast_signed w32 0 = sym (to_z-of_z w32 (negsuc n) (error_fits (negsuc n) ok)) ∙ ap
    (cast_signed w32) e in
    absurd (cc same)

pub frame_for : (o : Opcode) (body : RequestBody) (unique : ℕ) (wire : WireReply) (bytes : List ℕ) → GoesFor body wire
    → IsReplyFrame o bytes (record { unique = unique; wire = wire })
    → IsReplyFrame (asked_opcode body) bytes (record { unique = unique; wire = wire })
frame_for o body unique (failed errno) bytes (d, is) frame =
    let shows = error_shows (errno - 1) (let w = frame.written in w.1) in
    let empty = ap (λ (b : Bool). if b then kind_of_content d else kind_of_content empty_reply) (ne_eqb (cast_unsigned w32 (negsuc (errno - 1))) 0 shows) in
    record { written = frame.written; goes = (kind_of_content d, is, sym empty); says = frame.says }
frame_for o body unique (reply.found entry valid) bytes is frame =
    record { written = frame.written; goes = (_, is, refl); says = frame.says }
frame_for o body unique (reply.missing valid) bytes is frame =
    record { written = frame.written; goes = (_, is, refl); says = frame.says }
frame_for o body unique (reply.created entry valid fh) bytes is frame =
    record { written = frame.written; goes = (_, is, refl); says = frame.says }
frame_for o body unique (reply.opened fh) bytes is frame =
    record { written = frame.written; goes = (_, is, refl); says = frame.says }
frame_for o body unique (reply.attributes a) bytes is frame =
    record { written = frame.written; goes = (_, is, refl); says = frame.says }
frame_for o body unique (reply.listed records) bytes is frame =
    record { written = frame.written; goes = (_, is, refl); says = frame.says }
frame_for o body unique (reply.listed_plus pairs) bytes is frame =
    record { written = frame.written; goes = (_, is, refl); says = frame.says }
frame_for o body unique (reply.content b) bytes is frame =
    record { written = frame.written; goes = (_, is, refl); says = frame.says }
frame_for o body unique (reply.written size) bytes is frame =
    record { written = frame.written; goes = (_, is, refl); says = frame.says }
frame_for o body unique (reply.agreed major minor flags) bytes is frame =
    record { written = frame.written; goes = (_, is, refl); says = frame.says }
frame_for o body unique reply.done bytes is frame =
    record { written = frame.written; goes = (_, is, refl); says = frame.says }

-- A copy of such a reply is one to a request of that opcode.
pub replies_to : (body : RequestBody) (copy : Sent) → GoesFor body copy.wire → RepliesTo (asked_opcode body) copy
replies_to body copy goes o bytes frame = frame_for o body copy.unique copy.wire bytes goes frame

-- ---- what is performed

pub asked_replied : (operation : Operation ℕ Opened) → IsRepliedTo (asks operation)
asked_replied (lookup d name) = (entry_reply (missing 0 0), refl)
asked_replied (getattr x) = (attr_reply (record { ino = 0; size = 0; mode = 0; nlink = 0 }), refl)
asked_replied (mkdir d name) = (entry_reply (missing 0 0), refl)
asked_replied (create d name) = (create_reply (missing 0 0) 0, refl)
asked_replied (unlink d name) = (empty_reply, refl)
asked_replied (rmdir d name) = (empty_reply, refl)
asked_replied (rename d old e new) = (empty_reply, refl)
asked_replied (link x d name) = (entry_reply (missing 0 0), refl)
asked_replied (opening x) = (open_reply 0, refl)
asked_replied (readdir d after size) = (records_reply [], refl)
asked_replied (readdirplus d after size) = (plus_reply [], refl)
asked_replied (read o offset size) = (bytes_reply [], refl)
asked_replied (write o offset bytes) = (write_reply 0, refl)

pub init_replied : (flags : ℕ) → IsRepliedTo (init flags)
init_replied flags = (init_reply 0 0 0, refl)

pub release_replied : (o : Opened) → IsRepliedTo (release o)
release_replied o = (empty_reply, refl)

pub interrupt_replied : (original : ℕ) → IsRepliedTo (interrupt original)
interrupt_replied original = (empty_reply, refl)

replied_of : (body : RequestBody) → has_reply (asked_opcode body) ≡ true → IsRepliedTo body
replied_of (init flags) has = init_replied flags
replied_of (asks operation) has = asked_replied operation
replied_of (release o) has = release_replied o
replied_of (interrupt original) has = interrupt_replied original
replied_of (forget f) has = absurd (cc has)
replied_of (batch_forget fs) has = absurd (cc has)

module _ (entry : ℕ → Entry) (fh : ℕ) (valid : Validity) (tree : Tree) (t : NodeTable) where
  -- the reply of the tree, as it is sent
  abbrev sent_as : Reply ℕ ℕ → WireReply
  sent_as r = reply_with entry (λ (file : ℕ). fh) r

  found_goes : (d : ℕ) (name : List ℕ) (o : Option ℕ) → GoesFor (asks (lookup d name)) (sent_as (lookup_reply valid o))
  found_goes d name None = refl
  found_goes d name (Some file) = refl

  unrefused_goes : (operation : Operation ℕ Opened)
      → GoesFor (asks operation) (sent_as (reply_unrefused valid tree (file_operation_of t operation)))
  unrefused_goes (lookup d name) = found_goes d name (file_at tree (file_of t d) name)
  unrefused_goes (getattr x) = refl
  unrefused_goes (mkdir d name) = refl
  unrefused_goes (create d name) = refl
  unrefused_goes (unlink d name) = refl
  unrefused_goes (rmdir d name) = refl
  unrefused_goes (rename d old e new) = refl
  unrefused_goes (link x d name) = refl
  unrefused_goes (opening x) = refl
  unrefused_goes (readdir d after size) = refl
  unrefused_goes (readdirplus d after size) = refl
  unrefused_goes (read o offset size) = refl
  unrefused_goes (write o offset bytes) = refl

  reply_goes : (operation : Operation ℕ Opened)
      → GoesFor (asks operation) (sent_as (reply_by valid tree (file_operation_of t operation)))
  reply_goes operation = by (refusal tree (file_operation_of t operation))
    where
      by : (o : Option ℕ) → GoesFor (asks operation)
          (sent_as (reply_or (reply_unrefused valid tree (file_operation_of t operation)) o))
      by None = unrefused_goes operation
      by (Some errno) = asked_replied operation

module _ (choice : ℕ → ℕ) where
  doing_goes : (s : Server) (operation : Operation ℕ Opened)
      → GoesFor (asks operation) (doing choice s (file_operation_of s.nodes operation)).wire
  doing_goes s operation = by s.aborted
    where
      did : FileOperation
      did = file_operation_of s.nodes operation

      said : Reply ℕ ℕ
      said = reply_by s.validity s.tree did

      nodes : NodeTable
      nodes = all_given choice s.nodes (files_in_reply said)

      by : (b : Bool) → GoesFor (asks operation)
          (cond b (failed (errno_of said)) (wire_of choice nodes (tree_after s.tree did) s.handles.next_fh said))
      by true = asked_replied operation
      by false = reply_goes (entry_for choice nodes (tree_after s.tree did)) s.handles.next_fh s.validity s.tree s.nodes
          operation

  performing_goes : (s : Server) (body : RequestBody) → IsRepliedTo body → GoesFor body (performing choice s body).wire
  performing_goes s (init flags) replied = refl
  performing_goes s (asks operation) replied = by (is_open_for s operation)
    where
      by : (b : Bool) → GoesFor (asks operation)
          (cond b (doing choice s (file_operation_of s.nodes operation)) (refusing s 9)).wire
      by true = doing_goes s operation
      by false = replied
  performing_goes s (release o) replied = by (is_open s.handles o.fh (file_of s.nodes o.nodeid))
    where
      by : (b : Bool) → GoesFor (release o) (cond b (record {
        server = record s { handles = handle_back s.handles o.fh };
        wire = reply.done;
      }) (refusing s 9)).wire
      by true = refl
      by false = replied
  performing_goes s (forget f) replied = replied
  performing_goes s (batch_forget fs) replied = replied
  performing_goes s (interrupt original) replied = replied

  -- The reply of a held request goes with it.
  pub served_goes : (s : Server) (unique : ℕ) (taken : HeldRequest) → IsRepliedTo taken.body
      → GoesFor taken.body (served choice s unique taken).wire
  served_goes s unique taken replied = by_mark taken.marked
    where
      less : Server
      less = record s { held = remove s.held unique }

      by_held : (b : Bool) → GoesFor taken.body
          (cond b (performing choice less taken.body) (refusing less 5)).wire
      by_held true = performing_goes less taken.body replied
      by_held false = replied

      by_mark : (b : Bool) → GoesFor taken.body (cond b (refusing less 4)
          (cond (is_still_held less.nodes taken.generations) (performing choice less taken.body) (refusing less 5))).wire
      by_mark true = replied
      by_mark false = by_held (is_still_held less.nodes taken.generations)

-- ---- a request that is taken

-- The opcode of what a frame asks is that of what it spells.
pub opcode_said : (n : ℕ) (content : RequestContent) (body : RequestBody) → body_in n content ≡ Some body
    → opcode_of content ≡ asked_opcode body
opcode_said n (wire.lookup name) body e = ap (λ (b : Option RequestBody). asked_opcode (body_or b)) e
opcode_said n (wire.forget nlookup) body e = ap (λ (b : Option RequestBody). asked_opcode (body_or b)) e
opcode_said n wire.getattr body e = ap (λ (b : Option RequestBody). asked_opcode (body_or b)) e
opcode_said n (wire.mkdir name) body e = ap (λ (b : Option RequestBody). asked_opcode (body_or b)) e
opcode_said n (wire.unlink name) body e = ap (λ (b : Option RequestBody). asked_opcode (body_or b)) e
opcode_said n (wire.rmdir name) body e = ap (λ (b : Option RequestBody). asked_opcode (body_or b)) e
opcode_said n (wire.rename newdir old new) body e = ap (λ (b : Option RequestBody). asked_opcode (body_or b)) e
opcode_said n (wire.link oldnodeid name) body e = ap (λ (b : Option RequestBody). asked_opcode (body_or b)) e
opcode_said n wire.opening body e = ap (λ (b : Option RequestBody). asked_opcode (body_or b)) e
opcode_said n (wire.read fh offset size) body e = ap (λ (b : Option RequestBody). asked_opcode (body_or b)) e
opcode_said n (wire.write fh offset bytes) body e = ap (λ (b : Option RequestBody). asked_opcode (body_or b)) e
opcode_said n (wire.release fh) body e = ap (λ (b : Option RequestBody). asked_opcode (body_or b)) e
opcode_said n (wire.init major minor flags) body e = ap (λ (b : Option RequestBody). asked_opcode (body_or b)) e
opcode_said n (wire.readdir offset size) body e = ap (λ (b : Option RequestBody). asked_opcode (body_or b)) e
opcode_said n (wire.readdirplus offset size) body e = ap (λ (b : Option RequestBody). asked_opcode (body_or b)) e
opcode_said n (wire.create name) body e = ap (λ (b : Option RequestBody). asked_opcode (body_or b)) e
opcode_said n (wire.interrupt unique) body e = ap (λ (b : Option RequestBody). asked_opcode (body_or b)) e
opcode_said n (wire.batch_forget forgets) body e = ap (λ (b : Option RequestBody). asked_opcode (body_or b)) e

one_some : {X : Type 0} {x y : X} → Some x ≡ Some y → x ≡ y
one_some e = cc

module _ (s : Server) (unique : ℕ) where
  holds_it : (body : RequestBody) → has_reply (asked_opcode body) ≡ true
      → HoldsOpcode (holding s unique body) unique (asked_opcode body)
  holds_it body replied held there =
      let is = one_some (sym there ∙ get_put_here s.held unique _) in
      (ap (λ (h : HeldRequest). asked_opcode h.body) is, replied)

  -- What is held when it is taken is of its opcode.
  pub taken_holds : (body : RequestBody) → (taking s unique body).word ≡ Held
      → HoldsOpcode (taking s unique body).server unique (asked_opcode body)
  taken_holds (init flags) word = holds_it (init flags) refl
  taken_holds (asks (lookup d name)) word = holds_it (asks (lookup d name)) refl
  taken_holds (asks (getattr x)) word = holds_it (asks (getattr x)) refl
  taken_holds (asks (mkdir d name)) word = holds_it (asks (mkdir d name)) refl
  taken_holds (asks (create d name)) word = holds_it (asks (create d name)) refl
  taken_holds (asks (unlink d name)) word = holds_it (asks (unlink d name)) refl
  taken_holds (asks (rmdir d name)) word = holds_it (asks (rmdir d name)) refl
  taken_holds (asks (rename d old e new)) word = holds_it (asks (rename d old e new)) refl
  taken_holds (asks (link x d name)) word = holds_it (asks (link x d name)) refl
  taken_holds (asks (opening x)) word = holds_it (asks (opening x)) refl
  taken_holds (asks (readdir d after size)) word = holds_it (asks (readdir d after size)) refl
  taken_holds (asks (readdirplus d after size)) word = holds_it (asks (readdirplus d after size)) refl
  taken_holds (asks (read o offset size)) word = holds_it (asks (read o offset size)) refl
  taken_holds (asks (write o offset bytes)) word = holds_it (asks (write o offset bytes)) refl
  taken_holds (release o) word = holds_it (release o) refl
  taken_holds (forget f) word = absurd (cc word)
  taken_holds (batch_forget fs) word = absurd (cc word)
  taken_holds (interrupt original) word = by (get s.held original) (get s.kept original) word
    where
      by : (h : Option HeldRequest) (k : Option Kept) → (interrupting s unique original h k).word ≡ Held
          → HoldsOpcode (interrupting s unique original h k).server unique (asked_opcode (interrupt original))
      by (Some taken) k word = absurd (cc word)
      by None (Some kept) word = absurd (cc word)
      by None None word = absurd (cc word)

  -- What is answered at once is an INTERRUPT.
  pub answered_goes : (number : ℕ) (copy : Sent) (body : RequestBody)
      → Some copy ≡ copy_of number unique (taking s unique body).reply → GoesFor body copy.wire
  answered_goes number copy (interrupt original) is = by (get s.held original) (get s.kept original) is
    where
      by : (h : Option HeldRequest) (k : Option Kept)
          → Some copy ≡ copy_of number unique (interrupting s unique original h k).reply
          → GoesFor (interrupt original) copy.wire
      by (Some taken) k is = absurd (cc is)
      by None (Some kept) is = absurd (cc is)
      by None None is = subst (λ (c : Sent). GoesFor (interrupt original) c.wire) (sym (one_some is))
          (interrupt_replied original)
  answered_goes number copy (init flags) is = absurd (cc is)
  answered_goes number copy (asks operation) is = absurd (cc is)
  answered_goes number copy (release o) is = absurd (cc is)
  answered_goes number copy (forget f) is = absurd (cc is)
  answered_goes number copy (batch_forget fs) is = absurd (cc is)

-- The copy of a performed request's reply goes with it.
pub performed_replies : (old new : Server) (unique errno : ℕ) (opcode : Opcode) (copy : Sent)
    → HoldsOpcode old unique opcode → PerformsHeld old unique errno (Some copy) new → RepliesTo opcode copy
performed_replies old new unique errno opcode copy holds performs =
    let held = performs.held in
    let of_opcode = holds held performs.there in
    let replied = replied_of held.body (ap has_reply of_opcode.0 ∙ of_opcode.1) in
    let goes = served_goes performs.choice old unique held replied in
    subst (λ (o : Opcode). RepliesTo o copy) of_opcode.0
    (replies_to held.body copy (copy_goes old.aborted _ performs.copy_is goes))
  where
    copy_goes : (b : Bool) (said : WireReply) → Some copy ≡ first_copy b old.next_copy unique said
        → GoesFor performs.held.body said → GoesFor performs.held.body copy.wire
    copy_goes true said is goes = absurd (cc is)
    copy_goes false said is goes = subst (λ (c : Sent). GoesFor performs.held.body c.wire) (sym (one_some is)) goes
