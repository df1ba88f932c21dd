-- The reply that performing a request gives is of its opcode's kind, and of no more bytes than were asked for.
use Rattle.std.proofs.Common.{◌≡◌, ◌≢◌, ◌≤◌, ◌⊎◌, inl, inr, ℕ, ℤ, pos, negsuc, ◌+◌, ◌-◌, ◌*◌, ◌/◌, Bool, true, false, cond, List, [], ◌∷◌, Option, Some, None, length, map, min, drop, nat_le, sum_by, refl, sym, ◌∙◌, ap, arith, length-take}
use Rattle.std.proofs.lemmas.Bool.{leb-true}
use Rattle.std.proofs.lemmas.List.Sums.{sum_by-cons}
use Rattle.std.specs.Int.{cast_unsigned, w32}
use Rattle.fuse_spec.specs.declared.Entry.{Entry}
use Rattle.fuse_spec.specs.declared.Opened.{Opened}
use Rattle.fuse_spec.specs.declared.Validity.{Validity}
use Rattle.fuse_spec.specs.Values.Maps.{get, remove}
use Rattle.fuse_spec.specs.Values.Numbers.{max_transfer}
use Rattle.fuse_spec.specs.Files.Operations as reply
use Rattle.fuse_spec.specs.Files.Operations.{Dirent, DirentPlus, Operation, Reply, create, errno_of, failed, files_in_reply, getattr, link, lookup, mkdir, opening, pair_with, read, readdir, readdirplus, rename, reply_with, rmdir, unlink, write}
use Rattle.fuse_spec.specs.Files.FileOperations.{FileOperation, lookup_reply, refusal, reply_by, reply_or, reply_unrefused, tree_after}
use Rattle.fuse_spec.specs.Files.Trees.{Tree, file_at, file_bytes, fitting, fitting_pairs, pair_length, pairs_after, record_length, records_after}
use Rattle.fuse_spec.specs.Kernel.Messages.{RequestBody, WireReply, asks, batch_forget, forget, init, interrupt, release}
use Rattle.fuse_spec.specs.Server.Nodes.{NodeTable, all_given, file_of, handle_back, is_open}
use Rattle.fuse_spec.specs.Server.Performs.{doing, entry_for, file_operation_of, is_open_for, is_still_held, performing, refusing, served, wire_of}
use Rattle.fuse_spec.specs.Server.Server.{HeldRequest, Server}
use Rattle.fk_fields.specs.Fields.{ReadsAs}
use Rattle.fk_wire.specs.Dirents.{DirentPlusContent, HaveEntries, direntpluses, dirent_fields}
use Rattle.fk_wire.specs.Entries.{found, missing}
use Rattle.fk_wire.specs.RecordEnds.{padding}
use Rattle.fk_wire.specs.Opcodes.{reply_kind_of}
use Rattle.fk_wire.specs.Replies.{IsReplyContent, ReplyContent, bytes_reply, create_reply, empty_reply, entry_reply, kind_of_content, plus_reply, records_reply, reply_body}
use Rattle.fk_wire.proofs.EntryFields.{entry_is}
use Rattle.fuse_frames.specs.ReplyTies.{pair_in, reply_content_of, wire_body, wire_said}
use Rattle.fuse_frames.specs.RequestTies.{asked_opcode}
use Rattle.fs_files.proofs.Listing.{records_end}

-- how many bytes it has, or says that were written, where its request says how many there may be
abbrev pub wire_length : WireReply → ℕ
wire_length (reply.content bytes) = length bytes
wire_length (reply.listed records) = sum_by record_length records
wire_length (reply.listed_plus pairs) = sum_by (pair_length {F = Entry}) pairs
wire_length (reply.written size) = size
wire_length wire = 0

abbrev pub asked_bytes : RequestBody → ℕ
asked_bytes (asks (readdir d after size)) = size
asked_bytes (asks (readdirplus d after size)) = size
asked_bytes (asks (read o offset size)) = size
asked_bytes (asks (write o offset bytes)) = length bytes
asked_bytes body = 0

-- A reply is an error, or of the request's kind, and no longer than was asked for.
pub record GoesFor (body : RequestBody) (wire : WireReply) : Type 0 where
  pub kind : ((errno : ℕ) × (wire ≡ failed errno)) ⊎ (reply_kind_of (asked_opcode body) ≡ Some (kind_of_content (reply_content_of wire)))
  pub fits : wire_length wire ≤ asked_bytes body

pub fails : (body : RequestBody) (errno : ℕ) → GoesFor body (failed errno)
fails body errno = record { kind = inl (errno, refl); fits = omega arith }

goes : (body : RequestBody) (wire : WireReply) → reply_kind_of (asked_opcode body) ≡ Some (kind_of_content (reply_content_of wire))
    → wire_length wire ≤ asked_bytes body → GoesFor body wire
goes body wire is fits = record { kind = inr is; fits = fits }

-- ---- listings

fitting_fits : (room : ℕ) (rs : List Dirent) → sum_by record_length (fitting room rs) ≤ room
fitting_fits room [] = omega arith
fitting_fits room (r ∷ rs) = by (nat_le (record_length r) room) refl (fitting_fits (room - record_length r) rs)
  where
    by : (b : Bool) → nat_le (record_length r) room ≡ b
        → sum_by record_length (fitting (room - record_length r) rs) ≤ room - record_length r
        → sum_by record_length (cond b (r ∷ fitting (room - record_length r) rs) []) ≤ room
    by false e rest = omega arith
    by true e rest =
        let sum : sum_by record_length (r ∷ fitting (room - record_length r) rs)
        ≡ record_length r + sum_by record_length (fitting (room - record_length r) rs) =
        sum_by-cons record_length r (fitting (room - record_length r) rs) in
        let le = leb-true (record_length r) room e in
        omega (arith, rest, sum, le)

pairs_fit : (room : ℕ) (ps : List (DirentPlus ℕ)) → sum_by (pair_length {F = ℕ}) (fitting_pairs room ps) ≤ room
pairs_fit room [] = omega arith
pairs_fit room (p ∷ ps) = by (nat_le (pair_length p) room) refl (pairs_fit (room - pair_length p) ps)
  where
    by : (b : Bool) → nat_le (pair_length p) room ≡ b
        → sum_by (pair_length {F = ℕ}) (fitting_pairs (room - pair_length p) ps) ≤ room - pair_length p
        → sum_by (pair_length {F = ℕ}) (cond b (p ∷ fitting_pairs (room - pair_length p) ps) []) ≤ room
    by false e rest = omega arith
    by true e rest =
        let sum : sum_by (pair_length {F = ℕ}) (p ∷ fitting_pairs (room - pair_length p) ps)
        ≡ pair_length p + sum_by (pair_length {F = ℕ}) (fitting_pairs (room - pair_length p) ps) =
        sum_by-cons (pair_length {F = ℕ}) p (fitting_pairs (room - pair_length p) ps) in
        let le = leb-true (pair_length p) room e in
        omega (arith, rest, sum, le)

-- ---- what the tree replies

module _ (entry : ℕ → Entry) (fh : ℕ) (valid : Validity) (tree : Tree) (t : NodeTable) where
  abbrev sent_as : Reply ℕ ℕ → WireReply
  sent_as r = reply_with entry (λ (file : ℕ). fh) r

  pairs_alike : (ps : List (DirentPlus ℕ))
      → sum_by (pair_length {F = Entry}) (map (pair_with entry) ps) ≡ sum_by (pair_length {F = ℕ}) ps
  pairs_alike [] = refl
  pairs_alike (p ∷ ps) =
      sum_by-cons (pair_length {F = Entry}) (pair_with entry p) (map (pair_with entry) ps)
      ∙ ap (λ (n : ℕ). pair_length p + n) (pairs_alike ps) ∙ sym (sum_by-cons (pair_length {F = ℕ}) p ps)

  found_goes : (d : ℕ) (name : List ℕ) (o : Option ℕ) → GoesFor (asks (lookup d name)) (sent_as (lookup_reply valid o))
  found_goes d name None = goes _ _ refl (omega arith)
  found_goes d name (Some file) = goes _ _ refl (omega arith)

  unrefused_goes : (operation : Operation ℕ Opened)
      → GoesFor (asks operation) (sent_as (reply_unrefused valid tree (file_operation_of t operation)))
  unrefused_goes (lookup d name) = found_goes d name (file_at tree (file_of t d) name)
  unrefused_goes (getattr x) = goes _ _ refl (omega arith)
  unrefused_goes (mkdir d name) = goes _ _ refl (omega arith)
  unrefused_goes (create d name) = goes _ _ refl (omega arith)
  unrefused_goes (unlink d name) = goes _ _ refl (omega arith)
  unrefused_goes (rmdir d name) = goes _ _ refl (omega arith)
  unrefused_goes (rename d old e new) = goes _ _ refl (omega arith)
  unrefused_goes (link x d name) = goes _ _ refl (omega arith)
  unrefused_goes (opening x) = goes _ _ refl (omega arith)
  unrefused_goes (readdir d after size) =
      let few = fitting_fits (min size max_transfer) (records_after tree (file_of t d) after) in
      goes (asks (readdir d after size)) (sent_as (reply_unrefused valid tree (file_operation_of t (readdir d after size)))) refl
      (omega (arith, few))
  unrefused_goes (readdirplus d after size) =
      let all = pairs_after valid.found_ms tree (file_of t d) after in
      let few = pairs_fit (min size max_transfer) all in
      let same = pairs_alike (fitting_pairs (min size max_transfer) all) in
      goes (asks (readdirplus d after size))
      (sent_as (reply_unrefused valid tree (file_operation_of t (readdirplus d after size)))) refl (omega (arith, few, same))
  unrefused_goes (read o offset size) =
      let bytes = drop offset (file_bytes (get tree.files (file_of t o.nodeid))) in
      goes (asks (read o offset size)) (sent_as (reply_unrefused valid tree (file_operation_of t (read o offset size)))) refl
      (omega (arith, length-take (min size max_transfer) bytes))
  unrefused_goes (write o offset bytes) = goes _ _ refl (omega arith)

  reply_goes : (operation : Operation ℕ Opened)
      → GoesFor (asks operation) (sent_as (reply_by valid tree (file_operation_of t operation)))
  reply_goes operation = by (refusal tree (file_operation_of t operation))
    where
      by : (o : Option ℕ) → GoesFor (asks operation)
          (sent_as (reply_or (reply_unrefused valid tree (file_operation_of t operation)) o))
      by None = unrefused_goes operation
      by (Some errno) = fails (asks operation) errno

-- ---- what is performed

module _ (choice : ℕ → ℕ) where
  doing_goes : (s : Server) (operation : Operation ℕ Opened)
      → GoesFor (asks operation) (doing choice s (file_operation_of s.nodes operation)).wire
  doing_goes s operation = by s.aborted
    where
      did : FileOperation
      did = file_operation_of s.nodes operation

      said : Reply ℕ ℕ
      said = reply_by s.validity s.tree did

      nodes : NodeTable
      nodes = all_given choice s.nodes (files_in_reply said)

      by : (b : Bool) → GoesFor (asks operation)
          (cond b (failed (errno_of said)) (wire_of choice nodes (tree_after s.tree did) s.handles.next_fh said))
      by true = fails (asks operation) (errno_of said)
      by false = reply_goes (entry_for choice nodes (tree_after s.tree did)) s.handles.next_fh s.validity s.tree s.nodes
          operation

  performing_goes : (s : Server) (body : RequestBody) → GoesFor body (performing choice s body).wire
  performing_goes s (init flags) = goes (init flags) (performing choice s (init flags)).wire refl (omega arith)
  performing_goes s (asks operation) = by (is_open_for s operation)
    where
      by : (b : Bool) → GoesFor (asks operation)
          (cond b (doing choice s (file_operation_of s.nodes operation)) (refusing s 9)).wire
      by true = doing_goes s operation
      by false = fails (asks operation) 9
  performing_goes s (release o) = by (is_open s.handles o.fh (file_of s.nodes o.nodeid))
    where
      by : (b : Bool) → GoesFor (release o) (cond b (record {
        server = record s { handles = handle_back s.handles o.fh };
        wire = reply.done;
      }) (refusing s 9)).wire
      by true = goes (release o) reply.done refl (omega arith)
      by false = fails (release o) 9
  performing_goes s (forget f) = fails (forget f) 5
  performing_goes s (batch_forget fs) = fails (batch_forget fs) 5
  performing_goes s (interrupt original) = fails (interrupt original) 5

  -- The reply of a held request goes with it.
  pub served_goes : (s : Server) (unique : ℕ) (taken : HeldRequest) → GoesFor taken.body (served choice s unique taken).wire
  served_goes s unique taken = by_mark taken.marked (is_still_held s.nodes taken.generations)
    where
      less : Server
      less = record s { held = remove s.held unique }

      by_mark : (m h : Bool) → GoesFor taken.body (cond m (refusing less 4)
          (cond h (performing choice less taken.body) (refusing less 5))).wire
      by_mark true h = fails taken.body 4
      by_mark false true = performing_goes less taken.body
      by_mark false false = fails taken.body 5

-- ---- a frame of it

-- the kind of what is read is that of what is said
content_kind : (content : ReplyContent) → kind_of_content (reply_content_of (wire_body content)) ≡ kind_of_content content
content_kind empty_reply = refl
content_kind (entry_reply (missing seconds nanoseconds)) = refl
content_kind (entry_reply (found nodeid generation seconds nanoseconds a)) = refl
content_kind (create_reply (missing seconds nanoseconds) fh) = refl
content_kind (create_reply (found nodeid generation seconds nanoseconds a) fh) = refl
content_kind content = refl

pub kind_said : (error : ℤ) (content : ReplyContent) (wire : WireReply) → cast_unsigned w32 error ≡ 0
    → wire_said error content ≡ wire → ((n : ℕ) → error ≡ negsuc n → cast_unsigned w32 error ≢ 0)
    → (kind_of_content content ≡ kind_of_content (reply_content_of wire)) × (wire_body content ≡ wire)
kind_said (pos n) content wire zero says shows =
    (sym (content_kind content) ∙ ap (λ (w : WireReply). kind_of_content (reply_content_of w)) says, says)
kind_said (negsuc n) content wire zero says shows = absurd (shows n refl zero)

pad_is : (n : ℕ) → 24 + n + padding n ≡ (31 + n) / 8 * 8
pad_is n = omega arith

-- how long the frame of such a reply is
pairs_end : (ps : List DirentPlusContent) (place : ℕ) (bytes : List ℕ) → HaveEntries ps → ReadsAs place (direntpluses ps) bytes
    → length bytes ≡ place + sum_by (pair_length {F = Entry}) (map pair_in ps)
pairs_end [] place bytes good reads = omega (arith, reads)
pairs_end (p ∷ ps) place bytes good reads =
    let entry = entry_is p.entry_out place (dirent_fields p.dirent (direntpluses ps)) bytes good.0 reads in
    let next : ℕ = place + 128 + 8 + 8 + 4 + 4 + length p.dirent.name + padding (length p.dirent.name) in
    let rest = pairs_end ps next bytes good.1 entry.2.1.1.1.1.1 in
    let pad : 24 + length p.dirent.name + padding (length p.dirent.name) ≡ (31 + length p.dirent.name) / 8 * 8 =
    pad_is (length p.dirent.name) in
    let sum : sum_by (pair_length {F = Entry}) (map pair_in (p ∷ ps))
    ≡ 128 + (31 + length p.dirent.name) / 8 * 8 + sum_by (pair_length {F = Entry}) (map pair_in ps) =
    sum_by-cons (pair_length {F = Entry}) (pair_in p) (map pair_in ps) in
    omega (arith, rest, pad, sum)

-- where its request says how many bytes there may be
abbrev pub is_sized : ReplyContent → Bool
is_sized (bytes_reply bytes) = true
is_sized (records_reply ds) = true
is_sized (plus_reply ps) = true
is_sized content = false

pub frame_length : (content : ReplyContent) (bytes : List ℕ) → IsReplyContent content → ReadsAs 16 (reply_body content) bytes
    → is_sized content ≡ true → length bytes ≡ 16 + wire_length (wire_body content)
frame_length (bytes_reply bs) bytes good reads is = reads.1
frame_length (records_reply ds) bytes good reads is = records_end ds 16 bytes reads
frame_length (plus_reply ps) bytes good reads is = pairs_end ps 16 bytes good reads
frame_length content bytes good reads is = absurd cc
