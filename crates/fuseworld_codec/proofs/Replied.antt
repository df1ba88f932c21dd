-- A struct says one reply to an opcode at most.
use Rattle.std.proofs.Common.{◌≡◌, ℕ, ℤ, false, true, List, [], length, Some, refl, sym, ap, ◌∙◌, arith}
use Rattle.std.specs.Int.RustNames.{bit_and}
use Rattle.fk_wire.specs.Dirents.{dirents_from, direntpluses_from}
use Rattle.fk_wire.specs.RecordEnds.{count_from}
use Rattle.fk_wire.specs.Requests.{known_flags}
use Rattle.fk_wire.specs.Replies.{GoesWith, ReplyMessage, ReplyContent, kind_of_content, reply_content_at}
use Rattle.fk_wire.specs.Replies.{empty_reply, entry_reply, attr_reply, open_reply, bytes_reply, write_reply}
use Rattle.fk_wire.specs.Replies.{init_reply, create_reply, records_reply, plus_reply}
use Rattle.fk_wire.specs.declared.opcode.Minor.{Minor}
use Rattle.fk_wire.specs.declared.opcode.Opcode.{Opcode}
use Rattle.fk_wire.proofs.OneReply.{counted_from, ends_beyond}
use Rattle.fk_wire.proofs.RecordLists.{one_dirent_list, one_plus_list}
use Rattle.fuseworld_codec.specs.declared.layout.FlatReply.{FlatReply}
use Rattle.fuseworld_codec.specs.ReplyStructs.{IsReplyStruct, Replies, attr_said, bytes_said, entry_said}

-- what a struct replies of the kind of this content, if it replies something
like : ReplyContent → FlatReply → List ℕ → ReplyContent
like empty_reply r bytes = empty_reply
like (entry_reply e) r bytes = entry_reply (entry_said r.entry)
like (attr_reply a) r bytes = attr_reply (attr_said r.entry.attr)
like (open_reply fh) r bytes = open_reply r.fh
like (bytes_reply data') r bytes = bytes_reply (bytes_said r bytes)
like (write_reply size) r bytes = write_reply r.size
like (init_reply major minor flags) r bytes = init_reply r.major r.minor (bit_and r.flags known_flags)
like (create_reply e fh) r bytes = create_reply (entry_said r.entry) r.fh
like (records_reply ds) r bytes = let said = bytes_said r bytes in
    records_reply (dirents_from (count_from (length said) false 0 said) 0 said)
like (plus_reply ps) r bytes = let said = bytes_said r bytes in
    plus_reply (direntpluses_from (count_from (length said) true 0 said) 0 said)

like_is : (s : ReplyContent) (r : FlatReply) (bytes : List ℕ) → Replies r bytes s → like s r bytes ≡ s
unfolding like
like_is empty_reply r bytes h = refl
like_is (entry_reply e) r bytes h = ap entry_reply h
like_is (attr_reply a) r bytes h = ap attr_reply h
like_is (open_reply fh) r bytes h = ap open_reply h
like_is (bytes_reply data') r bytes h = ap bytes_reply h
like_is (write_reply size) r bytes h = ap write_reply h
like_is (init_reply major minor flags) r bytes h = rw (h.0, h.1, h.2) refl
like_is (create_reply e fh) r bytes h = rw (h.0, h.1) refl
like_is (records_reply ds) r bytes h =
    let said : List ℕ = bytes_said r bytes in
    let list = one_dirent_list ds 0 said h.1 in
    let count : count_from (length said) false 0 said ≡ length ds =
    counted_from (length said) false (length ds) 0 said list.1
    (omega (arith, list.1, ends_beyond false (length ds) 0 said)) in
    ap records_reply (ap (λ (n : ℕ). dirents_from n 0 said) count ∙ list.0)
like_is (plus_reply ps) r bytes h =
    let said : List ℕ = bytes_said r bytes in
    let list = one_plus_list ps 0 said h.0 h.2 in
    let count : count_from (length said) true 0 said ≡ length ps =
    counted_from (length said) true (length ps) 0 said list.1
    (omega (arith, list.1, ends_beyond true (length ps) 0 said)) in
    ap plus_reply (ap (λ (n : ℕ). direntpluses_from n 0 said) count ∙ list.0)

-- It goes by the kind alone.
like_kind : (s : ReplyContent) (r : FlatReply) (bytes : List ℕ)
    → like (reply_content_at (kind_of_content s) 0 []) r bytes ≡ like s r bytes
unfolding like
like_kind empty_reply r bytes = refl
like_kind (entry_reply e) r bytes = refl
like_kind (attr_reply a) r bytes = refl
like_kind (open_reply fh) r bytes = refl
like_kind (bytes_reply data') r bytes = refl
like_kind (write_reply size) r bytes = refl
like_kind (init_reply major minor flags) r bytes = refl
like_kind (create_reply e fh) r bytes = refl
like_kind (records_reply ds) r bytes = refl
like_kind (plus_reply ps) r bytes = refl

one_content : (r : FlatReply) (bytes : List ℕ) (s u : ReplyContent) → kind_of_content s ≡ kind_of_content u
    → Replies r bytes s → Replies r bytes u → s ≡ u
one_content r bytes s u same h k =
    let kinds : like (reply_content_at (kind_of_content s) 0 []) r bytes
    ≡ like (reply_content_at (kind_of_content u) 0 []) r bytes = rw same refl in
    sym (like_is s r bytes h) ∙ sym (like_kind s r bytes) ∙ kinds ∙ like_kind u r bytes ∙ like_is u r bytes k

abbrev message : (unique : ℕ) (error : ℤ) → ReplyContent → ReplyMessage
message unique error content = record { unique = unique; error = error; content = content }

pub replies_one : (v : Minor) (o : Opcode) (r : FlatReply) (bytes : List ℕ) (t u : ReplyMessage) → GoesWith v o t
    → GoesWith v o u → IsReplyStruct r bytes t → IsReplyStruct r bytes u → t ≡ u
replies_one v o r bytes t u goes goes' h k =
    let kind : goes.0 ≡ goes'.0 = let both : Some goes.0 ≡ Some goes'.0 = sym goes.1 ∙ goes'.1 in cc in
    let unique : t.unique ≡ u.unique = sym h.0 ∙ k.0 in
    let error : t.error ≡ u.error = sym h.1 ∙ k.1 in
    let same : kind_of_content t.content ≡ kind_of_content u.content = rw (goes.2, goes'.2, kind, error) refl in
    let content : t.content ≡ u.content = one_content r bytes t.content u.content same h.2 k.2 in
    ap (λ (n : ℕ). message n t.error t.content) unique ∙ ap (λ (z : ℤ). message u.unique z t.content) error ∙ ap
    (λ (s : ReplyContent). message u.unique u.error s) content
