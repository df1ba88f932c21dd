-- What the entries of a server's replies say, so that they break no rule.
use Rattle.std.specs.Prelude.{◌≡◌, ◌≢◌, ℕ, ◌||◌, Bool, true, false, List, [], ◌∷◌, codes}
use Rattle.fuse_protocol.specs.declared.opcode.Opcode.{Opcode}
use Rattle.fuse_protocol.specs.declared.opcode.Opcode.TheVariants as op
use Rattle.fuse_protocol.specs.Requests.{asked_at}
use Rattle.fuse_protocol.specs.Table.{code_of, row_at}
use Rattle.fuse_replies.specs.declared.entry.Entry.{Entry}
use Rattle.fuse_replies.specs.Record.{EntryRecordContent}
use Rattle.fuse_replies.specs.Replies.{AnswerContent, content_at}
use Rattle.fuse_replies.specs.Replies as answer
use Rattle.fuse_sessions.specs.Frames.{error_in}
use Rattle.fuse_sessions.specs.ReplyActs.{is_kind, kind_of, may_be_missing}
use Rattle.fuse_sessions.specs.RequestActs.{is_name}
use Rattle.fuse_sessions.specs.UnreadRequests.{opcode_in}
use Rattle.served_sessions.specs.Exchanges.{IsAnswer}

-- The file of an entry is of the kind that its request makes. Of the requests that make one this server knows MKDIR and
-- CREATE.
abbrev pub IsMadeBy : Opcode → ℕ → Type 0
IsMadeBy op.Mkdir kind = kind ≡ 16384
IsMadeBy op.Create kind = kind ≡ 32768
IsMadeBy op.Mknod kind = ⊥
IsMadeBy op.Symlink kind = ⊥
IsMadeBy op.Tmpfile kind = ⊥
IsMadeBy o kind = Unit {0}

-- An entry in a reply to a request of an opcode names no root, and a missing file only where one may be missing. Its file
-- has a kind, that which was asked for.
pub record IsGiven (o : Opcode) (e : Entry) : Type 0 where
  pub not_root : e.nodeid ≢ 1
  pub missing : e.nodeid ≡ 0 → may_be_missing o ≡ true
  pub kind : e.nodeid ≢ 0 → is_kind (kind_of e.attributes) ≡ true
  pub made : e.nodeid ≢ 0 → IsMadeBy o (kind_of e.attributes)

abbrev pub is_dots : List ℕ → Bool
is_dots name = is_name name (codes ".") || is_name name (codes "..")

-- So do those of a listing, but of `.` and `..`.
abbrev pub AreGiven : List EntryRecordContent → Type 0
AreGiven [] = Unit {0}
AreGiven (r ∷ rs) = (is_dots r.said.name ≡ false → IsGiven op.Readdirplus r.entry) × AreGiven rs

abbrev pub HasEntries : Opcode → AnswerContent → Type 0
HasEntries o (answer.entry e) = IsGiven o e
HasEntries o (answer.created e file) = IsGiven o e
HasEntries o (answer.entry_records rs) = AreGiven rs
HasEntries o content = Unit {0}

-- Behind no error the entries of a frame are such.
abbrev pub HasEntriesIn : (request reply : List ℕ) → Type 0
HasEntriesIn request reply = error_in reply ≡ 0 → (o : Opcode) → code_of o ≡ opcode_in request
    → HasEntries o (content_at (row_at o).reply (asked_at (row_at o).reply request) reply)

-- A frame answers the frame of a request, and its entries are such.
pub record IsSoundAnswer (request reply : List ℕ) : Type 0 where
  pub answers : IsAnswer request reply
  pub entries : HasEntriesIn request reply
