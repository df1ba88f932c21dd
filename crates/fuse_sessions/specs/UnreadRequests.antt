-- The acts of a request that is not read by a row: a malformed one, or one of an opcode that came later. What it asks is
-- not known, so its reply is not judged.
use Rattle.std.specs.Prelude.{ℕ, Bool, false, ◌&&◌, ◌||◌, ◌==◌, nat_le, nat_lt, not, if◌then◌else◌, List, [], ◌∷◌, ◌++◌, Option, Some, None, length}
use Rattle.fk_fields.specs.Fields.{number_at}
use Rattle.fuse_protocol.specs.declared.init.InitRequest.{InitRequest}
use Rattle.fuse_sessions.specs.declared.act.Act.{Act}
use Rattle.fuse_sessions.specs.declared.act.Act.TheVariants.{Faulty, Arrives, Read, Asks}
use Rattle.fuse_sessions.specs.declared.act.Asked.{Asked}
use Rattle.fuse_sessions.specs.declared.fault.Fault.TheVariants as fault

-- a request of which nothing is known
abbrev pub unjudged : Asked
unjudged = record {
  opcode = None;
  asked = 0;
  writes = 0;
  lists_from = 0;
  makes = 0;
  is_dots = false;
  nodeid = 0;
  other = 0;
  uses = None;
  copies_to = None;
}

-- the opcode's number, and the request's: struct fuse_in_header
abbrev pub opcode_in : List ℕ → ℕ
opcode_in bytes = number_at 4 4 bytes

abbrev pub unique_in : List ℕ → ℕ
unique_in bytes = number_at 8 8 bytes

-- struct fuse_in_header is whole
abbrev pub has_header : List ℕ → Bool
has_header bytes = nat_le 40 (length bytes)

-- The kernel speaks a later minor than 7.45.
abbrev pub is_later : Option InitRequest → Bool
is_later None = false
is_later (Some offered) = nat_lt 45 offered.minor

-- A whole frame of an opcode above 7.45's last, from a kernel that may know it.
abbrev pub may_be_known : Option InitRequest → List ℕ → Bool
may_be_known offered bytes = has_header bytes && (is_later offered
    && (nat_lt 53 (opcode_in bytes) && number_at 0 4 bytes == length bytes))

-- FORGET, INTERRUPT, NOTIFY_REPLY and BATCH_FORGET: no reply to them ends anything
abbrev pub takes_no_reply : ℕ → Bool
takes_no_reply opcode = opcode == 2 || (opcode == 36 || (opcode == 41 || opcode == 42))

-- A request whose header is whole waits for its reply.
abbrev pub asking_unread : List ℕ → List Act
asking_unread bytes = if has_header bytes && not (takes_no_reply (opcode_in bytes))
    then Read None (unique_in bytes) ∷ Asks (unique_in bytes) unjudged ∷ [] else []

abbrev pub malformed : Option InitRequest → List ℕ → List Act
malformed offered bytes = if may_be_known offered bytes then [] else Faulty fault.MalformedRequest ∷ []

abbrev pub unread_acts : Option InitRequest → List ℕ → List Act
unread_acts offered bytes = Arrives ∷ (malformed offered bytes ++ asking_unread bytes)
