-- Replies to faulty request frames.
use Rattle.std.specs.Prelude.{◌≡◌, ◌≢◌, ◌-◌, ◌||◌, ◌⊎◌, ℕ, ℤ, Bool, true, false, IsTrue, List, negsuc, nat_eq}
use Rattle.fk_wire.specs.declared.opcode.Opcode.{Opcode}
use Rattle.fk_wire.specs.Faults.{HasLength}
use Rattle.fk_wire.specs.Fields.{number_at}
use Rattle.fk_wire.specs.Opcodes.{code_of, minor_knows}
use Rattle.fk_wire.specs.Replies.{WrittenReply, empty_reply}
use Rattle.fuse_spec.specs.Values.Numbers.{eio, enosys}
use Rattle.fuse_spec.specs.declared.Minor.{Minor}
use Rattle.fuse_frames.specs.RequestTies.{codec_minor}
use Rattle.fs_server.specs.declared.server.ServerFault.{ServerFault}
use Rattle.fs_server.specs.declared.server.ServerFault.TheVariants.{Wire, UnknownNode, TooManyForgets}

-- the faults that are replied to
abbrev pub is_fault_answered : ServerFault → Bool
is_fault_answered Wire = true
is_fault_answered UnknownNode = true
is_fault_answered TooManyForgets = true
is_fault_answered fault = false

-- the numbers of FORGET, INTERRUPT and BATCH_FORGET
abbrev pub is_unanswered : ℕ → Bool
is_unanswered code = nat_eq code 2 || nat_eq code 36 || nat_eq code 42

-- A frame with a whole header and of the length that it says, whose fault is replied to.
pub record IsAnswerable (bytes : List ℕ) (fault : ServerFault) : Type 0 where
  pub header : HasLength bytes
  pub of_fault : is_fault_answered fault ≡ true
  pub of_opcode : is_unanswered (number_at 4 4 bytes) ≡ false

-- the error of the reply: ENOSYS where the minor doesn't know the opcode, else EIO
abbrev pub IsErrorOf : Minor → (code : ℕ) → ℤ → Type 0
IsErrorOf minor code error =
    (((o : Opcode) × IsTrue (minor_knows (codec_minor minor) o) × (code_of o ≡ code)) × (error ≡ negsuc (eio - 1)))
    ⊎ (((o : Opcode) → IsTrue (minor_knows (codec_minor minor) o) → code_of o ≢ code) × (error ≡ negsuc (enosys - 1)))

-- The error reply to a frame whose fault is replied to: the header alone, with the frame's unique.
pub record IsFaultReply (minor : Minor) (bytes : List ℕ) (fault : ServerFault) (reply : List ℕ) : Type 0 where
  pub answerable : IsAnswerable bytes fault
  pub error : ℤ
  pub of_opcode : IsErrorOf minor (number_at 4 4 bytes) error
  pub written : WrittenReply (record { unique = number_at 8 8 bytes; error = error; content = empty_reply }) reply
