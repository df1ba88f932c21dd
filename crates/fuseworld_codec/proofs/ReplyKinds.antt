-- The kind of body in the replies to an opcode.
use Rattle.std.proofs.Common.{◌≡◌, Bool, true, false, Some, None, if◌then◌else◌}
use Rattle.fk_wire.specs.Opcodes.{is_later, reply_kind_of}
use Rattle.fk_wire.specs.Replies.{ReplyContent, kind_of_content, reply_kind}
use Rattle.fk_wire.specs.declared.opcode.Minor.{Minor}
use Rattle.fk_wire.specs.declared.opcode.Minor.TheVariants as minors
use Rattle.fk_wire.specs.declared.opcode.Opcode.{Opcode}

kind_before : (later : Bool) (o : Opcode) (s : ReplyContent)
    → (if (if later then false else true) then reply_kind_of o else None) ≡ Some (kind_of_content s)
    → reply_kind_of o ≡ Some (kind_of_content s)
kind_before true o s h = cc h
kind_before false o s h = h

pub kind_known : (v : Minor) (o : Opcode) (s : ReplyContent) → reply_kind v o ≡ Some (kind_of_content s)
    → reply_kind_of o ≡ Some (kind_of_content s)
kind_known minors.M31 o s h = h
kind_known minors.M15 o s h = kind_before (is_later o) o s h
