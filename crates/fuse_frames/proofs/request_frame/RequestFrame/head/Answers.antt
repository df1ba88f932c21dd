use Rattle.std.proofs.Common.{sym}
use Rattle.fk_wire.specs.Opcodes.{latest_minor}
use Rattle.fuse_frames.proofs.RequestLemmas.{has_head, opcode_at, some_opcode, unique_at}
use Rattle.fuse_frames.proofs.request_frame.RequestFrame.head.Goals as goal

pub returns-in_default-clause-unique : goal.returns-in_default-clause-unique
returns-in_default-clause-unique g c =
    absurd (has_head c.self.inside.bytes.items c.deref.result.now c.args.self.now c.self.invariant (sym c.self.view_is)
    c.deref.ensures.value c.in_default.field-0 (c.in_default.ensures.fault latest_minor).0)

pub returns-in_default-clause-opcode : goal.returns-in_default-clause-opcode
returns-in_default-clause-opcode g c =
    absurd (has_head c.self.inside.bytes.items c.deref.result.now c.args.self.now c.self.invariant (sym c.self.view_is)
    c.deref.ensures.value c.in_default.field-0 (c.in_default.ensures.fault latest_minor).0)

pub returns-in_default-opcode_of_code-clause-unique : goal.returns-in_default-opcode_of_code-clause-unique
returns-in_default-opcode_of_code-clause-unique g c =
    unique_at c.self.inside.bytes.items c.deref.result.now c.args.self.now c.self.invariant (sym c.self.view_is)
    c.deref.ensures.value c.in-Ok.unique c.in-Ok.ensures.ok.2

pub returns-in_default-opcode_of_code-clause-opcode : goal.returns-in_default-opcode_of_code-clause-opcode
returns-in_default-opcode_of_code-clause-opcode g c =
    absurd (some_opcode c.self.inside.bytes.items c.deref.result.now c.args.self.now c.self.invariant
    (sym c.self.view_is) c.deref.ensures.value c.in-Ok.code c.in-Ok.ensures.ok.1 c.in_default-opcode_of_code.ensures)

pub returns-clause-unique : goal.returns-clause-unique
returns-clause-unique g c =
    unique_at c.self.inside.bytes.items c.deref.result.now c.args.self.now c.self.invariant (sym c.self.view_is)
    c.deref.ensures.value c.in-Ok.unique c.in-Ok.ensures.ok.2

pub returns-clause-opcode : goal.returns-clause-opcode
returns-clause-opcode g c =
    opcode_at c.self.inside.bytes.items c.deref.result.now c.args.self.now c.self.invariant (sym c.self.view_is)
    c.deref.ensures.value c.in-Ok.code c.in-Some.opcode c.in-Ok.ensures.ok.1 c.in-Some.ensures
