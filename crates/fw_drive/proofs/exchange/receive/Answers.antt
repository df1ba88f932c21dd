use Rattle.std.proofs.Common.{inl, refl}
use Rattle.fw_drive.specs.Findings.{Told}
use Rattle.fw_drive.specs.declared.stop.Stop.TheVariants as stops
use Rattle.fw_drive.proofs.Following.{kept_before, unprinted}
use Rattle.fw_drive.proofs.OneMove.{ends_behind_notes, frame_ended, frame_noted, frame_refused}
use Rattle.fw_drive.proofs.exchange.receive.Goals as goal

pub returns-then-is_err : goal.returns-then-is_err
returns-then-is_err g c =
    unprinted g.row.T-Heap.Denot g.D.Device.logs g.met.D.Device.stays c.args.form c.args.device.now
    (g.W.Write.contents c.args.out.now, c.args.notes.now.is_wrong)
    (g.W.Write.contents c.flush.new.self, c.args.notes.now.is_wrong) c.args.driver.now stops.OutputRefused tt
    c.flush.ensures.bytes _ (inl refl)

pub returns-in-Ok-Ok : goal.returns-in-Ok-Ok
returns-in-Ok-Ok g c =
    let mid = g.W.Write.contents c.flush.new.self in
    let told = c.args.notes.now.is_wrong in
    let has : Told = (g.W.Write.contents c.note_reply.new.out, c.note_reply.new.notes.is_wrong) in
    kept_before g.row.T-Heap.Denot g.D.Device.logs c.args.form c.args.device.now c.receive_printing-received.new.device
    (g.W.Write.contents c.args.out.now) mid told has c.args.driver.now c.note_reply.new.driver c.note_reply.result _
    c.flush.ensures.bytes
    (frame_noted g.row.T-Heap.Denot g.D.Device.logs c.args.form c.args.device.now c.receive_printing-received.new.device (mid, told) has
    c.args.driver.now c.receive_printing-received.new.driver c.note_reply.new.driver c.receive_printing-received.result.0 c.in-Ok-Ok.written
    (rw c.in-Ok-Ok.field-0-is at c.in-Ok-Ok.is) c.receive_printing-received.ensures.moves c.note_reply.result (c.note_reply.ensures.some (mid, told) c.receive_printing-received.ensures.printed)
    (c.note_reply.ensures.none (mid, told) c.receive_printing-received.ensures.printed))

pub returns-in-Ok-Err : goal.returns-in-Ok-Err
returns-in-Ok-Err g c =
    let (own, before, printed, tells) = c.note_refusal.ensures (g.W.Write.contents c.flush.new.self, c.args.notes.now.is_wrong)
    c.receive_printing-received.new.notes.is_wrong c.receive_printing-received.ensures.printed in
    let mid = g.W.Write.contents c.flush.new.self in
    let told = c.args.notes.now.is_wrong in
    let has : Told = (g.W.Write.contents c.note_refusal.new.out, c.receive_printing-received.new.notes.is_wrong) in
    kept_before g.row.T-Heap.Denot g.D.Device.logs c.args.form c.args.device.now c.receive_printing-received.new.device
    (g.W.Write.contents c.args.out.now) mid told has c.args.driver.now c.receive_printing-received.new.driver c.note_refusal.result _
    c.flush.ensures.bytes
    (frame_refused g.row.T-Heap.Denot g.D.Device.logs c.args.form c.args.device.now c.receive_printing-received.new.device (mid, told) has
    c.args.driver.now c.receive_printing-received.new.driver c.receive_printing-received.result.0 c.in-Ok-Err.refusal
    (rw c.in-Ok-Err.field-0-is at c.in-Ok-Err.is) c.receive_printing-received.ensures.moves c.note_refusal.result own before printed
    tells)

pub returns-in-Err : goal.returns-in-Err
returns-in-Err g c =
    let (why, before, printed) = ends_behind_notes c.receive_printing-received.result.1 c.end_behind.result c.stop_at.result c.in-Err.end
    (g.W.Write.contents c.flush.new.self, c.args.notes.now.is_wrong)
    (g.W.Write.contents c.receive_printing-received.new.out, c.receive_printing-received.new.notes.is_wrong) c.stop_at.ensures
    c.end_behind.ensures.ok c.end_behind.ensures.err c.receive_printing-received.ensures.printed in
    let mid = g.W.Write.contents c.flush.new.self in
    let told = c.args.notes.now.is_wrong in
    let has : Told = (g.W.Write.contents c.receive_printing-received.new.out, c.receive_printing-received.new.notes.is_wrong) in
    kept_before g.row.T-Heap.Denot g.D.Device.logs c.args.form c.args.device.now c.receive_printing-received.new.device
    (g.W.Write.contents c.args.out.now) mid told has c.args.driver.now c.receive_printing-received.new.driver _ _ c.flush.ensures.bytes
    (frame_ended g.row.T-Heap.Denot g.D.Device.logs c.args.form c.args.device.now c.receive_printing-received.new.device (mid, told) has
    c.args.driver.now c.receive_printing-received.new.driver c.receive_printing-received.result.0 c.in-Err.end c.in-Err.is c.receive_printing-received.ensures.moves c.end_behind.result
    why before printed)
