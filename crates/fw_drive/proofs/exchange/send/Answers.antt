use Rattle.std.proofs.Common.{◌∙◌, ap, inl, refl}
use Rattle.std.specs.Prelude.{Err}
use Rattle.fk_drive.specs.declared.end.NotSent.{NotSent}
use Rattle.fw_drive.specs.Findings.{Told}
use Rattle.fw_drive.specs.declared.stop.Stop.TheVariants as stops
use Rattle.fw_drive.proofs.Following.{kept_before, unprinted}
use Rattle.fw_drive.proofs.OneMove.{ends_behind_notes, request_collects, request_ended, request_refused}
use Rattle.fw_drive.proofs.exchange.send.Goals as goal

pub returns-then-is_err : goal.returns-then-is_err
returns-then-is_err g c =
    unprinted g.row.T-Heap.Denot g.D.Device.logs g.met.D.Device.stays c.args.form c.args.device.now
    (g.W.Write.contents c.args.out.now, c.args.notes.now.is_wrong)
    (g.W.Write.contents c.flush.new.self, c.args.notes.now.is_wrong) c.args.driver.now stops.OutputRefused tt
    c.flush.ensures.bytes _ (inl refl)

pub returns-in-Ok : goal.returns-in-Ok
returns-in-Ok g c =
    let (before, line, says, more) = c.note_request.ensures (g.W.Write.contents c.flush.new.self, c.args.notes.now.is_wrong)
    c.send_printing-sent.ensures.printed in
    let mid = g.W.Write.contents c.flush.new.self in
    let told = c.args.notes.now.is_wrong in
    let has : Told = (g.W.Write.contents c.note_request.new.out, c.note_request.new.notes.is_wrong) in
    kept_before g.row.T-Heap.Denot g.D.Device.logs c.args.form c.args.device.now c.send_printing-sent.new.device
    (g.W.Write.contents c.args.out.now) mid told has c.args.driver.now c.note_request.new.driver c.note_request.result _
    c.flush.ensures.bytes
    (request_collects g.row.T-Heap.Denot g.D.Device.logs c.args.form c.args.device.now c.send_printing-sent.new.device c.args.pick (mid, told) has
    c.args.driver.now c.send_printing-sent.new.driver c.note_request.new.driver c.send_printing-sent.result.0 c.in-Ok.frame c.in-Ok.is c.send_printing-sent.ensures.moves
    c.note_request.result before line says more)

pub returns-in-Refused : goal.returns-in-Refused
returns-in-Refused g c =
    let (own, before, printed, tells) = c.note_refusal.ensures (g.W.Write.contents c.flush.new.self, c.args.notes.now.is_wrong)
    c.send_printing-sent.new.notes.is_wrong c.send_printing-sent.ensures.printed in
    let mid = g.W.Write.contents c.flush.new.self in
    let told = c.args.notes.now.is_wrong in
    let has : Told = (g.W.Write.contents c.note_refusal.new.out, c.send_printing-sent.new.notes.is_wrong) in
    kept_before g.row.T-Heap.Denot g.D.Device.logs c.args.form c.args.device.now c.send_printing-sent.new.device
    (g.W.Write.contents c.args.out.now) mid told has c.args.driver.now c.send_printing-sent.new.driver c.note_refusal.result _
    c.flush.ensures.bytes
    (request_refused g.row.T-Heap.Denot g.D.Device.logs c.args.form c.args.device.now c.send_printing-sent.new.device c.args.pick (mid, told) has
    c.args.driver.now c.send_printing-sent.new.driver c.send_printing-sent.result.0 c.in-Refused.refusal
    (c.in-Err.is ∙ ap (λ (n : NotSent). Err n) c.in-Refused.is) c.send_printing-sent.ensures.moves c.note_refusal.result
    own before printed
    tells)

pub returns-in-Ended : goal.returns-in-Ended
returns-in-Ended g c =
    let (why, before, printed) = ends_behind_notes c.send_printing-sent.result.1 c.end_behind.result c.stop_at.result c.in-Ended.end
    (g.W.Write.contents c.flush.new.self, c.args.notes.now.is_wrong)
    (g.W.Write.contents c.send_printing-sent.new.out, c.send_printing-sent.new.notes.is_wrong) c.stop_at.ensures
    c.end_behind.ensures.ok c.end_behind.ensures.err c.send_printing-sent.ensures.printed in
    let mid = g.W.Write.contents c.flush.new.self in
    let told = c.args.notes.now.is_wrong in
    let has : Told = (g.W.Write.contents c.send_printing-sent.new.out, c.send_printing-sent.new.notes.is_wrong) in
    kept_before g.row.T-Heap.Denot g.D.Device.logs c.args.form c.args.device.now c.send_printing-sent.new.device
    (g.W.Write.contents c.args.out.now) mid told has c.args.driver.now c.send_printing-sent.new.driver _ _ c.flush.ensures.bytes
    (request_ended g.row.T-Heap.Denot g.D.Device.logs c.args.form c.args.device.now c.send_printing-sent.new.device c.args.pick (mid, told) has
    c.args.driver.now c.send_printing-sent.new.driver c.send_printing-sent.result.0 c.in-Ended.end
    (c.in-Err.is ∙ ap (λ (n : NotSent). Err n) c.in-Ended.is) c.send_printing-sent.ensures.moves c.end_behind.result
    why before printed)
