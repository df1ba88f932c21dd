use Rattle.std.proofs.Common.{List, ℕ, refl, subst}
use Rattle.std.specs.Prelude.{Ok, Err}
use Rattle.std.proofs.lemmas.Result.{err_from_is_err_and}
use Rattle.fk_drive.specs.Driven.{driven}
use Rattle.fk_drive.specs.Driving.{idle}
use Rattle.fk_drive.specs.Releasing.{Releases}
use Rattle.fk_drive.proofs.Noting.{noted_on}
use Rattle.fk_drive.proofs.WrittenNext.{none_next, over_next, refused_next, wrote}
use Rattle.fk_drive.proofs.writing.write_next.Goals as goal

pub returns-in-Ok-clause-writes : goal.returns-in-Ok-clause-writes
returns-in-Ok-clause-writes g c =
    let first = c.write_first.new.connection in
    let new = c.release.new.connection in
    wrote c.args.kernel.now c.write_first.new.kernel c.receive_one.new.connection first c.in-Ok.written
    g.D.Device.logs g.met.D.Device.goes_on c.args.device.now c.receive_one.new.device c.release.new.device
    (driven c.args.kernel.now c.args.connection.now idle) c.release.result c.err-written.result c.err-written.ensures.value
    (c.in_ok-receive_one.ensures.receives c.args.kernel.now idle) c.in-Ok.ensures.ok new
    (subst (λ (l : List ℕ). Releases c.write_first.new.kernel g.D.Device.logs c.receive_one.new.device c.release.new.device l
    c.release.result first new) c.deref.ensures.value (c.release.ensures.releases c.write_first.new.kernel))

pub returns-in-Err-clause-writes : goal.returns-in-Err-clause-writes
returns-in-Err-clause-writes g c =
    refused_next g.row.Q-Heap.Denot g.D.Device.logs c.args.device.now c.receive_one.new.device
    (driven c.args.kernel.now c.args.connection.now idle) c.args.kernel.now c.write_first.new.kernel
    c.receive_one.new.connection c.write_first.new.connection idle c.in-Err.refusal
    (c.in_ok-receive_one.ensures.receives c.args.kernel.now idle) c.in-Err.ensures.err.0 c.in-Err.ensures.err.1 refl

pub returns-in_err-receive_one-clause-writes : goal.returns-in_err-receive_one-clause-writes
returns-in_err-receive_one-clause-writes g c =
    let p = err_from_is_err_and c.from_residual.result c.from_residual.ensures.1 in
    rw (p.1, p.2) (none_next g.row.Q-Heap.Denot g.D.Device.logs c.args.device.now c.receive_one.new.device
    (driven c.args.kernel.now c.args.connection.now idle)
    c.args.kernel.now c.receive_one.new.connection idle c.in_err-receive_one.field-0.0
    (c.in_err-receive_one.ensures.receives c.args.kernel.now idle) refl)

pub returns-in-Ok-clause-drives : goal.returns-in-Ok-clause-drives
returns-in-Ok-clause-drives g c =
    over_next g.D.Device.logs c.args.device.now c.release.new.device
    (Ok (Ok (record c.in-Ok.written { end = c.err-written.result }))) (driven c.args.kernel.now c.args.connection.now idle)
    (λ turn. driven c.write_first.new.kernel c.release.new.connection turn) (returns-in-Ok-clause-writes g c)

pub returns-in-Err-clause-drives : goal.returns-in-Err-clause-drives
returns-in-Err-clause-drives g c =
    over_next {A = g.row.Q-Heap.Denot} g.D.Device.logs c.args.device.now c.receive_one.new.device (Ok (Err c.in-Err.refusal))
    (driven c.args.kernel.now c.args.connection.now idle)
    (λ turn. driven c.write_first.new.kernel c.write_first.new.connection turn) (returns-in-Err-clause-writes g c)

pub returns-in_err-receive_one-clause-drives : goal.returns-in_err-receive_one-clause-drives
returns-in_err-receive_one-clause-drives g c =
    over_next {A = g.row.Q-Heap.Denot} g.D.Device.logs c.args.device.now c.receive_one.new.device
    c.from_residual.result (driven c.args.kernel.now c.args.connection.now idle)
    (λ turn. driven c.args.kernel.now c.receive_one.new.connection turn) (returns-in_err-receive_one-clause-writes g c)

pub returns-in-Ok-clause-noted : goal.returns-in-Ok-clause-noted
returns-in-Ok-clause-noted g c =
    noted_on g.N.Notes.notes g.met.N.Notes.goes_on c.args.notes.now c.receive_one.new.notes c.release.new.notes
    c.args.out.now c.receive_one.new.out c.release.new.out c.in_ok-receive_one.ensures.noted c.release.ensures.noted
