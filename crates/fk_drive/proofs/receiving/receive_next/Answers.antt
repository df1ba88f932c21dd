use Rattle.std.proofs.Common.{◌≡◌, [], ◌∷◌, refl, subst, sym}
use Rattle.fuse_device.specs.Transfers.{received}
use Rattle.fk_drive.specs.Driven.{driven}
use Rattle.fk_drive.specs.Driving.{Driven, Runs, nothing}
use Rattle.fk_drive.specs.Receiving.{ReceivesUntil}
use Rattle.fk_drive.specs.Steps.{ReceiveStep}
use Rattle.std.specs.Prelude.{Err}
use Rattle.std.proofs.lemmas.Result.{err_from_is_err_and}
use Rattle.fk_drive.specs.declared.end.DriveEnd.{DriveEnd}
use Rattle.fk_drive.proofs.Drivings.{one_run}
use Rattle.fk_drive.proofs.Keeping.{kept_receives, receives_stopped}
use Rattle.fk_drive.proofs.receiving.receive_next.Goals as goal

pub returns-in_err-make_room-clause-receives : goal.returns-in_err-make_room-clause-receives
returns-in_err-make_room-clause-receives g c kernel turn =
    let first = driven kernel c.args.connection.now turn in
    let room = driven kernel c.make_room.new.self turn in
    let same = c.make_room.ensures.same kernel turn in
    let none : room.waiting ≡ [] = subst (λ (s : Driven). s.waiting ≡ []) (sym same) c.requires in
    let p = err_from_is_err_and c.from_residual.result c.from_residual.ensures.1 in (
      [],
      g.met.D.Device.stays c.args.device.now,
      rw (p.1, p.2) (subst (λ (end : DriveEnd). ReceivesUntil {T = Unit {0}} (Err end) room [])
          (sym c.in_err-make_room.ensures.memory) (refl, none)),
      subst (λ (s : Driven). Runs ReceiveStep first [] s) (sym same) nothing,
    )

pub returns-in_err-frame-clause-receives : goal.returns-in_err-frame-clause-receives
returns-in_err-frame-clause-receives g c kernel turn =
    let room = driven kernel c.make_room.new.self turn in
    let same = c.make_room.ensures.same kernel turn in
    let none : room.waiting ≡ [] = subst (λ (s : Driven). s.waiting ≡ []) (sym same) c.requires in
    let (log, over, is) = c.in_err-frame.ensures.end in
    let (ends, runs) = receives_stopped c.in_err-frame.field-0.0 log is room none in
    let p = err_from_is_err_and c.from_residual-in_err-frame.result c.from_residual-in_err-frame.ensures.1 in (
      log,
      over,
      rw (p.1, p.2) ends,
      subst (λ (s : Driven). Runs ReceiveStep s log room) same runs,
    )

pub returns-clause-receives : goal.returns-clause-receives
returns-clause-receives g c kernel turn =
    let first = driven kernel c.args.connection.now turn in
    let room = driven kernel c.make_room.new.self turn in
    let same = c.make_room.ensures.same kernel turn in
    let none : room.waiting ≡ [] = subst (λ (s : Driven). s.waiting ≡ []) (sym same) c.requires in
    let after = driven kernel c.keep.new.self turn in
    let frame = c.in_ok-frame.frame.items in (
      received frame ∷ [],
      c.in_ok-frame.ensures.frame,
      refl,
      one_run ReceiveStep first after (received frame ∷ [])
          (subst (λ (s : Driven). ReceiveStep s (received frame ∷ []) after) same
          (kept_receives room (received frame ∷ []) after frame none (c.keep.ensures.keeps kernel turn))),
    )

pub returns-in_err-make_room-clause-noted : goal.returns-in_err-make_room-clause-noted
returns-in_err-make_room-clause-noted g c = ([], g.met.N.Notes.stays c.args.notes.now c.args.out.now)

pub returns-in_err-frame-clause-noted : goal.returns-in_err-frame-clause-noted
returns-in_err-frame-clause-noted g c = ([], g.met.N.Notes.stays c.args.notes.now c.args.out.now)
