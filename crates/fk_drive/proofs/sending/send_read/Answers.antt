use Rattle.std.proofs.Common.{[], refl}
use Rattle.fk_drive.specs.Driven.{driven}
use Rattle.fk_drive.specs.Driving.{idle, picked, sends}
use Rattle.fk_drive.specs.Steps.{SendStep}
use Rattle.fk_drive.proofs.Drivings.{one_run}
use Rattle.fk_drive.proofs.Requests.{lists_of, not_listed, says_of, sent_for}
use Rattle.fk_drive.proofs.Sent.{sent_until}
use Rattle.fk_drive.proofs.SentFrames.{filled_frame}
use Rattle.fk_drive.proofs.sending.send_read.Goals as goal

pub returns-in-Some-clause-sends : goal.returns-in-Some-clause-sends
returns-in-Some-clause-sends g c request is under =
    c.send_opened.ensures.sends request is under
    (lists_of c.spelled_is_decoded.ensures c.args.frame.now c.in-Some.node c.in-Some.ensures.listed request
    (says_of c.written_is_spelled.ensures c.args.frame.now request is))

pub returns-in-None-clause-sends : goal.returns-in-None-clause-sends
returns-in-None-clause-sends g c request is under =
    let (log, over, ends, sent) = c.send_same.ensures in
    let spells = c.written_is_spelled.ensures in
    let frame = c.args.frame.now in
    let filled = sent_for spells frame request is c.args.free_fields sent.frame sent.filled in
    let first = driven c.args.kernel.now c.args.connection.now (picked request) in
    let last = driven c.args.kernel.now c.args.connection.now idle in (
      idle,
      (
        log,
        over,
        sent_until c.send_same.result last refl log ends,
        one_run (SendStep c.args.free_fields) first last log (
          sends request refl
              (λ asks left. not_listed spells frame request is (c.in-None.ensures.none asks left))
              sent.frame
              (filled_frame request c.args.free_fields sent.frame filled (sent.same request (says_of spells frame request is))) log
              sent.sends,
          filled,
        ),
      ),
    )

pub returns-in-None-clause-noted : goal.returns-in-None-clause-noted
returns-in-None-clause-noted g c = ([], g.met.N.Notes.stays c.args.notes.now c.args.out.now)
