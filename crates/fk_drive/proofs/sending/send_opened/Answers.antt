use Rattle.std.proofs.Common.{◌≡◌, false, None, refl, subst, sym}
use Rattle.std.specs.Prelude.{ℤ}
use Rattle.std.specs.Int.{cast_signed, cast_unsigned, w32}
use Rattle.fk_wire.specs.Replies.{IsErrorNumber}
use Rattle.fuse_frames.proofs.Sayings.{same_error}
use Rattle.fk_drive_frames.specs.OwnRequests.{IsErrorSaid}
use Rattle.fk_drive_frames.specs.declared.opendir_reply.OpendirSaid.{OpendirSaid}
use Rattle.fk_drive.specs.Driven.{driven}
use Rattle.fk_drive.specs.Driving.{Runs, idle, opened, opening, picked, sends, sends_opened, unopened}
use Rattle.fk_drive.specs.Exchanges.{Ends, WentOver}
use Rattle.fk_drive.specs.Openings.{StopsAsking, turn_of}
use Rattle.fk_drive.specs.Steps.{SendStep}
use Rattle.fk_drive.proofs.Requests.{says_of, sent_for}
use Rattle.fk_drive.proofs.Sent.{answered, sends_then, unsaid_until}
use Rattle.fk_drive.proofs.SentFrames.{filled_frame, listing_frame}
use Rattle.fk_drive.proofs.sending.send_opened.Goals as goal

pub returns-in-NotYet-clause-sends : goal.returns-in-NotYet-clause-sends
returns-in-NotYet-clause-sends g c request is under lists =
    let (log, over, ends, runs) = c.in-NotYet.ensures.sends c.args.free_fields c.args.kernel.now request under lists in
    (opening request c.args.connection.now.next c.args.listing.node, (log, over, (ends, tt), runs))

pub returns-in-Ended-clause-sends : goal.returns-in-Ended-clause-sends
returns-in-Ended-clause-sends g c request is under lists =
    let (log, over, ends, runs) = c.in-Ended.ensures.sends c.args.free_fields c.args.kernel.now request under lists in
    let turn = opening request c.args.connection.now.next c.args.listing.node in (
      turn,
      (
        log,
        over,
        unsaid_until c.in-Ended.end (driven c.args.kernel.now c.open_directory.new.connection turn) tt c.in-Ended.ensures.many
            log ends,
        runs,
      ),
    )

pub returns-in-Handle-clause-sends : goal.returns-in-Handle-clause-sends
returns-in-Handle-clause-sends g c request is under lists =
    let (log, over, ends, sent) = c.send_listing.ensures in
    let kernel = c.args.kernel.now in
    let free_fields = c.args.free_fields in
    let first = driven kernel c.args.connection.now (picked request) in
    let before = subst (λ (s : OpendirSaid). WentOver g.D.Device.logs c.args.device.now c.open_directory.new.device (Ends None)
    (λ log. Runs (SendStep free_fields) first log (driven kernel c.open_directory.new.connection (turn_of request s))))
    c.in-Handle.is (c.in-Said.ensures.sends free_fields kernel request under lists) in
    let says = says_of c.written_is_spelled.ensures c.args.frame.now request is in (
      idle,
      sends_then g.D.Device.logs g.met.D.Device.goes_on free_fields c.send_listing.result c.args.device.now
          c.open_directory.new.device c.send_listing.new.device first
          (driven kernel c.open_directory.new.connection (opened request c.in-Handle.fh))
          (driven kernel c.open_directory.new.connection idle) refl before log over ends (
            sends_opened request c.in-Handle.fh refl sent.frame
                (listing_frame request c.args.listing.node lists sent.frame (sent.same request says)) sent.handle log sent.sends,
            record { read = c.args.frame.now; is = is; only = sent.only },
          ),
    )

pub returns-in-NotKnown-clause-sends : goal.returns-in-NotKnown-clause-sends
returns-in-NotKnown-clause-sends g c request is under lists =
    let (log, over, ends, sent) = c.send_same.ensures in
    let kernel = c.args.kernel.now in
    let free_fields = c.args.free_fields in
    let first = driven kernel c.args.connection.now (picked request) in
    let before = subst (λ (s : OpendirSaid). WentOver g.D.Device.logs c.args.device.now c.open_directory.new.device (Ends None)
    (λ log. Runs (SendStep free_fields) first log (driven kernel c.open_directory.new.connection (turn_of request s))))
    c.in-NotKnown.is (c.in-Said.ensures.sends free_fields kernel request under lists) in
    let asks : c.open_directory.new.connection.asks ≡ false =
    subst (λ (s : OpendirSaid). StopsAsking s c.open_directory.new.connection.asks) c.in-NotKnown.is c.in-Said.ensures.asks in
    let spells = c.written_is_spelled.ensures in
    let says = says_of spells c.args.frame.now request is in
    let filled = sent_for spells c.args.frame.now request is free_fields sent.frame sent.filled in (
      idle,
      sends_then g.D.Device.logs g.met.D.Device.goes_on free_fields c.send_same.result c.args.device.now
          c.open_directory.new.device c.send_same.new.device first
          (driven kernel c.open_directory.new.connection (picked request))
          (driven kernel c.open_directory.new.connection idle) refl before log over ends (
            sends request refl (λ asked. absurd (cc (asked, asks))) sent.frame
                (filled_frame request free_fields sent.frame filled (sent.same request says)) log sent.sends,
            filled,
          ),
    )

pub returns-in-Failed-clause-sends : goal.returns-in-Failed-clause-sends
returns-in-Failed-clause-sends g c request is under lists =
    let kernel = c.args.kernel.now in
    let free_fields = c.args.free_fields in
    let first = driven kernel c.args.connection.now (picked request) in
    let before = subst (λ (s : OpendirSaid). WentOver g.D.Device.logs c.args.device.now c.open_directory.new.device (Ends None)
    (λ log. Runs (SendStep free_fields) first log (driven kernel c.open_directory.new.connection (turn_of request s))))
    c.in-Failed.is (c.in-Said.ensures.sends free_fields kernel request under lists) in
    let number : IsErrorNumber c.in-Failed.error = subst IsErrorSaid c.in-Failed.is c.in-Said.ensures.number in
    let error = cast_signed w32 (cast_unsigned w32 c.in-Failed.error) in
    let same : error ≡ c.in-Failed.error = same_error c.in-Failed.error number in
    answered g.D.Device.logs g.met.D.Device.goes_on free_fields g.met.D.Device.stays c.args.device.now
    c.open_directory.new.device first kernel c.answer.new.kernel c.open_directory.new.connection request
    c.args.listing.unique under error c.answer.result
    (subst (λ (z : ℤ). WentOver g.D.Device.logs c.args.device.now c.open_directory.new.device (Ends None)
    (λ log. Runs (SendStep free_fields) first log (driven kernel c.open_directory.new.connection (unopened request z))))
    (sym same) before)
    c.answer.ensures.ok c.answer.ensures.err c.answer.ensures.same
