use Rattle.std.proofs.Common.{◌≡◌, List, ℕ, [], ◌∷◌, refl, subst, sym}
use Rattle.fuse_device.specs.Transfers.{received}
use Rattle.fuse_frames.specs.DecodedReplies.{HasReplyHead, head_unique}
use Rattle.fk_drive_frames.specs.OwnRequests.{SaysOfOpendir}
use Rattle.fk_drive.specs.Driven.{driven, waiting_in}
use Rattle.fk_drive.specs.Driving.{Driven, Runs, nothing, opening}
use Rattle.fk_drive.specs.Openings.{turn_of}
use Rattle.fk_drive.specs.Steps.{SendStep}
use Rattle.fk_drive.proofs.Drivings.{one_run}
use Rattle.fk_drive.proofs.Ending.{no_room_ends, no_room_many, stopped_many}
use Rattle.fk_drive.proofs.Keeping.{awaits_stopped, kept_sends}
use Rattle.fk_drive.proofs.Noting.{noted_on}
use Rattle.fk_drive.specs.declared.noted.Noted.TheVariants.{OpendirReply}
use Rattle.fk_drive.proofs.opening.receive_said.Goals as goal

pub returns-in-Err-clause-sends : goal.returns-in-Err-clause-sends
returns-in-Err-clause-sends g c free_fields kernel request under =
    let turn = opening request c.args.own c.args.listing.node in (
      [],
      g.met.D.Device.stays c.args.device.now,
      no_room_ends c.args.connection.now c.in-Err.end c.in-Err.ensures.no_room,
      subst (λ (s : Driven). Runs (SendStep free_fields) (driven kernel c.args.connection.now turn) [] s)
          (sym (c.make_room_awaiting.ensures.same kernel turn)) nothing,
    )

pub returns-in-Err-clause-many : goal.returns-in-Err-clause-many
returns-in-Err-clause-many g c =
    no_room_many c.args.connection.now c.make_room_awaiting.new.self c.in-Err.end c.in-Err.ensures.no_room
    c.make_room_awaiting.ensures.long

pub returns-in-Err-receive_frame-clause-many : goal.returns-in-Err-receive_frame-clause-many
returns-in-Err-receive_frame-clause-many g c =
    let (log, over, is) = c.in-Err-receive_frame.ensures.end in
    stopped_many c.in-Err-receive_frame.end log (waiting_in c.make_room_awaiting.new.self) is

pub returns-in-Err-receive_frame-clause-sends : goal.returns-in-Err-receive_frame-clause-sends
returns-in-Err-receive_frame-clause-sends g c free_fields kernel request under =
    let turn = opening request c.args.own c.args.listing.node in
    let room = driven kernel c.make_room_awaiting.new.self turn in
    let (log, over, is) = c.in-Err-receive_frame.ensures.end in
    let (ends, runs) = awaits_stopped free_fields c.in-Err-receive_frame.end log is room tt in (
      log,
      over,
      ends,
      subst (λ (s : Driven). Runs (SendStep free_fields) s log room) (c.make_room_awaiting.ensures.same kernel turn) runs,
    )

pub returns-in-Some-clause-sends : goal.returns-in-Some-clause-sends
returns-in-Some-clause-sends g c free_fields kernel request under =
    let turn = opening request c.args.own c.args.listing.node in
    let after = driven kernel c.take_said.new.self (turn_of request c.in-Some.said) in
    let frame = c.in-Ok.frame.items in
    let says = subst (λ (l : List ℕ). SaysOfOpendir l c.args.own c.in-Some.said) c.as_slice.ensures.value
    c.in-Some.ensures.said in (
      received frame ∷ [],
      c.in-Ok.ensures.frame,
      refl,
      one_run (SendStep free_fields) (driven kernel c.args.connection.now turn) after (received frame ∷ [])
          (subst (λ (s : Driven). SendStep free_fields s (received frame ∷ []) after) (c.make_room_awaiting.ensures.same kernel turn)
          (c.take_said.ensures.said free_fields kernel request c.args.own frame under says)),
    )

pub returns-in-None-clause-sends : goal.returns-in-None-clause-sends
returns-in-None-clause-sends g c free_fields kernel request under =
    let turn = opening request c.args.own c.args.listing.node in
    let after = driven kernel c.keep.new.self turn in
    let frame = c.in-Ok.frame.items in
    let another = subst (λ (l : List ℕ). HasReplyHead l → head_unique l ≡ c.args.own → ⊥) c.as_slice.ensures.value
    c.in-None.ensures.none in (
      received frame ∷ [],
      c.in-Ok.ensures.frame,
      refl,
      one_run (SendStep free_fields) (driven kernel c.args.connection.now turn) after (received frame ∷ [])
          (subst (λ (s : Driven). SendStep free_fields s (received frame ∷ []) after) (c.make_room_awaiting.ensures.same kernel turn)
          (kept_sends free_fields (driven kernel c.make_room_awaiting.new.self turn) (received frame ∷ []) after frame another
          (c.keep.ensures.keeps kernel turn))),
    )

pub returns-in-Err-clause-noted : goal.returns-in-Err-clause-noted
returns-in-Err-clause-noted g c = ([], g.met.N.Notes.stays c.args.notes.now c.args.out.now)

pub returns-in-Err-receive_frame-clause-noted : goal.returns-in-Err-receive_frame-clause-noted
returns-in-Err-receive_frame-clause-noted g c = ([], g.met.N.Notes.stays c.args.notes.now c.args.out.now)

pub returns-in-Some-clause-noted : goal.returns-in-Some-clause-noted
returns-in-Some-clause-noted g c = let (is_whole, noted, _, _) = c.note_reply.ensures in
    (OpendirReply c.args.own is_whole ∷ [], noted)

pub returns-in-None-clause-noted : goal.returns-in-None-clause-noted
returns-in-None-clause-noted g c =
    noted_on g.N.Notes.notes g.met.N.Notes.goes_on c.args.notes.now c.note_no_reply.new.notes c.keep.new.notes c.args.out.now c.note_no_reply.new.out c.keep.new.out
    c.note_no_reply.ensures.noted c.keep.ensures.notes
