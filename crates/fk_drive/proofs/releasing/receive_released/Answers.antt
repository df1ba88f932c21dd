use Rattle.std.proofs.Common.{◌≡◌, Bool, List, ℕ, [], ◌∷◌, refl, subst, sym}
use Rattle.fuse_device.specs.Transfers.{received}
use Rattle.fuse_frames.specs.DecodedReplies.{HasReplyHead, head_unique}
use Rattle.fk_drive.specs.Driven.{driven, waiting_in}
use Rattle.fk_drive.specs.Driving.{Driven, Runs, idle, is_released, nothing, releasing}
use Rattle.fk_drive.specs.Releasing.{ReleaseStep}
use Rattle.fk_drive.specs.declared.noted.Noted.TheVariants.{ReleasedirReply}
use Rattle.fk_drive.proofs.Drivings.{one_run}
use Rattle.fk_drive.proofs.Noting.{noted_on}
use Rattle.fk_drive.proofs.Released.{kept_releases, no_room_releases, release_stopped}
use Rattle.fk_drive.proofs.releasing.receive_released.Goals as goal

pub returns-in-Err-clause-awaits : goal.returns-in-Err-clause-awaits
returns-in-Err-clause-awaits g c kernel =
    let turn = releasing c.args.own in (
      [],
      g.met.D.Device.stays c.args.device.now,
      no_room_releases Bool c.args.connection.now c.make_room_awaiting.new.self c.in-Err.end c.in-Err.ensures.no_room
          c.make_room_awaiting.ensures.long,
      subst (λ (s : Driven). Runs ReleaseStep (driven kernel c.args.connection.now turn) [] s)
          (sym (c.make_room_awaiting.ensures.same kernel turn)) nothing,
    )

pub returns-in-Err-receive_frame-clause-awaits : goal.returns-in-Err-receive_frame-clause-awaits
returns-in-Err-receive_frame-clause-awaits g c kernel =
    let turn = releasing c.args.own in
    let room = driven kernel c.make_room_awaiting.new.self turn in
    let (log, over, is) = c.in-Err-receive_frame.ensures.end in
    let (ends, runs) = release_stopped Bool c.in-Err-receive_frame.end log is room tt (waiting_in c.make_room_awaiting.new.self) in (
      log,
      over,
      ends,
      subst (λ (s : Driven). Runs ReleaseStep s log room) (c.make_room_awaiting.ensures.same kernel turn) runs,
    )

pub returns-then-is_reply_to-clause-awaits : goal.returns-then-is_reply_to-clause-awaits
returns-then-is_reply_to-clause-awaits g c kernel =
    let turn = releasing c.args.own in
    let room = driven kernel c.make_room_awaiting.new.self turn in
    let after = driven kernel c.make_room_awaiting.new.self idle in
    let frame = c.in-Ok.frame.items in
    let (head, under) = subst (λ (l : List ℕ). HasReplyHead l × (head_unique l ≡ c.args.own)) c.as_slice.ensures.value
    (c.is_reply_to.ensures.0 c.if-is_reply_to.true) in (
      received frame ∷ [],
      c.in-Ok.ensures.frame,
      refl,
      one_run ReleaseStep (driven kernel c.args.connection.now turn) after (received frame ∷ [])
          (subst (λ (s : Driven). ReleaseStep s (received frame ∷ []) after) (c.make_room_awaiting.ensures.same kernel turn)
          (is_released c.args.own refl frame head under, tt)),
    )

pub returns-clause-awaits : goal.returns-clause-awaits
returns-clause-awaits g c kernel =
    let turn = releasing c.args.own in
    let room = driven kernel c.make_room_awaiting.new.self turn in
    let after = driven kernel c.keep.new.self turn in
    let frame = c.in-Ok.frame.items in
    let another : HasReplyHead frame → head_unique frame ≡ c.args.own → ⊥ = λ head under.
    let is = c.is_reply_to.ensures.1 (subst (λ (l : List ℕ). HasReplyHead l × (head_unique l ≡ c.args.own))
    (sym c.as_slice.ensures.value) (head, under)) in cc (is, c.if-is_reply_to.false) in (
      received frame ∷ [],
      c.in-Ok.ensures.frame,
      refl,
      one_run ReleaseStep (driven kernel c.args.connection.now turn) after (received frame ∷ [])
          (subst (λ (s : Driven). ReleaseStep s (received frame ∷ []) after) (c.make_room_awaiting.ensures.same kernel turn)
          (kept_releases room (received frame ∷ []) after frame another (c.keep.ensures.keeps kernel turn))),
    )

pub returns-in-Err-clause-noted : goal.returns-in-Err-clause-noted
returns-in-Err-clause-noted g c = ([], g.met.N.Notes.stays c.args.notes.now c.args.out.now)

pub returns-in-Err-receive_frame-clause-noted : goal.returns-in-Err-receive_frame-clause-noted
returns-in-Err-receive_frame-clause-noted g c = ([], g.met.N.Notes.stays c.args.notes.now c.args.out.now)

pub returns-then-is_reply_to-clause-noted : goal.returns-then-is_reply_to-clause-noted
returns-then-is_reply_to-clause-noted g c = let (is_whole, noted, _, _) = c.note_released.ensures in
    (ReleasedirReply c.args.own is_whole ∷ [], noted)

pub returns-clause-noted : goal.returns-clause-noted
returns-clause-noted g c =
    noted_on g.N.Notes.notes g.met.N.Notes.goes_on c.args.notes.now c.note_no_reply.new.notes c.keep.new.notes c.args.out.now c.note_no_reply.new.out c.keep.new.out
    c.note_no_reply.ensures.noted c.keep.ensures.notes
