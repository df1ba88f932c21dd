use Rattle.std.proofs.Common.{◌≡◌, ◌-◌, ◌<◌, ◌≤◌, ◌++◌, ◌∙◌, ℕ, List, drop, length, take, sym, subst, arith}
use Rattle.std.proofs.Common.{length-append, length-drop}
use Rattle.std.proofs.lemmas.List.{length-take-le}
use Rattle.std.proofs.KnownBytes.{Consumes-trans}
use Rattle.std.specs.Io.KnownBytes.{Consumes}
use Rattle.fuse_device.specs.Streamed.{IsWholeFrame}
use Rattle.fuse_device.proofs.Frames.{frame_read, frame_whole, part_no_frame}
use Rattle.fuse_device.proofs.stream.read_frame.Goals as goal

-- the room for what follows the length
body_room : (head room : List ℕ) (len : ℕ) → length head ≡ 4 → 4 ≤ length room → len ≤ length room
    → length (take (len - 4) (drop 4 (head ++ drop 4 room))) ≡ len - 4
body_room head room len four least within =
    length-take-le (len - 4) (drop 4 (head ++ drop 4 room))
    (omega (arith, length-drop 4 (head ++ drop 4 room), length-append head (drop 4 room), length-drop 4 room, four, least, within))

-- the room is as long as before
room_kept : (head room : List ℕ) (len : ℕ) → length head ≡ 4 → 4 ≤ length room → len ≤ length (head ++ drop 4 room)
    → len ≤ length room
room_kept head room len four least within =
    omega (arith, length-append head (drop 4 room), length-drop 4 room, four, least, within)

pub returns-in-Ok-clause-frame : goal.returns-in-Ok-clause-frame
returns-in-Ok-clause-frame g c =
    let head = c.fill.new.room in
    let body = c.fill-2.new.room in
    let room = c.args.room.now in
    let len = c.read_u32-len.result in
    let some : 4 ≤ c.args.cut.least = c.args.cut.has_length in
    let above : c.args.cut.least ≤ length room = c.if-room-cut.false in
    let most : 4 ≤ length room = omega (arith, some, above) in
    let four : length head ≡ 4 = c.fill.auto.room ∙ length-take-le 4 room (omega (arith, most)) in
    let least : c.args.cut.least ≤ len = c.if-len-cut.false in
    let long : 4 ≤ len = omega (arith, some, least) in
    let within : len ≤ length room = room_kept head room len four most c.if-room-len.false in
    let rest : length body ≡ len - 4 = c.fill-2.auto.room ∙ body_room head room len four most within in
    let read = frame_read head (drop 4 room) body len four long rest in (
      subst (IsWholeFrame c.args.cut.least) (sym read)
          (frame_whole c.args.cut.least head (drop 4 room) body len four c.read_u32-len.ensures least rest long),
      subst (λ (l : List ℕ). Consumes (g.R.Read.remaining c.args.from.now) (g.R.Read.remaining c.fill-2.new.from) l) (sym read)
          (Consumes-trans _ _ _ _ _ c.in_ok-fill.ensures.ok c.in-Ok.ensures.ok),
    )

pub returns-in-Err-clause-end : goal.returns-in-Err-clause-end
returns-in-Err-clause-end g c =
    let head = c.fill.new.room in
    let room = c.args.room.now in
    let len = c.read_u32-len.result in
    let some : 4 ≤ c.args.cut.least = c.args.cut.has_length in
    let above : c.args.cut.least ≤ length room = c.if-room-cut.false in
    let most : 4 ≤ length room = omega (arith, some, above) in
    let four : length head ≡ 4 = c.fill.auto.room ∙ length-take-le 4 room (omega (arith, most)) in
    let within : len ≤ length room = room_kept head room len four most c.if-room-len.false in
    let (part, less, read) = c.in-Err.ensures.failed in
    let shorter = subst (λ (n : ℕ). length part < n) (body_room head room len four most within) less in (
      head ++ part,
      part_no_frame c.args.cut.least head (drop 4 room) part len four c.read_u32-len.ensures shorter,
      Consumes-trans _ _ _ _ _ c.in_ok-fill.ensures.ok read,
    )
