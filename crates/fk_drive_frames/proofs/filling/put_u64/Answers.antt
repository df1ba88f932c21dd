use Rattle.std.proofs.Common.{◌≡◌, ◌+◌, ◌-◌, drop, length, refl, arith, take, length-drop}
use Rattle.std.proofs.lemmas.List.{length-take-le}
use Rattle.fk_drive_frames.proofs.Puts.{put_only, put_value}
use Rattle.fk_drive_frames.proofs.filling.put_u64.Goals as goal

pub returns-clause-only : goal.returns-clause-only
returns-clause-only c =
    let place = c.args.place in
    let frame = c.args.frame.now in
    let rest = length-take-le (place + 8 - place) (drop place frame) (omega (arith, length-drop place frame, c.requires)) in
    let long : length c.write_u64.new.buf ≡ 8 = omega (arith, c.write_u64.auto.buf, rest) in
    put_only place (place + 8) 8 frame c.write_u64.new.buf refl c.requires long

pub returns-clause-value : goal.returns-clause-value
returns-clause-value c =
    let place = c.args.place in
    let frame = c.args.frame.now in
    put_value place (place + 8 - place) 8 c.args.value frame c.write_u64.new.buf
    (drop 8 (take (place + 8 - place) (drop place frame))) (omega (arith, c.requires)) c.ranges.value.fits
    c.write_u64.ensures
