use Rattle.std.proofs.Common.{◌≡◌, ◌-◌, length, take, drop, arith, length-drop}
use Rattle.std.proofs.lemmas.List.{take_all}
use Rattle.fuse_replies.proofs.reading_notification.content_of.Goals as goal

pub returns-in-Store : goal.returns-in-Store
returns-in-Store c =
    let all : take (length c.args.bytes.now - 40) (drop 40 c.args.bytes.now) ≡ drop 40 c.args.bytes.now =
    take_all (length c.args.bytes.now - 40) (drop 40 c.args.bytes.now) (omega (arith, length-drop 40 c.args.bytes.now)) in
    rw (c.in-Store.is, all) (cc)
