use Rattle.fuse_text.proofs.LineFeeds.{taken}
use Rattle.fuse_text.proofs.lines.next_line.Goals as goal

pub returns-in-Ok : goal.returns-in-Ok
returns-in-Ok g c =
    taken (g.R.Read.remaining c.args.input.now) (g.R.Read.remaining c.read_until.new.self) c.clear.new.self.items
    c.read_until.new.buf.items c.take_feed.new.line.items c.take_feed.result c.clear.ensures.items c.in-Ok.ensures.bytes
    c.in-Ok.ensures.rest c.take_feed.ensures
