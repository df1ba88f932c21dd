use Rattle.std.proofs.Common.{arith}
use Rattle.fw_call_names.specs.PlainScripts as plain
use Rattle.fw_call_names.proofs.PlainTexts.{feed_taken, some_lines}
use Rattle.fw_call_names.proofs.plain.make_plain.Goals as goal

pub returns : goal.returns
returns g c =
    feed_taken (plain.plain_script c.args.script.now) c.in_ok-text.text.items c.pop-feed.new.self.items
    c.in_ok-text.text.len (some_lines c.args.script.now) c.in_ok-text.ensures (omega (arith, c.in_ok-text.text.ok.0))
    c.pop-feed.ensures.rest
