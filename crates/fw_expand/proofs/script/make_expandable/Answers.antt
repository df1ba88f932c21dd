use Rattle.std.proofs.Common.{arith}
use Rattle.fw_call_names.proofs.PlainTexts.{feed_taken}
use Rattle.fw_expand.specs.Scripts as scripts
use Rattle.fw_expand.proofs.Texts.{some_lines}
use Rattle.fw_expand.proofs.script.make_expandable.Goals as goal

pub returns : goal.returns
returns g c =
    feed_taken (scripts.expandable_script c.args.is_of_calls c.args.script.now) c.in_ok-text.text.items
    c.pop-feed.new.self.items c.in_ok-text.text.len (some_lines c.args.is_of_calls c.args.script.now) c.in_ok-text.ensures
    (omega (arith, c.in_ok-text.text.ok.0)) c.pop-feed.ensures.rest
