use Rattle.std.proofs.Common.{subst}
use Rattle.fw_script.specs.Lines.{LineHasWords}
use Rattle.fw_script.specs.Scripts.{LineSaysEvent, SaysShow}
use Rattle.fuse_text.specs.Words.{words_of}
use Rattle.fw_script.specs.declared.line.Line.{Line}
use Rattle.fw_script.proofs.Stepping.{line_map}
use Rattle.fw_script.proofs.script.run_line.Goals as goal

pub returns-in-Ok : goal.returns-in-Ok
returns-in-Ok g c =
    line_map g.M.Machine.acts c.args.hex (g.M.Machine.state c.args.machine.now) (λ text. LineSaysEvent text c.in-Ok.event)
    (λ text. LineHasWords c.args.line.now (words_of text)) (g.M.Machine.state c.run_event-in-Ok.new.machine)
    c.run_event-in-Ok.result (g.W.Write.contents c.args.out.now) (g.W.Write.contents c.run_event-in-Ok.new.out)
    (λ text names. c.in-Ok.ensures text (subst (λ (l : Line). LineHasWords l (words_of text)) c.in-CallWrite.is names))
    c.run_event-in-Ok.ensures

pub returns-in-Show : goal.returns-in-Show
returns-in-Show g c =
    line_map g.M.Machine.acts c.args.hex (g.M.Machine.state c.args.machine.now) SaysShow
    (λ text. LineHasWords c.args.line.now (words_of text)) (g.M.Machine.state c.args.machine.now) c.show.result
    (g.W.Write.contents c.args.out.now) (g.W.Write.contents c.show.new.out)
    (λ text names.
    let shown = subst (λ (l : Line). LineHasWords l (words_of text)) c.in-Show.is names in shown.0)
    (c.show.ensures c.args.hex)
