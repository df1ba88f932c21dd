use Rattle.std.proofs.Common.{sym, ◌∙◌}
use Rattle.fw_script.specs.Records.{event_text}
use Rattle.fw_script.proofs.Stepping.{event_comes, on_ok}
use Rattle.fw_script.proofs.script.run_event.Goals as goal

pub returns-in-Ok : goal.returns-in-Ok
returns-in-Ok g c =
    let (put, is_put, written) = c.in-Ok.ensures.ok in
    let (added, is, runs) = on_ok _ c.run.result c.run.ensures.ran (sym c.if-is_err.ensures.value) in
    let records = c.as_slice.result.now in (
      event_text records put,
      event_comes g.M.Machine.acts c.args.hex (g.M.Machine.state c.args.machine.now) c.args.event.now
          c.clear.new.self.items records put (g.M.Machine.state c.run.new.self) c.clear.ensures.items
          (added, c.as_slice.ensures.value ∙ is, runs) is_put,
      written,
    )

pub returns-in-Err : goal.returns-in-Err
returns-in-Err g c =
    let (put, is_put, written) = c.in-Err.ensures.refused in
    let (added, is, runs) = on_ok _ c.run.result c.run.ensures.ran (sym c.if-is_err.ensures.value) in
    let records = c.as_slice.result.now in (
      event_text records put,
      event_comes g.M.Machine.acts c.args.hex (g.M.Machine.state c.args.machine.now) c.args.event.now
          c.clear.new.self.items records put (g.M.Machine.state c.run.new.self) c.clear.ensures.items
          (added, c.as_slice.ensures.value ∙ is, runs) is_put,
      written,
    )
