use Rattle.fw_script.proofs.Stepping.{nodes_come}
use Rattle.fw_script.proofs.script.show_nodes.Goals as goal

pub returns-in-Ok : goal.returns-in-Ok
returns-in-Ok g c = λ hex. (
  _,
  nodes_come g.M.Machine.acts hex (g.M.Machine.state c.args.machine.now) c.args.kernel.now c.args.server.now
      c.requires.counted c.requires.held,
  c.in-Ok.ensures.ok,
)

pub returns-in-Err : goal.returns-in-Err
returns-in-Err g c = λ hex. (
  _,
  nodes_come g.M.Machine.acts hex (g.M.Machine.state c.args.machine.now) c.args.kernel.now c.args.server.now
      c.requires.counted c.requires.held,
  c.in-Err.ensures.refused,
)
