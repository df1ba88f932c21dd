use Rattle.std.proofs.Common.{subst}
use Rattle.fs_server.specs.Effects.{RefusesFrame}
use Rattle.fs_server.specs.declared.server.ServerFault.{ServerFault}
use Rattle.fs_serve.specs.Serving.{refused}
use Rattle.fs_serve.proofs.serving.refuse.Goals as goal

pub send_untaken-requires-clause-can : goal.send_untaken-requires-clause-can
send_untaken-requires-clause-can g c = c.requires.can c.in-Memory.is

pub send_untaken-requires-clause-wants : goal.send_untaken-requires-clause-wants
send_untaken-requires-clause-wants g c = c.requires.wants c.in-Memory.is

pub send_untaken-requires-clause-other : goal.send_untaken-requires-clause-other
send_untaken-requires-clause-other g c = c.requires.other c.in-Memory.is

pub send_wire_fault-requires : goal.send_wire_fault-requires
send_wire_fault-requires g c =
    subst (λ (f : ServerFault). RefusesFrame c.args.server.now c.args.frame.now f) c.in-Wire.is c.requires.refused

pub returns-in_default : goal.returns-in_default
returns-in_default g c =
    let (log, logs, sends, ends) = c.send_fault.ensures in (
      log,
      logs,
      refused c.args.fault c.requires.refused c.in_default.not-Memory (λ wire too_long. c.in_default.not-Wire wire)
          c.lemma_in_range.ensures log sends,
      ends,
    )
