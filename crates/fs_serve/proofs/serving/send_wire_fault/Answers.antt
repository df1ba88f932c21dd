use Rattle.std.proofs.Common.{◌≡◌, ℕ, subst}
use Rattle.fs_server.specs.declared.server.ServerFault.{ServerFault}
use Rattle.fs_server.specs.declared.server.ServerFault.TheVariants.{Memory, Wire}
use Rattle.fs_serve.specs.Sending.{SendsError}
use Rattle.fs_serve.specs.Serving.{name_too_long, refused, too_long_name}
use Rattle.fs_serve.proofs.serving.send_wire_fault.Goals as goal

pub returns-in-Some : goal.returns-in-Some
returns-in-Some g c =
    let (log, logs, sends, ends) = c.send_error.ensures in
    let said = c.in-Some.ensures in (
      log,
      logs,
      name_too_long c.requires said.0 c.lemma_in_range.ensures log
          (subst (λ (u : ℕ). SendsError u too_long_name log) said.1 sends),
      ends,
    )

pub returns-in-None : goal.returns-in-None
returns-in-None g c =
    let (log, logs, sends, ends) = c.send_fault.ensures in
    let not_memory = λ (same : ◌≡◌ {A = ServerFault} Wire Memory). absurd (cc same) in (
      log,
      logs,
      refused Wire c.requires not_memory (λ wire too_long. c.in-None.ensures too_long) c.lemma_in_range.ensures log sends,
      ends,
    )
