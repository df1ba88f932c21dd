use Rattle.std.proofs.Common.{ap}
use Rattle.std.specs.Prelude.{is_some}
use Rattle.fk_kernel.proofs.Replied.{lookup_missing}
use Rattle.fk_kernel.proofs.kernel.KernelOf.word_is_missing.Goals as goal

pub answer_call-requires-clause-waits : goal.answer_call-requires-clause-waits
answer_call-requires-clause-waits g c =
    let stands = c.requires.looks_up in
    rw (c.in_ok-name_is_missing.ensures.bound stands.directory stands.word stands.words stands.plan stands.is)
    c.requires.waits

pub answer_call-requires-clause-unanswered : goal.answer_call-requires-clause-unanswered
answer_call-requires-clause-unanswered g c =
    let stands = c.requires.looks_up in
    rw (c.in_ok-name_is_missing.ensures.bound stands.directory stands.word stands.words stands.plan stands.is)
    (ap is_some stands.is)

pub returns-clause-ok : goal.returns-clause-ok
returns-clause-ok g c =
    let stands = c.requires.looks_up in
    rw (
      c.answer_call.ensures,
      c.in_ok-name_is_missing.ensures.bound stands.directory stands.word stands.words stands.plan stands.is,
    )
    (lookup_missing c.args.self.now c.args.unique c.args.call c.requires.even c.requires.waits stands.directory stands.word stands.words stands.plan stands.is c.args.valid_ms)
