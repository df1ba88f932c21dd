use Rattle.std.proofs.Common.{◌≡◌, ◌∙◌, ap, sym}
use Rattle.std.specs.Prelude.{ℤ, pos, unwrap_or, Option}
use Rattle.fw_serve.proofs.Keeping.{kept_on_failure, keeps_on}
use Rattle.fw_serve.proofs.waiting.WaitingWriterWrite.write.Goals as goal

pub loop-try-preserved : goal.loop-try-preserved
loop-try-preserved g c =
    keeps_on _ _ _ c.loop-try.invariant
    (kept_on_failure _ _ c.write-taken.result _ c.write-taken.ensures.bytes
    (c.would_wait.ensures.waits c.if-not-would_wait.false))

pub returns-clause-waits : goal.returns-clause-waits
returns-clause-waits g c is =
    let same : ◌≡◌ {A = ℤ} (pos 5) (pos 11) =
    sym (ap (λ (o : Option ℤ). unwrap_or o (pos 0)) c.from_raw_os_error.ensures.code) ∙ is in
    absurd (cc same)
