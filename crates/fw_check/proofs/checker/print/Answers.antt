use Rattle.std.proofs.KnownBytes.{Appends-kept}
use Rattle.fuse_text.proofs.Writes.{OnErr-always, some_all}
use Rattle.fw_check.proofs.checker.print.Goals as goal

pub returns-in-Ok-clause-refused : goal.returns-in-Ok-clause-refused
returns-in-Ok-clause-refused g c =
    OnErr-always _ c.flush.result (some_all _ _ _ (Appends-kept _ _ _ _ c.in-Ok.ensures.ok c.flush.ensures))
