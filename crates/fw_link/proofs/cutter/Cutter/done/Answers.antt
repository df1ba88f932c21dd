use Rattle.std.proofs.Common.{sym, ◌∙◌, arith}
use Rattle.fw_link.proofs.Spellings.{handed}
use Rattle.fw_link.proofs.cutter.Cutter.done.Goals as goal

pub returns-then-is_some-clause-kept : goal.returns-then-is_some-clause-kept
returns-then-is_some-clause-kept g c none = absurd
    (handed _ _ c.envelope.ensures.spelled c.envelope.ensures.whole c.envelope.ensures.good
    (sym c.is_some.ensures ∙ c.if-is_some.true) none)

pub returns-else-is_some-clause-gone : goal.returns-else-is_some-clause-gone
returns-else-is_some-clause-gone g c kind copy frame p = grind (arith, c.envelope.ensures.only kind copy frame p)
