use Rattle.fw_judged.proofs.lines.FaultLines.see.Goals as goal

pub returns-in-Judging : goal.returns-in-Judging
returns-in-Judging g c f s right = c.judge.ensures f s right c.in-Judging.is
