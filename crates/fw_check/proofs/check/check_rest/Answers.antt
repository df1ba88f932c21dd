use Rattle.fw_check.specs.Running.{AllChecked, CheckEnds, seen_by}
use Rattle.fw_check.proofs.CheckLaws.{all_ends, map_some}
use Rattle.fw_check.proofs.check.check_rest.Goals as goal

pub returns-in-Ok : goal.returns-in-Ok
returns-in-Ok g c had begun kept =
    let mid = g.W.Write.contents c.check_lines.new.out in
    let has = g.W.Write.contents c.print_end.new.out in
    let judge = seen_by c.check_lines.new.checker.seen in
    let counts = c.check_lines.new.checker.counts in
    map_some (λ capture. AllChecked c.args.options capture judge counts had mid)
    (λ capture. CheckEnds c.args.options capture counts c.print_end.result had has)
    (g.R.Read.remaining c.args.input.now)
    (λ capture all. all_ends c.args.options c.remains_of-remains.result c.print_end.result capture judge counts had mid has
    c.remains_of-remains.ensures all c.print_end.ensures)
    (c.in-Ok.ensures had begun kept)
