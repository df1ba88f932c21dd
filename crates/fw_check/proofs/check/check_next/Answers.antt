use Rattle.std.proofs.Common.{ℕ, List, subst, sym}
use Rattle.std.specs.Prelude.{IfSome}
use Rattle.fw_check.specs.Running.{seen_by}
use Rattle.fuse_text.specs.Lines.{IsTaken}
use Rattle.fw_check.proofs.CheckLaws.{next_done, next_stopped}
use Rattle.fw_check.proofs.check.check_next.Goals as goal

pub returns-in-Ok-check_line : goal.returns-in-Ok-check_line
returns-in-Ok-check_line g c capture had upto =
    let known = g.R.Read.remaining c.args.input.now in
    let left = g.R.Read.remaining c.next_line.new.input in
    let mid = g.W.Write.contents c.args.out.now in
    let taken = subst (λ (l : List ℕ). IfSome known (λ bytes. IsTaken bytes c.in-Ok.is_more l left))
    (sym c.as_slice.ensures.value) c.in-Ok.ensures.taken in
    next_done c.args.options capture known left c.args.number (seen_by c.args.checker.now.seen) c.args.checker.now.counts had mid upto
    c.in-Ok.is_more c.as_slice.result.now (seen_by c.check_line.new.self.seen) c.check_line.new.self.counts
    (g.W.Write.contents c.check_line.new.out) taken
    (c.in-Ok-check_line.ensures upto.done upto.judged upto.checks upto.kept upto.count)

pub returns-in-Err-check_line : goal.returns-in-Err-check_line
returns-in-Err-check_line g c capture had upto =
    let known = g.R.Read.remaining c.args.input.now in
    let left = g.R.Read.remaining c.next_line.new.input in
    let mid = g.W.Write.contents c.args.out.now in
    let taken = subst (λ (l : List ℕ). IfSome known (λ bytes. IsTaken bytes c.in-Ok.is_more l left))
    (sym c.as_slice.ensures.value) c.in-Ok.ensures.taken in
    next_stopped c.args.options capture known left c.args.number (seen_by c.args.checker.now.seen) c.args.checker.now.counts had mid upto
    c.in-Ok.is_more c.as_slice.result.now (seen_by c.check_line.new.self.seen) c.check_line.new.self.counts
    (g.W.Write.contents c.check_line.new.out) c.in-Err-check_line.stop taken
    (c.in-Err-check_line.ensures upto.done upto.judged upto.checks upto.kept upto.count)
