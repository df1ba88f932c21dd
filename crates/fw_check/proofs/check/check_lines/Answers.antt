use Rattle.std.proofs.Common.{◌+◌, Ok, refl, inr, subst}
use Rattle.fuse_text.specs.declared.stop.Stop.TheVariants.{NoMemory}
use Rattle.fw_check.specs.Running.{IsUpTo, NextEnds, StopsIn, seen_by}
use Rattle.fw_check.proofs.CheckLaws.{at_start, map_some, next_unread}
use Rattle.fw_check.proofs.check.check_lines.Goals as goal

pub loop-number-init : goal.loop-number-init
loop-number-init g c had begun kept =
    at_start c.args.options (g.R.Read.remaining c.args.input.now) had (g.W.Write.contents c.args.out.now)
    (seen_by c.args.checker.now.seen) c.args.checker.now.counts begun kept

pub returns : goal.returns
returns g c had begun kept =
    let known = g.R.Read.remaining c.args.input.now in
    let left = g.R.Read.remaining c.loop-number.input in
    let has = g.W.Write.contents c.loop-number.out in
    map_some
    (λ capture. IsUpTo c.args.options capture left c.loop-number.number (seen_by c.loop-number.checker.seen)
    c.loop-number.checker.counts had has)
    (λ capture. StopsIn c.args.options capture NoMemory had has) known
    (λ capture upto. next_unread c.args.options capture left left c.loop-number.number (seen_by c.loop-number.checker.seen)
    c.loop-number.checker.counts had has upto NoMemory (inr refl))
    (c.loop-number.invariant had begun kept)

pub loop-number-preserved : goal.loop-number-preserved
loop-number-preserved g c had begun kept =
    let o = c.args.options in
    let known = g.R.Read.remaining c.args.input.now in
    let before = seen_by c.loop-number.checker.seen in
    let after = seen_by c.check_next.new.checker.seen in
    let left = g.R.Read.remaining c.check_next.new.input in
    let has = g.W.Write.contents c.check_next.new.out in
    let n = c.loop-number.number in
    map_some
    (λ capture. IsUpTo o capture (g.R.Read.remaining c.loop-number.input) n before c.loop-number.checker.counts had
    (g.W.Write.contents c.loop-number.out))
    (λ capture. IsUpTo o capture left (n + 1) after c.check_next.new.checker.counts had has) known
    (λ capture upto. subst (λ b. NextEnds o capture left n after c.check_next.new.checker.counts (Ok b) had has)
    c.in-Ok-true.field-0-test (c.in-Ok-true.ensures capture had upto))
    (c.loop-number.invariant had begun kept)
