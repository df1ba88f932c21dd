use Rattle.std.proofs.Common.{◌≡◌, ◌∙◌, [], Ok, Err, Some, sym, ap, subst, arith, rules}
use Rattle.std.proofs.KnownBytes.{Consumes-nil, Consumes-trans}
use Rattle.fuse_device.specs.ErrorNumbers.{end_of}
use Rattle.fuse_device.specs.Calls.{TriedAgain, again, not_yet, read_result, said, too_often}
use Rattle.fuse_device.specs.declared.device.DeviceEnd.TheVariants.{Ended, TimedOut}
use Rattle.fuse_device.proofs.Tries.{read_again, read_count, read_failed, read_timed_out}
use Rattle.fuse_device.proofs.reading.read_some.Goals as goal

pub loop-try-init : goal.loop-try-init
loop-try-init g c = (Consumes-nil (g.R.Read.remaining c.args.from.now), not_yet)

pub returns-in-Ok-eq0-clause-tried : goal.returns-in-Ok-eq0-clause-tried
returns-in-Ok-eq0-clause-tried g c =
    let zero : c.in-Ok-eq0.field-0 ≡ 0 = omega (arith, c.in-Ok-eq0.field-0-test) in
    said c.loop-try._try c.loop-try.from c.loop-try.invariant.1 (Ok c.in-Ok-eq0.field-0) c.read_once.new.self
    c.in-Ok-eq0.ensures.said (Err Ended)
    (ap (λ n. read_result c.args.times_out (Ok n)) zero)

pub returns-in-Ok-clause-tried : goal.returns-in-Ok-clause-tried
returns-in-Ok-clause-tried g c =
    said c.loop-try._try c.loop-try.from c.loop-try.invariant.1 (Ok c.in-Ok.count) c.read_once.new.self
    c.in-Ok.ensures.said (Ok c.in-Ok.count) (read_count c.args.times_out c.in-Ok.count c.in-Ok.count-test.1)

pub returns-then-is_time_over-clause-tried : goal.returns-then-is_time_over-clause-tried
returns-then-is_time_over-clause-tried g c =
    said c.loop-try._try c.loop-try.from c.loop-try.invariant.1 (Err c.in-Err.number) c.read_once.new.self
    c.in-Err.ensures.said (Err TimedOut)
    (read_timed_out c.args.times_out c.in-Err.number (search rules))

pub returns-then-not-is_read_again-clause-tried : goal.returns-then-not-is_read_again-clause-tried
returns-then-not-is_read_again-clause-tried g c =
    let number = c.in-Err.number in
    let end : c.end_of.result ≡ end_of number = search rules in
    said c.loop-try._try c.loop-try.from c.loop-try.invariant.1 (Err number) c.read_once.new.self
    c.in-Err.ensures.said (Err c.end_of.result)
    (read_failed c.args.times_out number (search rules) (search rules) ∙ ap (λ e. Some (Err e)) (sym end))

pub loop-try-preserved : goal.loop-try-preserved
loop-try-preserved g c =
    let number = c.in-Err.number in (
      Consumes-trans (g.R.Read.remaining c.args.from.now) (g.R.Read.remaining c.loop-try.from)
          (g.R.Read.remaining c.read_once.new.self) [] [] c.loop-try.invariant.0 (search rules),
      again c.loop-try._try c.loop-try.from c.loop-try.invariant.1 (Err number) c.read_once.new.self
          c.in-Err.ensures.said (read_again c.args.times_out number (search rules) (search rules)),
    )

pub returns-clause-tried : goal.returns-clause-tried
returns-clause-tried g c =
    too_often c.loop-try.from (subst (λ n. TriedAgain g.R.ReadOnce.gives (read_result c.args.times_out) c.args.from.now n
    c.loop-try.from) (omega (arith, c.loop-try-test.false, c.loop-try.auto._try-end)) c.loop-try.invariant.1)
