use Rattle.std.proofs.Common.{◌≡◌, ◌∙◌, [], Ok, Err, Some, sym, ap, subst, arith, rules}
use Rattle.std.proofs.KnownBytes.{Appends-nil, Appends-trans}
use Rattle.fuse_device.specs.ErrorNumbers.{end_of}
use Rattle.fuse_device.specs.Calls.{TriedAgain, again, not_yet, said, too_often, write_result}
use Rattle.fuse_device.specs.declared.device.DeviceEnd.TheVariants.{Failed}
use Rattle.fuse_device.proofs.Tries.{write_again, write_count, write_failed}
use Rattle.fuse_device.proofs.stream.write_some.Goals as goal

pub loop-try-init : goal.loop-try-init
loop-try-init g c = (Appends-nil (g.W.Write.contents c.args.out.now), not_yet)

pub returns-in-Ok-eq0-clause-tried : goal.returns-in-Ok-eq0-clause-tried
returns-in-Ok-eq0-clause-tried g c =
    let zero : c.in-Ok-eq0.field-0 ≡ 0 = omega (arith, c.in-Ok-eq0.field-0-test) in
    said c.loop-try._try c.loop-try.out c.loop-try.invariant.1 (Ok c.in-Ok-eq0.field-0) c.write_once.new.self
    c.in-Ok-eq0.ensures.said (Err Failed) (ap (λ n. write_result (Ok n)) zero)

pub returns-in-Ok-clause-tried : goal.returns-in-Ok-clause-tried
returns-in-Ok-clause-tried g c =
    said c.loop-try._try c.loop-try.out c.loop-try.invariant.1 (Ok c.in-Ok.count) c.write_once.new.self
    c.in-Ok.ensures.said (Ok c.in-Ok.count) (write_count c.in-Ok.count c.in-Ok.count-test.1)

pub returns-then-not-is_written_again-clause-tried : goal.returns-then-not-is_written_again-clause-tried
returns-then-not-is_written_again-clause-tried g c =
    let number = c.in-Err.number in
    let end : c.end_of.result ≡ end_of number = search rules in
    said c.loop-try._try c.loop-try.out c.loop-try.invariant.1 (Err number) c.write_once.new.self
    c.in-Err.ensures.said (Err c.end_of.result)
    (write_failed number (search rules) ∙ ap (λ e. Some (Err e)) (sym end))

pub loop-try-preserved : goal.loop-try-preserved
loop-try-preserved g c =
    let number = c.in-Err.number in (
      Appends-trans (g.W.Write.contents c.args.out.now) (g.W.Write.contents c.loop-try.out)
          (g.W.Write.contents c.write_once.new.self) [] [] c.loop-try.invariant.0 (search rules),
      again c.loop-try._try c.loop-try.out c.loop-try.invariant.1 (Err number) c.write_once.new.self
          c.in-Err.ensures.said (write_again number (search rules)),
    )

pub returns-clause-tried : goal.returns-clause-tried
returns-clause-tried g c =
    too_often c.loop-try.out (subst (λ n. TriedAgain (λ old new r. g.W.WriteOnce.takes old new c.args.bytes.now r)
    write_result c.args.out.now n c.loop-try.out) (omega (arith, c.loop-try-test.false, c.loop-try.auto._try-end))
    c.loop-try.invariant.1)
