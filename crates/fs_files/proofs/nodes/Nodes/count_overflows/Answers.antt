use Rattle.std.proofs.Common.{sym, subst, arith}
use Rattle.fs_files.specs.Giving.{AreCountable}
use Rattle.fs_files.proofs.Giving.{holds_sorted, none_out, none_left}
use Rattle.fs_files.proofs.nodes.Nodes.count_overflows.Goals as goal

pub loop-preserved : goal.loop-preserved
loop-preserved g c =
    let here = c.is_counted_out.ensures.within c.if-is_counted_out.false c.args.files.now c.times.ensures in
    let first = c.in-Some.ensures.cases.0 in
    let shorter = c.in-Some.ensures.cases.1 in
    let most = c.loop.invariant.1 in (
      (λ rest. c.loop.invariant.0 (subst (AreCountable c.args.self.now.table c.args.files.now) (sym first)
          (here, rest))),
      omega (arith, shorter, most),
    )

pub returns : goal.returns
returns g c =
    let t = g.S.NodeStore.table c.self.inside.store in
    rw (← c.self.view_is)
    (sym (none_out t c.args.files.now (holds_sorted t c.lemma_sound.ensures) (rw (← c.self.view_is) at c.requires)
    ((rw (← c.self.view_is) at c.loop.invariant.0)
    (none_left t c.args.files.now c.loop.left.now c.loop.counter _ c.loop.invariant.1 c.loop-test.false))))
