use Rattle.std.proofs.Common.{List, sym, subst, arith}
use Rattle.fuse_spec.specs.declared.Entry.{Entry}
use Rattle.fs_files.specs.Giving.{AreCountable, IsCountable, files_of}
use Rattle.fs_files.proofs.Giving.{holds_sorted, none_out, none_counted}
use Rattle.fs_files.proofs.nodes.Nodes.counts_out_again.Goals as goal

pub loop-preserved : goal.loop-preserved
loop-preserved g c =
    let t = c.args.self.now.table in
    let files = files_of t c.args.entries.now in
    let here = c.is_counted_out.ensures.within c.if-is_counted_out.false files c.times_among.ensures in
    let at = subst (IsCountable t files) c.file_of-file.ensures here in
    let first = c.in-Some.ensures.cases.0 in
    let shorter = c.in-Some.ensures.cases.1 in
    let most = c.loop.invariant.1 in (
      (λ rest. c.loop.invariant.0 (subst (λ (gs : List Entry). AreCountable t files (files_of t gs)) (sym first)
          (at, rest))),
      omega (arith, shorter, most),
    )

pub returns : goal.returns
returns g c =
    let t = g.S.NodeStore.table c.self.inside.store in
    rw (← c.self.view_is)
    (sym (none_out t (files_of t c.args.entries.now) (holds_sorted t c.lemma_sound.ensures)
    (rw (← c.self.view_is) at c.requires)
    ((rw (← c.self.view_is) at c.loop.invariant.0) (none_counted t
    (files_of t c.args.entries.now) c.loop.left.now c.loop.counter _ c.loop.invariant.1 c.loop-test.false))))
