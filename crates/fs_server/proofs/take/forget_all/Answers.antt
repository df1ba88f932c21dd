use Rattle.std.proofs.Common.{refl}
use Rattle.fk_wire.specs.Pairs.{pairs_in}
use Rattle.fs_server.proofs.Forgets.{enough, rest_has}
use Rattle.fs_server.proofs.DiscardsUnheld.{discards_none, discards_on}
use Rattle.fs_server.proofs.take.forget_all.Goals as goal

pub pairs-init : goal.pairs-init
pairs-init g c = rw c.into_iter-nodeid-iterator.ensures.into_iter_gives (
  tt,
  tt,
  refl,
  enough c.args.files.now.nodes (pairs_in c.args.pairs) c.requires.enough,
  discards_none c.args.files.now c.requires.named,
)

pub pairs-preserved : goal.pairs-preserved
pairs-preserved g c =
    let steps = c.in-Some.ensures.steps in
    let before = rw steps at c.pairs.invariant.2 in
    let had = rw steps at c.pairs.invariant.3 in
    let one = c.forget_one.ensures in (
      tt,
      tt,
      rw one.nodes_are before,
      rw one.nodes_are (rest_has c.pairs.files.nodes c.in-Some.nodeid c.in-Some.nlookup (pairs_in c.next.new.self) had),
      discards_on c.args.files.now c.pairs.files c.forget_one.new.files c.in-Some.nodeid c.in-Some.nlookup c.pairs.invariant.4 one,
    )
