use Rattle.std.proofs.Common.{drop, refl, ◌∙◌}
use Rattle.fs_files.specs.Giving.{files_of}
use Rattle.fs_files.proofs.HeldBelow.{within_first}
use Rattle.fs_files.proofs.Recounted.{within_below, within_counted}
use Rattle.fs_server.proofs.Entries.{counted_on, within_on}
use Rattle.fs_server.proofs.again.count_nodes_again.Goals as goal

pub loop-entry-init : goal.loop-entry-init
loop-entry-init g c = let t = c.args.files.now.nodes in
    (refl, within_first t (files_of t c.args.entries.now) c.requires, refl, refl)

pub count_again-requires : goal.count_again-requires
count_again-requires g c =
    let t = c.loop-entry.files.nodes in within_counted t
    (files_of t (drop c.loop-entry.entry-index c.args.entries.now)) c.loop-entry.invariant.1

pub loop-entry-preserved : goal.loop-entry-preserved
loop-entry-preserved g c =
    let t = c.loop-entry.files.nodes in
    let n = c.count_again.new.self.nodes in
    let entries = c.args.entries.now in
    let at = c.loop-entry.entry-index in
    let one = c.count_again.ensures in
    let before = c.loop-entry.invariant in (
      counted_on t n entries at c.loop-entry-test.true _ one.nodes before.0,
      within_on t n entries at c.loop-entry-test.true c.lemma_sound.ensures one.nodes before.1,
      one.tree ∙ before.2,
      one.handles ∙ before.3,
    )

pub returns-clause-below : goal.returns-clause-below
returns-clause-below g c = let t = c.loop-entry.files.nodes in
    within_below t (files_of t (drop c.loop-entry.entry-index c.args.entries.now)) c.loop-entry.invariant.1
