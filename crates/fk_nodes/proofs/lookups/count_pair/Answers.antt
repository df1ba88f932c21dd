use Rattle.std.proofs.Common.{◌≡◌, ◌+◌, false, true, ap, sym, ◌∙◌}
use Rattle.std.specs.Prelude.{is_none}
use Rattle.fuse_spec.specs.Kernel.Replies.{use_counted}
use Rattle.fuse_spec.specs.Values.Maps.{get}
use Rattle.fk_nodes.proofs.Counts.{one_more_by, as_many_by}
use Rattle.fk_nodes.proofs.lookups.count_pair.Goals as goal

pub returns-then-count_one-clause-len : goal.returns-then-count_one-clause-len
returns-then-count_one-clause-len g c =
    let m = g.C.CountTable.counted c.args.table.now in
    let entry = c.in-Some.entry in
    let new : is_none (get m entry.nodeid) ≡ true = sym c.count_one.ensures.new ∙ c.if-count_one.true in
    rw c.count_one.ensures.counted
    (ap (λ n. n + 1) c.requires.len ∙ one_more_by m entry c.lemma_sound.ensures.sorted new)

pub returns-clause-len : goal.returns-clause-len
returns-clause-len g c =
    let m = g.C.CountTable.counted c.args.table.now in
    let entry = c.in-Some.entry in
    let known : is_none (get m entry.nodeid) ≡ false = sym c.count_one.ensures.new ∙ c.if-count_one.false in
    rw c.count_one.ensures.counted
    (c.requires.len ∙ as_many_by m entry (use_counted entry (get m entry.nodeid)) c.lemma_sound.ensures.sorted known)
