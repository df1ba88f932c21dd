use Rattle.std.proofs.Common.{◌∙◌, sym, arith}
use Rattle.std.proofs.lemmas.Option.{same_Some}
use Rattle.fuse_tables.proofs.Rows.{without_last}
use Rattle.fuse_tables.proofs.Live.{value_at_row, live_gone}
use Rattle.fuse_tables.proofs.live_rows.take_row.Goals as goal

pub returns-then-is_first-clause-value : goal.returns-then-is_first-clause-value
returns-then-is_first-clause-value g c =
    let there = c.is_first.ensures.0 c.if-is_first.true in
    let row = c.unwrap.result in
    value_at_row c.args.rows.now.items c.args.key 0 row c.requires there (same_Some _ _ (sym c.unwrap.ensures
    ∙ c.pop_front.ensures.value row (omega (arith, there.bound))))

pub returns-then-is_first-clause-live : goal.returns-then-is_first-clause-live
returns-then-is_first-clause-live g c =
    let there = c.is_first.ensures.0 c.if-is_first.true in
    (live_gone c.args.rows.now.items c.pop_front.new.self.items c.args.key 0 c.requires there
    c.pop_front.ensures.rest).0

pub returns-then-is_last-clause-value : goal.returns-then-is_last-clause-value
returns-then-is_last-clause-value g c =
    let there = c.is_last.ensures.0 c.if-is_last.true in
    let row = c.unwrap-then-is_last.result in
    value_at_row c.args.rows.now.items c.args.key _ row c.requires there (same_Some _ _
    (sym c.unwrap-then-is_last.ensures ∙ c.pop_back.ensures.value row (omega (arith, there.bound))))

pub returns-then-is_last-clause-live : goal.returns-then-is_last-clause-live
returns-then-is_last-clause-live g c =
    let there = c.is_last.ensures.0 c.if-is_last.true in
    (live_gone c.args.rows.now.items c.pop_back.new.self.items c.args.key _ c.requires there
    (c.pop_back.ensures.rest ∙ without_last c.args.rows.now.items _ (omega (arith, there.bound)))).0

pub returns-then-is_last-clause-sorted : goal.returns-then-is_last-clause-sorted
returns-then-is_last-clause-sorted g c =
    let there = c.is_last.ensures.0 c.if-is_last.true in
    (live_gone c.args.rows.now.items c.pop_back.new.self.items c.args.key _ c.requires there
    (c.pop_back.ensures.rest ∙ without_last c.args.rows.now.items _ (omega (arith, there.bound)))).1
