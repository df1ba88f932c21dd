use Rattle.std.proofs.Common.{rules, ◌≡◌}
use Rattle.fuse_text.proofs.Writes.{some_either}
use Rattle.fuse_text.proofs.stop.cannot_read.Goals as goal

pub returns-clause-said : goal.returns-clause-said
returns-clause-said g c =
    let same : c.as_bytes.result.now ≡ c.args.name.now = search rules in
    some_either c.write_unreadable.result _ _ _ (rw same at c.write_unreadable.ensures.ok)
    (rw same at c.write_unreadable.ensures.refused)
