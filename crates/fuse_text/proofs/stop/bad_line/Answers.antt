use Rattle.std.proofs.Common.{rules, ◌≡◌}
use Rattle.fuse_text.proofs.Writes.{some_either}
use Rattle.fuse_text.proofs.stop.bad_line.Goals as goal

pub returns-clause-said : goal.returns-clause-said
returns-clause-said g c =
    let same : c.as_bytes.result.now ≡ c.args.words.now = search rules in
    some_either c.write_bad_line.result _ _ _ (rw same at c.write_bad_line.ensures.ok)
    (rw same at c.write_bad_line.ensures.refused)
