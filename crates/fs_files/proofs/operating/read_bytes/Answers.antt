use Rattle.std.proofs.Common.{rules, ◌≡◌}
use Rattle.fs_files.proofs.BornFiles.{reads_bytes}
use Rattle.fs_files.proofs.operating.read_bytes.Goals as goal

pub returns : goal.returns
returns g c v =
    let same : c.in_ok-bytes.bytes.items ≡ c.read.result.now = search rules in
    reads_bytes v c.args.tree.now c.args.file c.args.offset c.args.size c.in_ok-bytes.bytes c.read.result.now same
    (c.read.ensures.1 v)
