use Rattle.std.proofs.Common.{append_assoc}
use Rattle.fw_any.specs.Samples.{line_start}
use Rattle.fw_any.proofs.sample_line.write_start.Goals as goal

pub returns : goal.returns
unfolding line_start
returns g c =
    let wrote = rw (c.name-name.ensures, c.row_of-code.ensures.row) at c.write.ensures.bytes in
    simp append_assoc wrote
