use Rattle.std.proofs.Common.{ℕ, ◌+◌, ◌∷◌, ◌++◌, ap, ◌∙◌}
use Rattle.std.specs.Prelude.{slice_range}
use Rattle.fuse_protocol.proofs.Splits.{no_nul_in, no_split}
use Rattle.fuse_protocol.proofs.Ranges.{range_split, other_first}
use Rattle.fuse_protocol.proofs.names.split_at_nul.Goals as goal

pub returns-in_default : goal.returns-in_default
returns-in_default c name rest e plain =
    let part = slice_range c.args.bytes.now c.args.start c.args.stop in
    no_split part name rest (no_nul_in c.args.other part c.in_default.ensures) e

pub returns-then-bytes-end-eq0 : goal.returns-then-bytes-end-eq0
returns-then-bytes-end-eq0 c =
    let bytes = c.args.bytes.now in
    let found = c.in-Some.ensures in
    let end = c.in-Some.end in (
      found.0,
      found.1,
      found.2,
      range_split bytes c.args.start end c.args.stop found.0 found.1 c.requires.within
          ∙ ap (λ (b : ℕ). slice_range bytes c.args.start end ++ b ∷ slice_range bytes (end + 1) c.args.stop) c.if-bytes-end-eq0.true,
    )

pub returns-else-bytes-end-eq0 : goal.returns-else-bytes-end-eq0
returns-else-bytes-end-eq0 c name rest e plain =
    let found = c.in-Some.ensures in
    other_first c.args.other c.args.bytes.now c.args.start c.in-Some.end c.args.stop name rest found.0 found.1
    c.requires.within found.2 found.3 c.if-bytes-end-eq0.false e plain
