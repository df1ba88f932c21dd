use Rattle.std.proofs.Common.{◌++◌, codes}
use Rattle.std.proofs.KnownBytes.{Appends-kept, Appends-trans}
use Rattle.fuse_text.specs.Nodes.{nodes_text}
use Rattle.fk_lookup_count.specs.CountedNodes.{listed_counts}
use Rattle.fw_drive.specs.Notes.{notes_text}
use Rattle.fw_drive.proofs.Texts.{gets_all, gets_then_at}
use Rattle.fw_drive.proofs.script.print_end.Goals as goal

pub returns-in-Ok-print_count-clause-printed : goal.returns-in-Ok-print_count-clause-printed
returns-in-Ok-print_count-clause-printed g c =
    let nodes = nodes_text (codes "kernel") (listed_counts c.args.driver.now.kernel.nodes) in
    let (said, all, right) = c.in-Ok-print_count.ensures.printed in
    let had = g.W.Write.contents c.args.out.now in
    let shown = g.W.Write.contents c.show.new.out in
    let counted = g.W.Write.contents c.print_count.new.out in
    let has = g.W.Write.contents c.flush.new.out in (
      said,
      gets_all c.flush.result had has (nodes ++ notes_text said)
          (Appends-kept had counted has (nodes ++ notes_text said)
          (Appends-trans had shown counted nodes (notes_text said) c.in-Ok.ensures.printed all) c.flush.ensures.keeps),
      right,
    )

pub returns-in-Err-print_count-clause-printed : goal.returns-in-Err-print_count-clause-printed
returns-in-Err-print_count-clause-printed g c =
    let nodes = nodes_text (codes "kernel") (listed_counts c.args.driver.now.kernel.nodes) in
    let (said, some, right) = c.in-Err-print_count.ensures.printed in (
      said,
      gets_then_at c.in-Err-print_count.stop (g.W.Write.contents c.args.out.now) (g.W.Write.contents c.show.new.out)
          (g.W.Write.contents c.print_count.new.out) nodes (notes_text said) c.in-Ok.ensures.printed some,
      right,
    )
