use Rattle.std.proofs.Common.{ap, sym, ◌∙◌}
use Rattle.fuse_spec.specs.Kernel.Refusals.{is_counted_out}
use Rattle.fk_nodes.specs.ListedFiles.{pairs_left_in}
use Rattle.fuse_frames.specs.ReplyDecoding.{LentReply, decoded_wire_of}
use Rattle.fk_kernel.specs.Entries.{nodes_after_reply}
use Rattle.fk_kernel.proofs.CountsAfterReply.{pairs_out}
use Rattle.fk_kernel.proofs.kernel.KernelOf.counts_exceed.Goals as goal

pub returns-in-ListedPlus : goal.returns-in-ListedPlus
returns-in-ListedPlus g c =
    let nodes = c.args.self.now.nodes in
    pairs_out nodes (pairs_left_in c.in-ListedPlus.pairs) c.lemma_counts_in_range.ensures.sorted c.listed_count_out.result
    (rw (← c.self.view_is) c.listed_count_out.ensures.out) (rw (← c.self.view_is) c.listed_count_out.ensures.within)
    ∙ ap (λ (said : LentReply). is_counted_out (nodes_after_reply nodes (decoded_wire_of said))) (sym c.in-ListedPlus.is)
