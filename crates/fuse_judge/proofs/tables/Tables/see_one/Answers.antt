use Rattle.std.proofs.Common.{◌^◌, arith}
use Rattle.fuse_sessions.specs.declared.act.Act.TheVariants.{Gives, Forgets, Asks, Replies}
use Rattle.fuse_judge.proofs.ConcernLaws.{is_concern}
use Rattle.fuse_judge.proofs.FlagLaws.{flags-kept}
use Rattle.fuse_judge.proofs.NumberLaws.{quiet_numbers}
use Rattle.fuse_judge.proofs.NodeLaws.{left_alone, nodes_few}
use Rattle.fuse_judge.proofs.OpenLaws.{left_open}
use Rattle.fuse_judge.proofs.PendingLaws.{pending_kept}
use Rattle.fuse_judge.proofs.tables.Tables.see_one.Goals as goal

pub give-requires-clause-few : goal.give-requires-clause-few
give-requires-clause-few g c =
    nodes_few _ _ c.requires.few.1.right_nodes (2 ^ 64) (omega (arith, c.requires.few.2))

pub returns-in-Gives-clause-verdict : goal.returns-in-Gives-clause-verdict
returns-in-Gives-clause-verdict g c = λ s are. rw c.in-Gives.is (c.give.ensures.verdict s are.right_nodes)

pub returns-in-Gives-clause-right : goal.returns-in-Gives-clause-right
returns-in-Gives-clause-right g c = λ s are.
    let act = Gives c.in-Gives.nodeid c.in-Gives.file c.in-Gives.is_certain in
    let leaves = is_concern act in
    rw c.in-Gives.is (record {
      right_flags = flags-kept s act _ leaves.flags (leaves.no_end s) are.right_flags;
      right_numbers = quiet_numbers s act _ leaves.numbers are.right_numbers;
      right_nodes = c.give.ensures.kept s are.right_nodes;
      right_pending = pending_kept s act _ _ _ are.right_pending leaves.requests;
      right_opens = left_open s act _ _ leaves.files are.right_opens;
    })

pub returns-in-Forgets-clause-verdict : goal.returns-in-Forgets-clause-verdict
returns-in-Forgets-clause-verdict g c = λ s are.
    rw c.in-Forgets.is (c.forget.ensures.verdict s are.right_nodes (c.is_in_use-in_use.ensures s are))

pub returns-in-Forgets-clause-right : goal.returns-in-Forgets-clause-right
returns-in-Forgets-clause-right g c = λ s are.
    let act = Forgets c.in-Forgets.node c.in-Forgets.lookups in
    let leaves = is_concern act in
    rw c.in-Forgets.is (record {
      right_flags = flags-kept s act _ leaves.flags (leaves.no_end s) are.right_flags;
      right_numbers = quiet_numbers s act _ leaves.numbers are.right_numbers;
      right_nodes = c.forget.ensures.kept s are.right_nodes;
      right_pending = pending_kept s act _ _ _ are.right_pending leaves.requests;
      right_opens = left_open s act _ _ leaves.files are.right_opens;
    })

pub returns-in-Asks-clause-right : goal.returns-in-Asks-clause-right
returns-in-Asks-clause-right g c = λ s are.
    let act = Asks c.in-Asks.unique c.in-Asks.asked in
    let leaves = is_concern act in
    rw c.in-Asks.is (record {
      right_flags = flags-kept s act _ leaves.flags (leaves.no_end s) are.right_flags;
      right_numbers = quiet_numbers s act _ leaves.numbers are.right_numbers;
      right_nodes = left_alone s act _ leaves.nodes are.right_nodes;
      right_pending = c.note_asked.ensures.kept s are.right_pending;
      right_opens = left_open s act _ _ leaves.files are.right_opens;
    })

pub returns-in-Read-clause-verdict : goal.returns-in-Read-clause-verdict
returns-in-Read-clause-verdict g c = λ s are. rw c.in-Read.is (c.read.ensures.verdict s are)

pub returns-in-Read-clause-right : goal.returns-in-Read-clause-right
returns-in-Read-clause-right g c = λ s are. rw c.in-Read.is (c.read.ensures.right s are)

pub returns-in-Replies-clause-verdict : goal.returns-in-Replies-clause-verdict
returns-in-Replies-clause-verdict g c = λ s are.
    rw c.in-Replies.is (c.reply.ensures.verdict s are.right_pending are.right_numbers)

pub returns-in-Replies-clause-right : goal.returns-in-Replies-clause-right
returns-in-Replies-clause-right g c = λ s are.
    let act = Replies c.in-Replies.unique c.in-Replies.taken in
    let leaves = is_concern act in
    rw c.in-Replies.is (record {
      right_flags = flags-kept s act _ leaves.flags (leaves.no_end s) are.right_flags;
      right_numbers = quiet_numbers s act _ leaves.numbers are.right_numbers;
      right_nodes = left_alone s act _ leaves.nodes are.right_nodes;
      right_pending = c.reply.ensures.kept s are.right_pending;
      right_opens = left_open s act _ _ leaves.files are.right_opens;
    })
