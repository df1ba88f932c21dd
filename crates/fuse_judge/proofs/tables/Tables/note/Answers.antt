use Rattle.std.proofs.Common.{sym, subst}
use Rattle.fuse_judge.proofs.ConcernLaws.{IsConcern, is_concern}
use Rattle.fuse_judge.proofs.FlagLaws.{flags-kept}
use Rattle.fuse_judge.proofs.NumberLaws.{quiet_numbers}
use Rattle.fuse_judge.proofs.NodeLaws.{left_alone}
use Rattle.fuse_judge.proofs.OpenLaws.{left_open}
use Rattle.fuse_judge.proofs.PendingLaws.{pending_kept}
use Rattle.fuse_judge.proofs.tables.Tables.note.Goals as goal

pub returns-in-Nothing-clause-right : goal.returns-in-Nothing-clause-right
returns-in-Nothing-clause-right g c = λ s are.
    let act = c.args.act.now in
    let leaves = subst (IsConcern act) (sym c.in-Nothing.ensures) (is_concern act) in record {
      right_flags = flags-kept s act _ leaves.flags (leaves.no_end s) are.right_flags;
      right_numbers = quiet_numbers s act _ leaves.numbers are.right_numbers;
      right_nodes = left_alone s act _ leaves.nodes are.right_nodes;
      right_pending = pending_kept s act _ _ _ are.right_pending leaves.requests;
      right_opens = left_open s act _ _ leaves.files are.right_opens;
    }

pub returns-in-Requests-clause-right : goal.returns-in-Requests-clause-right
returns-in-Requests-clause-right g c = λ s are.
    let act = c.args.act.now in
    let leaves = subst (IsConcern act) (sym c.in-Requests.ensures) (is_concern act) in record {
      right_flags = flags-kept s act _ leaves.flags (leaves.no_end s) are.right_flags;
      right_numbers = quiet_numbers s act _ leaves.numbers are.right_numbers;
      right_nodes = left_alone s act _ leaves.nodes are.right_nodes;
      right_pending = c.note_pending.ensures.kept s are.right_pending;
      right_opens = left_open s act _ _ leaves.files are.right_opens;
    }

pub returns-in-Nodes-clause-right : goal.returns-in-Nodes-clause-right
returns-in-Nodes-clause-right g c = λ s are.
    let act = c.args.act.now in
    let leaves = subst (IsConcern act) (sym c.in-Nodes.ensures) (is_concern act) in record {
      right_flags = flags-kept s act _ leaves.flags (leaves.no_end s) are.right_flags;
      right_numbers = quiet_numbers s act _ leaves.numbers are.right_numbers;
      right_nodes = c.note_nodes.ensures.kept s are.right_nodes;
      right_pending = pending_kept s act _ _ _ are.right_pending leaves.requests;
      right_opens = left_open s act _ _ leaves.files are.right_opens;
    }

pub returns-in-OpenFiles-clause-right : goal.returns-in-OpenFiles-clause-right
returns-in-OpenFiles-clause-right g c = λ s are.
    let act = c.args.act.now in
    let leaves = subst (IsConcern act) (sym c.in-OpenFiles.ensures) (is_concern act) in record {
      right_flags = flags-kept s act _ leaves.flags (leaves.no_end s) are.right_flags;
      right_numbers = quiet_numbers s act _ leaves.numbers are.right_numbers;
      right_nodes = left_alone s act _ leaves.nodes are.right_nodes;
      right_pending = pending_kept s act _ _ _ are.right_pending leaves.requests;
      right_opens = c.note_opens.ensures.kept s are.right_opens;
    }
