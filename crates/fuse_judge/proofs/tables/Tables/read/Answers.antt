use Rattle.std.proofs.Common.{◌&&◌, refl, sym, ap, subst, nat_eq}
use Rattle.fuse_sessions.specs.declared.act.Act.TheVariants.{Read}
use Rattle.fuse_judge.specs.Numbers.{IsMark}
use Rattle.fuse_judge.proofs.ConcernLaws.{is_of_numbers}
use Rattle.fuse_judge.proofs.NumberLaws.{number_read}
use Rattle.fuse_judge.proofs.NodeLaws.{left_alone}
use Rattle.fuse_judge.proofs.OpenLaws.{left_open}
use Rattle.fuse_judge.proofs.PendingLaws.{pending_kept}
use Rattle.fuse_judge.proofs.tables.Tables.read.Goals as goal

pub returns-clause-verdict : goal.returns-clause-verdict
returns-clause-verdict g c = λ s are. c.fault_of_number-fault.ensures s
    (subst (IsMark s c.args.unique) (sym c.set_mark-before.ensures.before) (are.right_numbers.marked c.args.unique))
    are.right_flags

pub returns-clause-right : goal.returns-clause-right
returns-clause-right g c = λ s are.
    let act = Read c.args.opcode c.args.unique in
    let leaves = is_of_numbers c.args.opcode c.args.unique in record {
      right_flags = c.note_flags.ensures s are.right_flags (leaves.no_end s);
      right_numbers = number_read s act _ _ c.args.unique c.is_forget.result
          (λ q. (refl, ap (λ b. nat_eq c.args.unique q && b) (sym c.is_forget.ensures))) are.right_numbers
          (c.set_mark-before.ensures.marks are.right_numbers.whole) (c.set_mark-before.ensures.whole are.right_numbers.whole);
      right_nodes = left_alone s act _ leaves.nodes are.right_nodes;
      right_pending = pending_kept s act _ _ _ are.right_pending leaves.requests;
      right_opens = left_open s act _ _ leaves.files are.right_opens;
    }
