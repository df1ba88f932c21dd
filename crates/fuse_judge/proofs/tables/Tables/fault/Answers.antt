use Rattle.std.proofs.Common.{ap, sym, ◌∙◌, subst, nat_lt}
use Rattle.fuse_judge.specs.Nodes.{IsNode}
use Rattle.fuse_judge.specs.Numbers.{IsMark}
use Rattle.fuse_judge.proofs.PendingLaws.{pending_waiting, waits_is, used_counts}
use Rattle.fuse_judge.proofs.tables.Tables.fault.Goals as goal

pub returns-in-Read : goal.returns-in-Read
returns-in-Read g c = λ s are. rw c.in-Read.is
    (c.fault_of_number.ensures s
    (subst (IsMark s c.in-Read.unique) (sym c.mark_of.ensures) (are.right_numbers.marked c.in-Read.unique)) are.right_flags)

pub returns-in-Resent : goal.returns-in-Resent
returns-in-Resent g c = λ s are. rw c.in-Resent.is
    (c.fault_of_resent.ensures s (pending_waiting s _ _ _ are.right_pending))

pub returns-in-Interrupts : goal.returns-in-Interrupts
returns-in-Interrupts g c = λ s are. rw c.in-Interrupts.is
    (c.fault_of_interrupt.ensures s (pending_waiting s _ _ _ are.right_pending)
    (c.has_several_threads.ensures s are.right_flags))

pub returns-in-Forgets : goal.returns-in-Forgets
returns-in-Forgets g c = λ s are. rw c.in-Forgets.is
    (c.fault_of_forget.ensures s (c.most.ensures s are.right_nodes) (c.is_in_use.ensures s are))

pub returns-in-Uses : goal.returns-in-Uses
returns-in-Uses g c = λ s are. rw c.in-Uses.is
    (c.fault_of_use.ensures s (c.open_count.ensures s are.right_opens) are.right_flags)

pub returns-in-Releases : goal.returns-in-Releases
returns-in-Releases g c = λ s are. rw c.in-Releases.is
    (c.fault_of_release.ensures s (c.open_count-in-Releases.ensures s are.right_opens) are.right_flags
    (ap (nat_lt 0) (rw c.handle_of.ensures at c.count.ensures) ∙ used_counts s _ _ _ are.right_pending c.in-Releases.file))

pub returns-in-Takes : goal.returns-in-Takes
returns-in-Takes g c = λ s are. rw c.in-Takes.is
    (c.fault_of_taking.ensures s (pending_waiting s _ _ _ are.right_pending) are.right_flags)

pub returns-in-Interrupted : goal.returns-in-Interrupted
returns-in-Interrupted g c = λ s are. rw c.in-Interrupted.is
    (c.fault_of_error.ensures s (pending_waiting s _ _ _ are.right_pending)
    (c.has_several_threads-in-Interrupted.ensures s are.right_flags))

pub returns-in-Opens : goal.returns-in-Opens
returns-in-Opens g c = λ s are. rw c.in-Opens.is
    (c.fault_of_opening.ensures s (c.open_count-in-Opens.ensures s are.right_opens))

pub returns-in-Replies : goal.returns-in-Replies
returns-in-Replies g c = λ s are. rw c.in-Replies.is
    (c.fault_of_reply.ensures s
    (c.waits.ensures ∙ waits_is s c.in-Replies.unique _ (pending_waiting s _ _ _ are.right_pending c.in-Replies.unique))
    are.right_numbers)

pub returns-in-RepliesToInterrupt : goal.returns-in-RepliesToInterrupt
returns-in-RepliesToInterrupt g c = λ s are. rw c.in-RepliesToInterrupt.is
    (c.fault_of_reply_to_interrupt.ensures s (pending_waiting s _ _ _ are.right_pending) are.right_numbers
    (c.has_several_threads-several.ensures s are.right_flags))

pub returns-in-Gives : goal.returns-in-Gives
returns-in-Gives g c = λ s are. rw c.in-Gives.is
    (c.fault_of_gift.ensures s c.in-Gives.nodeid
    (subst (IsNode s c.in-Gives.nodeid) (sym c.get.ensures ∙ sym c.copied.ensures) (are.right_nodes c.in-Gives.nodeid)))
