use Rattle.std.proofs.Common.{rules}
use Rattle.fs_tree.proofs.tree.Tree.may_add.Goals as goal

pub returns-then-len-ge-MAX_NAMES-clause-refusal : goal.returns-then-len-ge-MAX_NAMES-clause-refusal
returns-then-len-ge-MAX_NAMES-clause-refusal g c = search rules

pub returns-else-len-ge-MAX_NAMES-clause-refusal : goal.returns-else-len-ge-MAX_NAMES-clause-refusal
returns-else-len-ge-MAX_NAMES-clause-refusal g c = search rules

pub returns-else-len-ge-MAX_NAMES-clause-free : goal.returns-else-len-ge-MAX_NAMES-clause-free
returns-else-len-ge-MAX_NAMES-clause-free g c = search rules

pub returns-else-len-ge-MAX_NAMES-clause-room : goal.returns-else-len-ge-MAX_NAMES-clause-room
returns-else-len-ge-MAX_NAMES-clause-room g c = search rules
