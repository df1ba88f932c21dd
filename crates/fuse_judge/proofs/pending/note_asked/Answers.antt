use Rattle.std.proofs.Common.{◌<◌, ◌+◌, ◌^◌, arith, nat_eq}
use Rattle.fuse_sessions.specs.Waiting.{waiting}
use Rattle.fuse_judge.specs.Handles.{handle, same_handle}
use Rattle.fuse_judge.specs.Tallies.{count_in}
use Rattle.fuse_judge.proofs.PendingLaws.{names_few, uses_few, pending_asked}
use Rattle.fuse_judge.proofs.pending.note_asked.Goals as goal

pub ask-requires-clause-names : goal.ask-requires-clause-names
ask-requires-clause-names g c = λ n.
    let few : count_in nat_eq c.args.pending.now.named.counts n + 2 < 2 ^ 64
    = names_few _ _ _ _ c.requires.few.1 (2 ^ 64) c.requires.few.2 n in
    let less = c.end-waited.ensures.names n in
    omega (arith, few, less)

pub ask-requires-clause-uses : goal.ask-requires-clause-uses
ask-requires-clause-uses g c = λ f.
    let few : count_in same_handle c.args.pending.now.used.counts (handle f) + 2 < 2 ^ 64
    = uses_few _ _ _ _ c.requires.few.1 (2 ^ 64) c.requires.few.2 f in
    let less = c.end-waited.ensures.uses f in
    omega (arith, few, less)

pub returns-clause-kept : goal.returns-clause-kept
returns-clause-kept g c = λ s are.
    pending_asked s c.args.unique c.args.asked.now _ _ _
    (c.ask.ensures.listed _ (c.end-waited.ensures.listed (waiting s) are.listed))
    (c.ask.ensures.interrupted s (c.end-waited.ensures.interrupted s are.interrupted))
