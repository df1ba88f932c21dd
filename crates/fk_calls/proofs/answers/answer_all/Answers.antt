use Rattle.std.proofs.Common.{arith, ◌-◌, length, get_or, ap, ◌∙◌}
use Rattle.fuse_spec.specs.Calls.Answers.{Answer}
use Rattle.fuse_spec.specs.Values.Maps.{put}
use Rattle.fk_calls.proofs.Answered.{none_behind, all_behind, room_left, fewer, absent_last, answered_last}
use Rattle.fk_calls.proofs.answers.answer_all.Goals as goal

pub put-requires-clause-absent : goal.put-requires-clause-absent
put-requires-clause-absent g c =
    absent_last c.args.calls.now c.loop-left.left.now c.args.answers.now c.loop-left.answers c.loop-left.invariant c.in-len1-up.len_at_least c.requires.sorted c.requires.absent c.index-left-left.result

pub loop-left-preserved : goal.loop-left-preserved
loop-left-preserved g c =
    let left = c.loop-left.left.now in
    let last = get_or left (length left - 1) c.index-left-left.result in
    answered_last c.args.calls.now left c.args.answers.now c.loop-left.answers c.put.new.self c.loop-left.invariant c.in-len1-up.len_at_least c.index-left-left.result
    (c.put.ensures.entries ∙ ap
    (λ (a : Answer). put c.loop-left.answers.entries last.0 a) c.new.ensures) c.put.ensures.room

pub loop-left-init : goal.loop-left-init
loop-left-init g c = none_behind c.args.calls.now c.args.answers.now

pub returns : goal.returns
returns g c =
    all_behind c.args.calls.now c.loop-left.left.now c.args.answers.now c.loop-left.answers c.loop-left.invariant c.in_default.len_below

pub put-requires-clause-room : goal.put-requires-clause-room
put-requires-clause-room g c =
    room_left c.args.calls.now c.loop-left.left.now c.args.answers.now c.loop-left.answers c.loop-left.invariant c.in-len1-up.len_at_least c.requires.room

pub loop-left-smaller : goal.loop-left-smaller
loop-left-smaller g c = fewer c.loop-left.left.now c.in-len1-up.len_at_least

pub overflow_sub-call : goal.overflow_sub-call
overflow_sub-call g c = c.in-len1-up.len_at_least

pub bounds-left-left : goal.bounds-left-left
bounds-left-left g c = omega arith
