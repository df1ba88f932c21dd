use Rattle.std.proofs.Common.{ap, ◌∙◌}
use Rattle.fuse_spec.specs.Calls.Answers.{Answer}
use Rattle.fuse_spec.specs.Values.Maps.{Map}
use Rattle.fk_syscalls.specs.Values.{answer_of}
use Rattle.fw_sides.proofs.Collected.{fewer_left, none_first}
use Rattle.fw_sides.proofs.kernel_text.print_answers.Goals as goal

pub loop-call-smaller : goal.loop-call-smaller
loop-call-smaller g c = fewer_left c.loop-call.kernel c.collect.new.self c.in-Some.call (answer_of c.in-Some.answer)
    c.in-Some.ensures.answer c.in-Some.ensures.taken

pub returns : goal.returns
returns g c =
    let empty = none_first c.loop-call.kernel.vfs.answers c.in_default.ensures.answer in
    c.in_default.ensures.none
    ∙ ap (λ (l : Map Answer). record c.loop-call.kernel { vfs = record c.loop-call.kernel.vfs { answers = l } }) empty
    ∙ c.loop-call.invariant
