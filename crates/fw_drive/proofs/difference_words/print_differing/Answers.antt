use Rattle.std.proofs.Common.{◌++◌, ◌∙◌, List, ℕ, refl, subst, true}
use Rattle.std.specs.Io.KnownBytes.{Appends}
use Rattle.fk_syscalls.specs.declared.call.Answer.{Answer}
use Rattle.fuse_text.specs.Outputs.{AppendsSome}
use Rattle.fw_script.specs.Records.{answer_words}
use Rattle.fw_drive.specs.Notes.{answer_said, differs, errno_words}
use Rattle.fw_drive.proofs.Texts.{answer_parts, difference_is, said_is, says_one, says_part}
use Rattle.fw_drive.proofs.difference_words.print_differing.Goals as goal

pub returns-in-Ok-print_difference-clause-printed : goal.returns-in-Ok-print_difference-clause-printed
returns-in-Ok-print_difference-clause-printed g c =
    let words = said_is c.args.answer c.errno_of-errno.result c.said_in-words.result.now c.errno_of-errno.ensures
    (c.said_in-words.ensures (answer_words c.args.answer)
    (c.as_slice.ensures.value ∙ c.in-Ok.ensures.ok ∙ answer_parts c.args.answer)) in
    let here = said_is c.args.here c.errno_of-errno_here.result c.said_in-words_here.result.now c.errno_of-errno_here.ensures
    (c.said_in-words_here.ensures (answer_words c.args.here)
    (c.as_slice-2.ensures.value ∙ c.in-Ok-line_of.ensures.ok ∙ answer_parts c.args.here)) in
    says_one (differs c.args.answered.call c.args.answered.words.now c.args.answered.line c.args.answer c.args.here) _ _
    (subst (λ (l : List ℕ). Appends (g.W.Write.contents c.args.out.now) (g.W.Write.contents c.print_difference.new.out) l)
    (difference_is c.args.answered.call c.args.answered.words.now c.args.answered.line c.args.answer c.args.here _ _ words here)
    c.in-Ok-print_difference.ensures.ok) true refl

pub returns-clause-printed : goal.returns-clause-printed
returns-clause-printed g c =
    let words = said_is c.args.answer c.errno_of-errno.result c.said_in-words.result.now c.errno_of-errno.ensures
    (c.said_in-words.ensures (answer_words c.args.answer)
    (c.as_slice.ensures.value ∙ c.in-Ok.ensures.ok ∙ answer_parts c.args.answer)) in
    let here = said_is c.args.here c.errno_of-errno_here.result c.said_in-words_here.result.now c.errno_of-errno_here.ensures
    (c.said_in-words_here.ensures (answer_words c.args.here)
    (c.as_slice-2.ensures.value ∙ c.in-Ok-line_of.ensures.ok ∙ answer_parts c.args.here)) in
    says_part (differs c.args.answered.call c.args.answered.words.now c.args.answered.line c.args.answer c.args.here) _ _
    (subst (λ (l : List ℕ). AppendsSome (g.W.Write.contents c.args.out.now) (g.W.Write.contents c.print_difference.new.out) l)
    (difference_is c.args.answered.call c.args.answered.words.now c.args.answered.line c.args.answer c.args.here _ _ words here)
    c.in-Err-print_difference.ensures.refused)
