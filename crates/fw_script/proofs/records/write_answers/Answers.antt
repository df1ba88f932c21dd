use Rattle.fw_script.specs.Records.{record_text}
use Rattle.fuse_text.proofs.Writes.{OnErr-always, some_within_item}
use Rattle.fw_script.proofs.records.write_answers.Goals as goal

pub returns-in_err-write_record-clause-refused : goal.returns-in_err-write_record-clause-refused
returns-in_err-write_record-clause-refused g c =
    OnErr-always _ c.from_residual.result
    (some_within_item record_text c.args.answers.now c.loop-answer.answer-index _ (g.W.Write.contents c.args.out.now)
    (g.W.Write.contents c.loop-answer.out) (g.W.Write.contents c.write_record.new.out) c.loop-answer-test.true c.answer-item.is
    c.loop-answer.invariant c.in_err-write_record.ensures.refused)
