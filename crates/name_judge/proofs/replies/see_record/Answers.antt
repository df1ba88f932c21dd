use Rattle.fuse_replies.specs.Record.{entry_record_content}
use Rattle.name_judge.proofs.Results.{on_ok}
use Rattle.name_judge.proofs.ReplyLaws.{differ, record_on}
use Rattle.name_judge.proofs.replies.see_record.Goals as goal

pub returns : goal.returns
returns g c = on_ok _ _ c.give_bytes.result (λ right s are.
    record_on s c.give_bytes.new.self c.args.parent (entry_record_content c.args.listed.now)
    (differ c.args.listed.now.entry.nodeid 0 c.if-listed-eq0.false) (right s are)) c.give_bytes.ensures
