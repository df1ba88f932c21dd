use Rattle.std.proofs.Common.{codes, refl, ◌++◌}
use Rattle.fw_drive.specs.Faults.{unanswered_words}
use Rattle.fuse_text.proofs.Writes.{OnErr-always, refused_then, some_first}
use Rattle.fw_drive.proofs.Texts.{taken_then}
use Rattle.fw_drive.proofs.request_words.print_no_reply.Goals as goal

pub returns-in_err-print_waiting-clause-refused : goal.returns-in_err-print_waiting-clause-refused
returns-in_err-print_waiting-clause-refused g c =
    OnErr-always _ _ (some_first _ _ (codes "no reply" ++ unanswered_words c.args.waits) (codes "\n") _ (refl) c.in_err-print_waiting.ensures.refused)

pub returns-clause-refused : goal.returns-clause-refused
returns-clause-refused g c =
    refused_then c.write_text.result _ _ _ (codes "no reply" ++ unanswered_words c.args.waits) (codes "\n") _ (refl) c.in_ok-print_waiting.ensures.ok c.write_text.ensures.refused

pub returns-clause-ok : goal.returns-clause-ok
returns-clause-ok g c =
    taken_then c.write_text.result _ _ _ (codes "no reply" ++ unanswered_words c.args.waits) (codes "\n") _ (refl) c.in_ok-print_waiting.ensures.ok c.write_text.ensures.ok
