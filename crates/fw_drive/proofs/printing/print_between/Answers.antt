use Rattle.std.proofs.Common.{◌++◌, append_assoc, sym, decimal}
use Rattle.fuse_text.proofs.Writes.{OnErr-always, refused_then, some_first}
use Rattle.fw_drive.proofs.Texts.{taken_then}
use Rattle.fw_drive.proofs.printing.print_between.Goals as goal

pub returns-in_err-print_counted-clause-refused : goal.returns-in_err-print_counted-clause-refused
returns-in_err-print_counted-clause-refused g c =
    OnErr-always _ _ (some_first _ _ (c.args.before.now ++ decimal c.args.number) (c.args.after.now) _ (sym (append_assoc c.args.before.now (decimal c.args.number) c.args.after.now)) c.in_err-print_counted.ensures.refused)

pub returns-clause-refused : goal.returns-clause-refused
returns-clause-refused g c =
    refused_then c.write_text.result _ _ _ (c.args.before.now ++ decimal c.args.number) (c.args.after.now) _ (sym (append_assoc c.args.before.now (decimal c.args.number) c.args.after.now)) c.in_ok-print_counted.ensures.ok c.write_text.ensures.refused

pub returns-clause-ok : goal.returns-clause-ok
returns-clause-ok g c =
    taken_then c.write_text.result _ _ _ (c.args.before.now ++ decimal c.args.number) (c.args.after.now) _ (sym (append_assoc c.args.before.now (decimal c.args.number) c.args.after.now)) c.in_ok-print_counted.ensures.ok c.write_text.ensures.ok
