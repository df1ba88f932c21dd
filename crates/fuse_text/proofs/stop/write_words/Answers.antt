use Rattle.std.proofs.Common.{codes, refl}
use Rattle.fuse_text.proofs.Writes.{OnErr-always, refused_then, some_first}
use Rattle.fuse_text.proofs.stop.write_words.Goals as goal

pub returns-in_err-write_text-clause-refused : goal.returns-in_err-write_text-clause-refused
returns-in_err-write_text-clause-refused g c =
    OnErr-always _ _ (some_first _ _ c.args.words.now (codes "\n") _ refl c.in_err-write_text.ensures.refused)

pub returns-clause-refused : goal.returns-clause-refused
returns-clause-refused g c =
    refused_then c.write_text-2.result _ _ _ c.args.words.now (codes "\n") _ refl c.in_ok-write_text.ensures.ok
    c.write_text-2.ensures.refused
