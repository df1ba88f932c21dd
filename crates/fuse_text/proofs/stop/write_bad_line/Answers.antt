use Rattle.std.proofs.Common.{◌++◌, append_assoc, codes}
use Rattle.std.proofs.KnownBytes.{Appends-trans}
use Rattle.fuse_text.specs.Stops.{line_head}
use Rattle.fuse_text.proofs.Writes.{OnErr-always, OnOk-map, refused_then, some_first}
use Rattle.fuse_text.proofs.stop.write_bad_line.Goals as goal

pub returns-in_err-write_head-clause-refused : goal.returns-in_err-write_head-clause-refused
returns-in_err-write_head-clause-refused g c =
    let words = c.args.words.now in
    OnErr-always _ _ (some_first _ _ (line_head c.args.number) (words ++ codes "\n") _
    (append_assoc (line_head c.args.number) words (codes "\n")) c.in_err-write_head.ensures.refused)

pub returns-clause-refused : goal.returns-clause-refused
returns-clause-refused g c =
    let words = c.args.words.now in
    refused_then c.write_words.result _ _ _ (line_head c.args.number) (words ++ codes "\n") _
    (append_assoc (line_head c.args.number) words (codes "\n")) c.in_ok-write_head.ensures.ok c.write_words.ensures.refused

pub returns-clause-ok : goal.returns-clause-ok
returns-clause-ok g c =
    let words = c.args.words.now in
    OnOk-map _ _ c.write_words.result
    (λ wrote. rw (append_assoc (line_head c.args.number) words (codes "\n"))
    (Appends-trans _ _ _ (line_head c.args.number) (words ++ codes "\n") c.in_ok-write_head.ensures.ok wrote))
    c.write_words.ensures.ok
