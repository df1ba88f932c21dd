use Rattle.std.proofs.Common.{sym, ap, ◌∙◌, is_some}
use Rattle.fuse_spec.specs.Values.Maps.{get}
use Rattle.fuse_spec.proofs.Tables.{get_put_here}
use Rattle.fs_tree.proofs.FileRows.{there-kind, none_some}
use Rattle.fs_tree.proofs.WrittenFiles.{found, written, unwritten}
use Rattle.fs_tree.proofs.files.Files.write.Goals as goal

pub returns-in_default-clause-ok : goal.returns-in_default-clause-ok
returns-in_default-clause-ok g c =
    absurd (none_some _ (sym c.replace.ensures.value ∙ c.in_default.is)
    (there-kind c.self.inside.contents.entries c.args.file (rw (← c.self.view_is) at c.requires.regular)))

pub write-written-requires-clause-regular : goal.write-written-requires-clause-regular
write-written-requires-clause-regular g c =
    let there = sym c.in-Some.is ∙ c.replace.ensures.value in
    rw (found c.self.inside.contents.entries c.args.self.now c.args.file c.in-Some.content c.self.view_is there)
    at c.requires.regular

pub returns-clause-ok : goal.returns-clause-ok
returns-clause-ok g c =
    let es = c.self.inside.contents.entries in
    let there = sym c.in-Some.is ∙ c.replace.ensures.value in
    let out = c.replace.ensures.entries (ap is_some c.in-Some.is) in
    let filled = c.replace-directory.ensures.value ∙ ap (λ m. get m c.args.file) out ∙ get_put_here es c.args.file _ in
    written es c.args.self.now c.args.file c.in-Some.content c.self.view_is there c.replace.new.self.entries
    c.replace-directory.new.self.entries _ c.write-written.new.self c.replace.ensures.sorted out
    (c.replace-directory.ensures.entries (ap is_some filled)) c.write-written.result c.args.offset c.args.bytes.now
    c.write-written.ensures.ok

pub returns-clause-unchanged : goal.returns-clause-unchanged
returns-clause-unchanged g c =
    let es = c.self.inside.contents.entries in
    let there = sym c.in-Some.is ∙ c.replace.ensures.value in
    let out = c.replace.ensures.entries (ap is_some c.in-Some.is) in
    let filled = c.replace-directory.ensures.value ∙ ap (λ m. get m c.args.file) out ∙ get_put_here es c.args.file _ in
    unwritten es c.args.self.now c.args.file c.in-Some.content c.self.view_is there c.replace.new.self.entries
    c.replace-directory.new.self.entries _ c.write-written.new.self c.replace.ensures.sorted out
    (c.replace-directory.ensures.entries (ap is_some filled)) c.write-written.result c.write-written.ensures.unchanged
