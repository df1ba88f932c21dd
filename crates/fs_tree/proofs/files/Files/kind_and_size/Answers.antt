use Rattle.std.proofs.Common.{sym, ap, ◌∙◌, length}
use Rattle.fuse_spec.specs.Files.Trees.{file_bytes, kind_of}
use Rattle.fs_tree.specs.Views.{content_in}
use Rattle.fs_tree.proofs.FileRows.{get-seen}
use Rattle.std.specs.Option.{option_map}
use Rattle.fs_tree.proofs.files.Files.kind_and_size.Goals as goal

pub returns-in-Some-clause-kind : goal.returns-in-Some-clause-kind
returns-in-Some-clause-kind g c = rw (← c.self.view_is) (c.kind.ensures ∙ ap kind_of
    (ap (option_map content_in) c.in-Some.ensures ∙ sym
    (get-seen content_in c.self.inside.contents.entries c.args.file)))

pub returns-in-Some-clause-size : goal.returns-in-Some-clause-size
returns-in-Some-clause-size g c = rw (← c.self.view_is) (ap length (c.bytes.ensures ∙ ap file_bytes
    (ap (option_map content_in) c.in-Some.ensures ∙ sym
    (get-seen content_in c.self.inside.contents.entries c.args.file))))

pub returns-in-None-clause-kind : goal.returns-in-None-clause-kind
returns-in-None-clause-kind g c = rw (← c.self.view_is) (ap kind_of
    (ap (option_map content_in) c.in-None.ensures ∙ sym
    (get-seen content_in c.self.inside.contents.entries c.args.file)))

pub returns-in-None-clause-size : goal.returns-in-None-clause-size
returns-in-None-clause-size g c = rw (← c.self.view_is) (ap length (ap file_bytes
    (ap (option_map content_in) c.in-None.ensures ∙ sym
    (get-seen content_in c.self.inside.contents.entries c.args.file))))
