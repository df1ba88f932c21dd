use Rattle.std.proofs.Common.{sym, ap, ◌∙◌}
use Rattle.fuse_spec.specs.Files.Trees.{kind_of}
use Rattle.fs_tree.specs.Views.{content_in}
use Rattle.fs_tree.proofs.FileRows.{get-seen}
use Rattle.std.specs.Option.{option_map}
use Rattle.fs_tree.proofs.files.Files.kind.Goals as goal

pub returns-in-Some : goal.returns-in-Some
returns-in-Some g c = rw (← c.self.view_is) (c.kind.ensures ∙ ap kind_of
    (ap (option_map content_in) c.in-Some.ensures ∙ sym
    (get-seen content_in c.self.inside.contents.entries c.args.file)))

pub returns-in-None : goal.returns-in-None
returns-in-None g c = rw (← c.self.view_is) (ap kind_of
    (ap (option_map content_in) c.in-None.ensures ∙ sym
    (get-seen content_in c.self.inside.contents.entries c.args.file)))
