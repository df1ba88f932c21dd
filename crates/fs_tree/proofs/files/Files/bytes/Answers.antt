use Rattle.std.proofs.Common.{sym, ap, ◌∙◌}
use Rattle.fuse_spec.specs.Files.Trees.{file_bytes}
use Rattle.fs_tree.specs.Views.{content_in}
use Rattle.fs_tree.proofs.FileRows.{get-seen}
use Rattle.std.specs.Option.{option_map}
use Rattle.fs_tree.proofs.files.Files.bytes.Goals as goal

pub returns-in-Some : goal.returns-in-Some
returns-in-Some g c = rw (← c.self.view_is) (c.bytes.ensures ∙ ap file_bytes
    (ap (option_map content_in) c.in-Some.ensures ∙ sym
    (get-seen content_in c.self.inside.contents.entries c.args.file)))

pub returns-in-None : goal.returns-in-None
returns-in-None g c = rw (← c.self.view_is) (ap file_bytes
    (ap (option_map content_in) c.in-None.ensures ∙ sym
    (get-seen content_in c.self.inside.contents.entries c.args.file)))
