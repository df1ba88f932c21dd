use Rattle.std.proofs.Common.{ap, ◌∙◌, map, nat_eq, refl, not}
use Rattle.fs_tree.specs.Views.{viewed_file}
use Rattle.fs_tree.proofs.ListLemmas.{filter-map}
use Rattle.fs_tree.proofs.files.Files.remove.Goals as goal

pub returns : goal.returns
returns g c = rw (← c.self.view_is) (ap (map viewed_file) c.remove-content.ensures.entries
    ∙ filter-map viewed_file _ (λ e. not (nat_eq e.0 c.args.file)) (λ e. refl) c.self.inside.contents.entries)
