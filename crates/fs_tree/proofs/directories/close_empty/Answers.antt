use Rattle.std.proofs.Common.{rules, ap, ◌∙◌}
use Rattle.indexmap.proofs.CallerLemmas.{filter-RetainsPairs}
use Rattle.fs_tree.specs.Stored.{entries_in}
use Rattle.fs_tree.proofs.OpenDirectories.{has_names, entries_in-filter}
use Rattle.fs_tree.proofs.directories.close_empty.Goals as goal

pub returns : goal.returns
returns g c = λ k.
    let kept = filter-RetainsPairs _ has_names _ (λ key v b w f call. search rules) _ _ c.retain.ensures.filtered in
    ap (λ rows. entries_in rows k) kept ∙ entries_in-filter c.args.directories.now.entries k c.len-len.ensures.unique
