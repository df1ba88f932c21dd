use Rattle.std.proofs.Common.{[], ap, ◌∙◌, slice_get, map}
use Rattle.std.specs.Option.{unwrap_or, option_map}
use Rattle.fs_tree.specs.Stored.{parents_in}
use Rattle.fs_tree.specs.Views.{named_of}
use Rattle.fs_tree.proofs.ByFile.{parent-in}
use Rattle.fs_tree.proofs.rows.Rows.parent_of.Goals as goal

pub returns-in-Some : goal.returns-in-Some
returns-in-Some g c =
    let there = ap (λ o. option_map (λ e. e.1) (slice_get (unwrap_or o []) 0)) c.in-Some.ensures.value in
    rw (← c.self.view_is) (c.first.ensures ∙ there ∙ parent-in (parents_in c.self.inside.parents.entries)
    (map named_of c.self.inside.names.entries) c.self.invariant c.args.file)

pub returns-in-None : goal.returns-in-None
returns-in-None g c =
    let there = ap (λ o. option_map (λ e. e.1) (slice_get (unwrap_or o []) 0)) c.in-None.ensures.value in
    rw (← c.self.view_is) (there ∙ parent-in (parents_in c.self.inside.parents.entries)
    (map named_of c.self.inside.names.entries) c.self.invariant c.args.file)
