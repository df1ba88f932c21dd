use Rattle.std.proofs.Common.{[], ap, ◌∙◌, length, map}
use Rattle.std.specs.Option.{unwrap_or}
use Rattle.fs_tree.specs.Stored.{parents_in}
use Rattle.fs_tree.specs.Views.{named_of}
use Rattle.fs_tree.proofs.ByFile.{count-in}
use Rattle.fs_tree.proofs.rows.Rows.count_of.Goals as goal

pub returns-in-Some : goal.returns-in-Some
returns-in-Some g c =
    let there = ap (λ o. length (unwrap_or o [])) c.in-Some.ensures.value in
    rw (← c.self.view_is) (c.len.ensures ∙ there ∙ count-in (parents_in c.self.inside.parents.entries)
    (map named_of c.self.inside.names.entries) c.self.invariant c.args.file)

pub returns-in-None : goal.returns-in-None
returns-in-None g c =
    let there = ap (λ o. length (unwrap_or o [])) c.in-None.ensures.value in
    rw (← c.self.view_is) (there ∙ count-in (parents_in c.self.inside.parents.entries)
    (map named_of c.self.inside.names.entries) c.self.invariant c.args.file)
