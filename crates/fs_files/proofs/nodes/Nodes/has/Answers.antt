use Rattle.std.proofs.Common.{sym, subst, ◌∙◌}
use Rattle.fuse_spec.specs.Server.Nodes.{IsUnheld}
use Rattle.fs_files.specs.Values.{HeldNodes}
use Rattle.fs_nodes.proofs.Callers.{has_no}
use Rattle.fs_files.proofs.NodeLemmas.{has_some}
use Rattle.fs_files.proofs.nodes.Nodes.has.Goals as goal

pub returns-clause-none : goal.returns-clause-none
returns-clause-none g c = λ none. rw (← c.self.view_is)
    (λ id row is. has_no (g.S.NodeStore.table c.self.inside.store).rows c.args.file id row
    (sym c.has.ensures ∙ none) is)

pub returns-clause-some : goal.returns-clause-some
returns-clause-some g c = λ some unheld. has_some
    (g.S.NodeStore.table c.self.inside.store) c.args.file c.lemma_sound.ensures.sorted (sym some ∙ c.has.ensures)
    (subst (λ (v : HeldNodes). IsUnheld v.table c.args.file) (sym c.self.view_is) unheld)
