use Rattle.std.proofs.Common.{ℕ, Option, sym, ap, subst, ◌∙◌}
use Rattle.fuse_spec.specs.Files.TreeShape.{IsShaped}
use Rattle.fs_files.specs.Bounds.{AreKnown, AreNamedBut}
use Rattle.fs_files.specs.Performing.{handles_said, unlinked_or_released, tree_said}
use Rattle.fs_files.specs.Values.{FilesState, server_at}
use Rattle.fs_files.proofs.StaysNamed.{named_said}
use Rattle.fs_files.proofs.files.Files.unlinked_or_released.Goals as goal

pub returns-clause-others : goal.returns-clause-others
returns-clause-others g c v m named =
    let files = c.args.self.now in
    let held = c.args.held.now in
    let known = subst (λ (f : FilesState). AreKnown f.tree f.nodes f.handles) c.self.view_is c.self.invariant in
    let shaped = subst (λ (f : FilesState). IsShaped f.tree) c.self.view_is c.lemma_shaped.ensures in
    subst (λ (o : Option ℕ). AreNamedBut o (tree_said (server_at m files v) held) files.nodes
    (handles_said (server_at m files v) held)) (sym (c.unlinked_or_released_by.ensures v m ∙ ap
    (unlinked_or_released (server_at m files v)) c.body.ensures)) (named_said files v m known shaped named held)
