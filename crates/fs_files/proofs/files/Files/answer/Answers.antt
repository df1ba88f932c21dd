use Rattle.std.proofs.Common.{sym, ap, ◌∙◌}
use Rattle.fs_files.specs.Values.{server_at, asked_of}
use Rattle.fs_files.proofs.Drawn.{handles_release}
use Rattle.fs_files.proofs.files.Files.answer.Goals as goal

pub returns-in-Release-clause-handles : goal.returns-in-Release-clause-handles
returns-in-Release-clause-handles g c =
    c.release.ensures.handles c.args.validity
    ∙ handles_release (server_at c.args.minor c.args.self.now c.args.validity) c.args.held.now
    (sym c.is_marked.ensures ∙ c.if-is_marked.false)
    (rw (← c.self.view_is, ← c.self-inside.view_is, ← c.named.ensures)
    (sym c.are_held.ensures ∙ c.if-not-are_held.false)) c.in-Release.opened
    (sym c.body.ensures ∙ ap asked_of c.in-Release.is)
