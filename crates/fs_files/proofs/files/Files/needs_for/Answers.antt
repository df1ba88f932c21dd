use Rattle.std.proofs.Common.{refl, sym, ap, ◌∙◌}
use Rattle.fuse_spec.specs.Kernel.Messages.{asks}
use Rattle.fs_files.specs.Values.{server_at, asked_of, held_operation_of}
use Rattle.fs_files.proofs.Drawn.{body_allocates, none_allocated}
use Rattle.fs_files.proofs.files.Files.needs_for.Goals as goal

pub returns-in-Asks : goal.returns-in-Asks
returns-in-Asks g c v m =
    body_allocates (server_at m c.args.self.now v) c.args.held.now (sym c.is_marked.ensures ∙ c.if-is_marked.false)
    (rw (← c.self.view_is, ← c.self-inside.view_is, ← c.named.ensures)
    (sym c.are_held.ensures ∙ c.if-not-are_held.false)) (asks (held_operation_of c.in-Asks.operation))
    (sym c.body.ensures ∙ ap asked_of c.in-Asks.is)
    c.needs_asked.result (c.needs_asked.ensures v m)

pub returns-in-Init : goal.returns-in-Init
returns-in-Init g c v m =
    body_allocates (server_at m c.args.self.now v) c.args.held.now (sym c.is_marked.ensures ∙ c.if-is_marked.false)
    (rw (← c.self.view_is, ← c.self-inside.view_is, ← c.named.ensures)
    (sym c.are_held.ensures ∙ c.if-not-are_held.false)) (asked_of c.body.result.now) (sym c.body.ensures)
    c.no_numbers-in-Init.result
    (rw c.in-Init.is (none_allocated c.args.self.now.tree _ c.no_numbers-in-Init.result refl refl c.no_numbers-in-Init.ensures))
