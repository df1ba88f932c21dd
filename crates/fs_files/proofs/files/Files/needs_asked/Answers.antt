use Rattle.std.proofs.Common.{sym, ◌∙◌}
use Rattle.fs_files.specs.Values.{server_at, held_operation_of}
use Rattle.fs_files.proofs.Drawn.{closed_allocates, open_allocates}
use Rattle.fs_files.proofs.files.Files.needs_asked.Goals as goal

pub returns-then-not-is_open_for : goal.returns-then-not-is_open_for
returns-then-not-is_open_for g c v m = closed_allocates (server_at m c.args.self.now v)
    (held_operation_of c.args.operation.now) c.no_numbers.result
    (sym (c.is_open_for.ensures v) ∙ c.if-not-is_open_for.true) c.no_numbers.ensures

pub returns : goal.returns
returns g c v m = open_allocates (server_at m c.args.self.now v) (held_operation_of c.args.operation.now) c.needs_of.result
    (sym (c.is_open_for.ensures v) ∙ c.if-not-is_open_for.false)
    (rw (← c.self.view_is, ← c.self-inside.view_is) (c.needs_of.ensures v))
