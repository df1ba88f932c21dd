use Rattle.std.proofs.Common.{[], ◌∷◌}
use Rattle.fw_call_names.specs.CallNames.{begun_of, names_of}
use Rattle.fw_call_names.specs.Naming.{no_line}
use Rattle.fw_call_names.proofs.Givens.{one_named}
use Rattle.fw_call_names.proofs.lines.NamedLinesLineSource.next_line.Goals as goal

pub returns-in-Ok-clause-given : goal.returns-in-Ok-clause-given
returns-in-Ok-clause-given g c = (
  c.next_line.new.line.items ∷ [],
  rw c.give.ensures.same.0 (rw c.in-Ok-true.field-0-test at c.in-Ok-true.ensures.given),
  one_named (names_of c.args.self.now.names.items) (begun_of c.args.self.now.begun) c.args.standing.next_call
      c.next_line.new.line.items c.give.new.line.items (names_of c.give.new.self.names.items)
      (begun_of c.give.new.self.begun) c.in-Ok.ensures.line c.in-Ok.ensures.names c.in-Ok.ensures.begun,
)

pub returns-in-Ok-false-clause-given : goal.returns-in-Ok-false-clause-given
returns-in-Ok-false-clause-given g c =
    let (gives, over) : g.S.LineSource.gives c.args.self.now.source c.next_line.new.self []
    × g.S.LineSource.is_over c.next_line.new.self =
    rw c.in-Ok-false.field-0-test at c.in-Ok-false.ensures.given in (([], gives, no_line), over)
