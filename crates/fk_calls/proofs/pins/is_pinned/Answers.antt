use Rattle.std.proofs.Common.{refl}
use Rattle.fk_calls.proofs.pins.is_pinned.Goals as goal

pub returns-then-is_named : goal.returns-then-is_named
returns-then-is_named g c = rw (← c.rows.ensures, ← c.is_named.ensures, c.if-is_named.true) refl

pub returns-then-is_open : goal.returns-then-is_open
returns-then-is_open g c = rw (← c.rows.ensures, ← c.is_named.ensures, c.if-is_named.false, ← c.is_open.ensures, c.if-is_open.true) refl

pub returns : goal.returns
returns g c = rw (
  ← c.rows.ensures,
  ← c.is_named.ensures,
  c.if-is_named.false,
  ← c.is_open.ensures,
  c.if-is_open.false,
) refl
