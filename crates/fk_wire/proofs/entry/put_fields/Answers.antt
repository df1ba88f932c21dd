use Rattle.std.proofs.Common.{refl}
use Rattle.fk_wire.specs.Fields.{bytes_of}
use Rattle.fk_wire.proofs.entry.put_fields.Goals as goal

pub returns-clause-items : goal.returns-clause-items
unfolding bytes_of
returns-clause-items g c =
    rw (
      c.put_bytes.ensures.items,
      c.write_u32-3.ensures,
      c.write_u32-2.ensures,
      c.write_u32.ensures,
      c.write_u64-2.ensures,
      c.write_u64.ensures,
    )
    refl
