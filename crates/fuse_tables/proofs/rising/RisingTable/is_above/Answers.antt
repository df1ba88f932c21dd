use Rattle.std.proofs.Common.{◌≡◌, ◌∙◌, None, [], refl, sym, ap}
use Rattle.std.proofs.lemmas.List.{nil_from_length}
use Rattle.fuse_spec.specs.Values.Maps.{get}
use Rattle.fuse_tables.specs.LiveRows.{live}
use Rattle.fuse_tables.specs.LateValues.{entries_of}
use Rattle.fuse_tables.proofs.Rows.{none_past}
use Rattle.fuse_tables.proofs.Live.{held, get_live}
use Rattle.fuse_tables.proofs.rising.RisingTable.is_above.Goals as goal

pub returns-then-is_empty : goal.returns-then-is_empty
returns-then-is_empty g c = λ above.
    let rows = c.self.inside.rows.items in
    let late = c.self.inside.late.entries in
    let sorted = c.self.invariant.kept.sorted in
    let none_late : late ≡ [] = nil_from_length late (c.is_empty.ensures.0 c.if-is_empty.true) in
    let none : get (live rows) c.args.key ≡ None = get_live rows c.args.key sorted
    ∙ ap held (none_past rows c.args.key _ sorted (sym (c.is_above.ensures above)) refl) in
    rw (← c.self.view_is) (ap (λ l. get (entries_of rows l) c.args.key) none_late ∙ none)
