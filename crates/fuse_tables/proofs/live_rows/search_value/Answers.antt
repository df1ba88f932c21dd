use Rattle.std.proofs.Common.{◌∙◌, rules, refl, ap, sym}
use Rattle.fuse_tables.proofs.Rows.{read_there}
use Rattle.fuse_tables.proofs.Live.{held, get_live}
use Rattle.fuse_tables.proofs.live_rows.search_value.Goals as goal

pub returns-in_default : goal.returns-in_default
returns-in_default g c = sym (get_live c.args.rows.now.items c.args.key c.requires ∙ ap held c.in_default.ensures)

pub returns : goal.returns
returns g c =
    let rows = c.args.rows.now.items in
    let row = read_there rows rows c.args.key c.in-Some.place c.index-row.result.now c.requires refl c.in-Some.ensures
    c.index-row.ensures in
    let value = ap held row ∙ sym (get_live rows c.args.key c.requires) in
    search (rules, value)
