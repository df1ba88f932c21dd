use Rattle.std.proofs.Common.{Option, Some, sym, ◌∙◌, ap, is_some}
use Rattle.fuse_spec.specs.declared.Dentry.{Dentry}
use Rattle.fuse_spec.specs.Values.Maps.{Place, put_name}
use Rattle.fk_dentry.specs.Keys.{sought}
use Rattle.fk_dentry.specs.Rows.{slots_of}
use Rattle.fk_dentry.proofs.KeyedRows.{found_by_key, keeps_by_key, slots-put, under_key}
use Rattle.fk_dentry.proofs.rows.bind.Goals as goal

pub returns-in_err-slot-clause-stood : goal.returns-in_err-slot-clause-stood
returns-in_err-slot-clause-stood g c =
    let key : Place = (c.args.directory, c.args.name.now) in
    c.from_residual.ensures ∙ c.in_err-slot.ensures.value
    ∙ found_by_key c.args.rows.now.entries key (sought c.of.result) c.of.ensures

pub returns-clause-stood : goal.returns-clause-stood
returns-clause-stood g c =
    let key : Place = (c.args.directory, c.args.name.now) in
    ap (λ d. Some d) c.replace.ensures.value ∙ c.in_ok-slot.ensures.value
    ∙ found_by_key c.args.rows.now.entries key (sought c.of.result) c.of.ensures

pub returns-clause-slots : goal.returns-clause-slots
returns-clause-slots g c = λ _.
    let key : Place = (c.args.directory, c.args.name.now) in
    let wrote = c.get_mut.follows.holds _ in
    let updates = wrote.3 (ap is_some (sym c.in_ok-slot.ensures.value)) in
    slots-put c.args.rows.now.entries _ key c.replace.new.self
    (under_key _ key (sought c.of.result) c.of.ensures _ updates.1)
    (keeps_by_key key (sought c.of.result) c.of.ensures c.args.rows.now.entries _ updates.3) ∙ ap
    (λ (slot : Option Dentry). put_name (slots_of c.args.rows.now.entries) key slot) c.replace.ensures.after
