use Rattle.std.proofs.Common.{◌≡◌, true, false, sym, ◌∙◌}
use Rattle.std.specs.Prelude.{Some}
use Rattle.std.specs.Ordering.{eq_by_cmp}
use Rattle.fuse_spec.specs.Values.Maps.{place_cmp}
use Rattle.fuse_spec.proofs.Tables.{name_put}
use Rattle.fk_syscalls.specs.NewNames.{new_place_of}
use Rattle.fk_syscalls.proofs.new_name.NewName.find.Goals as goal

pub returns-then-is_of : goal.returns-then-is_of
returns-then-is_of g c =
    let new = c.args.self.now in
    let tie : eq_by_cmp place_cmp (c.args.directory, c.args.name.now) (new_place_of new) ≡ true =
    sym c.is_of.ensures ∙ c.if-is_of.true in
    rw (
      name_put c.args.names.now.names (new_place_of new) (record { target = Some new.node; until = new.until })
          (c.args.directory, c.args.name.now),
      tie,
    ) c.at.ensures

pub returns : goal.returns
returns g c =
    let new = c.args.self.now in
    let tie : eq_by_cmp place_cmp (c.args.directory, c.args.name.now) (new_place_of new) ≡ false =
    sym c.is_of.ensures ∙ c.if-is_of.false in
    rw (
      name_put c.args.names.now.names (new_place_of new) (record { target = Some new.node; until = new.until })
          (c.args.directory, c.args.name.now),
      tie,
    ) c.find.ensures
