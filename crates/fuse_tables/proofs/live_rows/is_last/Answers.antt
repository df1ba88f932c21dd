use Rattle.std.proofs.Common.{◌∙◌, refl, ap, arith}
use Rattle.std.proofs.lemmas.Bool.Decides.{nat_tests}
use Rattle.fuse_tables.proofs.Rows.{row_at, row_is, tied}
use Rattle.fuse_tables.proofs.live_rows.is_last.Goals as goal

pub returns-in-Some : goal.returns-in-Some
returns-in-Some g c =
    let rows = c.args.rows.now.items in
    let row = c.in-Some.row.now in
    let some = c.in-Some.ensures.variant.0 refl in (
      λ same. row_at rows c.args.key _ row c.requires (omega (arith, some)) c.in-Some.ensures.lookup
          (grind (arith, nat_tests)),
      λ there. tied row.0 c.args.key (ap (λ x. x.0) (row_is rows c.args.key _ row there c.in-Some.ensures.lookup)
          ∙ there.same),
    )
