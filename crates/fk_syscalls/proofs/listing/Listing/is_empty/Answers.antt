use Rattle.std.proofs.Common.{◌≡◌, ◌∙◌, ap, sym, length, arith}
use Rattle.std.proofs.lemmas.List.{nil_from_length}
use Rattle.std.proofs.lemmas.Bool.Decides.{nat_tests}
use Rattle.fk_syscalls.proofs.RowsLemmas.{length-dirents_of}
use Rattle.fk_syscalls.proofs.listing.Listing.is_empty.Goals as goal

pub returns : goal.returns
returns g c =
    let same : length c.args.self.now ≡ length c.self.inside.rows.items = ap length (sym c.self.view_is) ∙ length-dirents_of c.self.inside.rows.items c.self.inside.bytes.items in (
      λ h. nil_from_length c.args.self.now (grind (arith, nat_tests)),
      λ h. let none : length c.args.self.now ≡ 0 = ap length h in grind (arith, nat_tests),
    )
