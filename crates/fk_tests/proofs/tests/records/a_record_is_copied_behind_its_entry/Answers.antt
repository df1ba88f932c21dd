use Rattle.std.proofs.Common.{◌∙◌, ◌∷◌, []}
use Rattle.fk_wire.specs.Dirents.{DirentContent}
use Rattle.fk_tests.proofs.tests.records.a_record_is_copied_behind_its_entry.Goals as goal

abbrev laid_out : DirentContent
laid_out = record { ino = 9; off = 2; kind = 4; name = 97 ∷ 98 ∷ 99 ∷ 100 ∷ 101 ∷ 102 ∷ 103 ∷ 104 ∷ 105 ∷ [] }

pub split_record-requires : goal.split_record-requires
split_record-requires g c = let one = c.in-Ok.ensures in
    (laid_out, [], one.named, one.fits, c.deref.ensures.value ∙ one.items)
