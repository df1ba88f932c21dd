use Rattle.std.proofs.Common.{◌∙◌, ◌∷◌, [], ℕ, List, refl, subst, sym}
use Rattle.fk_wire.specs.Dirents.{DirentContent, dirents}
use Rattle.fk_wire.specs.Fields.{ReadsAs}
use Rattle.fk_wire.proofs.Frames.{reads_back}
use Rattle.fk_wire.proofs.RecordLists.{dirents_are_named}
use Rattle.fk_tests.proofs.tests.records.records_that_are_known_are_read_without_a_check.Goals as goal

abbrev laid_out : DirentContent
laid_out = record { ino = 9; off = 2; kind = 4; name = 97 ∷ 98 ∷ 99 ∷ 100 ∷ 101 ∷ 102 ∷ 103 ∷ 104 ∷ 105 ∷ [] }

pub over_known-records-requires : goal.over_known-records-requires
over_known-records-requires g c =
    let one = c.in-Ok.ensures in
    let reads = reads_back (dirents (laid_out ∷ [])) [] one.fits (dirents_are_named (laid_out ∷ [])) in
    let is = c.deref.ensures.value ∙ one.items in (
      laid_out ∷ [],
      ((one.named, tt), subst (λ (bytes : List ℕ). ReadsAs 0 (dirents (laid_out ∷ [])) bytes) (sym is) reads),
      refl,
    )
