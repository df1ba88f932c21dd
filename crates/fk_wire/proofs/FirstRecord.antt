-- The first of some records, as they are written.
use Rattle.std.proofs.Common.{◌≡◌, ℕ, ◌+◌, List, [], ◌∷◌, ◌++◌, length, take, drop, sym, ap, subst, ◌∙◌, arith}
use Rattle.std.proofs.lemmas.List.{take_at, drop_at}
use Rattle.fk_wire.specs.Fields.{InRange, number_at, sizes, spellings}
use Rattle.fk_wire.specs.RecordEnds.{padded}
use Rattle.fk_wire.specs.Dirents.{DirentContent, dirent_fields, dirents}
use Rattle.fk_wire.proofs.Frames.{length-spellings, reads_back}
use Rattle.fk_wire.proofs.RecordLists.{dirents_are_named}
use Rattle.fk_wire.proofs.Spelled.{dirent_and}

module _ (d : DirentContent) (ds : List DirentContent) (bytes : List ℕ)
    (fits : InRange (dirents (d ∷ ds))) (is : bytes ≡ spellings (dirents (d ∷ ds))) where
  -- the length of its name stands behind two numbers
  pub name_len : number_at 16 4 bytes ≡ length d.name
  name_len = subst (λ (b : List ℕ). number_at 16 4 b ≡ length d.name) (sym is)
      (reads_back (dirents (d ∷ ds)) [] fits (dirents_are_named (d ∷ ds))).1.1.0

  pub parts : bytes ≡ spellings (dirent_fields d []) ++ spellings (dirents ds)
  parts = is ∙ dirent_and d (dirents ds)

  pub first_len : length (spellings (dirent_fields d [])) ≡ 24 + padded (length d.name)
  first_len = omega (arith, length-spellings (dirent_fields d []))

  pub whole_len : length bytes ≡ 24 + padded (length d.name) + sizes (dirents ds)
  whole_len = omega (arith, ap (λ (b : List ℕ). length b) is, length-spellings (dirents (d ∷ ds)))

  module _ (end : ℕ) (at : end ≡ 24 + padded (length d.name)) where
    pub first_bytes : take end bytes ≡ spellings (dirent_fields d [])
    first_bytes = ap (λ (b : List ℕ). take end b) parts
        ∙ take_at (spellings (dirent_fields d [])) (spellings (dirents ds)) end (first_len ∙ sym at)

    pub other_bytes : drop end bytes ≡ spellings (dirents ds)
    other_bytes = ap (λ (b : List ℕ). drop end b) parts
        ∙ drop_at (spellings (dirent_fields d [])) (spellings (dirents ds)) end (first_len ∙ sym at)
