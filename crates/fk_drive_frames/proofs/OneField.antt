-- Frames that differ in one field read alike elsewhere.
use Rattle.std.proofs.Common.{◌≡◌, ℕ, ◌+◌, ◌-◌, ◌≤◌, List, [], ◌∷◌, ◌++◌, length, take, drop, sym, ap, subst, ◌∙◌, arith, drop-drop}
use Rattle.std.proofs.lemmas.List.{take-take, drop-take}
use Rattle.byteorder.specs.Endian.{little_from}
use Rattle.byteorder.specs.Numbers.{little_from-take}
use Rattle.fk_wire.specs.Fields.{Field, ReadsAs, bits, bytes_at, free, holds, named, number_at, raw, sizes}
use Rattle.fk_drive_frames.specs.Filling.{ChangesOnly}

module _ (place width : ℕ) (old new : List ℕ) (only : ChangesOnly place width old new) where
  -- bytes before the field
  part_before : (p k : ℕ) → p + k ≤ place → take k (drop p new) ≡ take k (drop p old)
  part_before p k within =
      sym (drop-take p k new) ∙ ap (λ (l : List ℕ). drop p l) (sym (take-take (p + k) place new within)
      ∙ ap (take (p + k)) only.before ∙ take-take (p + k) place old within) ∙ drop-take p k old

  -- bytes behind it
  rest_after : (p : ℕ) → place + width ≤ p → drop p new ≡ drop p old
  rest_after p beyond =
      let back : (place + width) + (p - (place + width)) ≡ p = omega (arith, beyond) in
      ap (λ (n : ℕ). drop n new) (sym back) ∙ sym (drop-drop (p - (place + width)) (place + width) new)
      ∙ ap (drop (p - (place + width))) only.after ∙ drop-drop (p - (place + width)) (place + width) old
      ∙ ap (λ (n : ℕ). drop n old) back

  number_before : (p w : ℕ) → p + w ≤ place → number_at p w new ≡ number_at p w old
  unfolding number_at
  number_before p w within =
      let h : 0 + w ≤ w = omega arith in
      sym (little_from-take 0 w w (drop p new) h) ∙ ap (little_from 0 w) (part_before p w within)
      ∙ little_from-take 0 w w (drop p old) h

  number_after : (p w : ℕ) → place + width ≤ p → number_at p w new ≡ number_at p w old
  unfolding number_at
  number_after p w beyond = ap (little_from 0 w) (rest_after p beyond)

  bytes_before : (p k : ℕ) → p + k ≤ place → bytes_at p k new ≡ bytes_at p k old
  unfolding bytes_at
  bytes_before p k within = part_before p k within

  bytes_after : (p k : ℕ) → place + width ≤ p → bytes_at p k new ≡ bytes_at p k old
  unfolding bytes_at
  bytes_after p k beyond = ap (take k) (rest_after p beyond)

  -- fields behind it
  pub reads_after : (fields : List Field) (p : ℕ) → place + width ≤ p → ReadsAs p fields old → ReadsAs p fields new
  reads_after [] p beyond reads = only.long ∙ reads
  reads_after (holds w value ∷ fields) p beyond (is, reads) =
      (number_after p w beyond ∙ is, reads_after fields (p + w) (omega (arith, beyond)) reads)
  reads_after (free w value ∷ fields) p beyond reads = reads_after fields (p + w) (omega (arith, beyond)) reads
  reads_after (bits mask value ∷ fields) p beyond (is, reads) =
      (rw (number_after p 4 beyond) is, reads_after fields (p + 4) (omega (arith, beyond)) reads)
  reads_after (named name ∷ fields) p beyond (name_is, stands, reads) = (
    name_is,
    bytes_after p (length name + 1) beyond ∙ stands,
    reads_after fields (p + (length name + 1)) (omega (arith, beyond)) reads,
  )
  reads_after (raw bytes ∷ fields) p beyond (stands, reads) =
      (bytes_after p (length bytes) beyond ∙ stands, reads_after fields (p + length bytes) (omega (arith, beyond)) reads)

  -- fields before it, and then what is at it
  pub reads_around : (fields rest : List Field) (p q : ℕ) → p + sizes fields ≡ q → q ≤ place
      → (ReadsAs q rest old → ReadsAs q rest new) → ReadsAs p (fields ++ rest) old → ReadsAs p (fields ++ rest) new
  reads_around [] rest p q at within follows reads =
      let same : p ≡ q = omega (arith, at) in
      subst (λ (n : ℕ). ReadsAs n rest new) (sym same) (follows (subst (λ (n : ℕ). ReadsAs n rest old) same reads))
  reads_around (holds w value ∷ fields) rest p q at within follows (is, reads) = (
    number_before p w (omega (arith, at, within)) ∙ is,
    reads_around fields rest (p + w) q (omega (arith, at)) within follows reads,
  )
  reads_around (free w value ∷ fields) rest p q at within follows reads =
      reads_around fields rest (p + w) q (omega (arith, at)) within follows reads
  reads_around (bits mask value ∷ fields) rest p q at within follows (is, reads) = (
    rw (number_before p 4 (omega (arith, at, within))) is,
    reads_around fields rest (p + 4) q (omega (arith, at)) within follows reads,
  )
  reads_around (named name ∷ fields) rest p q at within follows (name_is, stands, reads) = (
    name_is,
    bytes_before p (length name + 1) (omega (arith, at, within)) ∙ stands,
    reads_around fields rest (p + (length name + 1)) q (omega (arith, at)) within follows reads,
  )
  reads_around (raw bytes ∷ fields) rest p q at within follows (stands, reads) = (
    bytes_before p (length bytes) (omega (arith, at, within)) ∙ stands,
    reads_around fields rest (p + length bytes) q (omega (arith, at)) within follows reads,
  )
