-- Lines of vectors, one after another.
use Rattle.std.proofs.Common.{◌≡◌, ◌++◌, ◌∷◌, refl, ℕ, List, [], Option, sym, ◌∙◌, append-nil, ap}
use Rattle.std.specs.Prelude.{flat_map}
use Rattle.std.specs.Io.KnownBytes.{Appends, Keeps}
use Rattle.std.proofs.lemmas.Grind.{flat_map-append}
use Rattle.std.proofs.KnownBytes.{Appends-trans, Appends-nil, Appends-kept}
use Rattle.fw_vectors.specs.Vectors.{AreVectorLines, IsVectorLine, PrintsVectors}

AreVectorLines-more : (lines : List (List ℕ)) (line : List ℕ) → AreVectorLines lines → IsVectorLine line
    → AreVectorLines (lines ++ (line ∷ []))
AreVectorLines-more [] line h is = (is, tt)
AreVectorLines-more (first ∷ rest) line h is = (h.0, AreVectorLines-more rest line h.1 is)

-- no line
pub prints_none : (now : Option (List ℕ)) → PrintsVectors now now
prints_none now = ([], tt, Appends-nil now)

-- a line more
pub prints_more : (old mid new : Option (List ℕ)) (line : List ℕ) → PrintsVectors old mid → IsVectorLine line
    → Appends mid new line → PrintsVectors old new
prints_more old mid new line h is wrote =
    let text = λ (l : List ℕ). l in
    let whole : Appends old new (flat_map text h.0 ++ line) =
    Appends-trans old mid new (flat_map text h.0) line h.2 wrote in
    let last : flat_map text (line ∷ []) ≡ line = append-nil line in
    let same : flat_map text (h.0 ++ (line ∷ [])) ≡ flat_map text h.0 ++ line =
    flat_map-append text h.0 (line ∷ []) ∙ ap (λ l. flat_map text h.0 ++ l) last in
    (h.0 ++ (line ∷ []), AreVectorLines-more h.0 line h.1 is, rw same whole)

-- a flush after them
pub prints_kept : (old mid new : Option (List ℕ)) → PrintsVectors old mid → Keeps mid new → PrintsVectors old new
prints_kept old mid new h keeps = (h.0, h.1, Appends-kept old mid new (flat_map (λ l. l) h.0) h.2 keeps)
