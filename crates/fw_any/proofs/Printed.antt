-- Lines of vectors, one after another.
use Rattle.std.proofs.Common.{◌≡◌, ◌++◌, ◌∷◌, ℕ, List, [], Option, ◌∙◌, append-nil, ap}
use Rattle.std.specs.Prelude.{flat_map}
use Rattle.std.specs.Io.KnownBytes.{Appends, Keeps}
use Rattle.std.proofs.lemmas.Grind.{flat_map-append}
use Rattle.std.proofs.lemmas.List.Elements.{All-append, All-cons, All-nil}
use Rattle.std.proofs.KnownBytes.{Appends-trans, Appends-nil, Appends-kept}
use Rattle.fw_any.specs.Samples.{IsSampleLine, PrintsSamples}

-- no line
pub prints_none : (now : Option (List ℕ)) → PrintsSamples now now
prints_none now = ([], All-nil IsSampleLine, Appends-nil now)

-- a line more
pub prints_more : (old mid new : Option (List ℕ)) (line : List ℕ) → PrintsSamples old mid → IsSampleLine line
    → Appends mid new line → PrintsSamples old new
prints_more old mid new line h is wrote =
    let text = λ (l : List ℕ). l in
    let whole : Appends old new (flat_map text h.0 ++ line) =
    Appends-trans old mid new (flat_map text h.0) line h.2 wrote in
    let last : flat_map text (line ∷ []) ≡ line = append-nil line in
    let same : flat_map text (h.0 ++ (line ∷ [])) ≡ flat_map text h.0 ++ line =
    flat_map-append text h.0 (line ∷ []) ∙ ap (λ l. flat_map text h.0 ++ l) last in (
      h.0 ++ (line ∷ []),
      All-append IsSampleLine h.0 (line ∷ []) h.1 (All-cons IsSampleLine line [] is (All-nil IsSampleLine)),
      rw same whole,
    )

-- a flush after them
pub prints_kept : (old mid new : Option (List ℕ)) → PrintsSamples old mid → Keeps mid new → PrintsSamples old new
prints_kept old mid new h keeps = (h.0, h.1, Appends-kept old mid new (flat_map (λ l. l) h.0) h.2 keeps)
