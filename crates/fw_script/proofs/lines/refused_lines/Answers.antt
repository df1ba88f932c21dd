use Rattle.std.proofs.Common.{inl, inr, refl, ◌++◌, ◌∷◌, [], List, ℕ, Bor, map, ap, sym, arith, append_assoc, length-append, ◌∙◌}
use Rattle.std.specs.Prelude.{option_copied}
use Rattle.std.proofs.lemmas.List.{length-map, map-append}
use Rattle.std.proofs.lemmas.List.Elements.{All-push}
use Rattle.fw_script.specs.Scripts.{IsGoodLine}
use Rattle.fuse_text.specs.Lines.{lines_left}
use Rattle.fw_script.proofs.Numbering.{line_number_fits}
use Rattle.fw_script.proofs.lines.refused_lines.Goals as goal

abbrev text_of : Bor (List ℕ) → List ℕ
text_of line = line.now

pub overflow_add-number : goal.overflow_add-number
overflow_add-number c =
    let fits = line_number_fits c.args.script.now (map text_of c.loop-line.yielded)
    (lines_left (option_copied c.loop-line.line-iterator.rest))
    c.loop-line.invariant.split (omega (arith, c.well_formed.0.1)) in
    let same = length-map c.loop-line.yielded text_of in
    omega (arith, fits, same, c.loop-line.invariant.counted)

pub loop-line-preserved-then-is_passed_over : goal.loop-line-preserved-then-is_passed_over
loop-line-preserved-then-is_passed_over c =
    let before = map text_of c.loop-line.yielded in
    let after = lines_left (option_copied c.next.new.self.rest) in
    let more = map-append text_of c.loop-line.yielded (c.in-Some.line ∷ []) in
    let size = length-append c.loop-line.yielded (c.in-Some.line ∷ []) in
    record {
      counted = omega (arith, size, c.loop-line.invariant.counted);
      split =
          c.loop-line.invariant.split
          ∙ ap (λ (rest : List (List ℕ)). before ++ rest) c.in-Some.ensures.steps
          ∙ sym (append_assoc before (c.in-Some.line.now ∷ []) after)
          ∙ ap (λ (lines : List (List ℕ)). lines ++ after) (sym more);
      good = rw more (All-push IsGoodLine before c.in-Some.line.now c.loop-line.invariant.good
          (inl (c.if-is_passed_over.ensures.0 refl)));
    }

pub loop-line-preserved : goal.loop-line-preserved
loop-line-preserved c =
    let before = map text_of c.loop-line.yielded in
    let after = lines_left (option_copied c.next.new.self.rest) in
    let more = map-append text_of c.loop-line.yielded (c.in-Some.line ∷ []) in
    let size = length-append c.loop-line.yielded (c.in-Some.line ∷ []) in
    record {
      counted = omega (arith, size, c.loop-line.invariant.counted);
      split =
          c.loop-line.invariant.split
          ∙ ap (λ (rest : List (List ℕ)). before ++ rest) c.in-Some.ensures.steps
          ∙ sym (append_assoc before (c.in-Some.line.now ∷ []) after)
          ∙ ap (λ (lines : List (List ℕ)). lines ++ after) (sym more);
      good = rw more (All-push IsGoodLine before c.in-Some.line.now c.loop-line.invariant.good
          (inr (c.in_default.field-0, c.in_default.ensures)));
    }
