use Rattle.std.proofs.Common.{rules, ◌≡◌, ◌+◌, ◌<◌, ◌++◌, ◌∷◌, [], List, ℕ, Bor, length, map, refl, ap, sym, subst, arith, append_assoc, length-append, ◌∙◌}
use Rattle.std.specs.Prelude.{option_copied}
use Rattle.std.proofs.lemmas.List.{length-map, map-append}
use Rattle.fw_script.specs.Scripts.{IsPassedOver}
use Rattle.fuse_text.specs.Lines.{lines_left}
use Rattle.fw_script.proofs.Numbering.{line_number_fits}
use Rattle.order_law.specs.Moments.{Part}
use Rattle.fw_orders.specs.FileLines.{HaveParts, Make, beyond, no_more, no_part}
use Rattle.fw_orders.specs.Saying.{parts_of}
use Rattle.fw_orders.proofs.Good.{ends_reading, first_bad, more_lines, over_line}
use Rattle.fw_orders.specs.Reading.{ReadingEnds}
use Rattle.fw_orders.proofs.ReadLines.{is_not, is_so}
use Rattle.fw_orders.proofs.read.read_parts.Goals as goal

abbrev text_of : Bor (List ℕ) → List ℕ
text_of line = line.now

pub overflow_add-number : goal.overflow_add-number
overflow_add-number g c =
    let fits = line_number_fits c.args.text.now (map text_of c.loop-line.yielded)
    (lines_left (option_copied c.loop-line.line-iterator.rest))
    c.loop-line.invariant.split (omega (arith, c.well_formed.1.0.1)) in
    let same = length-map c.loop-line.yielded text_of in
    omega (arith, fits, same, c.loop-line.invariant.counted)

pub loop-line-init : goal.loop-line-init
loop-line-init g c =
    let none : c.new-parts.result.items ≡ [] = search rules in
    record {
      counted = search rules;
      split = search rules;
      have = record {
        said = [];
        say = no_more;
        few = omega arith;
        make = subst (λ (parts : List Part). Make [] parts) (sym (ap parts_of none)) no_part;
      };
      lines = refl;
    }

pub loop-line-preserved-then-is_passed_over : goal.loop-line-preserved-then-is_passed_over
loop-line-preserved-then-is_passed_over g c =
    let before = map text_of c.loop-line.yielded in
    let after = lines_left (option_copied c.next.new.self.rest) in
    let more = map-append text_of c.loop-line.yielded (c.in-Some.line ∷ []) in
    let size = length-append c.loop-line.yielded (c.in-Some.line ∷ []) in
    let over = is_so c.is_passed_over.result (IsPassedOver c.in-Some.line.now) c.is_passed_over.ensures
    c.if-is_passed_over.true in
    rw more (record {
      counted = omega (arith, size, c.loop-line.invariant.counted);
      split =
          c.loop-line.invariant.split
          ∙ ap (λ (rest : List (List ℕ)). before ++ rest) c.in-Some.ensures.steps
          ∙ sym (append_assoc before (c.in-Some.line.now ∷ []) after);
      have = over_line before (parts_of c.loop-line.parts.items) c.loop-line.invariant.have c.in-Some.line.now over;
      lines = c.loop-line.invariant.lines;
    })

pub loop-line-preserved : goal.loop-line-preserved
loop-line-preserved g c =
    let before = map text_of c.loop-line.yielded in
    let after = lines_left (option_copied c.next.new.self.rest) in
    let more = map-append text_of c.loop-line.yielded (c.in-Some.line ∷ []) in
    let size = length-append c.loop-line.yielded (c.in-Some.line ∷ []) in
    let have = c.loop-line.invariant.have in
    let few : length have.said < 256 = omega (arith, c.loop-line.invariant.lines, c.if-lines-ge-MAX_LINES.false) in
    let added = c.in-Ok.ensures.added have.said have.make in
    let said = length-append have.said (added.l ∷ []) in
    rw more (record {
      counted = omega (arith, size, c.loop-line.invariant.counted);
      split =
          c.loop-line.invariant.split
          ∙ ap (λ (rest : List (List ℕ)). before ++ rest) c.in-Some.ensures.steps
          ∙ sym (append_assoc before (c.in-Some.line.now ∷ []) after);
      have = more_lines before (parts_of c.loop-line.parts.items) have c.in-Some.line.now
          (parts_of c.add_line.new.parts.items) few added;
      lines = omega (arith, said, c.loop-line.invariant.lines);
    })

pub returns-then-lines-ge-MAX_LINES-clause-refused : goal.returns-then-lines-ge-MAX_LINES-clause-refused
returns-then-lines-ge-MAX_LINES-clause-refused g c =
    let before = map text_of c.loop-line.yielded in
    let same = length-map c.loop-line.yielded text_of in
    let have = c.loop-line.invariant.have in
    first_bad before (parts_of c.loop-line.parts.items) have c.in-Some.line.now _
    (lines_left (option_copied c.next.new.self.rest)) _ _
    (c.loop-line.invariant.split ∙ ap (λ (rest : List (List ℕ)). before ++ rest) c.in-Some.ensures.steps)
    (omega (arith, same, c.loop-line.invariant.counted))
    (is_not c.is_passed_over.result (IsPassedOver c.in-Some.line.now) c.is_passed_over.ensures c.if-is_passed_over.false)
    (beyond (omega (arith, have.few, c.loop-line.invariant.lines, c.if-lines-ge-MAX_LINES.true)))

pub returns-in-Err-clause-refused : goal.returns-in-Err-clause-refused
returns-in-Err-clause-refused g c =
    let before = map text_of c.loop-line.yielded in
    let same = length-map c.loop-line.yielded text_of in
    let have = c.loop-line.invariant.have in
    let few : length have.said < 256 = omega (arith, c.loop-line.invariant.lines, c.if-lines-ge-MAX_LINES.false) in
    subst (ReadingEnds c.args.text.now) (sym c.stop_at.ensures)
    (ends_reading c.args.text.now before (parts_of c.loop-line.parts.items) have c.in-Some.line.now
    (lines_left (option_copied c.next.new.self.rest)) (c.loop-line.number + 1) c.in-Err.why
    (c.loop-line.invariant.split ∙ ap (λ (rest : List (List ℕ)). before ++ rest) c.in-Some.ensures.steps)
    (omega (arith, same, c.loop-line.invariant.counted))
    (is_not c.is_passed_over.result (IsPassedOver c.in-Some.line.now) c.is_passed_over.ensures c.if-is_passed_over.false)
    few (c.in-Err.ensures.refused have.said have.make))
