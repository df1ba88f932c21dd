use Rattle.std.proofs.Common.{rules, refl, ◌≡◌, ◌++◌, ◌∷◌, [], List, ℕ, Some, Option, Bor, arith, ap, sym, subst}
use Rattle.std.specs.Prelude.{decimal, length, option_copied}
use Rattle.fuse_text.specs.Lines.{lines_left}
use Rattle.fw_script.specs.NumberLines.{number_start}
use Rattle.fw_script.specs.declared.line.Line.{Line}
use Rattle.fw_script.proofs.Numbering.{line_number_fits}
use Rattle.fw_script.proofs.ReadSoFar.{ReadSoFar, read_all, read_more, read_none, read_over}
use Rattle.fw_script.proofs.lines.read_lines.Goals as goal

pub lines-init : goal.lines-init
lines-init g c =
    subst (λ (said : List Line). ReadSoFar c.args.script.now (Some c.args.script.now) 0 said)
    (sym c.new-lines.ensures.items) (read_none c.args.script.now)

pub overflow_add-number : goal.overflow_add-number
overflow_add-number g c =
    let read = c.lines.invariant in
    let fits = line_number_fits c.args.script.now read.before (lines_left (option_copied c.lines.rest))
    read.split (omega (arith, c.well_formed.0.1)) in
    omega (arith, fits, read.counted)

pub lines-smaller-in-Some-read_number_line : goal.lines-smaller-in-Some-read_number_line
lines-smaller-in-Some-read_number_line g c =
    let size = ap length c.in-Some-read_number_line.ensures in rw c.in-Some.is (omega (arith, size))

pub lines-preserved-in-Some-read_number_line : goal.lines-preserved-in-Some-read_number_line
lines-preserved-in-Some-read_number_line g c =
    let script = c.args.script.now in
    let text = c.in-Some.text.now in
    let said = c.lines.lines.items in
    let m = c.in-Some-read_number_line in
    let read = subst (λ (rest : Option (Bor (List ℕ))). ReadSoFar script (option_copied rest) c.lines.number said)
    c.in-Some.is c.lines.invariant in
    let kept : c.push.new.self.items ≡ said ++ c.line_of_number.result ∷ [] = search rules in
    rw kept (read_more script text c.lines.number said read (number_start m.form ++ decimal m.argument)
    c.line_of_number.result (Some m.behind.now) m.ensures c.line_of_number.ensures)

pub lines-smaller-then-is_passed_over : goal.lines-smaller-then-is_passed_over
lines-smaller-then-is_passed_over g c =
    let size = ap length c.split_at_first.ensures in rw c.in-Some.is (omega (arith, size))

pub lines-preserved-then-is_passed_over : goal.lines-preserved-then-is_passed_over
lines-preserved-then-is_passed_over g c =
    let script = c.args.script.now in
    let text = c.in-Some.text.now in
    let said = c.lines.lines.items in
    let read = subst (λ (rest : Option (Bor (List ℕ))). ReadSoFar script (option_copied rest) c.lines.number said)
    c.in-Some.is c.lines.invariant in
    read_over script text c.lines.number said read c.split_at_first.result.0.now
    (option_copied c.split_at_first.result.1) c.split_at_first.ensures (c.if-is_passed_over.ensures.0 refl)

pub lines-smaller : goal.lines-smaller
lines-smaller g c = let size = ap length c.split_at_first.ensures in rw c.in-Some.is (omega (arith, size))

pub lines-preserved : goal.lines-preserved
lines-preserved g c =
    let script = c.args.script.now in
    let text = c.in-Some.text.now in
    let said = c.lines.lines.items in
    let read = subst (λ (rest : Option (Bor (List ℕ))). ReadSoFar script (option_copied rest) c.lines.number said)
    c.in-Some.is c.lines.invariant in
    let kept : c.push-in-Ok.new.self.items ≡ said ++ c.in-Ok.said ∷ [] = search rules in
    rw kept (read_more script text c.lines.number said read c.split_at_first.result.0.now c.in-Ok.said
    (option_copied c.split_at_first.result.1) c.split_at_first.ensures c.in-Ok.ensures)

pub returns-clause-good : goal.returns-clause-good
returns-clause-good g c =
    let read = subst (λ (rest : Option (Bor (List ℕ))).
    ReadSoFar c.args.script.now (option_copied rest) c.lines.number c.lines.lines.items) c.in_default.is c.lines.invariant in
    (read_all c.args.script.now c.lines.number c.lines.lines.items read).0

pub returns-clause-say : goal.returns-clause-say
returns-clause-say g c =
    let read = subst (λ (rest : Option (Bor (List ℕ))).
    ReadSoFar c.args.script.now (option_copied rest) c.lines.number c.lines.lines.items) c.in_default.is c.lines.invariant in
    (read_all c.args.script.now c.lines.number c.lines.lines.items read).1
