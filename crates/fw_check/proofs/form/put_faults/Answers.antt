use Rattle.std.proofs.Common.{◌≡◌, ◌++◌, min, ℕ, List, length, ap, arith, sym, take, ◌∙◌}
use Rattle.fw_check.specs.Forms.{fault_lines}
use Rattle.fw_check.proofs.FaultLines.{next_line, shorter_lines}
use Rattle.fw_check.proofs.Parts.{after_two}
use Rattle.fw_check.proofs.form.put_faults.Goals as goal

pub loop-place-preserved : goal.loop-place-preserved
loop-place-preserved g c =
    let acts = c.args.acts.now in
    let verdicts = c.args.verdicts.now in
    let place = c.loop-place.place in
    let more = next_line c.args.form c.args.number c.args.past.now.items acts verdicts place _ _ (omega arith) (omega arith) in
    after_two c.args.text.now.items c.loop-place.text.items c.put_verdict.new.text.items
    (fault_lines c.args.form c.args.number c.args.past.now.items (take place acts) (take place verdicts)) _ c.loop-place.invariant
    c.in_ok-put_verdict.ensures
    ∙ ap (λ (l : List ℕ). c.args.text.now.items ++ l) (sym more)

pub returns : goal.returns
returns g c =
    let acts = c.args.acts.now in
    let verdicts = c.args.verdicts.now in
    let all : c.loop-place.place ≡ min (length acts) (length verdicts) = omega arith in
    c.loop-place.invariant
    ∙ ap (λ (l : List ℕ). c.args.text.now.items ++ l)
    (shorter_lines c.args.form c.args.number c.args.past.now.items acts verdicts c.loop-place.place all)
