use Rattle.std.proofs.Common.{◌≡◌, ◌++◌, min, ℕ, List, length, ap, arith, sym, take, ◌∙◌}
use Rattle.fw_check.specs.FrameLines.{frame_faults}
use Rattle.fw_check.proofs.FrameLaws.{next_faults, shorter_faults}
use Rattle.fw_check.proofs.Parts.{after_two}
use Rattle.fw_check.proofs.frame_lines.put_frame_faults.Goals as goal

pub loop-place-preserved : goal.loop-place-preserved
loop-place-preserved g c =
    let acts = c.args.acts.now in
    let verdicts = c.args.verdicts.now in
    let place = c.loop-place.place in
    let more = next_faults c.args.number acts verdicts place _ _ (omega arith) (omega arith) in
    after_two c.args.text.now.items c.loop-place.text.items c.put_frame_verdict.new.text.items
    (frame_faults c.args.number (take place acts) (take place verdicts)) _ c.loop-place.invariant
    c.in_ok-put_frame_verdict.ensures
    ∙ ap (λ (l : List ℕ). c.args.text.now.items ++ l) (sym more)

pub returns : goal.returns
returns g c =
    let acts = c.args.acts.now in
    let verdicts = c.args.verdicts.now in
    let all : c.loop-place.place ≡ min (length acts) (length verdicts) = omega arith in
    c.loop-place.invariant
    ∙ ap (λ (l : List ℕ). c.args.text.now.items ++ l)
    (shorter_faults c.args.number acts verdicts c.loop-place.place all)
