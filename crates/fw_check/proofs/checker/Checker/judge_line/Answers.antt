use Rattle.std.proofs.Common.{◌++◌, ap, sym, ◌∙◌}
use Rattle.fw_check.specs.Forms.{act_lines, leaving_text}
use Rattle.fw_check.specs.Past.{remembered}
use Rattle.fuse_text.proofs.Writes.{OnOk-map}
use Rattle.fw_check.proofs.checker.Checker.judge_line.Goals as goal

pub returns : goal.returns
returns g c = OnOk-map _ _ c.put_leaving.result (λ put j kept.
    let o = c.args.options in
    let number = c.args.number in
    let before = c.unjudged-before.result in
    let after = c.unjudged-after.result in
    let acts = c.judge_said.new.acts.items in
    let verdicts = c.judge_said.new.verdicts.items in
    let unchanged = c.judge_said.ensures.past ∙ kept.past in
    let later = c.in_ok-remember.ensures j.past unchanged ∙ ap (λ l. remembered (j.past ++ l)) c.as_slice-3.ensures.value in
    let (so, who) = c.in_ok-doer.ensures.judged j _ kept later in
    let t = so.transfer in
    let lines = c.in_ok-put_act_lines.ensures j.acts t j.past (c.count_of_node-count.ensures j.acts kept.stands) who unchanged in
    let lines_are = lines
    ∙ ap (λ old. old ++ act_lines o number j.past j.acts t c.as_slice.result.now c.as_slice-2.result.now) c.clear.ensures.items
    ∙ ap (λ l. act_lines o number j.past j.acts t l c.as_slice-2.result.now) c.as_slice.ensures.value
    ∙ ap (λ l. act_lines o number j.past j.acts t acts l) c.as_slice-2.ensures.value in (
      so,
      put ∙ ap (λ l. l ++ leaving_text o.form number before after) lines_are
          ∙ ap (λ b. act_lines o number j.past j.acts t acts verdicts ++ leaving_text o.form number b after)
          (c.unjudged-before.ensures ∙ ap (λ k. k.unjudged) (sym kept.known))
          ∙ ap (λ a. act_lines o number j.past j.acts t acts verdicts ++ leaving_text o.form number j.known.unjudged a) c.unjudged-after.ensures,
    ))
    c.put_leaving.ensures
