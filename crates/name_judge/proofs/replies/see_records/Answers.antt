use Rattle.std.proofs.Common.{◌++◌, List, sym, ◌∙◌, ap, subst, append_assoc}
use Rattle.std.specs.Prelude.{flat_map}
use Rattle.std.proofs.lemmas.List.{append-nil}
use Rattle.fuse_replies.specs.Record.{EntryRecordContent, entry_record_content}
use Rattle.fuse_replies.specs.Records.{entry_records_in}
use Rattle.name_sessions.specs.NameActs.{NameAct}
use Rattle.name_sessions.specs.ReplyNames.{record_acts}
use Rattle.name_judge.specs.Seen.{AreRight}
use Rattle.name_judge.proofs.ReplyLaws.{both_on}
use Rattle.name_judge.proofs.replies.see_records.Goals as goal

pub records-preserved : goal.records-preserved
records-preserved g c = λ s are.
    let so_far = c.records.invariant s are in
    let r = entry_record_content c.in-Some.record in
    let now = record_acts c.args.parent r in
    let steps = rw c.in-Some.is at c.next.ensures.steps in (
      so_far.0 ++ now,
      append_assoc so_far.0 now (flat_map (record_acts c.args.parent) (entry_records_in c.next.new.self))
          ∙ ap (λ (rs : List EntryRecordContent). so_far.0 ++ flat_map (record_acts c.args.parent) rs) (sym steps)
          ∙ so_far.1,
      both_on s c.see_record.new.tables so_far.0 now (c.in_ok-see_record.ensures (s ++ so_far.0) so_far.2),
    )

pub returns : goal.returns
returns g c = λ s are.
    let so_far = c.records.invariant s are in
    let steps = rw c.in_default.is at c.next.ensures.steps in
    subst (λ (acts : List NameAct). AreRight (s ++ acts) c.records.tables)
    (sym (append-nil so_far.0)
    ∙ ap (λ (rs : List EntryRecordContent). so_far.0 ++ flat_map (record_acts c.args.parent) rs) (sym steps.0)
    ∙ so_far.1) so_far.2
