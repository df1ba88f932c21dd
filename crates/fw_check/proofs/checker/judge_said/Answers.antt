use Rattle.std.proofs.Common.{◌++◌, List, Option, ap, refl, subst, sym, ◌∙◌}
use Rattle.fuse_sessions.specs.declared.act.Act.{Act}
use Rattle.fuse_sessions.specs.declared.fault.Fault.{Fault}
use Rattle.fw_check.specs.Asked.{asked_verdicts}
use Rattle.fw_check.specs.Counting.{CountsMore}
use Rattle.fw_check.specs.Past.{remembered}
use Rattle.fw_check.specs.Summary.{after_asked, exchanges_of, line_time}
use Rattle.fw_check.proofs.CountLaws.{counts_after}
use Rattle.fw_check.proofs.checker.judge_said.Goals as goal

pub returns-in_ok-put_removal-in-Some-clause-judged : goal.returns-in_ok-put_removal-in-Some-clause-judged
returns-in_ok-put_removal-in-Some-clause-judged g c j past kept is =
    let o = c.args.options in
    let transfer = c.in_ok-transfer.transfer in
    let acts = c.see_transfer.new.acts.items in
    let verdicts = c.keep_asked.new.verdicts.items in
    let so = c.in_ok-is_missing.ensures.seen j c.args.counts.now kept in
    let of_acts = subst (λ (l : List Act). CountsMore c.args.counts.now transfer l c.as_slice-2.result.now c.in-Some.more)
    c.as_slice.ensures.value c.in-Some.ensures in
    let more = subst (λ (l : List (Option Fault)). CountsMore c.args.counts.now transfer acts l c.in-Some.more)
    c.as_slice-2.ensures.value of_acts in (
      record {
        transfer = transfer;
        acts = acts;
        all = c.see_transfer.new.verdicts.items;
        names = so.names;
        is_missing = c.in_ok-is_missing.is_missing;
        is = c.in_ok-transfer.ensures;
        are = so.are;
        each = so.each;
        faults = so.faults;
        removes = so.removes;
        removal = c.in_ok-put_removal-in-Some.ensures;
        asked = c.keep_asked.ensures ∙ ap (asked_verdicts o.only) c.in_ok-put_missing.ensures;
        kept = λ text. record {
          start = so.start;
          seen = so.seen;
          named = so.named;
          stands = so.stands;
          known = refl;
          past = is ∙ ap (λ l. remembered (j.past ++ l)) so.traced;
          exchanges = ap (λ e. after_asked o.is_summary e transfer (line_time c.args.said)) so.exchanges
              ∙ ap (after_asked o.is_summary (exchanges_of c.see_transfer.new.seen.exchanges) transfer) (sym c.time_of.ensures)
              ∙ sym c.in_ok-note_exchange.ensures;
          counts = counts_after j transfer acts so.names verdicts c.see_transfer.new.seen.judge.known _ _ text c.args.counts.now
              c.in-Some.more kept.counts more;
        };
      },
      c.first_doer-doer.ensures kept.start j.transfers j.acts kept.seen,
    )
