use Rattle.std.proofs.Common.{◌++◌, List, ap, sym, subst, ◌∙◌}
use Rattle.fuse_sessions.specs.declared.act.Act.{Act}
use Rattle.fuse_sessions.specs.Frames.{AreActs}
use Rattle.name_sessions.specs.NameFrames.{AreNamesAfter}
use Rattle.name_judge.proofs.Results.{if_ok}
use Rattle.fw_check.specs.Past.{traces_of}
use Rattle.fw_check.specs.Standing.{Stands}
use Rattle.fw_check.proofs.seen.see_transfer.Goals as goal

pub returns-clause-seen : goal.returns-clause-seen
returns-clause-seen g c = if_ok _ _ c.see_names.result (λ is_missing named j counts kept.
    let t = c.args.transfer in
    let known = c.see_as.new.judge.known in
    let acts = c.see_as.new.acts.items in
    let passed = c.as_slice-2.result.now in
    let nodes = c.note_acts.new.standing.nodes.entries in
    let files = c.note_acts.new.standing.files.entries in
    let seen = c.in_ok-see_as.ensures.judged kept.start j.transfers j.acts kept.seen in
    let are = subst (λ k. AreActs k j.acts t acts known) (sym kept.known) seen.are in
    let noted = c.in_ok-note_acts.ensures j.acts kept.stands in
    let stands = subst (λ (l : List Act). Stands (j.acts ++ l) nodes files) c.as_slice.ensures.value noted.0 in
    let (after, removes, of_names) = named j.known known j.names j.acts
    (c.agreed-agreed.ensures ∙ ap (λ k. k.agreed) (sym kept.known))
    (c.unjudged-unjudged.ensures ∙ ap (λ k. k.unjudged) (sym kept.known)) kept.named
    (subst (λ (l : List Act). AreActs j.known j.acts t l known) (sym c.as_slice-2.ensures.value) are)
    (subst (λ (l : List Act). Stands (j.acts ++ l) nodes files) (sym c.as_slice-2.ensures.value) stands) in
    record {
      start = kept.start;
      names = after;
      are = are;
      each = seen.each;
      faults = seen.faults;
      removes = subst (λ (l : List Act). AreNamesAfter j.known j.names j.acts t l after is_missing)
          c.as_slice-2.ensures.value removes;
      seen = seen.seen;
      named = of_names;
      stands = stands;
      exchanges = kept.exchanges;
      traced = noted.1 ∙ ap (traces_of c.args.number j.acts) c.as_slice.ensures.value;
    }) c.see_names.ensures
