use Rattle.std.proofs.Common.{◌≡◌, ◌+◌, ◌++◌, List, [], ◌∷◌, Option, ap, length, length-append, refl, subst, sym, ◌∙◌}
use Rattle.fuse_sessions.specs.declared.fault.Fault.{Fault}
use Rattle.fuse_sessions.specs.Frames.{AreActs, nothing_known}
use Rattle.fw_judged.specs.Judged.{AreCounted, lines_in, seen_after}
use Rattle.fw_judged.proofs.lines.judge_next.Goals as goal

pub returns-in-Some-after : goal.returns-in-Some-after
returns-in-Some-after g c s has counted =
    let transfer = c.args.transfer in
    let known = c.see.new.self.known in
    let acts = c.see.new.acts.items in
    let verdicts = c.see.new.verdicts.items in
    let next = c.in-Some.next in
    let before = c.unjudged-before.result in
    let after = c.unjudged-after.result in
    let one_more : next ≡ length s.transfers + 1 = c.in-Some.ensures.1 ∙ ap (λ n. n + 1) has.count in
    let seen = c.in_ok-see.ensures.judged nothing_known s.transfers s.acts has.seen in
    let lines = c.in_ok-put_lines.ensures
    ∙ ap (λ old. old ++ lines_in c.args.form next transfer before after c.as_slice.result.now c.as_slice-2.result.now) c.clear.ensures.items
    ∙ ap (λ l. lines_in c.args.form next transfer before after l c.as_slice-2.result.now) c.as_slice.ensures.value
    ∙ ap (λ l. lines_in c.args.form next transfer before after acts l) c.as_slice-2.ensures.value
    ∙ ap (λ n. lines_in c.args.form n transfer before after acts verdicts) one_more
    ∙ ap (λ b. lines_in c.args.form (length s.transfers + 1) transfer b after acts verdicts)
    (c.unjudged-before.ensures ∙ ap (λ k. k.unjudged) (sym has.known))
    ∙ ap (λ a. lines_in c.args.form (length s.transfers + 1) transfer s.known.unjudged a acts verdicts) c.unjudged-after.ensures in (
      seen_after s transfer acts verdicts known,
      record {
        said = transfer;
        acts = acts;
        verdicts = verdicts;
        known = known;
        is = refl;
        are = subst (λ k. AreActs k s.acts transfer acts known) (sym has.known) seen.are;
        each = seen.each;
        faults = seen.faults;
        after = refl;
        lines = lines;
      },
      record {
        seen = seen.seen;
        known = refl;
        count = one_more ∙ sym (length-append s.transfers (transfer ∷ []));
      },
      subst (λ (l : List (Option Fault)). AreCounted (s.verdicts ++ l) c.in-Some-after.more) c.as_slice-3.ensures.value
          (c.in-Some-after.ensures s.verdicts counted),
    )
