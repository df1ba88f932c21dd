use Rattle.std.proofs.Common.{◌≡◌, ◌+◌, ◌-◌, length, subst, ap, ◌∙◌, arith}
use Rattle.std.proofs.lemmas.List.{length_push, take_more}
use Rattle.fuse_sessions.specs.declared.act.Act.TheVariants.{Faulty}
use Rattle.fuse_sessions.specs.declared.fault.Fault.TheVariants.{MalformedRequest}
use Rattle.fuse_judge.specs.Seen.{HasRoom}
use Rattle.fuse_judge.proofs.SeenSoFar.{seen-more}
use Rattle.fuse_judge.proofs.tables.Tables.see.Goals as goal

pub loop-act-preserved : goal.loop-act-preserved
loop-act-preserved g c =
    let seen = c.loop-act.invariant in
    let one_more = take_more c.args.acts.now c.loop-act.act-index (Faulty MalformedRequest) c.loop-act-test.true in
    let left : length c.args.acts.now - c.loop-act.act-index ≡ length c.args.acts.now - (c.loop-act.act-index + 1) + 1
    = omega (arith, c.loop-act-test.true) in (
      rw (one_more, c.push_reserved.ensures.items)
          (seen-more _ _ _ _ _ _ _ seen.0 c.see_one-verdict.ensures.verdict c.see_one-verdict.ensures.right),
      rw (c.push_reserved.ensures.items) (length_push _ _ ∙ ap (λ n. n + 1) seen.1),
      rw c.push_reserved.ensures.capacity seen.2,
      c.see_one-verdict.ensures.room (length c.args.acts.now - (c.loop-act.act-index + 1))
          (subst (λ n. HasRoom n c.loop-act.self) left seen.3),
      λ more has.
          let left_with : length c.args.acts.now - c.loop-act.act-index + more
          ≡ length c.args.acts.now - (c.loop-act.act-index + 1) + more + 1 = omega (arith, c.loop-act-test.true) in
          c.see_one-verdict.ensures.room (length c.args.acts.now - (c.loop-act.act-index + 1) + more)
          (subst (λ n. HasRoom n c.loop-act.self) left_with (seen.4 more has)),
    )

pub returns-clause-room : goal.returns-clause-room
returns-clause-room g c = λ more has.
    let none : length c.args.acts.now - c.loop-act.act-index + more ≡ more = omega (arith, c.loop-act-test.false) in
    subst (λ n. HasRoom n c.loop-act.self) none (c.loop-act.invariant.4 more has)
