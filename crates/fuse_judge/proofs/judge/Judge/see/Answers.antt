use Rattle.std.proofs.Common.{◌≡◌, ◌≤◌, ◌+◌, ◌-◌, ◌++◌, length, length-append, sym, subst, arith}
use Rattle.fuse_judge.specs.Seen.{HasRoom, HasSeen}
use Rattle.fuse_judge.proofs.VerdictLaws.{verdict_at}
use Rattle.fuse_judge.proofs.judge.Judge.see.Goals as goal

pub returns-clause-verdicts : goal.returns-clause-verdicts
returns-clause-verdicts g c = λ before seen.
    let right : HasSeen before _ = subst (HasSeen before) (sym c.self.view_is) seen in
    verdict_at before c.args.acts.now c.see.new.verdicts.items
    (c.see.ensures.verdicts before (c.make_room.ensures.kept before right))

pub invariant_of-self-2 : goal.invariant_of-self-2
invariant_of-self-2 g c =
    let few = c.self.invariant.0 in
    let more = length c.args.acts.now in
    let enough : more ≤ c.make_room.new.room = c.in_ok-make_room.ensures.enough in
    let all : c.make_room.new.room ≡ more + (c.make_room.new.room - more) = omega (arith, enough) in (
      (
        few.0 ++ c.args.acts.now,
        c.see.ensures.right few.0 (c.make_room.ensures.kept few.0 few.1),
        omega (arith, length-append few.0 c.args.acts.now, few.2),
      ),
      c.see.ensures.room (c.make_room.new.room - more)
          (subst (λ n. HasRoom n c.make_room.new.tables) all c.make_room.ensures.room),
    )
