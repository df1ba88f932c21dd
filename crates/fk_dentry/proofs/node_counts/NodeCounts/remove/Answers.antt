use Rattle.std.proofs.Common.{◌≡◌, ◌+◌, ◌-◌, ◌≤◌, is_some, cond, nat_eq, sym, ap, subst, ◌∙◌, arith}
use Rattle.std.specs.Option.{unwrap_or}
use Rattle.fuse_spec.specs.Values.Maps.{remove}
use Rattle.fuse_spec.proofs.Tables.{get_put_here}
use Rattle.fk_dentry.specs.Counts.{mentions_of}
use Rattle.fk_dentry.proofs.Counts.{used-put, used-remove, one_less, none_left, put_same, length-rewritten, length-removed, total-put, total-remove}
use Rattle.fk_dentry.proofs.node_counts.NodeCounts.remove.Goals as goal

pub invariant_of-self-then-count-gt1 : goal.invariant_of-self-then-count-gt1
invariant_of-self-then-count-gt1 g c =
    let counts = c.args.self.now.counts.entries in
    let same = length-rewritten counts c.args.id _ (c.in-Some.count.now - 1) c.get_mut.ensures.sorted
    (sym c.in-Some.ensures.value) in
    record {
      used = used-put counts c.args.id (c.in-Some.count.now - 1) (omega (arith, c.if-count-gt1.true))
          c.args.self.now.used;
      fits = omega (arith, same, c.args.self.now.fits);
    }

pub returns-then-count-gt1-clause-count : goal.returns-then-count-gt1-clause-count
returns-then-count-gt1-clause-count g c = one_less c.args.self.now.counts.entries c.args.id c.in-Some.count.now
    (ap (λ o. unwrap_or o 0) (sym c.in-Some.ensures.value)) (omega (arith, c.if-count-gt1.true))

pub returns-then-count-gt1-clause-total : goal.returns-then-count-gt1-clause-total
returns-then-count-gt1-clause-total g c =
    let all = total-put c.args.self.now.counts.entries c.args.id (c.in-Some.count.now - 1) c.get_mut.ensures.sorted in
    let held = ap (λ o. unwrap_or o 0) c.in-Some.ensures.value in
    omega (arith, all, held, c.if-count-gt1.true)

pub invariant_of-self-2 : goal.invariant_of-self-2
invariant_of-self-2 g c =
    let counts = c.args.self.now.counts.entries in
    let left = c.remove-last.ensures.entries ∙ ap (λ es. remove es c.args.id)
    (put_same counts c.args.id _ c.get_mut.ensures.sorted (sym c.in-Some.ensures.value)) in
    let taken = ap is_some (c.remove-last.ensures.value ∙ get_put_here counts c.args.id c.in-Some.count.now) in
    let room = subst (λ b. cond b (c.args.self.now.counts.room + 1) c.args.self.now.counts.room
    ≤ c.remove-last.new.self.room) taken c.remove-last.ensures.room in
    let fewer = length-removed counts c.args.id c.get_mut.ensures.sorted in
    rw left (record {
      used = used-remove counts c.args.id (λ q ne. c.args.self.now.used q);
      fits = omega (arith, fewer, room, c.args.self.now.fits);
    })

pub returns-clause-count : goal.returns-clause-count
returns-clause-count g c =
    let counts = c.args.self.now.counts.entries in
    let held : mentions_of counts c.args.id ≡ c.in-Some.count.now =
    ap (λ o. unwrap_or o 0) (sym c.in-Some.ensures.value) in
    let left = c.remove-last.ensures.entries ∙ ap (λ es. remove es c.args.id)
    (put_same counts c.args.id _ c.get_mut.ensures.sorted (sym c.in-Some.ensures.value)) in
    λ q. ap (λ es. mentions_of es q + cond (nat_eq q c.args.id) 1 0) left ∙ none_left counts c.args.id
    (omega (arith, held, c.requires, c.if-count-gt1.false)) q

pub returns-clause-total : goal.returns-clause-total
returns-clause-total g c =
    let counts = c.args.self.now.counts.entries in
    let held : mentions_of counts c.args.id ≡ c.in-Some.count.now =
    ap (λ o. unwrap_or o 0) (sym c.in-Some.ensures.value) in
    let left = c.remove-last.ensures.entries ∙ ap (λ es. remove es c.args.id)
    (put_same counts c.args.id _ c.get_mut.ensures.sorted (sym c.in-Some.ensures.value)) in
    let all = total-remove counts c.args.id c.get_mut.ensures.sorted in
    rw left (omega (arith, all, held, c.requires, c.if-count-gt1.false))
