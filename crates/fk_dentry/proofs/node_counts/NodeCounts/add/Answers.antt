use Rattle.std.proofs.Common.{◌≡◌, ◌+◌, None, sym, ap, ◌∙◌, arith}
use Rattle.std.specs.Option.{unwrap_or, option_copied_mut}
use Rattle.fuse_spec.specs.Values.Maps.{get}
use Rattle.fk_dentry.specs.Counts.{mentions_of}
use Rattle.fk_dentry.proofs.Counts.{used-put, one_more, length-rewritten, length-added, total-put, few_counts}
use Rattle.fk_dentry.proofs.node_counts.NodeCounts.add.Goals as goal

pub overflow_add-count : goal.overflow_add-count
overflow_add-count g c =
    let all = total-put c.args.self.now.counts.entries c.args.id 0 c.get_mut.ensures.sorted in
    let held = ap (λ o. unwrap_or o 0) c.in-Some.ensures.value in
    omega (arith, all, held, c.requires)

pub invariant_of-self : goal.invariant_of-self
invariant_of-self g c =
    let counts = c.args.self.now.counts.entries in
    let same = length-rewritten counts c.args.id _ (c.in-Some.count.now + 1) c.get_mut.ensures.sorted
    (sym c.in-Some.ensures.value) in
    record {
      used = used-put counts c.args.id (c.in-Some.count.now + 1) (omega arith) c.args.self.now.used;
      fits = omega (arith, same, c.args.self.now.fits);
    }

pub returns-in-Some-clause-count : goal.returns-in-Some-clause-count
returns-in-Some-clause-count g c = one_more c.args.self.now.counts.entries c.args.id c.in-Some.count.now
    (ap (λ o. unwrap_or o 0) (sym c.in-Some.ensures.value))

pub returns-in-Some-clause-total : goal.returns-in-Some-clause-total
returns-in-Some-clause-total g c =
    let all = total-put c.args.self.now.counts.entries c.args.id (c.in-Some.count.now + 1) c.get_mut.ensures.sorted in
    let held = ap (λ o. unwrap_or o 0) c.in-Some.ensures.value in
    omega (arith, all, held)

pub put-requires-clause-room : goal.put-requires-clause-room
put-requires-clause-room g c =
    let few = few_counts c.args.self.now.counts.entries c.get_mut.ensures.sorted c.args.self.now.used in
    omega (arith, few, c.requires, c.args.self.now.fits)

pub invariant_of-self-2 : goal.invariant_of-self-2
invariant_of-self-2 g c =
    let counts = c.args.self.now.counts.entries in
    let none : get counts c.args.id ≡ None = sym c.get_mut.ensures.value ∙ ap option_copied_mut c.in_default.is in
    let more = length-added counts c.args.id 1 c.get_mut.ensures.sorted none in
    rw c.put.ensures.entries (record {
      used = used-put counts c.args.id 1 (omega arith) c.args.self.now.used;
      fits = omega (arith, more, c.args.self.now.fits, c.put.ensures.room);
    })

pub returns-clause-count : goal.returns-clause-count
returns-clause-count g c =
    let counts = c.args.self.now.counts.entries in
    let none : get counts c.args.id ≡ None = sym c.get_mut.ensures.value ∙ ap option_copied_mut c.in_default.is in
    λ q. ap (λ es. mentions_of es q) c.put.ensures.entries ∙ one_more counts c.args.id 0 (ap (λ o. unwrap_or o 0) none) q

pub returns-clause-total : goal.returns-clause-total
returns-clause-total g c =
    let counts = c.args.self.now.counts.entries in
    let none : get counts c.args.id ≡ None = sym c.get_mut.ensures.value ∙ ap option_copied_mut c.in_default.is in
    let all = total-put counts c.args.id 1 c.get_mut.ensures.sorted in
    let zero = ap (λ o. unwrap_or o 0) none in
    rw c.put.ensures.entries (omega (arith, all, zero))
