use Rattle.std.specs.Map.{lookup}
use Rattle.std.specs.Option.{option_copied_mut}
use Rattle.std.proofs.Common.{sym, ◌∙◌, ap, refl, arith, is_some, cond, nat_eq, Some, None}
use Rattle.fs_handles.proofs.Handles.{less-none, less-some, less-last}
use Rattle.fs_handles.proofs.Uses.{recounted, ended, without_twice}
use Rattle.fs_handles.proofs.handle_table.HandleTable.take_back.Goals as goal

pub returns-in_default-clause-table : goal.returns-in_default-clause-table
returns-in_default-clause-table g c =
    rw (← c.self.view_is, c.get_mut.follows.holds-at-none)
    (less-none c.self.inside.opens.entries c.self.inside.next c.args.fh
    (sym c.get_mut.ensures.value ∙ ap option_copied_mut c.in_default.is))

pub invariant_of-self-then-open_file-gt1 : goal.invariant_of-self-then-open_file-gt1
invariant_of-self-then-open_file-gt1 g c =
    let is = sym c.in-Some.ensures.value in
    let wrote = c.get_mut.follows.holds _ in
    recounted _ c.args.fh _ _ c.self.invariant is refl wrote.0 (wrote.3 (ap is_some is)).0 wrote.4 wrote.2

pub returns-then-open_file-gt1-clause-table : goal.returns-then-open_file-gt1-clause-table
returns-then-open_file-gt1-clause-table g c =
    let is = sym c.in-Some.ensures.value in
    let wrote = c.get_mut.follows.holds _ in
    rw (← c.self.view_is) (less-some _ c.self.inside.opens.entries c.self.inside.next c.args.fh _ is c.if-open_file-gt1.true (wrote.3 (ap is_some is)).0)

-- what was read stays, and then the whole handle goes
pub invariant_of-self-2 : goal.invariant_of-self-2
invariant_of-self-2 g c =
    let is = sym c.in-Some.ensures.value in
    let removed = c.swap_remove-last.ensures in
    let same = c.get_mut.follows.holds c.in-Some.open_file.now in
    let at = (same.3 (ap is_some is)) in
    let table = recounted _ c.args.fh _ c.in-Some.open_file.now c.self.invariant is refl same.0 at.0 same.4 same.2 in
    let len = removed.len in
    ended c.swap_remove-last.new.self.entries _ c.args.fh _ table at.1 removed.entries removed.updates.0 c.take.ensures.less removed.unique (omega (arith, len))

pub returns-clause-table : goal.returns-clause-table
returns-clause-table g c =
    let is = sym c.in-Some.ensures.value in
    let at = ((c.get_mut.follows.holds c.in-Some.open_file.now).3 (ap is_some is)).0 in
    let removed = c.swap_remove-last.ensures.updates.0 in
    rw (← c.self.view_is) (less-last _ c.self.inside.opens.entries c.self.inside.next c.args.fh _ is c.if-open_file-gt1.false
    (λ q. removed q ∙ ap (cond (nat_eq c.args.fh q) None) (at q) ∙ without_twice (nat_eq c.args.fh q)
    (Some c.in-Some.open_file.now) (lookup (nat_eq q) c.self.inside.opens.entries)))
