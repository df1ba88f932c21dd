use Rattle.std.proofs.Common.{◌≡◌, ℕ, List, Some, ap, sym, subst, ◌∙◌}
use Rattle.std.specs.List.{All}
use Rattle.std.specs.Map.{lookup}
use Rattle.fk_dentry.specs.Keys.{is_of}
use Rattle.fk_dentry.proofs.FirstBound.{first_of, is_any_bound, is_bound, none_bound, passed, rest_of}
use Rattle.fk_dentry.proofs.KeyedRows.{Entries, all_under}
use Rattle.fk_dentry.proofs.rows.first_bound.Goals as goal

pub loop-key-init : goal.loop-key-init
loop-key-init g c =
    let rows = c.args.rows.now.entries in
    let gives = c.into_iter-key-iterator.ensures.into_iter_gives in (
      ap is_any_bound (sym gives.0),
      subst (λ (es : Entries). All (λ e. lookup (is_of e.0) rows ≡ Some e.1) es) (sym gives.0) (all_under rows gives.6),
    )

pub returns-then-is_some-clause-some : goal.returns-then-is_some-clause-some
returns-then-is_some-clause-some g c =
    let rows = c.args.rows.now.entries in
    let key = c.in-Some.key.now in
    let slot = c.in-Some.slot.now in
    let all = subst (λ (es : Entries). All (λ e. lookup (is_of e.0) rows ≡ Some e.1) es)
    c.in-Some.ensures.steps c.loop-key.invariant.1 in
    let at = first_of (λ e. lookup (is_of e.0) rows ≡ Some e.1) (key, slot) c.next.new.self all in
    is_bound rows (c.directory.result, c.name.result.now) slot
    (ap (λ (d : ℕ). lookup (is_of (d, c.name.result.now)) rows) c.directory.ensures
    ∙ ap (λ (name : List ℕ). lookup (is_of (key.0, name)) rows) c.name.ensures ∙ at)
    (sym c.is_some.ensures ∙ c.if-is_some.true)

pub loop-key-preserved : goal.loop-key-preserved
loop-key-preserved g c =
    let rows = c.args.rows.now.entries in
    let key = c.in-Some.key.now in
    let slot = c.in-Some.slot.now in
    let all = subst (λ (es : Entries). All (λ e. lookup (is_of e.0) rows ≡ Some e.1) es)
    c.in-Some.ensures.steps c.loop-key.invariant.1 in (
      c.loop-key.invariant.0 ∙ ap is_any_bound c.in-Some.ensures.steps
          ∙ passed slot (is_any_bound c.next.new.self) (sym c.is_some.ensures ∙ c.if-is_some.false),
      rest_of (λ e. lookup (is_of e.0) rows ≡ Some e.1) (key, slot) c.next.new.self all,
    )

pub returns-clause-none : goal.returns-clause-none
returns-clause-none g c = none_bound c.args.rows.now.entries
    (c.loop-key.invariant.0 ∙ ap is_any_bound c.in-None.ensures.steps.0)
