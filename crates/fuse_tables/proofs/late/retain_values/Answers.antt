use Rattle.std.proofs.Common.{rules, arith}
use Rattle.std.proofs.lemmas.Fn.{filter_same}
use Rattle.fuse_tables.proofs.Retained.{retained, stays, none_left, kept_entries, kept_both, kept_fewer, kept_counted, kept_alone}
use Rattle.fuse_tables.proofs.late.retain_values.Goals as goal

pub returns-then-is_empty-clause-entries : goal.returns-then-is_empty-clause-entries
returns-then-is_empty-clause-entries g c = λ test tells.
    let kept = filter_same _ (stays test) _ (λ x b f' k. search (rules, tells)) _ _ c.retain.ensures.filtered in
    let none = none_left test c.args.late.now.entries (c.is_empty.ensures.0 c.if-is_empty.true) in
    kept_entries test c.requires.kept kept none

pub returns-then-is_empty-clause-kept : goal.returns-then-is_empty-clause-kept
returns-then-is_empty-clause-kept g c =
    let test = c.requires.steady.0 in
    let tells = c.requires.steady.1 in
    let kept = filter_same _ (stays test) _ (λ x b f' k. search (rules, tells)) _ _ c.retain.ensures.filtered in
    let none = none_left test c.args.late.now.entries (c.is_empty.ensures.0 c.if-is_empty.true) in
    kept_both test c.requires.kept kept none

pub returns-then-is_empty-clause-counted : goal.returns-then-is_empty-clause-counted
returns-then-is_empty-clause-counted g c =
    let test = c.requires.steady.0 in
    let tells = c.requires.steady.1 in
    let kept = filter_same _ (stays test) _ (λ x b f' k. search (rules, tells)) _ _ c.retain.ensures.filtered in
    let empty = c.is_empty.ensures.0 c.if-is_empty.true in
    let none = none_left test c.args.late.now.entries empty in
    let counted = kept_alone test c.requires.kept kept none empty in
    omega (arith, counted, c.len.ensures)

pub returns-then-is_empty-clause-fewer : goal.returns-then-is_empty-clause-fewer
returns-then-is_empty-clause-fewer g c =
    let test = c.requires.steady.0 in
    let tells = c.requires.steady.1 in
    let kept = filter_same _ (stays test) _ (λ x b f' k. search (rules, tells)) _ _ c.retain.ensures.filtered in
    let empty = c.is_empty.ensures.0 c.if-is_empty.true in
    let none = none_left test c.args.late.now.entries empty in
    let counted = kept_alone test c.requires.kept kept none empty in
    let fewer = kept_fewer test c.requires.kept kept none in
    omega (arith, counted, fewer, c.len.ensures)

pub returns-clause-entries : goal.returns-clause-entries
returns-clause-entries g c = λ test tells.
    let kept = filter_same _ (stays test) _ (λ x b f' k. search (rules, tells)) _ _ c.retain.ensures.filtered in
    let late = retained _ (λ e. test e.0) _ (λ k v b w f' call. search (rules, tells)) _ _
    c.retain-2.ensures.filtered in
    kept_entries test c.requires.kept kept late

pub returns-clause-kept : goal.returns-clause-kept
returns-clause-kept g c =
    let test = c.requires.steady.0 in
    let tells = c.requires.steady.1 in
    let kept = filter_same _ (stays test) _ (λ x b f' k. search (rules, tells)) _ _ c.retain.ensures.filtered in
    let late = retained _ (λ e. test e.0) _ (λ k v b w f' call. search (rules, tells)) _ _
    c.retain-2.ensures.filtered in
    kept_both test c.requires.kept kept late

pub returns-clause-counted : goal.returns-clause-counted
returns-clause-counted g c =
    let test = c.requires.steady.0 in
    let tells = c.requires.steady.1 in
    let kept = filter_same _ (stays test) _ (λ x b f' k. search (rules, tells)) _ _ c.retain.ensures.filtered in
    let late = retained _ (λ e. test e.0) _ (λ k v b w f' call. search (rules, tells)) _ _
    c.retain-2.ensures.filtered in
    let counted = kept_counted test c.requires.kept kept late c.retain-2.ensures.ordered in
    omega (arith, counted, c.len-2.ensures, c.len-3.ensures.len)

pub returns-clause-fewer : goal.returns-clause-fewer
returns-clause-fewer g c =
    let test = c.requires.steady.0 in
    let tells = c.requires.steady.1 in
    let kept = filter_same _ (stays test) _ (λ x b f' k. search (rules, tells)) _ _ c.retain.ensures.filtered in
    let late = retained _ (λ e. test e.0) _ (λ k v b w f' call. search (rules, tells)) _ _
    c.retain-2.ensures.filtered in
    let counted = kept_counted test c.requires.kept kept late c.retain-2.ensures.ordered in
    let fewer = kept_fewer test c.requires.kept kept late in
    omega (arith, counted, fewer, c.len-2.ensures, c.len-3.ensures.len)
