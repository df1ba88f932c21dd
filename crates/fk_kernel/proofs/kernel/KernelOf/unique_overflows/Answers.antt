use Rattle.std.proofs.Common.{◌≡◌, ℕ, true, false, true≢false, nat_eq, Option, Some, None, sym, ap, ◌∙◌, rules}
use Rattle.std.specs.Prelude.{is_some, ◌&&◌, not}
use Rattle.std.specs.List.{list_any}
use Rattle.fuse_spec.specs.Kernel.Kernel.{is_using}
use Rattle.fuse_spec.specs.Values.Maps.{Map, get, remove, values}
use Rattle.fuse_spec.specs.Calls.Vfs.{CallState, using}
use Rattle.fuse_spec.specs.declared.Opened.{Opened}
use Rattle.fk_kernel.proofs.Evicted.{any_gone, copied_is}
use Rattle.fk_kernel.proofs.CallStates.{uses_there, not_true, not_false}
use Rattle.fk_kernel.proofs.kernel.KernelOf.unique_overflows.Goals as goal

pub returns-in_default-clause-within : goal.returns-in_default-clause-within
returns-in_default-clause-within g c = λ past open_call operation at closed idle.
    let no : ◌≡◌ {A = Option ℕ} (Some open_call) None =
    sym (c.used_by.ensures.used (using open_call operation) at) ∙ c.in_default.is in
    cc

pub returns-then-is_none-clause-within : goal.returns-then-is_none-clause-within
returns-then-is_none-clause-within g c = λ past open_call operation at closed idle.
    let k = c.self.inside in
    let h = c.in-Some.open_call in
    let same : ◌≡◌ {A = Option ℕ} (Some open_call) (Some h) =
    sym (c.used_by.ensures.used (using open_call operation) at) ∙ c.in-Some.is in
    let one : open_call ≡ h = cc same in
    let none : is_some (get k.closing.entries h) ≡ false = search rules in
    let some : is_some (get k.closing.entries h) ≡ true = rw (← c.self.view_is, one) at closed in
    absurd (true≢false (sym some ∙ none))

pub returns-clause-past : goal.returns-clause-past
returns-clause-past g c = λ past.
    let k = c.self.inside in
    let h = c.in-Some.open_call in
    let told : c.is_in_other_use.result ≡ list_any (is_using h) (values (remove k.calls.entries c.args.call)) =
    c.is_in_other_use.ensures ∙ ap (λ (calls : Map (CallState Opened)). list_any
    (λ (e : ℕ × CallState Opened). not (nat_eq e.0 c.args.call) && is_using h e.1) calls) c.rows.ensures ∙ any_gone
    (is_using h) k.calls.entries c.args.call in
    let u = uses_there (get c.args.self.now.vfs.calls c.args.call) c.used_by.result h c.in-Some.is c.used_by.ensures.none c.used_by.ensures.used in
    let closed : is_some (get k.closing.entries h) ≡ true =
    ap is_some (sym c.get.ensures) ∙ copied_is c.get.result ∙ c.if-is_none.ensures in
    let idle : list_any (is_using h) (values (remove k.calls.entries c.args.call)) ≡ false =
    sym told ∙ not_true c.is_in_other_use.result past in
    record {
      open_call = h;
      operation = u.0;
      is = u.1;
      closed = rw (← c.self.view_is) closed;
      idle = rw (← c.self.view_is) idle;
      none_left = rw (← c.self.view_is) (sym c.numbers_left.ensures ∙ c.if-numbers_left-ne0.false);
    }

pub returns-clause-within : goal.returns-clause-within
returns-clause-within g c = λ past open_call operation at closed idle.
    let k = c.self.inside in
    let h = c.in-Some.open_call in
    let told : c.is_in_other_use.result ≡ list_any (is_using h) (values (remove k.calls.entries c.args.call)) =
    c.is_in_other_use.ensures ∙ ap (λ (calls : Map (CallState Opened)). list_any
    (λ (e : ℕ × CallState Opened). not (nat_eq e.0 c.args.call) && is_using h e.1) calls) c.rows.ensures ∙ any_gone
    (is_using h) k.calls.entries c.args.call in
    let same : ◌≡◌ {A = Option ℕ} (Some open_call) (Some h) =
    sym (c.used_by.ensures.used (using open_call operation) at) ∙ c.in-Some.is in
    let one : open_call ≡ h = cc same in
    let used : list_any (is_using h) (values (remove k.calls.entries c.args.call)) ≡ true =
    sym told ∙ not_false c.is_in_other_use.result past in
    let free : list_any (is_using h) (values (remove k.calls.entries c.args.call)) ≡ false =
    rw (← c.self.view_is, one) at idle in
    absurd (true≢false (sym used ∙ free))
