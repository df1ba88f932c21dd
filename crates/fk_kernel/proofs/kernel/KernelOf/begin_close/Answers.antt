use Rattle.std.proofs.Common.{◌≡◌, ◌≤◌, ◌^◌, None, ap, sym, ◌∙◌}
use Rattle.std.specs.List.{list_any}
use Rattle.std.specs.Option.{option_copied}
use Rattle.fuse_spec.specs.Kernel.Kernel.{is_using}
use Rattle.fuse_spec.specs.Kernel.Refusals.{or_no_memory}
use Rattle.fuse_spec.specs.Values.Maps.{Map, get, values}
use Rattle.fuse_spec.specs.Calls.Calls as call
use Rattle.fuse_spec.specs.Calls.Vfs.{CallState}
use Rattle.fuse_spec.specs.declared.Opened.{Opened}
use Rattle.fk_kernel.specs.Refused.{begun_refusal}
use Rattle.fk_kernel.proofs.Beginnings.{if_ok, if_both_ok, refused_alike}
use Rattle.fk_kernel.proofs.Closes.{none_unrefused, closed_none}
use Rattle.fk_kernel.proofs.kernel.KernelOf.begin_close.Given as given
use Rattle.fk_kernel.proofs.kernel.KernelOf.begin_close.Goals.{In_default}
use Rattle.fk_kernel.proofs.kernel.KernelOf.begin_close.Goals as goal

-- no file is open under the number
not_open : (g : given.Over) (c : In_default g) → get c.args.self.now.vfs.opens c.args.open_call ≡ None
not_open g c = rw (← c.self.view_is) (sym c.get.ensures ∙ ap option_copied c.in_default.is)

unrefused : (g : given.Over) (c : In_default g) → begun_refusal c.args.self.now (call.close c.args.open_call) ≡ None
unrefused g c =
    let k = c.args.self.now in
    let high : k.queues.next ≤ 2 ^ 62 = rw (← c.self.view_is) c.lemma_sound.ensures.sound.next.high in
    none_unrefused k c.args.open_call c.requires.not_aborted (not_open g c) c.requires.ready c.requires.few
    c.requires.number high

pub returns-in_default-clause-refusal : goal.returns-in_default-clause-refusal
returns-in_default-clause-refusal g c =
    let start = (goal.at.returns-in_default-clause-refusal g c).In_default in
    refused_alike c.begin_answered.result (ap or_no_memory (unrefused g start)) c.begin_answered.ensures.refusal

pub returns-in_default-clause-judged : goal.returns-in_default-clause-judged
returns-in_default-clause-judged g c = if_ok c.begin_answered.result
    (unrefused g (goal.at.returns-in_default-clause-judged g c).In_default)

pub returns-in_default-clause-begun : goal.returns-in_default-clause-begun
returns-in_default-clause-begun g c =
    let start = (goal.at.returns-in_default-clause-begun g c).In_default in
    if_both_ok c.begin_answered.result (closed_none c.args.self.now c.args.open_call c.requires.not_aborted
    (not_open g start) c.begin_answered.new.self) c.begin_answered.ensures.vfs c.begin_answered.ensures.same

pub close_in_use-requires-clause-used : goal.close_in_use-requires-clause-used
close_in_use-requires-clause-used g c =
    let use_is = ap (λ (calls : Map (CallState Opened)). list_any (is_using c.args.open_call)
    (values calls)) c.rows.ensures in
    rw (← c.self.view_is) (sym (c.is_in_use.ensures ∙ use_is) ∙ c.if-is_in_use.true)

pub close_idle-requires-clause-idle : goal.close_idle-requires-clause-idle
close_idle-requires-clause-idle g c =
    let use_is = ap (λ (calls : Map (CallState Opened)). list_any (is_using c.args.open_call)
    (values calls)) c.rows.ensures in
    rw (← c.self.view_is) (sym (c.is_in_use.ensures ∙ use_is) ∙ c.if-is_in_use.false)
