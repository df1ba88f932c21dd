use Rattle.std.proofs.Common.{ℕ, [], refl, sym, subst, ap, ◌∙◌}
use Rattle.fk_wire.specs.Requests.{RequestMessage}
use Rattle.fs_serve.specs.Sending.{SendsError}
use Rattle.fs_serve.specs.Serving.{untaken, uninterrupted, is_interrupt, out_of_memory}
use Rattle.fs_serve.proofs.serving.send_untaken.Goals as goal

pub returns-then-is_interrupt : goal.returns-then-is_interrupt
returns-then-is_interrupt g c =
    let can = c.requires.can in
    let same = c.in-Ok.ensures.only can.says.message can.says.spells in
    let is = sym (ap (λ (m : RequestMessage). is_interrupt m.content) same) ∙ sym c.is_interrupt.ensures ∙ c.if-is_interrupt.true in
    ([], g.met.D.Device.stays c.args.device.now, uninterrupted can c.requires.wants is, refl)

pub returns : goal.returns
returns g c =
    let can = c.requires.can in
    let (log, logs, sends, ends) = c.send_error.ensures in
    let same = c.in-Ok.ensures.only can.says.message can.says.spells in
    let not = sym (ap (λ (m : RequestMessage). is_interrupt m.content) same) ∙ sym c.is_interrupt.ensures ∙ c.if-is_interrupt.false in
    let under = ap (λ (m : RequestMessage). m.unique) same ∙ can.says.unique in
    (log, logs, untaken can c.requires.wants (c.requires.other can.request can.says) not log (subst (λ (u : ℕ). SendsError u out_of_memory log) under sends), ends)
